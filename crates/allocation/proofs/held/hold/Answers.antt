use Rattle.std.proofs.Common.{◌≡◌, rules, ap, ◌∙◌, arith}
use borrow.Author.Tests.{tests}
use Rattle.std.proofs.lemmas.Iterator.{YieldsList-from_slice, YieldsList-from_map}
use Rattle.std.proofs.lemmas.Iterator.Consumers.{YieldsList-from_filter, YieldsList-at}
use Rattle.std.specs.Prelude.{IsOk}
use Rattle.allocation.specs.Holdings.{takes_part, whole, held}
use Rattle.allocation.proofs.Eligible.{held_few}
use Rattle.allocation.proofs.Extending.{takes_all}
use Rattle.allocation.proofs.held.hold.Goals as goal

taken : (c : goal.After-extend) → IsOk c.extend.result × (c.extend.new.self.items ≡ held c.args.side c.args.price c.as_slice.result.now)
taken c =
    takes_all c.extend.result _ c.new-held.result.items c.extend.new.self.items c.new-held.ensures
    (omega (arith, held_few c.args.side c.args.price c.as_slice.result.now, c.as_slice.ensures.few))
    (YieldsList-from_map _ whole
    (YieldsList-at c.map.ensures.source (YieldsList-from_filter _ (takes_part c.args.side c.args.price) (YieldsList-at c.filter.ensures.source (YieldsList-from_slice c.as_slice.result.now (cc))) c.filter.ensures.closure (λ x b q k. search (rules, tests))))
    c.map.ensures.closure (λ x r q k. search rules))
    c.extend.ensures.ran c.extend.ensures.full c.extend.ensures.one_more

pub unwrap-requires : goal.unwrap-requires
unwrap-requires c = (taken c).0

pub returns : goal.returns
returns c = (taken c.before).1 ∙ ap (held c.args.side c.args.price) c.as_slice.ensures.value
