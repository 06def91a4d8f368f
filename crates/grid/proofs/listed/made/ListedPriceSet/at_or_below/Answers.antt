use Rattle.std.proofs.Common.{◌≡◌, ◌+◌, ◌<◌, subst, nat_le, length, slice_index, sym, ap, ◌∙◌, inl, inr, rules, arith}
use Rattle.std.proofs.lemmas.Bool.{cases_lt}
use Rattle.std.proofs.lemmas.Bool.Decides.{nat_tests}
use Rattle.grid.specs.Listing.{listed}
use Rattle.grid.specs.Lists.{last_to}
use Rattle.grid.specs.Rising.{passed, to_below}
use Rattle.grid.proofs.Parting.{cut, last_before, last_at, none_under}
use Rattle.grid.proofs.listed.made.ListedPriceSet.at_or_below.Goals as goal

pub returns-then-n-prices : goal.returns-then-n-prices
returns-then-n-prices c =
    let n = c.args.n in
    let ps = listed c.args.self.now in
    let p = passed ps c.args.self.now.sound in
    let under : n < slice_index ps 0 = subst (λ xs. n < slice_index xs 0) c.prices-prices.ensures c.if-n-prices.true in
    let found = to_below 0 n ps p.up in
    rw (sym (none_under 0 n ps p.some under)) (record { held = found.held; below = found.below (omega arith); greatest = found.greatest })

pub returns-in-Some : goal.returns-in-Some
returns-in-Some c =
    let n = c.args.n in
    let ps = listed c.args.self.now in
    let up = (passed ps c.args.self.now.sound).up in
    let point = cut ps up (λ p. nat_le p n) (λ p q order h. grind (arith, nat_tests)) _ _ c.prices-prices.ensures c.partition_point.ensures.partitioned (λ a r f' h. search rules) in
    let next : c.partition_point.result ≡ c.in-Some.last + 1 = omega (arith, c.in-Some.ensures.0, c.in-Some.ensures.1) in
    let last : slice_index c.prices-prices.result.now c.in-Some.last ≡ last_to 0 n ps =
    ap (λ xs. slice_index xs c.in-Some.last) c.prices-prices.ensures
    ∙ sym (last_at 0 n ps _ _ next (omega (arith, next, c.partition_point.ensures.bound, ap length c.prices-prices.ensures)) point) in
    let found = to_below 0 n ps up in
    rw last (record { held = found.held; below = found.below (omega arith); greatest = found.greatest })

pub returns-in-None : goal.returns-in-None
returns-in-None c =
    let n = c.args.n in
    let ps = listed c.args.self.now in
    let up = (passed ps c.args.self.now.sound).up in
    let point = cut ps up (λ p. nat_le p n) (λ p q order h. grind (arith, nat_tests)) _ _ c.prices-prices.ensures c.partition_point.ensures.partitioned (λ a r f' h. search rules) in
    let no_price : c.partition_point.result ≡ 0 = elim (cases_lt 0 c.partition_point.result) [ inl some ↦ absurd (c.in-None.ensures some) | inr none ↦ omega arith ] in
    let found = to_below 0 n ps up in
    rw (sym (last_before 0 n ps _ no_price point)) (record { held = found.held; below = found.below (omega arith); greatest = found.greatest })
