use Rattle.std.proofs.Common.{◌≡◌, ◌≤◌, nat_lt, slice_index, ap, subst, ◌∙◌, rules, arith}
use Rattle.std.proofs.lemmas.Bool.Decides.{nat_tests}
use Rattle.grid.specs.Listing.{listed}
use Rattle.grid.specs.Lists.{first_from}
use Rattle.grid.specs.Rising.{passed, from_above}
use Rattle.grid.proofs.Parting.{cut, first_at, first_here}
use Rattle.grid.proofs.listed.made.ListedPriceSet.at_or_above.Goals as goal

pub returns-then-n-prices : goal.returns-then-n-prices
returns-then-n-prices c =
    let n = c.args.n in
    let ps = listed c.args.self.now in
    let p = passed ps c.args.self.now.sound in
    let under : n ≤ slice_index ps 0 = subst (λ xs. n ≤ slice_index xs 0) c.prices-prices.ensures c.if-n-prices.true in
    let here : slice_index c.prices-prices.result.now 0 ≡ first_from n ps = ap (λ xs. slice_index xs 0) c.prices-prices.ensures ∙ first_here n ps p.some under in
    rw here (from_above 0 n ps p.up)

pub returns : goal.returns
returns c =
    let n = c.args.n in
    let ps = listed c.args.self.now in
    let up = (passed ps c.args.self.now.sound).up in
    let k = c.partition_point-below.result in
    let point = cut ps up (λ p. nat_lt p n) (λ p q order h. grind (arith, nat_tests)) _ k c.prices-prices.ensures c.partition_point-below.ensures.partitioned (λ a r f' h. search rules) in
    let at_k : c.unwrap_or.result ≡ slice_index ps k = search rules in
    let first : c.unwrap_or.result ≡ first_from n ps = at_k ∙ first_at n ps k point in
    rw first (from_above 0 n ps up)
