use Rattle.std.proofs.Common.{◌≡◌, ℕ, ◌+◌, ◌^◌, ◌≤◌, Bool, ap, ◌∙◌, arith, rules}
use Rattle.grid.proofs.Nearest.{above_is}
use Rattle.grid.specs.Prices.{least_from, AtOrAbove, WithinRange}
use Rattle.auction.proofs.search.least_above.Goals as goal

-- what a set answers of the number above a cut
above_cut : (opens : ℕ → Bool) (n r m : ℕ) → WithinRange opens → AtOrAbove opens n r → n ≡ m → r ≡ least_from opens m
above_cut opens n r m ranged above e = above_is opens ranged n r above ∙ ap (least_from opens) e

pub returns-in-Some : goal.returns-in-Some
returns-in-Some g c =
    let ranged = g.met.S.PriceSet.ranged c.args.prices.now in
    search (rules, above_cut, ranged)

pub returns-in-None : goal.returns-in-None
returns-in-None g c =
    let opens = g.S.PriceSet.holds c.args.prices.now in
    let ranged = g.met.S.PriceSet.ranged c.args.prices.now in
    let past : 2 ^ 32 ≤ c.args.cut + 1 = search rules in
    above_is opens ranged (c.args.cut + 1) 0
    (record { held = λ z. absurd (omega arith); above = λ z. absurd (omega arith); least = λ p h from. absurd (omega (arith, (ranged p h).1)) })
