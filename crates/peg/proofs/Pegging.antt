-- Where a pegged order stands, seen from its limit and from the grid.
use Rattle.std.proofs.Common.{◌≡◌, ℕ, ◌+◌, ◌*◌, ◌/◌, ◌<◌, ◌≤◌, Bool, true, false, ◌||◌, eqb, refl, inl, inr, arith}
use Rattle.std.proofs.lemmas.Bool.{both_ways, cond_both, eqb-false, eqb-true, le-leb, le-ltb, leb-true, or_cases, or_parts}
use Rattle.std.proofs.lemmas.Bool.Decides.{nat_tests}
use Rattle.grid.proofs.Nearest.{least_from_is, greatest_to_is}
use Rattle.grid.specs.Prices.{WithinRange, least_from, greatest_to}
use Rattle.orders.proofs.Sides.{never_more}
use Rattle.orders.specs.Kinds.{more_aggressive}
use Rattle.orders.specs.declared.Side.{Side}
use Rattle.orders.specs.declared.Side.TheVariants.{Buy, Sell}
use Rattle.orders.specs.declared.table.Order.{Order}
use Rattle.peg.specs.Standing.{is_pegged, peg_price, pegged_at, standing, far_side, Stands}

-- a limit behind the peg is behind what the peg is behind
behind_both : (side : Side) (peg limit p : ℕ) → more_aggressive side peg limit ≡ true → more_aggressive side peg p ≡ false → more_aggressive side limit p ≡ false
behind_both Buy peg limit p a b = grind (arith, nat_tests)
behind_both Sell peg limit p a b = grind (arith, nat_tests)

-- the peg is the grid price on the far side of the midpoint that is nearest to it
record Nearest (holds : ℕ → Bool) (R : ℕ) (side : Side) (peg : ℕ) : Type 0 where
  held : 0 < peg → holds peg ≡ true
  far : 0 < peg → far_side side R peg ≡ true
  first : (p : ℕ) → holds p ≡ true → far_side side R p ≡ true → (0 < peg) × (more_aggressive side peg p ≡ false)

module _ (holds : ℕ → Bool) (ranged : WithinRange holds) (R : ℕ) where
  nearest : (side : Side) → Nearest holds R side (peg_price holds R side)
  nearest Buy =
      let n = (R + 1) / 2 in
      let up = least_from_is holds ranged n in
      record {
        held = up.held;
        far = λ some. le-leb R (2 * least_from holds n) (omega (arith, up.above some));
        first = λ p h far.
            let above : n ≤ p = omega (arith, leb-true R (2 * p) far) in
            let (some, least) = up.least p h above in
            (some, le-ltb p (least_from holds n) least);
      }
  nearest Sell =
      let n = R / 2 in
      let down = greatest_to_is holds n in
      record {
        held = down.held;
        far = λ _. le-leb (2 * greatest_to holds n) R (omega (arith, down.below));
        first = λ p h far.
            let below : p ≤ n = omega (arith, leb-true (2 * p) R far) in
            let greatest = down.greatest p h below in
            (omega (arith, (ranged p h).0), le-ltb (greatest_to holds n) p greatest);
      }

  module _ (o : Order) where
    abbrev peg : ℕ
    peg = peg_price holds R o.side

    -- the limit stands where there is no peg or the peg is more aggressive
    at_limit : is_pegged o ≡ true → (eqb peg 0 || more_aggressive o.side peg o.limit) ≡ true → Stands holds R o o.limit
    at_limit pegged test = record {
      limited = never_more o.side o.limit;
      free = λ _. refl;
      capped = λ _ p h far.
          let (some, less) = (nearest o.side).first p h far in
          elim (or_cases (eqb peg 0) (more_aggressive o.side peg o.limit) test) [
            | inl none ↦ let zero = eqb-true peg 0 none in absurd (omega arith)
            | inr more ↦ behind_both o.side peg o.limit p more less
          ];
      placed = λ other. absurd (other refl);
    }

    at_peg : is_pegged o ≡ true → (eqb peg 0 || more_aggressive o.side peg o.limit) ≡ false → Stands holds R o peg
    at_peg pegged test =
        let (some, less) = or_parts (eqb peg 0) (more_aggressive o.side peg o.limit) test in
        let above : 0 < peg = omega (arith, eqb-false peg 0 some) in
        record {
          limited = less;
          free = λ free. absurd (both_ways _ free pegged);
          capped = λ _ p h far. ((nearest o.side).first p h far).1;
          placed = λ _. ((nearest o.side).held above, (nearest o.side).far above);
        }

    pub stands : Stands holds R o (standing holds R o)
    stands =
        cond_both (is_pegged o) (pegged_at o.side o.limit peg) o.limit (Stands holds R o)
        (λ pegged.
        cond_both (eqb peg 0 || more_aggressive o.side peg o.limit) o.limit peg (Stands holds R o) (at_limit pegged) (at_peg pegged))
        (λ free. record {
          limited = never_more o.side o.limit;
          free = λ _. refl;
          capped = λ pegged. absurd (both_ways _ free pegged);
          placed = λ other. absurd (other refl);
        })
