-- A price against the midpoint rounded for its side is as its double against twice the reference.
use Rattle.std.proofs.Common.{◌≡◌, ℕ, ◌*◌, cond, ◌&&◌, List, [], ◌∷◌, map, refl, ap, arith}
use Rattle.std.proofs.lemmas.List.Sums.{sum_by-cons}
use Rattle.std.proofs.lemmas.Bool.Decides.{nat_tests}
use Rattle.auction.specs.Totals.{reaches, trades, closing_at, closing_total}
use Rattle.orders.specs.Kinds.{is_closing, same_side}
use Rattle.orders.specs.declared.Kind.{Kind}
use Rattle.orders.specs.declared.Side.{Side}
use Rattle.orders.specs.declared.Side.TheVariants.{Buy, Sell}
use Rattle.orders.specs.declared.found.FoundOrder.{FoundOrder}
use Rattle.reference.specs.References.{rounded_up, rounded_down}
use Rattle.notice.specs.Notices.{doubled, closing_at_reference}

module _ (R : ℕ) where
  -- the reference as a whole price, up for buys and down for sells
  abbrev rounded : Side → ℕ
  rounded Buy = rounded_up R
  rounded Sell = rounded_down R

  -- prices are whole, so rounding loses none
  reaches_same : (side : Side) (s : ℕ) → reaches side s (rounded side) ≡ reaches side (2 * s) R
  reaches_same Buy s = grind (arith, nat_tests)
  reaches_same Sell s = grind (arith, nat_tests)

  -- an order of the other side counts in neither
  counts_same : (side own : Side) (k : Kind) (s : ℕ) → (same_side own side && (is_closing k && trades k (reaches own s (rounded side)))) ≡ (same_side own side && (is_closing k && trades k (reaches own (2 * s) R)))
  counts_same Buy Buy k s = ap (λ r. is_closing k && trades k r) (reaches_same Buy s)
  counts_same Buy Sell k s = refl
  counts_same Sell Buy k s = refl
  counts_same Sell Sell k s = ap (λ r. is_closing k && trades k r) (reaches_same Sell s)

  -- so an order brings the same shares, and a list of them the same total
  shares_same : (side : Side) (o : FoundOrder) → closing_at side (rounded side) o ≡ closing_at side R (doubled o)
  shares_same side o = ap (λ counts. cond counts o.shares 0) (counts_same side o.side o.kind o.standing)

  pub total_same : (side : Side) (orders : List FoundOrder) → closing_total side (rounded side) orders ≡ closing_at_reference side R orders
  total_same side [] = refl
  total_same side (o ∷ os) =
      omega (arith, shares_same side o, total_same side os, sum_by-cons (closing_at side (rounded side)) o os, sum_by-cons (closing_at side R) (doubled o) (map doubled os))
