-- Between two prices that no cut separates, the same shares trade.
use Rattle.std.proofs.Common.{◌≡◌, ℕ, ◌<◌, ◌≤◌, min, cond, ◌&&◌, ◌⊎◌, List, [], ◌∷◌, refl, ap, inl, inr, arith}
use Rattle.std.proofs.lemmas.Bool.Decides.{nat_tests}
use Rattle.std.proofs.lemmas.List.Sums.{sum_by-cons}
use Rattle.std.specs.List.{AllByRecursion, sum_by}
use Rattle.orders.specs.Kinds.{is_closing, same_side}
use Rattle.orders.specs.declared.Side.{Side}
use Rattle.orders.specs.declared.Side.TheVariants.{Buy, Sell}
use Rattle.orders.specs.declared.found.FoundOrder.{FoundOrder}
use Rattle.auction.specs.Candidates.{cut_at, cut}
use Rattle.auction.specs.Totals.{reaches, trades, shares_at, closing_at, volume, apart, imbalance}

-- the cut is not from p to below q
abbrev pub Beside : ℕ → ℕ → ℕ → Type 0
Beside p q c = (c < p) ⊎ (q ≤ c)

reach_same : (side : Side) (s p q : ℕ) → p < q → Beside p q (cut_at side s) → reaches side s p ≡ reaches side s q
reach_same Buy s p q less (inl below) = grind (arith, nat_tests)
reach_same Buy s p q less (inr above) = grind (arith, nat_tests)
reach_same Sell s p q less (inl below) = grind (arith, nat_tests)
reach_same Sell s p q less (inr above) = grind (arith, nat_tests)

module _ (p q : ℕ) (less : p < q) where
  shares_same : (side : Side) (o : FoundOrder) → Beside p q (cut o) → shares_at side p o ≡ shares_at side q o
  shares_same side o b = ap (λ reached. cond (same_side o.side side && trades o.kind reached) o.shares 0) (reach_same o.side o.standing p q less b)

  closing_same : (side : Side) (o : FoundOrder) → Beside p q (cut o) → closing_at side p o ≡ closing_at side q o
  closing_same side o b = ap (λ reached. cond (same_side o.side side && (is_closing o.kind && trades o.kind reached)) o.shares 0) (reach_same o.side o.standing p q less b)

  sum_same : (f g : FoundOrder → ℕ) → ((o : FoundOrder) → Beside p q (cut o) → f o ≡ g o) → (orders : List FoundOrder) → AllByRecursion (λ o. Beside p q (cut o)) orders → sum_by f orders ≡ sum_by g orders
  sum_same f g same [] b = refl
  sum_same f g same (o ∷ os) b = omega (arith, same o b.0, sum_same f g same os b.1, sum_by-cons f o os, sum_by-cons g o os)

  pub volume_same : (orders : List FoundOrder) → AllByRecursion (λ o. Beside p q (cut o)) orders → volume p orders ≡ volume q orders
  volume_same orders b = λ i. min (sum_same _ _ (shares_same Buy) orders b i) (sum_same _ _ (shares_same Sell) orders b i)

  pub imbalance_same : (orders : List FoundOrder) → AllByRecursion (λ o. Beside p q (cut o)) orders → imbalance p orders ≡ imbalance q orders
  imbalance_same orders b = λ i. apart (sum_same _ _ (closing_same Buy) orders b i) (sum_same _ _ (closing_same Sell) orders b i)
