-- One pass that adds up the shares of the orders that count.
use Rattle.std.proofs.Common.{◌≡◌, ℕ, ◌+◌, ◌<◌, Bool, cond, ◌&&◌, List, length, get_or, take, ap, ◌∙◌, arith}
use Rattle.std.proofs.lemmas.List.Sums.{sum_by_more}
use Rattle.std.specs.List.{sum_by}
use Rattle.orders.specs.Kinds.{same_side}
use Rattle.orders.specs.declared.Side.{Side}
use Rattle.orders.specs.declared.Side.TheVariants.{Buy, Sell}
use Rattle.orders.specs.declared.found.FoundOrder.{FoundOrder}
use Rattle.auction.specs.Sums.{closing_and, one_more, shares_of}
use Rattle.auction.specs.Totals.{shares_if}

-- the totals of the first i orders, and those with one more
pub counted : (test : FoundOrder → Bool) (orders : List FoundOrder) (i : ℕ) (d : FoundOrder) (t r : ℕ × ℕ) (b : Bool) → i < length orders → b ≡ test (get_or orders i d) → t ≡ shares_of test (take i orders) → r ≡ one_more (λ _. b) (get_or orders i d) t → r ≡ shares_of test (take (i + 1) orders)
counted test orders i d t r b inside told e more = more ∙ λ j. (on Buy t.0 (ap (λ (t : ℕ × ℕ). t.0) e) j, on Sell t.1 (ap (λ (t : ℕ × ℕ). t.1) e) j)
  where
    on : (side : Side) (s : ℕ) → s ≡ sum_by (shares_if test side) (take i orders) → s + shares_if (λ _. b) side (get_or orders i d) ≡ sum_by (shares_if test side) (take (i + 1) orders)
    on side s so_far =
        let o = get_or orders i d in
        let brings : shares_if (λ _. b) side o ≡ shares_if test side o = ap (λ (c : Bool). cond (same_side o.side side && c) o.shares 0) told in
        omega (arith, so_far, brings, sum_by_more (shares_if test side) orders i d inside)

-- and the same among the closing orders
pub counted_closing : (test : FoundOrder → Bool) (orders : List FoundOrder) (i : ℕ) (d : FoundOrder) (t r : ℕ × ℕ) (b : Bool) → i < length orders → b ≡ test (get_or orders i d) → t ≡ shares_of (closing_and test) (take i orders) → r ≡ one_more (closing_and (λ _. b)) (get_or orders i d) t → r ≡ shares_of (closing_and test) (take (i + 1) orders)
counted_closing test orders i d t r b inside told so_far more =
    let o = get_or orders i d in
    counted (closing_and test) orders i d t r (closing_and (λ _. b) o) inside (ap (λ c. closing_and (λ _. c) o) told) so_far more
