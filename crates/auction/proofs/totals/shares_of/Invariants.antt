use Rattle.std.proofs.Common.{◌≡◌, ℕ, ◌*◌, ◌^◌, ◌≤◌, Bool, take}
use Rattle.orders.specs.declared.found.FoundOrder.{FoundOrder}
use Rattle.auction.specs.Sums.{Tells, closing_and, shares_of}
use Rattle.auction.proofs.totals.shares_of.Given as goal

-- the sums over the first i orders fit
abbrev pub Fit : ℕ → ℕ × ℕ → Type 0
Fit i t = (t.0 ≤ i * 2 ^ 32) × (t.1 ≤ i * 2 ^ 32)

abbrev pub invariant-loop-order : goal.invariant-loop-order
invariant-loop-order g l =
    Fit l.order-index l.sums.all
    × Fit l.order-index l.sums.closing
    × ((test : FoundOrder → Bool) → Tells g.F.Fn l.counts test → l.sums.all ≡ shares_of test (take l.order-index l.order-items))
    × ((test : FoundOrder → Bool) → Tells g.F.Fn l.counts test → l.sums.closing ≡ shares_of (closing_and test) (take l.order-index l.order-items))
