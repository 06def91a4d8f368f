-- The best of the open prices. A set of open prices is a test on numbers; R is twice the reference.
use Rattle.std.specs.Prelude.{◌≡◌, ℕ, zero, suc, Bool, true, false, cond, List, Some, None, Option, MatchOption, ◌≢◌}
use Rattle.orders.specs.declared.found.FoundOrder.{FoundOrder}
use Rattle.ranking.specs.Points.{ahead}
use Rattle.ranking.specs.declared.points.PricePoint.{PricePoint}
use Rattle.auction.specs.Totals.{point}

-- an open price with what would trade at it, ahead of every other open price
pub record BestPoint (open_at : ℕ → Bool) (R : ℕ) (orders : List FoundOrder) (best : PricePoint) : Type 0 where
  pub is_open : open_at best.price ≡ true
  pub is_point : best ≡ point R orders best.price
  pub is_ahead : (q : ℕ) → open_at q ≡ true → (q ≢ best.price) → ahead best (point R orders q) ≡ true

-- r is the best open price, and none only where no price is open
abbrev pub Strikes : (ℕ → Bool) → ℕ → List FoundOrder → Option PricePoint → Type 0
Strikes open_at R orders r = MatchOption r ((p : ℕ) → open_at p ≡ false) (BestPoint open_at R orders)

-- the better of a price point and the best so far
abbrev pub better : PricePoint → Option PricePoint → Option PricePoint
better x None = Some x
better x (Some y) = cond (ahead x y) (Some x) (Some y)

-- the best of the open prices up to n
abbrev pub best_to : (ℕ → Bool) → ℕ → List FoundOrder → ℕ → Option PricePoint
best_to open_at R orders zero = None
best_to open_at R orders (suc n) = cond (open_at (suc n)) (better (point R orders (suc n)) (best_to open_at R orders n)) (best_to open_at R orders n)

-- the first, by the ranking of price points, of all open prices; it is never computed
unfoldable pub best_price : (ℕ → Bool) → ℕ → List FoundOrder → Option PricePoint
best_price open_at R orders = best_to open_at R orders 1000000000
