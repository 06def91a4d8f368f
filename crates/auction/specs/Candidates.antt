-- The few prices that the search tries.
use Rattle.std.specs.Prelude.{ℕ, ◌+◌, ◌-◌, Bool, cond, List, [], ◌∷◌, ◌++◌, map, ◌==◌}
use Rattle.std.specs.List.{flat_map}
use Rattle.grid.specs.Prices.{least_from, greatest_to}
use Rattle.orders.specs.declared.Side.{Side}
use Rattle.orders.specs.declared.Side.TheVariants.{Buy, Sell}
use Rattle.orders.specs.declared.found.FoundOrder.{FoundOrder}
use Rattle.ranking.specs.declared.points.PricePoint.{PricePoint}
use Rattle.reference.specs.References.{rounded_down}
use Rattle.auction.specs.Totals.{point}

-- an order trades at the prices up to its cut or at those above it
abbrev pub cut_at : Side → ℕ → ℕ
cut_at Buy standing = standing
cut_at Sell standing = standing - 1

abbrev pub cut : FoundOrder → ℕ
cut o = cut_at o.side o.standing

-- the point of a price, and none of 0
abbrev pub point_of : ℕ → List FoundOrder → ℕ → List PricePoint
point_of R orders p = cond (p == 0) [] (point R orders p ∷ [])

-- the nearest open prices on both sides of a cut
abbrev pub around : (ℕ → Bool) → ℕ → List FoundOrder → ℕ → List PricePoint
around open_at R orders c = point_of R orders (greatest_to open_at c) ++ point_of R orders (least_from open_at (c + 1))

-- one cut is the reference, and each order has one
abbrev pub cuts : ℕ → List FoundOrder → List ℕ
cuts R orders = rounded_down R ∷ map cut orders

abbrev pub candidates : (ℕ → Bool) → ℕ → List FoundOrder → List PricePoint
candidates open_at R orders = flat_map (around open_at R orders) (cuts R orders)
