-- The price at which an order stands. R is twice the peg reference throughout.
use Rattle.std.specs.Prelude.{◌≡◌, ℕ, ◌*◌, Bool, true, false, cond, ◌||◌, ◌==◌, ◌≢◌, nat_le}
use Rattle.grid.specs.Prices.{least_from, greatest_to}
use Rattle.orders.specs.Kinds.{more_aggressive}
use Rattle.orders.specs.declared.Kind.{Kind}
use Rattle.orders.specs.declared.Kind.TheVariants.{Market, Limit, Displayed}
use Rattle.orders.specs.declared.Phase.{Phase}
use Rattle.orders.specs.declared.Phase.TheVariants.{Entry, Imbalance, Freeze, Extension, Closed}
use Rattle.orders.specs.declared.Side.{Side}
use Rattle.orders.specs.declared.Side.TheVariants.{Buy, Sell}
use Rattle.orders.specs.declared.table.Order.{Order}
use Rattle.reference.specs.References.{rounded_up, rounded_down}

-- a limit order for the close that was entered in the freeze
abbrev pub pegs : Kind → Phase → Bool
pegs Limit Freeze = true
pegs Limit Entry = false
pegs Limit Imbalance = false
pegs Limit Extension = false
pegs Limit Closed = false
pegs Market phase = false
pegs Displayed phase = false

abbrev pub is_pegged : Order → Bool
is_pegged o = pegs o.kind o.phase

-- half of R on the grid, rounded up for buys and down for sells, and 0 where there is no such price
abbrev pub peg_price : (ℕ → Bool) → ℕ → Side → ℕ
peg_price holds R Buy = least_from holds (rounded_up R)
peg_price holds R Sell = greatest_to holds (rounded_down R)

-- the less aggressive of the limit and the peg, and the limit where there is no peg
abbrev pub pegged_at : Side → ℕ → ℕ → ℕ
pegged_at side limit peg = cond (peg == 0 || more_aggressive side peg limit) limit peg

abbrev pub standing : (ℕ → Bool) → ℕ → Order → ℕ
standing holds R o = cond (is_pegged o) (pegged_at o.side o.limit (peg_price holds R o.side)) o.limit

-- p is not better than the midpoint for the side: at or above it for a buy, at or below it for a sell
abbrev pub far_side : Side → ℕ → ℕ → Bool
far_side Buy R p = nat_le R (2 * p)
far_side Sell R p = nat_le (2 * p) R

-- s is no more aggressive than the limit; a pegged order's is no more aggressive than any grid price on the far side of
-- the midpoint either, and is one of these or the limit
pub record Stands (holds : ℕ → Bool) (R : ℕ) (o : Order) (s : ℕ) : Type 0 where
  pub limited : more_aggressive o.side s o.limit ≡ false
  pub free : is_pegged o ≡ false → s ≡ o.limit
  pub capped : is_pegged o ≡ true → (p : ℕ) → holds p ≡ true → far_side o.side R p ≡ true → more_aggressive o.side s p ≡ false
  pub placed : (s ≢ o.limit) → (holds s ≡ true) × (far_side o.side R s ≡ true)
