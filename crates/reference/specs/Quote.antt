-- The quote: the best limits among the orders that make it.
use Rattle.std.specs.Prelude.{◌≡◌, ℕ, ◌<◌, Bool, true, false, cond, ◌&&◌, List, length, get_or, Some, None, fold, Option, MatchOption, nat_lt, slice_index_or}
use Rattle.orders.specs.Kinds.{is_displayed, same_side, more_aggressive}
use Rattle.orders.specs.Tables.{blank}
use Rattle.orders.specs.declared.Side.{Side}
use Rattle.orders.specs.declared.table.Order.{Order}

-- every standing displayed order makes the quote
abbrev pub makes_quote : Order → Bool
makes_quote o = is_displayed o.kind && nat_lt 0 o.left

abbrev pub quotes_on : Side → Order → Bool
quotes_on side o = same_side o.side side && makes_quote o

-- the more aggressive of the best limit so far and p
abbrev pub better_of : Side → Option ℕ → ℕ → Option ℕ
better_of side None p = Some p
better_of side (Some best) p = cond (more_aggressive side p best) (Some p) (Some best)

abbrev pub best_step : Side → Option ℕ → Order → Option ℕ
best_step side best o = cond (quotes_on side o) (better_of side best o.limit) best

abbrev pub best_limit : Side → List Order → Option ℕ
best_limit side orders = fold (best_step side) None orders

-- some order quotes on the side at this limit, and none at a more aggressive one
pub record Best (side : Side) (orders : List Order) (best : ℕ) : Type 0 where
  pub place : ℕ
  pub within : place < length orders
  pub quotes : quotes_on side (slice_index_or orders place blank) ≡ true
  pub limit : (get_or orders place blank).limit ≡ best
  pub first : (k : ℕ) → k < length orders → quotes_on side (slice_index_or orders k blank) ≡ true → more_aggressive side (get_or orders k blank).limit best ≡ false

-- no order quotes on the side
abbrev pub NoQuote : Side → List Order → Type 0
NoQuote side orders = (k : ℕ) → k < length orders → quotes_on side (slice_index_or orders k blank) ≡ false

abbrev pub BestOfSide : Side → List Order → Option ℕ → Type 0
BestOfSide side orders r = MatchOption r (NoQuote side orders) (Best side orders)
