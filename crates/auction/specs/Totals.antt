-- What would trade at a price.
use Rattle.std.specs.Prelude.{ℕ, ◌+◌, ◌-◌, min, Bool, true, cond, ◌&&◌, List, nat_le}
use Rattle.std.specs.List.{sum_by}
use Rattle.orders.specs.Kinds.{is_closing, is_market, same_side}
use Rattle.orders.specs.declared.Kind.{Kind}
use Rattle.orders.specs.declared.Kind.TheVariants.{Market, Limit, Displayed}
use Rattle.orders.specs.declared.Side.{Side}
use Rattle.orders.specs.declared.Side.TheVariants.{Buy, Sell}
use Rattle.orders.specs.declared.found.FoundOrder.{FoundOrder}
use Rattle.ranking.specs.declared.points.PricePoint.{PricePoint}
use Rattle.threshold.specs.Percents.{distance}

-- an order that stands at s trades at p: at or below s to buy, at or above s to sell
abbrev pub reaches : Side → ℕ → ℕ → Bool
reaches Buy s p = nat_le p s
reaches Sell s p = nat_le s p

-- a market order trades at every price
abbrev pub trades : Kind → Bool → Bool
trades Market reached = true
trades Limit reached = reached
trades Displayed reached = reached

abbrev pub eligible : ℕ → FoundOrder → Bool
eligible p o = trades o.kind (reaches o.side o.standing p)

-- the shares that an order brings to a side if it counts
abbrev pub shares_if : (FoundOrder → Bool) → Side → FoundOrder → ℕ
shares_if counts side o = cond (same_side o.side side && counts o) o.shares 0

-- those that it brings at a price, and those of closing orders only
abbrev pub shares_at : Side → ℕ → FoundOrder → ℕ
shares_at side p = shares_if (eligible p) side

abbrev pub closing_at : Side → ℕ → FoundOrder → ℕ
closing_at side p = shares_if (λ o. is_closing o.kind && eligible p o) side

abbrev pub total : Side → ℕ → List FoundOrder → ℕ
total side p = sum_by (shares_at side p)

abbrev pub closing_total : Side → ℕ → List FoundOrder → ℕ
closing_total side p = sum_by (closing_at side p)

-- the shares that an order brings to a side if it is a market order, at any price
abbrev pub market_shares : Side → FoundOrder → ℕ
market_shares side = shares_if (λ o. is_market o.kind) side

abbrev pub market_total : Side → List FoundOrder → ℕ
market_total side = sum_by (market_shares side)

-- the smaller of all eligible buy and sell shares
abbrev pub volume : ℕ → List FoundOrder → ℕ
volume p orders = min (total Buy p orders) (total Sell p orders)

-- the difference of two numbers, whichever is larger
abbrev pub apart : ℕ → ℕ → ℕ
apart m n = (m - n) + (n - m)

-- the volume of the closing imbalance
abbrev pub imbalance : ℕ → List FoundOrder → ℕ
imbalance p orders = apart (closing_total Buy p orders) (closing_total Sell p orders)

-- a price with what would trade at it; R is twice the reference
abbrev pub point : ℕ → List FoundOrder → ℕ → PricePoint
point R orders p = record { price = p; volume = volume p orders; imbalance = imbalance p orders; distance = distance R p }
