-- The two pairing rules, each an order of pairs by one key after another.
use Rattle.std.specs.Prelude.{ℕ, ◌+◌, ◌^◌, Bool, true, false, cond}
use Rattle.orders.specs.declared.found.FoundOrder.{FoundOrder}
use Rattle.orders.specs.Kinds.{is_market}
use Rattle.priority.specs.Pairs.{entries, same_broker}
use Rattle.priority.specs.declared.Pair.{Pair}
use Rattle.ranking.specs.Keys.{smaller, larger}
use Rattle.ranking.specs.Points.{earlier}

-- the last keys of both rules: the earlier buy, then the earlier sell
abbrev pub by_time : Pair → Pair → Bool
by_time x y = earlier (entries x) (entries y)

-- 1 and 2 where both are market orders, 3 and 4 where one is, 5 and 6 where none is, the lower one with the same broker
abbrev pub step_of : Bool → Bool → Bool → ℕ
step_of true true same = cond same 1 2
step_of true false same = cond same 3 4
step_of false true same = cond same 3 4
step_of false false same = cond same 5 6

abbrev pub step : Pair → ℕ
step p = step_of (is_market p.buy.kind) (is_market p.sell.kind) (same_broker p)

-- rule V: the lower step, then time
abbrev pub before_by_steps : Pair → Pair → Bool
before_by_steps = smaller step by_time

-- a market order buys at any price and sells at any price
abbrev pub bid_key : FoundOrder → ℕ
bid_key o = cond (is_market o.kind) (2 ^ 32) o.standing

abbrev pub offer_key : FoundOrder → ℕ
offer_key o = cond (is_market o.kind) 0 (o.standing + 1)

abbrev pub broker_key : Pair → ℕ
broker_key p = cond (same_broker p) 0 1

-- rule P: the higher buy, the lower sell, the same broker, then time
abbrev pub before_by_price : Pair → Pair → Bool
before_by_price = larger (λ p. bid_key p.buy) (smaller (λ p. offer_key p.sell) (smaller broker_key by_time))
