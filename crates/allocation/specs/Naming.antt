-- Orders, pairs and fills by entry numbers.
use Rattle.std.specs.Prelude.{◌≡◌, ℕ, Bool, cond, List, [], ◌∷◌, ◌==◌, ◌≢◌}
use Rattle.orders.specs.declared.Kind.TheVariants.{Market}
use Rattle.orders.specs.declared.Side.TheVariants.{Buy}
use Rattle.orders.specs.declared.found.FoundOrder.{FoundOrder}
use Rattle.priority.specs.Pairs.{pair_name}
use Rattle.priority.specs.declared.Pair.{Pair}
use Rattle.allocation.specs.Trades.{Trade, InTurn}
use Rattle.allocation.specs.declared.held.Fill.{Fill}
use Rattle.allocation.specs.declared.held.Holding.{Holding}

-- no two orders have one entry number
abbrev pub Apart : List Holding → Type 0
Apart = InTurn (λ h k. h.order.entry ≢ k.order.entry)

-- the order with an entry number, and a blank one where there is none
abbrev pub order_for : List Holding → ℕ → FoundOrder
order_for [] n = record { number = 0; entry = n; kind = Market; side = Buy; broker = 0; standing = 0; shares = 0 }
order_for (h ∷ hs) n = cond (h.order.entry == n) h.order (order_for hs n)

abbrev pub pair_for : List Holding → List Holding → ℕ × ℕ → Pair
pair_for buys sells name = record { buy = order_for buys name.0; sell = order_for sells name.1 }

-- a pairing rule as an order of names
abbrev pub by_name : (Pair → Pair → Bool) → List Holding → List Holding → ℕ × ℕ → ℕ × ℕ → Bool
by_name ahead buys sells m n = ahead (pair_for buys sells m) (pair_for buys sells n)

abbrev pub trade_of : Fill → Trade
trade_of f = record { pair = pair_name f.pair; shares = f.shares }

-- a fill has the two orders as they were found, with all that the rule and a reader of the fill ask about
abbrev pub NamesFound : List Holding → List Holding → Fill → Type 0
NamesFound buys sells f = f.pair ≡ pair_for buys sells (pair_name f.pair)
