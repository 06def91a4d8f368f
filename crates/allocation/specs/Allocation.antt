-- What an allocation is: the one list of trades that nobody can object to.
use Rattle.std.specs.Prelude.{◌≡◌, ℕ, ◌<◌, ◌≤◌, Bool, true, false, not, ◌&&◌, ◌⊎◌, List, [], ◌∷◌, map, length, take, drop, ◌==◌}
use Rattle.std.specs.List.{AllByRecursion, list_any}
use Rattle.auction.specs.Totals.{volume}
use Rattle.orders.specs.declared.Side.TheVariants.{Buy, Sell}
use Rattle.orders.specs.declared.found.FoundOrder.{FoundOrder}
use Rattle.priority.specs.declared.Pair.{Pair}
use Rattle.allocation.specs.Holdings.{held, left_of}
use Rattle.allocation.specs.Naming.{by_name, trade_of, NamesFound}
use Rattle.allocation.specs.Trades.{Trade, all_shares, Settled, Greedy}
use Rattle.allocation.specs.declared.error.AllocationError.{AllocationError}
use Rattle.allocation.specs.declared.error.AllocationError.TheVariants.{ShortMemory, SharedEntry}
use Rattle.allocation.specs.declared.held.Fill.{Fill}
use Rattle.allocation.specs.declared.held.LivePair.{LivePair}

-- an order with the entry number is in the list, and no two have one entry number
abbrev pub named : ℕ → List FoundOrder → Bool
named n = list_any (λ o. o.entry == n)

abbrev pub distinct : List FoundOrder → Bool
distinct [] = true
distinct (o ∷ os) = not (named o.entry os) && distinct os

-- the orders and the lent memory do not serve
abbrev pub Refused : List FoundOrder → List LivePair → List Fill → Type 0
Refused orders pairs fills = (length pairs < 4096) ⊎ (length fills < 127) ⊎ (distinct orders ≡ false)

-- which of the two it is: the memory, and where that serves the orders
abbrev pub Cause : List FoundOrder → List LivePair → List Fill → AllocationError → Type 0
Cause orders pairs fills ShortMemory = (length pairs < 4096) ⊎ (length fills < 127)
Cause orders pairs fills SharedEntry = (4096 ≤ length pairs) × (127 ≤ length fills) × (distinct orders ≡ false)

-- the rule on the eligible orders of both sides, by their entry numbers
abbrev pub rule_at : (Pair → Pair → Bool) → ℕ → List FoundOrder → ℕ × ℕ → ℕ × ℕ → Bool
rule_at ahead p orders = by_name ahead (held Buy p orders) (held Sell p orders)

abbrev pub buys_at : ℕ → List FoundOrder → ℕ → ℕ
buys_at p orders = left_of (held Buy p orders)

abbrev pub sells_at : ℕ → List FoundOrder → ℕ → ℕ
sells_at p orders = left_of (held Sell p orders)

-- the trades of the first fills
abbrev pub trades_in : ℕ → List Fill → List Trade
trades_in count fills = map trade_of (take count fills)

pub record Allocated (ahead : Pair → Pair → Bool) (p : ℕ) (orders : List FoundOrder) (before fills : List Fill) (count : ℕ) : Type 0 where
  pub few : count ≤ length fills
  pub greedy : Greedy (rule_at ahead p orders) (buys_at p orders) (sells_at p orders) (trades_in count fills)
  -- nobody can object to the trades, and every other list is objected to
  pub settled : Settled (rule_at ahead p orders) (buys_at p orders) (sells_at p orders) (trades_in count fills)
  pub alone : (ts : List Trade) → Settled (rule_at ahead p orders) (buys_at p orders) (sells_at p orders) ts → ts ≡ trades_in count fills
  pub in_full : all_shares (trades_in count fills) ≡ volume p orders
  -- the other places hold what they held
  pub others : drop count fills ≡ drop count before

-- each of the fills has the eligible orders as the call found them
abbrev pub NameOrders : ℕ → List FoundOrder → List Fill → Type 0
NameOrders p orders fills = AllByRecursion (NamesFound (held Buy p orders) (held Sell p orders)) fills
