-- Shares to buy and shares to sell of the orders that count.
use Rattle.std.specs.Prelude.{◌≡◌, ℕ, ◌+◌, Bool, ◌&&◌, List}
use Rattle.std.specs.Fn.{FnReturnsAt, Shared}
use Rattle.std.specs.Borrow.{Bor}
use Rattle.std.specs.List.{sum_by}
use Rattle.orders.specs.Kinds.{is_closing}
use Rattle.orders.specs.declared.Side.TheVariants.{Buy, Sell}
use Rattle.orders.specs.declared.found.FoundOrder.{FoundOrder}
use Rattle.auction.specs.Totals.{shares_if}

-- each call of f at an order answers the test of that order
abbrev pub Tells : {F : Type 0} → Shared F (Bor FoundOrder × Unit {0}) Bool → F → (FoundOrder → Bool) → Type 0
Tells g f test = (o : FoundOrder) (r : Bool) → FnReturnsAt g f o r → r ≡ test o

-- the totals with an order more, if it counts
abbrev pub one_more : (FoundOrder → Bool) → FoundOrder → ℕ × ℕ → ℕ × ℕ
one_more counts o t = (t.0 + shares_if counts Buy o, t.1 + shares_if counts Sell o)

-- the closing orders among those that count
abbrev pub closing_and : (FoundOrder → Bool) → FoundOrder → Bool
closing_and counts o = is_closing o.kind && counts o

abbrev pub shares_of : (FoundOrder → Bool) → List FoundOrder → ℕ × ℕ
shares_of counts orders = (sum_by (shares_if counts Buy) orders, sum_by (shares_if counts Sell) orders)
