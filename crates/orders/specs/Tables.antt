-- The table of orders: the order with a number, and the table with one order more or another in its place.
use Rattle.std.specs.Prelude.{◌≡◌, ℕ, ◌-◌, Bool, if◌then◌else◌, ◌&&◌, List, Some, None, Option, ◌≢◌, nat_le, nat_lt, slice_index_or, slice_set}
use Rattle.fixed_list.specs.Items as list
use Rattle.orders.specs.declared.Kind.TheVariants.{Market}
use Rattle.orders.specs.declared.PegFlag.TheVariants.{Pegged}
use Rattle.orders.specs.declared.Phase.TheVariants as phase
use Rattle.orders.specs.declared.Side.TheVariants.{Buy}
use Rattle.orders.specs.declared.table.Order.{Order}
use Rattle.orders.specs.declared.table.OrderTable.{OrderTable}

-- what stands in a place that no order has taken
abbrev pub blank : Order
blank = record { number = 0; entry = 0; kind = Market; side = Buy; flag = Pegged; broker = 0; limit = 0; volume = 0; left = 0; phase = phase.Entry }

abbrev pub no_orders : OrderTable
no_orders = record { orders = list.empty blank }

-- the orders accepted, in turn: as many as are counted, and at most 128
abbrev pub listed : OrderTable → List Order
listed t = list.items t.orders

-- how many are counted
abbrev pub size : OrderTable → ℕ
size t = t.orders.count

-- an order has this number: 1 to the count of orders, which is at most 128
abbrev pub known : OrderTable → ℕ → Bool
known t number = nat_lt 0 number && (nat_le number (size t) && nat_le number 128)

abbrev pub order_at : OrderTable → ℕ → Option Order
order_at t number = if known t number then Some (slice_index_or t.orders.places (number - 1) blank) else None

-- the order with this number becomes o
abbrev pub with_order : OrderTable → ℕ → Order → OrderTable
with_order t number o = if known t number then record { orders = record { places = slice_set t.orders.places (number - 1) o; count = size t } } else t

-- one order more, where there is room
abbrev pub has_room : OrderTable → Bool
has_room t = nat_lt (size t) 128

abbrev pub with_more : OrderTable → Order → OrderTable
with_more t o = record { orders = list.with_more t.orders o }

-- every order but the one with this number is as it was
abbrev pub OthersSame : OrderTable → OrderTable → ℕ → Type 0
OthersSame before after number = (other : ℕ) → (other ≢ number) → order_at after other ≡ order_at before other
