-- An order as a call finds it.
use Rattle.std.specs.Prelude.{ℕ}
use Rattle.orders.specs.declared.found.FoundOrder.{FoundOrder}
use Rattle.orders.specs.declared.table.Order.{Order}

-- an order brings all that is left of it to the call
abbrev pub brought : Order → ℕ
brought o = o.left

abbrev pub found : Order → ℕ → FoundOrder
found o standing =
    record { number = o.number; entry = o.entry; kind = o.kind; side = o.side; broker = o.broker; standing = standing; shares = brought o }
