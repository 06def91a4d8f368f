-- The orders that a call finds.
use Rattle.std.specs.Prelude.{ℕ, List}
use Rattle.fixed_list.specs.Items.{items}
use Rattle.orders.specs.declared.found.FoundOrder.{FoundOrder}
use Rattle.auction.specs.declared.found.FoundOrders.{FoundOrders}

abbrev pub listed : FoundOrders → List FoundOrder
listed found = items found.orders

abbrev pub size : FoundOrders → ℕ
size found = found.orders.count
