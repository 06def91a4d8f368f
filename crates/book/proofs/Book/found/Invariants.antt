use Rattle.std.proofs.Common.{◌≡◌, ◌≤◌, length, take}
use Rattle.auction.specs.Orders.{listed, size}
use Rattle.reference.specs.References.{twice}
use Rattle.book.specs.Views.{found_orders}
use Rattle.book.proofs.Book.found.Given as goal

abbrev pub invariant-loop-order : goal.invariant-loop-order
invariant-loop-order g l =
    (l.order-index ≤ length l.order-items)
    × (size l.found ≡ l.order-index)
    × (listed l.found ≡ found_orders (g.G.PriceSet.holds l.venue.grid) (twice l.pegs) (take l.order-index l.order-items))
