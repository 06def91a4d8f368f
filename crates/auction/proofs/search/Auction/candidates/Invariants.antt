use Rattle.std.proofs.Common.{◌≡◌, take}
use Rattle.reference.specs.References.{twice}
use Rattle.auction.specs.Candidates.{cuts}
use Rattle.auction.specs.Orders.{listed}
use Rattle.auction.proofs.Listing.{points_at}
use Rattle.auction.proofs.search.Auction.candidates.Given as goal

abbrev pub invariant-loop-order : goal.invariant-loop-order
invariant-loop-order g l =
    let R = twice l.self.reference in
    l.points.items ≡ points_at R (listed l.self.orders.now) (g.S.PriceSet.holds l.prices) (cuts R (take l.order-index l.order-items))
