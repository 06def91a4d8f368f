use Rattle.grid.proofs.Nearest.{below_is}
use Rattle.reference.specs.References.{twice}
use Rattle.auction.specs.Orders.{listed}
use Rattle.auction.proofs.Listing.{two_listed}
use Rattle.auction.proofs.search.Auction.add_around.Goals as goal

pub returns : goal.returns
returns g c =
    let opens = g.S.PriceSet.holds c.args.prices.now in
    let below = below_is opens _ _ c.at_or_below.ensures in
    two_listed (twice c.args.self.now.reference) (listed c.args.self.now.orders.now) opens c.args.cut _ _ _ _ _ below c.least_above.ensures c.add_point.ensures c.add_point-2.ensures
