use Rattle.reference.specs.References.{twice}
use Rattle.auction.specs.Orders.{listed}
use Rattle.auction.proofs.Listing.{start, fits, more}
use Rattle.auction.proofs.search.Auction.candidates.Goals as goal

pub loop-order-init : goal.loop-order-init
loop-order-init g c =
    start (twice c.args.self.now.reference) (listed c.args.self.now.orders.now) (g.S.PriceSet.holds c.args.prices.now) _ _ _ c.new-points.ensures c.rounded_down.ensures c.add_around.ensures

pub add_around-requires-in-loop-order : goal.add_around-requires-in-loop-order
add_around-requires-in-loop-order g c =
    fits (twice c.args.self.now.reference) (listed c.args.self.now.orders.now) (g.S.PriceSet.holds c.args.prices.now) c.as_slice-order-items.result.now c.loop-order.order-index c.loop-order.points.items
    c.loop-order.invariant c.loop-order-test.true c.as_slice-order-items.ensures.few

pub loop-order-preserved : goal.loop-order-preserved
loop-order-preserved g c =
    more (twice c.args.self.now.reference) (listed c.args.self.now.orders.now) (g.S.PriceSet.holds c.args.prices.now) c.as_slice-order-items.result.now c.loop-order.order-index c.loop-order.points.items
    c.loop-order.invariant _ _ _ c.loop-order-test.true c.cut_of.ensures c.add_around-in-loop-order.ensures
