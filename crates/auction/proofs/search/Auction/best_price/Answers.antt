use Rattle.std.proofs.Common.{◌∙◌, rules}
use Rattle.reference.specs.References.{twice}
use Rattle.auction.specs.Best.{Strikes}
use Rattle.auction.specs.Orders.{listed}
use Rattle.auction.proofs.Choosing.{chosen, same_strike, best_strikes}
use Rattle.auction.proofs.Moving.{trades_if_any, order_free}
use Rattle.auction.proofs.search.Auction.best_price.Goals as goal

pub returns : goal.returns
returns g c =
    let opens = g.S.PriceSet.holds c.args.prices.now in
    let ranged = g.met.S.PriceSet.ranged c.args.prices.now in
    let R = twice c.args.self.now.reference in
    let orders = listed c.args.self.now.orders.now in
    let r = c.map.result in
    let s : Strikes opens R orders r =
    chosen opens R orders ranged c.as_slice-tried.result.now c.first.result r (c.as_slice-tried.ensures.value ∙ c.candidates-points.ensures) c.first.ensures c.map.ensures.cases (λ i x inside k. search rules)
    in
    record { value = same_strike opens R orders _ _ s (best_strikes opens R orders ranged); meaning = s; trades = trades_if_any opens R orders r s; order_free = order_free opens R orders r s }
