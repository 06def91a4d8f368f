use Rattle.auction.specs.Orders.{listed}
use Rattle.auction.proofs.Moving.{monotone}
use Rattle.auction.proofs.totals.totals.Goals as goal

pub returns-clause-monotone : goal.returns-clause-monotone
returns-clause-monotone c = monotone c.args.price (listed c.args.orders.now)
