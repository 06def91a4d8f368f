use Rattle.std.proofs.Common.{sym, subst}
use Rattle.reference.specs.Quote.{BestOfSide}
use Rattle.reference.proofs.Quoting.{is_best}
use Rattle.reference.proofs.best_limit.Goals as goal

pub returns-clause-best : goal.returns-clause-best
returns-clause-best c = subst (BestOfSide c.args.side c.args.orders.now) (sym c.most_aggressive.ensures) (is_best c.args.side c.args.orders.now)
