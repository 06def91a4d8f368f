use Rattle.std.proofs.Common.{rules}
use Rattle.auction.specs.Totals.{eligible}
use Rattle.auction.proofs.totals.sum_at.Goals as goal

pub returns-clause-closing : goal.returns-clause-closing
returns-clause-closing c = c.shares_of.ensures.closing (eligible c.args.price) (λ o r told. search rules)
