use Rattle.std.proofs.Common.{sym, ap, ◌∙◌}
use Rattle.grid.proofs.Nearest.{above_is, below_is}
use Rattle.grid.specs.Prices.{least_from, greatest_to}
use Rattle.reference.specs.References.{twice}
use Rattle.peg.specs.Standing.{peg_price}
use Rattle.peg.proofs.peg_price.Goals as goal

pub returns-in-Buy : goal.returns-in-Buy
returns-in-Buy g c =
    let holds = g.S.PriceSet.holds c.args.prices.now in
    above_is holds (g.met.S.PriceSet.ranged c.args.prices.now) _ _ c.at_or_above.ensures
    ∙ ap (least_from holds) c.rounded_up.ensures
    ∙ ap (peg_price holds (twice c.args.reference)) (sym c.in-Buy.is)

pub returns-in-Sell : goal.returns-in-Sell
returns-in-Sell g c =
    let holds = g.S.PriceSet.holds c.args.prices.now in
    below_is holds _ _ c.at_or_below.ensures
    ∙ ap (greatest_to holds) c.rounded_down.ensures
    ∙ ap (peg_price holds (twice c.args.reference)) (sym c.in-Sell.is)
