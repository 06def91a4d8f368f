use Rattle.grid.specs.Listing.{listed}
use Rattle.grid.specs.Rising.{passed, first_price}
use Rattle.grid.proofs.listed.made.ListedGrid.first.Goals as goal

pub returns : goal.returns
returns c =
    let ps = listed c.args.self.now in
    let p = passed ps c.args.self.now.sound in
    rw c.prices.ensures (first_price ps p.some p.up)
