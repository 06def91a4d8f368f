use Rattle.std.proofs.Common.{◌-◌, length, arith}
use Rattle.grid.specs.Listing.{listed}
use Rattle.grid.specs.Rising.{passed, last_price}
use Rattle.grid.proofs.listed.made.ListedGrid.last.Goals as goal

pub returns : goal.returns
returns c =
    let ps = listed c.args.self.now in
    let p = passed ps c.args.self.now.sound in
    rw c.prices-prices.ensures (last_price 0 ps (length ps - 1) (omega (arith, p.some)) p.up)
