use Rattle.std.proofs.Common.{◌≡◌, ℕ, List, ◌++◌, drop}
use Rattle.std.specs.Fmt.{IsPlainFormatter, HasWritten}
use Rattle.reference.specs.References.{twice}
use Rattle.transcript.specs.Summary.{rows}
use Rattle.transcript.proofs.summary.RowsDisplay.fmt.Given as goal

-- some rows are written, and the rest follows
abbrev pub invariant-loop-order : goal.invariant-loop-order
invariant-loop-order g l =
    (done : List ℕ)
    × (rows (g.G.PriceSet.holds l.self.grid.now) (twice l.self.pegs) l.self.orders.now ≡ done ++ rows (g.G.PriceSet.holds l.self.grid.now) (twice l.self.pegs) (drop l.order-index l.self.orders.now))
    × (IsPlainFormatter l.initial.f → HasWritten g.W.Write.write_str_gives l.initial.f done l.f)
