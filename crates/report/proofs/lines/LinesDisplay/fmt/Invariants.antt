use Rattle.std.proofs.Common.{map, take}
use Rattle.std.specs.Fmt.{IsPlainFormatter, HasWritten}
use Rattle.orderfile.specs.Bodies.{told}
use Rattle.report.specs.Lines.{lines}
use Rattle.report.proofs.lines.LinesDisplay.fmt.Given as goal

-- the lines so far are written
abbrev pub invariant-loop-i : goal.invariant-loop-i
invariant-loop-i g l = IsPlainFormatter l.initial.f → HasWritten g.W.Write.write_str_gives l.initial.f (lines 1 (map told (take l.i l.self.0.now))) l.f
