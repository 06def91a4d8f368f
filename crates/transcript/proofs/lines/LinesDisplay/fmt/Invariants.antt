use Rattle.std.proofs.Common.{◌≡◌, ℕ, ◌+◌, List, ◌++◌, map, drop}
use Rattle.std.specs.Fmt.{IsPlainFormatter, HasWritten}
use Rattle.day.specs.Law.{given_answers}
use Rattle.orderfile.specs.Bodies.{told}
use Rattle.transcript.specs.Lines.{paired, lines}
use Rattle.transcript.proofs.lines.LinesDisplay.fmt.Given as goal

-- some lines are written, and the rest follows
abbrev pub invariant-loop-i : goal.invariant-loop-i
invariant-loop-i g l =
    (done : List ℕ)
    × (lines 1 (paired (map told l.self.messages.now) (given_answers l.self.turns.now)) ≡ done ++ lines (l.i + 1) (paired (map told (drop l.i l.self.messages.now)) (given_answers l.turns)))
    × (IsPlainFormatter l.initial.f → HasWritten g.W.Write.write_str_gives l.initial.f done l.f)
