use Rattle.std.proofs.Common.{map, refl, ap}
use Rattle.std.proofs.Output.{has_written_of_eq}
use Rattle.std.proofs.lemmas.List.{take_all}
use Rattle.orderfile.specs.Bodies.{told}
use Rattle.report.specs.Lines.{lines}
use Rattle.report.proofs.Growing.{grown, lines_more}
use Rattle.report.proofs.lines.LinesDisplay.fmt.Goals as goal

pub loop-i-preserved : goal.loop-i-preserved
loop-i-preserved g c = λ plain.
    grown (c.loop-i.invariant plain) (λ p. c.in_ok-write.ensures.writes p refl) (lines_more told c.args.self.now.0.now c.loop-i.i _ c.loop-i-test.true)

pub returns-clause-writes : goal.returns-clause-writes
returns-clause-writes g c = λ plain _. has_written_of_eq g.W.Write.write_str_gives _ _ _ _ (ap (λ ms. lines 1 (map told ms)) (take_all c.loop-i.i c.args.self.now.0.now c.loop-i-test.false)) (c.loop-i.invariant plain)
