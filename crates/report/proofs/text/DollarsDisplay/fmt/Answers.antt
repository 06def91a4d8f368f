use Rattle.std.proofs.Common.{arith}
use Rattle.std.proofs.Output.{has_written_of_eq}
use Rattle.report.proofs.Decimals.{dollars_printed}
use Rattle.report.proofs.text.DollarsDisplay.fmt.Goals as goal

pub returns-clause-writes : goal.returns-clause-writes
returns-clause-writes g c = λ plain ok.
    has_written_of_eq g.W.Write.write_str_gives _ _ _ _ (dollars_printed c.args.self.now.0 (omega arith)) (rw c.laid_out.ensures at c.write.ensures.writes plain ok)
