use Rattle.std.proofs.Common.{◌*◌, ap, ◌∙◌, arith}
use Rattle.std.proofs.Output.{has_written_of_eq}
use Rattle.transcript.specs.Summary.{five_decimals}
use Rattle.transcript.proofs.Midpoints.{midpoint_printed}
use Rattle.transcript.proofs.summary.MidpointDisplay.fmt.Goals as goal

pub returns-clause-writes : goal.returns-clause-writes
returns-clause-writes g c = λ plain ok.
    let same = midpoint_printed (c.doubled-n.result * 5) (omega arith) ∙ ap (λ d. five_decimals (d * 5)) c.doubled-n.ensures.value in
    has_written_of_eq g.W.Write.write_str_gives _ _ _ _ same (rw c.laid_out.ensures at c.write.ensures.writes plain ok)
