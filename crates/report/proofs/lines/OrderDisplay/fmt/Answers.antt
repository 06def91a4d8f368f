use Rattle.std.proofs.Common.{ap, ◌∙◌}
use lib.Utf8.{encode}
use Rattle.std.proofs.Output.{has_written_of_eq}
use Rattle.report.proofs.Letters.{flag_shown}
use Rattle.report.proofs.lines.OrderDisplay.fmt.Goals as goal

pub returns-clause-writes : goal.returns-clause-writes
returns-clause-writes g c = λ plain ok.
    let flag = ap encode (c.from-flag.ensures ∙ c.letter.ensures) ∙ flag_shown c.args.self.now.0.flag in
    has_written_of_eq g.W.Write.write_str_gives _ _ _ _ (simp flag) (c.write.ensures.writes plain ok)
