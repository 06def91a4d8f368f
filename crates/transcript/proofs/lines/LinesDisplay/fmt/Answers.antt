use Rattle.std.proofs.Common.{[], refl}
use Rattle.std.proofs.Output.{has_written_of_eq, writes_in_calls_nil}
use Rattle.report.proofs.Growing.{grown}
use Rattle.transcript.proofs.Pairing.{all_written, line_more, line_last}
use Rattle.transcript.proofs.lines.LinesDisplay.fmt.Goals as goal

pub loop-i-init : goal.loop-i-init
loop-i-init g c = ([], refl, λ plain. record { wrote = writes_in_calls_nil g.W.Write.write_str_gives _; plain = plain })

pub loop-i-preserved : goal.loop-i-preserved
loop-i-preserved g c =
    let inv = c.loop-i.invariant in
    let more = line_more c.args.self.now.messages.now c.loop-i.i _ _ inv.0 inv.1 _ c.loop-i-test.true c.in-Some.answer _ c.in-Some.ensures in
    (_, more, λ plain. grown {h = c.write.new.self} (inv.2 plain) (λ p. c.in_ok-write.ensures.writes p refl) refl)

pub returns-in_default-clause-writes : goal.returns-in_default-clause-writes
returns-in_default-clause-writes g c = λ plain _.
    let inv = c.loop-i.invariant in
    has_written_of_eq g.W.Write.write_str_gives _ _ _ _ (line_last c.args.self.now.messages.now c.loop-i.i _ _ inv.0 inv.1 _ c.loop-i-test.true c.in_default.ensures) (inv.2 plain)

pub returns-clause-writes : goal.returns-clause-writes
returns-clause-writes g c = λ plain _.
    let inv = c.loop-i.invariant in
    has_written_of_eq g.W.Write.write_str_gives _ _ _ _ (all_written c.args.self.now.messages.now c.loop-i.i _ _ inv.0 inv.1 c.loop-i-test.false) (inv.2 plain)
