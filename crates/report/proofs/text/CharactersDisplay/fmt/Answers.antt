use Rattle.std.proofs.Common.{true, ◌++◌, take, refl, ap, ◌∙◌}
use lib.Utf8.{encode, encodes}
use Rattle.std.proofs.Output.{has_written_of_eq}
use Rattle.std.proofs.lemmas.List.{take_all}
use Rattle.report.proofs.Growing.{grown, encodes_more}
use Rattle.report.proofs.text.CharactersDisplay.fmt.Goals as goal

pub loop-b-preserved : goal.loop-b-preserved
loop-b-preserved g c = λ plain.
    let bytes = c.args.self.now.0.now in
    let i = c.loop-b.b-index in
    let same = ap (λ b. encodes (take i bytes) ++ encode b) c.from.ensures ∙ encodes_more bytes i c.loop-b-test.true in
    grown {h = c.write_char.new.self} {b = encode c.from.result} (c.loop-b.invariant plain) (λ p. c.in_ok-write_char.ensures.writes p (refl {a = true})) same

pub returns-clause-writes : goal.returns-clause-writes
returns-clause-writes g c = λ plain _. has_written_of_eq g.W.Write.write_str_gives _ _ _ _ (ap encodes (take_all c.loop-b.b-index c.args.self.now.0.now c.loop-b-test.false)) (c.loop-b.invariant plain)
