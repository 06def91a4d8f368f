use Rattle.std.proofs.Common.{◌∙◌, arith}
use Rattle.allocation.specs.Holdings.{pairs_with}
use Rattle.allocation.proofs.Pushing.{pushed, room_for_one, still_inside, ended, counted, length_behind, paired_in, pairs_end}
use Rattle.allocation.proofs.held.add_pairs.Goals as goal

pub bounds-pairs-listed : goal.bounds-pairs-listed
bounds-pairs-listed c =
    let whole = length_behind c.args.pairs.now c.args.count (pairs_with c.args.buy c.args.place 0 c.args.sells.now) c.requires in
    let next = paired_in c.args.buy c.args.place _ _ _ c.loop-j-test.true _ _ c.loop-j.invariant.1 c.if-sell-eq0.false in
    room_for_one c.loop-j.pairs c.loop-j.listed _ _ _ c.loop-j.invariant.0 (omega (arith, whole, c.requires, c.loop-j.auto.pairs)) next

pub loop-j-preserved : goal.loop-j-preserved
loop-j-preserved c =
    let inside = bounds-pairs-listed c in
    let next = paired_in c.args.buy c.args.place _ _ _ c.loop-j-test.true _ _ c.loop-j.invariant.1 c.if-sell-eq0.false in
    (still_inside c.loop-j.pairs c.loop-j.listed _ inside, pushed c.loop-j.pairs c.loop-j.listed _ _ _ inside next)

pub returns-clause-count : goal.returns-clause-count
returns-clause-count c =
    let more = pairs_with c.args.buy c.args.place 0 c.args.sells.now in
    let whole = ended c.loop-j.pairs c.loop-j.listed _ (pairs_end c.args.buy c.args.place c.args.sells.now c.loop-j.j _ _ c.loop-j-test.false c.loop-j.invariant.1) in
    counted c.loop-j.pairs c.loop-j.listed _ c.loop-j.invariant.0 whole ∙ length_behind c.args.pairs.now c.args.count more c.requires
