use Rattle.std.proofs.Common.{refl}
use Rattle.day.proofs.Turning.{no_turn, opened_by, start, turn_more, ran}
use Rattle.day.proofs.run.Goals as goal

pub loop-turn-init : goal.loop-turn-init
loop-turn-init g c =
    let holds = g.G.PriceSet.holds c.args.venue.now.grid in
    let close = c.args.previous_close in
    start holds close c.args.turns.now c.in_ok-book.book (opened_by holds close c.open.result c.in_ok-book.book c.open.ensures c.in_ok-book.was).1

pub loop-turn-preserved : goal.loop-turn-preserved
loop-turn-preserved g c =
    turn_more (g.G.PriceSet.holds c.args.venue.now.grid) c.args.previous_close c.args.turns.now c.loop-turn.turn-items c.loop-turn.book c.request-turn.new.self c.loop-turn.turn-index no_turn _
    c.loop-turn.invariant c.loop-turn-test.true refl c.request-turn.ensures.answer c.request-turn.ensures.after

pub returns : goal.returns
returns g c =
    let holds = g.G.PriceSet.holds c.args.venue.now.grid in
    let close = c.args.previous_close in
    ran holds close c.args.turns.now c.loop-turn.turn-items c.loop-turn.book c.loop-turn.turn-index
    (opened_by holds close c.open.result c.in_ok-book.book c.open.ensures c.in_ok-book.was).0 c.loop-turn.invariant c.loop-turn-test.false
