use Rattle.day.proofs.Turning.{SoFar}
use Rattle.day.proofs.run.Given as goal

abbrev pub invariant-loop-turn : goal.invariant-loop-turn
invariant-loop-turn g l = SoFar (g.G.PriceSet.holds l.venue.grid) l.previous_close l.initial.turn-items l.turn-items l.book l.turn-index
