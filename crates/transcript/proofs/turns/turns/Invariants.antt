use Rattle.std.proofs.Common.{◌≡◌, ◌++◌, map, drop, vec_items}
use Rattle.orderfile.specs.Bodies.{told}
use Rattle.transcript.specs.Turns.{requests_in, unanswered}
use Rattle.transcript.proofs.turns.turns.Given as goal

-- the turns so far, and then those of what is left
abbrev pub invariant-loop-message : goal.invariant-loop-message
invariant-loop-message l = map unanswered (requests_in (map told l.messages)) ≡ vec_items l.turns ++ map unanswered (requests_in (map told (drop l.message-index l.messages)))
