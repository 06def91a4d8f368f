use Rattle.std.proofs.Common.{◌≡◌, length}
use Rattle.allocation.specs.Allocation.{distinct}
use Rattle.allocation.proofs.are_distinct.Given as goal

abbrev pub invariant-loop-rest : goal.invariant-loop-rest
invariant-loop-rest l = distinct l.rest ≡ distinct l.orders

abbrev pub decreases-loop-rest : goal.decreases-loop-rest
decreases-loop-rest l = length l.rest
