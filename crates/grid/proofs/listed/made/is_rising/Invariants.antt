use Rattle.std.proofs.Common.{◌≡◌, drop}
use Rattle.grid.specs.Lists.{rising}
use Rattle.grid.proofs.listed.made.is_rising.Given as goal

-- what is left decides
abbrev pub invariant-loop-p : goal.invariant-loop-p
invariant-loop-p l = rising 0 l.prices ≡ rising l.below (drop l.p-index l.prices)
