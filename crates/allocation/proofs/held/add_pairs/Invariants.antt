use Rattle.std.proofs.Common.{◌≡◌, ◌≤◌, ◌++◌, length, take, drop}
use Rattle.allocation.specs.Holdings.{pairs_with}
use Rattle.allocation.proofs.held.add_pairs.Given as goal

abbrev pub invariant-loop-j : goal.invariant-loop-j
invariant-loop-j l =
    (l.listed ≤ length l.pairs)
    × (take l.listed l.pairs ++ pairs_with l.buy l.place l.j (drop l.j l.sells) ≡ take l.count l.initial.pairs ++ pairs_with l.buy l.place 0 l.sells)
