use Rattle.std.proofs.Common.{◌≡◌, ℕ, ◌<◌, false, length, get_or}
use Rattle.ranking.proofs.first.Given as goal

-- of the items so far none is before the one at `first`
abbrev pub invariant-loop-i : goal.invariant-loop-i
invariant-loop-i g l = record {
  within : l.first < length l.items;
  unbeaten : (k : ℕ) (d : g.row.R-Item.Denot) → k < l.i → g.R.Ranking.before l.rule (get_or l.items k d) (get_or l.items l.first d) ≡ false;
}
