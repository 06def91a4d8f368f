-- Pairs of a buy and a sell.
use Rattle.std.specs.Prelude.{ℕ, Bool, not, ◌&&◌, ◌==◌}
use Rattle.priority.specs.declared.Pair.{Pair}
use Rattle.ranking.specs.declared.entries.EntryPair.{EntryPair}

-- a pair is named by its two entry numbers
abbrev pub pair_name : Pair → ℕ × ℕ
pair_name p = (p.buy.entry, p.sell.entry)

-- the same, as ranked by time
abbrev pub entries : Pair → EntryPair
entries p = record { buy = p.buy.entry; sell = p.sell.entry }

-- broker 0 is unattributed, and no one's
abbrev pub same_broker : Pair → Bool
same_broker p = p.buy.broker == p.sell.broker && not (p.buy.broker == 0)
