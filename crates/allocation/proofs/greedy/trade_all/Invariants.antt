use Rattle.std.proofs.Common.{◌≡◌, ℕ, ◌+◌, ◌≤◌, List, ◌++◌, map, length, take, drop}
use Rattle.std.specs.List.{AllByRecursion}
use Rattle.allocation.specs.Holdings.{left_of, all_left, live_pairs}
use Rattle.allocation.specs.Naming.{Apart, pair_for, by_name, trade_of, NamesFound}
use Rattle.allocation.specs.Trades.{Trade, all_shares, Greedy}
use Rattle.allocation.proofs.Trading.{live}
use Rattle.allocation.proofs.greedy.trade_all.Given as goal

abbrev pub invariant-trades : goal.invariant-trades
invariant-trades g l =
    let before = by_name (g.R.PairingRule.ahead l.rule.rule) l.initial.buys l.initial.sells in
    Apart l.buys
    × Apart l.sells
    × ((n : ℕ × ℕ) → pair_for l.initial.buys l.initial.sells n ≡ pair_for l.buys l.sells n)
    × (l.count + (live l.buys + live l.sells) ≤ length l.fills + 1)
    × (l.count ≤ length l.fills)
    × (drop l.count l.fills ≡ drop l.count l.initial.fills)
    × ((rest : List Trade) → Greedy before (left_of l.buys) (left_of l.sells) rest → Greedy before (left_of l.initial.buys) (left_of l.initial.sells) (map trade_of (take l.count l.fills) ++ rest))
    × (all_shares (map trade_of (take l.count l.fills)) + all_left l.buys ≡ all_left l.initial.buys)
    × (all_shares (map trade_of (take l.count l.fills)) + all_left l.sells ≡ all_left l.initial.sells)
    × AllByRecursion (NamesFound l.initial.buys l.initial.sells) (take l.count l.fills)

abbrev pub decreases-trades : goal.decreases-trades
decreases-trades g l = live l.buys + live l.sells

abbrev pub invariant-loop-i : goal.invariant-loop-i
invariant-loop-i g l =
    (l.listed ≤ length l.pairs) × (take l.listed l.pairs ++ live_pairs l.i (drop l.i l.buy-items) l.sells ≡ live_pairs 0 l.buy-items l.sells)
