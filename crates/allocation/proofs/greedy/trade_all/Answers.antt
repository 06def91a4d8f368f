use Rattle.std.proofs.Common.{◌+◌, ◌<◌, ◌≤◌, [], length, get_or, sym, refl, ap, ◌∙◌, subst, inr, append-nil, arith}
use Rattle.priority.specs.Pairs.{pair_name}
use Rattle.allocation.specs.Holdings.{left_of, all_left, vacant, given_up, live_pairs, no_pair}
use Rattle.allocation.specs.Naming.{Apart, by_name, trade_of, NamesFound}
use Rattle.allocation.specs.Trades.{Greedy}
use Rattle.allocation.proofs.Listing.{pairs_fit, no_pair_with}
use Rattle.allocation.proofs.Pushing.{room, still_inside, still_room, some_buy, push_mapped, kept_behind, shares_more, all_more}
use Rattle.allocation.proofs.Trading.{pairs_kept, still_apart, live, live_le, all_traded, both_live, fewer, still_sums, none_listed, named, greedy_more, first_standing, first_unbeaten}
use Rattle.allocation.proofs.greedy.trade_all.Goals as goal

pub trades-init : goal.trades-init
trades-init g c = (
  c.requires.buyers,
  c.requires.sellers,
  λ n. refl,
  omega (arith, c.requires.room, live_le c.args.buys.now, live_le c.args.sells.now),
  omega arith,
  refl,
  λ rest greedy. greedy,
  omega arith,
  omega arith,
  tt,
)

pub add_pairs-more-requires : goal.add_pairs-more-requires
add_pairs-more-requires g c =
    let fits : length (live_pairs 0 c.trades.buys c.trades.sells) ≤ length c.loop-i.pairs =
    omega (arith, pairs_fit c.trades.buys c.trades.sells _ _ _ c.trades.auto.buys c.trades.auto.sells c.requires.work, c.loop-i.auto.pairs, c.trades.auto.pairs) in
    room c.loop-i.pairs c.loop-i.listed _ _ _ c.loop-i.invariant.0 fits
    (some_buy c.trades.buys c.trades.sells _ _ c.loop-i-test.true _ _ c.loop-i.invariant.1 c.if-buy-eq0.false)

pub trade_pair-shares-requires : goal.trade_pair-shares-requires
trade_pair-shares-requires g c =
    let stand = first_standing (g.R.PairingRule.ahead c.args.rule.now.rule) c.trades.buys c.trades.sells c.loop-i.pairs c.loop-i.i c.loop-i.listed c.in-Some.k c.loop-i.invariant.0 c.loop-i-test.false c.loop-i.invariant.1 c.in-Some.ensures in
    record { buy = stand.0.0; sell = stand.1.0 }

pub bounds-fills-count : goal.bounds-fills-count
bounds-fills-count g c =
    let stand = first_standing (g.R.PairingRule.ahead c.args.rule.now.rule) c.trades.buys c.trades.sells c.loop-i.pairs c.loop-i.i c.loop-i.listed c.in-Some.k c.loop-i.invariant.0 c.loop-i-test.false c.loop-i.invariant.1 c.in-Some.ensures in
    omega (arith, c.trades.invariant.3, both_live c.trades.buys c.trades.sells _ stand.0 stand.1)

pub trades-smaller : goal.trades-smaller
trades-smaller g c =
    let stand = first_standing (g.R.PairingRule.ahead c.args.rule.now.rule) c.trades.buys c.trades.sells c.loop-i.pairs c.loop-i.i c.loop-i.listed c.in-Some.k c.loop-i.invariant.0 c.loop-i-test.false c.loop-i.invariant.1 c.in-Some.ensures in
    let traded = c.trade_pair-shares.ensures in
    let less : live c.trade_pair-shares.new.buys + live c.trade_pair-shares.new.sells < live c.trades.buys + live c.trades.sells =
    omega (arith, fewer c.trades.buys c.trades.sells _ stand.0 stand.1 _ traded.shares, ap live traded.bought, ap live traded.sold) in
    less

pub trades-preserved : goal.trades-preserved
trades-preserved g c =
    let ahead = g.R.PairingRule.ahead c.args.rule.now.rule in
    let before = by_name ahead c.args.buys.now c.args.sells.now in
    let bs = c.trades.buys in
    let ss = c.trades.sells in
    let p = get_or c.loop-i.pairs c.in-Some.k no_pair in
    let inv = c.trades.invariant in
    let stand = first_standing (g.R.PairingRule.ahead c.args.rule.now.rule) c.trades.buys c.trades.sells c.loop-i.pairs c.loop-i.i c.loop-i.listed c.in-Some.k c.loop-i.invariant.0 c.loop-i-test.false c.loop-i.invariant.1 c.in-Some.ensures in
    let unbeaten = first_unbeaten ahead bs ss c.loop-i.pairs c.loop-i.i c.loop-i.listed c.in-Some.k c.loop-i.invariant.0 c.loop-i-test.false c.loop-i.invariant.1 c.in-Some.ensures in
    let n = c.trade_pair-shares.result in
    let traded = c.trade_pair-shares.ensures in
    let inside = bounds-fills-count g c in
    let sums = still_sums bs ss p stand.0 stand.1 n traded.shares in
    let more = shares_more c.trades.fills c.trades.count (record { pair = p.pair; shares = n }) inside in (
      subst Apart (sym traded.bought) (still_apart bs p.buy n stand.0.0 inv.0),
      subst Apart (sym traded.sold) (still_apart ss p.sell n stand.1.0 inv.1),
      λ m. inv.2 m ∙ sym (pairs_kept bs ss p.buy p.sell n _ _ traded.bought traded.sold m),
      still_room c.trades.fills c.trades.count _ _ _ inv.3 (trades-smaller g c),
      still_inside c.trades.fills c.trades.count _ inside,
      kept_behind c.trades.fills c.args.fills.now c.trades.count _ inv.5,
      λ rest greedy.
          subst (Greedy before (left_of c.args.buys.now) (left_of c.args.sells.now)) (push_mapped trade_of c.trades.fills c.trades.count (record { pair = p.pair; shares = n }) rest inside)
          (inv.6 _ (greedy_more bs ss inv.0 inv.1 p stand.0 stand.1 ahead c.args.buys.now c.args.sells.now inv.2 unbeaten n traded.shares rest
          (subst (λ l. Greedy before (left_of l) (left_of (given_up ss p.sell n)) rest) traded.bought (subst (λ l. Greedy before (left_of c.trade_pair-shares.new.buys) (left_of l) rest) traded.sold greedy)))),
      omega (arith, inv.7, more, sums.0, ap all_left traded.bought),
      omega (arith, inv.8, more, sums.1, ap all_left traded.sold),
      all_more (NamesFound c.args.buys.now c.args.sells.now) c.trades.fills c.trades.count (record { pair = p.pair; shares = n }) inside inv.9
          (sym (inv.2 (pair_name p.pair) ∙ named bs ss inv.0 inv.1 p stand.0 stand.1)),
    )

pub returns-then-more-listed-clause-greedy : goal.returns-then-more-listed-clause-greedy
returns-then-more-listed-clause-greedy g c =
    let before = by_name (g.R.PairingRule.ahead c.args.rule.now.rule) c.args.buys.now c.args.sells.now in
    let spent = no_pair_with (get_or c.trades.buys c.loop-i.i vacant) c.loop-i.i c.trades.sells (omega (arith, c.if-more-listed.true, c.add_pairs-more.ensures.count)) in
    subst (Greedy before (left_of c.args.buys.now) (left_of c.args.sells.now)) (append-nil _) (c.trades.invariant.6 [] (inr spent))

pub returns-then-more-listed-clause-all : goal.returns-then-more-listed-clause-all
returns-then-more-listed-clause-all g c =
    let spent = no_pair_with (get_or c.trades.buys c.loop-i.i vacant) c.loop-i.i c.trades.sells (omega (arith, c.if-more-listed.true, c.add_pairs-more.ensures.count)) in
    all_traded c.trades.buys c.trades.sells c.trades.invariant.0 c.trades.invariant.1 (inr spent) _ _ _ c.trades.invariant.7 c.trades.invariant.8

pub returns-in_default-clause-greedy : goal.returns-in_default-clause-greedy
returns-in_default-clause-greedy g c =
    let before = by_name (g.R.PairingRule.ahead c.args.rule.now.rule) c.args.buys.now c.args.sells.now in
    let done = none_listed c.trades.buys c.trades.sells c.trades.invariant.0 c.trades.invariant.1 c.loop-i.pairs c.loop-i.i c.loop-i.listed c.loop-i-test.false c.loop-i.invariant.1 c.in_default.ensures in
    subst (Greedy before (left_of c.args.buys.now) (left_of c.args.sells.now)) (append-nil _) (c.trades.invariant.6 [] done)

pub returns-in_default-clause-all : goal.returns-in_default-clause-all
returns-in_default-clause-all g c =
    let done = none_listed c.trades.buys c.trades.sells c.trades.invariant.0 c.trades.invariant.1 c.loop-i.pairs c.loop-i.i c.loop-i.listed c.loop-i-test.false c.loop-i.invariant.1 c.in_default.ensures in
    all_traded c.trades.buys c.trades.sells c.trades.invariant.0 c.trades.invariant.1 done _ _ _ c.trades.invariant.7 c.trades.invariant.8
