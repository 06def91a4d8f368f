use Rattle.std.proofs.Common.{◌≡◌, ◌≤◌, true, length, sym, ap, ◌∙◌, arith}
use Rattle.auction.specs.Orders.{listed}
use Rattle.orders.specs.declared.Side.TheVariants.{Buy, Sell}
use Rattle.allocation.specs.Allocation.{distinct}
use Rattle.allocation.specs.Holdings.{held}
use Rattle.allocation.proofs.Allocating.{not_refused, pairs_fit, fills_fit, buys_apart, sells_apart, allocated, names_orders}
use Rattle.allocation.proofs.allocate.Goals as goal

pub trade_all-requires : goal.trade_all-requires
trade_all-requires g c =
    let orders = listed c.args.orders.now in
    let few : length orders ≤ 128 = omega (arith, ap length c.as_slice.ensures.value, c.as_slice.ensures.few) in
    let all : distinct orders ≡ true = ap distinct (sym c.as_slice.ensures.value) ∙ sym c.if-not-are_distinct.ensures in
    let buys : c.deref_mut.result.now ≡ held Buy c.args.price orders = cc in
    let sells : c.deref_mut-2.result.now ≡ held Sell c.args.price orders = cc in
    record {
      buyers = buys_apart c.args.price orders _ _ buys sells all;
      sellers = sells_apart c.args.price orders _ _ buys sells all;
      work = pairs_fit c.args.price orders _ _ buys sells few _ c.if-pairs-lt-PAIRS.false;
      room = fills_fit c.args.price orders _ _ buys sells few _ c.if-fills-lt-FILLS.false;
    }

pub returns : goal.returns
returns g c =
    let orders = listed c.args.orders.now in
    let all : distinct orders ≡ true = ap distinct (sym c.as_slice.ensures.value) ∙ sym c.if-not-are_distinct.ensures in
    let buys : c.deref_mut.result.now ≡ held Buy c.args.price orders = cc in
    let sells : c.deref_mut-2.result.now ≡ held Sell c.args.price orders = cc in
    let done = c.trade_all.ensures in
    record {
      answer = allocated c.args.price orders _ _ buys sells (g.R.PairingRule.ahead c.args.rule.now) (g.met.R.PairingRule.pairs c.args.rule.now) _ _ _ done.within done.greedy done.all done.others;
      served = not_refused orders _ _ c.if-pairs-lt-PAIRS.false c.if-fills-lt-FILLS.false all;
      cause = tt;
      found = names_orders c.args.price orders _ _ buys sells _ done.found;
    }
