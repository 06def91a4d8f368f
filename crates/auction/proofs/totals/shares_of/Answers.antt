use Rattle.std.proofs.Common.{refl, arith}
use Rattle.auction.proofs.Summing.{counted, counted_closing}
use Rattle.auction.proofs.totals.shares_of.Goals as goal

pub loop-order-preserved : goal.loop-order-preserved
loop-order-preserved g c =
    let inside = c.loop-order-test.true in
    let inv = c.loop-order.invariant in
    let more = c.with_order-sums.ensures in (
      (omega (arith, inv.0.0, more.small.0), omega (arith, inv.0.1, more.small.1)),
      (omega (arith, inv.1.0, more.small_closing.0), omega (arith, inv.1.1, more.small_closing.1)),
      (λ test tells.
          let told = tells _ _ (record { shown = _; shows = refl; says = record { met = c.counts.ensures } }) in
          counted test _ _ _ _ _ _ inside told (inv.2 test tells) more.all),
      (λ test tells.
          let told = tells _ _ (record { shown = _; shows = refl; says = record { met = c.counts.ensures } }) in
          counted_closing test _ _ _ _ _ _ inside told (inv.3 test tells) more.closing),
    )
