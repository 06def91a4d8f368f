use Rattle.std.proofs.Common.{[], refl}
use Rattle.std.proofs.Output.{has_written_of_eq, writes_in_calls_nil}
use Rattle.orders.specs.Tables.{blank}
use Rattle.reference.specs.References.{twice}
use Rattle.report.proofs.Growing.{grown}
use Rattle.transcript.proofs.Standing.{all_shown, spent, row_more}
use Rattle.transcript.proofs.summary.RowsDisplay.fmt.Goals as goal

pub loop-order-init : goal.loop-order-init
loop-order-init g c = ([], refl, λ plain. record { wrote = writes_in_calls_nil g.W.Write.write_str_gives _; plain = plain })

pub loop-order-preserved-then-order-eq0 : goal.loop-order-preserved-then-order-eq0
loop-order-preserved-then-order-eq0 g c =
    let self = c.args.self.now in
    let inv = c.loop-order.invariant in
    (inv.0, spent (g.G.PriceSet.holds self.grid.now) (twice self.pegs) self.orders.now c.loop-order.order-index _ _ inv.1 blank c.loop-order-test.true c.if-order-eq0.true, inv.2)

pub loop-order-preserved : goal.loop-order-preserved
loop-order-preserved g c =
    let self = c.args.self.now in
    let inv = c.loop-order.invariant in
    let more = row_more (g.G.PriceSet.holds self.grid.now) (twice self.pegs) self.orders.now c.loop-order.order-index _ _ inv.1 blank c.loop-order-test.true c.standing_price-price.result c.if-order-eq0.false c.standing_price-price.ensures.value in
    (_, more, λ plain. grown {h = c.write.new.self} (inv.2 plain) (λ p. c.in_ok-write.ensures.writes p refl) refl)

pub returns-clause-writes : goal.returns-clause-writes
returns-clause-writes g c = λ plain _.
    let self = c.args.self.now in
    let inv = c.loop-order.invariant in
    has_written_of_eq g.W.Write.write_str_gives _ _ _ _ (all_shown (g.G.PriceSet.holds self.grid.now) (twice self.pegs) self.orders.now c.loop-order.order-index _ _ inv.1 c.loop-order-test.false) (inv.2 plain)
