use Rattle.std.proofs.Common.{◌≡◌, ℕ, ap, ◌∙◌}
use Rattle.auction.specs.Orders.{listed}
use Rattle.auction.specs.Totals.{closing_total}
use Rattle.orders.specs.declared.Side.TheVariants.{Buy, Sell}
use Rattle.reference.specs.References.{twice}
use Rattle.notice.specs.Notices.{closing_at_reference}
use Rattle.notice.proofs.Doubling.{total_same}
use Rattle.notice.proofs.totals_at_reference.Goals as goal

pub returns : goal.returns
returns c =
    let R = twice c.args.auction.now.reference in
    let orders = listed c.args.auction.now.orders.now in
    let buys : c.sum_at-buys.result.closing.0 ≡ closing_at_reference Buy R orders =
    ap (λ (t : ℕ × ℕ). t.0) c.sum_at-buys.ensures.closing ∙ ap (λ p. closing_total Buy p orders) c.rounded_up-up.ensures ∙ total_same R Buy orders
    in
    let sells : c.sum_at-sells.result.closing.1 ≡ closing_at_reference Sell R orders =
    ap (λ (t : ℕ × ℕ). t.1) c.sum_at-sells.ensures.closing ∙ ap (λ p. closing_total Sell p orders) c.rounded_down-down.ensures ∙ total_same R Sell orders
    in
    λ i. (buys i, sells i)
