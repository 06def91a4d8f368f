-- The imbalance notice. R is twice the reference throughout.
use Rattle.std.specs.Prelude.{ℕ, ◌*◌, min, cond, List, map, Some, None, Option, nat_lt}
use Rattle.auction.specs.Totals.{closing_total, market_total, apart}
use Rattle.orders.specs.declared.Side.{Side}
use Rattle.orders.specs.declared.Side.TheVariants.{Buy, Sell}
use Rattle.orders.specs.declared.found.FoundOrder.{FoundOrder}
use Rattle.reference.specs.References.{twice}
use Rattle.reference.specs.declared.Reference.{Reference}
use Rattle.notice.specs.declared.Imbalance.{Imbalance}
use Rattle.notice.specs.declared.Notice.{Notice}

-- an order with its standing price doubled, to compare with R
abbrev pub doubled : FoundOrder → FoundOrder
doubled o =
    record { number = o.number; entry = o.entry; kind = o.kind; side = o.side; broker = o.broker; standing = 2 * o.standing; shares = o.shares }

-- the shares of a side's closing orders that are eligible at the reference: market orders, buys with a doubled price of R or
-- more, sells with one of R or less
abbrev pub closing_at_reference : Side → ℕ → List FoundOrder → ℕ
closing_at_reference side R orders = closing_total side R (map doubled orders)

-- the side with more shares, none where they are equal
abbrev pub heavier : ℕ → ℕ → Option Side
heavier buys sells = cond (nat_lt sells buys) (Some Buy) (cond (nat_lt buys sells) (Some Sell) None)

-- and by how many
abbrev pub imbalance_of : ℕ → ℕ → Imbalance
imbalance_of buys sells = record { side = heavier buys sells; volume = apart buys sells }

-- of closing orders at the reference
abbrev pub reference_imbalance : ℕ → List FoundOrder → Imbalance
reference_imbalance R orders = imbalance_of (closing_at_reference Buy R orders) (closing_at_reference Sell R orders)

-- the smaller closing total at the reference
abbrev pub paired_volume : ℕ → List FoundOrder → ℕ
paired_volume R orders = min (closing_at_reference Buy R orders) (closing_at_reference Sell R orders)

-- of market orders alone
abbrev pub market_imbalance : List FoundOrder → Imbalance
market_imbalance orders = imbalance_of (market_total Buy orders) (market_total Sell orders)

abbrev pub notice_of : Reference → List FoundOrder → Notice
notice_of r orders = record {
  reference = r;
  imbalance = reference_imbalance (twice r) orders;
  paired = paired_volume (twice r) orders;
  market = market_imbalance orders;
}
