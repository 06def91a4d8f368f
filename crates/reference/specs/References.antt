-- The reference: the midpoint of the quote, else the last sale, else the previous close.
use Rattle.std.specs.Prelude.{◌≡◌, ℕ, ◌+◌, ◌/◌, false, List, [], ◌∷◌, ◌++◌, Some, None, Option}
use Rattle.orders.specs.Kinds.{more_aggressive}
use Rattle.orders.specs.declared.Side.TheVariants.{Buy, Sell}
use Rattle.orders.specs.declared.table.Order.{Order}
use Rattle.reference.specs.Quote.{best_limit}
use Rattle.reference.specs.declared.Reference.{Reference}

-- twice the reference, which is a whole number
abbrev pub twice : Reference → ℕ
twice r = r.one + r.other

-- half of R, which is twice the reference, up to a whole number and down to one
abbrev pub rounded_up : ℕ → ℕ
rounded_up R = (R + 1) / 2

abbrev pub rounded_down : ℕ → ℕ
rounded_down R = R / 2

abbrev pub between : ℕ → ℕ → Reference
between p q = record { one = p; other = q }

-- the last sale, else the previous close
abbrev pub sale_reference : Option ℕ → ℕ → Reference
sale_reference (Some sale) close = between sale sale
sale_reference None close = between close close

-- the midpoint of bid and offer where both exist
abbrev pub quote_reference : Option ℕ → Option ℕ → Reference → Reference
quote_reference (Some bid) (Some offer) otherwise = between bid offer
quote_reference (Some bid) None otherwise = otherwise
quote_reference None offer otherwise = otherwise

abbrev pub reference_of : List Order → Option ℕ → ℕ → Reference
reference_of orders sale close = quote_reference (best_limit Buy orders) (best_limit Sell orders) (sale_reference sale close)

-- o is no more aggressive than the best limit of its side
abbrev pub BehindTheBest : List Order → Order → Type 0
BehindTheBest orders o = (best : ℕ) × (best_limit o.side orders ≡ Some best) × (more_aggressive o.side o.limit best ≡ false)

-- an order behind the best of its side does not move the reference
abbrev pub Steady : List Order → Option ℕ → ℕ → Reference → Type 0
Steady orders sale close r = (o : Order) → BehindTheBest orders o → reference_of (orders ++ (o ∷ [])) sale close ≡ r
