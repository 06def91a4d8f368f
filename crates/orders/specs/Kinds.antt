-- What the kind and the side of an order decide.
use Rattle.std.specs.Prelude.{ℕ, Bool, true, false, nat_lt}
use Rattle.orders.specs.declared.Kind.{Kind}
use Rattle.orders.specs.declared.Kind.TheVariants.{Market, Limit, Displayed}
use Rattle.orders.specs.declared.Side.{Side}
use Rattle.orders.specs.declared.Side.TheVariants.{Buy, Sell}

-- which kinds stand in the displayed book
abbrev pub is_displayed : Kind → Bool
is_displayed Market = false
is_displayed Limit = false
is_displayed Displayed = true

-- which kinds trade at any price
abbrev pub is_market : Kind → Bool
is_market Market = true
is_market Limit = false
is_market Displayed = false

-- which kinds are closing orders and count in the closing imbalance
abbrev pub is_closing : Kind → Bool
is_closing Market = true
is_closing Limit = true
is_closing Displayed = false

abbrev pub same_side : Side → Side → Bool
same_side Buy Buy = true
same_side Buy Sell = false
same_side Sell Buy = false
same_side Sell Sell = true

-- p is more aggressive than q: higher to buy, lower to sell
abbrev pub more_aggressive : Side → ℕ → ℕ → Bool
more_aggressive Buy p q = nat_lt q p
more_aggressive Sell p q = nat_lt p q
