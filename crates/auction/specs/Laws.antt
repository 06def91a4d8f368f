-- What a member may rely on, whatever the orders are.
use Rattle.std.specs.Prelude.{◌≡◌, ℕ, ◌≤◌, Bool, true, List, [], ◌∷◌, ◌++◌, IfSome, Option}
use Rattle.orders.specs.declared.Side.TheVariants.{Buy, Sell}
use Rattle.orders.specs.declared.found.FoundOrder.{FoundOrder}
use Rattle.ranking.specs.declared.points.PricePoint.{PricePoint}
use Rattle.auction.specs.Best.{Strikes}
use Rattle.auction.specs.Totals.{total, volume}

-- raising the price never raises the shares to buy, nor lowers the shares to sell
abbrev pub Monotone : ℕ → List FoundOrder → Type 0
Monotone p orders = (q : ℕ) → p ≤ q → (total Buy q orders ≤ total Buy p orders) × (total Sell p orders ≤ total Sell q orders)

-- the best volume is 0 only where no open price has volume
abbrev pub TradesIfAny : (ℕ → Bool) → List FoundOrder → Option PricePoint → Type 0
TradesIfAny opens orders r = IfSome r (λ best. best.volume ≡ 0 → (q : ℕ) → opens q ≡ true → volume q orders ≡ 0)

-- the same orders, listed in another order
abbrev pub Reordered : List FoundOrder → List FoundOrder → Type 0
Reordered [] ys = ys ≡ []
Reordered (x ∷ xs) ys = (front : List FoundOrder) × (back : List FoundOrder) × (ys ≡ front ++ x ∷ back) × Reordered xs (front ++ back)

-- the answer does not depend on the order in which the orders are listed
abbrev pub OrderFree : (ℕ → Bool) → ℕ → List FoundOrder → Option PricePoint → Type 0
OrderFree opens R orders r = (others : List FoundOrder) → Reordered orders others → Strikes opens R others r
