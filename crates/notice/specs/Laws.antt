-- What an imbalance tells. R is twice the reference.
use Rattle.std.specs.Prelude.{◌≡◌, ℕ, ◌+◌, ◌<◌, true, false, List, [], ◌∷◌, ◌++◌, Some, None}
use Rattle.orders.specs.Kinds.{is_market, same_side}
use Rattle.orders.specs.declared.Side.{Side}
use Rattle.orders.specs.declared.Side.TheVariants.{Buy, Sell}
use Rattle.orders.specs.declared.found.FoundOrder.{FoundOrder}
use Rattle.notice.specs.Notices.{reference_imbalance}
use Rattle.notice.specs.declared.Imbalance.{Imbalance}

-- the volume is what the side has beyond the other, and there is a side exactly where there is a volume
pub record Leans (buys sells : ℕ) (i : Imbalance) : Type 0 where
  pub level : i.side ≡ None → (buys ≡ sells) × (i.volume ≡ 0)
  pub to_buy : i.side ≡ Some Buy → (buys ≡ sells + i.volume) × (0 < i.volume)
  pub to_sell : i.side ≡ Some Sell → (sells ≡ buys + i.volume) × (0 < i.volume)

-- o offsets all of an imbalance: a market order of its volume on the other side
pub record Offsets (i : Imbalance) (o : FoundOrder) : Type 0 where
  pub heavy : Side
  pub leans : i.side ≡ Some heavy
  pub against : same_side o.side heavy ≡ false
  pub market : is_market o.kind ≡ true
  pub whole : o.shares ≡ i.volume

-- with such an order, the sides are even
abbrev pub EvensOut : ℕ → List FoundOrder → Imbalance → Type 0
EvensOut R orders i = (o : FoundOrder) → Offsets i o → reference_imbalance R (orders ++ (o ∷ [])) ≡ record { side = None; volume = 0 }
