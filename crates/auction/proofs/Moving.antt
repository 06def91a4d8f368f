-- How totals move with the price, and that they do not move with the order of the list.
use Rattle.std.proofs.Common.{◌≡◌, ℕ, ◌+◌, ◌≤◌, min, Bool, true, cond, ◌&&◌, List, [], ◌∷◌, ◌++◌, Some, None, Option, sym, ap, ◌∙◌, subst, inl, inr, arith}
use Rattle.std.proofs.lemmas.List.Sums.{sum_by-append, sum_by-cons, sum_by-le-sum_by}
use Rattle.std.specs.List.{sum_by}
use Rattle.std.proofs.lemmas.Bool.{cases_eq}
use Rattle.std.proofs.lemmas.Bool.Decides.{nat_tests}
use Rattle.orders.specs.Kinds.{same_side}
use Rattle.orders.specs.declared.Kind.{Kind}
use Rattle.orders.specs.declared.Kind.TheVariants.{Market, Limit, Displayed}
use Rattle.orders.specs.declared.Side.{Side}
use Rattle.orders.specs.declared.Side.TheVariants.{Buy, Sell}
use Rattle.orders.specs.declared.found.FoundOrder.{FoundOrder}
use Rattle.ranking.specs.Points.{ahead}
use Rattle.ranking.specs.declared.points.PricePoint.{PricePoint}
use Rattle.threshold.specs.Percents.{distance}
use Rattle.auction.specs.Best.{Strikes}
use Rattle.auction.specs.Laws.{Monotone, TradesIfAny, Reordered, OrderFree}
use Rattle.auction.specs.Totals.{reaches, trades, shares_at, closing_at, volume, apart, point}

fewer_buys : (p q : ℕ) → p ≤ q → (kind : Kind) (side : Side) (s shares : ℕ) → cond (same_side side Buy && trades kind (reaches side s q)) shares 0 ≤ cond (same_side side Buy && trades kind (reaches side s p)) shares 0
fewer_buys p q l Market Buy s shares = omega arith
fewer_buys p q l Market Sell s shares = omega arith
fewer_buys p q l Limit Buy s shares = grind (arith, nat_tests)
fewer_buys p q l Limit Sell s shares = omega arith
fewer_buys p q l Displayed Buy s shares = grind (arith, nat_tests)
fewer_buys p q l Displayed Sell s shares = omega arith

more_sells : (p q : ℕ) → p ≤ q → (kind : Kind) (side : Side) (s shares : ℕ) → cond (same_side side Sell && trades kind (reaches side s p)) shares 0 ≤ cond (same_side side Sell && trades kind (reaches side s q)) shares 0
more_sells p q l Market Buy s shares = omega arith
more_sells p q l Market Sell s shares = omega arith
more_sells p q l Limit Buy s shares = omega arith
more_sells p q l Limit Sell s shares = grind (arith, nat_tests)
more_sells p q l Displayed Buy s shares = omega arith
more_sells p q l Displayed Sell s shares = grind (arith, nat_tests)

pub monotone : (p : ℕ) (orders : List FoundOrder) → Monotone p orders
monotone p orders q l = (
  sum_by-le-sum_by _ _ orders (λ o. fewer_buys p q l o.kind o.side o.standing o.shares),
  sum_by-le-sum_by _ _ orders (λ o. more_sells p q l o.kind o.side o.standing o.shares),
)

-- what is ahead has no less volume
no_less : (x y : PricePoint) → ahead x y ≡ true → y.volume ≤ x.volume
no_less x y a = grind (arith, nat_tests)

pub trades_if_any : (opens : ℕ → Bool) (R : ℕ) (orders : List FoundOrder) (r : Option PricePoint) → Strikes opens R orders r → TradesIfAny opens orders r
trades_if_any opens R orders None none = tt
trades_if_any opens R orders (Some best) b = λ zero q o.
    elim (cases_eq q best.price) [
      | inl e ↦ ap (λ p. volume p orders) e ∙ sym (ap (λ x. x.volume) b.is_point) ∙ zero
      | inr ne ↦ omega (arith, no_less best (point R orders q) (b.is_ahead q o ne), zero)
    ]

sum_moved : (f : FoundOrder → ℕ) (front back : List FoundOrder) (o : FoundOrder) → sum_by f (front ++ o ∷ back) ≡ f o + sum_by f (front ++ back)
sum_moved f front back o = omega (arith, sum_by-append f front (o ∷ back), sum_by-cons f o back, sum_by-append f front back)

sum_reordered : (f : FoundOrder → ℕ) (xs ys : List FoundOrder) → Reordered xs ys → sum_by f xs ≡ sum_by f ys
sum_reordered f [] ys r = sym (ap (sum_by f) r)
sum_reordered f (x ∷ xs) ys r =
    let (front, back, is, rest) = r in
    omega (arith, sum_reordered f xs (front ++ back) rest, sum_moved f front back x, sum_by-cons f x xs, ap (sum_by f) is)

point_reordered : (R : ℕ) (xs ys : List FoundOrder) → Reordered xs ys → (p : ℕ) → point R xs p ≡ point R ys p
point_reordered R xs ys r p = λ i. record {
  price = p;
  volume = min (sum_reordered (shares_at Buy p) xs ys r i) (sum_reordered (shares_at Sell p) xs ys r i);
  imbalance = apart (sum_reordered (closing_at Buy p) xs ys r i) (sum_reordered (closing_at Sell p) xs ys r i);
  distance = distance R p;
}

pub order_free : (opens : ℕ → Bool) (R : ℕ) (orders : List FoundOrder) (r : Option PricePoint) → Strikes opens R orders r → OrderFree opens R orders r
order_free opens R orders None none others same = none
order_free opens R orders (Some best) b others same = record {
  is_open = b.is_open;
  is_point = b.is_point ∙ point_reordered R orders others same best.price;
  is_ahead = λ q o ne. subst (λ x. ahead best x ≡ true) (point_reordered R orders others same q) (b.is_ahead q o ne);
}
