-- An order that offsets all of an imbalance makes the two closing totals equal.
use Rattle.std.proofs.Common.{◌≡◌, ℕ, ◌+◌, Bool, true, false, cond, ◌&&◌, List, [], ◌∷◌, ◌++◌, map, Some, None, refl, arith}
use Rattle.std.proofs.lemmas.Bool.{both_ways}
use Rattle.std.proofs.lemmas.List.Sums.{sum_by-cons}
use Rattle.std.proofs.lemmas.Bool.Decides.{nat_tests}
use Rattle.auction.specs.Totals.{reaches, trades, closing_at, apart}
use Rattle.orders.specs.Kinds.{is_closing, is_market, same_side}
use Rattle.orders.specs.declared.Kind.{Kind}
use Rattle.orders.specs.declared.Kind.TheVariants.{Market, Limit, Displayed}
use Rattle.orders.specs.declared.Side.{Side}
use Rattle.orders.specs.declared.Side.TheVariants.{Buy, Sell}
use Rattle.orders.specs.declared.found.FoundOrder.{FoundOrder}
use Rattle.notice.specs.Laws.{Leans, EvensOut}
use Rattle.notice.specs.Notices.{doubled, closing_at_reference, heavier, imbalance_of}
use Rattle.notice.specs.declared.Imbalance.{Imbalance}

-- equal totals have no imbalance
no_imbalance : (m n : ℕ) → m ≡ n → imbalance_of m n ≡ record { side = None; volume = 0 }
no_imbalance m n same =
    let none : heavier m n ≡ None = grind (arith, nat_tests) in
    let nothing : apart m n ≡ 0 = omega (arith, same) in
    λ i. record { side = none i; volume = nothing i }

-- a market order brings all its shares to its side
market_brings : (k : Kind) (own side : Side) (reached : Bool) (n : ℕ) → is_market k ≡ true → cond (same_side own side && (is_closing k && trades k reached)) n 0 ≡ cond (same_side own side) n 0
market_brings Market Buy Buy reached n market = refl
market_brings Market Buy Sell reached n market = refl
market_brings Market Sell Buy reached n market = refl
market_brings Market Sell Sell reached n market = refl
market_brings Limit own side reached n market = absurd (both_ways _ refl market)
market_brings Displayed own side reached n market = absurd (both_ways _ refl market)

-- n shares against the heavier side make both sides equal
even_totals : (buys sells n : ℕ) (i : Imbalance) → Leans buys sells i → n ≡ i.volume → (heavy own : Side) → i.side ≡ Some heavy → same_side own heavy ≡ false → buys + cond (same_side own Buy) n 0 ≡ sells + cond (same_side own Sell) n 0
even_totals buys sells n i l whole Buy Buy leans against = absurd (both_ways _ against refl)
even_totals buys sells n i l whole Buy Sell leans against = omega (arith, (l.to_buy leans).0, whole)
even_totals buys sells n i l whole Sell Buy leans against = omega (arith, (l.to_sell leans).0, whole)
even_totals buys sells n i l whole Sell Sell leans against = absurd (both_ways _ against refl)

module _ (R : ℕ) where
  -- an order more adds its shares to each total
  one_more : (side : Side) (o : FoundOrder) (orders : List FoundOrder) → closing_at_reference side R (orders ++ (o ∷ [])) ≡ closing_at_reference side R orders + closing_at side R (doubled o)
  one_more side o [] = omega arith
  one_more side o (x ∷ xs) =
      omega (arith, one_more side o xs, sum_by-cons (closing_at side R) (doubled x) (map doubled xs), sum_by-cons (closing_at side R) (doubled x) (map doubled (xs ++ (o ∷ []))))

  pub evens_out : (orders : List FoundOrder) (i : Imbalance) → Leans (closing_at_reference Buy R orders) (closing_at_reference Sell R orders) i → EvensOut R orders i
  evens_out orders i l o off =
      let brings : (side : Side) → closing_at side R (doubled o) ≡ cond (same_side o.side side) o.shares 0 =
      λ side. market_brings o.kind o.side side (reaches o.side (doubled o).standing R) o.shares off.market in
      let even = even_totals _ _ o.shares i l off.whole off.heavy o.side off.leans off.against in
      no_imbalance _ _ (omega (arith, even, brings Buy, brings Sell, one_more Buy o orders, one_more Sell o orders))
