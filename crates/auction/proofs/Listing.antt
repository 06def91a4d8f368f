-- How the candidates are listed: the points around a cut, and around the cuts so far.
use Rattle.std.proofs.Common.{◌≡◌, ℕ, ◌+◌, ◌*◌, ◌<◌, ◌≤◌, Bool, eqb, List, [], ◌∷◌, ◌++◌, length, get_or, take, sym, ap, ◌∙◌, append_assoc, append-nil, arith}
use Rattle.std.proofs.lemmas.List.{flat_map_more, length-append, length-map, length-take-le, map_more}
use Rattle.std.proofs.lemmas.Bool.{cond_both}
use Rattle.std.specs.List.{flat_map}
use Rattle.grid.specs.Prices.{least_from, greatest_to}
use Rattle.orders.specs.declared.found.FoundOrder.{FoundOrder}
use Rattle.ranking.specs.declared.points.PricePoint.{PricePoint}
use Rattle.reference.specs.References.{rounded_down}
use Rattle.auction.specs.Candidates.{cut, point_of, around, cuts}
use Rattle.auction.specs.Totals.{point}

module _ (R : ℕ) (orders : List FoundOrder) where
  at_most_one : (price : ℕ) → length (point_of R orders price) ≤ 1
  at_most_one price = cond_both (eqb price 0) [] (point R orders price ∷ []) (λ l. length l ≤ 1) (λ _. omega arith) (λ _. omega arith)

  module _ (opens : ℕ → Bool) (c : ℕ) where
    pub at_most_two : length (around opens R orders c) ≤ 2
    at_most_two =
        rw length-append (omega (arith, at_most_one (greatest_to opens c), at_most_one (least_from opens (c + 1))))

    both : (below above : ℕ) → below ≡ greatest_to opens c → above ≡ least_from opens (c + 1) → point_of R orders below ++ point_of R orders above ≡ around opens R orders c
    both below above is_below is_above = λ i. point_of R orders (is_below i) ++ point_of R orders (is_above i)

    pub two_listed : (before after once : List PricePoint) (below above : ℕ) → below ≡ greatest_to opens c → above ≡ least_from opens (c + 1) → once ≡ before ++ point_of R orders below → after ≡ once ++ point_of R orders above → after ≡ before ++ around opens R orders c
    two_listed before after once below above is_below is_above first second =
        second
        ∙ ap (λ l. l ++ point_of R orders above) first
        ∙ append_assoc before (point_of R orders below) (point_of R orders above)
        ∙ ap (λ l. before ++ l) (both below above is_below is_above)

  module _ (opens : ℕ → Bool) where
    -- the points around some cuts
    abbrev pub points_at : List ℕ → List PricePoint
    points_at = flat_map (around opens R orders)

    at_most : (cs : List ℕ) → length (points_at cs) ≤ 2 * length cs
    at_most [] = omega arith
    at_most (c ∷ cs) = omega (arith, at_most cs, at_most_two opens c, length-append (around opens R orders c) (points_at cs))

    pub start : (points before : List PricePoint) (c : ℕ) → before ≡ [] → c ≡ rounded_down R → points ≡ before ++ around opens R orders c → points ≡ points_at (cuts R [])
    start points before c none half listed =
        listed ∙ ap (λ l. l ++ around opens R orders c) none ∙ ap (around opens R orders) half ∙ sym (append-nil (around opens R orders (rounded_down R)))

    module _ (items : List FoundOrder) (i : ℕ) (points : List PricePoint) (held : points ≡ points_at (cuts R (take i items))) where
      pub fits : i < length items → length items ≤ 128 → length points + 2 ≤ 258
      fits inside few = omega (arith, ap length held, at_most (cuts R (take i items)), length-map (take i items) cut, length-take-le i items (omega (arith, inside)))

      pub more : (points' : List PricePoint) (c : ℕ) (d : FoundOrder) → i < length items → c ≡ cut (get_or items i d) → points' ≡ points ++ around opens R orders c → points' ≡ points_at (cuts R (take (i + 1) items))
      more points' c d inside at listed =
          listed
          ∙ (λ j. held j ++ around opens R orders (at j))
          ∙ flat_map_more (around opens R orders) [] (cuts R (take i items)) (cut (get_or items i d))
          ∙ ap (λ cs. points_at (rounded_down R ∷ cs)) (sym (map_more cut items i d inside))
