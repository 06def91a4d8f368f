-- Why few prices suffice: every open price is a candidate or behind one.
use Rattle.std.proofs.Common.{◌≡◌, ℕ, zero, suc, ◌+◌, ◌-◌, ◌/◌, ◌<◌, ◌≤◌, Bool, true, eqb, ◌⊎◌, List, [], ◌∷◌, map, sym, refl, subst, inl, inr, arith}
use Rattle.std.proofs.lemmas.Bool.{cases_lt, cond_both, cond-false, eqb-false, ne_eqb}
use Rattle.std.proofs.lemmas.Bool.Decides.{nat_tests}
use Rattle.std.proofs.lemmas.List.Elements.{Contains-append_left, Contains-append_right, Contains-append_cases}
use Rattle.std.specs.List.{flat_map, AllByRecursion, Contains}
use Rattle.grid.proofs.Nearest.{least_from_is, greatest_to_is, above_is, below_is}
use Rattle.grid.specs.Prices.{WithinRange, AtOrAbove, AtOrBelow, least_from, greatest_to}
use Rattle.orders.specs.declared.found.FoundOrder.{FoundOrder}
use Rattle.ranking.specs.Ahead.{ahead_ranks}
use Rattle.ranking.specs.Points.{ahead}
use Rattle.ranking.specs.declared.points.PricePoint.{PricePoint}
use Rattle.threshold.specs.Percents.{distance}
use Rattle.auction.specs.Candidates.{cut, point_of, around, cuts, candidates}
use Rattle.auction.specs.Totals.{point}
use Rattle.auction.proofs.Steady.{Beside, volume_same, imbalance_same}

alone : {X : Type 0} (x y : X) → Contains (y ∷ []) x → y ≡ x
alone x y (zero, inside, is) = is
alone x y (suc k, inside, is) = absurd (omega arith)

-- what f makes of an element stands in what it makes of all
joined : {X Y : Type 0} (f : X → List Y) (y : Y) (x : X) (xs : List X) → Contains xs x → Contains (f x) y → Contains (flat_map f xs) y
joined f y x [] (k, inside, is) b = absurd (omega arith)
joined f y x (z ∷ xs) a b =
    elim (Contains-append_cases (z ∷ []) xs x a) [
      | inl e ↦ Contains-append_left (f z) (flat_map f xs) y (subst (λ w. Contains (f w) y) (sym (alone x z e)) b)
      | inr c ↦ Contains-append_right (f z) (flat_map f xs) y (joined f y x xs c b)
    ]

-- either one of the numbers lies from p to below q, or none does
split : (p q : ℕ) (cs : List ℕ) → ((c : ℕ) × Contains cs c × (p ≤ c) × (c < q)) ⊎ AllByRecursion (Beside p q) cs
split p q [] = inr tt
split p q (c ∷ cs) =
    elim (cases_lt c p) [
      | inl below ↦ elim (split p q cs) [
        | inl (d, a, l, h) ↦ inl (d, Contains-append_right (c ∷ []) cs d a, l, h)
        | inr rest ↦ inr (inl below, rest)
      ]
      | inr from ↦ elim (cases_lt c q) [
        | inl less ↦ inl (c, (0, omega arith, refl), from, less)
        | inr above ↦ elim (split p q cs) [
          | inl (d, a, l, h) ↦ inl (d, Contains-append_right (c ∷ []) cs d a, l, h)
          | inr rest ↦ inr (inr above, rest)
        ]
      ]
    ]

every_cut : (p q : ℕ) (orders : List FoundOrder) → AllByRecursion (Beside p q) (map cut orders) → AllByRecursion (λ o. Beside p q (cut o)) orders
every_cut p q [] b = tt
every_cut p q (o ∷ os) b = (b.0, every_cut p q os b.1)

nearer : (x y : PricePoint) → x.volume ≡ y.volume → x.imbalance ≡ y.imbalance → x.distance < y.distance → ahead x y ≡ true
nearer x y v i d = grind (arith, nat_tests)

module _ (opens : ℕ → Bool) (ranged : WithinRange opens) (R : ℕ) (orders : List FoundOrder) where
  abbrev here : ℕ → PricePoint
  here = point R orders

  abbrev tried : List PricePoint
  tried = candidates opens R orders

  listed : (q : ℕ) → 0 < q → Contains (point_of R orders q) (here q)
  listed q some = subst (λ l. Contains l (here q)) (sym (cond-false _ _ _ (ne_eqb q 0 (λ e. omega arith)))) (0, omega arith, refl)

  -- the greatest open price at or below a cut is tried, and so is the least above it
  below_tried : (c q : ℕ) → Contains (cuts R orders) c → AtOrBelow opens c q → 0 < q → Contains tried (here q)
  below_tried c q a is some =
      joined (around opens R orders) (here q) c (cuts R orders) a
      (Contains-append_left (point_of R orders (greatest_to opens c)) _ (here q)
      (subst (λ p. Contains (point_of R orders p) (here q)) (below_is opens c q is) (listed q some)))

  above_tried : (c q : ℕ) → Contains (cuts R orders) c → AtOrAbove opens (c + 1) q → 0 < q → Contains tried (here q)
  above_tried c q a is some =
      joined (around opens R orders) (here q) c (cuts R orders) a
      (Contains-append_right (point_of R orders (greatest_to opens c)) _ (here q)
      (subst (λ p. Contains (point_of R orders p) (here q)) (above_is opens ranged (c + 1) q is) (listed q some)))

  -- q is a candidate or behind one
  pub record Led (q : ℕ) : Type 0 where
    pub by : ℕ
    pub is_tried : Contains tried (here by)
    pub leads : (by ≡ q) ⊎ (ahead (here by) (here q) ≡ true)

  itself : (q : ℕ) → Contains tried (here q) → Led q
  itself q a = record { by = q; is_tried = a; leads = inl refl }

  passes : (q r : ℕ) → ahead (here q) (here r) ≡ true → Led q → Led r
  passes q r front l = record {
    by = l.by;
    is_tried = l.is_tried;
    leads = inr (elim l.leads [
      | inl e ↦ subst (λ k. ahead (here k) (here r) ≡ true) (sym e) front
      | inr t ↦ ahead_ranks.chain (here l.by) (here q) (here r) t front
    ]);
  }

  -- two open prices with no cut between: the nearer to the reference is ahead
  closer : (p q : ℕ) → p < q → AllByRecursion (Beside p q) (map cut orders) → (distance R p < distance R q → ahead (here p) (here q) ≡ true) × (distance R q < distance R p → ahead (here q) (here p) ≡ true)
  closer p q less none =
      let b = every_cut p q orders none in
      let v = volume_same p q less orders b in
      let i = imbalance_same p q less orders b in
      (λ d. nearer (here p) (here q) v i d, λ d. nearer (here q) (here p) (sym v) (sym i) d)

  -- from an open price at or below the reference: a cut is met before the next price up, or that one is ahead
  step_up : (q : ℕ) → opens q ≡ true → q ≤ R / 2 → ((n : ℕ) → q < n → n ≤ R / 2 → opens n ≡ true → Led n) → Led q
  step_up q is low further =
      let n = least_from opens (q + 1) in
      let next = least_from_is opens ranged (q + 1) in
      elim (cases_lt 0 n) [
        | inr gone ↦
            itself q (below_tried (R / 2) q (0, omega arith, refl) (record {
              held = λ _. is;
              below = low;
              greatest = λ p h to. elim (cases_lt q p) [ inl l ↦ absurd (omega (arith, (next.least p h (omega arith)).0)) | inr g ↦ g ];
            }) (ranged q is).0)
        | inl some ↦
            let over = next.above some in
            elim (split q n (cuts R orders)) [
              | inl (c, a, from, less) ↦
                  itself q (below_tried c q a (record {
                    held = λ _. is;
                    below = from;
                    greatest = λ p h to. elim (cases_lt q p) [ inl l ↦ absurd (omega (arith, (next.least p h (omega arith)).1)) | inr g ↦ g ];
                  }) (ranged q is).0)
              | inr none ↦ elim none.0 [
                | inl below ↦ absurd (omega arith)
                | inr high ↦ passes n q ((closer q n (omega arith) none.1).1 (omega arith)) (further n (omega arith) high (next.held some))
              ]
            ]
      ]

  -- from an open price above the reference: the same downwards
  step_down : (q : ℕ) → opens q ≡ true → R / 2 < q → ((n : ℕ) → n < q → R / 2 < n → opens n ≡ true → Led n) → Led q
  step_down q is high further =
      let n = greatest_to opens (q - 1) in
      let prev = greatest_to_is opens (q - 1) in
      elim (cases_lt 0 n) [
        | inr gone ↦
            itself q (above_tried (R / 2) q (0, omega arith, refl) (record {
              held = λ _. is;
              above = λ _. omega arith;
              least = λ p h from. elim (cases_lt p q) [ inl l ↦ absurd (omega (arith, prev.greatest p h (omega arith), (ranged p h).0)) | inr g ↦ (omega arith, g) ];
            }) (omega arith))
        | inl some ↦
            let under = prev.below in
            elim (split n q (cuts R orders)) [
              | inl (c, a, from, less) ↦
                  itself q (above_tried c q a (record {
                    held = λ _. is;
                    above = λ _. omega arith;
                    least = λ p h over. elim (cases_lt p q) [ inl l ↦ absurd (omega (arith, prev.greatest p h (omega arith))) | inr g ↦ (omega arith, g) ];
                  }) (omega arith))
              | inr none ↦ elim none.0 [
                | inl low ↦ passes n q ((closer n q (omega arith) none.1).0 (omega arith)) (further n (omega arith) low (prev.held some))
                | inr above ↦ absurd (omega arith)
              ]
            ]
      ]

  up : (fuel q : ℕ) → opens q ≡ true → q ≤ R / 2 → R / 2 - q ≤ fuel → Led q
  up zero q is low room = step_up q is low (λ n more to _. absurd (omega arith))
  up (suc fuel) q is low room = step_up q is low (λ n more to o. up fuel n o to (omega arith))

  down : (fuel q : ℕ) → opens q ≡ true → R / 2 < q → q ≤ fuel → Led q
  down zero q is high room = absurd (omega arith)
  down (suc fuel) q is high room = step_down q is high (λ n less from o. down fuel n o from (omega arith))

  pub led : (q : ℕ) → opens q ≡ true → Led q
  led q is = elim (cases_lt (R / 2) q) [ inl high ↦ down q q is high (omega arith) | inr low ↦ up (R / 2) q is low (omega arith) ]

  point_sound : (p : ℕ) (x : PricePoint) → (0 < p → opens p ≡ true) → Contains (point_of R orders p) x → (opens x.price ≡ true) × (x ≡ here x.price)
  point_sound p x held =
      cond_both (eqb p 0) [] (here p ∷ []) (λ l. Contains l x → (opens x.price ≡ true) × (x ≡ here x.price))
      (λ _ a. let (k, inside, at) = a in absurd (omega arith))
      (λ some a.
      let is : x ≡ here p = sym (alone x (here p) a) in
      (subst (λ y. opens y.price ≡ true) (sym is) (held (omega (arith, eqb-false p 0 some))), subst (λ y. y ≡ here y.price) (sym is) refl))

  around_sound : (c : ℕ) (x : PricePoint) → Contains (around opens R orders c) x → (opens x.price ≡ true) × (x ≡ here x.price)
  around_sound c x a =
      elim (Contains-append_cases (point_of R orders (greatest_to opens c)) (point_of R orders (least_from opens (c + 1))) x a) [
        | inl b ↦ point_sound (greatest_to opens c) x (greatest_to_is opens c).held b
        | inr b ↦ point_sound (least_from opens (c + 1)) x (least_from_is opens ranged (c + 1)).held b
      ]

  -- every candidate is the point of an open price
  pub tried_sound : (cs : List ℕ) (x : PricePoint) → Contains (flat_map (around opens R orders) cs) x → (opens x.price ≡ true) × (x ≡ here x.price)
  tried_sound [] x (k, inside, is) = absurd (omega arith)
  tried_sound (c ∷ cs) x a =
      elim (Contains-append_cases (around opens R orders c) (flat_map (around opens R orders) cs) x a) [
        | inl b ↦ around_sound c x b
        | inr b ↦ tried_sound cs x b
      ]
