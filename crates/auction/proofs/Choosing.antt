-- The first of the candidates is the best of all open prices, and the only one.
use Rattle.std.proofs.Common.{◌≡◌, ℕ, zero, suc, ◌<◌, ◌≤◌, Bool, true, false, ◌&&◌, leb, List, length, get_or, Some, None, Option, MatchOption, IsSomeAnd, sym, refl, ap, ◌∙◌, subst, inl, inr, arith}
use Rattle.std.proofs.lemmas.List.{get_or_default}
use Rattle.std.proofs.lemmas.List.Elements.{Contains-get_or}
use Rattle.std.proofs.lemmas.Bool.{and_from, and_parts, both_ways, cases_Bool, cases_eq, cond_both, le-leb, leb-true}
use Rattle.grid.specs.Prices.{WithinRange}
use Rattle.orders.specs.declared.found.FoundOrder.{FoundOrder}
use Rattle.ranking.specs.Ahead.{ahead_ranks}
use Rattle.ranking.specs.Points.{ahead}
use Rattle.ranking.specs.Ranks.{First}
use Rattle.ranking.specs.declared.points.PricePoint.{PricePoint}
use Rattle.auction.specs.Best.{BestPoint, Strikes, better, best_to, best_price}
use Rattle.auction.specs.Candidates.{cuts, candidates}
use Rattle.auction.specs.Totals.{point}
use Rattle.auction.proofs.Leading.{led, tried_sound}

module _ (opens : ℕ → Bool) (R : ℕ) (orders : List FoundOrder) where
  abbrev here : ℕ → PricePoint
  here = point R orders

  module _ (ranged : WithinRange opens) where
    abbrev tried : List PricePoint
    tried = candidates opens R orders

    -- every open price is behind the first candidate, or is its price
    first_is_best : (k : ℕ) (d : PricePoint) → First (λ p. p.price) ahead tried k → BestPoint opens R orders (get_or tried k d)
    first_is_best k d f =
        let best = get_or tried k d in
        let (is_open, is_point) = tried_sound opens ranged R orders (cuts R orders) best (Contains-get_or tried k d f.within) in
        record {
          is_open = is_open;
          is_point = is_point;
          is_ahead = λ q o other.
              let l = led opens ranged R orders q o in
              let (j, inside, at) = l.is_tried in
              let at_d : get_or tried j d ≡ here l.by = get_or_default tried j d (here l.by) inside ∙ at in
              let behind : (l.by ≡ best.price → ⊥) → ahead best (here l.by) ≡ true =
              λ ne. subst (λ x. ahead best x ≡ true) at_d (f.behind j d inside (λ e. ne (sym (ap (λ x. x.price) at_d) ∙ e)))
              in
              elim l.leads [
                | inl e ↦ subst (λ n. ahead best (here n) ≡ true) e (behind (λ same. other (sym e ∙ same)))
                | inr front ↦ elim (cases_eq l.by best.price) [
                  | inl same ↦ subst (λ x. ahead x (here q) ≡ true) (ap here same ∙ sym is_point) front
                  | inr ne ↦ ahead_ranks.chain best (here l.by) (here q) (behind ne) front
                ]
              ];
        }

    -- where nothing is tried no price is open
    none_is_open : length tried ≡ 0 → (p : ℕ) → opens p ≡ false
    none_is_open none p =
        elim (cases_Bool (opens p)) [
          | inl o ↦ let (j, inside, at) = (led opens ranged R orders p o).is_tried in absurd (omega arith)
          | inr shut ↦ shut
        ]

    struck : (list : List PricePoint) (k : ℕ) (d : PricePoint) → list ≡ tried → First (λ p. p.price) ahead list k → Strikes opens R orders (Some (get_or list k d))
    struck list k d is f = subst (λ l. BestPoint opens R orders (get_or l k d)) (sym is) (first_is_best k d (subst (λ l. First (λ p. p.price) ahead l k) is f))

    unstruck : (list : List PricePoint) → list ≡ tried → length list ≡ 0 → Strikes opens R orders None
    unstruck list is none = none_is_open (sym (ap length is) ∙ none)

    -- what is made of the place of the first candidate, if there is one
    pub chosen : {Q : ℕ → PricePoint → Type 0} (list : List PricePoint) (at : Option ℕ) (r : Option PricePoint) → list ≡ tried → MatchOption at (length list ≡ 0) (First (λ p. p.price) ahead list) → MatchOption at (r ≡ None) (λ i. IsSomeAnd r (Q i)) → ((i : ℕ) (x : PricePoint) → i < length list → Q i x → x ≡ get_or list i x) → Strikes opens R orders r
    chosen list None r is none e reads = subst (Strikes opens R orders) (sym e) (unstruck list is none)
    chosen list (Some i) None is f e reads = absurd e
    chosen list (Some i) (Some x) is f e reads = subst (λ y. Strikes opens R orders (Some y)) (sym (reads i x f.within e)) (struck list i x is f)

  -- two best points are the same
  same_best : (x y : PricePoint) → BestPoint opens R orders x → BestPoint opens R orders y → x ≡ y
  same_best x y a b =
      elim (cases_eq y.price x.price) [
        | inl e ↦ a.is_point ∙ ap here (sym e) ∙ sym b.is_point
        | inr ne ↦
            let xy : ahead x y ≡ true = subst (λ z. ahead x z ≡ true) (sym b.is_point) (a.is_ahead y.price b.is_open ne) in
            let yx : ahead y x ≡ true = subst (λ z. ahead y z ≡ true) (sym a.is_point) (b.is_ahead x.price a.is_open (λ e. ne (sym e))) in
            absurd (both_ways (ahead x x) (ahead_ranks.apart x) (ahead_ranks.chain x y x xy yx))
      ]

  pub same_strike : (r s : Option PricePoint) → Strikes opens R orders r → Strikes opens R orders s → r ≡ s
  same_strike None None a b = refl
  same_strike None (Some y) a b = absurd (both_ways _ (a y.price) b.is_open)
  same_strike (Some x) None a b = absurd (both_ways _ (b x.price) a.is_open)
  same_strike (Some x) (Some y) a b = ap Some (same_best x y a b)

  -- the best among the open prices up to n
  abbrev up_to : ℕ → ℕ → Bool
  up_to n p = opens p && leb p n

  inside : (n p : ℕ) → up_to n p ≡ true → (opens p ≡ true) × (p ≤ n)
  inside n p h = let (o, l) = and_parts (opens p) (leb p n) h in (o, leb-true p n l)

  within : (n p : ℕ) → opens p ≡ true → p ≤ n → up_to n p ≡ true
  within n p o l = and_from (opens p) (leb p n) o (le-leb p n l)

  outside : (n p : ℕ) → (opens p ≡ true → p ≤ n → ⊥) → up_to n p ≡ false
  outside n p none = elim (cases_Bool (up_to n p)) [ inl t ↦ let (o, l) = inside n p t in absurd (none o l) | inr f ↦ f ]

  leads : (n : ℕ) → opens (suc n) ≡ true → (r : Option PricePoint) → Strikes (up_to n) R orders r → Strikes (up_to (suc n)) R orders (better (here (suc n)) r)
  leads n o None none = record {
    is_open = within (suc n) (suc n) o (omega arith);
    is_point = refl;
    is_ahead = λ q h other. let (oq, l) = inside (suc n) q h in absurd (both_ways _ (none q) (within n q oq (omega (arith, other))));
  }
  leads n o (Some b) best =
      let x = here (suc n) in
      let (ob, lb) = inside n b.price best.is_open in
      cond_both (ahead x b) (Some x) (Some b) (Strikes (up_to (suc n)) R orders)
      (λ front. record {
        is_open = within (suc n) (suc n) o (omega arith);
        is_point = refl;
        is_ahead = λ q h other.
            let (oq, l) = inside (suc n) q h in
            elim (cases_eq q b.price) [
              | inl e ↦ subst (λ z. ahead x z ≡ true) (best.is_point ∙ ap here (sym e)) front
              | inr ne ↦ ahead_ranks.chain x b (here q) front (best.is_ahead q (within n q oq (omega (arith, other))) ne)
            ];
      })
      (λ behind. record {
        is_open = within (suc n) b.price ob (omega arith);
        is_point = best.is_point;
        is_ahead = λ q h other.
            let (oq, l) = inside (suc n) q h in
            elim (cases_eq q (suc n)) [
              | inl e ↦
                  elim (ahead_ranks.decided x b (λ same. omega (arith, same))) [
                    | inl t ↦ absurd (both_ways _ behind t)
                    | inr t ↦ subst (λ m. ahead b (here m) ≡ true) (sym e) t
                  ]
              | inr ne ↦ best.is_ahead q (within n q oq (omega (arith, ne))) other
            ];
      })

  skips : (n : ℕ) → opens (suc n) ≡ false → (r : Option PricePoint) → Strikes (up_to n) R orders r → Strikes (up_to (suc n)) R orders r
  skips n shut None none = λ p. outside (suc n) p (λ o l. elim (cases_eq p (suc n)) [
    | inl e ↦ both_ways _ shut (subst (λ q. opens q ≡ true) e o)
    | inr ne ↦ both_ways _ (none p) (within n p o (omega (arith, ne)))
  ])
  skips n shut (Some b) best =
      let (ob, lb) = inside n b.price best.is_open in
      record {
        is_open = within (suc n) b.price ob (omega arith);
        is_point = best.is_point;
        is_ahead = λ q h other.
            let (oq, l) = inside (suc n) q h in
            elim (cases_eq q (suc n)) [
              | inl e ↦ absurd (both_ways _ shut (subst (λ m. opens m ≡ true) e oq))
              | inr ne ↦ best.is_ahead q (within n q oq (omega (arith, ne))) other
            ];
      }

  so_far : (n : ℕ) → opens 0 ≡ false → Strikes (up_to n) R orders (best_to opens R orders n)
  so_far zero shut = λ p. outside 0 p (λ o l. let e : p ≡ 0 = omega arith in both_ways _ shut (subst (λ q. opens q ≡ true) e o))
  so_far (suc n) shut =
      cond_both (opens (suc n)) (better (here (suc n)) (best_to opens R orders n)) (best_to opens R orders n) (Strikes (up_to (suc n)) R orders)
      (λ o. leads n o (best_to opens R orders n) (so_far n shut))
      (λ s. skips n s (best_to opens R orders n) (so_far n shut))

  -- the definition of the best price has its meaning
  pub best_strikes : WithinRange opens → Strikes opens R orders (best_price opens R orders)
  unfolding best_price
  best_strikes ranged = go (best_to opens R orders 1000000000) (so_far 1000000000 zero_shut)
    where
      zero_shut : opens 0 ≡ false
      zero_shut = elim (cases_Bool (opens 0)) [ inl o ↦ absurd (omega (arith, (ranged 0 o).0)) | inr f ↦ f ]

      go : (r : Option PricePoint) → Strikes (up_to 1000000000) R orders r → Strikes opens R orders r
      go None none = λ p. elim (cases_Bool (opens p)) [ inl o ↦ absurd (both_ways _ (none p) (within 1000000000 p o (ranged p o).1)) | inr f ↦ f ]
      go (Some b) best = record {
        is_open = (inside 1000000000 b.price best.is_open).0;
        is_point = best.is_point;
        is_ahead = λ q o other. best.is_ahead q (within 1000000000 q o (ranged q o).1) other;
      }
