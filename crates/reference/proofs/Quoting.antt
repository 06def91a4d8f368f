-- Why the scan finds the best limit of a side, and what does not move it.
use Rattle.std.proofs.Common.{◌≡◌, ℕ, zero, suc, ◌<◌, ◌≤◌, true, false, List, [], ◌∷◌, ◌++◌, length, get_or, take, Some, None, Option, sym, refl, ap, ◌∙◌, subst, inl, inr, add-one, arith}
use Rattle.std.proofs.lemmas.List.{get_or_append_left, get_or_push, length_push, take_all, take_more}
use Rattle.std.proofs.lemmas.List.Sums.{fold_push}
use Rattle.std.proofs.lemmas.Bool.{and_parts, both_ways, cases_Bool, cases_lt, cond-false, cond-true}
use Rattle.std.proofs.lemmas.Bool.Decides.{nat_tests}
use Rattle.orders.proofs.Sides.{never_more}
use Rattle.orders.specs.Kinds.{same_side, more_aggressive}
use Rattle.orders.specs.Tables.{blank}
use Rattle.orders.specs.declared.Side.{Side}
use Rattle.orders.specs.declared.Side.TheVariants.{Buy, Sell}
use Rattle.orders.specs.declared.table.Order.{Order}
use Rattle.reference.specs.Quote.{makes_quote, quotes_on, better_of, best_step, best_limit, Best, BestOfSide}
use Rattle.reference.specs.References.{sale_reference, quote_reference, reference_of, BehindTheBest, Steady}

-- what is no more aggressive than one limit is no more aggressive than a better one
still_less : (side : Side) (p q best : ℕ) → more_aggressive side p best ≡ false → more_aggressive side q best ≡ true → more_aggressive side p q ≡ false
still_less Buy p q best a b = grind (arith, nat_tests)
still_less Sell p q best a b = grind (arith, nat_tests)

one_side : (s t : Side) → same_side s t ≡ true → s ≡ t
one_side Buy Buy e = refl
one_side Buy Sell e = absurd (both_ways _ refl e)
one_side Sell Buy e = absurd (both_ways _ refl e)
one_side Sell Sell e = refl

-- what holds of each order of a list and of one more
each_push : (P : Order → Type 0) (xs : List Order) (o : Order) → ((k : ℕ) → k < length xs → P (get_or xs k blank)) → P o → (k : ℕ) → k < length (xs ++ o ∷ []) → P (get_or (xs ++ o ∷ []) k blank)
each_push P xs o all last k inside =
    elim (cases_lt k (length xs)) [
      | inl l ↦ subst P (sym (get_or_append_left xs (o ∷ []) blank k l)) (all k l)
      | inr g ↦ subst P (sym (get_or_push xs o blank k (omega (arith, length_push xs o)))) last
    ]

module _ (side : Side) (xs : List Order) (o : Order) where
  abbrev Next : Option ℕ → Type 0
  Next = BestOfSide side (xs ++ o ∷ [])

  -- o does not quote on the side
  passed : quotes_on side o ≡ false → (r : Option ℕ) → BestOfSide side xs r → Next r
  passed q None none = each_push (λ x. quotes_on side x ≡ false) xs o none q
  passed q (Some best) b = record {
    place = b.place;
    within = omega (arith, length_push xs o, b.within);
    quotes = subst (λ x. quotes_on side x ≡ true) (sym (get_or_append_left xs (o ∷ []) blank b.place b.within)) b.quotes;
    limit = ap (λ x. x.limit) (get_or_append_left xs (o ∷ []) blank b.place b.within) ∙ b.limit;
    first = each_push (λ x. quotes_on side x ≡ true → more_aggressive side x.limit best ≡ false) xs o b.first (λ t. absurd (both_ways _ q t));
  }

  -- o is the best so far
  leads : quotes_on side o ≡ true → ((k : ℕ) → k < length xs → quotes_on side (get_or xs k blank) ≡ true → more_aggressive side (get_or xs k blank).limit o.limit ≡ false) → Next (Some o.limit)
  leads q others = record {
    place = length xs;
    within = omega (arith, length_push xs o);
    quotes = subst (λ x. quotes_on side x ≡ true) (sym (get_or_push xs o blank (length xs) refl)) q;
    limit = ap (λ x. x.limit) (get_or_push xs o blank (length xs) refl);
    first = each_push (λ x. quotes_on side x ≡ true → more_aggressive side x.limit o.limit ≡ false) xs o others (λ _. never_more side o.limit);
  }

  -- o quotes on the side, and an earlier limit is as good
  follows : (best : ℕ) → Best side xs best → more_aggressive side o.limit best ≡ false → Next (Some best)
  follows best b less = record {
    place = b.place;
    within = omega (arith, length_push xs o, b.within);
    quotes = subst (λ x. quotes_on side x ≡ true) (sym (get_or_append_left xs (o ∷ []) blank b.place b.within)) b.quotes;
    limit = ap (λ x. x.limit) (get_or_append_left xs (o ∷ []) blank b.place b.within) ∙ b.limit;
    first = each_push (λ x. quotes_on side x ≡ true → more_aggressive side x.limit best ≡ false) xs o b.first (λ _. less);
  }

  joined : quotes_on side o ≡ true → (r : Option ℕ) → BestOfSide side xs r → Next (better_of side r o.limit)
  joined q None none = leads q (λ k l t. absurd (both_ways _ (none k l) t))
  joined q (Some best) b =
      elim (cases_Bool (more_aggressive side o.limit best)) [
        | inl more ↦ subst Next (sym (cond-true _ _ _ more)) (leads q (λ k l t. still_less side (get_or xs k blank).limit o.limit best (b.first k l t) more))
        | inr less ↦ subst Next (sym (cond-false _ _ _ less)) (follows best b less)
      ]

  step : (r : Option ℕ) → BestOfSide side xs r → Next (best_step side r o)
  step r b =
      elim (cases_Bool (quotes_on side o)) [
        | inl q ↦ subst Next (sym (cond-true _ _ _ q)) (joined q r b)
        | inr q ↦ subst Next (sym (cond-false _ _ _ q)) (passed q r b)
      ]

so_far : (side : Side) (orders : List Order) (i : ℕ) → i ≤ length orders → BestOfSide side (take i orders) (best_limit side (take i orders))
so_far side orders zero within = λ k l. absurd (omega arith)
so_far side orders (suc i) within =
    let front = take i orders in
    let o = get_or orders i blank in
    let grows : take (suc i) orders ≡ front ++ o ∷ [] = rw (← add-one) (take_more orders i blank (omega arith)) in
    let next = step side front o (best_limit side front) (so_far side orders i (omega arith)) in
    subst (λ l. BestOfSide side l (best_limit side l)) (sym grows)
    (subst (BestOfSide side (front ++ o ∷ [])) (sym (fold_push (best_step side) None front o)) next)

-- the limit that the fold finds is the best of the side
pub is_best : (side : Side) (orders : List Order) → BestOfSide side orders (best_limit side orders)
is_best side orders = subst (λ l. BestOfSide side l (best_limit side l)) (take_all (length orders) orders (omega arith)) (so_far side orders (length orders) (omega arith))

-- an order behind the best of its side moves neither side's best
unmoved : (side : Side) (orders : List Order) (o : Order) → BehindTheBest orders o → best_limit side (orders ++ o ∷ []) ≡ best_limit side orders
unmoved side orders o behind =
    fold_push (best_step side) None orders o
    ∙ elim (cases_Bool (quotes_on side o)) as (λ _. best_step side (best_limit side orders) o ≡ best_limit side orders) [
      | inl q ↦
          let (best, is, less) = behind in
          let same = one_side o.side side (and_parts (same_side o.side side) (makes_quote o) q).0 in
          let here : best_limit side orders ≡ Some best = subst (λ s. best_limit s orders ≡ Some best) same is in
          cond-true _ _ _ q
          ∙ ap (λ r. better_of side r o.limit) here
          ∙ cond-false _ _ _ (subst (λ s. more_aggressive s o.limit best ≡ false) same less)
          ∙ sym here
      | inr q ↦ cond-false _ _ _ q
    ]

pub steady : (orders : List Order) (sale : Option ℕ) (close : ℕ) → Steady orders sale close (reference_of orders sale close)
steady orders sale close o behind = λ i. quote_reference (unmoved Buy orders o behind i) (unmoved Sell orders o behind i) (sale_reference sale close)
