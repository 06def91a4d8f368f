-- The list of pairs that can trade: every pair in it can, every pair that can is in it, and it is not too long.
use Rattle.std.proofs.Common.{◌≡◌, ℕ, suc, ◌+◌, ◌*◌, ◌<◌, ◌≤◌, cond, ltb, List, [], ◌∷◌, ◌++◌, length, get_or, sym, refl, ap, subst, inl, inr, arith}
use Rattle.std.proofs.ByRecursion.{All-append, All-weaker}
use Rattle.std.proofs.lemmas.List.{length-append}
use Rattle.std.proofs.lemmas.Bool.{cases_eq, cases_lt, cond-false, cond-true, eq-eqb, ne_eqb, lt-ltb, le-ltb}
use Rattle.std.specs.List.{AllByRecursion}
use Rattle.orders.specs.declared.found.FoundOrder.{FoundOrder}
use Rattle.allocation.specs.Holdings.{left_of, paired, pairs_with, pairs_of, live_pairs}
use Rattle.allocation.specs.Naming.{order_for, pair_for}
use Rattle.allocation.specs.Trades.{SomeOne, Spent}
use Rattle.allocation.specs.declared.held.Holding.{Holding}
use Rattle.allocation.specs.declared.held.LivePair.{LivePair}

few_with : (b : Holding) (i j : ℕ) (ss : List Holding) → length (pairs_with b i j ss) ≤ length ss
few_with b i j [] = omega arith
few_with b i j (s ∷ ss) =
    elim (cases_lt 0 s.left) [
      | inl some ↦ omega (arith, ap length (cond-true _ (paired b s i j ∷ pairs_with b i (j + 1) ss) (pairs_with b i (j + 1) ss) (lt-ltb 0 s.left some)), few_with b i (j + 1) ss)
      | inr none ↦ omega (arith, ap length (cond-false _ (paired b s i j ∷ pairs_with b i (j + 1) ss) (pairs_with b i (j + 1) ss) (le-ltb 0 s.left none)), few_with b i (j + 1) ss)
    ]

few_of : (i : ℕ) (ss : List Holding) (b : Holding) → length (pairs_of i ss b) ≤ length ss
few_of i ss b =
    elim (cases_lt 0 b.left) [
      | inl some ↦ omega (arith, ap length (cond-true _ (pairs_with b i 0 ss) [] (lt-ltb 0 b.left some)), few_with b i 0 ss)
      | inr none ↦ omega (arith, ap length (cond-false _ (pairs_with b i 0 ss) [] (le-ltb 0 b.left none)))
    ]

-- a buy has a pair at most with each sell
few_pairs : (i : ℕ) (bs ss : List Holding) → length (live_pairs i bs ss) ≤ length bs * length ss
few_pairs i [] ss = omega arith
few_pairs i (b ∷ bs) ss = omega (arith, length-append (pairs_of i ss b) (live_pairs (i + 1) bs ss), few_of i ss b, few_pairs (i + 1) bs ss)

pub pairs_fit : (bs ss : List Holding) (b s n : ℕ) → length bs ≡ b → length ss ≡ s → b * s ≤ n → length (live_pairs 0 bs ss) ≤ n
pairs_fit bs ss b s n same_b same_s fits =
    let size : length bs * length ss ≡ b * s = λ i. same_b i * same_s i in
    omega (arith, few_pairs 0 bs ss, size, fits)

-- the order o stands at a place of the list, counted from i, and has a share
record Stands (i : ℕ) (hs : List Holding) (place : ℕ) (o : FoundOrder) : Type 0 where
  pub at : ℕ
  pub is : place ≡ i + at
  pub within : at < length hs
  pub same : (d : Holding) → (get_or hs at d).order ≡ o
  pub some : (d : Holding) → 0 < (get_or hs at d).left

stands_here : (i : ℕ) (h : Holding) (hs : List Holding) → 0 < h.left → Stands i (h ∷ hs) i h.order
stands_here i h hs some = record { at = 0; is = omega arith; within = omega arith; same = λ d. refl; some = λ d. some }

stands_later : (i : ℕ) (h : Holding) (hs : List Holding) (place : ℕ) (o : FoundOrder) → Stands (i + 1) hs place o → Stands i (h ∷ hs) place o
stands_later i h hs place o s = record { at = suc s.at; is = omega (arith, s.is); within = omega (arith, s.within); same = s.same; some = s.some }

-- a list that may have one more in front, or one list more
module _ {X : Type 0} (n : ℕ) (xs ys : List X) where
  when_some : (P : List X → Type 0) → 0 < n → P xs → P (cond (ltb 0 n) xs ys)
  when_some P some p = subst P (sym (cond-true _ xs ys (lt-ltb 0 n some))) p

  when_none : (P : List X → Type 0) → n ≤ 0 → P ys → P (cond (ltb 0 n) xs ys)
  when_none P none p = subst P (sym (cond-false _ xs ys (le-ltb 0 n none))) p

abbrev With : Holding → ℕ → ℕ → List Holding → LivePair → Type 0
With b i j ss p = (p.buy ≡ i) × (p.pair.buy ≡ b.order) × Stands j ss p.sell p.pair.sell

all_with : (b : Holding) (i j : ℕ) (ss : List Holding) → AllByRecursion (With b i j ss) (pairs_with b i j ss)
all_with b i j [] = tt
all_with b i j (s ∷ ss) =
    let rest : AllByRecursion (With b i j (s ∷ ss)) (pairs_with b i (j + 1) ss) = All-weaker _ _ (λ p w. (w.0, w.1, stands_later j s ss _ _ w.2)) _ (all_with b i (j + 1) ss) in
    elim (cases_lt 0 s.left) [
      | inl some ↦ when_some s.left (paired b s i j ∷ pairs_with b i (j + 1) ss) _ (AllByRecursion (With b i j (s ∷ ss))) some ((refl, refl, stands_here j s ss some), rest)
      | inr none ↦ when_none s.left (paired b s i j ∷ pairs_with b i (j + 1) ss) _ (AllByRecursion (With b i j (s ∷ ss))) none rest
    ]

-- both orders of the pair stand in the lists
abbrev Stand : ℕ → List Holding → List Holding → LivePair → Type 0
Stand i bs ss p = Stands i bs p.buy p.pair.buy × Stands 0 ss p.sell p.pair.sell

all_of : (i : ℕ) (b : Holding) (bs ss : List Holding) → AllByRecursion (Stand i (b ∷ bs) ss) (pairs_of i ss b)
all_of i b bs ss =
    elim (cases_lt 0 b.left) [
      | inl some ↦
          when_some b.left (pairs_with b i 0 ss) [] (AllByRecursion (Stand i (b ∷ bs) ss)) some
          (All-weaker _ _
          (λ p w. (subst (λ n. Stands i (b ∷ bs) n p.pair.buy) (sym w.0) (subst (Stands i (b ∷ bs) i) (sym w.1) (stands_here i b bs some)), w.2))
          _ (all_with b i 0 ss))
      | inr none ↦ when_none b.left (pairs_with b i 0 ss) [] (AllByRecursion (Stand i (b ∷ bs) ss)) none tt
    ]

all_stand : (i : ℕ) (bs ss : List Holding) → AllByRecursion (Stand i bs ss) (live_pairs i bs ss)
all_stand i [] ss = tt
all_stand i (b ∷ bs) ss =
    All-append (Stand i (b ∷ bs) ss) (pairs_of i ss b) (live_pairs (i + 1) bs ss) (all_of i b bs ss)
    (All-weaker _ _ (λ p s. (stands_later i b bs _ _ s.0, s.1)) _ (all_stand (i + 1) bs ss))

-- what a list gives for an entry number, where its first order has that number and where not
module _ (h : Holding) (hs : List Holding) (n : ℕ) where
  pub own_first : h.order.entry ≡ n → (left_of (h ∷ hs) n ≡ h.left) × (order_for (h ∷ hs) n ≡ h.order)
  own_first e = (cond-true _ _ _ (eq-eqb _ _ e), cond-true _ _ _ (eq-eqb _ _ e))

  pub own_rest : (h.order.entry ≡ n → ⊥) → (left_of (h ∷ hs) n ≡ left_of hs n) × (order_for (h ∷ hs) n ≡ order_for hs n)
  own_rest ne = (cond-false _ _ _ (ne_eqb _ _ ne), cond-false _ _ _ (ne_eqb _ _ ne))

some_pair_with : (b : Holding) (i j : ℕ) (ss : List Holding) (m : ℕ) → 0 < left_of ss m → SomeOne (λ p. p.pair ≡ record { buy = b.order; sell = order_for ss m }) (pairs_with b i j ss)
some_pair_with b i j [] m has = absurd (omega arith)
some_pair_with b i j (s ∷ ss) m has =
    let Is : LivePair → Type 0 = λ p. p.pair ≡ record { buy = b.order; sell = order_for (s ∷ ss) m } in
    elim (cases_eq s.order.entry m) [
      | inl e ↦
          let own = own_first s ss m e in
          when_some s.left (paired b s i j ∷ pairs_with b i (j + 1) ss) _ (SomeOne Is) (omega (arith, own.0)) (inl (ap (λ o. record { buy = b.order; sell = o }) (sym own.1)))
      | inr ne ↦
          let own = own_rest s ss m ne in
          let rest : SomeOne Is (pairs_with b i (j + 1) ss) = subst (λ o. SomeOne (λ p. p.pair ≡ record { buy = b.order; sell = o }) (pairs_with b i (j + 1) ss)) (sym own.1) (some_pair_with b i (j + 1) ss m (omega (arith, own.0))) in
          elim (cases_lt 0 s.left) [
            | inl some ↦ when_some s.left (paired b s i j ∷ pairs_with b i (j + 1) ss) _ (SomeOne Is) some (inr rest)
            | inr none ↦ when_none s.left (paired b s i j ∷ pairs_with b i (j + 1) ss) _ (SomeOne Is) none rest
          ]
    ]

module _ {X : Type 0} (P : X → Type 0) where
  some_left : (xs ys : List X) → SomeOne P xs → SomeOne P (xs ++ ys)
  some_left [] ys s = absurd s
  some_left (x ∷ xs) ys (inl p) = inl p
  some_left (x ∷ xs) ys (inr s) = inr (some_left xs ys s)

  some_right : (xs ys : List X) → SomeOne P ys → SomeOne P (xs ++ ys)
  some_right [] ys s = s
  some_right (x ∷ xs) ys s = inr (some_right xs ys s)

pub some_pair : (i : ℕ) (bs ss : List Holding) (n : ℕ × ℕ) → 0 < left_of bs n.0 → 0 < left_of ss n.1 → SomeOne (λ p. p.pair ≡ pair_for bs ss n) (live_pairs i bs ss)
some_pair i [] ss n buy sell = absurd (omega arith)
some_pair i (b ∷ bs) ss n buy sell =
    elim (cases_eq b.order.entry n.0) [
      | inl e ↦
          let own = own_first b bs n.0 e in
          some_left _ (pairs_of i ss b) (live_pairs (i + 1) bs ss)
          (when_some b.left (pairs_with b i 0 ss) [] (SomeOne (λ p. p.pair ≡ pair_for (b ∷ bs) ss n)) (omega (arith, own.0))
          (subst (λ o. SomeOne (λ p. p.pair ≡ record { buy = o; sell = order_for ss n.1 }) (pairs_with b i 0 ss)) (sym own.1) (some_pair_with b i 0 ss n.1 sell)))
      | inr ne ↦
          let own = own_rest b bs n.0 ne in
          some_right _ (pairs_of i ss b) (live_pairs (i + 1) bs ss)
          (subst (λ o. SomeOne (λ p. p.pair ≡ record { buy = o; sell = order_for ss n.1 }) (live_pairs (i + 1) bs ss)) (sym own.1) (some_pair (i + 1) bs ss n (omega (arith, own.0)) sell))
    ]

-- the order o stands at a place of the list and has a share
abbrev pub Standing : List Holding → ℕ → FoundOrder → Type 0
Standing hs place o = (place < length hs) × ((d : Holding) → (get_or hs place d).order ≡ o) × ((d : Holding) → 0 < (get_or hs place d).left)

standing : (hs : List Holding) (place : ℕ) (o : FoundOrder) → Stands 0 hs place o → Standing hs place o
standing hs place o s = let is : s.at ≡ place = omega (arith, s.is) in subst (λ n. Standing hs n o) is (s.within, s.same, s.some)

-- both orders of every listed pair stand in the lists
pub all_standing : (bs ss : List Holding) → AllByRecursion (λ p. Standing bs p.buy p.pair.buy × Standing ss p.sell p.pair.sell) (live_pairs 0 bs ss)
all_standing bs ss = All-weaker _ _ (λ p s. (standing bs _ _ s.0, standing ss _ _ s.1)) _ (all_stand 0 bs ss)

pub some_not_none : {X : Type 0} (P : X → Type 0) (xs : List X) → SomeOne P xs → length xs ≡ 0 → ⊥
some_not_none P [] s none = s
some_not_none P (x ∷ xs) s none = omega arith

-- a buy that has no pair leaves the sells without shares
pub no_pair_with : (b : Holding) (i : ℕ) (ss : List Holding) → length (pairs_with b i 0 ss) ≡ 0 → Spent (left_of ss)
no_pair_with b i ss none n =
    elim (cases_lt 0 (left_of ss n)) [
      | inl some ↦ absurd (some_not_none _ _ (some_pair_with b i 0 ss n some) none)
      | inr is ↦ omega arith
    ]
