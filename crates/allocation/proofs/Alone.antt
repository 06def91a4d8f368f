-- There is one settled list: any two have the same first trade, and what is left of them is settled again.
use Rattle.std.proofs.Common.{◌≡◌, ℕ, ◌<◌, ◌≤◌, Bool, true, List, [], ◌∷◌, sym, refl, ap, subst, inl, inr, arith}
use Rattle.std.proofs.ByRecursion.{All-weaker}
use Rattle.std.proofs.lemmas.Bool.{cases_eq, cases_lt}
use Rattle.std.specs.List.{AllByRecursion}
use Rattle.ranking.specs.Ranks.{Ranks}
use Rattle.allocation.specs.Trades.{Trade, buyer, seller, traded, SomeOne, WouldTrade, Settled, after}
use Rattle.allocation.proofs.Settling.{every_both, taken_own, taken_other}

-- an order that trades in a list does so in one of its trades
trades_in_one : (side : ℕ × ℕ → ℕ) (P : Trade → Type 0) (n : ℕ) (ts : List Trade) → AllByRecursion P ts → 0 < traded side ts n → SomeOne (λ t. (side t.pair ≡ n) × P t) ts
trades_in_one side P n [] all some = absurd (omega arith)
trades_in_one side P n (t ∷ ts) all some =
    elim (cases_eq (side t.pair) n) [
      | inl e ↦ inl (e, all.0)
      | inr ne ↦ inr (trades_in_one side P n ts all.1 (omega (arith, taken_other side t n ne)))
    ]

-- each trade is within what its order trades in all
each_within : (side : ℕ × ℕ → ℕ) (left : ℕ → ℕ) (ts : List Trade) → AllByRecursion (λ t. 0 < t.shares) ts → ((n : ℕ) → traded side ts n ≤ left n) → AllByRecursion (λ t. 0 < left (side t.pair)) ts
each_within side left [] some fits = tt
each_within side left (t ∷ ts) some fits = (
  omega (arith, some.0, fits (side t.pair), taken_own side t),
  each_within side left ts some.1 (λ n. omega (arith, fits n)),
)

module _ (before : ℕ × ℕ → ℕ × ℕ → Bool) (law : Ranks (λ (n : ℕ × ℕ). n) before) where
  would_whole : (side : ℕ × ℕ → ℕ) (left : ℕ → ℕ) (t : Trade) (ts : List Trade) (pair : ℕ × ℕ) → WouldTrade before side (after side left t) ts pair → WouldTrade before side left (t ∷ ts) pair
  would_whole side left t ts pair (inl over) = inl (omega arith)
  would_whole side left t ts pair (inr some) = inr (inr some)

  -- an order would rather trade in a pair that is ahead of a whole list
  would_ahead : (side : ℕ × ℕ → ℕ) (left : ℕ → ℕ) (ts : List Trade) (pair : ℕ × ℕ) → AllByRecursion (λ t. before pair t.pair ≡ true) ts → 0 < left (side pair) → WouldTrade before side left ts pair
  would_ahead side left ts pair ahead has =
      elim (cases_lt (traded side ts (side pair)) (left (side pair))) [
        | inl over ↦ inl over
        | inr full ↦ inr (trades_in_one side _ (side pair) ts ahead (omega arith))
      ]

  -- an order that brings more than its first trade takes would trade more of it
  would_more : (side : ℕ × ℕ → ℕ) (left : ℕ → ℕ) (t : Trade) (ts : List Trade) → AllByRecursion (λ u. before t.pair u.pair ≡ true) ts → t.shares < left (side t.pair) → WouldTrade before side left (t ∷ ts) t.pair
  would_more side left t ts ahead more =
      elim (cases_lt (traded side (t ∷ ts) (side t.pair)) (left (side t.pair))) [
        | inl over ↦ inl over
        | inr full ↦ inr (inr (trades_in_one side _ (side t.pair) ts ahead (omega (arith, taken_own side t))))
      ]

  module _ (buys sells : ℕ → ℕ) where
    rest : (t : Trade) (ts : List Trade) → Settled before buys sells (t ∷ ts) → Settled before (after buyer buys t) (after seller sells t) ts
    rest t ts s =
        let w = s.well_formed in
        let bought : (n : ℕ) → traded buyer ts n ≤ after buyer buys t n = λ n. omega (arith, w.bought n) in
        let sold : (n : ℕ) → traded seller ts n ≤ after seller sells t n = λ n. omega (arith, w.sold n) in
        record {
          well_formed = record {
            different = w.different.1;
            eligible = every_both _ _ ts (each_within buyer (after buyer buys t) ts w.some.1 bought) (each_within seller (after seller sells t) ts w.some.1 sold);
            some = w.some.1;
            bought = bought;
            sold = sold;
          };
          unblocked = λ pair b. s.unblocked pair ((omega (arith, b.0.0), omega (arith, b.0.1)), would_whole buyer buys t ts pair b.1, would_whole seller sells t ts pair b.2);
          follows = s.follows.1;
        }

    module _ (t u : Trade) (ts us : List Trade) (s : Settled before buys sells (t ∷ ts)) (r : Settled before buys sells (u ∷ us)) where
      -- a first pair ahead of another list's first pair blocks that list
      not_ahead : before t.pair u.pair ≡ true → ⊥
      not_ahead front =
          let can = s.well_formed.eligible.0 in
          let ahead : AllByRecursion (λ v. before t.pair v.pair ≡ true) (u ∷ us) = (front, All-weaker _ _ (λ v next. law.chain t.pair u.pair v.pair front next) us r.follows.0) in
          r.unblocked t.pair (can, would_ahead buyer buys (u ∷ us) t.pair ahead can.0, would_ahead seller sells (u ∷ us) t.pair ahead can.1)

      -- of two first trades of one pair, the smaller one is blocked by that pair
      not_less : t.pair ≡ u.pair → t.shares < u.shares → ⊥
      not_less same less =
          let buy : t.shares < buys (buyer t.pair) = subst (λ n. t.shares < buys (buyer n)) (sym same) (omega (arith, r.well_formed.bought (buyer u.pair), taken_own buyer u)) in
          let sell : t.shares < sells (seller t.pair) = subst (λ n. t.shares < sells (seller n)) (sym same) (omega (arith, r.well_formed.sold (seller u.pair), taken_own seller u)) in
          s.unblocked t.pair (s.well_formed.eligible.0, would_more buyer buys t ts s.follows.0 buy, would_more seller sells t ts s.follows.0 sell)

    same_pair : (m n : ℕ × ℕ) → (before m n ≡ true → ⊥) → (before n m ≡ true → ⊥) → m ≡ n
    same_pair m n a b =
        elim (cases_eq m.0 n.0) [
          | inl buy ↦ elim (cases_eq m.1 n.1) [
            | inl sell ↦ (λ i. (buy i, sell i))
            | inr ne ↦ absurd (apart (λ e. ne (ap (λ p. p.1) e)))
          ]
          | inr ne ↦ absurd (apart (λ e. ne (ap (λ p. p.0) e)))
        ]
      where
        apart : (m ≡ n → ⊥) → ⊥
        apart ne = elim (law.decided m n ne) [ inl t ↦ a t | inr t ↦ b t ]

    same_first : (t u : Trade) (ts us : List Trade) → Settled before buys sells (t ∷ ts) → Settled before buys sells (u ∷ us) → t ≡ u
    same_first t u ts us s r =
        let pair = same_pair t.pair u.pair (not_ahead t u ts us s r) (not_ahead u t us ts r s) in
        let shares : t.shares ≡ u.shares = omega (arith, not_less t u ts us s r pair, not_less u t us ts r s (sym pair)) in
        λ i. record { pair = pair i; shares = shares i }

  pub alone : (buys sells : ℕ → ℕ) (ts us : List Trade) → Settled before buys sells ts → Settled before buys sells us → ts ≡ us
  alone buys sells [] [] s r = refl
  alone buys sells [] (u ∷ us) s r = let can = r.well_formed.eligible.0 in absurd (s.unblocked u.pair (can, inl can.0, inl can.1))
  alone buys sells (t ∷ ts) [] s r = let can = s.well_formed.eligible.0 in absurd (r.unblocked t.pair (can, inl can.0, inl can.1))
  alone buys sells (t ∷ ts) (u ∷ us) s r =
      let same = same_first buys sells t u ts us s r in
      let r' = subst (λ v. Settled before (after buyer buys v) (after seller sells v) us) (sym same) (rest buys sells u us r) in
      λ i. same i ∷ alone (after buyer buys t) (after seller sells t) ts us (rest buys sells t ts s) r' i
