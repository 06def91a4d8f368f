-- The greedy list is well-formed, blocked by no pair, and in the order of the rule.
use Rattle.std.proofs.Common.{◌≡◌, ℕ, ◌<◌, ◌≤◌, min, Bool, true, false, List, [], ◌∷◌, sym, subst, inl, inr, arith}
use Rattle.std.proofs.ByRecursion.{All-weaker}
use Rattle.std.proofs.lemmas.Bool.{both_ways, cases_eq}
use Rattle.std.proofs.lemmas.Bool.Decides.{nat_tests}
use Rattle.std.specs.List.{AllByRecursion}
use Rattle.ranking.specs.Ranks.{Ranks}
use Rattle.allocation.specs.Trades.{Trade, buyer, seller, taken, traded, SomeOne, InTurn, CanTrade, WouldTrade, Blocks, Follows, Settled, after, Greedy}

pub every_both : {X : Type 0} (P Q : X → Type 0) (xs : List X) → AllByRecursion P xs → AllByRecursion Q xs → AllByRecursion (λ x. P x × Q x) xs
every_both P Q [] p q = tt
every_both P Q (x ∷ xs) p q = ((p.0, q.0), every_both P Q xs p.1 q.1)

in_turn_map : {X : Type 0} (R S : X → X → Type 0) → ((x y : X) → R x y → S x y) → (xs : List X) → InTurn R xs → InTurn S xs
in_turn_map R S f [] e = tt
in_turn_map R S f (x ∷ xs) e = (All-weaker (R x) (S x) (f x) xs e.0, in_turn_map R S f xs e.1)

-- one item is as Q says, and each as P says
pub some_with : {X : Type 0} (P Q : X → Type 0) (C : Type 0) → ((x : X) → P x → Q x → C) → (xs : List X) → AllByRecursion P xs → SomeOne Q xs → C
some_with P Q C f [] e s = absurd s
some_with P Q C f (x ∷ xs) e (inl q) = f x e.0 q
some_with P Q C f (x ∷ xs) e (inr s) = some_with P Q C f xs e.1 s

-- a trade takes of its own orders only, and leaves the rest
pub taken_own : (side : ℕ × ℕ → ℕ) (t : Trade) → taken side t (side t.pair) ≡ t.shares
taken_own side t = grind (arith, nat_tests)

pub taken_other : (side : ℕ × ℕ → ℕ) (t : Trade) (n : ℕ) → (side t.pair ≡ n → ⊥) → taken side t n ≡ 0
taken_other side t n other = grind (arith, nat_tests)

-- no order gives more than it has
pub taken_le : (side : ℕ × ℕ → ℕ) (left : ℕ → ℕ) (t : Trade) → t.shares ≤ left (side t.pair) → (n : ℕ) → taken side t n ≤ left n
taken_le side left t fits n =
    elim (cases_eq (side t.pair) n) [
      | inl e ↦ subst (λ m. taken side t m ≤ left m) e (omega (arith, taken_own side t))
      | inr ne ↦ omega (arith, taken_other side t n ne)
    ]

module _ (before : ℕ × ℕ → ℕ × ℕ → Bool) (law : Ranks (λ (n : ℕ × ℕ). n) before) where
  -- every trade of a greedy list is between orders that have shares at the start
  pub all_can : (buys sells : ℕ → ℕ) (ts : List Trade) → Greedy before buys sells ts → AllByRecursion (λ t. CanTrade buys sells t.pair) ts
  all_can buys sells [] g = tt
  all_can buys sells (t ∷ ts) g = (
    g.0.can_trade,
    All-weaker _ _ (λ u c. (omega (arith, c.0), omega (arith, c.1))) ts (all_can (after buyer buys t) (after seller sells t) ts g.2),
  )

  all_some : (buys sells : ℕ → ℕ) (ts : List Trade) → Greedy before buys sells ts → AllByRecursion (λ t. 0 < t.shares) ts
  all_some buys sells [] g = tt
  all_some buys sells (t ∷ ts) g = (omega (arith, g.1, g.0.can_trade.0, g.0.can_trade.1), all_some (after buyer buys t) (after seller sells t) ts g.2)

  -- after a trade one of its two orders has nothing left
  spent_pair : (buys sells : ℕ → ℕ) (t : Trade) → t.shares ≡ min (buys (buyer t.pair)) (sells (seller t.pair)) → CanTrade (after buyer buys t) (after seller sells t) t.pair → ⊥
  spent_pair buys sells t is c = omega (arith, is, c.0, c.1, taken_own buyer t, taken_own seller t)

  follows : (buys sells : ℕ → ℕ) (ts : List Trade) → Greedy before buys sells ts → Follows before ts
  follows buys sells [] g = tt
  follows buys sells (t ∷ ts) g = (
    All-weaker _ _
        (λ u c.
        elim (law.decided t.pair u.pair (λ same. spent_pair buys sells t g.1 (subst (CanTrade (after buyer buys t) (after seller sells t)) (sym same) c))) [
          | inl ahead ↦ ahead
          | inr behind ↦ absurd (both_ways _ (g.0.unbeaten u.pair (omega (arith, c.0), omega (arith, c.1))) behind)
        ])
        ts (all_can (after buyer buys t) (after seller sells t) ts g.2),
    follows (after buyer buys t) (after seller sells t) ts g.2,
  )

  -- what a side trades is within what it brings
  within_buys : (buys sells : ℕ → ℕ) (ts : List Trade) → Greedy before buys sells ts → (n : ℕ) → traded buyer ts n ≤ buys n
  within_buys buys sells [] g n = omega arith
  within_buys buys sells (t ∷ ts) g n =
      omega (arith, within_buys (after buyer buys t) (after seller sells t) ts g.2 n, taken_le buyer buys t (omega (arith, g.1)) n)

  within_sells : (buys sells : ℕ → ℕ) (ts : List Trade) → Greedy before buys sells ts → (n : ℕ) → traded seller ts n ≤ sells n
  within_sells buys sells [] g n = omega arith
  within_sells buys sells (t ∷ ts) g n =
      omega (arith, within_sells (after buyer buys t) (after seller sells t) ts g.2 n, taken_le seller sells t (omega (arith, g.1)) n)

  -- an order that would trade has a share at the start
  would_has : (side : ℕ × ℕ → ℕ) (left : ℕ → ℕ) (ts : List Trade) (pair : ℕ × ℕ) → AllByRecursion (λ t. 0 < left (side t.pair)) ts → WouldTrade before side left ts pair → 0 < left (side pair)
  would_has side left ts pair all (inl over) = omega arith
  would_has side left ts pair all (inr some) = some_with _ _ _ (λ t has q. subst (λ n. 0 < left n) q.0 has) ts all some

  -- whoever would trade against the whole list would trade against the rest of it
  would_rest : (side : ℕ × ℕ → ℕ) (left : ℕ → ℕ) (t : Trade) (ts : List Trade) (pair : ℕ × ℕ) → (before pair t.pair ≡ false) → taken side t (side pair) ≤ left (side pair) → WouldTrade before side left (t ∷ ts) pair → WouldTrade before side (after side left t) ts pair
  would_rest side left t ts pair behind fits (inl over) = inl (omega arith)
  would_rest side left t ts pair behind fits (inr (inl here)) = absurd (both_ways _ behind here.1)
  would_rest side left t ts pair behind fits (inr (inr there)) = inr there

  unblocked : (buys sells : ℕ → ℕ) (ts : List Trade) → Greedy before buys sells ts → (pair : ℕ × ℕ) → Blocks before buys sells ts pair → ⊥
  unblocked buys sells [] (inl spent) pair b = omega (arith, b.0.0, spent (buyer pair))
  unblocked buys sells [] (inr spent) pair b = omega (arith, b.0.1, spent (seller pair))
  unblocked buys sells (t ∷ ts) g pair b =
      let behind = g.0.unbeaten pair b.0 in
      let can = all_can (after buyer buys t) (after seller sells t) ts g.2 in
      let buy = would_rest buyer buys t ts pair behind (taken_le buyer buys t (omega (arith, g.1)) (buyer pair)) b.1 in
      let sell = would_rest seller sells t ts pair behind (taken_le seller sells t (omega (arith, g.1)) (seller pair)) b.2 in
      let has_buy = would_has buyer (after buyer buys t) ts pair (All-weaker _ _ (λ u c. c.0) ts can) buy in
      let has_sell = would_has seller (after seller sells t) ts pair (All-weaker _ _ (λ u c. c.1) ts can) sell in
      unblocked (after buyer buys t) (after seller sells t) ts g.2 pair ((has_buy, has_sell), buy, sell)

  pub settles : (buys sells : ℕ → ℕ) (ts : List Trade) → Greedy before buys sells ts → Settled before buys sells ts
  settles buys sells ts g = record {
    well_formed = record {
      different = in_turn_map _ _ (λ t u ahead same. both_ways _ (law.apart u.pair) (subst (λ n. before n u.pair ≡ true) same ahead)) ts (follows buys sells ts g);
      eligible = all_can buys sells ts g;
      some = all_some buys sells ts g;
      bought = within_buys buys sells ts g;
      sold = within_sells buys sells ts g;
    };
    unblocked = unblocked buys sells ts g;
    follows = follows buys sells ts g;
  }
