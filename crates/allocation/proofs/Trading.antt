-- One trade in the lists of holdings.
use Rattle.std.proofs.Common.{◌≡◌, ℕ, zero, suc, ◌+◌, ◌-◌, ◌<◌, ◌≤◌, min, Bool, false, cond, eqb, ◌⊎◌, List, [], ◌∷◌, ◌++◌, length, get_or, take, drop, sum_by, sym, refl, ap, ◌∙◌, subst, inl, inr, arith}
use mathlib.Core.Path.{fun_ext}
use Rattle.std.proofs.ByRecursion.{All-from_get_or, All-get_or, All-set}
use Rattle.std.proofs.lemmas.List.{get_or-take, length-take-le}
use Rattle.std.proofs.lemmas.List.Sums.{sum_by-cons, sum_by-set, get_or-le-sum_by}
use Rattle.std.proofs.lemmas.Bool.{cases_lt}
use Rattle.std.proofs.lemmas.Bool.Decides.{nat_tests}
use Rattle.std.specs.List.{AllByRecursion}
use Rattle.ranking.specs.Ranks.{First}
use Rattle.priority.specs.Pairs.{pair_name}
use Rattle.priority.specs.declared.Pair.{Pair}
use Rattle.allocation.specs.Holdings.{left_of, all_left, vacant, left_at, given_up, live_pairs, no_pair}
use Rattle.allocation.specs.Naming.{Apart, order_for, pair_for, by_name}
use Rattle.allocation.specs.Trades.{Trade, buyer, seller, Spent, Foremost, after, Greedy}
use Rattle.allocation.specs.declared.held.Holding.{Holding}
use Rattle.allocation.specs.declared.held.LivePair.{LivePair}
use Rattle.allocation.proofs.Listing.{Standing, all_standing, own_first, own_rest, some_pair, some_not_none}
use Rattle.allocation.proofs.Pushing.{ended, buys_end}
use Rattle.allocation.proofs.Settling.{some_with}

-- what the lists give for the entry number of the order at a place
own_at : (hs : List Holding) (k : ℕ) → Apart hs → k < length hs
    → (left_of hs (get_or hs k vacant).order.entry ≡ left_at hs k) × (order_for hs (get_or hs k vacant).order.entry ≡ (get_or hs k vacant).order)
own_at [] k a within = absurd (omega arith)
own_at (h ∷ hs) zero a within = own_first h hs _ refl
own_at (h ∷ hs) (suc k) a within =
    let rest = own_at hs k a.1 (omega arith) in
    let own = own_rest h hs (get_or hs k vacant).order.entry (All-get_or _ hs k vacant (omega arith) a.0) in
    (own.0 ∙ rest.0, own.1 ∙ rest.1)

-- shares given up go from the order at the place, and from no other
left_less : (hs : List Holding) (k n : ℕ) → Apart hs → k < length hs → (m : ℕ) → left_of (given_up hs k n) m ≡ left_of hs m - cond (eqb (get_or hs k vacant).order.entry m) n 0
left_less [] k n a within m = absurd (omega arith)
left_less (h ∷ hs) zero n a within m = grind (arith, nat_tests)
left_less (h ∷ hs) (suc k) n a within m =
    let rest = left_less hs k n a.1 (omega arith) m in let apart = All-get_or _ hs k vacant (omega arith) a.0 in grind (arith, nat_tests)

orders_kept : (hs : List Holding) (k n m : ℕ) → order_for (given_up hs k n) m ≡ order_for hs m
orders_kept [] k n m = refl
orders_kept (h ∷ hs) zero n m = refl
orders_kept (h ∷ hs) (suc k) n m = ap (λ o. cond (eqb h.order.entry m) h.order o) (orders_kept hs k n m)

pub pairs_kept : (bs ss : List Holding) (i j n : ℕ) (bs' ss' : List Holding) → bs' ≡ given_up bs i n → ss' ≡ given_up ss j n → (m : ℕ × ℕ) → pair_for bs' ss' m ≡ pair_for bs ss m
pairs_kept bs ss i j n bs' ss' bought sold m =
    let buy = ap (λ l. order_for l m.0) bought ∙ orders_kept bs i n m.0 in
    let sell = ap (λ l. order_for l m.1) sold ∙ orders_kept ss j n m.1 in
    λ t. record { buy = buy t; sell = sell t }

pub still_apart : (hs : List Holding) (k n : ℕ) → k < length hs → Apart hs → Apart (given_up hs k n)
still_apart [] k n within a = a
still_apart (h ∷ hs) zero n within a = a
still_apart (h ∷ hs) (suc k) n within a = (All-set _ hs k _ (All-get_or _ hs k vacant (omega arith) a.0) a.0, still_apart hs k n (omega arith) a.1)

-- how many orders have a share left
abbrev pub live : List Holding → ℕ
live hs = sum_by (λ h. min 1 h.left) hs

pub live_le : (hs : List Holding) → live hs ≤ length hs
live_le [] = omega arith
live_le (h ∷ hs) = omega (arith, sum_by-cons (λ k. min 1 k.left) h hs, live_le hs)

live_at : (hs : List Holding) (k : ℕ) → k < length hs → min 1 (left_at hs k) ≤ live hs
live_at hs k within = get_or-le-sum_by (λ h. min 1 h.left) hs k vacant within

live_less : (hs : List Holding) (k n : ℕ) → k < length hs → live (given_up hs k n) + min 1 (left_at hs k) ≡ live hs + min 1 (left_at hs k - n)
live_less hs k n within = sum_by-set (λ h. min 1 h.left) hs k _ vacant within

-- what the orders have left goes down by what is given up
all_less : (hs : List Holding) (k n : ℕ) → k < length hs → n ≤ left_at hs k → all_left (given_up hs k n) + n ≡ all_left hs
all_less [] k n within fits = absurd (omega arith)
all_less (h ∷ hs) zero n within fits = omega arith
all_less (h ∷ hs) (suc k) n within fits = omega (arith, all_less hs k n (omega arith) fits)

-- a side has no share left, or an order of it has one
spent_or_not : (hs : List Holding) → (Spent (left_of hs) × (all_left hs ≡ 0)) ⊎ ((k : ℕ) × (k < length hs) × (0 < left_at hs k))
spent_or_not [] = inl (λ n. refl, refl)
spent_or_not (h ∷ hs) =
    elim (cases_lt 0 h.left) [
      | inl some ↦ inr (0, omega arith, some)
      | inr none ↦ elim (spent_or_not hs) [
        | inl spent ↦ inl (λ n. let rest = spent.0 n in grind (arith, nat_tests), omega (arith, spent.1))
        | inr at ↦ inr (suc at.0, omega (arith, at.1), at.2)
      ]
    ]

has : (hs : List Holding) → Apart hs → (at : (k : ℕ) × (k < length hs) × (0 < left_at hs k)) → 0 < left_of hs (get_or hs at.0 vacant).order.entry
has hs a at = omega (arith, (own_at hs at.0 a at.1).0, at.2)

spent_sum : (hs : List Holding) → Apart hs → Spent (left_of hs) → all_left hs ≡ 0
spent_sum hs a spent =
    elim (spent_or_not hs) [
      | inl none ↦ none.1
      | inr at ↦ absurd (omega (arith, has hs a at, spent (get_or hs at.0 vacant).order.entry))
    ]

-- once a side is spent, the trades are all that the smaller side had
pub all_traded : (bs ss : List Holding) → Apart bs → Apart ss → Spent (left_of bs) ⊎ Spent (left_of ss) → (traded buys sells : ℕ) → traded + all_left bs ≡ buys → traded + all_left ss ≡ sells → traded ≡ min buys sells
all_traded bs ss a b (inl spent) traded buys sells bought sold = omega (arith, spent_sum bs a spent)
all_traded bs ss a b (inr spent) traded buys sells bought sold = omega (arith, spent_sum ss b spent)

-- a trade of the pair p, which stands in the lists
module _ (bs ss : List Holding) (p : LivePair) (b : Standing bs p.buy p.pair.buy) (s : Standing ss p.sell p.pair.sell) where
  pub both_live : 2 ≤ live bs + live ss
  both_live = omega (arith, live_at bs p.buy b.0, live_at ss p.sell s.0, b.2 vacant, s.2 vacant)

  -- the smaller amount leaves fewer orders with a share
  pub fewer : (n : ℕ) → n ≡ min (left_at bs p.buy) (left_at ss p.sell) → live (given_up bs p.buy n) + live (given_up ss p.sell n) < live bs + live ss
  fewer n is = omega (arith, is, live_less bs p.buy n b.0, live_less ss p.sell n s.0, b.2 vacant, s.2 vacant)

  -- what is traded and what is left make up the same sums
  pub still_sums : (n : ℕ) → n ≡ min (left_at bs p.buy) (left_at ss p.sell) → (all_left (given_up bs p.buy n) + n ≡ all_left bs) × (all_left (given_up ss p.sell n) + n ≡ all_left ss)
  still_sums n is = (all_less bs p.buy n b.0 (omega arith), all_less ss p.sell n s.0 (omega arith))

-- once every buy was looked at, the list is whole
all_listed : (bs ss : List Holding) (pairs : List LivePair) (i listed : ℕ) → length bs ≤ i → take listed pairs ++ live_pairs i (drop i bs) ss ≡ live_pairs 0 bs ss → take listed pairs ≡ live_pairs 0 bs ss
all_listed bs ss pairs i listed all so_far = ended pairs listed _ (buys_end bs ss i _ _ all so_far)

module _ (bs ss : List Holding) (buys_apart : Apart bs) (sells_apart : Apart ss) where
  -- where no pair can trade, one side is spent
  pub none_listed : (pairs : List LivePair) (i listed : ℕ) → length bs ≤ i → take listed pairs ++ live_pairs i (drop i bs) ss ≡ live_pairs 0 bs ss → length (take listed pairs) ≡ 0 → Spent (left_of bs) ⊎ Spent (left_of ss)
  none_listed pairs i listed all so_far empty =
      let none = ap length (sym (all_listed bs ss pairs i listed all so_far)) ∙ empty in
      elim (spent_or_not bs) [
        | inl spent ↦ inl spent.0
        | inr b ↦ elim (spent_or_not ss) [
          | inl spent ↦ inr spent.0
          | inr s ↦ absurd (some_not_none _ _ (some_pair 0 bs ss (_, _) (has bs buys_apart b) (has ss sells_apart s)) none)
        ]
      ]

  module _ (p : LivePair) (b : Standing bs p.buy p.pair.buy) (s : Standing ss p.sell p.pair.sell) where
    -- what each order of a listed pair has left, and that it goes by its entry number
    left_buy : left_of bs p.pair.buy.entry ≡ left_at bs p.buy
    left_buy = subst (λ o. left_of bs o.entry ≡ left_at bs p.buy) (b.1 vacant) (own_at bs p.buy buys_apart b.0).0

    left_sell : left_of ss p.pair.sell.entry ≡ left_at ss p.sell
    left_sell = subst (λ o. left_of ss o.entry ≡ left_at ss p.sell) (s.1 vacant) (own_at ss p.sell sells_apart s.0).0

    -- the orders of the pair are those with its entry numbers
    pub named : pair_for bs ss (pair_name p.pair) ≡ p.pair
    named =
        let buy : order_for bs p.pair.buy.entry ≡ p.pair.buy = subst (λ o. order_for bs o.entry ≡ o) (b.1 vacant) (own_at bs p.buy buys_apart b.0).1 in
        let sell : order_for ss p.pair.sell.entry ≡ p.pair.sell = subst (λ o. order_for ss o.entry ≡ o) (s.1 vacant) (own_at ss p.sell sells_apart s.0).1 in
        λ i. record { buy = buy i; sell = sell i }

    -- The rule goes by the orders as the call found them, which trades do not change.
    module _ (ahead : Pair → Pair → Bool) (bs0 ss0 : List Holding) (same : (n : ℕ × ℕ) → pair_for bs0 ss0 n ≡ pair_for bs ss n) where
      -- the first of the listed pairs is the foremost
      foremost : AllByRecursion (λ q. ahead q.pair p.pair ≡ false) (live_pairs 0 bs ss) → Foremost (by_name ahead bs0 ss0) (left_of bs) (left_of ss) (pair_name p.pair)
      foremost first = record {
        can_trade = (omega (arith, left_buy, b.2 vacant), omega (arith, left_sell, s.2 vacant));
        unbeaten = λ other can.
            some_with _ _ _
            (λ q behind is.
            subst (λ one. ahead one (pair_for bs0 ss0 (pair_name p.pair)) ≡ false) (is ∙ sym (same other))
            (subst (λ two. ahead q.pair two ≡ false) (sym (same (pair_name p.pair) ∙ named)) behind))
            (live_pairs 0 bs ss) first (some_pair 0 bs ss other can.0 can.1);
      }

      -- a trade of the first pair in front of a greedy list of what is left is a greedy list
      pub greedy_more : AllByRecursion (λ q. ahead q.pair p.pair ≡ false) (live_pairs 0 bs ss)
          → (n : ℕ) → n ≡ min (left_at bs p.buy) (left_at ss p.sell) → (rest : List Trade)
          → Greedy (by_name ahead bs0 ss0) (left_of (given_up bs p.buy n)) (left_of (given_up ss p.sell n)) rest
          → Greedy (by_name ahead bs0 ss0) (left_of bs) (left_of ss) (record { pair = pair_name p.pair; shares = n } ∷ rest)
      greedy_more first n is rest g =
          let t : Trade = record { pair = pair_name p.pair; shares = n } in
          let buys : left_of (given_up bs p.buy n) ≡ after buyer (left_of bs) t =
          fun_ext (λ m. left_less bs p.buy n buys_apart b.0 m ∙ ap (λ o. left_of bs m - cond (eqb o.entry m) n 0) (b.1 vacant)) in
          let sells : left_of (given_up ss p.sell n) ≡ after seller (left_of ss) t =
          fun_ext (λ m. left_less ss p.sell n sells_apart s.0 m ∙ ap (λ o. left_of ss m - cond (eqb o.entry m) n 0) (s.1 vacant)) in (
            foremost first,
            omega (arith, is, left_buy, left_sell),
            subst (λ l. Greedy (by_name ahead bs0 ss0) (after buyer (left_of bs) t) l rest) sells (subst (λ l. Greedy (by_name ahead bs0 ss0) l (left_of (given_up ss p.sell n)) rest) buys g),
          )

-- the first of the listed pairs stands in the lists, and no pair that can trade is ahead of it
module _ (ahead : Pair → Pair → Bool) (bs ss : List Holding) (pairs : List LivePair) (i listed k : ℕ) (fits : listed ≤ length pairs) (all : length bs ≤ i) (so_far : take listed pairs ++ live_pairs i (drop i bs) ss ≡ live_pairs 0 bs ss) (first : First (λ p. pair_name p.pair) (λ p q. ahead p.pair q.pair) (take listed pairs) k) where
  whole : take listed pairs ≡ live_pairs 0 bs ss
  whole = all_listed bs ss pairs i listed all so_far

  first_is : get_or (live_pairs 0 bs ss) k no_pair ≡ get_or pairs k no_pair
  first_is = ap (λ l. get_or l k no_pair) (sym whole) ∙ get_or-take listed pairs k no_pair (omega (arith, first.within, length-take-le listed pairs fits))

  pub first_standing : Standing bs (get_or pairs k no_pair).buy (get_or pairs k no_pair).pair.buy × Standing ss (get_or pairs k no_pair).sell (get_or pairs k no_pair).pair.sell
  first_standing =
      subst (λ p. Standing bs p.buy p.pair.buy × Standing ss p.sell p.pair.sell) first_is
      (All-get_or _ (live_pairs 0 bs ss) k no_pair (omega (arith, first.within, ap length whole)) (all_standing bs ss))

  pub first_unbeaten : AllByRecursion (λ q. ahead q.pair (get_or pairs k no_pair).pair ≡ false) (live_pairs 0 bs ss)
  first_unbeaten =
      subst (λ p. AllByRecursion (λ q. ahead q.pair p.pair ≡ false) (live_pairs 0 bs ss)) first_is
      (subst (λ l. AllByRecursion (λ q. ahead q.pair (get_or l k no_pair).pair ≡ false) l) whole (All-from_get_or _ (take listed pairs) no_pair (λ i within. first.unbeaten i no_pair within)))
