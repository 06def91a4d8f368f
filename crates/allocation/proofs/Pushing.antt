-- Loops that list what passes a test: what is listed and what is still to come is the whole.
use Rattle.std.proofs.Common.{◌≡◌, ℕ, ◌+◌, ◌<◌, ◌≤◌, List, [], ◌∷◌, ◌++◌, map, length, get_or, take, drop, set, sym, ap, ◌∙◌, subst, append_assoc, append-nil, arith}
use mathlib.Core.List.{map-append}
use Rattle.std.proofs.ByRecursion.{All-push}
use Rattle.std.proofs.lemmas.List.{at_drop_all, at_drop_more, drop-drop, drop-set-lt, length-append, length-set, length-take-le, take_more_set}
use Rattle.std.proofs.lemmas.Bool.{cond-true, lt-ltb}
use Rattle.std.specs.List.{AllByRecursion}
use Rattle.allocation.specs.Holdings.{paired, pairs_with, pairs_of, live_pairs}
use Rattle.allocation.specs.Naming.{trade_of}
use Rattle.allocation.specs.Trades.{Trade, all_shares}
use Rattle.allocation.specs.declared.held.Fill.{Fill}
use Rattle.allocation.specs.declared.held.Holding.{Holding}
use Rattle.allocation.specs.declared.held.LivePair.{LivePair}

module _ {X : Type 0} (out : List X) (count : ℕ) (whole : List X) where
  pub pushed : (x : X) (rest : List X) → count < length out → take count out ++ (x ∷ rest) ≡ whole → take (count + 1) (set out count x) ++ rest ≡ whole
  pushed x rest inside e = ap (λ l. l ++ rest) (take_more_set out count x inside) ∙ append_assoc (take count out) (x ∷ []) rest ∙ e

  -- where the whole fits, there is room for what is still to come
  pub room : (more rest : List X) → count ≤ length out → length whole ≤ length out → take count out ++ (more ++ rest) ≡ whole → count + length more ≤ length out
  room more rest inside fits e =
      omega (arith, sym (length-append (take count out) (more ++ rest)) ∙ ap length e, length-append more rest, length-take-le count out inside)

  pub room_for_one : (x : X) (rest : List X) → count ≤ length out → length whole ≤ length out → take count out ++ (x ∷ rest) ≡ whole → count < length out
  room_for_one x rest inside fits e = omega (arith, room (x ∷ []) rest inside fits e)

  pub ended : take count out ++ [] ≡ whole → take count out ≡ whole
  ended e = sym (append-nil (take count out)) ∙ e

  pub counted : count ≤ length out → take count out ≡ whole → count ≡ length whole
  counted inside e = sym (length-take-le count out inside) ∙ ap length e

pub still_inside : {X : Type 0} (out : List X) (count : ℕ) (x : X) → count < length out → count + 1 ≤ length (set out count x)
still_inside out count x inside = omega (arith, length-set out count x)

-- the length of what is listed behind the first places
pub length_behind : {X : Type 0} (out : List X) (count : ℕ) (more : List X) → count + length more ≤ length out → length (take count out ++ more) ≡ count + length more
length_behind out count more fits = length-append (take count out) more ∙ ap (λ n. n + length more) (length-take-le count out (omega arith))

-- the pairs of one buy
module _ (b : Holding) (place : ℕ) (sells : List Holding) (j : ℕ) (d : Holding) (inside : j < length sells) (front whole : List LivePair) (so_far : front ++ pairs_with b place j (drop j sells) ≡ whole) where
  next_pair : front ++ pairs_with b place j (get_or sells j d ∷ drop (j + 1) sells) ≡ whole
  next_pair = ap (λ l. front ++ l) (sym (at_drop_more (pairs_with b place j) sells j d inside)) ∙ so_far

  pub paired_in : ((get_or sells j d).left ≡ 0 → ⊥) → front ++ (paired b (get_or sells j d) place j ∷ pairs_with b place (j + 1) (drop (j + 1) sells)) ≡ whole
  paired_in is = ap (λ l. front ++ l) (sym (cond-true _ _ _ (lt-ltb 0 (get_or sells j d).left (omega (arith, is))))) ∙ next_pair

pub pairs_end : (b : Holding) (place : ℕ) (sells : List Holding) (j : ℕ) (front whole : List LivePair) → length sells ≤ j → front ++ pairs_with b place j (drop j sells) ≡ whole → front ++ [] ≡ whole
pairs_end b place sells j front whole all e = ap (λ l. front ++ l) (sym (at_drop_all (pairs_with b place j) sells j all)) ∙ e

-- the pairs of all buys
module _ (buys sells : List Holding) (i : ℕ) (d : Holding) (inside : i < length buys) (front whole : List LivePair) (so_far : front ++ live_pairs i (drop i buys) sells ≡ whole) where
  next_buy : front ++ (pairs_of i sells (get_or buys i d) ++ live_pairs (i + 1) (drop (i + 1) buys) sells) ≡ whole
  next_buy = ap (λ l. front ++ l) (sym (at_drop_more (λ l. live_pairs i l sells) buys i d inside)) ∙ so_far

  pub some_buy : ((get_or buys i d).left ≡ 0 → ⊥) → front ++ (pairs_with (get_or buys i d) i 0 sells ++ live_pairs (i + 1) (drop (i + 1) buys) sells) ≡ whole
  some_buy is = ap (λ l. front ++ (l ++ live_pairs (i + 1) (drop (i + 1) buys) sells)) (sym (cond-true _ _ _ (lt-ltb 0 (get_or buys i d).left (omega (arith, is))))) ∙ next_buy

pub buys_end : (buys sells : List Holding) (i : ℕ) (front whole : List LivePair) → length buys ≤ i → front ++ live_pairs i (drop i buys) sells ≡ whole → front ++ [] ≡ whole
buys_end buys sells i front whole all e = ap (λ l. front ++ l) (sym (at_drop_all (λ l. live_pairs i l sells) buys i all)) ∙ e

pub still_room : {X : Type 0} (out : List X) (count : ℕ) (x : X) (m n : ℕ) → count + m ≤ length out + 1 → n < m → (count + 1) + n ≤ length (set out count x) + 1
still_room out count x m n fits less = omega (arith, length-set out count x)

-- one fill more, as a trade, and what stands behind it
pub push_mapped : {X Y : Type 0} (f : X → Y) (out : List X) (count : ℕ) (x : X) (rest : List Y) → count < length out → map f (take count out) ++ (f x ∷ rest) ≡ map f (take (count + 1) (set out count x)) ++ rest
push_mapped f out count x rest inside =
    sym (ap (λ l. map f l ++ rest) (take_more_set out count x inside) ∙ ap (λ l. l ++ rest) (map-append f (take count out) (x ∷ [])) ∙ append_assoc (map f (take count out)) (f x ∷ []) rest)

pub kept_behind : {X : Type 0} (out before : List X) (count : ℕ) (x : X) → drop count out ≡ drop count before → drop (count + 1) (set out count x) ≡ drop (count + 1) before
kept_behind out before count x e = drop-set-lt (count + 1) out count x (omega arith) ∙ sym (drop-drop 1 count out) ∙ ap (drop 1) e ∙ drop-drop 1 count before

all_shares_append : (ts us : List Trade) → all_shares (ts ++ us) ≡ all_shares ts + all_shares us
all_shares_append [] us = omega arith
all_shares_append (t ∷ ts) us = omega (arith, all_shares_append ts us)

-- the shares of one fill more
pub shares_more : (out : List Fill) (count : ℕ) (f : Fill) → count < length out → all_shares (map trade_of (take (count + 1) (set out count f))) ≡ all_shares (map trade_of (take count out)) + f.shares
shares_more out count f inside =
    ap (λ l. all_shares (map trade_of l)) (take_more_set out count f inside) ∙ ap all_shares (map-append trade_of (take count out) (f ∷ []))
    ∙ all_shares_append (map trade_of (take count out)) (trade_of f ∷ []) ∙ omega arith

-- one fill more of which P holds
pub all_more : (P : Fill → Type 0) (out : List Fill) (count : ℕ) (f : Fill) → count < length out → AllByRecursion P (take count out) → P f → AllByRecursion P (take (count + 1) (set out count f))
all_more P out count f inside all one = subst (AllByRecursion P) (sym (take_more_set out count f inside)) (All-push P (take count out) f all one)
