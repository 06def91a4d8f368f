-- A rising list as a set of prices: its first and last price, and the nearest price to a number.
use Rattle.std.specs.Prelude.{◌≡◌, ℕ, zero, suc, ◌<◌, ◌≤◌, true, false, ◌&&◌, List, [], ◌∷◌, ◌++◌, length, take, ◌==◌, ◌≢◌, nat_le, nat_lt, slice_index, refl}
use Rattle.std.proofs.Common.{ap, ◌∙◌, inl, inr, arith}
use Rattle.std.proofs.lemmas.List.{take_at}
use Rattle.std.proofs.lemmas.Bool.{and_from, and_parts, cases_lt, cond_both, eq-eqb, eqb-true, false≢true, le-leb, leb-false, leb-true, lt-ltb, ltb-true, or_cases, or_left, or_right}
use Rattle.grid.specs.Lists.{rising, list_of_prices, first_from, last_to}
use Rattle.grid.specs.Prices.{among, FirstPrice, LastPrice, AtOrAbove}

-- the three parts of the test on a list of prices
pub record Passed (ps : List ℕ) : Type 0 where
  pub some : 0 < length ps
  pub few : length ps ≤ 64
  pub up : rising 0 ps ≡ true

pub passed : (ps : List ℕ) → list_of_prices ps ≡ true → Passed ps
passed ps h =
    let (counted, up) = and_parts (nat_lt 0 (length ps) && nat_le (length ps) 64) (rising 0 ps) h in
    let (some, few) = and_parts (nat_lt 0 (length ps)) (nat_le (length ps) 64) counted in
    record { some = ltb-true 0 (length ps) some; few = leb-true (length ps) 64 few; up = up }

-- the list given stands at the front of the table that it was copied into
pub copied : (given copy rest : List ℕ) → copy ≡ given → take (length given) (copy ++ rest) ≡ given
copied given copy rest e = ap (λ l. take (length given) (l ++ rest)) e ∙ take_at given rest (length given) refl

pub passes : (given : List ℕ) → 0 < length given → length given ≤ 64 → rising 0 given ≡ true → list_of_prices given ≡ true
passes given some few up = and_from _ _ (and_from _ _ (lt-ltb 0 (length given) some) (le-leb (length given) 64 few)) up

none : (p : ℕ) → among [] p ≢ true
none p h = false≢true h

module _ (low p : ℕ) (ps : List ℕ) (up : rising low (p ∷ ps) ≡ true) where
  first_parts : ((nat_lt low p && nat_le p 1000000000) ≡ true) × (rising p ps ≡ true)
  first_parts = and_parts (nat_lt low p && nat_le p 1000000000) (rising p ps) up

  pub over : low < p
  over = ltb-true low p (and_parts (nat_lt low p) (nat_le p 1000000000) first_parts.0).0

  pub under : p ≤ 1000000000
  under = leb-true p 1000000000 (and_parts (nat_lt low p) (nat_le p 1000000000) first_parts.0).1

  pub rest : rising p ps ≡ true
  rest = first_parts.1

this : (p : ℕ) (ps : List ℕ) → among (p ∷ ps) p ≡ true
this p ps = or_left (p == p) (among ps p) (eq-eqb p p refl)

-- every price of a rising list is above what it rises from, and within the range
pub ranged : (low : ℕ) (ps : List ℕ) → rising low ps ≡ true → (p : ℕ) → among ps p ≡ true → (low < p) × (p ≤ 1000000000)
ranged low [] up p h = absurd (none p h)
ranged low (x ∷ xs) up p h =
    let o = over low x xs up in
    let u = under low x xs up in
    elim (or_cases (x == p) (among xs p) h) [
      | inl e ↦ let is = eqb-true x p e in (omega arith, omega arith)
      | inr e ↦ let (l, g) = ranged x xs (rest low x xs up) p e in (omega arith, g)
    ]

pub first_price : (ps : List ℕ) → 0 < length ps → rising 0 ps ≡ true → FirstPrice (among ps) (slice_index ps 0)
first_price [] some up = absurd (omega arith)
first_price (x ∷ xs) some up = record {
  held = this x xs;
  least = λ p h.
      elim (or_cases (x == p) (among xs p) h) [
        | inl e ↦ let is = eqb-true x p e in omega arith
        | inr e ↦ let (l, g) = ranged x xs (rest 0 x xs up) p e in omega arith
      ];
}

pub last_price : (low : ℕ) (ps : List ℕ) (k : ℕ) → suc k ≡ length ps → rising low ps ≡ true → LastPrice (among ps) (slice_index ps k)
last_price low [] k e up = absurd (omega arith)
last_price low (x ∷ []) zero e up = record {
  held = this x [];
  greatest = λ p h. elim (or_cases (x == p) false h) [ inl t ↦ let is = eqb-true x p t in omega arith | inr t ↦ absurd (false≢true t) ];
}
last_price low (x ∷ []) (suc k) e up = absurd (omega arith)
last_price low (x ∷ y ∷ ys) zero e up = absurd (omega arith)
last_price low (x ∷ y ∷ ys) (suc k) e up =
    let more = rest low x (y ∷ ys) up in
    let last = last_price x (y ∷ ys) k (omega arith) more in
    let (l, g) = ranged x (y ∷ ys) more (slice_index (y ∷ ys) k) last.held in
    record {
      held = or_right (x == slice_index (y ∷ ys) k) (among (y ∷ ys) (slice_index (y ∷ ys) k)) last.held;
      greatest = λ p h. elim (or_cases (x == p) (among (y ∷ ys) p) h) [ inl t ↦ let is = eqb-true x p t in omega arith | inr t ↦ last.greatest p t ];
    }

pub from_above : (low n : ℕ) (ps : List ℕ) → rising low ps ≡ true → AtOrAbove (among ps) n (first_from n ps)
from_above low n [] up = record { held = λ z. absurd (omega arith); above = λ z. absurd (omega arith); least = λ p h. absurd (none p h) }
from_above low n (x ∷ xs) up =
    let o = over low x xs up in
    let up' = rest low x xs up in
    let later = from_above x n xs up' in
    cond_both (nat_le n x) x (first_from n xs) (AtOrAbove (among (x ∷ xs)) n)
    (λ here. record {
      held = λ _. this x xs;
      above = λ _. leb-true n x here;
      least = λ p h _. elim (or_cases (x == p) (among xs p) h) [
        | inl t ↦ let is = eqb-true x p t in (omega arith, omega arith)
        | inr t ↦ let (l, g) = ranged x xs up' p t in (omega arith, omega arith)
      ];
    })
    (λ past. record {
      held = λ z. or_right (x == first_from n xs) (among xs (first_from n xs)) (later.held z);
      above = later.above;
      least = λ p h from. elim (or_cases (x == p) (among xs p) h) [
        | inl t ↦ let is = eqb-true x p t in let short = leb-false n x past in absurd (omega arith)
        | inr t ↦ later.least p t from
      ];
    })

-- r is the greatest price of the list at or below n, or `best`, which is below the list
pub record UpTo (best n : ℕ) (ps : List ℕ) (r : ℕ) : Type 0 where
  pub held : best < r → among ps r ≡ true
  pub least : best ≤ r
  pub below : best ≤ n → r ≤ n
  pub greatest : (p : ℕ) → among ps p ≡ true → p ≤ n → p ≤ r

pub to_below : (best n : ℕ) (ps : List ℕ) → rising best ps ≡ true → UpTo best n ps (last_to best n ps)
to_below best n [] up = record { held = λ z. absurd (omega arith); least = omega arith; below = λ h. h; greatest = λ p h. absurd (none p h) }
to_below best n (x ∷ xs) up =
    let o = over best x xs up in
    let up' = rest best x xs up in
    let later = to_below x n xs up' in
    cond_both (nat_le x n) (last_to x n xs) best (UpTo best n (x ∷ xs))
    (λ here. record {
      held = λ z. elim (cases_lt x (last_to x n xs)) [
        | inl l ↦ or_right (x == last_to x n xs) (among xs (last_to x n xs)) (later.held l)
        | inr g ↦ let least = later.least in or_left (x == last_to x n xs) (among xs (last_to x n xs)) (eq-eqb x (last_to x n xs) (omega arith))
      ];
      least = omega (arith, later.least);
      below = λ _. later.below (leb-true x n here);
      greatest = λ p h to. elim (or_cases (x == p) (among xs p) h) [ inl t ↦ let is = eqb-true x p t in omega (arith, later.least) | inr t ↦ later.greatest p t to ];
    })
    (λ past. record {
      held = λ z. absurd (omega arith);
      least = omega arith;
      below = λ h. h;
      greatest = λ p h to.
          let high = leb-false x n past in
          elim (or_cases (x == p) (among xs p) h) [ inl t ↦ let is = eqb-true x p t in absurd (omega arith) | inr t ↦ let (l, g) = ranged x xs up' p t in absurd (omega arith) ];
    })
