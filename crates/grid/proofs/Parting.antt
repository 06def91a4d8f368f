-- Where a search by halves cuts a rising list, and which price stands there.
use Rattle.std.proofs.Common.{◌≡◌, ℕ, zero, suc, ◌+◌, ◌<◌, ◌≤◌, Bool, true, false, nat_eq, nat_le, nat_lt, List, [], ◌∷◌, length, slice_index, slice_index_or, Bor, sym, refl, ◌∙◌, arith}
use Rattle.std.proofs.lemmas.Bool.{cond-true, cond-false, eq-eqb, or_left, or_right}
use Rattle.std.proofs.lemmas.Bool.Decides.{nat_tests}
use Rattle.std.proofs.lemmas.List.Sorted.{IsPartitionPoint-from_clause}
use Rattle.std.specs.Fn.{Mut, Called, ComputesKey}
use Rattle.std.specs.List.Sorted.{IsPartitionedBy, IsPartitionPoint}
use Rattle.grid.specs.Lists.{rising, first_from, last_to}
use Rattle.grid.specs.Prices.{among}
use Rattle.grid.specs.Rising.{rest, ranged}

-- a place of the list holds a price of the set
among_at : (ps : List ℕ) (i d : ℕ) → i < length ps → among ps (slice_index_or ps i d) ≡ true
among_at [] i d short = absurd (omega arith)
among_at (x ∷ xs) zero d short = or_left (nat_eq x x) (among xs x) (eq-eqb x x refl)
among_at (x ∷ xs) (suc i) d short = or_right (nat_eq x (slice_index_or xs i d)) (among xs (slice_index_or xs i d)) (among_at xs i d (omega arith))

-- prices rise with their places
rises : (low : ℕ) (ps : List ℕ) → rising low ps ≡ true → (i j d : ℕ) → i ≤ j → j < length ps → slice_index_or ps i d ≤ slice_index_or ps j d
rises low [] up i j d order short = absurd (omega arith)
rises low (x ∷ xs) up zero zero d order short = omega arith
rises low (x ∷ xs) up zero (suc j) d order short =
    let (l, g) = ranged x xs (rest low x xs up) (slice_index_or xs j d) (among_at xs j d (omega arith)) in
    omega arith
rises low (x ∷ xs) up (suc i) zero d order short = absurd (omega arith)
rises low (x ∷ xs) up (suc i) (suc j) d order short = rises x xs (rest low x xs up) i j d (omega arith) (omega arith)

-- the prices that pass a test come first, if every number below one that passes does too
module _ (ps : List ℕ) (up : rising 0 ps ≡ true) (test : ℕ → Bool) (down : (p q : ℕ) → p ≤ q → test q ≡ true → test p ≡ true) where
  parted : IsPartitionedBy test ps
  parted i j d order short passes = down _ _ (rises 0 ps up i j d order short) passes

  pub cut : {F : Type 0} {g : Mut F (Bor ℕ × Unit {0}) Bool} {f : F} (xs : List ℕ) (k : ℕ) → xs ≡ ps
      → ((q : ℕ → Bool) → ComputesKey g q f → IsPartitionedBy q xs → IsPartitionPoint (λ p. q p ≡ true) (λ p. q p ≡ false) xs k)
      → ((a : Bor ℕ × Unit {0}) (r : Bool) (f' : F) → Called g f a r f' → (r ≡ test a.0.now) × (f' ≡ f))
      → IsPartitionPoint (λ p. test p ≡ true) (λ p. test p ≡ false) ps k
  cut xs k same clause calls = rw (sym same) (IsPartitionPoint-from_clause test xs k clause (rw same parted) calls)

-- a list behind its first price is cut one place earlier
behind_first : (P Q : ℕ → Type 0) (x : ℕ) (xs : List ℕ) (k : ℕ) → IsPartitionPoint P Q (x ∷ xs) (suc k) → IsPartitionPoint P Q xs k
behind_first P Q x xs k (before, behind) = ((λ i d low high. before (suc i) d (omega arith) (omega arith)), (λ i d low high. behind (suc i) d (omega arith) (omega arith)))

-- behind the prices below n stands the first price at or above n, or nothing
pub first_at : (n : ℕ) (ps : List ℕ) (k : ℕ) → IsPartitionPoint (λ p. nat_lt p n ≡ true) (λ p. nat_lt p n ≡ false) ps k → slice_index ps k ≡ first_from n ps
first_at n [] k point = refl
first_at n (x ∷ xs) zero (before, behind) = let over = behind 0 0 (omega arith) (omega arith) in sym (cond-true (nat_le n x) x (first_from n xs) (grind (arith, nat_tests)))
first_at n (x ∷ xs) (suc k) (before, behind) =
    let under = before 0 0 (omega arith) (omega arith) in
    first_at n xs k (behind_first (λ p. nat_lt p n ≡ true) (λ p. nat_lt p n ≡ false) x xs k (before, behind)) ∙ sym (cond-false (nat_le n x) x (first_from n xs) (grind (arith, nat_tests)))

-- where no price is at or below n, the last such price is the one before the list
pub last_before : (best n : ℕ) (ps : List ℕ) (k : ℕ) → k ≡ 0 → IsPartitionPoint (λ p. nat_le p n ≡ true) (λ p. nat_le p n ≡ false) ps k → last_to best n ps ≡ best
last_before best n [] k e point = refl
last_before best n (x ∷ xs) k e (before, behind) = cond-false (nat_le x n) (last_to x n xs) best (behind 0 0 (omega arith) (omega arith))

-- and else the last of those that come first
pub last_at : (best n : ℕ) (ps : List ℕ) (k last : ℕ) → k ≡ last + 1 → last < length ps → IsPartitionPoint (λ p. nat_le p n ≡ true) (λ p. nat_le p n ≡ false) ps k → last_to best n ps ≡ slice_index ps last
last_at best n [] k last e short point = absurd (omega arith)
last_at best n (x ∷ xs) zero last e short point = absurd (omega arith)
last_at best n (x ∷ xs) (suc k) zero e short (before, behind) =
    cond-true (nat_le x n) (last_to x n xs) best (before 0 0 (omega arith) (omega arith)) ∙ last_before x n xs k (omega arith) (behind_first (λ p. nat_le p n ≡ true) (λ p. nat_le p n ≡ false) x xs k (before, behind))
last_at best n (x ∷ xs) (suc k) (suc last) e short (before, behind) =
    cond-true (nat_le x n) (last_to x n xs) best (before 0 0 (omega arith) (omega arith)) ∙ last_at x n xs k last (omega arith) (omega arith) (behind_first (λ p. nat_le p n ≡ true) (λ p. nat_le p n ≡ false) x xs k (before, behind))

-- a number at or below the first price leads to that price
pub first_here : (n : ℕ) (ps : List ℕ) → 0 < length ps → n ≤ slice_index ps 0 → slice_index ps 0 ≡ first_from n ps
first_here n [] some under = absurd (omega arith)
first_here n (x ∷ xs) some under = sym (cond-true (nat_le n x) x (first_from n xs) (grind (arith, nat_tests)))

-- and no price is at or below a number under the first
pub none_under : (best n : ℕ) (ps : List ℕ) → 0 < length ps → n < slice_index ps 0 → last_to best n ps ≡ best
none_under best n [] some under = absurd (omega arith)
none_under best n (x ∷ xs) some under = cond-false (nat_le x n) (last_to x n xs) best (grind (arith, nat_tests))
