-- Sets of prices, and the nearest price of a set to a number. A set is a test on numbers.
use Rattle.std.specs.Prelude.{◌≡◌, ℕ, zero, suc, ◌-◌, ◌%◌, ◌<◌, ◌≤◌, Bool, true, false, cond, ◌&&◌, ◌||◌, List, [], ◌∷◌, ◌==◌, nat_le, nat_lt}

-- every price is from 1 to 1,000,000,000
abbrev pub WithinRange : (ℕ → Bool) → Type 0
WithinRange holds = (p : ℕ) → holds p ≡ true → (1 ≤ p) × (p ≤ 1000000000)

-- r is the first price of the set
pub record FirstPrice (holds : ℕ → Bool) (r : ℕ) : Type 0 where
  pub held : holds r ≡ true
  pub least : (p : ℕ) → holds p ≡ true → r ≤ p

-- r is the last price of the set
pub record LastPrice (holds : ℕ → Bool) (r : ℕ) : Type 0 where
  pub held : holds r ≡ true
  pub greatest : (p : ℕ) → holds p ≡ true → p ≤ r

-- r is the least price of the set at or above n, and 0 where there is none
pub record AtOrAbove (holds : ℕ → Bool) (n r : ℕ) : Type 0 where
  pub held : 0 < r → holds r ≡ true
  pub above : 0 < r → n ≤ r
  pub least : (p : ℕ) → holds p ≡ true → n ≤ p → (0 < r) × (r ≤ p)

-- r is the greatest price of the set at or below n, and 0 where there is none
pub record AtOrBelow (holds : ℕ → Bool) (n r : ℕ) : Type 0 where
  pub held : 0 < r → holds r ≡ true
  pub below : r ≤ n
  pub greatest : (p : ℕ) → holds p ≡ true → p ≤ n → p ≤ r

-- the least price of the set among so many numbers from n on, and 0 where there is none
abbrev pub least_among : (ℕ → Bool) → ℕ → ℕ → ℕ
least_among holds zero n = 0
least_among holds (suc more) n = cond (holds n) n (least_among holds more (suc n))

-- the same two as functions of the set
unfoldable pub least_from : (ℕ → Bool) → ℕ → ℕ
least_from holds n = least_among holds (1000000001 - n) n

unfoldable pub greatest_to : (ℕ → Bool) → ℕ → ℕ
greatest_to holds zero = 0
greatest_to holds (suc n) = cond (holds (suc n)) (suc n) (greatest_to holds n)

-- multiples of 50 up to 4,950, and of 100 from 5,000 to 1,000,000,000
abbrev pub cents : ℕ → Bool
cents p = cond (nat_lt p 5000) (nat_lt 0 p && p % 50 == 0) (nat_le p 1000000000 && p % 100 == 0)

-- the prices of a set from low to high
abbrev pub between : (ℕ → Bool) → ℕ → ℕ → ℕ → Bool
between holds low high p = holds p && (nat_le low p && nat_le p high)

-- p stands in the list
abbrev pub among : List ℕ → ℕ → Bool
among [] p = false
among (x ∷ xs) p = x == p || among xs p
