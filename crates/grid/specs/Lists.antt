-- Prices that are given one by one.
use Rattle.std.specs.Prelude.{ℕ, Bool, true, cond, ◌&&◌, List, [], ◌∷◌, length, nat_le, nat_lt}

-- each price is above the one before it, the first above `low`, and none is above 1,000,000,000
abbrev pub rising : ℕ → List ℕ → Bool
rising low [] = true
rising low (p ∷ ps) = (nat_lt low p && nat_le p 1000000000) && rising p ps

-- 1 to 64 prices, strictly rising, each from 1 to 1,000,000,000
abbrev pub list_of_prices : List ℕ → Bool
list_of_prices ps = (nat_lt 0 (length ps) && nat_le (length ps) 64) && rising 0 ps

-- the first price of a rising list at or above n, and 0 where there is none
abbrev pub first_from : ℕ → List ℕ → ℕ
first_from n [] = 0
first_from n (p ∷ ps) = cond (nat_le n p) p (first_from n ps)

-- the last price of a rising list at or below n, and `best` where there is none
abbrev pub last_to : ℕ → ℕ → List ℕ → ℕ
last_to best n [] = best
last_to best n (p ∷ ps) = cond (nat_le p n) (last_to p n ps) best
