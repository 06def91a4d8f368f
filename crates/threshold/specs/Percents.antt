-- How far from the reference a price may be. R is twice the reference throughout.
use Rattle.std.specs.Prelude.{◌≡◌, Bool, cond, ◌&&◌, ℕ, ◌+◌, ◌-◌, ◌*◌, ◌/◌, ◌^◌, ◌<◌, nat_le, nat_lt}

-- a cheaper share may move further: one percentage is for a reference below 1.00 dollar, the other from there on
abbrev pub percent : ℕ → ℕ → ℕ → ℕ
percent cheap dear R = cond (nat_lt R 20000) cheap dear

abbrev pub accept_percent : ℕ → ℕ
accept_percent = percent 5 3

abbrev pub fail_percent : ℕ → ℕ
fail_percent = percent 15 10

-- twice the distance between a price and the reference
abbrev pub distance : ℕ → ℕ → ℕ
distance R p = (2 * p - R) + (R - 2 * p)

-- the price is within so many percent of the reference
abbrev pub within : ℕ → ℕ → ℕ → Bool
within percent R p = nat_le (distance R p * 100) (percent * R)

abbrev pub is_accepted : ℕ → ℕ → Bool
is_accepted R p = within (accept_percent R) R p

abbrev pub in_fail_band : ℕ → ℕ → Bool
in_fail_band R p = within (fail_percent R) R p

-- the lowest and the highest whole price within so many percent
abbrev pub lowest : ℕ → ℕ → ℕ
lowest percent R = ((100 - percent) * R + 199) / 200

abbrev pub highest : ℕ → ℕ → ℕ
highest percent R = (100 + percent) * R / 200

-- exactly the prices from low to high are in the fail band
abbrev pub SpansFailBand : ℕ → ℕ → ℕ → Type 0
SpansFailBand R low high = (p : ℕ) → p < 2 ^ 32 → in_fail_band R p ≡ (nat_le low p && nat_le p high)
