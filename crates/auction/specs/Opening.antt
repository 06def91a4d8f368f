-- Which prices are open to a call.
use Rattle.std.specs.Prelude.{◌≡◌, ℕ, Bool, ◌&&◌}
use Rattle.threshold.specs.Percents.{in_fail_band}

-- the prices of a set that lie in the fail band; R is twice the reference
abbrev pub fail_band_of : (ℕ → Bool) → ℕ → ℕ → Bool
fail_band_of holds R p = holds p && in_fail_band R p

abbrev pub OpenInFailBand : (ℕ → Bool) → ℕ → (ℕ → Bool) → Type 0
OpenInFailBand holds R opens = (p : ℕ) → opens p ≡ fail_band_of holds R p
