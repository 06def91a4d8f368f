-- Numbers of several bytes, high byte first.
use Rattle.std.specs.Prelude.{ℕ, zero, suc, ◌+◌, ◌*◌, ◌/◌, ◌%◌, ◌<◌, List, [], ◌∷◌, ◌++◌, slice_index}

-- the number that `size` bytes hold from `at` on
abbrev pub number_at : ℕ → ℕ → List ℕ → ℕ
number_at at zero bs = 0
number_at at (suc size) bs = number_at at size bs * 256 + slice_index bs (at + size)

-- n written in `size` bytes
abbrev pub in_bytes : ℕ → ℕ → List ℕ
in_bytes zero n = []
in_bytes (suc size) n = in_bytes size (n / 256) ++ (n % 256 ∷ [])

-- every element is a byte
abbrev pub Bytes : List ℕ → Type 0
Bytes bs = (i : ℕ) → slice_index bs i < 256
