-- Text made of pieces, and a price as text.
use Rattle.std.specs.Prelude.{ℕ, ◌/◌, ◌%◌, List, [], ◌∷◌, ◌++◌, codes, decimal}

-- pieces of text, one behind the other
abbrev pub pieces : List (List ℕ) → List ℕ
pieces [] = []
pieces (piece ∷ []) = piece
pieces (piece ∷ next ∷ more) = piece ++ pieces (next ∷ more)

-- n ten-thousandths of a dollar, with four decimals
abbrev pub dollars : ℕ → List ℕ
dollars n = pieces (decimal (n / 10000) ∷ codes "." ∷ decimal (n / 1000 % 10) ∷ decimal (n / 100 % 10) ∷ decimal (n / 10 % 10) ∷ decimal (n % 10) ∷ [])
