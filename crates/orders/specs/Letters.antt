-- The letter that stands for each kind, side and peg flag in an order file.
use Rattle.std.specs.Prelude.{◌≡◌, ℕ, List, [], ◌∷◌, codes, find, Option, MatchOption, ◌==◌, ◌≢◌, slice_index}
use Prim.Native.String.{String}
use Rattle.orders.specs.declared.Kind.{Kind}
use Rattle.orders.specs.declared.Kind.TheVariants.{Market, Limit, Displayed}
use Rattle.orders.specs.declared.PegFlag.{PegFlag}
use Rattle.orders.specs.declared.PegFlag.TheVariants.{Pegged, NotPegged}
use Rattle.orders.specs.declared.Side.{Side}
use Rattle.orders.specs.declared.Side.TheVariants.{Buy, Sell}

-- the ASCII code of a text's first character
abbrev pub ascii : String → ℕ
ascii text = slice_index (codes text) 0

abbrev pub kind_letter : Kind → ℕ
kind_letter Market = ascii "M"
kind_letter Limit = ascii "L"
kind_letter Displayed = ascii "D"

abbrev pub side_letter : Side → ℕ
side_letter Buy = ascii "B"
side_letter Sell = ascii "S"

abbrev pub flag_letter : PegFlag → ℕ
flag_letter Pegged = ascii "P"
flag_letter NotPegged = ascii "N"

-- the first of some choices that a letter stands for
abbrev pub lettered : {A : Type 0} → (A → ℕ) → List A → ℕ → Option A
lettered letter choices b = find (λ x. b == letter x) choices

abbrev pub kinds : List Kind
kinds = Market ∷ Limit ∷ Displayed ∷ []

abbrev pub sides : List Side
sides = Buy ∷ Sell ∷ []

abbrev pub flags : List PegFlag
flags = Pegged ∷ NotPegged ∷ []

abbrev pub kind_of : ℕ → Option Kind
kind_of = lettered kind_letter kinds

abbrev pub side_of : ℕ → Option Side
side_of = lettered side_letter sides

abbrev pub flag_of : ℕ → Option PegFlag
flag_of = lettered flag_letter flags

-- r is the one choice that b stands for, and none only where b stands for no choice
abbrev pub Reads : {A : Type 0} → (A → ℕ) → ℕ → Option A → Type 0
Reads {A} letter b r = MatchOption r ((x : A) → letter x ≢ b) (λ x. letter x ≡ b)
