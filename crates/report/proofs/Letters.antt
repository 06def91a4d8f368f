-- The letter of a flag, printed as a character, is one byte.
use Rattle.std.proofs.Common.{◌≡◌, [], ◌∷◌, refl}
use lib.Utf8.{encode}
use Rattle.orders.specs.Letters.{flag_letter}
use Rattle.orders.specs.declared.PegFlag.{PegFlag}
use Rattle.orders.specs.declared.PegFlag.TheVariants.{Pegged, NotPegged}

pub flag_shown : (flag : PegFlag) → encode (flag_letter flag) ≡ flag_letter flag ∷ []
unfolding encode
flag_shown Pegged = refl
flag_shown NotPegged = refl
