-- What holds of aggressive limits on both sides alike.
use Rattle.std.proofs.Common.{◌≡◌, ℕ, false, arith}
use Rattle.std.proofs.lemmas.Bool.Decides.{nat_tests}
use Rattle.orders.specs.Kinds.{more_aggressive}
use Rattle.orders.specs.declared.Side.{Side}
use Rattle.orders.specs.declared.Side.TheVariants.{Buy, Sell}

-- no limit is more aggressive than itself
pub never_more : (side : Side) (p : ℕ) → more_aggressive side p p ≡ false
never_more Buy p = grind (arith, nat_tests)
never_more Sell p = grind (arith, nat_tests)
