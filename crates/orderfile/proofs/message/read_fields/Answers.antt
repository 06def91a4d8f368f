use Rattle.std.proofs.Common.{arith}
use Rattle.std.proofs.lemmas.Bool.Decides.{nat_tests}
use Rattle.orderfile.proofs.message.read_fields.Goals as goal

pub returns-in-65-default : goal.returns-in-65-default
returns-in-65-default c = grind (arith, nat_tests)
