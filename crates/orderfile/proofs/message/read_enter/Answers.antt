use Rattle.std.proofs.Common.{arith, rules}
use Rattle.orderfile.proofs.Fields.{entered}
use Rattle.orderfile.proofs.message.read_enter.Goals as goal

pub returns : goal.returns
returns c =
    entered c.args.fields.now (search rules) (search rules) _ (omega arith) (omega arith) (omega arith) c.enter.ensures
