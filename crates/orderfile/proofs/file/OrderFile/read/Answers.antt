use Rattle.std.proofs.Common.{Ok, Err, sym, rules}
use Rattle.std.proofs.lemmas.Result.{err_from_is_err_and}
use Rattle.orderfile.specs.Reading.{read_file, contents, UnlessMemory}
use Rattle.orderfile.proofs.Joining.{joins}
use Rattle.orderfile.proofs.Lawful.{lawful}
use Rattle.orderfile.proofs.file.OrderFile.read.Goals as goal

pub returns-in_err-head : goal.returns-in_err-head
returns-in_err-head c =
    let value : UnlessMemory contents c.from_residual.result (read_file c.args.file.now) = search rules in
    record { value = value; law = lawful c.args.file.now (λ i. (c.type_inv.file i).fits) c.from_residual.result value }

pub returns-in_err-messages : goal.returns-in_err-messages
returns-in_err-messages c =
    let head = c.in_ok-head.ensures in
    let refused = c.in_err-messages.ensures in
    let p = err_from_is_err_and c.from_residual-in_err-messages.result c.from_residual-in_err-messages.ensures.1 in
    let value : UnlessMemory contents c.from_residual-in_err-messages.result (read_file c.args.file.now) =
    rw (p.1, p.2) (λ other. joins c.args.file.now _ (Err _) (sym head) (refused other))
    in
    record { value = value; law = lawful c.args.file.now (λ i. (c.type_inv.file i).fits) c.from_residual-in_err-messages.result value }

pub returns : goal.returns
returns c =
    let head = c.in_ok-head.ensures in
    let value = joins c.args.file.now _ (Ok _) (sym head) c.in_ok-messages.ensures in
    record {
      value = value;
      law = lawful c.args.file.now (λ i. (c.type_inv.file i).fits) (Ok (record { head = c.in_ok-head.head; messages = c.in_ok-messages.messages })) value;
    }
