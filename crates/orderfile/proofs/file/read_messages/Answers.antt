use Rattle.std.proofs.Common.{is_ok, sym, ap}
use Rattle.std.proofs.ResultArms.{chosen}
use Rattle.std.proofs.lemmas.Result.{err_from_is_err_and}
use Rattle.orderfile.specs.Bodies.{told}
use Rattle.orderfile.specs.Reading.{read_message}
use Rattle.orderfile.proofs.Cutting.{one_more, stuck}
use Rattle.orderfile.proofs.file.read_messages.Goals as goal

pub returns-in_err-body : goal.returns-in_err-body
returns-in_err-body c =
    let p = err_from_is_err_and c.from_residual.result c.from_residual.ensures.1 in
    rw (p.1, p.2) (λ _. stuck told read_message _ _ c.args.count _ _ c.loop.invariant c.loop-test.true _ (sym c.in_err-body.ensures))

pub loop-preserved : goal.loop-preserved
loop-preserved c =
    let pushed = chosen _ _ _ _ c.push.ensures.items (ap is_ok c.in_ok-push.was) in
    one_more told read_message _ _ c.args.count _ _ c.loop.invariant c.loop-test.true _ _ _ _ (sym c.in_ok-body.ensures) pushed c.read_message.ensures
