use Rattle.std.proofs.Common.{map, ap, ◌∙◌, arith}
use Rattle.std.proofs.lemmas.List.{with_items_is}
use Rattle.std.proofs.lemmas.Result.{IfOk-weaker}
use Rattle.day.specs.Law.{given_answers}
use Rattle.orderfile.specs.Bodies.{told}
use Rattle.transcript.specs.Lines.{paired}
use Rattle.transcript.specs.Texts.{ran_text}
use Rattle.transcript.proofs.Running.{ran_as_told}
use Rattle.transcript.proofs.describe_day.Goals as goal

pub returns-in-Ok : goal.returns-in-Ok
returns-in-Ok g c =
    let holds = g.G.PriceSet.holds c.args.venue.now.grid in
    let messages = map told c.args.messages.now in
    let asked = c.as_mut_slice.ensures.value ∙ c.in_ok-turns.ensures in
    let same =
    ap (λ turns. ran_text holds (paired messages (given_answers turns)) c.in-Ok.book) (c.as_slice.ensures.value ∙ with_items_is c.in_ok-turns.turns c.run.new.turns (omega arith))
    ∙ ran_as_told holds c.args.previous_close messages _ _ _ asked c.in-Ok.ensures
    in
    IfOk-weaker c.ran.result _ _ (λ s e. e ∙ same) c.ran.ensures
