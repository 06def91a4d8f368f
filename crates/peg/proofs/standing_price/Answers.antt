use Rattle.std.proofs.Common.{◌≡◌, sym, ap, ◌∙◌, subst}
use Rattle.std.proofs.lemmas.Bool.{cond-true}
use Rattle.peg.specs.Standing.{pegged_at, standing, Stands}
use Rattle.reference.specs.References.{twice}
use Rattle.peg.proofs.Pegging.{stands}
use Rattle.peg.proofs.standing_price.Goals as goal

pub returns : goal.returns
returns g c =
    let holds = g.S.PriceSet.holds c.args.prices.now in
    let R = twice c.args.reference in
    let o = c.args.order.now in
    let value : c.pegged_at.result ≡ standing holds R o =
    c.pegged_at.ensures
    ∙ ap (pegged_at o.side o.limit) c.peg_price-peg.ensures
    ∙ sym (cond-true _ _ _ (sym c.if-not-is_pegged.ensures))
    in
    record { value = value; meaning = subst (Stands holds R o) (sym value) (stands holds (g.met.S.PriceSet.ranged c.args.prices.now) R o) }
