use Rattle.std.proofs.Output.{has_written_of_eq}
use Rattle.transcript.proofs.Summing.{summed}
use Rattle.transcript.proofs.summary.SummaryDisplay.fmt.Goals as goal

pub returns-clause-writes : goal.returns-clause-writes
returns-clause-writes g c = λ plain ok.
    let self = c.args.self.now in
    let same = summed (g.G.PriceSet.holds self.venue.now.grid) self.book.now _ _ _ _ _ c.in-Some.ensures c.phase.ensures c.found.ensures c.of.ensures c.as_slice-orders.ensures.value in
    has_written_of_eq g.W.Write.write_str_gives _ _ _ _ same (c.write-2.ensures.writes plain ok)
