use Rattle.std.proofs.Common.{eqb, rules}
use Rattle.std.proofs.lemmas.Iterator.{YieldsList-from_slice}
use Rattle.std.proofs.lemmas.Iterator.Consumers.{YieldsList-from_copied}
use Rattle.std.proofs.lemmas.Iterator.Search.{find_from_yields_List}
use borrow.Author.Tests.{tests}
use Rattle.orders.proofs.Reading.{reads}
use Rattle.orders.proofs.letters.Lettered.from_letter.Goals as goal

pub returns-clause-meaning : goal.returns-clause-meaning
returns-clause-meaning g c =
    let letters = g.Self.Lettered in
    reads letters.letter_of letters.choices g.met.Self.Lettered.reads_back c.args.letter c.find.result
    (find_from_yields_List (λ x. eqb c.args.letter (letters.letter_of x)) _ _ c.find.result c.find.ensures.ran (YieldsList-from_copied (YieldsList-from_slice letters.choices cc)) (λ x b q k. search (rules, tests)))
