-- What is printed for an order file: what happened to each message up to the first closing call, and the notice then.
use Rattle.std.specs.Prelude.{ℕ, Bool, cond, List, [], ◌∷◌, Some, None, Ok, Err, codes, decimal, Result}
use Rattle.grid.specs.Prices.{cents}
use Rattle.orders.specs.Refusals.{refusal_number}
use Rattle.orders.specs.declared.refusal.Refusal.TheVariants.{BadOpening}
use Rattle.book.specs.declared.Book.{Book}
use Rattle.book.specs.declared.requests.Answer.{Answer}
use Rattle.day.specs.Account.{Account, begun}
use Rattle.day.specs.Law.{book_of}
use Rattle.day.specs.Noting.{noted, answer_noted, account}
use Rattle.orderfile.specs.Asking.{request_of, answered}
use Rattle.orderfile.specs.Bodies.{Content}
use Rattle.orderfile.specs.Reading.{read_file}
use Rattle.orderfile.specs.declared.faults.FileFault.{FileFault}
use Rattle.report.specs.Lines.{refused_line}
use Rattle.report.specs.Text.{pieces}
use Rattle.transcript.specs.Lines.{fault_number, lines}
use Rattle.transcript.specs.Summary.{summary_text}
use Rattle.transcript.specs.Turns.{requests_in}

abbrev pub refused_text : ℕ → List ℕ
refused_text number = refused_line (decimal number)

-- what happens to the messages up to the first closing call, by the day's account: one that does not read has its fault and
-- changes nothing; one that reads is answered as the account says, and then noted in it
abbrev pub happened : (ℕ → Bool) → Account → List (Result Content FileFault) → List (Result Content FileFault × Result Answer FileFault)
happened holds a [] = []
happened holds a (Err fault ∷ ms) = (Err fault, Err fault) ∷ happened holds a ms
happened holds a (Ok m ∷ ms) = elim (request_of m) [ Some r ↦ (Ok m, answered (Ok m) (answer_noted holds a r)) ∷ happened holds (noted holds a r) ms | None ↦ [] ]

-- the lines of messages with their answers, a blank line, and the summary of the book
abbrev pub ran_text : (ℕ → Bool) → List (Result Content FileFault × Result Answer FileFault) → Book → List ℕ
ran_text holds pairs book = pieces (lines 1 pairs ∷ codes "\n" ∷ summary_text holds book ∷ [])

-- the day of these messages, and the book that its account tells, if the book opens
abbrev pub day_text : (ℕ → Bool) → ℕ → List (Result Content FileFault) → List ℕ
day_text holds close messages =
    cond (holds close)
    (ran_text holds (happened holds (begun close) messages) (book_of (account holds (begun close) (requests_in messages))))
    (refused_text (refusal_number BadOpening))

-- the day of the file with these bytes, on the grid of cents
abbrev pub file_text : List ℕ → List ℕ
file_text file = elim (read_file file) [ Ok read ↦ day_text cents read.0.previous_close read.1 | Err fault ↦ refused_text (fault_number fault) ]
