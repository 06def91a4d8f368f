-- What happened to each message, line by line.
use Rattle.std.specs.Prelude.{ℕ, ◌+◌, List, [], ◌∷◌, ◌++◌, Some, None, Ok, Err, codes, decimal, encode_utf8_all, Option, Result}
use Rattle.std.specs.Option.{unwrap_or}
use Rattle.orders.specs.declared.refusal.Refusal.{Refusal}
use Rattle.book.specs.Requests.{answer_number}
use Rattle.book.specs.declared.requests.Answer.{Answer}
use Rattle.orderfile.specs.Asking.{request_of, answered}
use Rattle.orderfile.specs.Bodies.{Content, enters, amends, cancels, takes, advances, calls}
use Rattle.orderfile.specs.Faults.{file_number}
use Rattle.orderfile.specs.declared.faults.FileFault.{FileFault}
use Rattle.report.specs.Text.{pieces}

-- the first of the book's answers for a message that reads, and those behind it
abbrev pub first_answer : Content → List (Result Answer Refusal) → Option (Result Answer FileFault × List (Result Answer Refusal))
first_answer m [] = None
first_answer m (answer ∷ answers) = Some (answered (Ok m) answer, answers)

-- the answer to a message, and what is left of the book's answers; the closing call has none
abbrev pub next_answer : Result Content FileFault → List (Result Answer Refusal) → Option (Result Answer FileFault × List (Result Answer Refusal))
next_answer (Err fault) answers = Some (Err fault, answers)
next_answer (Ok m) answers = elim (request_of m) [ Some r ↦ first_answer m answers | None ↦ None ]

-- the messages up to the first closing call, each with its answer: one that reads has the next of the book's answers, any
-- other its own fault
abbrev pub paired : List (Result Content FileFault) → List (Result Answer Refusal) → List (Result Content FileFault × Result Answer FileFault)
paired [] answers = []
paired (m ∷ ms) answers = elim (next_answer m answers) [ Some p ↦ (m, p.0) ∷ paired ms p.1 | None ↦ [] ]

-- the reference of an order that is entered
abbrev pub reference_in : Result Content FileFault → List ℕ
reference_in (Ok (enters entry reference)) = reference
reference_in (Ok (amends number limit)) = []
reference_in (Ok (cancels number)) = []
reference_in (Ok (takes number volume)) = []
reference_in (Ok advances) = []
reference_in (Ok calls) = []
reference_in (Err fault) = []

-- a reference behind a blank, where there is one; a byte of it is the character with that number
abbrev pub behind_blank : List ℕ → List ℕ
behind_blank [] = []
behind_blank (b ∷ bs) = pieces (codes " " ∷ encode_utf8_all (b ∷ bs) ∷ [])

-- a fault's number, and 0 for want of memory, which has none
abbrev pub fault_number : FileFault → ℕ
fault_number fault = unwrap_or (file_number fault) 0

-- 0 and the answer's number, or the fault's number and 0
abbrev pub answer_text : Result Answer FileFault → List ℕ
answer_text (Ok answer) = pieces (codes "0 " ∷ decimal (answer_number answer) ∷ [])
answer_text (Err fault) = pieces (decimal (fault_number fault) ∷ codes " 0" ∷ [])

-- a message's place, its answer, and its reference
abbrev pub line : ℕ → Result Content FileFault → Result Answer FileFault → List ℕ
line place m answer = pieces (decimal place ∷ codes " " ∷ answer_text answer ∷ behind_blank (reference_in m) ∷ codes "\n" ∷ [])

-- the lines of messages from a place on
abbrev pub lines : ℕ → List (Result Content FileFault × Result Answer FileFault) → List ℕ
lines place [] = []
lines place (p ∷ ps) = line place p.0 p.1 ++ lines (place + 1) ps
