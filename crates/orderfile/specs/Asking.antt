-- What a message asks of the book, and the book's answer as the file layer reports it.
use Rattle.std.specs.Prelude.{Some, None, Ok, Err, Option, Result}
use Rattle.orders.specs.declared.refusal.Refusal.{Refusal}
use Rattle.book.specs.declared.requests.Answer.{Answer}
use Rattle.book.specs.declared.requests.Request.{Request}
use Rattle.book.specs.declared.requests.Request.TheVariants.{Enter, Amend, Cancel, Take, Advance}
use Rattle.orderfile.specs.Bodies.{Content, enters, amends, cancels, takes, advances, calls}
use Rattle.orderfile.specs.Faults.{asked, risen}
use Rattle.orderfile.specs.declared.faults.FileFault.{FileFault}

-- the closing call is no request
abbrev pub request_of : Content → Option Request
request_of (enters entry reference) = Some (Enter entry)
request_of (amends number limit) = Some (Amend number limit)
request_of (cancels number) = Some (Cancel number)
request_of (takes number volume) = Some (Take number volume)
request_of advances = Some Advance
request_of calls = None

-- a message that does not read keeps its fault; one that reads has the book's answer
abbrev pub answered : Result Content FileFault → Result Answer Refusal → Result Answer FileFault
answered (Ok m) answer = risen (asked answer)
answered (Err fault) answer = Err fault
