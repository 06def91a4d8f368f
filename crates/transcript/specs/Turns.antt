-- The requests of a file's messages.
use Rattle.std.specs.Prelude.{List, [], ◌∷◌, Some, None, Ok, Err, Result}
use Rattle.orders.specs.declared.refusal.Refusal.TheVariants.{BookClosed}
use Rattle.book.specs.declared.requests.Request.{Request}
use Rattle.day.specs.declared.Turn.{Turn}
use Rattle.orderfile.specs.Asking.{request_of}
use Rattle.orderfile.specs.Bodies.{Content}
use Rattle.orderfile.specs.declared.faults.FileFault.{FileFault}

-- those of the messages that read, up to the first closing call
abbrev pub requests_in : List (Result Content FileFault) → List Request
requests_in [] = []
requests_in (Err fault ∷ ms) = requests_in ms
requests_in (Ok m ∷ ms) = elim (request_of m) [ Some r ↦ r ∷ requests_in ms | None ↦ [] ]

-- a request that the book is still to answer
abbrev pub unanswered : Request → Turn
unanswered r = record { request = r; answer = Err BookClosed }
