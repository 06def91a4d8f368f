-- What the book says of itself: its references, the orders that a call would find, the totals, the notice and the result.
use Rattle.std.specs.Prelude.{ℕ, Bool, List, map, Some, None, Ok, Err, Option, Result}
use Rattle.auction.specs.Totals.{total}
use Rattle.notice.specs.Notices.{notice_of}
use Rattle.notice.specs.declared.Notice.{Notice}
use Rattle.orders.specs.Finding.{found}
use Rattle.orders.specs.Tables.{listed}
use Rattle.orders.specs.declared.Phase.{Phase}
use Rattle.orders.specs.declared.Phase.TheVariants.{Entry, Imbalance, Freeze, Extension, Closed}
use Rattle.orders.specs.declared.Side.TheVariants.{Buy, Sell}
use Rattle.orders.specs.declared.found.FoundOrder.{FoundOrder}
use Rattle.orders.specs.declared.refusal.Refusal.{Refusal}
use Rattle.orders.specs.declared.refusal.Refusal.TheVariants.{BookClosed}
use Rattle.orders.specs.declared.table.Order.{Order}
use Rattle.peg.specs.Standing.{standing}
use Rattle.reference.specs.References.{twice, reference_of}
use Rattle.reference.specs.declared.Reference.{Reference}
use Rattle.book.specs.declared.Book.{Book}
use Rattle.book.specs.declared.State.{State}
use Rattle.book.specs.declared.State.TheVariants as state
use Rattle.book.specs.declared.views.Outcome.{Outcome}
use Rattle.book.specs.declared.views.References.{References}

-- up to the freeze one reference serves prices and pegs; the extension keeps the former one for the pegs
abbrev pub one_reference : Reference → References
one_reference r = record { current = r; pegs = r }

abbrev pub references_in : State → List Order → Option ℕ → ℕ → Option References
references_in state.Entry orders sale close = Some (one_reference (reference_of orders sale close))
references_in state.Imbalance orders sale close = Some (one_reference (reference_of orders sale close))
references_in state.Freeze orders sale close = Some (one_reference (reference_of orders sale close))
references_in (state.Extension reference pegs side remains) orders sale close = Some (record { current = reference; pegs = pegs })
references_in (state.Closed price shares fills imbalance) orders sale close = None

-- the orders as a call finds them; R is twice the reference of the pegs
abbrev pub found_orders : (ℕ → Bool) → ℕ → List Order → List FoundOrder
found_orders holds R orders = map (λ o. found o (standing holds R o)) orders

-- shares to buy and to sell at a price, until the book is closed
abbrev pub totals_from : (ℕ → Bool) → List Order → ℕ → Option References → Result (ℕ × ℕ) Refusal
totals_from holds orders price None = Err BookClosed
totals_from holds orders price (Some r) =
    Ok (total Buy price (found_orders holds (twice r.pegs) orders), total Sell price (found_orders holds (twice r.pegs) orders))

-- the imbalance notice, until the book is closed
abbrev pub notice_from : (ℕ → Bool) → List Order → Option References → Result Notice Refusal
notice_from holds orders None = Err BookClosed
notice_from holds orders (Some r) = Ok (notice_of r.current (found_orders holds (twice r.pegs) orders))

-- of a book

abbrev pub book_references : Book → Option References
book_references b = references_in b.state (listed b.table) b.last_sale b.previous_close

abbrev pub book_totals : (ℕ → Bool) → Book → ℕ → Result (ℕ × ℕ) Refusal
book_totals holds b price = totals_from holds (listed b.table) price (book_references b)

abbrev pub book_notice : (ℕ → Bool) → Book → Result Notice Refusal
book_notice holds b = notice_from holds (listed b.table) (book_references b)

abbrev pub without_close : Phase → Outcome
without_close phase = record { phase = phase; price = 0; shares = 0; fills = 0; imbalance = 0 }

abbrev pub outcome : State → Outcome
outcome state.Entry = without_close Entry
outcome state.Imbalance = without_close Imbalance
outcome state.Freeze = without_close Freeze
outcome (state.Extension reference pegs side remains) = without_close Extension
outcome (state.Closed price shares fills imbalance) = record { phase = Closed; price = price; shares = shares; fills = fills; imbalance = imbalance }
