-- The imbalance notice as text, with the orders that stand.
use Rattle.std.specs.Prelude.{ℕ, ◌*◌, ◌/◌, ◌%◌, Bool, cond, List, [], ◌∷◌, ◌++◌, Some, None, codes, decimal, ◌==◌}
use Rattle.orders.specs.Kinds.{is_market}
use Rattle.orders.specs.Tables.{listed}
use Rattle.orders.specs.Words.{kind_word, side_word, phase_word}
use Rattle.orders.specs.declared.Phase.{Phase}
use Rattle.orders.specs.declared.table.Order.{Order}
use Rattle.reference.specs.References.{twice}
use Rattle.reference.specs.declared.Reference.{Reference}
use Rattle.peg.specs.Standing.{standing}
use Rattle.notice.specs.Notices.{notice_of}
use Rattle.notice.specs.declared.Imbalance.{Imbalance}
use Rattle.notice.specs.declared.Notice.{Notice}
use Rattle.book.specs.Phases.{phase_of}
use Rattle.book.specs.Views.{found_orders, book_references}
use Rattle.book.specs.declared.Book.{Book}
use Rattle.report.specs.Text.{pieces, dollars}

-- n hundred-thousandths of a dollar, with five decimals
abbrev pub five_decimals : ℕ → List ℕ
five_decimals n =
    pieces (decimal (n / 100000) ∷ codes "." ∷ decimal (n / 10000 % 10) ∷ decimal (n / 1000 % 10) ∷ decimal (n / 100 % 10) ∷ decimal (n / 10 % 10) ∷ decimal (n % 10) ∷ [])

-- twice the reference counts ten-thousandths, so the reference counts five hundred-thousandths for each
abbrev pub reference_text : Reference → List ℕ
reference_text r = five_decimals (twice r * 5)

abbrev pub imbalance_text : Imbalance → List ℕ
imbalance_text i = elim i.side [ Some side ↦ pieces (side_word side ∷ codes " " ∷ decimal i.volume ∷ []) | None ↦ codes "none" ]

abbrev pub notice_text : Notice → List ℕ
notice_text n =
    pieces (codes "reference         " ∷ reference_text n.reference ∷ codes "\nimbalance         " ∷ imbalance_text n.imbalance
    ∷ codes "\npaired            " ∷ decimal n.paired ∷ codes "\nmarket imbalance  " ∷ imbalance_text n.market ∷ codes "\n" ∷ [])

-- what an order is, and how much of it is left
abbrev pub order_text : Order → List ℕ
order_text o =
    pieces (codes "order " ∷ decimal o.number ∷ codes ": " ∷ kind_word o.kind ∷ codes " " ∷ side_word o.side ∷ codes ", " ∷ decimal o.left ∷ codes " of " ∷ decimal o.volume ∷ codes " left" ∷ [])

-- a market order has no price; of any other, the limit and the price at which it stands
abbrev pub row : Order → ℕ → List ℕ
row o price =
    cond (is_market o.kind)
    (pieces (order_text o ∷ codes "\n" ∷ []))
    (pieces (order_text o ∷ codes ", limit " ∷ dollars o.limit ∷ codes ", stands at " ∷ dollars price ∷ codes "\n" ∷ []))

-- a row for each order with shares left; R is twice the reference of the pegs
abbrev pub rows : (ℕ → Bool) → ℕ → List Order → List ℕ
rows holds R [] = []
rows holds R (o ∷ os) = cond (o.left == 0) (rows holds R os) (row o (standing holds R o) ++ rows holds R os)

abbrev pub phase_line : Phase → List ℕ
phase_line phase = pieces (codes "phase             " ∷ phase_word phase ∷ codes "\n" ∷ [])

-- the phase, and until the book is closed the notice and the orders
abbrev pub summary_text : (ℕ → Bool) → Book → List ℕ
summary_text holds b =
    elim (book_references b) [
      | Some r ↦ pieces (phase_line (phase_of b.state) ∷ notice_text (notice_of r.current (found_orders holds (twice r.pegs) (listed b.table))) ∷ rows holds (twice r.pegs) (listed b.table) ∷ [])
      | None ↦ phase_line (phase_of b.state)
    ]
