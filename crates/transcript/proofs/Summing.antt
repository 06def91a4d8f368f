-- The summary of a book, from its parts as they are worked out.
use Rattle.std.proofs.Common.{◌≡◌, ℕ, Bool, List, [], ◌∷◌, Some, None, ap, ◌∙◌}
use Rattle.orders.specs.Tables.{listed}
use Rattle.orders.specs.declared.Phase.{Phase}
use Rattle.orders.specs.declared.found.FoundOrder.{FoundOrder}
use Rattle.orders.specs.declared.table.Order.{Order}
use Rattle.reference.specs.References.{twice}
use Rattle.notice.specs.Notices.{notice_of}
use Rattle.notice.specs.declared.Notice.{Notice}
use Rattle.book.specs.Phases.{phase_of}
use Rattle.book.specs.Views.{found_orders, book_references}
use Rattle.book.specs.declared.Book.{Book}
use Rattle.book.specs.declared.views.References.{References}
use Rattle.report.specs.Text.{pieces}
use Rattle.transcript.specs.Summary.{notice_text, rows, phase_line, summary_text}

-- of a book that is not closed
pub summed : (holds : ℕ → Bool) (b : Book) (r : References) (phase : Phase) (n : Notice) (found : List FoundOrder) (orders : List Order) → Some r ≡ book_references b → phase ≡ phase_of b.state → found ≡ found_orders holds (twice r.pegs) (listed b.table) → n ≡ notice_of r.current found → orders ≡ listed b.table → pieces (phase_line phase ∷ notice_text n ∷ rows holds (twice r.pegs) orders ∷ []) ≡ summary_text holds b
summed holds b r phase n found orders here in_phase finds notes lists =
    (λ i. pieces (phase_line (in_phase i) ∷ notice_text ((notes ∙ ap (notice_of r.current) finds) i) ∷ rows holds (twice r.pegs) (lists i) ∷ []))
    ∙ ap (λ o. elim o [
      | Some r' ↦ pieces (phase_line (phase_of b.state) ∷ notice_text (notice_of r'.current (found_orders holds (twice r'.pegs) (listed b.table))) ∷ rows holds (twice r'.pegs) (listed b.table) ∷ [])
      | None ↦ phase_line (phase_of b.state)
    ]) here
