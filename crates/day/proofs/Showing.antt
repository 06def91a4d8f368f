-- The book that shows the account, and how one call on it follows one request in the account.
use Rattle.std.proofs.Common.{◌≡◌, ℕ, zero, suc, ◌+◌, ◌-◌, ◌<◌, ◌≤◌, min, Bool, true, false, cond, not, leb, List, [], ◌∷◌, ◌++◌, map, length, get_or, set, replicate, Some, None, Option, sym, refl, ap, ◌∙◌, arith}
use Rattle.std.proofs.lemmas.List.{length-map, length-set, length_push, map-set, set-append_left, take_at}
use Rattle.std.proofs.lemmas.Bool.{not-false, or_parts, and_parts, leb-true, leb-false, lt-ltb}
use Rattle.std.proofs.lemmas.Bool.Decides.{nat_tests}
use Rattle.orders.specs.Tables.{blank, listed, known, with_order, with_more}
use Rattle.orders.specs.declared.Entry.{Entry}
use Rattle.orders.specs.declared.refusal.Refusal.{Refusal}
use Rattle.orders.specs.declared.table.Order.{Order}
use Rattle.orders.specs.declared.table.OrderTable.{OrderTable}
use Rattle.book.specs.Calls.{recorded, with_left, with_limit, enter_tests, entered, amend_tests, amended, cancel_tests, cancelled, take_tests, taken, advanced}
use Rattle.book.specs.Phases.{phase_of, next_state, offset_by}
use Rattle.book.specs.Requests.{answering, request_answer, request_book}
use Rattle.book.specs.Tests.{Tests, first_refusal, answered, changed}
use Rattle.book.specs.declared.Book.{Book}
use Rattle.book.specs.declared.requests.Answer.{Answer}
use Rattle.book.specs.declared.requests.Answer.TheVariants as answer
use Rattle.book.specs.declared.requests.Request.{Request}
use Rattle.book.specs.declared.requests.Request.TheVariants as request
use Rattle.day.proofs.Deciding.{none_holds}
use Rattle.day.specs.Account.{Line, Account, order_of, orders, has, no_line, line}
use Rattle.day.specs.Law.{table_of, book_of}
use Rattle.day.specs.Noting.{tests, new_line, re_entered, with_cancelled, with_taken, accepted, noted, answer_noted}

-- a place of the table shows the line with its number, and a blank where there is none
shows_at : (ls : List Line) (k i : ℕ) → get_or (map order_of ls ++ replicate k blank) i blank ≡ order_of (get_or ls i no_line)
shows_at [] zero i = refl
shows_at [] (suc k) zero = refl
shows_at [] (suc k) (suc i) = shows_at [] k i
shows_at (l ∷ ls) k zero = refl
shows_at (l ∷ ls) k (suc i) = shows_at ls k i

-- a new line takes the first blank place
pushed : (ls : List Line) (k : ℕ) (l : Line) → map order_of (ls ++ l ∷ []) ++ replicate k blank ≡ set (map order_of ls ++ replicate (suc k) blank) (length ls) (order_of l)
pushed [] k l = refl
pushed (x ∷ ls) k l = ap (λ os. order_of x ∷ os) (pushed ls k l)

module _ (a : Account) (few : length a.lines ≤ 128) where
  pub known_has : (n : ℕ) → known (book_of a).table n ≡ has a n
  known_has n = grind (arith, nat_tests)

  pub at_line : (n : ℕ) → recorded (book_of a) n ≡ order_of (line a n)
  at_line n = shows_at a.lines (128 - length a.lines) (n - 1)

  pub all_listed : listed (book_of a).table ≡ orders a
  all_listed = take_at (orders a) (replicate (128 - length a.lines) blank) (min (length a.lines) 128) (omega (arith, length-map a.lines order_of))

  -- one line changed is one order changed
  line_set : (n : ℕ) (l : Line) → has a n ≡ true → with_order (table_of a.lines) n (order_of l) ≡ table_of (set a.lines (n - 1) l)
  line_set n l h =
      let ls = a.lines in
      let parts = and_parts (leb 1 n) _ h in
      let from = leb-true 1 n parts.0 in
      let to = leb-true n (length ls) parts.1 in
      let place : n - 1 < length (map order_of ls) = omega (arith, length-map ls order_of) in
      let same_length = length-set ls (n - 1) l in
      let orders_after : map order_of (set ls (n - 1) l) ++ replicate (128 - length (set ls (n - 1) l)) blank ≡ set (map order_of ls ++ replicate (128 - length ls) blank) (n - 1) (order_of l)
      = ap (λ m. map order_of (set ls (n - 1) l) ++ replicate (128 - m) blank) same_length
      ∙ ap (λ os. os ++ replicate (128 - length ls) blank) (map-set order_of ls (n - 1) l)
      ∙ sym (set-append_left (map order_of ls) (replicate (128 - length ls) blank) (n - 1) (order_of l) place) in
      ap (λ t. cond t (table (set (map order_of ls ++ replicate (128 - length ls) blank) (n - 1) (order_of l)) (length ls)) (table_of ls)) (known_has n ∙ h)
      ∙ ap (λ os. table os (length ls)) (sym orders_after)
      ∙ ap (table (map order_of (set ls (n - 1) l) ++ replicate (128 - length (set ls (n - 1) l)) blank)) (sym same_length)
    where
      table : List Order → ℕ → OrderTable
      table os n = record { orders = record { places = os; count = n } }

  -- one line more is one order more
  line_more : (l : Line) → leb 128 (length a.lines) ≡ false → with_more (table_of a.lines) (order_of l) ≡ table_of (a.lines ++ l ∷ [])
  line_more l room =
      let ls = a.lines in
      let short = leb-false 128 (length ls) room in
      let more = length_push ls l in
      let blanks : 128 - length ls ≡ suc (128 - length (ls ++ l ∷ [])) = omega arith in
      ap (λ t. record { orders = cond t (table (set (map order_of ls ++ replicate (128 - length ls) blank) (length ls) (order_of l)) (length ls + 1)).orders (table_of ls).orders }) (lt-ltb (length ls) 128 (omega arith))
      ∙ ap (λ k. table (set (map order_of ls ++ replicate k blank) (length ls) (order_of l)) (length ls + 1)) blanks
      ∙ ap (λ os. table os (length ls + 1)) (sym (pushed ls (128 - length (ls ++ l ∷ [])) l))
      ∙ ap (table (map order_of (ls ++ l ∷ []) ++ replicate (128 - length (ls ++ l ∷ [])) blank)) (sym more)
    where
      table : List Order → ℕ → OrderTable
      table os n = record { orders = record { places = os; count = n } }

-- the answer of a call, as the answer to a request
answering_of : {A : Type 0} (f : A → Answer) (o : Option Refusal) (x : A) → answering f (answered o x) ≡ answered o (f x)
answering_of f None x = refl
answering_of f (Some y) x = refl

-- where book and account decide by the same tests, a refusal leaves both, and what is accepted is shown
decided_alike : (a after : Account) (moved : Book) (rows : Tests) → (first_refusal rows ≡ None → moved ≡ book_of after)
    → changed (first_refusal rows) (book_of a) moved ≡ book_of (changed (first_refusal rows) a after)
decided_alike a after moved rows done = go (first_refusal rows) refl
  where
    go : (o : Option Refusal) → first_refusal rows ≡ o → changed o (book_of a) moved ≡ book_of (changed o a after)
    go None e = done e
    go (Some x) e = refl

module _ (holds : ℕ → Bool) (a : Account) (few : length a.lines ≤ 128) where
  -- the tests of a call on the book are the account's

  enter_same : (e : Entry) → enter_tests holds (book_of a) e ≡ tests holds a (request.Enter e)
  enter_same e = rw (all_listed a few) refl

  amend_same : (n limit : ℕ) → amend_tests holds (book_of a) n limit ≡ tests holds a (request.Amend n limit)
  amend_same n limit = rw (known_has a few n, at_line a few n) refl

  cancel_same : (n : ℕ) → cancel_tests (book_of a) n ≡ tests holds a (request.Cancel n)
  cancel_same n = rw (known_has a few n, at_line a few n) refl

  take_same : (n v : ℕ) → take_tests (book_of a) n v ≡ tests holds a (request.Take n v)
  take_same n v = rw (known_has a few n, at_line a few n) refl

  -- what an accepted call makes of the book is what the account shows

  in_table : (n : ℕ) → not (has a n) ≡ false → has a n ≡ true
  in_table n e = not-false (has a n) e

  enter_shows : (e : Entry) → first_refusal (tests holds a (request.Enter e)) ≡ None → entered (book_of a) e ≡ book_of (accepted a (request.Enter e))
  enter_shows e ok =
      let room = (or_parts (leb 128 (length a.lines)) _ (none_holds (tests holds a (request.Enter e)) ok).1.0).0 in
      ap (λ left. book (with_more (table_of a.lines) (with_left (order_of (new_line a e)) left))) (whole e.volume)
      ∙ ap book (line_more a few (new_line a e) room)
    where
      whole : (v : ℕ) → v ≡ v - 0 - 0
      whole v = omega arith

      book : OrderTable → Book
      book t = record { table = t; entries = a.entries + 1; previous_close = a.close; last_sale = a.sale; state = offset_by a.state e.volume }

  amend_shows : (n limit : ℕ) → first_refusal (tests holds a (request.Amend n limit)) ≡ None → amended (book_of a) n limit ≡ book_of (accepted a (request.Amend n limit))
  amend_shows n limit ok =
      let there = in_table n (none_holds (tests holds a (request.Amend n limit)) ok).1.1.1.0 in
      ap (λ o. book (with_order (table_of a.lines) n (with_limit o (a.entries + 1) limit))) (at_line a few n)
      ∙ ap book (line_set a few n (re_entered (line a n) (a.entries + 1) limit) there)
    where
      book : OrderTable → Book
      book t = record { table = t; entries = a.entries + 1; previous_close = a.close; last_sale = a.sale; state = a.state }

  cancel_shows : (n : ℕ) → first_refusal (tests holds a (request.Cancel n)) ≡ None → cancelled (book_of a) n ≡ book_of (accepted a (request.Cancel n))
  cancel_shows n ok =
      let there = in_table n (none_holds (tests holds a (request.Cancel n)) ok).1.0 in
      let l = line a n in
      ap (λ o. book (with_order (table_of a.lines) n (with_left o 0))) (at_line a few n)
      ∙ ap (λ left. book (with_order (table_of a.lines) n (with_left (order_of l) left))) (gone l.volume l.taken l.cancelled)
      ∙ ap book (line_set a few n (with_cancelled l) there)
    where
      gone : (v t c : ℕ) → 0 ≡ v - t - (c + (v - t - c))
      gone v t c = omega arith

      book : OrderTable → Book
      book t = record { table = t; entries = a.entries; previous_close = a.close; last_sale = a.sale; state = a.state }

  take_shows : (n v : ℕ) → first_refusal (tests holds a (request.Take n v)) ≡ None → taken (book_of a) n v ≡ book_of (accepted a (request.Take n v))
  take_shows n v ok =
      let there = in_table n (none_holds (tests holds a (request.Take n v)) ok).1.0 in
      let l = line a n in
      ap (λ o. book o.limit (with_order (table_of a.lines) n (with_left o (o.left - v)))) (at_line a few n)
      ∙ ap (λ left. book l.limit (with_order (table_of a.lines) n (with_left (order_of l) left))) (less l.volume l.taken l.cancelled)
      ∙ ap (book l.limit) (line_set a few n (with_taken l v) there)
    where
      less : (w t c : ℕ) → w - t - c - v ≡ w - (t + v) - c
      less w t c = omega arith

      book : ℕ → OrderTable → Book
      book sale t = record { table = t; entries = a.entries; previous_close = a.close; last_sale = Some sale; state = a.state }

  -- a request to the book that shows the account leaves the book that shows the account after it, and is answered as the
  -- account says

  pub book_follows : (r : Request) → request_book holds (book_of a) r ≡ book_of (noted holds a r)
  book_follows (request.Enter e) =
      ap (λ rows. changed (first_refusal rows) (book_of a) (entered (book_of a) e)) (enter_same e)
      ∙ decided_alike a (accepted a (request.Enter e)) (entered (book_of a) e) (tests holds a (request.Enter e)) (enter_shows e)
  book_follows (request.Amend n limit) =
      ap (λ rows. changed (first_refusal rows) (book_of a) (amended (book_of a) n limit)) (amend_same n limit)
      ∙ decided_alike a (accepted a (request.Amend n limit)) (amended (book_of a) n limit) (tests holds a (request.Amend n limit)) (amend_shows n limit)
  book_follows (request.Cancel n) =
      ap (λ rows. changed (first_refusal rows) (book_of a) (cancelled (book_of a) n)) (cancel_same n)
      ∙ decided_alike a (accepted a (request.Cancel n)) (cancelled (book_of a) n) (tests holds a (request.Cancel n)) (cancel_shows n)
  book_follows (request.Take n v) =
      ap (λ rows. changed (first_refusal rows) (book_of a) (taken (book_of a) n v)) (take_same n v)
      ∙ decided_alike a (accepted a (request.Take n v)) (taken (book_of a) n v) (tests holds a (request.Take n v)) (take_shows n v)
  book_follows request.Advance =
      decided_alike a (accepted a request.Advance) (advanced (book_of a)) (tests holds a request.Advance) (λ _. refl)

  pub answer_follows : (r : Request) → request_answer holds (book_of a) r ≡ answer_noted holds a r
  answer_follows (request.Enter e) =
      answering_of answer.Entered (first_refusal (enter_tests holds (book_of a) e)) (length a.lines + 1)
      ∙ ap (λ rows. answered (first_refusal rows) (answer.Entered (length a.lines + 1))) (enter_same e)
  answer_follows (request.Amend n limit) =
      answering_of answer.Amended (first_refusal (amend_tests holds (book_of a) n limit)) (a.entries + 1)
      ∙ ap (λ rows. answered (first_refusal rows) (answer.Amended (a.entries + 1))) (amend_same n limit)
  answer_follows (request.Cancel n) =
      answering_of answer.Cancelled (first_refusal (cancel_tests (book_of a) n)) (recorded (book_of a) n).left
      ∙ ap (λ rows. answered (first_refusal rows) (answer.Cancelled (recorded (book_of a) n).left)) (cancel_same n)
      ∙ ap (λ o. answered (first_refusal (tests holds a (request.Cancel n))) (answer.Cancelled o.left)) (at_line a few n)
  answer_follows (request.Take n v) =
      answering_of answer.Left (first_refusal (take_tests (book_of a) n v)) ((recorded (book_of a) n).left - v)
      ∙ ap (λ rows. answered (first_refusal rows) (answer.Left ((recorded (book_of a) n).left - v))) (take_same n v)
      ∙ ap (λ o. answered (first_refusal (tests holds a (request.Take n v))) (answer.Left (o.left - v))) (at_line a few n)
  answer_follows request.Advance = answering_of answer.Moved (first_refusal (tests holds a request.Advance)) (phase_of (next_state a.state))
