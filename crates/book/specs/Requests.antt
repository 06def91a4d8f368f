-- Requests as values: what the book answers to one, and the book after it.
use Rattle.std.specs.Prelude.{ℕ, Bool, Result}
use Rattle.std.specs.Result.{result_map_both}
use Rattle.orders.specs.Phases.{phase_number}
use Rattle.orders.specs.declared.refusal.Refusal.{Refusal}
use Rattle.book.specs.Calls.{enter_answer, enter_book, amend_answer, amend_book, cancel_answer, cancel_book, take_answer, take_book, advance_answer, advance_book}
use Rattle.book.specs.declared.Book.{Book}
use Rattle.book.specs.declared.requests.Answer.{Answer}
use Rattle.book.specs.declared.requests.Answer.TheVariants as answer
use Rattle.book.specs.declared.requests.Request.{Request}
use Rattle.book.specs.declared.requests.Request.TheVariants as request

-- the number that stands for an answer
abbrev pub answer_number : Answer → ℕ
answer_number (answer.Entered number) = number
answer_number (answer.Amended entry) = entry
answer_number (answer.Cancelled shares) = shares
answer_number (answer.Left shares) = shares
answer_number (answer.Moved phase) = phase_number phase

abbrev pub answering : {A : Type 0} → (A → Answer) → Result A Refusal → Result Answer Refusal
answering answer = result_map_both answer (λ refusal. refusal)

abbrev pub request_answer : (ℕ → Bool) → Book → Request → Result Answer Refusal
request_answer holds b (request.Enter entry) = answering answer.Entered (enter_answer holds b entry)
request_answer holds b (request.Amend number limit) = answering answer.Amended (amend_answer holds b number limit)
request_answer holds b (request.Cancel number) = answering answer.Cancelled (cancel_answer b number)
request_answer holds b (request.Take number volume) = answering answer.Left (take_answer b number volume)
request_answer holds b request.Advance = answering answer.Moved (advance_answer b)

abbrev pub request_book : (ℕ → Bool) → Book → Request → Book
request_book holds b (request.Enter entry) = enter_book holds b entry
request_book holds b (request.Amend number limit) = amend_book holds b number limit
request_book holds b (request.Cancel number) = cancel_book b number
request_book holds b (request.Take number volume) = take_book b number volume
request_book holds b request.Advance = advance_book b
