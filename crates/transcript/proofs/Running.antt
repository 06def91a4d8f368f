-- A day that ran is told as its account says.
use Rattle.std.proofs.Common.{◌≡◌, ℕ, Bool, List, [], ◌∷◌, map, Some, None, Ok, Err, Option, Result, sym, refl, ap, ◌∙◌}
use Rattle.std.proofs.lemmas.Bool.{cond-true}
use Rattle.orders.specs.declared.refusal.Refusal.{Refusal}
use Rattle.book.specs.declared.Book.{Book}
use Rattle.book.specs.declared.requests.Answer.{Answer}
use Rattle.book.specs.declared.requests.Request.{Request}
use Rattle.day.specs.Account.{Account, begun}
use Rattle.day.specs.Law.{book_of, requests, given_answers, Ran}
use Rattle.day.specs.Noting.{noted, answer_noted, account, answers}
use Rattle.day.specs.declared.Turn.{Turn}
use Rattle.orderfile.specs.Asking.{request_of, answered}
use Rattle.orderfile.specs.Bodies.{Content}
use Rattle.orderfile.specs.declared.faults.FileFault.{FileFault}
use Rattle.transcript.specs.Lines.{first_answer, paired}
use Rattle.transcript.specs.Texts.{happened, ran_text, day_text}
use Rattle.transcript.specs.Turns.{requests_in, unanswered}

-- the turns ask what the messages ask
same_requests : (rs : List Request) → requests (map unanswered rs) ≡ rs
same_requests [] = refl
same_requests (r ∷ rs) = ap (λ l. r ∷ l) (same_requests rs)

-- what is asked and what is paired from a message on, by its request
module _ (m : Content) (ms : List (Result Content FileFault)) where
  abbrev asked_from : Option Request → List Request
  asked_from o = elim o [ Some r ↦ r ∷ requests_in ms | None ↦ [] ]

  abbrev next_by : Option Request → List (Result Answer Refusal) → Option (Result Answer FileFault × List (Result Answer Refusal))
  next_by o given = elim o [ Some _ ↦ first_answer m given | None ↦ None ]

  abbrev paired_by : Option (Result Answer FileFault × List (Result Answer Refusal)) → List (Result Content FileFault × Result Answer FileFault)
  paired_by o = elim o [ Some p ↦ (Ok m, p.0) ∷ paired ms p.1 | None ↦ [] ]

  abbrev happened_by : (ℕ → Bool) → Account → Option Request → List (Result Content FileFault × Result Answer FileFault)
  happened_by holds a o = elim o [ Some r ↦ (Ok m, answered (Ok m) (answer_noted holds a r)) ∷ happened holds (noted holds a r) ms | None ↦ [] ]

  by_request : (holds : ℕ → Bool) (a : Account) → ((a' : Account) → paired ms (answers holds a' (requests_in ms)) ≡ happened holds a' ms) → (o : Option Request) → paired_by (next_by o (answers holds a (asked_from o))) ≡ happened_by holds a o
  by_request holds a behind (Some r) = ap (λ l. (Ok m, answered (Ok m) (answer_noted holds a r)) ∷ l) (behind (noted holds a r))
  by_request holds a behind None = refl

-- each message that reads has the answer to its own request, and none is left without
as_happened : (holds : ℕ → Bool) (a : Account) (ms : List (Result Content FileFault)) → paired ms (answers holds a (requests_in ms)) ≡ happened holds a ms
as_happened holds a [] = refl
as_happened holds a (Err fault ∷ ms) = ap (λ l. (Err fault, Err fault) ∷ l) (as_happened holds a ms)
as_happened holds a (Ok m ∷ ms) = by_request m ms holds a (λ a'. as_happened holds a' ms) (request_of m)

pub ran_as_told : (holds : ℕ → Bool) (close : ℕ) (ms : List (Result Content FileFault)) (asked done : List Turn) (b : Book) → asked ≡ map unanswered (requests_in ms) → Ran holds close asked done b → ran_text holds (paired ms (given_answers done)) b ≡ day_text holds close ms
ran_as_told holds close ms asked done b is ran =
    let same : requests asked ≡ requests_in ms = ap requests is ∙ same_requests (requests_in ms) in
    (λ i. ran_text holds (paired ms (ran.answered_all i)) (ran.follows.shows i))
    ∙ ap (λ rs. ran_text holds (paired ms (answers holds (begun close) rs)) (book_of (account holds (begun close) rs))) same
    ∙ ap (λ pairs. ran_text holds pairs (book_of (account holds (begun close) (requests_in ms)))) (as_happened holds (begun close) ms)
    ∙ sym (cond-true (holds close) _ _ ran.opens)
