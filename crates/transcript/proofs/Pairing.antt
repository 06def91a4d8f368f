-- How a loop writes the lines of messages with their answers.
use Rattle.std.proofs.Common.{◌≡◌, ℕ, ◌+◌, ◌<◌, ◌≤◌, List, [], ◌∷◌, ◌++◌, map, length, get_or, drop, Some, None, Option, Result, sym, refl, ap}
use Rattle.orders.specs.declared.refusal.Refusal.{Refusal}
use Rattle.book.specs.declared.requests.Answer.{Answer}
use Rattle.orderfile.specs.Bodies.{told}
use Rattle.orderfile.specs.declared.faults.FileFault.{FileFault}
use Rattle.orderfile.specs.declared.message.Message.{Message}
use Rattle.transcript.specs.Lines.{next_answer, paired, line, lines}
use Rattle.transcript.proofs.Loops.{at_end, one_more, no_more}

-- the lines of messages from a place on
abbrev lines_of : ℕ → List (Result Answer Refusal) → List (Result Message FileFault) → List ℕ
lines_of place answers ms = lines place (paired (map told ms) answers)

-- `done` are the lines of the messages before i
module _ (ms : List (Result Message FileFault)) (i : ℕ) (answers : List (Result Answer Refusal)) (whole done : List ℕ) (so_far : whole ≡ done ++ lines_of (i + 1) answers (drop i ms)) where
  -- no message is left
  pub all_written : length ms ≤ i → done ≡ whole
  all_written long = at_end (lines_of (i + 1) answers) ms i whole done so_far refl long

  module _ (d : Result Message FileFault) (short : i < length ms) where
    by_answer : (o : Option (Result Answer FileFault × List (Result Answer Refusal))) → o ≡ next_answer (told (get_or ms i d)) answers → lines_of (i + 1) answers (get_or ms i d ∷ drop (i + 1) ms) ≡ lines (i + 1) (elim o [ Some p ↦ (told (get_or ms i d), p.0) ∷ paired (map told (drop (i + 1) ms)) p.1 | None ↦ [] ])
    by_answer o is =
        ap (λ x. lines (i + 1) (elim x [ Some p ↦ (told (get_or ms i d), p.0) ∷ paired (map told (drop (i + 1) ms)) p.1 | None ↦ [] ])) (sym is)

    -- a message with an answer has a line
    pub line_more : (answer : Result Answer FileFault) (rest : List (Result Answer Refusal)) → Some (answer, rest) ≡ next_answer (told (get_or ms i d)) answers → whole ≡ (done ++ line (i + 1) (told (get_or ms i d)) answer) ++ lines_of (i + 1 + 1) rest (drop (i + 1) ms)
    line_more answer rest is = one_more (lines_of (i + 1) answers) ms i whole done so_far d short _ _ (by_answer (Some (answer, rest)) is)

    -- at one without, the lines end
    pub line_last : None ≡ next_answer (told (get_or ms i d)) answers → done ≡ whole
    line_last is = no_more (lines_of (i + 1) answers) ms i whole done so_far d short (by_answer None is)
