-- A call's tests, in rising number, and what they decide.
use Rattle.std.specs.Prelude.{ℕ, ◌<◌, Bool, cond, List, [], ◌∷◌, Some, None, Ok, Err, Option, Result}
use Rattle.orders.specs.Refusals.{refusal_number}
use Rattle.orders.specs.declared.refusal.Refusal.{Refusal}

-- one row a number: whether the call is to be refused, and how
abbrev pub Tests : Type 0
Tests = List (Bool × Refusal)

-- the first test that holds refuses the call
abbrev pub first_refusal : Tests → Option Refusal
first_refusal [] = None
first_refusal (test ∷ tests) = cond test.0 (Some test.1) (first_refusal tests)

abbrev pub answered : {A : Type 0} → Option Refusal → A → Result A Refusal
answered None answer = Ok answer
answered (Some refusal) answer = Err refusal

-- a refused call changes nothing
abbrev pub changed : {A : Type 0} → Option Refusal → A → A → A
changed None before after = after
changed (Some refusal) before after = before

-- the numbers of the rows rise from above n
abbrev pub Rising : ℕ → Tests → Type 0
Rising n [] = Unit {0}
Rising n (test ∷ tests) = (n < refusal_number test.1) × Rising (refusal_number test.1) tests
