-- What a request does to the account, and what is answered to it.
use Rattle.std.specs.Prelude.{ℕ, ◌+◌, ◌-◌, Bool, not, ◌&&◌, ◌||◌, List, [], ◌∷◌, ◌++◌, length, Some, fold, Result, ◌==◌, nat_le, nat_lt, slice_set}
use Rattle.orders.specs.Kinds.{more_aggressive}
use Rattle.orders.specs.declared.Entry.{Entry}
use Rattle.orders.specs.declared.refusal.Offset.TheVariants.{WrongSide, TooLarge, OutsideBand}
use Rattle.orders.specs.declared.refusal.Refusal.{Refusal}
use Rattle.orders.specs.declared.refusal.Refusal.TheVariants.{BookClosed, NoRoom, BadVolume, OffGrid, NotAdmitted, Crosses, NoOffset, NoSuchOrder, NothingLeft, NotAllowed, LessAggressive, BadTake, WrongPhase}
use Rattle.book.specs.Calls.{entries_used_up, bad_volume, on_grid, crosses}
use Rattle.book.specs.Phases.{phase_of, is_closed, admits, amends, cancels, takes, tightens, advances, next_state, wrong_side, too_large, outside_band, offset_by}
use Rattle.book.specs.Tests.{Tests, first_refusal, answered, changed}
use Rattle.book.specs.declared.requests.Answer.{Answer}
use Rattle.book.specs.declared.requests.Answer.TheVariants as answer
use Rattle.book.specs.declared.requests.Request.{Request}
use Rattle.book.specs.declared.requests.Request.TheVariants as request
use Rattle.day.specs.Account.{Line, Account, left, orders, has, line}

-- the tests of each request, one row a number
abbrev pub tests : (ℕ → Bool) → Account → Request → Tests
tests holds a (request.Enter e) =
    (is_closed (phase_of a.state), BookClosed)
    ∷ (nat_le 128 (length a.lines) || entries_used_up a.entries, NoRoom)
    ∷ (bad_volume e.volume, BadVolume)
    ∷ (not (on_grid holds e.kind e.limit), OffGrid)
    ∷ (not (admits (phase_of a.state) e.kind e.flag), NotAdmitted)
    ∷ (crosses e (orders a), Crosses)
    ∷ (wrong_side a.state e.side, NoOffset WrongSide)
    ∷ (too_large a.state e.volume, NoOffset TooLarge)
    ∷ (outside_band a.state e.limit, NoOffset OutsideBand)
    ∷ []
tests holds a (request.Amend number limit) =
    (is_closed (phase_of a.state), BookClosed)
    ∷ (entries_used_up a.entries, NoRoom)
    ∷ (not (holds limit), OffGrid)
    ∷ (not (has a number), NoSuchOrder)
    ∷ ((left (line a number) == 0), NothingLeft)
    ∷ (not (amends (phase_of a.state) (line a number).kind), NotAllowed)
    ∷ (tightens (phase_of a.state) && not (more_aggressive (line a number).side limit (line a number).limit), LessAggressive)
    ∷ []
tests holds a (request.Cancel number) =
    (is_closed (phase_of a.state), BookClosed)
    ∷ (not (has a number), NoSuchOrder)
    ∷ ((left (line a number) == 0), NothingLeft)
    ∷ (not (cancels (phase_of a.state) (line a number).kind), NotAllowed)
    ∷ []
tests holds a (request.Take number volume) =
    (is_closed (phase_of a.state), BookClosed)
    ∷ (not (has a number), NoSuchOrder)
    ∷ ((left (line a number) == 0), NothingLeft)
    ∷ (not (takes (phase_of a.state) (line a number).kind), NotAllowed)
    ∷ (volume == 0 || nat_lt (left (line a number)) volume, BadTake)
    ∷ []
tests holds a request.Advance =
    (is_closed (phase_of a.state), BookClosed)
    ∷ (not (advances (phase_of a.state)), WrongPhase)
    ∷ []

-- a new line, and a line after an amendment, a cancel and a take

abbrev pub new_line : Account → Entry → Line
new_line a e =
    record { number = length a.lines + 1; entry = a.entries + 1; kind = e.kind; side = e.side; flag = e.flag; broker = e.broker; limit = e.limit; volume = e.volume; taken = 0; cancelled = 0; phase = phase_of a.state }

abbrev pub re_entered : Line → ℕ → ℕ → Line
re_entered l entry limit =
    record { number = l.number; entry = entry; kind = l.kind; side = l.side; flag = l.flag; broker = l.broker; limit = limit; volume = l.volume; taken = l.taken; cancelled = l.cancelled; phase = l.phase }

abbrev pub with_cancelled : Line → Line
with_cancelled l =
    record { number = l.number; entry = l.entry; kind = l.kind; side = l.side; flag = l.flag; broker = l.broker; limit = l.limit; volume = l.volume; taken = l.taken; cancelled = l.cancelled + left l; phase = l.phase }

abbrev pub with_taken : Line → ℕ → Line
with_taken l shares =
    record { number = l.number; entry = l.entry; kind = l.kind; side = l.side; flag = l.flag; broker = l.broker; limit = l.limit; volume = l.volume; taken = l.taken + shares; cancelled = l.cancelled; phase = l.phase }

-- what an accepted request does
abbrev pub accepted : Account → Request → Account
accepted a (request.Enter e) =
    record { lines = a.lines ++ new_line a e ∷ []; entries = a.entries + 1; close = a.close; sale = a.sale; state = offset_by a.state e.volume }
accepted a (request.Amend number limit) =
    record { lines = slice_set a.lines (number - 1) (re_entered (line a number) (a.entries + 1) limit); entries = a.entries + 1; close = a.close; sale = a.sale; state = a.state }
accepted a (request.Cancel number) =
    record { lines = slice_set a.lines (number - 1) (with_cancelled (line a number)); entries = a.entries; close = a.close; sale = a.sale; state = a.state }
accepted a (request.Take number volume) =
    record { lines = slice_set a.lines (number - 1) (with_taken (line a number) volume); entries = a.entries; close = a.close; sale = Some (line a number).limit; state = a.state }
accepted a request.Advance = record { lines = a.lines; entries = a.entries; close = a.close; sale = a.sale; state = next_state a.state }

-- what is answered to an accepted request: the order's number, its new entry number, the shares cancelled, the shares left,
-- the new phase
abbrev pub answer_to : Account → Request → Answer
answer_to a (request.Enter e) = answer.Entered (length a.lines + 1)
answer_to a (request.Amend number limit) = answer.Amended (a.entries + 1)
answer_to a (request.Cancel number) = answer.Cancelled (left (line a number))
answer_to a (request.Take number volume) = answer.Left (left (line a number) - volume)
answer_to a request.Advance = answer.Moved (phase_of (next_state a.state))

-- a refused request changes nothing
abbrev pub noted : (ℕ → Bool) → Account → Request → Account
noted holds a r = changed (first_refusal (tests holds a r)) a (accepted a r)

abbrev pub answer_noted : (ℕ → Bool) → Account → Request → Result Answer Refusal
answer_noted holds a r = answered (first_refusal (tests holds a r)) (answer_to a r)

-- the account after a list of requests, and the answers to them
abbrev pub account : (ℕ → Bool) → Account → List Request → Account
account holds a rs = fold (noted holds) a rs

abbrev pub answers : (ℕ → Bool) → Account → List Request → List (Result Answer Refusal)
answers holds a [] = []
answers holds a (r ∷ rs) = answer_noted holds a r ∷ answers holds (noted holds a r) rs
