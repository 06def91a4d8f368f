-- The calls of the book: the tests of each, its answer, and the book after it.
use Rattle.std.specs.Prelude.{ℕ, ◌+◌, ◌-◌, Bool, cond, not, ◌&&◌, ◌||◌, List, [], ◌∷◌, Some, None, Ok, Err, Result, ◌==◌, nat_le, nat_lt, slice_index_or}
use Rattle.std.specs.List.{list_any}
use Rattle.auction.specs.Totals.{reaches}
use Rattle.orders.specs.Kinds.{is_displayed, same_side, more_aggressive}
use Rattle.orders.specs.Tables.{blank, listed, size, no_orders, known, with_order, with_more}
use Rattle.orders.specs.declared.Entry.{Entry}
use Rattle.orders.specs.declared.Kind.{Kind}
use Rattle.orders.specs.declared.Kind.TheVariants.{Market, Limit, Displayed}
use Rattle.orders.specs.declared.Phase.{Phase}
use Rattle.orders.specs.declared.Side.{Side}
use Rattle.orders.specs.declared.refusal.Offset.TheVariants.{WrongSide, TooLarge, OutsideBand}
use Rattle.orders.specs.declared.refusal.Refusal.{Refusal}
use Rattle.orders.specs.declared.refusal.Refusal.TheVariants.{BadOpening, BookClosed, NoRoom, BadVolume, OffGrid, NotAdmitted, Crosses, NoOffset, NoSuchOrder, NothingLeft, NotAllowed, LessAggressive, BadTake, WrongPhase}
use Rattle.orders.specs.declared.table.Order.{Order}
use Rattle.book.specs.Phases.{phase_of, is_closed, admits, amends, cancels, takes, tightens, advances, next_state, wrong_side, too_large, outside_band, offset_by}
use Rattle.book.specs.Tests.{Tests, first_refusal, answered, changed}
use Rattle.book.specs.declared.Book.{Book}
use Rattle.book.specs.declared.State.TheVariants as state

-- The opening

abbrev pub opened : ℕ → Book
opened close = record { table = no_orders; entries = 0; previous_close = close; last_sale = None; state = state.Entry }

abbrev pub opening : (ℕ → Bool) → ℕ → Result Book Refusal
opening holds close = cond (holds close) (Ok (opened close)) (Err BadOpening)

-- An order's record

-- what the book records of the order with a number
abbrev pub recorded : Book → ℕ → Order
recorded b number = slice_index_or b.table.orders.places (number - 1) blank

abbrev pub with_left : Order → ℕ → Order
with_left o left =
    record { number = o.number; entry = o.entry; kind = o.kind; side = o.side; flag = o.flag; broker = o.broker; limit = o.limit; volume = o.volume; left = left; phase = o.phase }

abbrev pub with_limit : Order → ℕ → ℕ → Order
with_limit o entry limit =
    record { number = o.number; entry = entry; kind = o.kind; side = o.side; flag = o.flag; broker = o.broker; limit = limit; volume = o.volume; left = o.left; phase = o.phase }

abbrev pub order_from : ℕ → ℕ → Phase → Entry → Order
order_from number entry phase e =
    record { number = number; entry = entry; kind = e.kind; side = e.side; flag = e.flag; broker = e.broker; limit = e.limit; volume = e.volume; left = e.volume; phase = phase }

-- Enter

-- all 1,000,000 entry numbers are given
abbrev pub entries_used_up : ℕ → Bool
entries_used_up entries = nat_le 1000000 entries

abbrev pub bad_volume : ℕ → Bool
bad_volume volume = volume == 0 || nat_lt 9999999 volume

-- a market order's price is 0, any other's is on the grid
abbrev pub on_grid : (ℕ → Bool) → Kind → ℕ → Bool
on_grid holds Market limit = limit == 0
on_grid holds Limit limit = holds limit
on_grid holds Displayed limit = holds limit

-- an order of this side and limit meets or crosses o, a standing displayed order of the other side
abbrev pub meets : Side → ℕ → Order → Bool
meets side limit o = (is_displayed o.kind && nat_lt 0 o.left) && (not (same_side o.side side) && reaches side limit o.limit)

abbrev pub crosses : Entry → List Order → Bool
crosses e orders = is_displayed e.kind && list_any (meets e.side e.limit) orders

abbrev pub enter_tests : (ℕ → Bool) → Book → Entry → Tests
enter_tests holds b e =
    (is_closed (phase_of b.state), BookClosed)
    ∷ (nat_le 128 (size b.table) || entries_used_up b.entries, NoRoom)
    ∷ (bad_volume e.volume, BadVolume)
    ∷ (not (on_grid holds e.kind e.limit), OffGrid)
    ∷ (not (admits (phase_of b.state) e.kind e.flag), NotAdmitted)
    ∷ (crosses e (listed b.table), Crosses)
    ∷ (wrong_side b.state e.side, NoOffset WrongSide)
    ∷ (too_large b.state e.volume, NoOffset TooLarge)
    ∷ (outside_band b.state e.limit, NoOffset OutsideBand)
    ∷ []

abbrev pub entered : Book → Entry → Book
entered b e =
    record { table = with_more b.table (order_from (size b.table + 1) (b.entries + 1) (phase_of b.state) e); entries = b.entries + 1; previous_close = b.previous_close; last_sale = b.last_sale; state = offset_by b.state e.volume }

abbrev pub enter_answer : (ℕ → Bool) → Book → Entry → Result ℕ Refusal
enter_answer holds b e = answered (first_refusal (enter_tests holds b e)) (size b.table + 1)

abbrev pub enter_book : (ℕ → Bool) → Book → Entry → Book
enter_book holds b e = changed (first_refusal (enter_tests holds b e)) b (entered b e)

-- Amend

abbrev pub amend_tests : (ℕ → Bool) → Book → ℕ → ℕ → Tests
amend_tests holds b number limit =
    (is_closed (phase_of b.state), BookClosed)
    ∷ (entries_used_up b.entries, NoRoom)
    ∷ (not (holds limit), OffGrid)
    ∷ (not (known b.table number), NoSuchOrder)
    ∷ (((recorded b number).left == 0), NothingLeft)
    ∷ (not (amends (phase_of b.state) (recorded b number).kind), NotAllowed)
    ∷ (tightens (phase_of b.state) && not (more_aggressive (recorded b number).side limit (recorded b number).limit), LessAggressive)
    ∷ []

abbrev pub amended : Book → ℕ → ℕ → Book
amended b number limit =
    record { table = with_order b.table number (with_limit (recorded b number) (b.entries + 1) limit); entries = b.entries + 1; previous_close = b.previous_close; last_sale = b.last_sale; state = b.state }

abbrev pub amend_answer : (ℕ → Bool) → Book → ℕ → ℕ → Result ℕ Refusal
amend_answer holds b number limit = answered (first_refusal (amend_tests holds b number limit)) (b.entries + 1)

abbrev pub amend_book : (ℕ → Bool) → Book → ℕ → ℕ → Book
amend_book holds b number limit = changed (first_refusal (amend_tests holds b number limit)) b (amended b number limit)

-- Cancel

abbrev pub cancel_tests : Book → ℕ → Tests
cancel_tests b number =
    (is_closed (phase_of b.state), BookClosed)
    ∷ (not (known b.table number), NoSuchOrder)
    ∷ (((recorded b number).left == 0), NothingLeft)
    ∷ (not (cancels (phase_of b.state) (recorded b number).kind), NotAllowed)
    ∷ []

abbrev pub cancelled : Book → ℕ → Book
cancelled b number =
    record { table = with_order b.table number (with_left (recorded b number) 0); entries = b.entries; previous_close = b.previous_close; last_sale = b.last_sale; state = b.state }

abbrev pub cancel_answer : Book → ℕ → Result ℕ Refusal
cancel_answer b number = answered (first_refusal (cancel_tests b number)) (recorded b number).left

abbrev pub cancel_book : Book → ℕ → Book
cancel_book b number = changed (first_refusal (cancel_tests b number)) b (cancelled b number)

-- Take

abbrev pub take_tests : Book → ℕ → ℕ → Tests
take_tests b number volume =
    (is_closed (phase_of b.state), BookClosed)
    ∷ (not (known b.table number), NoSuchOrder)
    ∷ (((recorded b number).left == 0), NothingLeft)
    ∷ (not (takes (phase_of b.state) (recorded b number).kind), NotAllowed)
    ∷ (volume == 0 || nat_lt (recorded b number).left volume, BadTake)
    ∷ []

-- the last sale becomes the limit of the order that traded
abbrev pub taken : Book → ℕ → ℕ → Book
taken b number volume =
    record { table = with_order b.table number (with_left (recorded b number) ((recorded b number).left - volume)); entries = b.entries; previous_close = b.previous_close; last_sale = Some (recorded b number).limit; state = b.state }

abbrev pub take_answer : Book → ℕ → ℕ → Result ℕ Refusal
take_answer b number volume = answered (first_refusal (take_tests b number volume)) ((recorded b number).left - volume)

abbrev pub take_book : Book → ℕ → ℕ → Book
take_book b number volume = changed (first_refusal (take_tests b number volume)) b (taken b number volume)

-- Advance

abbrev pub advance_tests : Book → Tests
advance_tests b =
    (is_closed (phase_of b.state), BookClosed)
    ∷ (not (advances (phase_of b.state)), WrongPhase)
    ∷ []

abbrev pub advanced : Book → Book
advanced b =
    record { table = b.table; entries = b.entries; previous_close = b.previous_close; last_sale = b.last_sale; state = next_state b.state }

abbrev pub advance_answer : Book → Result Phase Refusal
advance_answer b = answered (first_refusal (advance_tests b)) (phase_of (next_state b.state))

abbrev pub advance_book : Book → Book
advance_book b = changed (first_refusal (advance_tests b)) b (advanced b)
