-- The day's account: the accepted orders in turn, each with what was taken and cancelled of it. It is no book: it is worked
-- out from the opening and the requests alone.
use Rattle.std.specs.Prelude.{ℕ, ◌-◌, Bool, ◌&&◌, List, [], map, length, None, Option, nat_le, slice_index_or}
use Rattle.orders.specs.declared.Kind.{Kind}
use Rattle.orders.specs.declared.Kind.TheVariants.{Market}
use Rattle.orders.specs.declared.PegFlag.{PegFlag}
use Rattle.orders.specs.declared.PegFlag.TheVariants.{Pegged}
use Rattle.orders.specs.declared.Phase.{Phase}
use Rattle.orders.specs.declared.Phase.TheVariants as phase
use Rattle.orders.specs.declared.Side.{Side}
use Rattle.orders.specs.declared.Side.TheVariants.{Buy}
use Rattle.orders.specs.declared.table.Order.{Order}
use Rattle.book.specs.Views.{references_in}
use Rattle.book.specs.declared.State.{State}
use Rattle.book.specs.declared.State.TheVariants as state
use Rattle.book.specs.declared.views.References.{References}

pub record Line : Type 0 where
  pub number : ℕ
  pub entry : ℕ
  pub kind : Kind
  pub side : Side
  pub flag : PegFlag
  pub broker : ℕ
  pub limit : ℕ
  pub volume : ℕ
  pub taken : ℕ
  pub cancelled : ℕ
  pub phase : Phase

pub record Account : Type 0 where
  -- the orders accepted, in turn; the list only grows
  pub lines : List Line
  -- entry numbers used
  pub entries : ℕ
  pub close : ℕ
  pub sale : Option ℕ
  pub state : State

-- in the entry phase, with the previous close, no order and no sale
abbrev pub begun : ℕ → Account
begun close = record { lines = []; entries = 0; close = close; sale = None; state = state.Entry }

-- before a close: the volume less shares taken and cancelled
abbrev pub left : Line → ℕ
left l = l.volume - l.taken - l.cancelled

-- the order of a line as it now is
abbrev pub order_of : Line → Order
order_of l =
    record { number = l.number; entry = l.entry; kind = l.kind; side = l.side; flag = l.flag; broker = l.broker; limit = l.limit; volume = l.volume; left = left l; phase = l.phase }

abbrev pub orders : Account → List Order
orders a = map order_of a.lines

-- an order has this number
abbrev pub has : Account → ℕ → Bool
has a number = nat_le 1 number && nat_le number (length a.lines)

abbrev pub no_line : Line
no_line =
    record { number = 0; entry = 0; kind = Market; side = Buy; flag = Pegged; broker = 0; limit = 0; volume = 0; taken = 0; cancelled = 0; phase = phase.Entry }

abbrev pub line : Account → ℕ → Line
line a number = slice_index_or a.lines (number - 1) no_line

-- the references that the account tells
abbrev pub references : Account → Option References
references a = references_in a.state (orders a) a.sale a.close
