-- The law of the requests: the book follows the account, whatever the requests are.
use Rattle.std.specs.Prelude.{◌≡◌, ℕ, ◌+◌, ◌-◌, ◌<◌, ◌≤◌, Bool, true, false, ◌⊎◌, List, [], ◌∷◌, ◌++◌, map, length, get_or, replicate, Ok, Result, MatchResult, slice_index_or}
use Rattle.orders.specs.Refusals.{refusal_number}
use Rattle.orders.specs.Tables.{blank, listed, known}
use Rattle.orders.specs.declared.Entry.{Entry}
use Rattle.orders.specs.declared.Side.TheVariants.{Buy, Sell}
use Rattle.orders.specs.declared.refusal.Refusal.{Refusal}
use Rattle.orders.specs.declared.refusal.Refusal.TheVariants.{BadOpening}
use Rattle.orders.specs.declared.table.Order.{Order}
use Rattle.orders.specs.declared.table.OrderTable.{OrderTable}
use Rattle.book.specs.Calls.{recorded}
use Rattle.book.specs.Tests.{Tests}
use Rattle.book.specs.Views.{totals_from, notice_from, book_totals, book_notice}
use Rattle.book.specs.declared.Book.{Book}
use Rattle.book.specs.declared.requests.Answer.{Answer}
use Rattle.book.specs.declared.requests.Answer.TheVariants.{Entered}
use Rattle.book.specs.declared.requests.Request.{Request}
use Rattle.book.specs.declared.requests.Request.TheVariants.{Enter}
use Rattle.reference.specs.Quote.{quotes_on}
use Rattle.day.specs.Account.{Line, Account, begun, order_of, orders, line, references}
use Rattle.day.specs.Noting.{tests, answer_noted, account, answers}
use Rattle.day.specs.declared.Turn.{Turn}

-- the table and the book that record what the account says
abbrev pub table_of : List Line → OrderTable
table_of ls = record { orders = record { places = map order_of ls ++ replicate (128 - length ls) blank; count = length ls } }

abbrev pub book_of : Account → Book
book_of a = record { table = table_of a.lines; entries = a.entries; previous_close = a.close; last_sale = a.sale; state = a.state }

abbrev pub requests : List Turn → List Request
requests turns = map (λ turn. turn.request) turns

abbrev pub given_answers : List Turn → List (Result Answer Refusal)
given_answers turns = map (λ turn. turn.answer) turns

-- x is the refusal of a test that holds
abbrev pub HoldsFor : Refusal → Tests → Type 0
HoldsFor x [] = ⊥
HoldsFor x (test ∷ rest) = ((test.0 ≡ true) × (test.1 ≡ x)) ⊎ HoldsFor x rest

-- no test holds, and no test with a number below n does
abbrev pub NoneHolds : Tests → Type 0
NoneHolds [] = Unit {0}
NoneHolds (test ∷ rest) = (test.0 ≡ false) × NoneHolds rest

abbrev pub NoneBelow : ℕ → Tests → Type 0
NoneBelow n [] = Unit {0}
NoneBelow n (test ∷ rest) = (test.0 ≡ true → n ≤ refusal_number test.1) × NoneBelow n rest

-- refused with the least number whose test holds, and accepted where none does
abbrev pub Decided : {A : Type 0} → Tests → Result A Refusal → Type 0
Decided rows r = MatchResult r (λ _. NoneHolds rows) (λ x. HoldsFor x rows × NoneBelow (refusal_number x) rows)

-- what an order keeps for good
pub record Keeps (number : ℕ) (e : Entry) (o : Order) : Type 0 where
  pub same_number : o.number ≡ number
  pub same_kind : o.kind ≡ e.kind
  pub same_side : o.side ≡ e.side
  pub same_flag : o.flag ≡ e.flag
  pub same_broker : o.broker ≡ e.broker
  pub same_volume : o.volume ≡ e.volume

-- every displayed buy stands below every displayed sell, so that the quote is never locked or crossed
abbrev pub Uncrossed : List Order → Type 0
Uncrossed os = (i j : ℕ) → i < length os → j < length os → quotes_on Buy (slice_index_or os i blank) ≡ true → quotes_on Sell (slice_index_or os j blank) ≡ true → (get_or os i blank).limit < (get_or os j blank).limit

-- b is the book after the requests rs, of which a is the account
pub record Follows (holds : ℕ → Bool) (close : ℕ) (rs : List Request) (a : Account) (b : Book) : Type 0 where
  pub shows : b ≡ book_of a
  -- entry numbers differ, and are among those used
  pub apart : (m n : ℕ) → known b.table m ≡ true → known b.table n ≡ true → (recorded b m).entry ≡ (recorded b n).entry → m ≡ n
  pub used : (n : ℕ) → known b.table n ≡ true → (1 ≤ (recorded b n).entry) × ((recorded b n).entry ≤ b.entries)
  -- an accepted order keeps what it is
  pub kept : (past later : List Request) (e : Entry) (n : ℕ) → rs ≡ past ++ Enter e ∷ later → answer_noted holds (account holds (begun close) past) (Enter e) ≡ Ok (Entered n) → Keeps n e (recorded b n)
  -- before a close, an order's volume is what was taken and cancelled of it and what is left
  pub adds_up : (n : ℕ) → known b.table n ≡ true → (recorded b n).volume ≡ (line a n).taken + (line a n).cancelled + (recorded b n).left
  pub uncrossed : Uncrossed (listed b.table)
  -- totals and notice are the account's
  pub totals : (p : ℕ) → book_totals holds b p ≡ totals_from holds (orders a) p (references a)
  pub notice : book_notice holds b ≡ notice_from holds (orders a) (references a)

-- the turns that the book was asked, and what they hold after the last
pub record Ran (holds : ℕ → Bool) (close : ℕ) (asked done : List Turn) (b : Book) : Type 0 where
  pub opens : holds close ≡ true
  pub same_requests : requests done ≡ requests asked
  -- each is answered as the account says, and refused with the least number whose test holds
  pub answered_all : given_answers done ≡ answers holds (begun close) (requests asked)
  pub decided : (a : Account) (r : Request) → Decided (tests holds a r) (answer_noted holds a r)
  pub follows : Follows holds close (requests asked) (account holds (begun close) (requests asked)) b

-- the opening is refused, and nothing is answered
pub record Unopened (holds : ℕ → Bool) (close : ℕ) (asked done : List Turn) (x : Refusal) : Type 0 where
  pub off_grid : holds close ≡ false
  pub refusal : x ≡ BadOpening
  pub same : done ≡ asked
