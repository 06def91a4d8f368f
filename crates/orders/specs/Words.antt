-- The words for a kind, a side, a phase, and each refusal of the book.
use Rattle.std.specs.Prelude.{ℕ, List, codes}
use Rattle.orders.specs.declared.Kind.{Kind}
use Rattle.orders.specs.declared.Kind.TheVariants.{Market, Limit, Displayed}
use Rattle.orders.specs.declared.Phase.{Phase}
use Rattle.orders.specs.declared.Phase.TheVariants.{Entry, Imbalance, Freeze, Extension, Closed}
use Rattle.orders.specs.declared.Side.{Side}
use Rattle.orders.specs.declared.Side.TheVariants.{Buy, Sell}
use Rattle.orders.specs.declared.refusal.Offset.{Offset}
use Rattle.orders.specs.declared.refusal.Offset.TheVariants as offset
use Rattle.orders.specs.declared.refusal.Refusal.{Refusal}
use Rattle.orders.specs.declared.refusal.Refusal.TheVariants as refusal

abbrev pub kind_word : Kind → List ℕ
kind_word Market = codes "market"
kind_word Limit = codes "limit"
kind_word Displayed = codes "displayed"

abbrev pub side_word : Side → List ℕ
side_word Buy = codes "buy"
side_word Sell = codes "sell"

abbrev pub phase_word : Phase → List ℕ
phase_word Entry = codes "entry"
phase_word Imbalance = codes "imbalance"
phase_word Freeze = codes "freeze"
phase_word Extension = codes "extension"
phase_word Closed = codes "closed"

abbrev pub offset_words : Offset → List ℕ
offset_words offset.WrongSide = codes "the order is not on the side that offsets the imbalance"
offset_words offset.TooLarge = codes "the volume is more than what remains of the imbalance"
offset_words offset.OutsideBand = codes "the price is outside the fail band"

abbrev pub refusal_words : Refusal → List ℕ
refusal_words refusal.BadOpening = codes "the previous close is not on the grid, or the prices are no grid"
refusal_words refusal.BookClosed = codes "the book is closed"
refusal_words refusal.NoRoom = codes "the table holds 128 orders or the entry numbers are used up"
refusal_words refusal.BadVolume = codes "the volume is not 1 to 9999999"
refusal_words refusal.OffGrid = codes "the price is not on the grid, or not 0 for a market order"
refusal_words refusal.NotAdmitted = codes "the phase does not admit an order of this kind or flag"
refusal_words refusal.Crosses = codes "the order would meet or cross a displayed order of the other side"
refusal_words (refusal.NoOffset cause) = offset_words cause
refusal_words refusal.NoSuchOrder = codes "no order has this number"
refusal_words refusal.NothingLeft = codes "no share of the order is left"
refusal_words refusal.NotAllowed = codes "the order's kind or the phase does not allow it"
refusal_words refusal.LessAggressive = codes "the new price is not more aggressive"
refusal_words refusal.BadTake = codes "the shares taken are not 1 to what is left of the order"
refusal_words refusal.WrongPhase = codes "the phase does not allow the call"
refusal_words refusal.ShortBuffer = codes "the memory lent to the call is too short"
