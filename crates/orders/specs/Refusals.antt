-- The number of each refusal of the book.
use Rattle.std.specs.Prelude.{ℕ}
use Rattle.orders.specs.declared.refusal.Offset.{Offset}
use Rattle.orders.specs.declared.refusal.Offset.TheVariants as offset
use Rattle.orders.specs.declared.refusal.Refusal.{Refusal}
use Rattle.orders.specs.declared.refusal.Refusal.TheVariants as refusal

abbrev pub offset_number : Offset → ℕ
offset_number offset.WrongSide = 8
offset_number offset.TooLarge = 9
offset_number offset.OutsideBand = 10

abbrev pub refusal_number : Refusal → ℕ
refusal_number refusal.BadOpening = 1
refusal_number refusal.BookClosed = 2
refusal_number refusal.NoRoom = 3
refusal_number refusal.BadVolume = 4
refusal_number refusal.OffGrid = 5
refusal_number refusal.NotAdmitted = 6
refusal_number refusal.Crosses = 7
refusal_number (refusal.NoOffset cause) = offset_number cause
refusal_number refusal.NoSuchOrder = 11
refusal_number refusal.NothingLeft = 12
refusal_number refusal.NotAllowed = 13
refusal_number refusal.LessAggressive = 14
refusal_number refusal.BadTake = 15
refusal_number refusal.WrongPhase = 16
refusal_number refusal.ShortBuffer = 17
