-- The body of a message: its letter, then its fields.
use Rattle.std.specs.Prelude.{◌≡◌, ℕ, ◌^◌, ◌<◌, ◌≤◌, Bool, true, cond, ◌&&◌, ◌||◌, List, [], ◌∷◌, ◌++◌, length, drop, Some, None, Ok, Err, Option, Result, MatchResult, ◌==◌, ◌≢◌, nat_le, slice_index}
use Rattle.std.specs.List.{list_all}
use Rattle.std.specs.Result.{result_map_both}
use Rattle.orders.specs.Letters.{ascii, kind_letter, side_letter, flag_letter, kind_of, side_of, flag_of}
use Rattle.orders.specs.declared.Entry.{Entry}
use Rattle.orders.specs.declared.Kind.{Kind}
use Rattle.orders.specs.declared.PegFlag.{PegFlag}
use Rattle.orders.specs.declared.Side.{Side}
use Rattle.orderfile.specs.Numbers.{number_at, in_bytes}
use Rattle.orderfile.specs.declared.faults.MessageFault.{MessageFault}
use Rattle.orderfile.specs.declared.faults.MessageFault.TheVariants.{Empty, UnknownLetter, WrongLength, BadKind, BadSide, BadFlag, BadReference}
use Rattle.orderfile.specs.declared.message.Message.{Message}
use Rattle.orderfile.specs.declared.message.Message.TheVariants as message

-- what a message asks for
pub data Content : Type 0 where
  enters : Entry → List ℕ → Content  -- an order, and the member's reference
  amends : ℕ → ℕ → Content  -- an order's number, its new limit
  cancels : ℕ → Content  -- an order's number
  takes : ℕ → ℕ → Content  -- an order's number, the shares traded
  advances : Content
  calls : Content

abbrev pub content : Message → Content
content (message.Enter entry reference) = enters entry reference.now
content (message.Amend number limit) = amends number limit
content (message.Cancel number) = cancels number
content (message.Take number volume) = takes number volume
content message.Advance = advances
content message.Call = calls

abbrev pub told : {E : Type 0} → Result Message E → Result Content E
told = result_map_both content (λ fault. fault)

-- A–Z and 0–9
abbrev pub reference_byte : ℕ → Bool
reference_byte b = (nat_le (ascii "A") b && nat_le b (ascii "Z")) || (nat_le (ascii "0") b && nat_le b (ascii "9"))

abbrev pub reference_bytes : List ℕ → Bool
reference_bytes = list_all reference_byte

-- the bytes of a message: its letter, then its fields
abbrev pub body_of : Content → List ℕ
body_of (enters e reference) =
    ascii "E" ∷ kind_letter e.kind ∷ side_letter e.side ∷ flag_letter e.flag ∷ (in_bytes 2 e.broker ++ (in_bytes 4 e.limit ++ (in_bytes 4 e.volume ++ reference)))
body_of (amends number limit) = ascii "A" ∷ (in_bytes 2 number ++ in_bytes 4 limit)
body_of (cancels number) = ascii "X" ∷ in_bytes 2 number
body_of (takes number volume) = ascii "T" ∷ (in_bytes 2 number ++ in_bytes 4 volume)
body_of advances = ascii "P" ∷ []
body_of calls = ascii "C" ∷ []

-- the numbers fit their fields, and a reference is 0 to 20 of its bytes
abbrev pub WellFormed : Content → Type 0
WellFormed (enters e reference) = (e.broker < 2 ^ 16) × (e.limit < 2 ^ 32) × (e.volume < 2 ^ 32) × (length reference ≤ 20) × (reference_bytes reference ≡ true)
WellFormed (amends number limit) = (number < 2 ^ 16) × (limit < 2 ^ 32)
WellFormed (cancels number) = number < 2 ^ 16
WellFormed (takes number volume) = (number < 2 ^ 16) × (volume < 2 ^ 32)
WellFormed advances = Unit {0}
WellFormed calls = Unit {0}

-- r is the one well-formed message with this body, and a fault only where there is none
abbrev pub Means : {E : Type 0} → List ℕ → Result Content E → Type 0
Means body r = MatchResult r (λ m. (body ≡ body_of m) × WellFormed m) (λ _. (m : Content) → WellFormed m → body ≢ body_of m)

-- the message m, if the fields behind the letter take so many bytes
abbrev pub of_length : ℕ → List ℕ → Content → Result Content MessageFault
of_length n fields m = cond (length fields == n) (Ok m) (Err WrongLength)

-- the order that the fields of an enter body describe, if each is good
abbrev pub read_order : Option Kind → Option Side → Option PegFlag → ℕ → ℕ → ℕ → List ℕ → Result Content MessageFault
read_order None side flag broker limit volume reference = Err BadKind
read_order (Some kind) None flag broker limit volume reference = Err BadSide
read_order (Some kind) (Some side) None broker limit volume reference = Err BadFlag
read_order (Some kind) (Some side) (Some flag) broker limit volume reference =
    cond (reference_bytes reference)
    (Ok (enters (record { kind = kind; side = side; flag = flag; broker = broker; limit = limit; volume = volume }) reference))
    (Err BadReference)

-- kind, side, flag, broker (2), limit (4), volume (4), and a reference of 0 to 20 bytes
abbrev pub read_enter : List ℕ → Result Content MessageFault
read_enter fields =
    cond (nat_le 13 (length fields) && nat_le (length fields) 33)
    (read_order (kind_of (slice_index fields 0)) (side_of (slice_index fields 1)) (flag_of (slice_index fields 2)) (number_at 3 2 fields) (number_at 5 4 fields) (number_at 9 4 fields) (drop 13 fields))
    (Err WrongLength)

-- E enter, A amend: number (2), limit (4), X cancel: number (2), T take: number (2), volume (4), P advance, C call
abbrev pub read_fields : ℕ → List ℕ → Result Content MessageFault
read_fields letter fields =
    cond (letter == (ascii "E")) (read_enter fields)
    (cond (letter == (ascii "A")) (of_length 6 fields (amends (number_at 0 2 fields) (number_at 2 4 fields)))
    (cond (letter == (ascii "X")) (of_length 2 fields (cancels (number_at 0 2 fields)))
    (cond (letter == (ascii "T")) (of_length 6 fields (takes (number_at 0 2 fields) (number_at 2 4 fields)))
    (cond (letter == (ascii "P")) (of_length 0 fields advances)
    (cond (letter == (ascii "C")) (of_length 0 fields calls)
    (Err UnknownLetter))))))

-- what the message of a body asks for, or the first fault in it
abbrev pub read_body : List ℕ → Result Content MessageFault
read_body [] = Err Empty
read_body (letter ∷ fields) = read_fields letter fields
