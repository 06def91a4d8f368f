-- The readable text of an order file, line by line.
use Rattle.std.specs.Prelude.{ℕ, ◌+◌, List, [], ◌∷◌, ◌++◌, Ok, Err, codes, decimal, encode_utf8_all, Result}
use Rattle.orders.specs.Letters.{flag_letter}
use Rattle.orders.specs.Words.{kind_word, side_word}
use Rattle.orders.specs.declared.Entry.{Entry}
use Rattle.orderfile.specs.Bodies.{Content, enters, amends, cancels, takes, advances, calls}
use Rattle.orderfile.specs.Format.{rule_letter}
use Rattle.orderfile.specs.Reading.{read_file}
use Rattle.orderfile.specs.declared.faults.FileFault.{FileFault}
use Rattle.orderfile.specs.declared.file.Head.{Head}
use Rattle.report.specs.Text.{pieces, dollars}
use Rattle.report.specs.Words.{plural_ending, fault_text}

abbrev pub order_text : Entry → List ℕ
order_text e =
    pieces (codes "enter " ∷ kind_word e.kind ∷ codes " " ∷ side_word e.side ∷ codes " " ∷ decimal e.volume
    ∷ codes " at " ∷ dollars e.limit ∷ codes ", flag " ∷ (flag_letter e.flag ∷ []) ∷ codes ", broker " ∷ decimal e.broker ∷ [])

-- a byte of a reference is the character with that number
abbrev pub message_text : Content → List ℕ
message_text (enters e []) = order_text e
message_text (enters e (b ∷ bs)) = pieces (order_text e ∷ codes ", reference " ∷ encode_utf8_all (b ∷ bs) ∷ [])
message_text (amends number limit) = pieces (codes "amend order " ∷ decimal number ∷ codes " to " ∷ dollars limit ∷ [])
message_text (cancels number) = pieces (codes "cancel order " ∷ decimal number ∷ [])
message_text (takes number volume) = pieces (codes "take " ∷ decimal volume ∷ codes " of order " ∷ decimal number ∷ [])
message_text advances = codes "advance"
message_text calls = codes "call"

-- a message, or what is wrong with it, behind its place in the file
abbrev pub line : ℕ → Result Content FileFault → List ℕ
line place (Ok m) = pieces (decimal place ∷ codes " " ∷ message_text m ∷ codes "\n" ∷ [])
line place (Err fault) = pieces (decimal place ∷ codes " fault " ∷ fault_text fault ∷ codes "\n" ∷ [])

-- the lines of messages from a place on
abbrev pub lines : ℕ → List (Result Content FileFault) → List ℕ
lines place [] = []
lines place (m ∷ ms) = line place m ++ lines (place + 1) ms

abbrev pub head_line : Head → List ℕ
head_line head =
    pieces (codes "rule " ∷ (rule_letter head.rule ∷ []) ∷ codes ", previous close " ∷ dollars head.previous_close
    ∷ codes ", " ∷ decimal head.count ∷ codes " message" ∷ plural_ending head.count ∷ codes "\n" ∷ [])

abbrev pub accepted_text : Head → List (Result Content FileFault) → List ℕ
accepted_text head messages = head_line head ++ lines 1 messages

-- the line of a refusal, from the words that say why
abbrev pub refused_line : List ℕ → List ℕ
refused_line why = pieces (codes "refused " ∷ why ∷ codes "\n" ∷ [])

abbrev pub refused_text : FileFault → List ℕ
refused_text fault = refused_line (fault_text fault)

-- the text of the file with these bytes
abbrev pub file_text : List ℕ → List ℕ
file_text file = elim (read_file file) [ Ok read ↦ accepted_text read.0 read.1 | Err fault ↦ refused_text fault ]
