-- What an order file reads as, or the first fault in it.
use Rattle.std.specs.Prelude.{◌≡◌, ℕ, zero, suc, cond, List, [], ◌∷◌, map, length, take, drop, Some, None, Ok, Err, vec_items, Option, Result, ◌≢◌, nat_le, nat_lt, slice_index}
use Rattle.std.specs.Result.{result_map_both}
use Rattle.orders.specs.Letters.{lettered}
use Rattle.orderfile.specs.Bodies.{Content, told, read_body}
use Rattle.orderfile.specs.Faults.{risen}
use Rattle.orderfile.specs.Format.{rule_letter}
use Rattle.orderfile.specs.Numbers.{number_at}
use Rattle.orderfile.specs.declared.faults.FileFault.{FileFault}
use Rattle.orderfile.specs.declared.faults.FileFault.TheVariants.{TooLong, ShortHead, UnknownRule, TooManyMessages, MissingBody, CutBody, ExtraBytes, Memory}
use Rattle.orderfile.specs.declared.file.Head.{Head}
use Rattle.orderfile.specs.declared.file.OrderFile.{OrderFile}
use Rattle.orderfile.specs.declared.file.Rule.{Rule}
use Rattle.orderfile.specs.declared.file.Rule.TheVariants.{V, P}

abbrev pub rules : List Rule
rules = V ∷ P ∷ []

abbrev pub rule_of : ℕ → Option Rule
rule_of = lettered rule_letter rules

-- the body at the front and what is behind it
abbrev pub next_body : List ℕ → Result (List ℕ × List ℕ) FileFault
next_body [] = Err MissingBody
next_body (size ∷ rest) = cond (nat_le size (length rest)) (Ok (take size rest, drop size rest)) (Err CutBody)

-- x in front of what r lists
abbrev pub in_front : {A : Type 0} → A → Result (List A) FileFault → Result (List A) FileFault
in_front x = result_map_both (λ xs. x ∷ xs) (λ fault. fault)

-- f of each of n bodies, which end where the bytes end
abbrev pub each_body : {A : Type 0} → (List ℕ → A) → ℕ → List ℕ → Result (List A) FileFault
each_body f zero [] = Ok []
each_body f zero (b ∷ bs) = Err ExtraBytes
each_body f (suc n) bs = elim (next_body bs) [ Ok p ↦ in_front (f p.0) (each_body f n p.1) | Err fault ↦ Err fault ]

-- a body's message, as the file layer reports it
abbrev pub read_message : List ℕ → Result Content FileFault
read_message body = risen (read_body body)

abbrev pub head_of : Option Rule → ℕ → ℕ → Result Head FileFault
head_of None close count = Err UnknownRule
head_of (Some rule) close count = cond (nat_le count 1024) (Ok (record { rule = rule; previous_close = close; count = count })) (Err TooManyMessages)

-- rule letter, previous close (4), message count (2)
abbrev pub read_head : List ℕ → Result Head FileFault
read_head file =
    cond (nat_lt 65536 (length file)) (Err TooLong)
    (cond (nat_lt (length file) 7) (Err ShortHead)
    (head_of (rule_of (slice_index file 0)) (number_at 1 4 file) (number_at 5 2 file)))

-- the head beside the messages that r lists
abbrev pub headed : Head → Result (List (Result Content FileFault)) FileFault → Result (Head × List (Result Content FileFault)) FileFault
headed head = result_map_both (λ messages. (head, messages)) (λ fault. fault)

-- the head, and each message or its fault
abbrev pub read_file : List ℕ → Result (Head × List (Result Content FileFault)) FileFault
read_file file = elim (read_head file) [ Ok head ↦ headed head (each_body read_message head.count (drop 7 file)) | Err fault ↦ Err fault ]

abbrev pub contents : OrderFile → Head × List (Result Content FileFault)
contents f = (f.head, map told (vec_items f.messages))

-- r, as `view` shows it, is what is expected, unless memory ran out
abbrev pub UnlessMemory : {A B : Type 0} → (A → B) → Result A FileFault → Result B FileFault → Type 0
UnlessMemory view (Ok x) expected = expected ≡ Ok (view x)
UnlessMemory view (Err fault) expected = (fault ≢ Memory) → expected ≡ Err fault
