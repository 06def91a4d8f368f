-- What a loop has written, and one piece more.
use Rattle.std.proofs.Common.{◌≡◌, ℕ, ◌+◌, ◌<◌, List, [], ◌∷◌, ◌++◌, map, length, get_or, take, Result, sym, ap, ◌∙◌, append_assoc, append-nil, arith}
use lib.Utf8.{encode, encodes}
use Rattle.std.proofs.Output.{has_written_of_eq, has_written_append}
use Rattle.std.proofs.lemmas.List.{length-map, length-take-le, map_push, take_more}
use Rattle.std.proofs.lemmas.Str.{encodes-append}
use Rattle.std.specs.Fmt.{IsPlainFormatter, HasWritten}
use Rattle.std.specs.declared.fmt.Formatter.{Formatter}
use Rattle.orderfile.specs.Bodies.{Content}
use Rattle.orderfile.specs.declared.faults.FileFault.{FileFault}
use Rattle.report.specs.Lines.{line, lines}

-- a turn of a loop writes the piece b behind a
pub grown : {W : Type 0} {took : W → List ℕ → W → Type 0} {f g h : Formatter W} {a b all : List ℕ} → HasWritten took f a g → (IsPlainFormatter g → HasWritten took g b h) → a ++ b ≡ all → HasWritten took f all h
grown {took} {f} {g} {h} {a} {b} {all} before more same = has_written_of_eq took f (a ++ b) all h same (has_written_append took f a g b h before (more before.plain))

-- bytes as characters: one byte more
pub encodes_more : (bs : List ℕ) (i : ℕ) → i < length bs → encodes (take i bs) ++ encode (get_or bs i 0) ≡ encodes (take (i + 1) bs)
encodes_more bs i inside =
    ap (λ l. encodes (take i bs) ++ l) (sym (append-nil (encode (get_or bs i 0))))
    ∙ sym (ap encodes (take_more bs i 0 inside) ∙ encodes-append (take i bs) (get_or bs i 0 ∷ []))

-- the line of a message behind the lines of others
lines_push : (place : ℕ) (ms : List (Result Content FileFault)) (m : Result Content FileFault) → lines place (ms ++ m ∷ []) ≡ lines place ms ++ line (place + length ms) m
lines_push place [] m = append-nil (line place m) ∙ ap (λ n. line n m) (omega arith)
lines_push place (x ∷ ms) m =
    ap (λ l. line place x ++ l) (lines_push (place + 1) ms m ∙ ap (λ n. lines (place + 1) ms ++ line n m) (omega arith))
    ∙ sym (append_assoc (line place x) (lines (place + 1) ms) _)

-- the lines of a file's messages: one message more
pub lines_more : {M : Type 0} (view : M → Result Content FileFault) (ms : List M) (i : ℕ) (d : M) → i < length ms → lines 1 (map view (take i ms)) ++ line (i + 1) (view (get_or ms i d)) ≡ lines 1 (map view (take (i + 1) ms))
lines_more view ms i d inside =
    let before = map view (take i ms) in
    let place : i + 1 ≡ 1 + length before = omega (arith, length-map (take i ms) view, length-take-le i ms) in
    ap (λ n. lines 1 before ++ line n (view (get_or ms i d))) place
    ∙ sym (ap (λ l. lines 1 (map view l)) (take_more ms i d inside) ∙ ap (lines 1) (map_push view (take i ms) (get_or ms i d)) ∙ lines_push 1 before (view (get_or ms i d)))
