-- A file is read exactly where it is of the format, and as the one thing that it holds.
use Rattle.std.proofs.Common.{◌≡◌, ℕ, ◌^◌, ◌<◌, ◌≤◌, ltb, leb, List, [], ◌∷◌, ◌++◌, map, length, get_or, drop, IfSome, IfOk, Some, None, Ok, Err, Option, Result, sym, refl, ap, ◌∙◌, subst, arith}
use Rattle.std.proofs.lemmas.List.{drop_more}
use Rattle.std.proofs.lemmas.Bool.{cond_both, cond-false, cond-true, le-leb, le-ltb, leb-true, ltb-false}
use Rattle.std.specs.List.{flat_map, AllByRecursion}
use Rattle.orderfile.specs.Bodies.{Content, Means, read_body}
use Rattle.orderfile.specs.Faults.{risen}
use Rattle.orderfile.specs.Format.{rule_letter, framed, laid_out, Holds}
use Rattle.orderfile.specs.Law.{ToldInOrder, ReadWhole, ReadsTheFormat}
use Rattle.orderfile.specs.Numbers.{number_at, in_bytes, Bytes}
use Rattle.orderfile.specs.Reading.{rules, rule_of, each_body, read_message, head_of, read_head, headed, read_file, contents, UnlessMemory}
use Rattle.orderfile.specs.declared.faults.FileFault.{FileFault}
use Rattle.orderfile.specs.declared.faults.MessageFault.{MessageFault}
use Rattle.orderfile.specs.declared.file.Head.{Head}
use Rattle.orderfile.specs.declared.file.OrderFile.{OrderFile}
use Rattle.orderfile.specs.declared.file.Rule.{Rule}
use Rattle.orderfile.specs.declared.file.Rule.TheVariants.{V, P}
use Rattle.orderfile.proofs.Framing.{Cut, cuts, cut_back, one_way}
use Rattle.orders.proofs.Reading.{meant}
use Rattle.orderfile.proofs.Meaning.{means}
use Rattle.orderfile.proofs.Written.{bytes_drop, number_fits, rewritten, read_back}

-- the file begins with this head, within the limits
record Headed (file : List ℕ) (head : Head) : Type 0 where
  bytes : file ≡ rule_letter head.rule ∷ (in_bytes 4 head.previous_close ++ (in_bytes 2 head.count ++ drop 7 file))
  size : length file ≤ 65536
  price : head.previous_close < 2 ^ 32
  few : head.count ≤ 1024

module _ (file : List ℕ) (small : Bytes file) where
  with_rule : length file ≤ 65536 → 7 ≤ length file → (rule : Option Rule) → IfSome rule (λ r. rule_letter r ≡ get_or file 0 0) → IfOk (head_of rule (number_at 1 4 file) (number_at 5 2 file)) (Headed file)
  with_rule size long None letter = tt
  with_rule size long (Some rule) letter =
      cond_both (leb (number_at 5 2 file) 1024) _ _ (λ r. IfOk r (Headed file))
      (λ few. record {
        bytes =
            drop_more file 0 0 (omega arith)
            ∙ (λ i. sym letter i ∷ rewritten 1 4 file small (omega arith) i)
            ∙ ap (λ l. rule_letter rule ∷ (in_bytes 4 (number_at 1 4 file) ++ l)) (rewritten 5 2 file small long);
        size = size;
        price = number_fits 1 4 file small;
        few = leb-true (number_at 5 2 file) 1024 few;
      })
      (λ _. tt)

  head_sound : IfOk (read_head file) (Headed file)
  head_sound =
      cond_both (ltb 65536 (length file)) _ _ (λ r. IfOk r (Headed file)) (λ _. tt)
      (λ size.
      cond_both (ltb (length file) 7) _ _ (λ r. IfOk r (Headed file)) (λ _. tt)
      (λ long. with_rule (ltb-false 65536 (length file) size) (ltb-false (length file) 7 long) (rule_of (get_or file 0 0)) (meant rule_letter rules (get_or file 0 0))))

rule_back : (rule : Rule) → rule_of (rule_letter rule) ≡ Some rule
rule_back V = refl
rule_back P = refl

-- a file of the format reads as what it holds
complete : (file : List ℕ) (rule : Rule) (close : ℕ) (bodies : List (List ℕ)) → Holds file rule close bodies → read_file file ≡ Ok (record { rule = rule; previous_close = close; count = length bodies }, map read_message bodies)
complete file rule close bodies h =
    let whole = laid_out rule close bodies in
    let frames = flat_map framed bodies in
    let size : length whole ≤ 65536 = subst (λ l. length l ≤ 65536) h.bytes h.size in
    let head : read_head whole ≡ Ok (record { rule = rule; previous_close = close; count = length bodies }) =
    cond-false (ltb 65536 (length whole)) _ _ (le-ltb 65536 (length whole) size)
    ∙ cond-false (ltb (length whole) 7) _ _ (le-ltb (length whole) 7 (omega arith))
    ∙ (λ i. head_of (rule_back rule i) (read_back 4 close (rule_letter rule ∷ []) (in_bytes 2 (length bodies) ++ frames) h.price i) (read_back 2 (length bodies) (rule_letter rule ∷ in_bytes 4 close) frames (omega (arith, h.few)) i))
    ∙ cond-true (leb (length bodies) 1024) _ _ (le-leb (length bodies) 1024 h.few)
    in
    ap read_file h.bytes
    ∙ ap (λ (r : Result Head FileFault). elim r [ Ok hd ↦ headed hd (each_body read_message hd.count frames) | Err fault ↦ Err fault ]) head
    ∙ ap (headed (record { rule = rule; previous_close = close; count = length bodies })) (cut_back read_message bodies)

risen_means : (body : List ℕ) (r : Result Content MessageFault) → Means body r → Means body (risen r)
risen_means body (Ok m) h = h
risen_means body (Err fault) h = h

told_in_order : (bodies : List (List ℕ)) → AllByRecursion Bytes bodies → ToldInOrder bodies (map read_message bodies)
told_in_order [] small = tt
told_in_order (body ∷ bodies) small = (risen_means body (read_body body) (means body small.0), told_in_order bodies small.1)

same_ok : {T E : Type 0} (r : Result T E) (x y : T) → r ≡ Ok x → r ≡ Ok y → x ≡ y
same_ok r x y e e' = cc

-- what two readings of one file hold is the same
only : (file : List ℕ) (rule rule' : Rule) (close close' : ℕ) (bodies bodies' : List (List ℕ)) → Holds file rule close bodies → Holds file rule' close' bodies' → (rule ≡ rule') × (close ≡ close') × (bodies ≡ bodies')
only file rule rule' close close' bodies bodies' h h' =
    let same = same_ok (read_file file) _ _ (complete file rule close bodies h) (complete file rule' close' bodies' h') in
    (ap (λ p. p.0.rule) same, ap (λ p. p.0.previous_close) same, one_way bodies bodies' (ap (λ p. p.0.count) same) (ap (drop 7) (sym h.bytes ∙ h'.bytes)))

-- a file that is read is of the format
sound : (file : List ℕ) → Bytes file → IfOk (read_file file) (λ p. ReadWhole file p.0 p.1)
sound file small = with_head (read_head file) (head_sound file small)
  where
    with_bodies : (head : Head) → Headed file head → (r : Result (List (Result Content FileFault)) FileFault) → IfOk r (Cut read_message head.count (drop 7 file)) → IfOk (headed head r) (λ p. ReadWhole file p.0 p.1)
    with_bodies head h (Err fault) c = tt
    with_bodies head h (Ok messages) c =
        let holds : Holds file head.rule head.previous_close c.bodies = record {
          bytes = h.bytes ∙ (λ i. rule_letter head.rule ∷ (in_bytes 4 head.previous_close ++ (in_bytes 2 (sym c.count i) ++ c.frames i)));
          size = h.size;
          price = h.price;
          few = subst (λ n. n ≤ 1024) (sym c.count) h.few;
          short = c.short;
        } in
        record {
          bodies = c.bodies;
          holds = holds;
          counted = sym c.count;
          only = λ rule close others h'. only file rule head.rule close head.previous_close others c.bodies h' holds;
          told = subst (ToldInOrder c.bodies) (sym c.as_told) (told_in_order c.bodies c.bytes);
        }

    with_head : (r : Result Head FileFault) → IfOk r (Headed file) → IfOk (elim r [ Ok head ↦ headed head (each_body read_message head.count (drop 7 file)) | Err fault ↦ Err fault ]) (λ p. ReadWhole file p.0 p.1)
    with_head (Err fault) h = tt
    with_head (Ok head) h = with_bodies head h (each_body read_message head.count (drop 7 file)) (cuts read_message head.count (drop 7 file) (bytes_drop 7 file small))

-- what reads a file as defined reads exactly the files of the format
pub lawful : (file : List ℕ) → Bytes file → (r : Result OrderFile FileFault) → UnlessMemory contents r (read_file file) → ReadsTheFormat file r
lawful file small (Ok f) is = subst (λ r. IfOk r (λ p. ReadWhole file p.0 p.1)) is (sound file small)
lawful file small (Err fault) is = λ other rule close bodies h.
    let clash = sym (is other) ∙ complete file rule close bodies h in
    let no : ◌≡◌ {A = ℕ} 0 1 = cc in
    omega arith
