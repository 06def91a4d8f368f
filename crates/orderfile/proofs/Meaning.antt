-- A body reads as the one well-formed message whose bytes it is.
use Rattle.std.proofs.Common.{◌≡◌, ℕ, suc, ◌+◌, ◌≤◌, cond, ◌&&◌, eqb, leb, List, [], ◌∷◌, ◌++◌, length, get_or, drop, IfSome, IfOk, Some, None, Ok, Err, Option, Result, sym, refl, ap, ◌∙◌, subst, arith}
use Prim.Native.String.{String}
use Rattle.std.proofs.lemmas.List.{append-nil, drop_all, drop_more, length-drop, nil_from_length}
use Rattle.std.proofs.lemmas.Bool.{and_from, and_parts, cond_both, cond-true, eqb-true, le-leb, leb-true}
use Rattle.orders.specs.Letters.{ascii, kinds, sides, flags, kind_letter, side_letter, flag_letter, kind_of, side_of, flag_of}
use Rattle.orders.specs.declared.Kind.{Kind}
use Rattle.orders.specs.declared.Kind.TheVariants.{Market, Limit, Displayed}
use Rattle.orders.specs.declared.PegFlag.{PegFlag}
use Rattle.orders.specs.declared.PegFlag.TheVariants.{Pegged, NotPegged}
use Rattle.orders.specs.declared.Side.{Side}
use Rattle.orders.specs.declared.Side.TheVariants.{Buy, Sell}
use Rattle.orderfile.specs.Bodies.{Content, enters, amends, cancels, takes, advances, calls, body_of, WellFormed, Means, reference_bytes, of_length, read_order, read_enter, read_fields, read_body}
use Rattle.orderfile.specs.Numbers.{number_at, in_bytes, Bytes}
use Rattle.orderfile.specs.declared.faults.MessageFault.{MessageFault}
use Rattle.orders.proofs.Reading.{meant}
use Rattle.orderfile.proofs.Written.{number_fits, rewritten, read_back}

-- what is read has the body's bytes, and is well-formed
abbrev Sound : List ℕ → Result Content MessageFault → Type 0
Sound body r = IfOk r (λ m. (body ≡ body_of m) × WellFormed m)

-- a message with fields of a fixed length
exact : (letter n : ℕ) (fields : List ℕ) (m : Content) → (length fields ≡ n → (letter ∷ fields ≡ body_of m) × WellFormed m) → Sound (letter ∷ fields) (of_length n fields m)
exact letter n fields m fit = cond_both (eqb (length fields) n) (Ok m) _ (Sound (letter ∷ fields)) (λ e. fit (eqb-true (length fields) n e)) (λ _. tt)

module _ (fields : List ℕ) (small : Bytes fields) where
  -- a field of `size` bytes at the end of the fields
  last_field : (at size : ℕ) → length fields ≡ at + size → drop at fields ≡ in_bytes size (number_at at size fields)
  last_field at size e = rewritten at size fields small (omega arith) ∙ ap (λ l. in_bytes size (number_at at size fields) ++ l) (drop_all (at + size) fields (omega arith)) ∙ append-nil _

  -- a number of two bytes, then one of four
  two_four : length fields ≡ 6 → fields ≡ in_bytes 2 (number_at 0 2 fields) ++ in_bytes 4 (number_at 2 4 fields)
  two_four e = rewritten 0 2 fields small (omega arith) ∙ ap (λ l. in_bytes 2 (number_at 0 2 fields) ++ l) (last_field 2 4 e)

  module _ (long : 13 ≤ length fields) (short : length fields ≤ 33) where
    abbrev numbers_and_reference : List ℕ
    numbers_and_reference = in_bytes 2 (number_at 3 2 fields) ++ (in_bytes 4 (number_at 5 4 fields) ++ (in_bytes 4 (number_at 9 4 fields) ++ drop 13 fields))

    parts : fields ≡ get_or fields 0 0 ∷ get_or fields 1 0 ∷ get_or fields 2 0 ∷ numbers_and_reference
    parts =
        drop_more fields 0 0 (omega arith)
        ∙ ap (λ l. get_or fields 0 0 ∷ l) (drop_more fields 1 0 (omega arith)
        ∙ ap (λ l. get_or fields 1 0 ∷ l) (drop_more fields 2 0 (omega arith)
        ∙ ap (λ l. get_or fields 2 0 ∷ l) (rewritten 3 2 fields small (omega arith)
        ∙ ap (λ l. in_bytes 2 (number_at 3 2 fields) ++ l) (rewritten 5 4 fields small (omega arith)
        ∙ ap (λ l. in_bytes 4 (number_at 5 4 fields) ++ l) (rewritten 9 4 fields small (omega arith))))))

    -- the order that was read has the three letters of the body
    ordered : (kind : Option Kind) (side : Option Side) (flag : Option PegFlag) → IfSome kind (λ k. kind_letter k ≡ get_or fields 0 0) → IfSome side (λ s. side_letter s ≡ get_or fields 1 0) → IfSome flag (λ f. flag_letter f ≡ get_or fields 2 0) → Sound (ascii "E" ∷ fields) (read_order kind side flag (number_at 3 2 fields) (number_at 5 4 fields) (number_at 9 4 fields) (drop 13 fields))
    ordered None side flag k s f = tt
    ordered (Some kind) None flag k s f = tt
    ordered (Some kind) (Some side) None k s f = tt
    ordered (Some kind) (Some side) (Some flag) k s f =
        cond_both (reference_bytes (drop 13 fields)) (Ok (enters _ (drop 13 fields))) _ (Sound (ascii "E" ∷ fields))
        (λ good. (
          ap (λ l. ascii "E" ∷ l) (parts ∙ (λ i. sym k i ∷ sym s i ∷ sym f i ∷ numbers_and_reference)),
          (number_fits 3 2 fields small, number_fits 5 4 fields small, number_fits 9 4 fields small, omega (arith, length-drop 13 fields), good),
        ))
        (λ _. tt)

  entered : Sound (ascii "E" ∷ fields) (read_enter fields)
  entered =
      cond_both (leb 13 (length fields) && leb (length fields) 33) _ _ (Sound (ascii "E" ∷ fields))
      (λ e.
      let range = and_parts (leb 13 (length fields)) (leb (length fields) 33) e in
      ordered (leb-true 13 (length fields) range.0) (leb-true (length fields) 33 range.1) (kind_of (get_or fields 0 0)) (side_of (get_or fields 1 0)) (flag_of (get_or fields 2 0))
      (meant kind_letter kinds (get_or fields 0 0)) (meant side_letter sides (get_or fields 1 0)) (meant flag_letter flags (get_or fields 2 0)))
      (λ _. tt)

  -- behind each letter, the fields are those of the message that it reads as
  lettered_fields : (letter : ℕ) → Sound (letter ∷ fields) (read_fields letter fields)
  lettered_fields letter =
      either "E" _ _ entered
      (either "A" _ _ (exact _ 6 fields _ (λ e. (ap (λ l. ascii "A" ∷ l) (two_four e), (number_fits 0 2 fields small, number_fits 2 4 fields small))))
      (either "X" _ _ (exact _ 2 fields _ (λ e. (ap (λ l. ascii "X" ∷ l) (last_field 0 2 e), number_fits 0 2 fields small)))
      (either "T" _ _ (exact _ 6 fields _ (λ e. (ap (λ l. ascii "T" ∷ l) (two_four e), (number_fits 0 2 fields small, number_fits 2 4 fields small))))
      (either "P" _ _ (exact _ 0 fields _ (λ e. (ap (λ l. ascii "P" ∷ l) (nil_from_length fields e), tt)))
      (either "C" _ _ (exact _ 0 fields _ (λ e. (ap (λ l. ascii "C" ∷ l) (nil_from_length fields e), tt)))
      tt)))))
    where
      either : (name : String) (x y : Result Content MessageFault) → Sound (ascii name ∷ fields) x → Sound (letter ∷ fields) y → Sound (letter ∷ fields) (cond (eqb letter (ascii name)) x y)
      either name x y this other =
          cond_both (eqb letter (ascii name)) x y (Sound (letter ∷ fields)) (λ e. subst (λ l. Sound (l ∷ fields) x) (sym (eqb-true letter (ascii name) e)) this) (λ _. other)

pub sound : (body : List ℕ) → Bytes body → Sound body (read_body body)
sound [] small = tt
sound (letter ∷ fields) small = lettered_fields fields (λ i. small (suc i)) letter

kind_back : (kind : Kind) → kind_of (kind_letter kind) ≡ Some kind
kind_back Market = refl
kind_back Limit = refl
kind_back Displayed = refl

side_back : (side : Side) → side_of (side_letter side) ≡ Some side
side_back Buy = refl
side_back Sell = refl

flag_back : (flag : PegFlag) → flag_of (flag_letter flag) ≡ Some flag
flag_back Pegged = refl
flag_back NotPegged = refl

-- the bytes of a well-formed message read as that message
pub complete : (m : Content) → WellFormed m → read_body (body_of m) ≡ Ok m
complete (enters e reference) fit =
    let letters = kind_letter e.kind ∷ side_letter e.side ∷ flag_letter e.flag ∷ [] in
    let broker = in_bytes 2 e.broker in
    let limit = in_bytes 4 e.limit in
    let volume = in_bytes 4 e.volume in
    let fields = letters ++ (broker ++ (limit ++ (volume ++ reference))) in
    cond-true (leb 13 (length fields) && leb (length fields) 33) _ _ (and_from _ _ (le-leb 13 (length fields) (omega arith)) (le-leb (length fields) 33 (omega (arith, fit.3))))
    ∙ (λ i. read_order (kind_back e.kind i) (side_back e.side i) (flag_back e.flag i)
    (read_back 2 e.broker letters (limit ++ (volume ++ reference)) fit.0 i)
    (read_back 4 e.limit (letters ++ broker) (volume ++ reference) fit.1 i)
    (read_back 4 e.volume (letters ++ (broker ++ limit)) reference fit.2 i) reference)
    ∙ cond-true (reference_bytes reference) _ _ fit.4
complete (amends number limit) fit =
    λ i. Ok (amends (read_back 2 number [] (in_bytes 4 limit) fit.0 i) (read_back 4 limit (in_bytes 2 number) [] fit.1 i))
complete (cancels number) fit = λ i. Ok (cancels (read_back 2 number [] [] fit i))
complete (takes number volume) fit =
    λ i. Ok (takes (read_back 2 number [] (in_bytes 4 volume) fit.0 i) (read_back 4 volume (in_bytes 2 number) [] fit.1 i))
complete advances fit = refl
complete calls fit = refl

pub means : (body : List ℕ) → Bytes body → Means body (read_body body)
means body small = go (read_body body) refl (sound body small)
  where
    go : (r : Result Content MessageFault) → read_body body ≡ r → Sound body r → Means body r
    go (Ok m) e s = s
    go (Err fault) e s = λ m fit is. let clash : Err fault ≡ Ok m = sym e ∙ ap read_body is ∙ complete m fit in let no : ◌≡◌ {A = ℕ} 0 1 = cc in omega arith
