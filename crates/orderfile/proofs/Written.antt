-- A number and the bytes that hold it, at every width.
use Rattle.std.proofs.Common.{◌≡◌, ℕ, zero, suc, ◌+◌, ◌*◌, ◌/◌, ◌%◌, ◌^◌, ◌<◌, ◌≤◌, List, [], ◌∷◌, ◌++◌, length, get_or, take, drop, sym, refl, ap, ◌∙◌, subst, ⊎_elim, append_assoc, add-zero, pow-suc, arith}
use Rattle.std.proofs.lemmas.List.{drop_more, get_or-append-add, get_or-drop, get_or_past, get_or-take, length-append, length-take}
use Rattle.std.proofs.lemmas.Bool.{cases_lt}
use Rattle.orderfile.specs.Numbers.{number_at, in_bytes, Bytes}

pub bytes_drop : (n : ℕ) (bs : List ℕ) → Bytes bs → Bytes (drop n bs)
bytes_drop n bs small i = subst (λ b. b < 256) (sym (get_or-drop n bs i 0)) (small (n + i))

pub bytes_take : (n : ℕ) (bs : List ℕ) → Bytes bs → Bytes (take n bs)
bytes_take n bs small i =
    ⊎_elim
    (λ inside. subst (λ b. b < 256) (sym (get_or-take n bs i 0 inside)) (small i))
    (λ (past : n ≤ i). subst (λ b. b < 256) (sym (get_or_past (take n bs) i 0 (rw length-take (omega arith)))) (omega arith))
    (cases_lt i n)

length_in_bytes : (size n : ℕ) → length (in_bytes size n) ≡ size
length_in_bytes zero n = refl
length_in_bytes (suc size) n = length-append (in_bytes size (n / 256)) _ ∙ omega (arith, length_in_bytes size (n / 256))

-- what the bytes at a place hold fits their width
pub number_fits : (at size : ℕ) (bs : List ℕ) → Bytes bs → number_at at size bs < 256 ^ size
number_fits at zero bs small = omega arith
number_fits at (suc size) bs small = rw pow-suc (omega (arith, number_fits at size bs small, small (at + size)))

-- the bytes at a place are the number that they hold, written out
pub rewritten : (at size : ℕ) (bs : List ℕ) → Bytes bs → at + size ≤ length bs → drop at bs ≡ in_bytes size (number_at at size bs) ++ drop (at + size) bs
rewritten at zero bs small fits = ap (λ k. drop k bs) (sym (add-zero at))
rewritten at (suc size) bs small fits =
    let n = number_at at size bs in
    let b = get_or bs (at + size) 0 in
    let front : (n * 256 + b) / 256 ≡ n = omega (arith, small (at + size)) in
    let last : (n * 256 + b) % 256 ≡ b = omega (arith, small (at + size)) in
    let next : at + size + 1 ≡ at + suc size = omega arith in
    rewritten at size bs small (omega arith)
    ∙ ap (λ l. in_bytes size n ++ l) (drop_more bs (at + size) 0 (omega arith) ∙ (λ i. sym last i ∷ drop (next i) bs))
    ∙ sym (append_assoc (in_bytes size n) (_ ∷ []) _)
    ∙ ap (λ k. (in_bytes size k ++ (n * 256 + b) % 256 ∷ []) ++ drop (at + suc size) bs) (sym front)

-- a number that fits is read back from the bytes that it is written in
pub read_back : (size n : ℕ) (front rest : List ℕ) → n < 256 ^ size → number_at (length front) size (front ++ (in_bytes size n ++ rest)) ≡ n
read_back zero n front rest fits = omega arith
read_back (suc size) n front rest fits =
    let high = in_bytes size (n / 256) in
    let low = n % 256 in
    let same : front ++ ((high ++ low ∷ []) ++ rest) ≡ front ++ (high ++ low ∷ rest) = ap (λ l. front ++ l) (append_assoc high (low ∷ []) rest) in
    let small : n / 256 < 256 ^ size = omega (arith, fits, pow-suc 256 size) in
    let there : get_or (front ++ (high ++ low ∷ rest)) (length front + size) 0 ≡ low =
    get_or-append-add front (high ++ low ∷ rest) size 0
    ∙ ap (λ k. get_or (high ++ low ∷ rest) k 0) (sym (length_in_bytes size (n / 256)) ∙ sym (add-zero _))
    ∙ get_or-append-add high (low ∷ rest) 0 0
    in
    ap (λ l. number_at (length front) size l * 256 + get_or l (length front + size) 0) same
    ∙ (λ i. read_back size (n / 256) front (low ∷ rest) small i * 256 + there i)
    ∙ omega arith
