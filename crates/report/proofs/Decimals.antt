-- A number that is filled up with zeros, digit by digit.
use Rattle.std.proofs.Common.{◌≡◌, ℕ, zero, suc, ◌-◌, ◌/◌, ◌%◌, ◌^◌, ◌<◌, ◌≤◌, false, List, [], ◌∷◌, ◌++◌, length, replicate, sym, refl, ap, ◌∙◌, append_assoc, append-nil, length-append, arith, ⊎_elim}
use Rattle.std.proofs.lemmas.Fmt.{decimal_digit, decimal_step}
use Rattle.std.proofs.lemmas.Grind.{pow_more}
use Rattle.std.proofs.lemmas.Bool.{cases_lt}
use native.Mathlib.Numerals.{unary_clauses}
use Rattle.report.specs.Text.{dollars}
use Rattle.std.specs.Fmt.{decimal, char_count, padded_integral, format_spec}

-- the last digits of n, so many of them
abbrev pub last_digits : ℕ → ℕ → List ℕ
last_digits zero n = []
last_digits (suc k) n = last_digits k (n / 10) ++ decimal (n % 10)

abbrev filled : ℕ → ℕ → List ℕ
filled k n = replicate (k - length (decimal n)) 48 ++ decimal n

abbrev zero_digit : ℕ
zero_digit = 48

zeros_push : (k : ℕ) → replicate k zero_digit ++ zero_digit ∷ [] ≡ replicate (suc k) zero_digit
zeros_push zero = refl
zeros_push (suc k) = ap (λ l. 48 ∷ l) (zeros_push k)

zeros : (k n : ℕ) → n ≡ 0 → last_digits k n ≡ replicate k 48
zeros zero n none = refl
zeros (suc k) n none =
    let last : decimal (n % 10) ≡ 48 ∷ [] = ap (λ m. decimal (m % 10)) none ∙ decimal_digit 0 (omega arith) in
    ap (λ l. last_digits k (n / 10) ++ l) last ∙ ap (λ l. l ++ 48 ∷ []) (zeros k (n / 10) (omega arith)) ∙ zeros_push k

-- a number below ten, and any other
one_digit : (k n : ℕ) → n < 10 → filled (suc k) n ≡ last_digits (suc k) n
one_digit k n small =
    let front : suc k - length (decimal n) ≡ k = ap (λ d. suc k - length d) (decimal_digit n small) ∙ omega arith in
    let last : n ≡ n % 10 = omega arith in
    (λ i. replicate (front i) 48 ++ decimal (last i)) ∙ ap (λ l. l ++ decimal (n % 10)) (sym (zeros k (n / 10) (omega arith)))

more_digits : (k n : ℕ) → 10 ≤ n → n < 2 ^ 64 → filled (suc k) n ≡ filled k (n / 10) ++ decimal (n % 10)
more_digits k n large fits =
    let digits : decimal n ≡ decimal (n / 10) ++ decimal (n % 10) = decimal_step n large fits ∙ ap (λ l. decimal (n / 10) ++ l) (sym (decimal_digit (n % 10) (omega arith))) in
    let one : length (decimal (n % 10)) ≡ 1 = ap length (decimal_digit (n % 10) (omega arith)) in
    let front : suc k - length (decimal n) ≡ k - length (decimal (n / 10)) = omega (arith, ap length digits, length-append (decimal (n / 10)) (decimal (n % 10)), one) in
    (λ i. replicate (front i) 48 ++ digits i) ∙ sym (append_assoc (replicate (k - length (decimal (n / 10))) 48) (decimal (n / 10)) (decimal (n % 10)))

zero_filled : (k n : ℕ) → n < 10 ^ suc k → n < 2 ^ 64 → filled (suc k) n ≡ last_digits (suc k) n
zero_filled zero n small fits = one_digit zero n small
zero_filled (suc k) n small fits = ⊎_elim
    (λ one. one_digit (suc k) n one)
    (λ more. more_digits (suc k) n more fits ∙ ap (λ l. l ++ decimal (n % 10)) (zero_filled k (n / 10) (omega (arith, pow_more)) (omega arith)))
    (cases_lt n 10)

-- what a hole such as `{:04}` writes of a number that fits
pub zero_padded : (k n : ℕ) → n < 10 ^ suc k → n < 2 ^ 64 → padded_integral (format_spec 32 0 4 (suc k) (2 ^ 64 - 1)) false [] (decimal n) ≡ last_digits (suc k) n
unfolding padded_integral char_count
zero_padded k n small fits = simp (append-nil, unary_clauses) (zero_filled k n small fits)

-- a price as it is printed
pub dollars_printed : (n : ℕ) → n < 2 ^ 32 → decimal (n / 10000) ++ 46 ∷ padded_integral (format_spec 32 0 4 4 (2 ^ 64 - 1)) false [] (decimal (n % 10000)) ≡ dollars n
dollars_printed n fits =
    let a : n % 10000 / 10 / 10 / 10 % 10 ≡ n / 1000 % 10 = omega arith in
    let b : n % 10000 / 10 / 10 % 10 ≡ n / 100 % 10 = omega arith in
    let c : n % 10000 / 10 % 10 ≡ n / 10 % 10 = omega arith in
    let d : n % 10000 % 10 ≡ n % 10 = omega arith in
    ap (λ l. decimal (n / 10000) ++ 46 ∷ l) (zero_padded 3 (n % 10000) (omega arith) (omega arith) ∙ (λ i. ((decimal (a i) ++ decimal (b i)) ++ decimal (c i)) ++ decimal (d i)) ∙ simp append_assoc)
