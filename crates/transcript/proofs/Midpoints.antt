-- A midpoint as it is printed.
use Rattle.std.proofs.Common.{◌≡◌, ℕ, ◌-◌, ◌/◌, ◌%◌, ◌^◌, ◌<◌, false, [], ◌∷◌, ◌++◌, ap, ◌∙◌, append_assoc, arith}
use Rattle.std.specs.Fmt.{decimal, padded_integral, format_spec}
use Rattle.report.proofs.Decimals.{zero_padded}
use Rattle.transcript.specs.Summary.{five_decimals}

pub midpoint_printed : (n : ℕ) → n < 2 ^ 64 → decimal (n / 100000) ++ 46 ∷ padded_integral (format_spec 32 0 4 5 (2 ^ 64 - 1)) false [] (decimal (n % 100000)) ≡ five_decimals n
midpoint_printed n fits =
    let a : n % 100000 / 10 / 10 / 10 / 10 % 10 ≡ n / 10000 % 10 = omega arith in
    let b : n % 100000 / 10 / 10 / 10 % 10 ≡ n / 1000 % 10 = omega arith in
    let c : n % 100000 / 10 / 10 % 10 ≡ n / 100 % 10 = omega arith in
    let d : n % 100000 / 10 % 10 ≡ n / 10 % 10 = omega arith in
    let e : n % 100000 % 10 ≡ n % 10 = omega arith in
    ap (λ l. decimal (n / 100000) ++ 46 ∷ l) (zero_padded 4 (n % 100000) (omega arith) (omega arith) ∙ (λ i. (((decimal (a i) ++ decimal (b i)) ++ decimal (c i)) ++ decimal (d i)) ++ decimal (e i)) ∙ simp append_assoc)
