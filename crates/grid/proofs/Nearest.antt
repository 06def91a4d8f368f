-- What a set answers of a number is a function of the set and the number.
use Rattle.std.proofs.Common.{◌≡◌, ℕ, zero, suc, ◌+◌, ◌-◌, ◌<◌, Bool, true, subst, inl, inr, arith}
use Rattle.std.proofs.lemmas.Bool.{both_ways, cases_eq, cases_lt, cond_both}
use Rattle.grid.specs.Prices.{WithinRange, AtOrAbove, AtOrBelow, least_among, least_from, greatest_to}

module _ (holds : ℕ → Bool) where
  -- two answers to one question are the same
  same_above : (n r s : ℕ) → AtOrAbove holds n r → AtOrAbove holds n s → r ≡ s
  same_above n r s a b =
      elim (cases_lt 0 r) [
        | inl some ↦
            let (more, up) = b.least r (a.held some) (a.above some) in
            let (_, down) = a.least s (b.held more) (b.above more) in
            omega arith
        | inr none ↦ elim (cases_lt 0 s) [
          | inl some ↦ let (more, _) = a.least s (b.held some) (b.above some) in absurd (omega arith)
          | inr none' ↦ omega arith
        ]
      ]

  same_below : (n r s : ℕ) → AtOrBelow holds n r → AtOrBelow holds n s → r ≡ s
  same_below n r s a b =
      elim (cases_lt r s) [
        | inl less ↦ absurd (omega (arith, a.greatest s (b.held (omega arith)) b.below))
        | inr more ↦ elim (cases_lt s r) [
          | inl less ↦ absurd (omega (arith, b.greatest r (a.held (omega arith)) a.below))
          | inr same ↦ omega arith
        ]
      ]

  module _ (ranged : WithinRange holds) where
    least_among_is : (more n : ℕ) → ((p : ℕ) → holds p ≡ true → p < n + more) → AtOrAbove holds n (least_among holds more n)
    least_among_is zero n over = record {
      held = λ z. absurd (omega arith);
      above = λ z. absurd (omega arith);
      least = λ p h from. absurd (omega (arith, over p h));
    }
    least_among_is (suc more) n over =
        let later = least_among_is more (suc n) (λ p h. omega (arith, over p h)) in
        cond_both (holds n) n (least_among holds more (suc n)) (AtOrAbove holds n)
        (λ here. record {
          held = λ _. here;
          above = λ _. omega arith;
          least = λ p h from. (omega (arith, (ranged n here).0), from);
        })
        (λ gone. record {
          held = later.held;
          above = λ z. omega (arith, later.above z);
          least = λ p h from. elim (cases_eq p n) [
            | inl e ↦ absurd (both_ways (holds n) gone (subst (λ q. holds q ≡ true) e h))
            | inr ne ↦ later.least p h (omega (arith, ne))
          ];
        })

    pub least_from_is : (n : ℕ) → AtOrAbove holds n (least_from holds n)
    unfolding least_from
    least_from_is n = least_among_is (1000000001 - n) n (λ p h. omega (arith, (ranged p h).1))

    pub above_is : (n r : ℕ) → AtOrAbove holds n r → r ≡ least_from holds n
    above_is n r a = same_above n r (least_from holds n) a (least_from_is n)

  pub greatest_to_is : (n : ℕ) → AtOrBelow holds n (greatest_to holds n)
  unfolding greatest_to
  greatest_to_is zero = record { held = λ z. absurd (omega arith); below = omega arith; greatest = λ p h to. to }
  greatest_to_is (suc n) =
      let earlier = greatest_to_is n in
      cond_both (holds (suc n)) (suc n) (greatest_to holds n) (AtOrBelow holds (suc n))
      (λ here. record { held = λ _. here; below = omega arith; greatest = λ p h to. to })
      (λ gone. record {
        held = earlier.held;
        below = omega (arith, earlier.below);
        greatest = λ p h to. elim (cases_eq p (suc n)) [
          | inl e ↦ absurd (both_ways (holds (suc n)) gone (subst (λ q. holds q ≡ true) e h))
          | inr ne ↦ earlier.greatest p h (omega (arith, ne))
        ];
      })

  pub below_is : (n r : ℕ) → AtOrBelow holds n r → r ≡ greatest_to holds n
  below_is n r a = same_below n r (greatest_to holds n) a (greatest_to_is n)
