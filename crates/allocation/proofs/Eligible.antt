-- The eligible orders of both sides: how many they are, what they bring, and that their entry numbers differ.
use Rattle.std.proofs.Common.{◌≡◌, ℕ, ◌+◌, ◌-◌, ◌*◌, ◌≤◌, Bool, true, false, cond, not, ◌&&◌, eqb, List, [], ◌∷◌, map, length, sym, refl, ap, ◌∙◌, subst, inl, inr, arith}
use Rattle.std.proofs.lemmas.List.{length-map}
use Rattle.std.proofs.lemmas.List.Sums.{count_by-le-length, length-filter, sum_by-cons}
use Rattle.std.proofs.lemmas.Nat.{mul-le}
use Rattle.std.proofs.lemmas.Bool.{both_ways, cases_Bool, cases_lt, and_parts, or_parts, eq-eqb, cond-false, cond-true}
use Rattle.std.specs.List.{AllByRecursion, filter}
use Rattle.auction.specs.Totals.{eligible, shares_at, total}
use Rattle.orders.specs.Kinds.{same_side}
use Rattle.orders.specs.declared.Side.{Side}
use Rattle.orders.specs.declared.Side.TheVariants.{Buy, Sell}
use Rattle.orders.specs.declared.found.FoundOrder.{FoundOrder}
use Rattle.allocation.specs.Allocation.{named, distinct}
use Rattle.allocation.specs.Holdings.{takes_part, whole, held, all_left}
use Rattle.allocation.specs.Naming.{Apart}

module _ (side : Side) (p : ℕ) (o : FoundOrder) (os : List FoundOrder) where
  held_in : takes_part side p o ≡ true → held side p (o ∷ os) ≡ record { order = o; left = o.shares } ∷ held side p os
  held_in is = ap (map whole) (cond-true _ _ _ is)

  held_out : takes_part side p o ≡ false → held side p (o ∷ os) ≡ held side p os
  held_out out = ap (map whole) (cond-false _ _ _ out)

  one_held : length (held side p (o ∷ os)) ≡ cond (takes_part side p o) 1 0 + length (held side p os)
  one_held =
      elim (cases_Bool (takes_part side p o)) [
        | inl is ↦ omega (arith, ap length (held_in is), cond-true {A = ℕ} (takes_part side p o) 1 0 is)
        | inr out ↦ omega (arith, ap length (held_out out), cond-false {A = ℕ} (takes_part side p o) 1 0 out)
      ]

  one_brought : all_left (held side p (o ∷ os)) ≡ shares_at side p o + all_left (held side p os)
  one_brought =
      elim (cases_Bool (takes_part side p o)) [
        | inl is ↦ omega (arith, ap all_left (held_in is), cond-true (takes_part side p o) o.shares 0 is)
        | inr out ↦ omega (arith, ap all_left (held_out out), cond-false (takes_part side p o) o.shares 0 out)
      ]

-- the holdings of a side bring its total
pub brought : (side : Side) (p : ℕ) (os : List FoundOrder) → all_left (held side p os) ≡ total side p os
brought side p [] = refl
brought side p (o ∷ os) = one_brought side p o os ∙ ap (λ n. shares_at side p o + n) (brought side p os) ∙ sym (sum_by-cons (shares_at side p) o os)

pub held_few : (side : Side) (p : ℕ) (os : List FoundOrder) → length (held side p os) ≤ length os
held_few side p os = omega (arith, length-map (filter (takes_part side p) os) whole, length-filter (takes_part side p) os, count_by-le-length (takes_part side p) os)

-- an order is on one side
one_side : (s : Side) (e : Bool) → cond (same_side s Buy && e) 1 0 + cond (same_side s Sell && e) 1 0 ≤ 1
one_side Buy true = omega arith
one_side Buy false = omega arith
one_side Sell true = omega arith
one_side Sell false = omega arith

pub both_held : (p : ℕ) (os : List FoundOrder) → length (held Buy p os) + length (held Sell p os) ≤ length os
both_held p [] = omega arith
both_held p (o ∷ os) = omega (arith, one_held Buy p o os, one_held Sell p o os, one_side o.side (eligible p o), both_held p os)

-- two numbers that add up to 128 at most: the product is largest where both are 64
product_below : (m n x : ℕ) → m + x ≡ 64 → m + n ≤ 128 → m * n ≤ 4096
product_below m n x half few =
    let square : (m + x) * (m + x) ≡ 64 * 64 = ap (λ k. k * k) half in
    omega (arith, mul-le m n m (m + x + x) (omega arith) (omega arith), square)

pub product_few : (m n : ℕ) → m + n ≤ 128 → m * n ≤ 4096
product_few m n few =
    elim (cases_lt 64 m) [
      | inl above ↦ omega (arith, product_below n m (64 - n) (omega arith) (omega arith))
      | inr below ↦ product_below m n (64 - m) (omega arith) few
    ]

-- holdings have the entry numbers of their orders
unlike : (side : Side) (p n : ℕ) (os : List FoundOrder) → named n os ≡ false → AllByRecursion (λ h. n ≡ h.order.entry → ⊥) (held side p os)
unlike side p n [] none = tt
unlike side p n (o ∷ os) none =
    let parts = or_parts (eqb o.entry n) (named n os) none in
    let rest = unlike side p n os parts.1 in
    elim (cases_Bool (takes_part side p o)) [
      | inl is ↦ subst (AllByRecursion (λ h. n ≡ h.order.entry → ⊥)) (sym (held_in side p o os is)) ((λ e. both_ways _ parts.0 (eq-eqb _ _ (sym e))), rest)
      | inr out ↦ subst (AllByRecursion (λ h. n ≡ h.order.entry → ⊥)) (sym (held_out side p o os out)) rest
    ]

pub held_apart : (side : Side) (p : ℕ) (os : List FoundOrder) → distinct os ≡ true → Apart (held side p os)
held_apart side p [] all = tt
held_apart side p (o ∷ os) all =
    let parts = and_parts (not (named o.entry os)) (distinct os) all in
    let rest = held_apart side p os parts.1 in
    let none : named o.entry os ≡ false = grind (arith, parts.0) in
    elim (cases_Bool (takes_part side p o)) [
      | inl is ↦ subst Apart (sym (held_in side p o os is)) (unlike side p o.entry os none, rest)
      | inr out ↦ subst Apart (sym (held_out side p o os out)) rest
    ]
