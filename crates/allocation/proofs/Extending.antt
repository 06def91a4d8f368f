-- An empty list that a chain of items extends, and that has room for them all.
use Rattle.std.proofs.Common.{◌≡◌, ℕ, ◌≤◌, List, [], ◌++◌, length, Option, Some, Result, Ok, Err, refl, ap, subst, ◌∙◌, arith}
use Rattle.std.proofs.lemmas.Iterator.{YieldsList}
use Rattle.std.proofs.lemmas.Iterator.Adapters.{items_from_extend}
use Rattle.std.proofs.lemmas.Iterator.Consumers.{YieldsList-turn}
use Rattle.std.proofs.lemmas.List.{length-append}
use Rattle.std.specs.Iterator.{Drains, Yields, YieldsThen}
use Rattle.std.specs.Prelude.{IsOk, MatchResult, OnErr}

-- it takes them all, since only a full list refuses an item
pub takes_all : {S A E : Type 0} {steps : S → Option A → S → Type 0} {s : S} {all : List A} (r : Result (Unit {0}) E) (room : ℕ) (old new : List A) → old ≡ [] → length all ≤ room → YieldsList steps (λ x. x) s all
    → (it : S) × (xs : List A) × (it ≡ s) × (new ≡ old ++ xs) × MatchResult r (λ _. Drains steps it xs) (λ _. (t : S) × Yields steps it xs t)
    → OnErr r (length new ≡ room)
    → OnErr r ((it : S) × (xs : List A) × (x : A) × (rest : S) × (it ≡ s) × YieldsThen steps it xs (Some x) rest × (new ≡ old ++ xs))
    → IsOk r × (new ≡ all)
takes_all {E = E} {all = all} (Ok u) room old new none few road ran full more = (refl, items_from_extend {E = E} (Ok u) ran road ∙ ap (λ l. l ++ all) none)
takes_all {steps = steps} (Err e) room old new none few road ran full (it, xs, x, rest, same, yields, is) =
    let y = subst (λ i. YieldsThen steps i xs (Some x) rest) same yields in
    let turn = YieldsList-turn road xs y.0 y.1 (Some x) rest x refl y.2 in
    absurd (omega (arith, turn.0, full, ap length is, length-append old xs, ap length none))
