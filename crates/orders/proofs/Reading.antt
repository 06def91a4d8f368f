-- A letter reads as the one choice that it stands for.
use Rattle.std.proofs.Common.{◌≡◌, ℕ, eqb, List, [], ◌∷◌, IfSome, Some, None, Option, sym, ap, ◌∙◌, subst}
use Rattle.std.specs.Option.{option_map}
use Rattle.std.proofs.lemmas.Bool.{cond_both, eqb-true}
use Rattle.orders.specs.Letters.{lettered, Reads}

-- the choice that a letter reads as has that letter
pub meant : {A : Type 0} (letter : A → ℕ) (choices : List A) (b : ℕ) → IfSome (lettered letter choices b) (λ x. letter x ≡ b)
meant letter [] b = tt
meant letter (x ∷ xs) b =
    cond_both (eqb b (letter x)) (Some x) (lettered letter xs b) (λ o. IfSome o (λ y. letter y ≡ b)) (λ e. sym (eqb-true b (letter x) e)) (λ _. meant letter xs b)

-- where each choice is what its letter reads as, no letter of a choice reads as none
pub reads : {A : Type 0} (letter : A → ℕ) (choices : List A) → ((x : A) → lettered letter choices (letter x) ≡ Some x) → (b : ℕ) (r : Option A) → option_map (λ x. x) r ≡ lettered letter choices b → Reads letter b r
reads {A} letter choices back b (Some x) is = subst (λ o. IfSome o (λ y. letter y ≡ b)) (sym is) (meant letter choices b)
reads {A} letter choices back b None is = λ x same. let clash : None ≡ Some x = is ∙ ap (lettered letter choices) (sym same) ∙ back x in cc
