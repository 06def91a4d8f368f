-- A loop that has made the front of a list, `done`, where F makes the rest of it from the items that are left.
use Rattle.std.proofs.Common.{◌≡◌, ℕ, ◌+◌, ◌<◌, ◌≤◌, List, [], ◌∷◌, ◌++◌, length, get_or, drop, sym, ap, ◌∙◌, append_assoc, append-nil}
use Rattle.std.proofs.lemmas.List.{at_drop_more, at_drop_all}

module _ {A B : Type 0} (F : List A → List B) (xs : List A) (i : ℕ) (whole done : List B) (so_far : whole ≡ done ++ F (drop i xs)) where
  -- no item is left
  pub at_end : F [] ≡ [] → length xs ≤ i → done ≡ whole
  at_end none long = sym (so_far ∙ ap (λ l. done ++ l) (at_drop_all F xs i long ∙ none) ∙ append-nil done)

  module _ (d : A) (short : i < length xs) where
    -- what F makes from the item at i on
    pub from_here : (made : List B) → F (get_or xs i d ∷ drop (i + 1) xs) ≡ made → whole ≡ done ++ made
    from_here made e = so_far ∙ ap (λ l. done ++ l) (at_drop_more F xs i d short ∙ e)

    -- a piece more is made
    pub one_more : (piece rest : List B) → F (get_or xs i d ∷ drop (i + 1) xs) ≡ piece ++ rest → whole ≡ (done ++ piece) ++ rest
    one_more piece rest e = from_here (piece ++ rest) e ∙ sym (append_assoc done piece rest)

    -- nothing more is made
    pub no_more : F (get_or xs i d ∷ drop (i + 1) xs) ≡ [] → done ≡ whole
    no_more e = sym (from_here [] e ∙ append-nil done)
