-- How a loop cuts bodies off the front of a file.
use Rattle.std.proofs.Common.{◌≡◌, ℕ, suc, ◌+◌, ◌-◌, ◌<◌, List, [], ◌∷◌, ◌++◌, map, Ok, Err, Result, sym, refl, ap, ◌∙◌, append_assoc, arith}
use Rattle.std.proofs.lemmas.List.{map_push}
use Rattle.std.specs.Result.{result_map_both}
use Rattle.orderfile.specs.Reading.{next_body, in_front, each_body}
use Rattle.orderfile.specs.declared.faults.FileFault.{FileFault}

-- what was read so far, and then what the rest reads as
abbrev pub onto : {A : Type 0} → List A → Result (List A) FileFault → Result (List A) FileFault
onto done = result_map_both (λ more. done ++ more) (λ fault. fault)

onto_front : {A : Type 0} (done : List A) (x : A) (r : Result (List A) FileFault) → onto done (in_front x r) ≡ onto (done ++ x ∷ []) r
onto_front done x (Ok more) = ap Ok (sym (append_assoc done (x ∷ []) more))
onto_front done x (Err fault) = refl

module _ {A B : Type 0} (view : B → A) (f : List ℕ → A) (whole : Result (List A) FileFault) (items : List B) (count len : ℕ) (bytes : List ℕ) (so_far : whole ≡ onto (map view items) (each_body f (count - len) bytes)) (more : len < count) where
  turn : (n : ℕ) → count - len ≡ suc n → whole ≡ onto (map view items) (each_body f (suc n) bytes)
  turn n e = so_far ∙ ap (λ k. onto (map view items) (each_body f k bytes)) e

  -- one body more is read
  pub one_more : (items' : List B) (x : B) (body after : List ℕ) → next_body bytes ≡ Ok (body, after) → items' ≡ items ++ x ∷ [] → view x ≡ f body → whole ≡ onto (map view items') (each_body f (count - (len + 1)) after)
  one_more items' x body after cut pushed read =
      let left : ℕ = count - (len + 1) in
      turn left (omega arith)
      ∙ ap (λ r. onto (map view items) (elim r [ Ok p ↦ in_front (f p.0) (each_body f left p.1) | Err fault ↦ Err fault ])) cut
      ∙ onto_front (map view items) (f body) (each_body f left after)
      ∙ ap (λ xs. onto xs (each_body f left after)) (ap (λ y. map view items ++ y ∷ []) (sym read) ∙ sym (map_push view items x) ∙ ap (map view) (sym pushed))

  -- no body is there: the whole is refused with the fault
  pub stuck : (fault : FileFault) → next_body bytes ≡ Err fault → whole ≡ Err fault
  stuck fault cut =
      turn (count - len - 1) (omega arith)
      ∙ ap (λ r. onto (map view items) (elim r [ Ok p ↦ in_front (f p.0) (each_body f (count - len - 1) p.1) | Err e ↦ Err e ])) cut
