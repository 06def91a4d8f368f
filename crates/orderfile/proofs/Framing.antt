-- Bodies and the bytes that frame them: each way from one to the other.
use Rattle.std.proofs.Common.{◌≡◌, ℕ, zero, suc, ◌<◌, ◌≤◌, leb, List, [], ◌∷◌, ◌++◌, map, length, take, drop, IfOk, Ok, Err, Result, sym, refl, ap, ◌∙◌, subst, arith}
use Rattle.std.proofs.lemmas.List.{drop_at, length-append, length-take-le, map-id, take-append-drop, take_at}
use Rattle.std.proofs.lemmas.Bool.{cond_both, cond-true, le-leb, leb-true}
use Rattle.std.specs.List.{flat_map, AllByRecursion}
use Rattle.orderfile.specs.Format.{framed}
use Rattle.orderfile.specs.Numbers.{Bytes}
use Rattle.orderfile.specs.Reading.{next_body, in_front, each_body}
use Rattle.orderfile.specs.declared.faults.FileFault.{FileFault}
use Rattle.orderfile.proofs.Written.{bytes_drop, bytes_take}

-- n bodies whose frames are bs, told by f
pub record Cut {A : Type 0} (f : List ℕ → A) (n : ℕ) (bs : List ℕ) (told : List A) : Type 0 where
  pub bodies : List (List ℕ)
  pub frames : bs ≡ flat_map framed bodies
  pub count : length bodies ≡ n
  pub short : AllByRecursion (λ body. length body < 256) bodies
  pub bytes : AllByRecursion Bytes bodies
  pub as_told : told ≡ map f bodies

-- the front body is framed by the front bytes
next_framed : (bs : List ℕ) → Bytes bs → IfOk (next_body bs) (λ p. (bs ≡ framed p.0 ++ p.1) × (length p.0 < 256) × Bytes p.0 × Bytes p.1)
next_framed [] small = tt
next_framed (size ∷ rest) small =
    cond_both (leb size (length rest)) (Ok (take size rest, drop size rest)) _
    (λ r. IfOk r (λ p. (size ∷ rest ≡ framed p.0 ++ p.1) × (length p.0 < 256) × Bytes p.0 × Bytes p.1))
    (λ e.
    let long = length-take-le size rest (leb-true size (length rest) e) in
    let rest_bytes : Bytes rest = λ i. small (suc i) in
    ((λ i. sym long i ∷ sym (take-append-drop size rest) i), subst (λ k. k < 256) (sym long) (small 0), bytes_take size rest rest_bytes, bytes_drop size rest rest_bytes))
    (λ _. tt)

module _ {A : Type 0} (f : List ℕ → A) where
  -- bytes that were cut into bodies are the frames of those bodies
  pub cuts : (n : ℕ) (bs : List ℕ) → Bytes bs → IfOk (each_body f n bs) (Cut f n bs)
  cuts zero [] small = record { bodies = []; frames = refl; count = refl; short = tt; bytes = tt; as_told = refl }
  cuts zero (b ∷ bs) small = tt
  cuts (suc n) bs small = go (cuts n) (next_body bs) (next_framed bs small)
    where
      more : (body rest : List ℕ) → bs ≡ framed body ++ rest → length body < 256 → Bytes body → (r : Result (List A) FileFault) → IfOk r (Cut f n rest) → IfOk (in_front (f body) r) (Cut f (suc n) bs)
      more body rest e fits small' (Err fault) c = tt
      more body rest e fits small' (Ok told) c = record {
        bodies = body ∷ c.bodies;
        frames = e ∙ ap (λ l. framed body ++ l) c.frames;
        count = ap suc c.count;
        short = (fits, c.short);
        bytes = (small', c.bytes);
        as_told = ap (λ l. f body ∷ l) c.as_told;
      }

      go : ((rest : List ℕ) → Bytes rest → IfOk (each_body f n rest) (Cut f n rest)) → (p : Result (List ℕ × List ℕ) FileFault) → IfOk p (λ q. (bs ≡ framed q.0 ++ q.1) × (length q.0 < 256) × Bytes q.0 × Bytes q.1) → IfOk (elim p [ Ok q ↦ in_front (f q.0) (each_body f n q.1) | Err fault ↦ Err fault ]) (Cut f (suc n) bs)
      go behind (Err fault) c = tt
      go behind (Ok q) c = more q.0 q.1 c.0 c.1 c.2 (each_body f n q.1) (behind q.1 c.3)

  -- the frames of bodies are cut into those bodies
  pub cut_back : (bodies : List (List ℕ)) → each_body f (length bodies) (flat_map framed bodies) ≡ Ok (map f bodies)
  cut_back [] = refl
  cut_back (body ∷ bodies) =
      let rest = flat_map framed bodies in
      let fits : length body ≤ length (body ++ rest) = rw length-append (omega arith) in
      ap (λ (p : Result (List ℕ × List ℕ) FileFault). elim p [ Ok q ↦ in_front (f q.0) (each_body f (length bodies) q.1) | Err fault ↦ Err fault ])
      (cond-true (leb (length body) (length (body ++ rest))) _ _ (le-leb _ _ fits) ∙ (λ i. Ok (take_at body rest _ refl i, drop_at body rest _ refl i)))
      ∙ ap (in_front (f body)) (cut_back bodies)

-- the bodies are found in one way only
pub one_way : (xs ys : List (List ℕ)) → length xs ≡ length ys → flat_map framed xs ≡ flat_map framed ys → xs ≡ ys
one_way xs ys count same =
    let told : Ok (map (λ body. body) xs) ≡ Ok (map (λ body. body) ys) = sym (cut_back (λ body. body) xs) ∙ (λ i. each_body (λ body. body) (count i) (same i)) ∙ cut_back (λ body. body) ys in
    sym (map-id xs) ∙ (cc) ∙ map-id ys
