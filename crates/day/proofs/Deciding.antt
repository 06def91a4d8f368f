-- A table of tests in rising number refuses with the least number whose test holds.
use Rattle.std.proofs.Common.{◌≡◌, ℕ, ◌≤◌, Bool, true, false, cond, [], ◌∷◌, Some, None, Option, sym, refl, ap, ◌∙◌, inl, inr, arith}
use Rattle.orders.specs.Refusals.{refusal_number}
use Rattle.orders.specs.declared.refusal.Refusal.{Refusal}
use Rattle.book.specs.Tests.{Tests, first_refusal, answered, Rising}
use Rattle.book.specs.declared.requests.Request.{Request}
use Rattle.book.specs.declared.requests.Request.TheVariants as request
use Rattle.day.specs.Account.{Account}
use Rattle.day.specs.Law.{HoldsFor, NoneHolds, NoneBelow, Decided}
use Rattle.day.specs.Noting.{tests, answer_to, answer_noted}

-- where no refusal is found, no test holds
pub none_holds : (rows : Tests) → first_refusal rows ≡ None → NoneHolds rows
none_holds [] e = tt
none_holds (row ∷ rows) e = go row.0 refl (none_holds rows) e
  where
    go : (b : Bool) → row.0 ≡ b → (first_refusal rows ≡ None → NoneHolds rows) → cond b (Some row.1) (first_refusal rows) ≡ None → (row.0 ≡ false) × NoneHolds rows
    go true q later e = let zero_one : ◌≡◌ {A = ℕ} 0 1 = cc in absurd (omega arith)
    go false q later e = (q, later e)

-- rows that rise from n on have no number below one that is at most n
none_under : (rows : Tests) (n m : ℕ) → m ≤ n → Rising n rows → NoneBelow m rows
none_under [] n m le up = tt
none_under (row ∷ rows) n m le up = (λ _. omega (arith, up.0), none_under rows (refusal_number row.1) m (omega (arith, up.0)) up.1)

least : (rows : Tests) (n : ℕ) → Rising n rows → (x : Refusal) → first_refusal rows ≡ Some x → HoldsFor x rows × NoneBelow (refusal_number x) rows
least [] n up x e = let zero_one : ◌≡◌ {A = ℕ} 0 1 = cc in absurd (omega arith)
least (row ∷ rows) n up x e = go row.0 refl (least rows (refusal_number row.1) up.1 x) e
  where
    go : (b : Bool) → row.0 ≡ b → (first_refusal rows ≡ Some x → HoldsFor x rows × NoneBelow (refusal_number x) rows) → cond b (Some row.1) (first_refusal rows) ≡ Some x
        → HoldsFor x (row ∷ rows) × NoneBelow (refusal_number x) (row ∷ rows)
    go true q later e =
        let same : row.1 ≡ x = cc in
        let number : refusal_number row.1 ≡ refusal_number x = ap refusal_number same in
        (inl (q, same), ((λ _. omega (arith, number)), none_under rows (refusal_number row.1) (refusal_number x) (omega (arith, number)) up.1))
    go false q later e =
        let rest = later e in
        (inr rest.0, ((λ holds. let clash : ◌≡◌ {A = Bool} true false = sym holds ∙ q in let zero_one : ◌≡◌ {A = ℕ} 0 1 = cc in absurd (omega arith)), rest.1))

decided_by : {A : Type 0} (rows : Tests) (answer : A) → Rising 0 rows → Decided rows (answered (first_refusal rows) answer)
decided_by {A} rows answer up = go (first_refusal rows) refl
  where
    go : (o : Option Refusal) → first_refusal rows ≡ o → Decided {A = A} rows (answered o answer)
    go None e = none_holds rows e
    go (Some x) e = least rows 0 up x e

module _ (holds : ℕ → Bool) (a : Account) where
  -- the rows of each request rise
  rising : (r : Request) → Rising 0 (tests holds a r)
  rising (request.Enter e) =
      (omega arith, (omega arith, (omega arith, (omega arith, (omega arith, (omega arith, (omega arith, (omega arith, (omega arith, tt)))))))))
  rising (request.Amend number limit) = (omega arith, (omega arith, (omega arith, (omega arith, (omega arith, (omega arith, (omega arith, tt)))))))
  rising (request.Cancel number) = (omega arith, (omega arith, (omega arith, (omega arith, tt))))
  rising (request.Take number volume) = (omega arith, (omega arith, (omega arith, (omega arith, (omega arith, tt)))))
  rising request.Advance = (omega arith, (omega arith, tt))

  pub decided : (r : Request) → Decided (tests holds a r) (answer_noted holds a r)
  decided r = decided_by (tests holds a r) (answer_to a r) (rising r)
