-- An order by keys keeps the law of a ranking where its keys tell the name.
use Rattle.std.specs.Prelude.{◌≡◌, ℕ, Bool, true, false, refl}
use Rattle.std.proofs.Common.{inl, inr, arith}
use Rattle.std.proofs.lemmas.Bool.{cases_Bool}
use Rattle.std.proofs.lemmas.Bool.Decides.{nat_tests}
use Rattle.ranking.specs.Keys.{smaller, larger, level}
use Rattle.ranking.specs.Ranks.{Ranks}

-- the part of the law that says nothing of names
pub record Strict {X : Type 0} (before : X → X → Bool) : Type 0 where
  pub apart : (x : X) → before x x ≡ false
  pub chain : (x y z : X) → before x y ≡ true → before y z ≡ true → before x z ≡ true

-- neither is before the other
pub record Level {X : Type 0} (before : X → X → Bool) (x y : X) : Type 0 where
  pub ahead : before x y ≡ false
  pub behind : before y x ≡ false

module _ {X : Type 0} where
  pub none : Strict {X = X} level
  none = record { apart = λ _. refl; chain = λ x y z a b. a }

  module _ (key : X → ℕ) (next : X → X → Bool) where
    pub smaller_strict : Strict next → Strict (smaller key next)
    smaller_strict s = record {
      apart = λ x. let e = s.apart x in grind (arith, nat_tests);
      chain = λ x y z a b. let c = s.chain x y z in grind (arith, nat_tests);
    }

    pub larger_strict : Strict next → Strict (larger key next)
    larger_strict s = record {
      apart = λ x. let e = s.apart x in grind (arith, nat_tests);
      chain = λ x y z a b. let c = s.chain x y z in grind (arith, nat_tests);
    }

    pub smaller_level : (x y : X) → Level (smaller key next) x y → (key x ≡ key y) × Level next x y
    smaller_level x y l = let a = l.ahead in let b = l.behind in (grind (arith, nat_tests), record { ahead = grind (arith, nat_tests); behind = grind (arith, nat_tests) })

    pub larger_level : (x y : X) → Level (larger key next) x y → (key x ≡ key y) × Level next x y
    larger_level x y l = let a = l.ahead in let b = l.behind in (grind (arith, nat_tests), record { ahead = grind (arith, nat_tests); behind = grind (arith, nat_tests) })

  -- items that are level have one name, so of two names one comes first
  pub ranks : {N : Type 0} (name : X → N) (before : X → X → Bool) → Strict before → ((x y : X) → Level before x y → name x ≡ name y) → Ranks name before
  ranks name before s named = record {
    apart = s.apart;
    chain = s.chain;
    decided = λ x y other.
        elim (cases_Bool (before x y)) [
          | inl t ↦ inl t
          | inr f ↦ elim (cases_Bool (before y x)) [
            | inl t ↦ inr t
            | inr f' ↦ absurd (other (named x y (record { ahead = f; behind = f' })))
          ]
        ];
  }
