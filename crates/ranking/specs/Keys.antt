-- Orders by one key after another.
use Rattle.std.specs.Prelude.{ℕ, Bool, true, false, cond, nat_lt}

-- the smaller key comes first, and where the keys are level the next order decides
abbrev pub smaller : {X : Type 0} → (X → ℕ) → (X → X → Bool) → X → X → Bool
smaller key next x y = cond (nat_lt (key x) (key y)) true (cond (nat_lt (key y) (key x)) false (next x y))

-- the same with the larger key first
abbrev pub larger : {X : Type 0} → (X → ℕ) → (X → X → Bool) → X → X → Bool
larger key next x y = cond (nat_lt (key y) (key x)) true (cond (nat_lt (key x) (key y)) false (next x y))

-- no key is left
abbrev pub level : {X : Type 0} → X → X → Bool
level x y = false
