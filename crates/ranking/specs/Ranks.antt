-- The law of a ranking, and the first item of a list.
use Rattle.std.specs.Prelude.{◌≡◌, ℕ, ◌<◌, Bool, true, false, ◌⊎◌, List, length, ◌≢◌, slice_index_or}

-- nothing is before itself, before passes along a chain, and of two items with different names one is before the other
pub record Ranks {X N : Type 0} (name : X → N) (before : X → X → Bool) : Type 0 where
  pub apart : (x : X) → before x x ≡ false
  pub chain : (x y z : X) → before x y ≡ true → before y z ≡ true → before x z ≡ true
  pub decided : (x y : X) → (name x ≢ name y) → (before x y ≡ true) ⊎ (before y x ≡ true)

-- the item at `first` is in the list, nothing is before it, and every item of another name is behind it
pub record First {X N : Type 0} (name : X → N) (before : X → X → Bool) (items : List X) (first : ℕ) : Type 0 where
  pub within : first < length items
  pub unbeaten : (k : ℕ) (d : X) → k < length items → before (slice_index_or items k d) (slice_index_or items first d) ≡ false
  pub behind : (k : ℕ) (d : X) → k < length items → (name (slice_index_or items k d) ≢ name (slice_index_or items first d)) → before (slice_index_or items first d) (slice_index_or items k d) ≡ true
