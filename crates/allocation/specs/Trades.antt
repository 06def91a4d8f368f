-- Which lists of trades nobody can object to. Orders go by their entry numbers.
use Rattle.std.specs.Prelude.{◌≡◌, ℕ, ◌+◌, ◌-◌, ◌<◌, ◌≤◌, min, Bool, true, false, cond, ◌⊎◌, List, [], ◌∷◌, ◌==◌, ◌≢◌}
use Rattle.std.specs.List.{AllByRecursion}

-- the entry numbers of a buy and a sell, and the shares that they trade
pub record Trade : Type 0 where
  pub pair : ℕ × ℕ
  pub shares : ℕ

-- the two sides of a pair
abbrev pub buyer : ℕ × ℕ → ℕ
buyer pair = pair.0

abbrev pub seller : ℕ × ℕ → ℕ
seller pair = pair.1

-- the shares that a trade, and a list of trades, take of the order n on one side
abbrev pub taken : (ℕ × ℕ → ℕ) → Trade → ℕ → ℕ
taken side t n = cond (side t.pair == n) t.shares 0

abbrev pub traded : (ℕ × ℕ → ℕ) → List Trade → ℕ → ℕ
traded side [] n = 0
traded side (t ∷ ts) n = taken side t n + traded side ts n

abbrev pub all_shares : List Trade → ℕ
all_shares [] = 0
all_shares (t ∷ ts) = t.shares + all_shares ts

-- some item is as P says
abbrev pub SomeOne : {X : Type 0} → (X → Type 0) → List X → Type 0
SomeOne P [] = ⊥
SomeOne P (x ∷ xs) = P x ⊎ SomeOne P xs

-- each item stands to each later one as R says
abbrev pub InTurn : {X : Type 0} → (X → X → Type 0) → List X → Type 0
InTurn R [] = Unit {0}
InTurn R (x ∷ xs) = AllByRecursion (R x) xs × InTurn R xs

-- Below, `buys` and `sells` give the shares that each order brings, by entry number, and 0 for every other number.

-- both orders of the pair bring a share
abbrev pub CanTrade : (ℕ → ℕ) → (ℕ → ℕ) → ℕ × ℕ → Type 0
CanTrade buys sells pair = (0 < buys (buyer pair)) × (0 < sells (seller pair))

-- different pairs of orders that can trade, a share or more each, and no order beyond what it brings
pub record WellFormed (buys sells : ℕ → ℕ) (ts : List Trade) : Type 0 where
  pub different : InTurn (λ t u. t.pair ≢ u.pair) ts
  pub eligible : AllByRecursion (λ t. CanTrade buys sells t.pair) ts
  pub some : AllByRecursion (λ t. 0 < t.shares) ts
  pub bought : (n : ℕ) → traded buyer ts n ≤ buys n
  pub sold : (n : ℕ) → traded seller ts n ≤ sells n

-- the order on one side of the pair has a share left over, or trades in a pair that the rule places behind this one
abbrev pub WouldTrade : (ℕ × ℕ → ℕ × ℕ → Bool) → (ℕ × ℕ → ℕ) → (ℕ → ℕ) → List Trade → ℕ × ℕ → Type 0
WouldTrade before side brings ts pair =
    (traded side ts (side pair) < brings (side pair)) ⊎ SomeOne (λ t. (side t.pair ≡ side pair) × (before pair t.pair ≡ true)) ts

-- both orders of the pair would rather trade with each other
abbrev pub Blocks : (ℕ × ℕ → ℕ × ℕ → Bool) → (ℕ → ℕ) → (ℕ → ℕ) → List Trade → ℕ × ℕ → Type 0
Blocks before buys sells ts pair = CanTrade buys sells pair × WouldTrade before buyer buys ts pair × WouldTrade before seller sells ts pair

abbrev pub Follows : (ℕ × ℕ → ℕ × ℕ → Bool) → List Trade → Type 0
Follows before ts = InTurn (λ t u. before t.pair u.pair ≡ true) ts

-- well-formed, blocked by no pair, and in the order of the rule
pub record Settled (before : ℕ × ℕ → ℕ × ℕ → Bool) (buys sells : ℕ → ℕ) (ts : List Trade) : Type 0 where
  pub well_formed : WellFormed buys sells ts
  pub unblocked : (pair : ℕ × ℕ) → Blocks before buys sells ts pair → ⊥
  pub follows : Follows before ts

-- The greedy way: until one side has no share, the first pair with shares on both sides trades the smaller amount.

abbrev pub Spent : (ℕ → ℕ) → Type 0
Spent left = (n : ℕ) → left n ≡ 0

pub record Foremost (before : ℕ × ℕ → ℕ × ℕ → Bool) (buys sells : ℕ → ℕ) (pair : ℕ × ℕ) : Type 0 where
  pub can_trade : CanTrade buys sells pair
  pub unbeaten : (other : ℕ × ℕ) → CanTrade buys sells other → before other pair ≡ false

-- what each order of one side has left after a trade
abbrev pub after : (ℕ × ℕ → ℕ) → (ℕ → ℕ) → Trade → ℕ → ℕ
after side left t n = left n - taken side t n

abbrev pub Greedy : (ℕ × ℕ → ℕ × ℕ → Bool) → (ℕ → ℕ) → (ℕ → ℕ) → List Trade → Type 0
Greedy before buys sells [] = Spent buys ⊎ Spent sells
Greedy before buys sells (t ∷ ts) =
    Foremost before buys sells t.pair
    × (t.shares ≡ min (buys (buyer t.pair)) (sells (seller t.pair)))
    × Greedy before (after buyer buys t) (after seller sells t) ts
