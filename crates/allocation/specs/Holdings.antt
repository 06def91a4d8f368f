-- The orders of one side with what each has left, and the pairs that can still trade.
use Rattle.std.specs.Prelude.{ℕ, ◌+◌, ◌-◌, Bool, cond, ◌&&◌, List, [], ◌∷◌, ◌++◌, map, filter, ◌==◌, nat_lt, slice_index_or, slice_set}
use Rattle.auction.specs.Totals.{eligible}
use Rattle.orders.specs.Kinds.{same_side}
use Rattle.orders.specs.declared.Kind.TheVariants.{Market}
use Rattle.orders.specs.declared.Side.{Side}
use Rattle.orders.specs.declared.Side.TheVariants.{Buy}
use Rattle.orders.specs.declared.found.FoundOrder.{FoundOrder}
use Rattle.allocation.specs.declared.held.Holding.{Holding}
use Rattle.allocation.specs.declared.held.LivePair.{LivePair}

-- the eligible orders of one side, each with all that it brings
abbrev pub takes_part : Side → ℕ → FoundOrder → Bool
takes_part side p o = same_side o.side side && eligible p o

abbrev pub whole : FoundOrder → Holding
whole o = record { order = o; left = o.shares }

abbrev pub held : Side → ℕ → List FoundOrder → List Holding
held side p os = map whole (filter (takes_part side p) os)

-- what the order with an entry number has left, and 0 where there is none
abbrev pub left_of : List Holding → ℕ → ℕ
left_of [] n = 0
left_of (h ∷ hs) n = cond (h.order.entry == n) h.left (left_of hs n)

-- the shares that the orders have left in all
abbrev pub all_left : List Holding → ℕ
all_left [] = 0
all_left (h ∷ hs) = h.left + all_left hs

-- what stands beyond the end of a list
abbrev pub vacant : Holding
vacant = record { order = record { number = 0; entry = 0; kind = Market; side = Buy; broker = 0; standing = 0; shares = 0 }; left = 0 }

abbrev pub left_at : List Holding → ℕ → ℕ
left_at hs place = (slice_index_or hs place vacant).left

-- the holdings after the one at a place gave shares
abbrev pub given_up : List Holding → ℕ → ℕ → List Holding
given_up hs place shares = slice_set hs place (record { order = (slice_index_or hs place vacant).order; left = left_at hs place - shares })

abbrev pub paired : Holding → Holding → ℕ → ℕ → LivePair
paired b s i j = record { pair = record { buy = b.order; sell = s.order }; buy = i; sell = j }

-- the pairs of one buy, at place i, with the sells that have shares, from place j on
abbrev pub pairs_with : Holding → ℕ → ℕ → List Holding → List LivePair
pairs_with b i j [] = []
pairs_with b i j (s ∷ ss) = cond (nat_lt 0 s.left) (paired b s i j ∷ pairs_with b i (j + 1) ss) (pairs_with b i (j + 1) ss)

abbrev pub pairs_of : ℕ → List Holding → Holding → List LivePair
pairs_of i ss b = cond (nat_lt 0 b.left) (pairs_with b i 0 ss) []

-- every pair with shares on both sides, the buys from place i on
abbrev pub live_pairs : ℕ → List Holding → List Holding → List LivePair
live_pairs i [] ss = []
live_pairs i (b ∷ bs) ss = pairs_of i ss b ++ live_pairs (i + 1) bs ss

-- what stands beyond the end of a list of pairs
abbrev pub no_pair : LivePair
no_pair = paired vacant vacant 0 0
