-- The items of a list with room for n of them.
use Rattle.std.specs.Prelude.{ℕ, ◌+◌, Bool, if◌then◌else◌, List, min, take, replicate, nat_lt, slice_set}
use Rattle.fixed_list.specs.declared.FixedList.{FixedList}

module _ {T : Type 0} {n : ℕ} where
  -- as many as are counted, and at most n
  abbrev pub items : FixedList T n → List T
  items list = take (min list.count n) list.places

  abbrev pub empty : T → FixedList T n
  empty blank = record { places = replicate n blank; count = 0 }

  abbrev pub has_room : FixedList T n → Bool
  has_room list = nat_lt list.count n

  -- one item more, where there is room
  abbrev pub with_more : FixedList T n → T → FixedList T n
  with_more list item = if has_room list then record { places = slice_set list.places list.count item; count = list.count + 1 } else list
