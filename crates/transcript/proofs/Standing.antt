-- How a loop writes the rows of orders.
use Rattle.std.proofs.Common.{◌≡◌, ℕ, ◌+◌, ◌<◌, ◌≤◌, Bool, ◌≢◌, List, ◌∷◌, ◌++◌, length, get_or, drop, sym, refl, ap, ◌∙◌, arith}
use Rattle.std.proofs.lemmas.Bool.Decides.{nat_tests}
use Rattle.orders.specs.declared.table.Order.{Order}
use Rattle.peg.specs.Standing.{standing}
use Rattle.transcript.specs.Summary.{row, rows}
use Rattle.transcript.proofs.Loops.{at_end, from_here, one_more}

module _ (holds : ℕ → Bool) (R : ℕ) where
  no_row : (o : Order) (os : List Order) → o.left ≡ 0 → rows holds R (o ∷ os) ≡ rows holds R os
  no_row o os none = grind (arith, nat_tests)

  a_row : (o : Order) (os : List Order) → o.left ≢ 0 → rows holds R (o ∷ os) ≡ row o (standing holds R o) ++ rows holds R os
  a_row o os some = grind (arith, nat_tests)

  -- `done` are the rows of the orders before i
  module _ (os : List Order) (i : ℕ) (whole done : List ℕ) (so_far : whole ≡ done ++ rows holds R (drop i os)) where
    -- no order is left
    pub all_shown : length os ≤ i → done ≡ whole
    all_shown long = at_end (rows holds R) os i whole done so_far refl long

    module _ (d : Order) (short : i < length os) where
      -- an order with nothing left has no row
      pub spent : (get_or os i d).left ≡ 0 → whole ≡ done ++ rows holds R (drop (i + 1) os)
      spent none = from_here (rows holds R) os i whole done so_far d short _ (no_row (get_or os i d) (drop (i + 1) os) none)

      -- any other has one
      pub row_more : (price : ℕ) → (get_or os i d).left ≢ 0 → price ≡ standing holds R (get_or os i d) → whole ≡ (done ++ row (get_or os i d) price) ++ rows holds R (drop (i + 1) os)
      row_more price some e =
          one_more (rows holds R) os i whole done so_far d short (row (get_or os i d) price) (rows holds R (drop (i + 1) os))
          (a_row (get_or os i d) (drop (i + 1) os) some ∙ ap (λ p. row (get_or os i d) p ++ rows holds R (drop (i + 1) os)) (sym e))
