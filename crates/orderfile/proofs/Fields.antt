-- The fields of an enter message read as the numbers and the reference in them.
use Rattle.std.proofs.Common.{◌≡◌, ℕ, ◌-◌, ◌≤◌, List, length, get_or, take, drop, Result, sym, ◌∙◌, arith}
use Rattle.std.proofs.lemmas.List.{take_rest}
use Rattle.std.proofs.lemmas.Bool.Decides.{nat_tests}
use Rattle.orders.specs.Letters.{kind_of, side_of, flag_of}
use Rattle.orderfile.specs.Bodies.{Content, read_order, read_enter}
use Rattle.orderfile.specs.Numbers.{number_at}
use Rattle.orderfile.specs.declared.faults.MessageFault.{MessageFault}

module _ (fields : List ℕ) (long : 13 ≤ length fields) (short : length fields ≤ 33) where
  abbrev order : ℕ → ℕ → ℕ → List ℕ → Result Content MessageFault
  order = read_order (kind_of (get_or fields 0 0)) (side_of (get_or fields 1 0)) (flag_of (get_or fields 2 0))

  right_length : read_enter fields ≡ order (number_at 3 2 fields) (number_at 5 4 fields) (number_at 9 4 fields) (drop 13 fields)
  right_length = grind (arith, nat_tests)

  -- the numbers and the reference as the pattern of an enter message names them
  pub entered : (r : Result Content MessageFault) {broker limit volume : ℕ} → broker ≡ number_at 3 2 fields → limit ≡ number_at 5 4 fields → volume ≡ number_at 9 4 fields → r ≡ order broker limit volume (take (length fields - 13) (drop 13 fields)) → r ≡ read_enter fields
  entered r b l v e = e ∙ (λ i. order (b i) (l i) (v i) (take_rest fields 13 i)) ∙ sym right_length
