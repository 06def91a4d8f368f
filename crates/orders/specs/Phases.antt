-- The phases of a closing day, numbered in order.
use Rattle.std.specs.Prelude.{ℕ}
use Rattle.orders.specs.declared.Phase.{Phase}
use Rattle.orders.specs.declared.Phase.TheVariants.{Entry, Imbalance, Freeze, Extension, Closed}

abbrev pub phase_number : Phase → ℕ
phase_number Entry = 0
phase_number Imbalance = 1
phase_number Freeze = 2
phase_number Extension = 3
phase_number Closed = 4
