-- The prices of a `Listed`, and the number of its refusal.
use Rattle.std.specs.Prelude.{ℕ, List}
use Rattle.fixed_list.specs.Items.{items}
use Rattle.grid.specs.declared.listed.Listed.{Listed}
use Rattle.grid.specs.declared.listed.NotAGrid.{NotAGrid}

abbrev pub listed : Listed → List ℕ
listed g = items g.prices

abbrev pub grid_number : NotAGrid → ℕ
grid_number fault = 1
