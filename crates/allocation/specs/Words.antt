-- The words for why nothing is allocated.
use Rattle.std.specs.Prelude.{ℕ, List, codes}
use Rattle.allocation.specs.declared.error.AllocationError.{AllocationError}
use Rattle.allocation.specs.declared.error.AllocationError.TheVariants.{ShortMemory, SharedEntry}

abbrev pub error_words : AllocationError → List ℕ
error_words ShortMemory = codes "the lent memory is too short"
error_words SharedEntry = codes "two orders have one entry number"
