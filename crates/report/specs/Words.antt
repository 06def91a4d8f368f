-- The ending of what is counted, and what is wrong with a message or a file.
use Rattle.std.specs.Prelude.{ℕ, cond, List, [], ◌∷◌, Some, None, codes, decimal, Option, ◌==◌}
use Rattle.orderfile.specs.Faults.{file_number}
use Rattle.orderfile.specs.Words.{file_words}
use Rattle.orderfile.specs.declared.faults.FileFault.{FileFault}
use Rattle.report.specs.Text.{pieces}

-- one stands in the singular
abbrev pub plural_ending : ℕ → List ℕ
plural_ending count = cond (count == 1) [] (codes "s")

-- words behind a number, where there is one
abbrev pub numbered : Option ℕ → List ℕ → List ℕ
numbered None words = words
numbered (Some n) words = pieces (decimal n ∷ codes ": " ∷ words ∷ [])

abbrev pub fault_text : FileFault → List ℕ
fault_text fault = numbered (file_number fault) (file_words fault)
