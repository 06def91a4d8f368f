-- The format of order files: a head, then each body behind its length.
use Rattle.std.specs.Prelude.{◌≡◌, ℕ, ◌^◌, ◌<◌, ◌≤◌, List, ◌∷◌, ◌++◌, length}
use Rattle.std.specs.List.{flat_map, AllByRecursion}
use Rattle.orders.specs.Letters.{ascii}
use Rattle.orderfile.specs.Numbers.{in_bytes}
use Rattle.orderfile.specs.declared.file.Rule.{Rule}
use Rattle.orderfile.specs.declared.file.Rule.TheVariants.{V, P}

abbrev pub rule_letter : Rule → ℕ
rule_letter V = ascii "V"
rule_letter P = ascii "P"

abbrev pub framed : List ℕ → List ℕ
framed body = length body ∷ body

-- rule letter, previous close (4), message count (2), bodies
abbrev pub laid_out : Rule → ℕ → List (List ℕ) → List ℕ
laid_out rule close bodies = rule_letter rule ∷ (in_bytes 4 close ++ (in_bytes 2 (length bodies) ++ flat_map framed bodies))

-- the file holds this rule, this previous close and these bodies, within the limits of the format
pub record Holds (file : List ℕ) (rule : Rule) (close : ℕ) (bodies : List (List ℕ)) : Type 0 where
  pub bytes : file ≡ laid_out rule close bodies
  pub size : length file ≤ 65536
  pub price : close < 2 ^ 32
  pub few : length bodies ≤ 1024
  pub short : AllByRecursion (λ body. length body < 256) bodies
