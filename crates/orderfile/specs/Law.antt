-- What reading an order file promises.
use Rattle.std.specs.Prelude.{◌≡◌, ℕ, List, [], ◌∷◌, length, Result, MatchResult, ◌≢◌}
use Rattle.orderfile.specs.Bodies.{Content, Means}
use Rattle.orderfile.specs.Format.{Holds}
use Rattle.orderfile.specs.Reading.{contents}
use Rattle.orderfile.specs.declared.faults.FileFault.{FileFault}
use Rattle.orderfile.specs.declared.faults.FileFault.TheVariants.{Memory}
use Rattle.orderfile.specs.declared.file.Head.{Head}
use Rattle.orderfile.specs.declared.file.OrderFile.{OrderFile}
use Rattle.orderfile.specs.declared.file.Rule.{Rule}

-- as many messages as bodies, each the meaning of its body
abbrev pub ToldInOrder : List (List ℕ) → List (Result Content FileFault) → Type 0
ToldInOrder [] [] = Unit {0}
ToldInOrder [] (m ∷ ms) = ⊥
ToldInOrder (b ∷ bs) [] = ⊥
ToldInOrder (b ∷ bs) (m ∷ ms) = Means b m × ToldInOrder bs ms

-- the file holds this head and the bodies of these messages, and nothing else can be found in it
pub record ReadWhole (file : List ℕ) (head : Head) (messages : List (Result Content FileFault)) : Type 0 where
  pub bodies : List (List ℕ)
  pub holds : Holds file head.rule head.previous_close bodies
  pub counted : head.count ≡ length bodies
  pub only : (rule : Rule) (close : ℕ) (others : List (List ℕ)) → Holds file rule close others → (rule ≡ head.rule) × (close ≡ head.previous_close) × (others ≡ bodies)
  pub told : ToldInOrder bodies messages

-- exactly the files of the format are accepted
abbrev pub ReadsTheFormat : List ℕ → Result OrderFile FileFault → Type 0
ReadsTheFormat file r =
    MatchResult r
    (λ f. ReadWhole file (contents f).0 (contents f).1)
    (λ fault. (fault ≢ Memory) → (rule : Rule) (close : ℕ) (bodies : List (List ℕ)) → Holds file rule close bodies → ⊥)
