use Rattle.std.proofs.Common.{◌≡◌, ℕ, List, [], ◌++◌, take, IfSome, Some, None, Option, ◌∙◌}
use Rattle.std.specs.Option.{option_map}
use Rattle.orderfile.proofs.input.read_bytes.Goals as goal

-- what is known of a reader's bytes, behind a limit and then behind an empty list
through : (known : Option (List ℕ)) (limit most : ℕ) (none file : List ℕ) → limit ≡ most → none ≡ [] → IfSome (option_map (take limit) known) (λ xs. file ≡ none ++ xs) → IfSome known (λ bytes. file ≡ take most bytes)
through None limit most none file l n read = tt
through (Some bytes) limit most none file l n read = read ∙ (λ i. n i ++ take (l i) bytes)

pub returns : goal.returns
returns g c = through (g.R.Read.remaining c.args.input) _ 65537 _ _ c.take.ensures.limit c.new-file.ensures.items (rw c.take.ensures.inner at c.in_ok-read_to_end.ensures.bytes)
