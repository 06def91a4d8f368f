-- A file reads as its head and then as its bodies.
use Rattle.std.proofs.Common.{◌≡◌, ℕ, ◌-◌, List, length, take, drop, Ok, Err, Result, sym, ap, ◌∙◌}
use Rattle.std.proofs.lemmas.List.{take_rest}
use Rattle.orderfile.specs.Bodies.{Content}
use Rattle.orderfile.specs.Reading.{each_body, read_message, read_head, headed, read_file}
use Rattle.orderfile.specs.declared.faults.FileFault.{FileFault}
use Rattle.orderfile.specs.declared.file.Head.{Head}

-- `take (length file - 7) (drop 7 file)` is how `&file[7..]` is read
pub joins : (file : List ℕ) (head : Head) (r : Result (List (Result Content FileFault)) FileFault) → read_head file ≡ Ok head → each_body read_message head.count (take (length file - 7) (drop 7 file)) ≡ r → read_file file ≡ headed head r
joins file head r is read =
    ap (λ h. elim h [ Ok head' ↦ headed head' (each_body read_message head'.count (drop 7 file)) | Err fault ↦ Err fault ]) is
    ∙ ap (λ bytes. headed head (each_body read_message head.count bytes)) (sym (take_rest file 7))
    ∙ ap (headed head) read
