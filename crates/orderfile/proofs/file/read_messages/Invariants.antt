use Rattle.std.proofs.Common.{◌≡◌, ◌-◌, map, vec_items}
use Rattle.orderfile.specs.Bodies.{told}
use Rattle.orderfile.specs.Reading.{each_body, read_message}
use Rattle.orderfile.proofs.Cutting.{onto}
use Rattle.orderfile.proofs.file.read_messages.Given as goal

-- the messages so far, and then those of the bodies that are left
abbrev pub invariant-loop : goal.invariant-loop
invariant-loop l = each_body read_message l.count l.bytes ≡ onto (map told (vec_items l.messages)) (each_body read_message (l.count - l.counter) l.rest)
