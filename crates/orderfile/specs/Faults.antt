-- The number and the layer of each fault.
use Rattle.std.specs.Prelude.{ℕ, Some, None, Ok, Err, Option, Result}
use Rattle.orders.specs.Refusals.{refusal_number}
use Rattle.orders.specs.declared.refusal.Refusal.{Refusal}
use Rattle.orderfile.specs.declared.faults.FileFault.{FileFault}
use Rattle.orderfile.specs.declared.faults.FileFault.TheVariants as file
use Rattle.orderfile.specs.declared.faults.Layer.{Layer}
use Rattle.orderfile.specs.declared.faults.Layer.TheVariants as layer
use Rattle.orderfile.specs.declared.faults.MessageFault.{MessageFault}
use Rattle.orderfile.specs.declared.faults.MessageFault.TheVariants.{Empty, UnknownLetter, WrongLength, BadKind, BadSide, BadFlag, BadReference, Book}

-- 19 where the letter or the length is wrong, 20 where a field is; a refusal of the book has its own number
abbrev pub message_number : MessageFault → ℕ
message_number Empty = 19
message_number UnknownLetter = 19
message_number WrongLength = 19
message_number BadKind = 20
message_number BadSide = 20
message_number BadFlag = 20
message_number BadReference = 20
message_number (Book refusal) = refusal_number refusal

abbrev pub message_layer : MessageFault → Layer
message_layer (Book refusal) = layer.Book
message_layer fault = layer.Message

-- 18 where the head, the bodies or the size are wrong; want of memory is no refusal and has no number
abbrev pub file_number : FileFault → Option ℕ
file_number file.TooLong = Some 18
file_number file.ShortHead = Some 18
file_number file.UnknownRule = Some 18
file_number file.TooManyMessages = Some 18
file_number file.MissingBody = Some 18
file_number file.CutBody = Some 18
file_number file.ExtraBytes = Some 18
file_number (file.Message fault) = Some (message_number fault)
file_number file.Memory = None

abbrev pub file_layer : FileFault → Layer
file_layer file.TooLong = layer.File
file_layer file.ShortHead = layer.File
file_layer file.UnknownRule = layer.File
file_layer file.TooManyMessages = layer.File
file_layer file.MissingBody = layer.File
file_layer file.CutBody = layer.File
file_layer file.ExtraBytes = layer.File
file_layer (file.Message fault) = message_layer fault
file_layer file.Memory = layer.File

-- an answer of the book, as the message layer reports it
abbrev pub asked : {A : Type 0} → Result A Refusal → Result A MessageFault
asked (Ok x) = Ok x
asked (Err refusal) = Err (Book refusal)

-- an answer of the message layer, as the file layer reports it
abbrev pub risen : {A : Type 0} → Result A MessageFault → Result A FileFault
risen (Ok x) = Ok x
risen (Err fault) = Err (file.Message fault)
