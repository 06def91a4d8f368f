-- The words for what is wrong with a message or a file.
use Rattle.std.specs.Prelude.{ℕ, List, codes}
use Rattle.orders.specs.Words.{refusal_words}
use Rattle.orderfile.specs.declared.faults.FileFault.{FileFault}
use Rattle.orderfile.specs.declared.faults.FileFault.TheVariants.{TooLong, ShortHead, UnknownRule, TooManyMessages, MissingBody, CutBody, ExtraBytes, Message, Memory}
use Rattle.orderfile.specs.declared.faults.MessageFault.{MessageFault}
use Rattle.orderfile.specs.declared.faults.MessageFault.TheVariants.{Empty, UnknownLetter, WrongLength, BadKind, BadSide, BadFlag, BadReference, Book}

abbrev pub message_words : MessageFault → List ℕ
message_words Empty = codes "the message is empty"
message_words UnknownLetter = codes "the letter is none of E, A, X, T, P and C"
message_words WrongLength = codes "the message has the wrong length for its letter"
message_words BadKind = codes "the kind is none of M, L and D"
message_words BadSide = codes "the side is neither B nor S"
message_words BadFlag = codes "the flag is neither P nor N"
message_words BadReference = codes "the reference has a byte other than A to Z and 0 to 9"
message_words (Book refusal) = refusal_words refusal

abbrev pub file_words : FileFault → List ℕ
file_words TooLong = codes "the file is longer than 65536 bytes"
file_words ShortHead = codes "the head is shorter than 7 bytes"
file_words UnknownRule = codes "the rule letter is neither V nor P"
file_words TooManyMessages = codes "the head counts more than 1024 messages"
file_words MissingBody = codes "the file ends before the last message"
file_words CutBody = codes "a message runs past the end of the file"
file_words ExtraBytes = codes "bytes follow the last message"
file_words (Message fault) = message_words fault
file_words Memory = codes "there is not enough memory"
