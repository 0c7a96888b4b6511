-- The head of a link file, as it is read.
use Rattle.std.specs.Prelude.{Result, Ok, Err}
use Rattle.book_lines.specs.declared.text_fault.TextFault.{TextFault}
use Rattle.book_cmd_link.specs.LinkFiles as book
use Rattle.link_script.specs.declared.head.Head.{Head}

-- the head as the definitions have it, or the fault
abbrev pub said_head : Result Head TextFault → Result book.Head TextFault
said_head (Ok h) = Ok (record { a = h.a; b = h.b })
said_head (Err e) = Err e
