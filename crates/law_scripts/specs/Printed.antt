-- The text of a script. Our own format.
use Rattle.std.specs.Prelude.{ℕ, Bool, true, false, List, [], ◌∷◌, ◌++◌, map, codes, Option, Some, None, decimal}
use Rattle.book_base.specs.declared.address.Socket.{Socket}
use Rattle.book_base.specs.declared.end.End.{End}
use Rattle.book_base.specs.Algorithms.{name_of}
use Rattle.book_base.specs.Hexadecimal.{hex_of}
use Rattle.book_lines.specs.Texts.{end_text, line_text, socket_texts}
use Rattle.book_keys.specs.declared.direction.Direction.{Direction}
use Rattle.book_keys.specs.declared.direction.Direction.TheVariants.{Receive, Send, Both, Disabled}
use Rattle.book_keys.specs.declared.new_row.NewRow.{NewRow}
use Rattle.book_link.specs.declared.event.Fixing.{Fixing}
use Rattle.book_link.specs.declared.event.Fixing.TheVariants.{Keep, Fix}
use Rattle.book_link.specs.declared.event.Event.{Event}
use Rattle.book_link.specs.declared.event.Event.TheVariants as event
use Rattle.book_link.specs.declared.event.Action.TheVariants as action
use Rattle.book_cmd_link.specs.declared.script.SharedKey.{SharedKey}
use Rattle.book_cmd_link.specs.declared.script.Script.{Script}

-- lines, one after another
unfoldable pub lines_text : List (List (List ℕ)) → List ℕ
lines_text [] = []
lines_text (l ∷ ls) = line_text l ++ lines_text ls

-- whether the checksum of an altered copy is kept or set
abbrev pub fixing_text : Fixing → List ℕ
fixing_text Keep = codes "keep"
fixing_text Fix = codes "fix"

-- whether TCP options are under the MAC (RFC 5925, section 3.1)
abbrev pub flag_text : Bool → List ℕ
flag_text false = codes "no-options"
flag_text true = codes "options"

-- the word of a Direction (RFC 7210, section 2)
abbrev pub direction_text : Direction → List ℕ
direction_text Receive = codes "in"
direction_text Send = codes "out"
direction_text Both = codes "both"
direction_text Disabled = codes "disabled"

-- the words of a row behind its key: how it is used, and when
unfoldable pub use_texts : NewRow → List (List ℕ)
use_texts r =
    flag_text r.with_options
    ∷ direction_text r.direction
    ∷ decimal r.sending.first
    ∷ decimal r.sending.last
    ∷ decimal r.accepting.first
    ∷ decimal r.accepting.last
    ∷ []

-- the words of a row, behind the end whose table it joins
unfoldable pub row_texts : NewRow → List (List ℕ)
row_texts r = decimal r.recv_id ∷ decimal r.send_id ∷ name_of r.algorithm ∷ hex_of r.master ∷ use_texts r

-- the words of an event of this name and of an end alone
abbrev pub end_words : List ℕ → End → List (List ℕ)
end_words name e = name ∷ end_text e ∷ []

-- the words of an event of this name, of an end and a number
abbrev pub number_words : List ℕ → End → ℕ → List (List ℕ)
number_words name e number = name ∷ end_text e ∷ decimal number ∷ []

-- the words of an event of this name, of an end and bytes
abbrev pub bytes_words : List ℕ → End → List ℕ → List (List ℕ)
bytes_words name e bytes = name ∷ end_text e ∷ hex_of bytes ∷ []

-- the words of an event, bytes in hexadecimal of lower case
unfoldable pub event_words : Event → List (List ℕ)
event_words (event.At e (action.Clock seconds)) = number_words (codes "clock") e seconds
event_words (event.At e (action.Connect isn)) = number_words (codes "open") e isn
event_words (event.At e (action.Listen isn)) = number_words (codes "listen") e isn
event_words (event.At e (action.Start own peer)) =
    codes "start" ∷ end_text e ∷ decimal own ∷ decimal peer ∷ []
event_words (event.At e (action.Give bytes)) = bytes_words (codes "give") e bytes
event_words (event.At e (action.Fill count byte)) =
    codes "fill" ∷ end_text e ∷ decimal count ∷ hex_of (byte ∷ []) ∷ []
event_words (event.At e action.Send) = end_words (codes "send") e
event_words (event.At e action.Resend) = end_words (codes "resend") e
event_words (event.At e (action.Deliver segment)) = number_words (codes "deliver") e segment
event_words (event.At e (action.Inject bytes)) = bytes_words (codes "inject") e bytes
event_words (event.At e (action.Alter segment place mask fixing)) =
    codes "alter" ∷ end_text e ∷ decimal segment ∷ decimal place ∷ hex_of (mask ∷ []) ∷ fixing_text fixing ∷ []
event_words (event.At e (action.Take count)) = number_words (codes "take") e count
event_words (event.At e action.Close) = end_words (codes "close") e
event_words (event.At e action.Abort) = end_words (codes "abort") e
event_words (event.At e (action.AddRow row)) = codes "add" ∷ end_text e ∷ row_texts row
event_words (event.At e (action.Withdraw row)) = number_words (codes "withdraw") e row
event_words (event.Dump segment) = codes "dump" ∷ decimal segment ∷ []

-- the words of the first line
unfoldable pub title_words : List (List ℕ)
title_words = codes "aotcp-link" ∷ codes "1" ∷ []

-- the words of the line of an end's socket
unfoldable pub socket_words : List ℕ → Socket → List (List ℕ)
socket_words end s = end ∷ socket_texts s []

-- the line of the shared key, if there is one
unfoldable pub key_lines : Option SharedKey → List (List (List ℕ))
key_lines None = []
key_lines (Some k) = (codes "shared" ∷ name_of k.alg ∷ hex_of k.master ∷ []) ∷ []

-- the lines of a script, as words
unfoldable pub script_lines : Script → List (List (List ℕ))
script_lines s = title_words ∷ socket_words (codes "a") s.a ∷ socket_words (codes "b") s.b ∷ (key_lines s.shared ++ map event_words s.events)

-- the text of a script
unfoldable pub text_of : Script → List ℕ
text_of s = lines_text (script_lines s)
