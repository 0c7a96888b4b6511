-- A printed script is read back.
use Rattle.std.proofs.Common.{◌≡◌, ℕ, ◌+◌, nat_lt, true, false, List, [], ◌∷◌, ◌++◌, length, map, decimal, codes, Option, Some, None, Result, Ok, refl}
use Rattle.std.proofs.Common.{lit<, All}
use Rattle.std.proofs.lemmas.Bool.{le-ltb}
use Rattle.book_base.specs.declared.address.Socket.{Socket}
use Rattle.book_base.specs.Lines.{lines_of}
use Rattle.book_base.specs.Algorithms.{name_of}
use Rattle.book_base.specs.Hexadecimal.{hex_of}
use Rattle.book_lines.specs.declared.text_fault.TextFault.{TextFault}
use Rattle.book_lines.specs.Words.{word_in, nothing_in, literal_in, socket_in}
use Rattle.book_base.specs.Results.{◌>>=◌}
use Rattle.book_link.specs.declared.event.Event.{Event}
use Rattle.book_link.specs.declared.event.Event.TheVariants as event
use Rattle.book_link.specs.declared.event.Action.TheVariants as action
use Rattle.book_cmd_link.specs.declared.script.SharedKey.{SharedKey}
use Rattle.book_cmd_link.specs.declared.script.Script.{Script}
use Rattle.book_cmd_link.specs.LinkEvents.{link_event_of}
use Rattle.book_cmd_link.specs.LinkFiles.{Left, keys_by, event_at, events_of, link_head_in, is_shared, key_in, line_in, peer_socket_of, script_in, script_of}
use Rattle.book_segments.specs.Sockets.{are_two_of_a_family}
use Rattle.book_cmd_link.specs.LinkFiles.{shared_key_of, socket_of, title_of}
use Rattle.law_scripts.specs.Printed.{event_words, title_words, socket_words, key_lines, script_lines, lines_text, text_of}
use Rattle.law_scripts.specs.Scripts.{IsEvent, IsKey, IsScript, IsSocket}
use Rattle.law_scripts.proofs.LinesBack.{numbered_from, lines_of-printed, saying_from-printed, length-lines_of-printed}
use Rattle.law_scripts.proofs.PrintedLines.{first_holds, rest_holds, are_lines}
use Rattle.law_scripts.proofs.EventsBack.{event_back}
use Rattle.law_scripts.proofs.WordsBack.{address_back, algorithm_back, number_back, hex_back}

not_shared : (e : Event) → is_shared (event_words e) ≡ false
unfolding is_shared event_words
not_shared (event.At e (action.Clock seconds)) = refl
not_shared (event.At e (action.Connect isn)) = refl
not_shared (event.At e (action.Listen isn)) = refl
not_shared (event.At e (action.Start own peer)) = refl
not_shared (event.At e (action.Give bytes)) = refl
not_shared (event.At e (action.Fill count byte)) = refl
not_shared (event.At e action.Send) = refl
not_shared (event.At e action.Resend) = refl
not_shared (event.At e (action.Deliver segment)) = refl
not_shared (event.At e (action.Inject bytes)) = refl
not_shared (event.At e (action.Alter segment place mask fixing)) = refl
not_shared (event.At e (action.Take count)) = refl
not_shared (event.At e action.Close) = refl
not_shared (event.At e action.Abort) = refl
not_shared (event.At e (action.AddRow row)) = refl
not_shared (event.At e (action.Withdraw row)) = refl
not_shared (event.Dump segment) = refl

event_at-printed : (n : ℕ) (e : Event) → IsEvent e → event_at link_event_of (record { number = n; words = event_words e }) ≡ Ok e
event_at-printed n e h = rw (not_shared e, event_back e h) refl

events_of-printed : (n : ℕ) (es : List Event) → All IsEvent es → events_of link_event_of (numbered_from n (map event_words es)) ≡ Ok es
unfolding events_of
events_of-printed n [] h = refl
events_of-printed n (e ∷ es) h =
    rw (event_at-printed n e (first_holds IsEvent e es h), events_of-printed (n + 1) es (rest_holds IsEvent e es h)) refl

title_back : title_of (codes "aotcp-link") title_words ≡ Ok tt
unfolding title_of title_words literal_in word_in nothing_in
title_back = refl

socket_a_back : (s : Socket) → IsSocket s → socket_of (codes "a") (socket_words (codes "a") s) ≡ Ok s
unfolding socket_of socket_words socket_in literal_in word_in nothing_in
socket_a_back s h = rw (address_back s.address (decimal s.port ∷ []) h.address, number_back 65535 s.port [] h.port (lit< tt)) refl

socket_b_back : (s : Socket) → IsSocket s → socket_of (codes "b") (socket_words (codes "b") s) ≡ Ok s
unfolding socket_of socket_words socket_in literal_in word_in nothing_in
socket_b_back s h = rw (address_back s.address (decimal s.port ∷ []) h.address, number_back 65535 s.port [] h.port (lit< tt)) refl

peer_back : (a b : Socket) → IsSocket b → are_two_of_a_family a.address b.address ≡ true → peer_socket_of a (socket_words (codes "b") b) ≡ Ok b
unfolding peer_socket_of
peer_back a b h two = rw (socket_b_back b h, two) refl

key_back : (k : SharedKey) → IsKey (Some k) → shared_key_of (codes "shared" ∷ name_of k.alg ∷ hex_of k.master ∷ []) ≡ Ok k
unfolding shared_key_of literal_in word_in nothing_in
key_back k h = rw (algorithm_back k.alg (hex_of k.master ∷ []), hex_back 1 255 k.master [] h) refl

abbrev built : Socket → Socket → Option SharedKey → List Event → Script
built x y key es = record { a = x; b = y; shared = key; events = es }

-- the events after the key
abbrev after_key : Socket → Socket → Result (Left (Option SharedKey)) TextFault → Result Script TextFault
after_key x y key = do
  k ← key
  events ← events_of link_event_of k.rest
  Ok (built x y k.value events)

rest_back : (key : Option SharedKey) (es : List Event) (missing n : ℕ) (x y : Socket) → IsKey key → All IsEvent es →
    after_key x y (key_in (keys_by key) missing (numbered_from n (key_lines key ++ map event_words es))) ≡ Ok (built x y key es)
unfolding key_in key_lines line_in
rest_back None es missing n x y h all = rw (events_of-printed n es all) refl
rest_back (Some k) es missing n x y h all = rw (key_back k h, events_of-printed (n + 1) es all) refl

script_in-printed : (s : Script) (missing : ℕ) → IsScript s → script_in (keys_by s.shared) missing (numbered_from 1 (script_lines s)) ≡ Ok s
unfolding script_in link_head_in script_lines line_in
script_in-printed s missing h =
    rw (title_back, socket_a_back s.a h.a, peer_back s.a s.b h.b h.two) (rest_back s.shared s.events missing 4 s.a s.b h.key h.events)

-- a printed script is read again as this script
pub script_of-text_of : (s : Script) → IsScript s → script_of (keys_by s.shared) (text_of s) ≡ Ok s
unfolding script_of text_of
script_of-text_of s h =
    let lines = are_lines s h in
    let few : nat_lt 20000 (length (lines_of (lines_text (script_lines s)))) ≡ false =
    le-ltb _ _ (rw (length-lines_of-printed (script_lines s) lines) h.lines) in
    rw (few, lines_of-printed (script_lines s) lines, saying_from-printed 1 (script_lines s) lines) (script_in-printed s _ h)
