-- The words of a printed event, of a socket and of a key make a line.
use Rattle.std.proofs.Common.{◌≡◌, ℕ, zero, suc, ◌<◌, ◌≤◌, ◌^◌, length, Bool, true, false, List, [], ◌∷◌, map, decimal, codes, Option, Some, None, refl}
use Rattle.std.proofs.Common.{arith, lit<, All}
use Rattle.book_base.specs.declared.address.Socket.{Socket}
use Rattle.book_base.specs.declared.algorithm.Algorithm.{Algorithm}
use Rattle.book_base.specs.declared.algorithm.Algorithm.TheVariants.{HmacSha1, AesCmac, HmacSha256}
use Rattle.book_base.specs.declared.end.End.{End}
use Rattle.book_base.specs.declared.end.End.TheVariants.{A, B}
use Rattle.book_base.specs.Algorithms.{name_of}
use Rattle.book_base.specs.Hexadecimal.{hex_of}
use Rattle.book_lines.specs.Lines.{is_comment, says_something}
use Rattle.book_lines.specs.Texts.{end_text}
use Rattle.book_keys.specs.declared.direction.Direction.{Direction}
use Rattle.book_keys.specs.declared.direction.Direction.TheVariants.{Receive, Send, Both, Disabled}
use Rattle.book_keys.specs.declared.new_row.NewRow.{NewRow}
use Rattle.book_link.specs.declared.event.Fixing.{Fixing}
use Rattle.book_link.specs.declared.event.Fixing.TheVariants.{Keep, Fix}
use Rattle.book_link.specs.declared.event.Event.{Event}
use Rattle.book_link.specs.declared.event.Event.TheVariants as event
use Rattle.book_link.specs.declared.event.Action.TheVariants as action
use Rattle.book_cmd_link.specs.declared.script.SharedKey.{SharedKey}
use Rattle.book_cmd_link.specs.declared.script.Script.{Script}
use Rattle.law_scripts.specs.Printed.{direction_text, event_words, fixing_text, flag_text, key_lines, row_texts, use_texts, script_lines, socket_words}
use Rattle.law_scripts.specs.Printed.{title_words}
use Rattle.law_scripts.specs.Scripts.{IsEvent, IsKey, IsRow, IsScript, IsSocket}
use Rattle.law_scripts.proofs.LinesBack.{IsLine, AreLines, AreLines-append}
use Rattle.law_scripts.proofs.PlainWords.{AreWords, IsWord, word_by_test, decimal_word, hex_word, address_word}
use Rattle.law_scripts.proofs.WordsBack.{one_byte}

pub first_holds : {X : Type 0} (P : X → Type 0) (x : X) (xs : List X) → All P (x ∷ xs) → P x
first_holds P x xs h = h zero x (omega arith)

pub rest_holds : {X : Type 0} (P : X → Type 0) (x : X) (xs : List X) → All P (x ∷ xs) → All P xs
rest_holds P x xs h = λ k d below. h (suc k) d (omega arith)

end_word : (e : End) → IsWord (end_text e)
end_word A = word_by_test (codes "a") (lit< tt) refl
end_word B = word_by_test (codes "b") (lit< tt) refl

fixing_word : (f : Fixing) → IsWord (fixing_text f)
fixing_word Keep = word_by_test (codes "keep") (lit< tt) refl
fixing_word Fix = word_by_test (codes "fix") (lit< tt) refl

flag_word : (b : Bool) → IsWord (flag_text b)
flag_word false = word_by_test (codes "no-options") (lit< tt) refl
flag_word true = word_by_test (codes "options") (lit< tt) refl

direction_word : (d : Direction) → IsWord (direction_text d)
direction_word Both = word_by_test (codes "both") (lit< tt) refl
direction_word Receive = word_by_test (codes "in") (lit< tt) refl
direction_word Send = word_by_test (codes "out") (lit< tt) refl
direction_word Disabled = word_by_test (codes "disabled") (lit< tt) refl

algorithm_word : (a : Algorithm) → IsWord (name_of a)
algorithm_word HmacSha1 = word_by_test (codes "HMAC-SHA-1-96") (lit< tt) refl
algorithm_word AesCmac = word_by_test (codes "AES-128-CMAC-96") (lit< tt) refl
algorithm_word HmacSha256 = word_by_test (codes "HMAC-SHA-256-128") (lit< tt) refl

byte_word : (b : ℕ) → b < 256 → IsWord (hex_of (b ∷ []))
byte_word b small = let bytes = one_byte b small in hex_word (b ∷ []) (lit< tt) bytes.small

-- a word that stands on a line and begins no comment
record IsName (name : List ℕ) : Type 0 where
  pub word : IsWord name
  pub no_comment : is_comment name ≡ false

-- a line of a name and more words
named_line : {name : List ℕ} → IsName name → (ws : List (List ℕ)) → AreWords ws → IsLine (name ∷ ws)
unfolding says_something
named_line n ws h = ((n.word, h), rw n.no_comment refl)

alone_line : {name : List ℕ} → IsName name → (e : End) → IsLine (name ∷ end_text e ∷ [])
alone_line n e = named_line n (end_text e ∷ []) (end_word e, tt)

number_line : {name : List ℕ} → IsName name → (e : End) (number : ℕ) → number < 2 ^ 64 → IsLine (name ∷ end_text e ∷ decimal number ∷ [])
number_line n e number small = named_line n (end_text e ∷ decimal number ∷ []) (end_word e, (decimal_word number small, tt))

bytes_line : {name : List ℕ} → IsName name → (e : End) (bytes : List ℕ) → IsWord (hex_of bytes) → IsLine (name ∷ end_text e ∷ hex_of bytes ∷ [])
bytes_line n e bytes word = named_line n (end_text e ∷ hex_of bytes ∷ []) (end_word e, (word, tt))

clock_name : IsName (codes "clock")
clock_name = record { word = word_by_test (codes "clock") (lit< tt) refl; no_comment = refl }

open_name : IsName (codes "open")
open_name = record { word = word_by_test (codes "open") (lit< tt) refl; no_comment = refl }

listen_name : IsName (codes "listen")
listen_name = record { word = word_by_test (codes "listen") (lit< tt) refl; no_comment = refl }

start_name : IsName (codes "start")
start_name = record { word = word_by_test (codes "start") (lit< tt) refl; no_comment = refl }

give_name : IsName (codes "give")
give_name = record { word = word_by_test (codes "give") (lit< tt) refl; no_comment = refl }

fill_name : IsName (codes "fill")
fill_name = record { word = word_by_test (codes "fill") (lit< tt) refl; no_comment = refl }

send_name : IsName (codes "send")
send_name = record { word = word_by_test (codes "send") (lit< tt) refl; no_comment = refl }

resend_name : IsName (codes "resend")
resend_name = record { word = word_by_test (codes "resend") (lit< tt) refl; no_comment = refl }

deliver_name : IsName (codes "deliver")
deliver_name = record { word = word_by_test (codes "deliver") (lit< tt) refl; no_comment = refl }

inject_name : IsName (codes "inject")
inject_name = record { word = word_by_test (codes "inject") (lit< tt) refl; no_comment = refl }

alter_name : IsName (codes "alter")
alter_name = record { word = word_by_test (codes "alter") (lit< tt) refl; no_comment = refl }

take_name : IsName (codes "take")
take_name = record { word = word_by_test (codes "take") (lit< tt) refl; no_comment = refl }

close_name : IsName (codes "close")
close_name = record { word = word_by_test (codes "close") (lit< tt) refl; no_comment = refl }

abort_name : IsName (codes "abort")
abort_name = record { word = word_by_test (codes "abort") (lit< tt) refl; no_comment = refl }

add_name : IsName (codes "add")
add_name = record { word = word_by_test (codes "add") (lit< tt) refl; no_comment = refl }

withdraw_name : IsName (codes "withdraw")
withdraw_name = record { word = word_by_test (codes "withdraw") (lit< tt) refl; no_comment = refl }

dump_name : IsName (codes "dump")
dump_name = record { word = word_by_test (codes "dump") (lit< tt) refl; no_comment = refl }

row_words : (r : NewRow) → IsRow r → AreWords (row_texts r)
unfolding row_texts use_texts
row_words r h =
    let recv_id : r.recv_id ≤ 255 = h.recv_id in
    let send_id : r.send_id ≤ 255 = h.send_id in
    let send_first : r.sending.first ≤ 253402300799 = h.sending.first in
    let send_last : r.sending.last ≤ 253402300799 = h.sending.last.most in
    let accept_first : r.accepting.first ≤ 253402300799 = h.accepting.first in
    let accept_last : r.accepting.last ≤ 253402300799 = h.accepting.last.most in
    let some : 1 ≤ length r.master = h.master.least in (
      decimal_word r.recv_id (omega arith),
      (
        decimal_word r.send_id (omega arith),
        (
          algorithm_word r.algorithm,
          (
            hex_word r.master (omega arith) h.master.small,
            (
              flag_word r.with_options,
              (
                direction_word r.direction,
                (
                  decimal_word r.sending.first (omega arith),
                  (decimal_word r.sending.last (omega arith), (decimal_word r.accepting.first (omega arith), (decimal_word r.accepting.last (omega arith), tt))),
                ),
              ),
            ),
          ),
        ),
      ),
    )

event_line : (e : Event) → IsEvent e → IsLine (event_words e)
unfolding event_words
event_line (event.At e (action.Clock seconds)) h = number_line clock_name e seconds (omega arith)
event_line (event.At e (action.Connect isn)) h = number_line open_name e isn (omega arith)
event_line (event.At e (action.Listen isn)) h = number_line listen_name e isn (omega arith)
event_line (event.At e (action.Start own peer)) h =
    named_line start_name (end_text e ∷ decimal own ∷ decimal peer ∷ [])
    (end_word e, (decimal_word own (omega (arith, h.0)), (decimal_word peer (omega (arith, h.1)), tt)))
event_line (event.At e (action.Give bytes)) h = bytes_line give_name e bytes (hex_word bytes h.0 h.1)
event_line (event.At e (action.Fill count byte)) h =
    named_line fill_name (end_text e ∷ decimal count ∷ hex_of (byte ∷ []) ∷ [])
    (end_word e, (decimal_word count (omega (arith, h.0)), (byte_word byte h.1, tt)))
event_line (event.At e action.Send) h = alone_line send_name e
event_line (event.At e action.Resend) h = alone_line resend_name e
event_line (event.At e (action.Deliver segment)) h = number_line deliver_name e segment (omega (arith, h.most))
event_line (event.At e (action.Inject bytes)) h = bytes_line inject_name e bytes (hex_word bytes (omega (arith, h.least)) h.small)
event_line (event.At e (action.Alter segment place mask fixing)) h =
    named_line alter_name (end_text e ∷ decimal segment ∷ decimal place ∷ hex_of (mask ∷ []) ∷ fixing_text fixing ∷ [])
    (end_word e, (decimal_word segment (omega (arith, h.0.most)), (decimal_word place (omega (arith, h.1)), (byte_word mask h.2, (fixing_word fixing, tt)))))
event_line (event.At e (action.Take count)) h = number_line take_name e count (omega arith)
event_line (event.At e action.Close) h = alone_line close_name e
event_line (event.At e action.Abort) h = alone_line abort_name e
event_line (event.At e (action.AddRow row)) h = named_line add_name (end_text e ∷ row_texts row) (end_word e, row_words row h)
event_line (event.At e (action.Withdraw row)) h = number_line withdraw_name e row (omega (arith, h.most))
event_line (event.Dump segment) h = named_line dump_name (decimal segment ∷ []) (decimal_word segment (omega (arith, h.most)), tt)

event_lines : (es : List Event) → All IsEvent es → AreLines (map event_words es)
event_lines [] h = tt
event_lines (e ∷ es) h = (event_line e (first_holds IsEvent e es h), event_lines es (rest_holds IsEvent e es h))

title_line : IsLine title_words
unfolding title_words says_something
title_line = ((word_by_test (codes "aotcp-link") (lit< tt) refl, (word_by_test (codes "1") (lit< tt) refl, tt)), refl)

socket_line : (e : End) (s : Socket) → IsSocket s → IsLine (socket_words (end_text e) s)
unfolding socket_words says_something
socket_line A s h = ((end_word A, (address_word s.address h.address, (decimal_word s.port (omega (arith, h.port)), tt))), refl)
socket_line B s h = ((end_word B, (address_word s.address h.address, (decimal_word s.port (omega (arith, h.port)), tt))), refl)

key_line : (key : Option SharedKey) → IsKey key → AreLines (key_lines key)
unfolding key_lines says_something
key_line None h = tt
key_line (Some k) h =
    let master = hex_word k.master (omega (arith, h.least)) h.small in
    (((word_by_test (codes "shared") (lit< tt) refl, (algorithm_word k.alg, (master, tt))), refl), tt)

pub are_lines : (s : Script) → IsScript s → AreLines (script_lines s)
unfolding script_lines
are_lines s h =
    let rest = AreLines-append (key_lines s.shared) (map event_words s.events) (key_line s.shared h.key) (event_lines s.events h.events) in
    (title_line, (socket_line A s.a h.a, (socket_line B s.b h.b, rest)))
