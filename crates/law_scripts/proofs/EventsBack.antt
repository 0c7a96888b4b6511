-- A printed event is read back from its words.
use Rattle.std.proofs.Common.{◌≡◌, ℕ, ◌≤◌, ◌^◌, ◌<◌, List, [], ◌∷◌, decimal, Ok, refl, arith, lit<}
use Rattle.book_base.specs.declared.end.End.{End}
use Rattle.book_base.specs.Algorithms.{name_of}
use Rattle.book_base.specs.Hexadecimal.{hex_of}
use Rattle.book_keys.specs.Lifetimes.{greatest_time}
use Rattle.book_lines.specs.Texts.{end_text}
use Rattle.book_lines.specs.Words.{word_in, nothing_in}
use Rattle.book_keys.specs.declared.new_row.NewRow.{NewRow}
use Rattle.book_link.specs.declared.event.Fixing.{Fixing}
use Rattle.book_link.specs.declared.event.Event.{Event}
use Rattle.book_link.specs.declared.event.Action.{Action}
use Rattle.book_link.specs.declared.event.Event.TheVariants as event
use Rattle.book_link.specs.declared.event.Action.TheVariants as action
use Rattle.book_cmd_link.specs.LinkEvents.{greatest_isn, most_segments, event_of_end, event_of_number, link_event_of, event_named, start_of, give_of, fill_of, inject_of}
use Rattle.book_cmd_link.specs.LinkEvents.{alter_of, add_of, dump_of}
use Rattle.law_scripts.specs.Printed.{direction_text, event_words, fixing_text, flag_text, row_texts, use_texts}
use Rattle.law_scripts.specs.Scripts.{IsEvent, IsRow, IsWithin}
use Rattle.law_scripts.proofs.WordsBack.{end_back, algorithm_back, number_back, within_back, hex_back, some_hex_back, byte_back, fixing_back, flag_back}
use Rattle.law_scripts.proofs.WordsBack.{direction_back}

alone_back : (made : Action) (e : End) → event_of_end made (end_text e ∷ []) ≡ Ok (event.At e made)
unfolding nothing_in
alone_back made e = rw (end_back e []) refl

numbered_back : (made : ℕ → Action) (low high : ℕ) (e : End) (n : ℕ) → IsWithin low high n → high < 2 ^ 64 →
    event_of_number made low high (end_text e ∷ decimal n ∷ []) ≡ Ok (event.At e (made n))
unfolding nothing_in
numbered_back made low high e n h small = rw (end_back e (decimal n ∷ []), within_back low high n [] h small) refl

from_zero : {n high : ℕ} → n ≤ high → IsWithin 0 high n
from_zero h = record { least = omega arith; most = h }

start_back : (e : End) (own peer : ℕ) → own ≤ greatest_isn → peer ≤ greatest_isn →
    start_of (end_text e ∷ decimal own ∷ decimal peer ∷ []) ≡ Ok (event.At e (action.Start own peer))
unfolding start_of nothing_in
start_back e own peer small peers = rw (
  end_back e (decimal own ∷ decimal peer ∷ []),
  number_back greatest_isn own (decimal peer ∷ []) small (lit< tt),
  number_back greatest_isn peer [] peers (lit< tt),
) refl

fill_back : (e : End) (count byte : ℕ) → count ≤ 65535 → byte < 256 →
    fill_of (end_text e ∷ decimal count ∷ hex_of (byte ∷ []) ∷ []) ≡ Ok (event.At e (action.Fill count byte))
unfolding fill_of nothing_in
fill_back e count byte few small = rw (
  end_back e (decimal count ∷ hex_of (byte ∷ []) ∷ []),
  number_back 65535 count (hex_of (byte ∷ []) ∷ []) few (lit< tt),
  byte_back byte [] small,
) refl

alter_back : (e : End) (segment place mask : ℕ) (fixing : Fixing) → IsWithin 1 most_segments segment → place ≤ 65535 → mask < 256 →
    alter_of (end_text e ∷ decimal segment ∷ decimal place ∷ hex_of (mask ∷ []) ∷ fixing_text fixing ∷ []) ≡ Ok (event.At e (action.Alter segment place mask fixing))
unfolding alter_of nothing_in
alter_back e segment place mask fixing made near small = rw (
  end_back e (decimal segment ∷ decimal place ∷ hex_of (mask ∷ []) ∷ fixing_text fixing ∷ []),
  within_back 1 most_segments segment (decimal place ∷ hex_of (mask ∷ []) ∷ fixing_text fixing ∷ []) made (lit< tt),
  number_back 65535 place (hex_of (mask ∷ []) ∷ fixing_text fixing ∷ []) near (lit< tt),
  byte_back mask (fixing_text fixing ∷ []) small,
  fixing_back fixing [],
) refl

-- the words of a row from its Direction on
abbrev late_texts : NewRow → List (List ℕ)
late_texts r = direction_text r.direction ∷ decimal r.sending.first ∷ decimal r.sending.last ∷ decimal r.accepting.first ∷ decimal r.accepting.last ∷ []

add_back : (e : End) (r : NewRow) → IsRow r → add_of (end_text e ∷ row_texts r) ≡ Ok (event.At e (action.AddRow r))
unfolding add_of row_texts use_texts nothing_in
add_back e r h = rw (
  end_back e (decimal r.recv_id ∷ decimal r.send_id ∷ name_of r.algorithm ∷ hex_of r.master ∷ flag_text r.with_options ∷ late_texts r),
  number_back 255 r.recv_id (decimal r.send_id ∷ name_of r.algorithm ∷ hex_of r.master ∷ flag_text r.with_options ∷ late_texts r) h.recv_id (lit< tt),
  number_back 255 r.send_id (name_of r.algorithm ∷ hex_of r.master ∷ flag_text r.with_options ∷ late_texts r) h.send_id (lit< tt),
  algorithm_back r.algorithm (hex_of r.master ∷ flag_text r.with_options ∷ late_texts r),
  hex_back 1 255 r.master (flag_text r.with_options ∷ late_texts r) h.master,
  flag_back r.with_options (late_texts r),
  direction_back r.direction (decimal r.sending.first ∷ decimal r.sending.last ∷ decimal r.accepting.first ∷ decimal r.accepting.last ∷ []),
  number_back greatest_time r.sending.first (decimal r.sending.last ∷ decimal r.accepting.first ∷ decimal r.accepting.last ∷ []) h.sending.first (lit< tt),
  within_back r.sending.first greatest_time r.sending.last (decimal r.accepting.first ∷ decimal r.accepting.last ∷ []) h.sending.last (lit< tt),
  number_back greatest_time r.accepting.first (decimal r.accepting.last ∷ []) h.accepting.first (lit< tt),
  within_back r.accepting.first greatest_time r.accepting.last [] h.accepting.last (lit< tt),
) refl

pub event_back : (e : Event) → IsEvent e → link_event_of (event_words e) ≡ Ok e
unfolding link_event_of event_named word_in nothing_in event_words give_of inject_of dump_of
event_back (event.At e (action.Clock seconds)) h = numbered_back action.Clock 0 greatest_time e seconds (from_zero h) (lit< tt)
event_back (event.At e (action.Connect isn)) h = numbered_back action.Connect 0 greatest_isn e isn (from_zero h) (lit< tt)
event_back (event.At e (action.Listen isn)) h = numbered_back action.Listen 0 greatest_isn e isn (from_zero h) (lit< tt)
event_back (event.At e (action.Start own peer)) h = start_back e own peer h.0 h.1
event_back (event.At e (action.Give bytes)) h = rw (end_back e (hex_of bytes ∷ []), some_hex_back bytes [] h.0 h.1) refl
event_back (event.At e (action.Fill count byte)) h = fill_back e count byte h.0 h.1
event_back (event.At e action.Send) h = alone_back action.Send e
event_back (event.At e action.Resend) h = alone_back action.Resend e
event_back (event.At e (action.Deliver segment)) h = numbered_back action.Deliver 1 most_segments e segment h (lit< tt)
event_back (event.At e (action.Inject bytes)) h = rw (end_back e (hex_of bytes ∷ []), hex_back 1 65575 bytes [] h) refl
event_back (event.At e (action.Alter segment place mask fixing)) h = alter_back e segment place mask fixing h.0 h.1 h.2
event_back (event.At e (action.Take count)) h = numbered_back action.Take 0 65535 e count (from_zero h) (lit< tt)
event_back (event.At e action.Close) h = alone_back action.Close e
event_back (event.At e action.Abort) h = alone_back action.Abort e
event_back (event.At e (action.AddRow row)) h = add_back e row h
event_back (event.At e (action.Withdraw row)) h = numbered_back action.Withdraw 1 64 e row h (lit< tt)
event_back (event.Dump segment) h = rw (within_back 1 most_segments segment [] h (lit< tt)) refl
