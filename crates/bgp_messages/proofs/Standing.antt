-- A reader stands for the bytes that it got.
use Rattle.std.proofs.Common.{◌≡◌, ℕ, ◌+◌, min, true, List, [], ◌∷◌, ◌++◌, length, take, drop, Option, Some, None, refl, sym, ap, ◌∙◌, append_assoc, arith}
use Rattle.std.proofs.lemmas.List.{length-drop, length-take, take-take, take-append-drop}
use Rattle.book_bgp.specs.declared.bgp_fault.BgpFault.{BgpFault}
use Rattle.book_base.specs.Fronts.{Front, Ends, Faulted, Leads}
use Rattle.book_bgp.specs.Messages.{Message, message_front, message_length, messages, place_of, behind, fault_in}
use Rattle.book_bgp.proofs.Fronts.{front_short, front_faulty, faulty}
use Rattle.book_bgp.proofs.Streams.{none_before, none_after, one_before, place_none, behind_none, place_before, behind_before, messages_append, place_append, behind_append, leading_alone, fault_of, fault_behind, fault_same}
use Rattle.bgp_messages.specs.declared.reader.Found.TheVariants as found
use Rattle.bgp_messages.specs.declared.reader.Fed.{Fed}
use Rattle.bgp_messages.specs.declared.reader.State.{State}
use Rattle.bgp_messages.specs.declared.reader.State.TheVariants as state
use Rattle.bgp_messages.specs.Readers.{Reading, new_reading, greatest_place, StandsFor, Reads, Gathers, message_in, seen, is_unfinished, is_kept}

-- a stream in which no message begins
record IsBare (bytes : List ℕ) (fault : Option BgpFault) : Type 0 where
  none : messages bytes ≡ []
  place : place_of bytes ≡ 0
  kept : behind bytes ≡ bytes
  ends : fault_in bytes ≡ fault

bare : (bytes : List ℕ) (f : Front Message BgpFault) → message_front bytes ≡ f → messages bytes ≡ [] → IsBare bytes (fault_of f)
bare bytes f is none =
    let kept = behind_none bytes none in
    record { none = none; place = place_none bytes none; kept = kept; ends = fault_behind bytes ∙ rw (kept, is) refl }

-- a new reader stands for no byte
pub new_stands : StandsFor new_reading []
new_stands =
    let b = bare [] Ends (front_short [] (omega arith)) (none_before [] (front_short [] (omega arith))) in
    record { place = rw b.place refl; unfinished = rw (b.ends, b.kept) refl; fault = sym b.ends }

-- a reader without a fault stands for bytes, of which it keeps those behind the messages
record IsOpen (bytes before : List ℕ) : Type 0 where
  sound : fault_in bytes ≡ None
  kept : behind bytes ≡ before

open_for : (r : Reading) (bytes : List ℕ) → StandsFor r bytes → r.fault ≡ None → IsOpen bytes r.unfinished
open_for r bytes stands none =
    let sound : fault_in bytes ≡ None = sym stands.fault ∙ none in
    record { sound = sound; kept = sym (rw sound at stands.unfinished) }

open_front : (f : Front Message BgpFault) → is_unfinished f ≡ true → f ≡ Ends
open_front Ends is = refl
open_front (Faulted fault) is = absurd (cc)
open_front (Leads m rest) is = absurd (cc)

-- a reader in the midst of a message, by what it gathered and its place
pub record IsWithin (r : Reading) (gathered : List ℕ) (place : ℕ) : Type 0 where
  pub sound : r.fault ≡ None
  pub kept : r.unfinished ≡ gathered
  pub place_is : r.place ≡ place
  pub front_is : message_front gathered ≡ Ends

pub within_of : (r : Reading) (s : State) (gathered : List ℕ) (place : ℕ) → seen s gathered place ≡ r → is_kept s gathered ≡ true → r.message ≡ None → r.fault ≡ None → IsWithin r gathered place
within_of r state.Unfinished gathered place is kept message fault =
    record { sound = fault; kept = sym (ap (λ (x : Reading). x.unfinished) is); place_is = sym (ap (λ (x : Reading). x.place) is); front_is = open_front (message_front gathered) kept }
within_of r state.Whole gathered place is kept message fault = let both = ap (λ (x : Reading). x.message) is ∙ message in absurd (cc)
within_of r (state.Faulty found) gathered place is kept message fault = let both = ap (λ (x : Reading). x.fault) is ∙ fault in absurd (cc)

-- a stream by what follows its messages with the further bytes
record IsJoined (bytes more now : List ℕ) : Type 0 where
  list : messages (bytes ++ more) ≡ messages bytes ++ messages now
  place : place_of (bytes ++ more) ≡ place_of bytes + place_of now
  kept : behind (bytes ++ more) ≡ behind now

joined : (r : Reading) (bytes gathered more now : List ℕ) (place : ℕ) → StandsFor r bytes → IsWithin r gathered place → now ≡ gathered ++ more → IsJoined bytes more now
joined r bytes gathered more now place stands within is =
    let o = open_for r bytes stands within.sound in
    let same : behind bytes ++ more ≡ now = rw (o.kept, within.kept, is) refl in
    record {
      list = messages_append bytes more ∙ rw same refl;
      place = place_append bytes more ∙ rw same refl;
      kept = behind_append bytes more ∙ rw same refl;
    }

-- bytes that complete nothing
pub reads_more : (r : Reading) (bytes gathered piece now : List ℕ) (place : ℕ) (fed : Fed) → StandsFor r bytes → IsWithin r gathered place → Gathers gathered piece now fed → fed.found ≡ found.More →
    Reads bytes (take fed.used piece) (record { unfinished = now; message = None; place = place; fault = None })
reads_more r bytes gathered piece now place fed stands within g found_is =
    let used = fed.used in
    let by = rw found_is at g.by in
    let j = joined r bytes gathered (take used piece) now place stands within g.taken in
    let same = within.place_is in
    let here : message_front now ≡ Ends = rw by.2 by.0 in
    let b = bare now Ends here (none_before now here) in
    let ends : fault_in (bytes ++ take used piece) ≡ None = fault_same (bytes ++ take used piece) now j.kept ∙ b.ends in
    let place_is = stands.place in let place_now = b.place in let place_sum = j.place in
    record {
      stands = record { place = omega arith; unfinished = rw (ends, j.kept, b.kept) refl; fault = sym ends };
      messages_more = j.list ∙ rw b.none refl;
    }

-- bytes that end a faulty header
pub reads_fault : (r : Reading) (bytes gathered piece now : List ℕ) (place : ℕ) (fed : Fed) (fault : BgpFault) → StandsFor r bytes → IsWithin r gathered place → Gathers gathered piece now fed → fed.found ≡ found.Fault fault →
    Reads bytes (take fed.used piece) (record { unfinished = now; message = None; place = place; fault = Some fault })
reads_fault r bytes gathered piece now place fed fault stands within g found_is =
    let used = fed.used in
    let by = rw found_is at g.by in
    let j = joined r bytes gathered (take used piece) now place stands within g.taken in
    let same = within.place_is in
    let f = faulty (gathered ++ piece) fault by.0 in
    let exact : take 19 now ≡ now = rw by.2 (take-take 19 19 (gathered ++ piece) (omega arith)) in
    let size : length now ≡ min 19 (length (gathered ++ piece)) = rw by.2 (length-take 19 (gathered ++ piece)) in
    let enough = f.enough in
    let here : message_front now ≡ Faulted fault = front_faulty now fault (omega arith) (rw exact (rw by.2 f.bad)) in
    let b = bare now (Faulted fault) here (none_after now fault here) in
    let ends : fault_in (bytes ++ take used piece) ≡ Some fault = fault_same (bytes ++ take used piece) now j.kept ∙ b.ends in
    let place_is = stands.place in let place_now = b.place in let place_sum = j.place in
    record {
      stands = record { place = omega arith; unfinished = rw (ends, j.kept, b.kept, exact) refl; fault = sym ends };
      messages_more = j.list ∙ rw b.none refl;
    }

-- bytes that end a message
pub reads_message : (r : Reading) (bytes gathered piece now : List ℕ) (place later : ℕ) (fed : Fed) → StandsFor r bytes → IsWithin r gathered place → Gathers gathered piece now fed → fed.found ≡ found.Message →
    later ≡ min (place + length now) greatest_place →
    Reads bytes (take fed.used piece) (record { unfinished = []; message = Some (message_in now); place = later; fault = None })
reads_message r bytes gathered piece now place later fed stands within g found_is later_is =
    let used = fed.used in
    let by = rw found_is at g.by in
    let j = joined r bytes gathered (take used piece) now place stands within g.taken in
    let same = within.place_is in
    let tail = drop used piece in
    let all : gathered ++ piece ≡ now ++ tail = rw g.taken (ap (λ xs. gathered ++ xs) (sym (take-append-drop used piece)) ∙ sym (append_assoc gathered (take used piece) tail)) in
    let rest_size = length-drop 19 now in
    let enough = by.3 in
    let len : message_length (message_in now) ≡ length now = omega arith in
    let here : message_front now ≡ Leads (message_in now) [] = leading_alone now tail (message_in now) by.0 (rw all at by.1) len in
    let b = bare [] Ends (front_short [] (omega arith)) (none_before [] (front_short [] (omega arith))) in
    let kept : behind (bytes ++ take used piece) ≡ [] = j.kept ∙ (behind_before now (message_in now) [] here ∙ b.kept) in
    let ends : fault_in (bytes ++ take used piece) ≡ None = fault_behind (bytes ++ take used piece) ∙ rw kept (ap fault_of (front_short [] (omega arith))) in
    let one : messages now ≡ message_in now ∷ [] = one_before now (message_in now) [] here ∙ rw b.none refl in
    let place_now = place_before now (message_in now) [] here in
    let place_is = stands.place in let place_none = b.place in let place_sum = j.place in
    record {
      stands = record { place = omega arith; unfinished = rw (ends, kept) refl; fault = sym ends };
      messages_more = j.list ∙ rw one refl;
    }
