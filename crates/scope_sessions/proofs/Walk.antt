-- The packets that were heard, and what is counted and told of them.
use Rattle.std.proofs.Common.{◌≡◌, ℕ, ◌+◌, ◌/◌, ◌<◌, List, [], ◌∷◌, ◌++◌, length, take, Option, Some, None, Result, Ok, Err, IfSome, inl, refl, sym, ap, ◌∙◌, append_assoc, arith, option_map}
use Rattle.std.proofs.Math.Seq.{take-append-add}
use Rattle.std.proofs.lemmas.List.{append-nil, length-append}
use Rattle.toml.specs.Data.{Members}
use Rattle.ao_base.specs.Outside.{Side, Rose, WasWritten}
use Rattle.ao_base.proofs.Sides.{gave_none, rose_after, took_more, took_none}
use Rattle.book_captures.specs.declared.capture_parts.CaptureFault.{CaptureFault}
use Rattle.book_captures.specs.Captures.{CapturePacket}
use Rattle.book_keys.specs.Rows.{Table}
use Rattle.book_sessions.specs.Laps.{Judging}
use Rattle.book_sessions.specs.Listening.{listening_behind}
use Rattle.book_sessions.specs.Sessions.{SessionTable, no_sessions, sessions_from, sessions_of}
use Rattle.page_sessions_json.specs.declared.form.TableRequest.{TableRequest}
use Rattle.page_sessions_json.specs.TableSeries.{Series, counted_since, due_table, due_text, due_texts, early_text, second_seen}
use Rattle.capture_listener.specs.Listeners.{Hearing, Knows}
use Rattle.capture_walk.specs.Reads.{Reading, new_reading}
use Rattle.capture_walk.specs.declared.hearer.HearHalt.{HearHalt}
use Rattle.capture_walk.specs.declared.hearer.HearHalt.TheVariants as hear_halt
use Rattle.capture_walk.specs.declared.walking.WalkEnd.{WalkEnd}
use Rattle.capture_walk.specs.declared.walking.WalkEnd.TheVariants as end
use Rattle.capture_walk.specs.declared.walking.WalkHalt.{WalkHalt}
use Rattle.capture_walk.specs.declared.walking.WalkHalt.TheVariants as walk_halt
use Rattle.capture_walk.specs.Hearing.{Adds, Hears}
use Rattle.capture_walk.specs.Walks.{Walks}
use Rattle.capture_walk.proofs.Showing.{read_now, shown_none}
use Rattle.capture_walk.proofs.Taken.{all_none}
use Rattle.scope_sessions.specs.Counting.{CountsPacket, StandsAfter}
use Rattle.scope_keys.specs.KeyFiles.{keys_at}
use Rattle.scope_sessions.specs.Reading.{Counts, counted_with, fault_behind}
use Rattle.scope_sessions.specs.Texts.{BreaksText, WritesText}

-- a front part of one text more was written
breaks_once : (front text : List ℕ) (n : ℕ) (o r : Side) → n < length text → WasWritten (front ++ take n text) o r → Rose o r → BreaksText front (front ++ text) o r
breaks_once front text n o r low wrote rose =
    let size = length-append front text in
    record {
      n = length front + n;
      at_least = omega arith;
      not_all = omega arith;
      wrote = rw (take-append-add front text n) wrote;
      rose = rose;
    }

-- a text breaks behind another one
pub breaks_more : (front text : List ℕ) (o q r : Side) → WasWritten front o q → BreaksText [] text q r → BreaksText front (front ++ text) o r
breaks_more front text o q r wrote b =
    breaks_once front text b.n o r b.not_all (took_more front (take b.n text) o q r wrote b.wrote) (rose_after (length front) o q r wrote.counts b.rose)

-- nothing is told of no packets
pub early_none : (s : Series) → early_text s [] ≡ []
unfolding early_text
early_none s = refl

-- memory ran out before the first part
pub ends_none : (s : Series) (source out : Side) → Counts s [] source source out out (Err walk_halt.Memory)
ends_none s source out = record {
  gave = gave_none source;
  bytes = all_none;
  ends = record { read = []; later = []; one = omega arith; has_read = read_now new_reading [] [] shown_none; wrote = rw (early_none s) (took_none out) };
}

-- no packet was counted
pub stands_first : (s : Series) (listener : Hearing) (table : SessionTable) → listener.judging ≡ s.judging → Knows listener (listening_behind s.given) → table ≡ no_sessions → StandsAfter s s.document s.request listener table None []
unfolding early_text
stands_first s listener table same knows none = rw none (record {
  document_is = refl;
  request_is = refl;
  judging_is = same;
  known = listening_behind s.given;
  knows = knows;
  counts = λ others. refl;
  tells = λ others. refl;
})

module _ (s : Series) (document : Members) (request : TableRequest) (listener : Hearing) (table : SessionTable) (since : Option ℕ) (before : List CapturePacket) (stood : StandsAfter s document request listener table since before) where
  -- what is counted is the table of the packets
  table_is : table ≡ sessions_of s.judging s.given before
  unfolding sessions_of
  table_is = sym (ap (sessions_from s.judging (listening_behind s.given) no_sessions) (sym (append-nil before)) ∙ stood.counts [])

  -- what is told of a packet is the table that is due in front of it
  early_more : (p : CapturePacket) → early_text s (before ++ p ∷ []) ≡ early_text s before ++ due_text s before since (second_seen p)
  early_more p = stood.tells (p ∷ []) ∙ ap (λ (x : List ℕ). early_text s before ++ x) (append-nil (due_text s before since (second_seen p)))

  -- and what is told of those that follow
  tells_more : (p : CapturePacket) (others : List CapturePacket) → early_text s ((before ++ p ∷ []) ++ others) ≡ early_text s (before ++ p ∷ []) ++ due_texts s (before ++ p ∷ []) (counted_since s.request.every since (second_seen p)) others
  tells_more p others =
      let due = due_text s before since (second_seen p) in
      let later = due_texts s (before ++ p ∷ []) (counted_since s.request.every since (second_seen p)) others in
      ap (early_text s) (append_assoc before (p ∷ []) others)
      ∙ (stood.tells (p ∷ others)
      ∙ (sym (append_assoc (early_text s before) due later)
      ∙ ap (λ (x : List ℕ). x ++ later) (sym (early_more p))))

  -- the packet that is shown, and what is due in front of it
  module _ (packet : Option CapturePacket) (p : CapturePacket) (time now : Option ℕ) (tables : List Table) (is : packet ≡ Some p) (time_is : IfSome packet (λ p. time ≡ p.frame.time)) (now_is : now ≡ option_map (λ nanoseconds. nanoseconds / 1000000000) time) (tables_are : tables ≡ listener.judging.tables) where
    abbrev due : List ℕ
    due = due_table request (keys_at document tables) table since now

    seen_now : now ≡ second_seen p
    seen_now =
        let here : time ≡ p.frame.time = rw is at time_is in
        now_is ∙ ap (λ (t : Option ℕ). option_map (λ nanoseconds. nanoseconds / 1000000000) t) here

    due_is : due ≡ due_text s before since (second_seen p)
    due_is = rw (stood.request_is, stood.document_is, tables_are, stood.judging_is, table_is, seen_now) refl

    due_told : early_text s (before ++ p ∷ []) ≡ early_text s before ++ due
    due_told = early_more p ∙ ap (λ (x : List ℕ). early_text s before ++ x) (sym due_is)

    -- a part of it was written, or nothing
    pub hears_halt : (o q : Side) (why : HearHalt) → WritesText due o q (Err why) → Hears (early_text s) (λ packets. StandsAfter s document request listener table since packets) (λ packets last. ⊥) before p o q (Err why)
    hears_halt o q hear_halt.Write breaks = record { text = due; adds = due_told; n = breaks.n; not_all = breaks.not_all; wrote = breaks.wrote; rose = breaks.rose }
    hears_halt o q hear_halt.Memory none = inl none

    -- it was written
    pub adds_due : (o q : Side) → WasWritten due o q → Adds (early_text s) before p o q
    adds_due o q wrote = record { text = due; adds = due_told; wrote = wrote }

    -- and the packet counted
    pub stands_more : (listener_now : Hearing) (table_now : SessionTable) (since_now : Option ℕ) → since_now ≡ counted_since request.every since now → listener_now.judging ≡ listener.judging → CountsPacket listener.judging stood.known listener_now table table_now p
        → StandsAfter s document request listener_now table_now since_now (before ++ p ∷ [])
    stands_more listener_now table_now since_now since_is same counted =
        let one : CountsPacket s.judging stood.known listener_now table table_now p = rw stood.judging_is at counted in
        let after : since_now ≡ counted_since s.request.every since (second_seen p) = since_is ∙ rw (stood.request_is, seen_now) refl in
        record {
          document_is = stood.document_is;
          request_is = stood.request_is;
          judging_is = same ∙ stood.judging_is;
          known = one.known;
          knows = one.knows;
          counts = λ others. ap (sessions_from s.judging (listening_behind s.given) no_sessions) (append_assoc before (p ∷ []) others)
              ∙ (stood.counts (p ∷ others) ∙ one.counts (λ known later. sessions_from s.judging known later others));
          tells = λ others. rw after (tells_more p others);
        }

-- what was counted of a capture that was heard
counts_of : (s : Series) (document : Members) (request : TableRequest) (listener : Hearing) (table : SessionTable) (since : Option ℕ) (reader : Reading) (given : List ℕ) (a c o q : Side) (result : Result WalkEnd WalkHalt)
    → Walks (early_text s) (λ packets. StandsAfter s document request listener table since packets) (λ packets last. ⊥) reader given a c o q result → Counts s given a c o q (counted_with listener table (fault_behind result))
counts_of s document request listener table since reader given a c o q (Ok end.End) w = record {
  gave = w.gave;
  bytes = w.bytes;
  ends = (
    record {
      tables_are = ap (λ (j : Judging). j.tables) w.ends.heard.judging_is;
      table_is = table_is s document request listener table since _ w.ends.heard;
      fault_is = sym w.ends.faultless;
      whole = w.ends.at_end;
      has_read = w.ends.has_read;
    },
    w.ends.wrote,
  );
}
counts_of s document request listener table since reader given a c o q (Ok end.Done) w = absurd w.ends.here
counts_of s document request listener table since reader given a c o q (Err (walk_halt.Broken fault)) w = record {
  gave = w.gave;
  bytes = w.bytes;
  ends = (
    record {
      tables_are = ap (λ (j : Judging). j.tables) w.ends.heard.judging_is;
      table_is = table_is s document request listener table since _ w.ends.heard;
      fault_is = sym w.ends.fault_is;
      whole = w.ends.all;
      has_read = w.ends.has_read;
    },
    w.ends.wrote,
  );
}
counts_of s document request listener table since reader given a c o q (Err walk_halt.TooLong) w = record { gave = w.gave; bytes = w.bytes; ends = (w.ends.0, record { read = w.ends.1.read; has_read = w.ends.1.has_read; wrote = w.ends.1.wrote }) }
counts_of s document request listener table since reader given a c o q (Err walk_halt.Read) w = record { gave = w.gave; bytes = w.bytes; ends = (w.ends.0, record { read = w.ends.1.read; has_read = w.ends.1.has_read; wrote = w.ends.1.wrote }) }
counts_of s document request listener table since reader given a c o q (Err walk_halt.Memory) w = record { gave = w.gave; bytes = w.bytes; ends = record { read = w.ends.read; later = w.ends.later; one = w.ends.one; has_read = w.ends.has_read; wrote = w.ends.wrote } }
counts_of s document request listener table since reader given a c o q (Err walk_halt.Write) w = record {
  gave = w.gave;
  bytes = w.bytes;
  ends = record {
    read = w.ends.read;
    last = w.ends.last;
    has_read = w.ends.has_read;
    breaks = rw w.ends.adds (breaks_once (early_text s w.ends.read) w.ends.text w.ends.n o q w.ends.not_all w.ends.wrote w.ends.rose);
  };
}

-- the same, where that is how it ended
pub counts_ended : (s : Series) (document : Members) (request : TableRequest) (listener : Hearing) (table : SessionTable) (since : Option ℕ) (reader : Reading) (given : List ℕ) (a c o q : Side) (result : Result WalkEnd WalkHalt) (ended : Result (Option CaptureFault) WalkHalt)
    → ended ≡ fault_behind result → Walks (early_text s) (λ packets. StandsAfter s document request listener table since packets) (λ packets last. ⊥) reader given a c o q result → Counts s given a c o q (counted_with listener table ended)
counts_ended s document request listener table since reader given a c o q result ended is w = rw is (counts_of s document request listener table since reader given a c o q result w)
