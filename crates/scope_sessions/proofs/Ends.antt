-- What was counted and what was written of it.
use Rattle.std.proofs.Common.{◌≡◌, ℕ, ◌≤◌, List, [], ◌++◌, length, Option, Some, None, Result, Ok, Err, inl, inr, refl, sym, ap, ◌∙◌, arith}
use Rattle.std.proofs.lemmas.List.{append-nil}
use Rattle.ao_base.specs.Outside.{Side, WasWritten}
use Rattle.ao_base.proofs.Sides.{took_and_none, took_more}
use Rattle.book_captures.specs.declared.capture_parts.CaptureFault.{CaptureFault}
use Rattle.book_captures.specs.Captures.{capture_of}
use Rattle.page_sessions_json.specs.TableSeries.{Series, early_text, last_text, series_keys, series_text}
use Rattle.scope_keys.specs.KeyFiles.{keys_at}
use Rattle.capture_walk.specs.declared.walking.WalkHalt.{WalkHalt}
use Rattle.capture_walk.specs.declared.walking.WalkHalt.TheVariants as halt
use Rattle.scope_sessions.specs.declared.count.Counted.{Counted}
use Rattle.scope_sessions.specs.Reading.{Counts, HasCounted}
use Rattle.scope_sessions.specs.Writing.{Ends, Report, Writes, WritesCounted, table_in}
use Rattle.scope_sessions.proofs.Walk.{breaks_more}

module _ {A : Type 0} (r : Report A) (s : Series) (given : List ℕ) (a c o p q : Side) (counted : Counted) (has : HasCounted s given c counted) (before : WasWritten (early_text s (capture_of given).packets) o p) where
  text_is : r.text (keys_at s.document counted.listener.judging.tables) counted.index ≡ last_text r.text s (capture_of given).packets
  text_is = ap (λ ts. r.text (keys_at s.document ts) counted.index) has.tables_are ∙ ap (r.text (series_keys s)) has.table_is

  same_answer : r.answer (keys_at s.document counted.listener.judging.tables) counted.index ≡ r.answer (series_keys s) (table_in s.judging s.given given)
  same_answer = ap (λ ts. r.answer (keys_at s.document ts) counted.index) has.tables_are ∙ ap (r.answer (series_keys s)) has.table_is

  all_written : WasWritten (r.text (keys_at s.document counted.listener.judging.tables) counted.index) p q → WasWritten (series_text r.text s (capture_of given).packets) o q
  all_written wrote = took_more (early_text s (capture_of given).packets) (last_text r.text s (capture_of given).packets) o p q before (rw text_is at wrote)

  ends_written : (result : Result A WalkHalt) → WritesCounted r s.document counted p q result → Ends r s given a c o q result
  ends_written (Ok answer) wrote = record {
    is_at_end = rw (wrote.0) at has.whole;
    faultless = sym has.fault_is ∙ wrote.0;
    answer_is = wrote.1 ∙ same_answer;
    wrote = all_written (wrote.2);
  }
  ends_written (Err (halt.Broken fault)) wrote = record {
    has_read = has.has_read;
    fault_is = sym has.fault_is ∙ wrote.0;
    all = rw (wrote.0) at has.whole;
    wrote = all_written (wrote.1);
  }
  ends_written (Err halt.TooLong) wrote = absurd wrote
  ends_written (Err halt.Read) wrote = absurd wrote
  ends_written (Err halt.Write) wrote = inr (record {
    whole = rw has.fault_is at has.whole;
    breaks = breaks_more (early_text s (capture_of given).packets) (last_text r.text s (capture_of given).packets) o p q before (rw text_is at wrote);
  })
  ends_written (Err halt.Memory) wrote = record {
    read = (capture_of given).packets;
    later = [];
    one = omega arith;
    has_read = rw (append-nil (capture_of given).packets) has.has_read;
    wrote = took_and_none (early_text s (capture_of given).packets) o p q before wrote;
  }

-- what was counted was written, or not
pub writes_counted : {A : Type 0} (r : Report A) (s : Series) (given : List ℕ) (a c o p q : Side) (counted : Counted) (result : Result A WalkHalt) → Counts s given a c o p (Ok counted) → WritesCounted r s.document counted p q result → Writes r s given a c o q result
writes_counted r s given a c o p q counted result counts wrote = record {
  gave = counts.gave;
  bytes = counts.bytes;
  ends = ends_written r s given a c o p q counted counts.ends.0 counts.ends.1 result wrote;
}

-- not all was counted
pub writes_halted : {A : Type 0} (r : Report A) (s : Series) (given : List ℕ) (a c o q : Side) (why : WalkHalt) → Counts s given a c o q (Err why) → Writes r s given a c o q (Err why)
writes_halted r s given a c o q (halt.Broken fault) counts = absurd counts.ends
writes_halted r s given a c o q halt.TooLong counts = record { gave = counts.gave; bytes = counts.bytes; ends = counts.ends }
writes_halted r s given a c o q halt.Read counts = record { gave = counts.gave; bytes = counts.bytes; ends = counts.ends }
writes_halted r s given a c o q halt.Write counts = record { gave = counts.gave; bytes = counts.bytes; ends = inl counts.ends }
writes_halted r s given a c o q halt.Memory counts = record { gave = counts.gave; bytes = counts.bytes; ends = counts.ends }
