-- The lines that are gathered.
use Rattle.std.proofs.Common.{◌≡◌, inl, inr, ◌⊎◌, ℕ, ◌+◌, ◌<◌, ◌≤◌, List, [], ◌∷◌, ◌++◌, length, take, None, refl, sym, ap, ◌∙◌, append_assoc, arith}
use Rattle.std.proofs.lemmas.Bool.{cases_lt}
use Rattle.std.proofs.lemmas.List.{append-nil, length-append, take-append-le}
use Rattle.std.proofs.Math.Seq.{take-append-add}
use Rattle.ao_base.specs.Outside.{Side, WasWritten}
use Rattle.ao_base.proofs.Sides.{rose_after, took_more, took_none}
use Rattle.book_keys.specs.Rows.{Table}
use Rattle.book_pcap.specs.Packets.{Packet, packets_of}
use Rattle.book_cmd_check.specs.Captures.{capture_run}
use Rattle.pcap_file.specs.Reads.{and_packet}
use Rattle.cmd_check.specs.CheckedPackets.{Breaks, HasRead, Wait, written_of}
use Rattle.cmd_check.specs.Gatherings.{BreaksLines, Written}

-- a write that fails at this place of all that is written ends within the line of a packet that was read, of whose record and of what was taken past it this is known
pub record Place (tables : List Table) (given : List ℕ) (shown : List Packet) (n : ℕ) : Type 0 where
  pub read : List Packet
  pub last : Packet
  pub has_read : HasRead given (read ++ last ∷ [])
  pub alone : packets_of has_read.front ≡ record { list = read ++ last ∷ []; fault = None }
  pub least : (k : ℕ) → k < length has_read.front → length (packets_of (take k has_read.front)).list ≤ length read
  pub near : length has_read.rest ≤ 327696
  pub all_before : length (written_of tables read) ≤ n
  pub not_all : n < length (written_of tables (read ++ last ∷ []))
  pub same : take n (written_of tables (read ++ last ∷ [])) ≡ take n (written_of tables shown)

-- of the lines of these packets all but the last ones were written, which are gathered
pub record Gathered (tables : List Table) (given : List ℕ) (shown : List Packet) (lines : List ℕ) (out_before out_now : Side) : Type 0 where
  pub early : List ℕ
  pub whole : written_of tables shown ≡ early ++ lines
  pub wrote : WasWritten early out_before out_now
  pub places : (k : ℕ) → k < length lines → Place tables given shown (length early + k)

pub nothing_written : (tables : List Table) → written_of tables [] ≡ []
unfolding capture_run
nothing_written tables = refl

no_place : {P : Type 0} (k : ℕ) → k < 0 → P
no_place k less = absurd (omega arith)

pub gathered_none : (tables : List Table) (given : List ℕ) (side : Side) → Gathered tables given [] [] side side
gathered_none tables given side = record { early = []; whole = nothing_written tables; wrote = took_none side; places = λ k less. no_place k less }

module _ (tables : List Table) (given : List ℕ) (shown : List Packet) (lines : List ℕ) (a b c : Side) (gathered : Gathered tables given shown lines a b) where
  -- all lines are written
  pub wrote_all : WasWritten lines b c → WasWritten (written_of tables shown) a c
  wrote_all wrote = rw gathered.whole (took_more gathered.early lines a b c gathered.wrote wrote)

  pub gathered_written : (later : List ℕ) → WasWritten lines b c → Gathered tables later shown [] a c
  gathered_written later wrote = record {
    early = gathered.early ++ lines;
    whole = gathered.whole ∙ sym (append-nil (gathered.early ++ lines));
    wrote = took_more gathered.early lines a b c gathered.wrote wrote;
    places = λ k less. no_place k less;
  }

  -- a write fails
  pub gathered_broken : BreaksLines lines b c → Breaks tables given a c
  gathered_broken breaks =
      let place = gathered.places breaks.n breaks.less in
      let early = gathered.early in
      let cut : take (length early + breaks.n) (written_of tables (place.read ++ place.last ∷ [])) ≡ early ++ take breaks.n lines =
      place.same ∙ (ap (take (length early + breaks.n)) gathered.whole ∙ take-append-add early lines breaks.n) in
      record {
        read = place.read;
        last = place.last;
        n = length early + breaks.n;
        has_read = place.has_read;
        alone = place.alone;
        least = place.least;
        near = place.near;
        all_before = place.all_before;
        not_all = place.not_all;
        wrote = rw cut (took_more early (take breaks.n lines) a b c gathered.wrote breaks.wrote);
        rose = rose_after (length early) a b c gathered.wrote.counts breaks.rose;
      }

  -- the next packet was read
  pub gathered_next : (next later : List ℕ) → Wait next lines later b c ⊎ Written lines later b c → Gathered tables (given ++ next) shown later a c
  gathered_next next later in_time = elim in_time [
    | inl wait ↦ let same : given ++ next ≡ given = ap (λ xs. given ++ xs) wait.nothing ∙ append-nil given in rw (same, wait.lines, wait.out) gathered
    | inr written ↦ rw (written.none) (gathered_written (given ++ next) written.wrote)
  ]

  -- and its line gathered
  pub gathered_more : (p : Packet) (text : List ℕ) → written_of tables (and_packet shown p) ≡ written_of tables shown ++ text → (0 < length text → and_packet shown p ≡ shown ++ p ∷ []) →
      ((n : ℕ) → and_packet shown p ≡ shown ++ p ∷ [] → length (written_of tables shown) ≤ n → n < length (written_of tables (shown ++ p ∷ [])) → Place tables given (and_packet shown p) n) →
      Gathered tables given (and_packet shown p) (lines ++ text) a b
  gathered_more p text whole one new =
      let early = gathered.early in
      let size : length (written_of tables shown) ≡ length early + length lines = ap length gathered.whole ∙ length-append early lines in
      let more : length (written_of tables (and_packet shown p)) ≡ length (written_of tables shown) + length text = ap length whole ∙ length-append (written_of tables shown) text in
      let sum = length-append lines text in
      record {
        early = early;
        whole = whole ∙ (ap (λ xs. xs ++ text) gathered.whole ∙ append_assoc early lines text);
        wrote = gathered.wrote;
        places = λ k less. elim (cases_lt k (length lines)) [
          | inl inside ↦
              let place = gathered.places k inside in
              let n : ℕ = length early + k in
              let longer : take n (written_of tables (and_packet shown p)) ≡ take n (written_of tables shown) =
              ap (take n) whole ∙ take-append-le n (written_of tables shown) text (omega arith) in
              record {
                read = place.read;
                last = place.last;
                has_read = place.has_read;
                alone = place.alone;
                least = place.least;
                near = place.near;
                all_before = place.all_before;
                not_all = place.not_all;
                same = place.same ∙ sym longer;
              }
          | inr behind ↦
              let is : and_packet shown p ≡ shown ++ p ∷ [] = one (omega arith) in
              let there : length (written_of tables (shown ++ p ∷ [])) ≡ length (written_of tables shown) + length text = ap (λ ps. length (written_of tables ps)) (sym is) ∙ more in
              new (length early + k) is (omega arith) (omega arith)
        ];
      }
