-- What is known of a source and its reader between two parts of a capture, whatever is made of its packets.
use Rattle.std.proofs.Common.{◌≡◌, ℕ, ◌-◌, ◌<◌, ◌≤◌, List, [], ◌++◌, length, Option, Some, None, Ok, Err, refl, sym, ap, ◌∙◌, append_assoc, arith}
use Rattle.std.proofs.lemmas.List.{append-nil, length-append}
use Rattle.std.proofs.lemmas.List.Elements.{All-append, All-from_get_or}
use Rattle.std.specs.List.{All}
use Rattle.ao_base.specs.Outside.{Side, Gave, Rose, told}
use Rattle.ao_base.proofs.Sides.{gave_more, gave_none, rose_after}
use Rattle.book_base.specs.Hexadecimal.{IsByte}
use Rattle.book_captures.specs.declared.capture_parts.CaptureFault.{CaptureFault}
use Rattle.book_captures.specs.Parts.{PartSaid}
use Rattle.book_captures.specs.Captures.{CapturePacket, capture_of}
use Rattle.capture_walk.specs.declared.reader.CaptureStep.TheVariants as step
use Rattle.capture_walk.specs.declared.reader.CaptureHalt.TheVariants as stream_halt
use Rattle.capture_walk.specs.Reads.{Reading, most_ahead, most_buffered, most_read, new_reading, ShowsNone, Passes, Steps}
use Rattle.capture_walk.specs.HasRead.{HasRead, HasShown, HasTaken, listed}
use Rattle.capture_walk.proofs.Showing.{none_listed, read_before, read_now, shown_all, shown_more, shown_none}

pub all_none : All IsByte []
all_none = All-from_get_or IsByte [] 0 (λ i within. absurd (omega arith))

-- before the first part
pub taken_none : (source : Side) → HasTaken new_reading [] [] source source
taken_none source = record {
  gave = gave_none source;
  bytes = all_none;
  shows = shown_none;
  within = omega arith;
  going = refl;
}

-- fewer bytes than before can still be passed
pub smaller : {before now : Reading} {text : List ℕ} {said : PartSaid} → Passes before now text said → most_read - now.counts.bytes < most_read - before.counts.bytes
smaller passes =
    let some = passes.some in
    let more = passes.bytes in
    let most = passes.within in
    omega arith

-- a part that shows no packet
pub none_shown : {before now : Reading} {text : List ℕ} {said : PartSaid} → Passes before now text said → ShowsNone said → listed now.packet ≡ []
none_shown {before} {said = said} passes none = ap listed passes.shown ∙ none_listed said before.counts.packets none

pub no_more : (shown : List CapturePacket) (packet : Option CapturePacket) → listed packet ≡ [] → shown ++ listed packet ≡ shown
no_more shown packet none = ap (λ (ps : List CapturePacket). shown ++ ps) none ∙ append-nil shown

module _ {before : Reading} {given : List ℕ} {shown : List CapturePacket} {a b : Side} (taken : HasTaken before given shown a b) where
  -- what was given with one call more
  pub gave_all : {next : List ℕ} {c : Side} → Gave next b c → Gave (given ++ next) a c
  gave_all {next} {c} gave = gave_more given next a b c taken.gave gave

  pub bytes_all : (next : List ℕ) → All IsByte next → All IsByte (given ++ next)
  bytes_all next bytes = All-append IsByte given next taken.bytes bytes

  -- what was read, where that call stopped
  pub has_read : (next : List ℕ) → length (before.kept ++ next) ≤ most_ahead → HasRead (given ++ next) shown
  has_read next few = read_before before given next shown taken.shows few

  -- the capture's end
  pub all_ended : {now : Reading} {c : Side} {next : List ℕ} → Steps before now b c next (Ok step.End) → capture_of (given ++ next) ≡ record { packets = shown; passed = before.passed; fault = None }
  all_ended {next = next} steps = shown_all before given next shown taken.shows None (steps.answers.2)

  -- a fault of the capture
  pub all_broken : {now : Reading} {c : Side} {next : List ℕ} {fault : CaptureFault} → Steps before now b c next (Err (stream_halt.Broken fault))
      → capture_of (given ++ next) ≡ record { packets = shown; passed = before.passed; fault = Some fault }
  all_broken {next = next} {fault = fault} steps = shown_all before given next shown taken.shows (Some fault) (steps.answers.1)

  -- which it has whatever follows
  pub stays_broken : {now : Reading} {c : Side} {next : List ℕ} {fault : CaptureFault} → Steps before now b c next (Err (stream_halt.Broken fault))
      → capture_of ((given ++ next) ++ told c.bytes) ≡ capture_of (given ++ next)
  stays_broken {c = c} {next = next} {fault = fault} steps =
      let left = told c.bytes in
      let group : (before.kept ++ next) ++ left ≡ before.kept ++ (next ++ left) = append_assoc before.kept next left in
      let more : capture_of (given ++ (next ++ left)) ≡ record { packets = shown; passed = before.passed; fault = Some fault } =
      shown_all before given (next ++ left) shown taken.shows (Some fault) (rw group at (steps.answers.2)) in
      ap capture_of (append_assoc given next left) ∙ (more ∙ sym (all_broken steps))

  -- a read that failed
  pub rose_read : {now : Reading} {c : Side} {next : List ℕ} → Steps before now b c next (Err stream_halt.Read) → Rose a c
  rose_read {c = c} steps = rose_after (length given) a b c taken.gave.counts (steps.answers.1)

  -- more bytes than any file has
  pub too_many : {now : Reading} {c : Side} {next : List ℕ} → Steps before now b c next (Err stream_halt.TooLong) → most_read < length (given ++ next)
  too_many {next = next} steps =
      let split : length (given ++ next) ≡ length (taken.shows.front ++ (before.kept ++ next)) =
      ap length (ap (λ xs. xs ++ next) taken.shows.split ∙ append_assoc taken.shows.front before.kept next) in
      let sum = length-append taken.shows.front (before.kept ++ next) in
      let counted = taken.shows.bytes in
      let many = steps.answers.1 in
      omega arith

  -- one more part was read
  pub shows_more : (next : List ℕ) {now : Reading} {said : PartSaid} → Passes before now (before.kept ++ next) said → length now.kept ≤ most_buffered → HasShown now (given ++ next) (shown ++ listed now.packet)
  shows_more next {now} {said} passes near = shown_more before given next shown taken.shows now said passes near

  abbrev pub read_more : (next : List ℕ) {now : Reading} {said : PartSaid} → Passes before now (before.kept ++ next) said → length now.kept ≤ most_buffered → HasRead (given ++ next) (shown ++ listed now.packet)
  read_more next {now} passes near = read_now now (given ++ next) (shown ++ listed now.packet) (shows_more next passes near)

  pub taken_more : {next : List ℕ} {c : Side} {now : Reading} {said : PartSaid} → Gave next b c → All IsByte next → Passes before now (before.kept ++ next) said → length now.kept ≤ most_buffered
      → HasTaken now (given ++ next) (shown ++ listed now.packet) a c
  taken_more {next} gave bytes passes near = record {
    gave = gave_all gave;
    bytes = bytes_all next bytes;
    shows = shows_more next passes near;
    within = passes.within;
    going = passes.going;
  }
