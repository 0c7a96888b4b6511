-- What a reader of a capture has shown, call by call.
use Rattle.std.proofs.Common.{◌≡◌, ℕ, ◌+◌, ◌≤◌, List, [], ◌∷◌, ◌++◌, length, drop, Option, Some, None, Result, Ok, Err, refl, sym, ap, ◌∙◌, append_assoc, arith}
use Rattle.std.proofs.lemmas.List.{append-nil, length-append}
use Rattle.book_captures.specs.declared.capture_parts.CaptureFault.{CaptureFault}
use Rattle.book_captures.specs.declared.capture_parts.Cause.{Cause}
use Rattle.book_captures.specs.Parts.{PartSaid, Shows, Describes, Neither, OpenedFile, capture_opened}
use Rattle.book_captures.specs.Captures.{CapturePacket, Capture, PartCounts, with_said, capture_at, capture_behind, capture_of}
use Rattle.capture_walk.specs.Reads.{Reading, most_ahead, most_buffered, new_reading, to_come, to_come_by, packet_shown, passed_by, ShowsNone, Passes}
use Rattle.capture_walk.specs.HasRead.{HasRead, HasShown, listed, shown_before}

same_capture : (a b : List CapturePacket) (m n : ℕ) (fault : Option CaptureFault) → a ≡ b → m ≡ n →
    ◌≡◌ {A = Capture} (record { packets = a; passed = m; fault = fault }) (record { packets = b; passed = n; fault = fault })
same_capture a b m n fault same many = rw (same, many) refl

before_none : (c : Capture) → c ≡ shown_before [] 0 c
before_none c = let same : c.passed ≡ 0 + c.passed = omega arith in same_capture c.packets c.packets c.passed (0 + c.passed) c.fault refl same

abbrev no_counts : PartCounts
no_counts = record { packets = 0; parts = 0; bytes = 0 }

begun : (r : Result OpenedFile Cause) (file : List ℕ) → capture_behind r file ≡ to_come_by no_counts r file
begun (Err why) file = refl
begun (Ok front) file =
    let same : front.size ≡ 0 + front.size = omega arith in
    ap (λ n. capture_at front.place (record { packets = 0; parts = 0; bytes = n }) (drop front.size file)) same

begins : (file : List ℕ) → capture_of file ≡ to_come new_reading file
unfolding capture_of
begins file = begun (capture_opened file) file

-- a new reader
pub shown_none : HasShown new_reading [] []
shown_none = record {
  front = [];
  split = refl;
  comes = λ more. begins more ∙ before_none (to_come new_reading more);
  bytes = refl;
  near = omega arith;
}

pub none_listed : (said : PartSaid) (count : ℕ) → ShowsNone said → listed (packet_shown count said) ≡ []
none_listed (Shows frame) count none = absurd none
none_listed (Describes interfaces) count none = refl
none_listed Neither count none = refl

pub one_listed : (packet : Option CapturePacket) → length (listed packet) ≤ 1
one_listed None = omega arith
one_listed (Some p) = omega arith

one_part : (said : PartSaid) (count passed : ℕ) (shown : List CapturePacket) (others : Capture) →
    shown_before shown passed (with_said said count others) ≡ shown_before (shown ++ listed (packet_shown count said)) (passed + passed_by said) others
one_part (Shows frame) count passed shown others =
    same_capture _ _ _ _ others.fault (sym (append_assoc shown (record { number = count + 1; frame = frame } ∷ []) others.packets)) (omega arith)
one_part (Describes interfaces) count passed shown others =
    same_capture _ _ _ _ others.fault (ap (λ xs. xs ++ others.packets) (sym (append-nil shown))) (omega arith)
one_part Neither count passed shown others =
    same_capture _ _ _ _ others.fault (ap (λ xs. xs ++ others.packets) (sym (append-nil shown))) (omega arith)

module _ (before : Reading) (given next : List ℕ) (shown : List CapturePacket) (has : HasShown before given shown) where
  whole : given ++ next ≡ has.front ++ (before.kept ++ next)
  whole = ap (λ xs. xs ++ next) has.split ∙ append_assoc has.front before.kept next

  -- a part more
  pub shown_more : (now : Reading) (said : PartSaid) → Passes before now (before.kept ++ next) said → length now.kept ≤ most_buffered → HasShown now (given ++ next) (shown ++ listed now.packet)
  shown_more now said passes near = record {
    front = has.front ++ passes.past;
    split = whole ∙ (ap (λ xs. has.front ++ xs) passes.split ∙ sym (append_assoc has.front passes.past now.kept));
    comes = λ more. ap capture_of (append_assoc has.front passes.past more)
        ∙ (has.comes (passes.past ++ more)
        ∙ (ap (shown_before shown before.passed) (passes.says more)
        ∙ (one_part said before.counts.packets before.passed shown (to_come now more)
        ∙ same_capture _ _ _ _ (to_come now more).fault
        (ap (λ p. (shown ++ listed p) ++ (to_come now more).packets) (sym passes.shown))
        (ap (λ n. n + (to_come now more).passed) (sym passes.passed)))));
    bytes = passes.bytes ∙ (ap (λ n. n + length passes.past) has.bytes ∙ sym (length-append has.front passes.past));
    near = near;
  }

  -- nothing more, or a fault
  pub shown_all : (fault : Option CaptureFault) → to_come before (before.kept ++ next) ≡ record { packets = []; passed = 0; fault = fault } →
      capture_of (given ++ next) ≡ record { packets = shown; passed = before.passed; fault = fault }
  shown_all fault none = ap capture_of whole
      ∙ (has.comes (before.kept ++ next)
      ∙ (ap (shown_before shown before.passed) none
      ∙ same_capture _ _ _ _ fault (append-nil shown) (omega arith)))

  -- what was read before a call that stopped
  pub read_before : length (before.kept ++ next) ≤ most_ahead → HasRead (given ++ next) shown
  read_before few = record { front = has.front; rest = before.kept ++ next; split = whole; few = few; reader = before; goes_on = has.comes }

pub near_few : (kept : List ℕ) → length kept ≤ most_buffered → length kept ≤ most_ahead
near_few kept near = omega (arith, near)

-- what was read
abbrev pub read_now : (reading : Reading) (given : List ℕ) (shown : List CapturePacket) → HasShown reading given shown → HasRead given shown
read_now reading given shown has = record { front = has.front; rest = reading.kept; split = has.split; few = near_few reading.kept has.near; reader = reading; goes_on = has.comes }
