-- From one part of a capture to the next, and to each end, whoever hears its packets.
use Rattle.std.proofs.Common.{◌≡◌, ◌⊎◌, ℕ, ◌≤◌, List, [], ◌∷◌, ◌++◌, length, take, Option, Some, None, Result, Ok, Err, inl, inr, refl, sym, ap, arith, IsSome, true, false}
use Rattle.std.proofs.lemmas.List.{append-nil}
use Rattle.std.specs.List.{All}
use Rattle.ao_base.specs.Outside.{Side, Gave, WasWritten}
use Rattle.ao_base.proofs.Sides.{rose_after, took_and_none, took_more, took_none}
use Rattle.book_base.specs.Hexadecimal.{IsByte}
use Rattle.book_captures.specs.declared.capture_parts.CaptureFault.{CaptureFault}
use Rattle.book_captures.specs.Parts.{PartSaid}
use Rattle.book_captures.specs.Captures.{CapturePacket}
use Rattle.capture_walk.specs.declared.reader.CaptureStep.TheVariants as step
use Rattle.capture_walk.specs.declared.reader.CaptureHalt.TheVariants as stream_halt
use Rattle.capture_walk.specs.Reads.{Reading, most_buffered, new_reading, ShowsNone, Passes, Steps}
use Rattle.capture_walk.specs.declared.hearer.Heard.{Heard}
use Rattle.capture_walk.specs.declared.hearer.Heard.TheVariants as heard
use Rattle.capture_walk.specs.declared.hearer.HearHalt.{HearHalt}
use Rattle.capture_walk.specs.declared.hearer.HearHalt.TheVariants as hear_halt
use Rattle.capture_walk.specs.declared.walking.WalkEnd.{WalkEnd}
use Rattle.capture_walk.specs.declared.walking.WalkEnd.TheVariants as end
use Rattle.capture_walk.specs.declared.walking.WalkHalt.{WalkHalt}
use Rattle.capture_walk.specs.declared.walking.WalkHalt.TheVariants as halt
use Rattle.capture_walk.specs.HasRead.{HasRead, listed}
use Rattle.capture_walk.specs.Hearing.{Adds, Cuts, Hears}
use Rattle.capture_walk.specs.Walks.{Between, HearsNext, Stops, Walks}
use Rattle.capture_walk.specs.declared.reader.CaptureStep.{CaptureStep}
use Rattle.capture_walk.specs.declared.reader.CaptureHalt.{CaptureHalt}
use Rattle.capture_walk.proofs.Showing.{read_now}
use Rattle.capture_walk.proofs.Taken.{all_broken, all_ended, bytes_all, gave_all, has_read, no_more, none_shown, rose_read, shows_more, stays_broken, taken_more, taken_none, too_many}

-- how a step ends where this became of a packet
abbrev pub after : Result Heard HearHalt → Result (Option WalkEnd) WalkHalt
after (Ok heard.Next) = Ok None
after (Ok heard.Done) = Ok (Some end.Done)
after (Err hear_halt.Write) = Err halt.Write
after (Err hear_halt.Memory) = Err halt.Memory

-- the packet that is shown
pub the_packet : (packet : Option CapturePacket) → IsSome packet → (p : CapturePacket) × (packet ≡ Some p)
the_packet None some = let bad : false ≡ true = some in absurd (cc)
the_packet (Some p) some = (p, refl)

-- before the first part
pub between_new : (told : List CapturePacket → List ℕ) (stands : List CapturePacket → Type 0) (reader : Reading) (source out : Side) → reader ≡ new_reading → stands [] → told [] ≡ []
    → Between told stands reader [] [] source source out out
between_new told stands reader source out is begins nothing = rw (is) (record {
  taken = taken_none source;
  heard = begins;
  wrote = rw nothing (took_none out);
})

module _ (told : List CapturePacket → List ℕ) (stands : List CapturePacket → Type 0) (before : Reading) (given next : List ℕ) (shown : List CapturePacket) (a b c o q : Side) (between : Between told stands before given shown a b o q) where
  -- it ended between two parts
  stopped : (now : Reading) (how : Result CaptureStep CaptureHalt) → Steps before now b c next how → Stops told stands (given ++ next) o q
  stopped now how steps = record {
    read = shown;
    has_read = has_read between.taken next steps.few;
    heard = between.heard;
    wrote = between.wrote;
  }

  module _ (stops : List CapturePacket → CapturePacket → Type 0) (now : Reading) where
    -- the capture's end
    pub ends_done : Steps before now b c next (Ok step.End) → Walks told stands stops now (given ++ next) a c o q (Ok end.End)
    ends_done steps =
        let all = all_ended between.taken steps in
        record {
          gave = gave_all between.taken steps.gave;
          bytes = bytes_all between.taken next steps.bytes;
          ends = record {
            has_read = rw all (has_read between.taken next steps.few);
            at_end = steps.answers.1;
            faultless = ap (λ c. c.fault) all;
            heard = rw all between.heard;
            wrote = rw all between.wrote;
          };
        }

    -- a fault of the capture
    pub ends_broken : (fault : CaptureFault) → Steps before now b c next (Err (stream_halt.Broken fault)) → Walks told stands stops now (given ++ next) a c o q (Err (halt.Broken fault))
    ends_broken fault steps =
        let all = all_broken between.taken steps in
        record {
          gave = gave_all between.taken steps.gave;
          bytes = bytes_all between.taken next steps.bytes;
          ends = record {
            has_read = rw all (has_read between.taken next steps.few);
            fault_is = ap (λ c. c.fault) all;
            all = stays_broken between.taken steps;
            heard = rw all between.heard;
            wrote = rw all between.wrote;
          };
        }

    -- a read that failed
    pub ends_read : Steps before now b c next (Err stream_halt.Read) → Walks told stands stops now (given ++ next) a c o q (Err halt.Read)
    ends_read steps = record {
      gave = gave_all between.taken steps.gave;
      bytes = bytes_all between.taken next steps.bytes;
      ends = (rose_read between.taken steps, stopped now (Err stream_halt.Read) steps);
    }

    -- more bytes than any file has
    pub ends_long : Steps before now b c next (Err stream_halt.TooLong) → Walks told stands stops now (given ++ next) a c o q (Err halt.TooLong)
    ends_long steps = record {
      gave = gave_all between.taken steps.gave;
      bytes = bytes_all between.taken next steps.bytes;
      ends = (too_many between.taken steps, stopped now (Err stream_halt.TooLong) steps);
    }

-- one more part was read, which says this
module _ (told : List CapturePacket → List ℕ) (stands stands_now : List CapturePacket → Type 0) (stops : List CapturePacket → CapturePacket → Type 0) (before : Reading) (given next : List ℕ) (shown : List CapturePacket) (a b c o q : Side) (between : Between told stands before given shown a b o q)
    (now : Reading) (said : PartSaid) (passes : Passes before now (before.kept ++ next) said) (gave : Gave next b c) (bytes : All IsByte next) (near : length now.kept ≤ most_buffered) where
  -- which showed no packet
  pub between_block : ShowsNone said → Between told stands now (given ++ next) (shown ++ listed now.packet) a c o q
  between_block none =
      let same = no_more shown now.packet (none_shown passes none) in
      record {
        taken = taken_more between.taken gave bytes passes near;
        heard = rw same between.heard;
        wrote = rw same between.wrote;
      }

  -- which showed this packet
  module _ (p : CapturePacket) (is : now.packet ≡ Some p) where
    one : shown ++ listed now.packet ≡ shown ++ p ∷ []
    one = ap (λ packet. shown ++ listed packet) is

    abbrev read_one : HasRead (given ++ next) (shown ++ p ∷ [])
    read_one = read_now now (given ++ next) (shown ++ p ∷ []) (rw one at (shows_more between.taken next passes near))

    told_one : (r : Side) → Adds told shown p q r → WasWritten (told (shown ++ p ∷ [])) o r
    told_one r adds = rw adds.adds (took_more (told shown) adds.text o q r between.wrote adds.wrote)

    -- and the hearer stands after it
    pub between_heard : (r : Side) → stands_now (shown ++ p ∷ []) → Adds told shown p q r → Between told stands_now now (given ++ next) (shown ++ p ∷ []) a c o r
    between_heard r after adds = record {
      taken = rw one at (taken_more between.taken gave bytes passes near);
      heard = after;
      wrote = told_one r adds;
    }

    -- and the hearer stopped at it
    ends_reached : (r : Side) → stops shown p → Adds told shown p q r → Walks told stands_now stops now (given ++ next) a c o r (Ok end.Done)
    ends_reached r here adds = record {
      gave = gave_all between.taken gave;
      bytes = bytes_all between.taken next bytes;
      ends = record { read = shown; last = p; has_read = read_one; near = near; shown = is; here = here; wrote = told_one r adds };
    }

    -- of which a part was told
    ends_stuck : (r : Side) → Cuts told shown p q r → Walks told stands_now stops now (given ++ next) a c o r (Err halt.Write)
    ends_stuck r cuts = record {
      gave = gave_all between.taken gave;
      bytes = bytes_all between.taken next bytes;
      ends = record {
        read = shown;
        last = p;
        text = cuts.text;
        adds = cuts.adds;
        n = cuts.n;
        has_read = read_one;
        near = near;
        not_all = cuts.not_all;
        wrote = took_more (told shown) (take cuts.n cuts.text) o q r between.wrote cuts.wrote;
        rose = rose_after (length (told shown)) o q r between.wrote.counts cuts.rose;
      };
    }

    -- for which memory ran out
    ends_lacking : (r : Side) → WasWritten [] q r ⊎ Adds told shown p q r → Walks told stands_now stops now (given ++ next) a c o r (Err halt.Memory)
    ends_lacking r (inl none) = record {
      gave = gave_all between.taken gave;
      bytes = bytes_all between.taken next bytes;
      ends = record { read = shown; later = p ∷ []; one = omega arith; has_read = read_one; near = near; wrote = took_and_none (told shown) o q r between.wrote none };
    }
    ends_lacking r (inr adds) =
        let same : (shown ++ p ∷ []) ++ [] ≡ shown ++ p ∷ [] = append-nil (shown ++ p ∷ []) in
        record {
          gave = gave_all between.taken gave;
          bytes = bytes_all between.taken next bytes;
          ends = record {
            read = shown ++ p ∷ [];
            later = [];
            one = omega arith;
            has_read = read_now now (given ++ next) ((shown ++ p ∷ []) ++ []) (rw (sym same) at (rw one at (shows_more between.taken next passes near)));
            near = near;
            wrote = told_one r adds;
          };
        }

    -- what became of it
    pub heard_next : (r : Side) (how : Result Heard HearHalt) → Hears told stands_now stops shown p q r how → HearsNext told stands_now stops now given shown next a c o r (after how)
    heard_next r (Ok heard.Next) h = (p ∷ [], between_heard r (h.0) (h.1))
    heard_next r (Ok heard.Done) h = ends_reached r (h.0) (h.1)
    heard_next r (Err hear_halt.Write) h = ends_stuck r h
    heard_next r (Err hear_halt.Memory) h = ends_lacking r h
