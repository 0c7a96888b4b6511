-- A packet that was heard, by the text that it adds.
use Rattle.std.proofs.Common.{◌≡◌, ℕ, List, [], ◌∷◌, ◌++◌, Result, Ok, Err, inl}
use Rattle.ao_base.specs.Outside.{Side}
use Rattle.ao_base.proofs.Sides.{took_none}
use Rattle.book_captures.specs.Captures.{CapturePacket}
use Rattle.capture_walk.specs.declared.hearer.Heard.{Heard}
use Rattle.capture_walk.specs.declared.hearer.Heard.TheVariants as heard
use Rattle.capture_walk.specs.declared.hearer.HearHalt.{HearHalt}
use Rattle.capture_walk.specs.declared.hearer.HearHalt.TheVariants as hear_halt
use Rattle.capture_walk.specs.Hearing.{Hears, Tells}

module _ (told : List CapturePacket → List ℕ) (stands : List CapturePacket → Type 0) (stops : List CapturePacket → CapturePacket → Type 0) (before : List CapturePacket) (p : CapturePacket) (o q : Side) where
  -- this text was told of it, and the hearer stands after it
  pub hears_told : (text : List ℕ) (how : Result Heard HearHalt) → told (before ++ p ∷ []) ≡ told before ++ text → stands (before ++ p ∷ []) → Tells text o q how → Hears told stands stops before p o q how
  hears_told text (Ok heard.Next) adds after tells = (after, record { text = text; adds = adds; wrote = tells })
  hears_told text (Ok heard.Done) adds after tells = absurd tells
  hears_told text (Err hear_halt.Write) adds after tells = record { text = text; adds = adds; n = tells.n; not_all = tells.not_all; wrote = tells.wrote; rose = tells.rose }
  hears_told text (Err hear_halt.Memory) adds after tells = absurd tells

-- memory ran out, and nothing was written
pub hears_none : (told : List CapturePacket → List ℕ) (stands : List CapturePacket → Type 0) (stops : List CapturePacket → CapturePacket → Type 0) (before : List CapturePacket) (p : CapturePacket) (o : Side)
    → Hears told stands stops before p o o (Err hear_halt.Memory)
hears_none told stands stops before p o = inl (took_none o)
