-- What the text of a run tells of each session: the theorem on messages.
use Rattle.std.specs.Prelude.{◌≡◌, ℕ, suc, ◌+◌, ◌==◌, Bool, ◌&&◌, List, [], ◌∷◌, ◌++◌, length, codes, decimal, Option, Some, None, if◌then◌else◌, ⊤}
use Rattle.std.specs.List.{AllByRecursion}
use Rattle.book_base.specs.declared.end.End.{End}
use Rattle.book_lines.specs.Texts.{end_text, numbered_text}
use Rattle.book_bgp.specs.declared.bgp_fault.BgpFault.{BgpFault}
use Rattle.book_bgp.specs.Messages.{Message, messages, fault_in, place_of}
use Rattle.book_link.specs.declared.event.Event.{Event}
use Rattle.book_link.specs.Reports.{summary}
use Rattle.book_link.specs.Runs.{run}
use Rattle.book_link.specs.Worlds.{Setup, Session, World, side, partner, forgeries, same_end}
use Rattle.book_cmd_link.specs.BgpRuns.{Place, bgp_fault_text, bgp_faults, message_line, bgp_text}

-- what a line tells of a session: a message, or a fault behind so many bytes of messages
pub data What : Type 0 where
  Tells : (message : Message) → What
  Fails : (fault : BgpFault) (at : ℕ) → What

-- a line, by where it is from and what it tells
pub record Telling : Type 0 where
  pub place : Place
  pub what : What

-- its text
abbrev pub line_of : Place → What → List ℕ
line_of p (Tells m) = message_line p m
line_of p (Fails fault at) =
    numbered_text p.number (codes "bgp-fault" ∷ end_text p.end ∷ decimal p.session ∷ bgp_fault_text fault ∷ codes "at" ∷ decimal at ∷ [])

-- the texts of lines
abbrev pub lines_of : List Telling → List ℕ
lines_of [] = []
lines_of (t ∷ ts) = line_of t.place t.what ++ lines_of ts

-- the line is of session i of the end
abbrev pub is_of : End → ℕ → Place → Bool
is_of e i p = same_end e p.end && (i == p.session)

-- what lines tell of session i of an end
abbrev pub told_of : End → ℕ → List Telling → List What
told_of e i [] = []
told_of e i (t ∷ ts) = (if is_of e i t.place then t.what ∷ [] else []) ++ told_of e i ts

-- messages, told
abbrev pub tells : List Message → List What
tells [] = []
tells (m ∷ ms) = Tells m ∷ tells ms

-- a fault, told with its place
abbrev pub fails : Option BgpFault → ℕ → List What
fails None at = []
fails (Some fault) at = Fails fault at ∷ []

-- what is to be told of a stream: its messages in order, and then the fault that ends them, where
-- there is one, behind the bytes of these messages (RFC 4271, sections 4 and 6.1)
abbrev pub to_tell : List ℕ → List What
to_tell bytes = tells (messages bytes) ++ fails (fault_in bytes) (place_of bytes)

-- 1 for the line of a fault
abbrev pub is_fault : What → ℕ
is_fault (Tells m) = 0
is_fault (Fails fault at) = 1

-- how many of the lines are those of faults
abbrev pub faults_told : List Telling → ℕ
faults_told [] = 0
faults_told (t ∷ ts) = is_fault t.what + faults_told ts

-- of each session with its number, from 1 for the oldest
abbrev pub AllNumbered : (ℕ → Session → Type 0) → List Session → Type 0
AllNumbered P [] = ⊤
AllNumbered P (s ∷ older) = P (suc (length older)) s × AllNumbered P older

-- a text is lines and the summary of a run; of each session the lines tell, in order, the messages
-- and the one fault of the bytes that it delivered; and `faults` is how many lines are of faults
pub record TellsRun (w : World) (text : List ℕ) (faults : ℕ) : Type 0 where
  pub tellings : List Telling
  pub text_is : text ≡ lines_of tellings ++ summary w
  pub each : (e : End) →
      AllNumbered (λ i s. told_of e i tellings ≡ to_tell s.state.taken) (side w e).sessions
  pub count : faults_told tellings ≡ faults

-- a run's text and the number of its sessions with a fault are those of such lines
abbrev pub TellsMessages : Setup → List Event → Type 0
TellsMessages setup events =
    let w = run setup events in TellsRun w (bgp_text setup events) (bgp_faults w)

-- the messages begin those of the bytes that were given to the partner; without a partner there are none
abbrev pub ComeFrom : Option Session → List Message → Type 0
ComeFrom None told = told ≡ []
ComeFrom (Some t) told = (later : List Message) × (told ++ later ≡ messages t.state.given)

-- where no forgery is counted: the messages of the bytes that a session delivered begin those of the bytes that were given to its partner
abbrev pub SpeaksInOrder : World → Type 0
SpeaksInOrder w =
    forgeries w.history ≡ 0 → (e : End) → AllByRecursion (λ (s : Session). ComeFrom (partner w e s.state) (messages s.state.taken)) (side w e).sessions
