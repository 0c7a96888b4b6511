-- The words beside the ladder. Our own format.
use Rattle.std.specs.Prelude.{ℕ, Bool, true, false, List, [], ◌∷◌, ◌++◌, codes, decimal}
use Rattle.book_endpoint.specs.declared.phase.Phase.{Phase}
use Rattle.book_lines.specs.Texts.{spaced}
use Rattle.book_link.specs.declared.event.Transmission.{Transmission}
use Rattle.book_link.specs.declared.event.Transmission.TheVariants.{New, Again}
use Rattle.book_link.specs.Reports.{answer_texts, end_mark, phase_text}
use Rattle.book_scope_texts.specs.Instants.{instant_text}
use Rattle.book_draw.specs.declared.rung.Deed.{Deed}
use Rattle.book_draw.specs.declared.rung.Deed.TheVariants as deed
use Rattle.book_draw.specs.declared.rung.Reply.{Reply}
use Rattle.book_draw.specs.declared.rung.Reply.TheVariants as reply

-- the words for what was asked of an end (own)
abbrev pub deed_texts : Deed → List (List ℕ)
deed_texts deed.Connect = codes "open" ∷ []
deed_texts deed.Listen = codes "listen" ∷ []
deed_texts deed.Start = codes "start" ∷ []
deed_texts (deed.Give count) = codes "give" ∷ decimal count ∷ []
deed_texts deed.Send = codes "send" ∷ []
deed_texts deed.Resend = codes "resend" ∷ []
deed_texts (deed.Deliver n) = codes "deliver" ∷ decimal n ∷ []
deed_texts deed.Inject = codes "inject" ∷ []
deed_texts (deed.Alter n) = codes "alter" ∷ decimal n ∷ []
deed_texts deed.Take = codes "take" ∷ []
deed_texts deed.Close = codes "close" ∷ []
deed_texts deed.Abort = codes "abort" ∷ []
deed_texts deed.Add = codes "add" ∷ []
deed_texts (deed.Withdraw number) = codes "withdraw" ∷ decimal number ∷ []

-- the words for what came of it, none where it was done (own)
abbrev pub reply_texts : Reply → List (List ℕ)
reply_texts reply.Done = []
reply_texts (reply.Took count shown) = decimal count ∷ end_mark shown
reply_texts (reply.Added number) = codes "row" ∷ decimal number ∷ []
reply_texts reply.IsnUsed = codes "isn-used" ∷ []
reply_texts reply.NoSession = codes "no-session" ∷ []
reply_texts reply.NoSegment = codes "no-segment" ∷ []
reply_texts reply.NoPlace = codes "no-place" ∷ []
reply_texts reply.Full = codes "full" ∷ []
reply_texts reply.Closed = codes "closed" ∷ []
reply_texts reply.NoKey = codes "no-key" ∷ []
reply_texts reply.Idle = codes "idle" ∷ []
reply_texts reply.Nothing = codes "nothing" ∷ []
reply_texts reply.TooManyRows = codes "too-many-rows" ∷ []
reply_texts (reply.Overlap number) = codes "overlap" ∷ decimal number ∷ []
reply_texts reply.NoRow = codes "no-row" ∷ []

-- a call, and what came of it, each word behind a space (own)
abbrev pub call_margin : Deed → Reply → List ℕ
call_margin d r = spaced (deed_texts d) ++ spaced (reply_texts r)

-- the word for a segment that is made, or made again (own)
abbrev pub making_word : Transmission → List ℕ
making_word Again = codes " resend"
making_word New = codes " send"

-- the word for a segment that never comes (own)
abbrev pub fate_word : (comes : Bool) → List ℕ
fate_word true = []
fate_word false = codes " lost"

-- a clock's time (own)
abbrev pub clock_margin : ℕ → List ℕ
clock_margin seconds = codes " clock " ++ instant_text seconds

-- the phase that a session is in now (own)
abbrev pub phase_margin : Phase → List ℕ
phase_margin phase = codes " now " ++ phase_text phase
