-- What an end answers where it may make a segment, as the definitions answer.
use Rattle.std.specs.Prelude.{◌≡◌, ℕ, true, List, length, Some, ⊤}
use Rattle.book_segments.specs.Segments.{SYN}
use Rattle.book_macs.specs.Contexts.{bytes_of}
use Rattle.ao_check.specs.Sendings.{told}
use Rattle.book_endpoint.specs.States.{EndState}
use Rattle.book_endpoint.specs.Emissions as book
use Rattle.ao_kdf.specs.declared.way.Way.TheVariants.{Outbound}
use Rattle.ao_kdf.specs.Cache.{Cache}
use Rattle.ao_check.specs.Bonds.{Counted}
use Rattle.segment_writer.specs.Drafts.{IsWritten}
use Rattle.tcp_endpoint.specs.declared.emission.Made.{Made}
use Rattle.tcp_endpoint.specs.declared.emission.Emission.{Emission}
use Rattle.tcp_endpoint.specs.declared.emission.Emission.TheVariants as emissions
use Rattle.tcp_endpoint.specs.declared.emission.Resent.{Resent}
use Rattle.tcp_endpoint.specs.declared.emission.Resent.TheVariants as resents
use Rattle.tcp_endpoint.specs.declared.endpoint.Endpoint.{Endpoint}
use Rattle.tcp_endpoint.specs.Ends.{Stands}

-- the state after
abbrev pub state_after : EndState → book.Emitted → EndState
state_after s book.Quiet = s
state_after s book.NoKey = s
state_after s (book.Emits x) = x.state

-- the segment stands in front of the buffer, and all is told of it
pub record IsMade (before after : List ℕ) (m : Made) (x : book.Emission) : Type 0 where
  pub written : IsWritten x.segment m.length before after
  pub sending : m.sending ≡ told x.sending
  pub number : m.number ≡ x.number
  pub ack : m.ack ≡ x.acknowledged
  pub flags : m.flags ≡ x.flags
  pub payload : m.payload ≡ length x.segment.payload
  pub context : bytes_of m.context ≡ x.context

-- a segment was made, and the end stands for the state after it
pub record Makes (e : Endpoint) (before after : List ℕ) (m : Made) (b : book.Emitted) : Type 0 where
  pub emission : book.Emission
  pub is : b ≡ book.Emits emission
  pub stands : Stands e emission.state
  pub made : IsMade before after m emission

-- the answer of emit is that one, and the buffer is as it was where no segment was made
abbrev pub AnswersAs : List ℕ → List ℕ → Emission → book.Emitted → Type 0
AnswersAs before after emissions.Idle book.Quiet = after ≡ before
AnswersAs before after emissions.NoKey book.NoKey = after ≡ before
AnswersAs before after (emissions.Segment m) (book.Emits x) = IsMade before after m x
AnswersAs before after _ _ = ⊥

-- the same of resend
abbrev pub AnswersAgainAs : List ℕ → List ℕ → Resent → book.Emitted → Type 0
AnswersAgainAs before after resents.Nothing book.Quiet = after ≡ before
AnswersAgainAs before after resents.NoKey book.NoKey = after ≡ before
AnswersAgainAs before after (resents.Segment m) (book.Emits x) = IsMade before after m x
AnswersAgainAs before after _ _ = ⊥

-- the end stands for the state after that step, and answers as it is answered
pub record Emits (s : EndState) (e : Endpoint) (before after : List ℕ) (answer : Emission) (b : book.Emitted) : Type 0 where
  pub stands : Stands e (state_after s b)
  pub answer_is : AnswersAs before after answer b

-- the same of resend
pub record Resends (s : EndState) (e : Endpoint) (before after : List ℕ) (answer : Resent) (b : book.Emitted) : Type 0 where
  pub stands : Stands e (state_after s b)
  pub answer_is : AnswersAgainAs before after answer b

-- the work of a segment: that on its MAC, under the key of the row that it was sealed with
abbrev pub MakeCosts : Cache → Cache → Made → ℕ → ℕ → Type 0
MakeCosts before after m old new = Counted before after (Some m.sending.row) true Outbound (book.sets m.flags SYN) old new

-- the work of emit: that of its segment, and none without one
abbrev pub EmitCosts : Cache → Cache → Emission → ℕ → ℕ → Type 0
EmitCosts before after (emissions.Segment m) old new = MakeCosts before after m old new
EmitCosts before after _ old new = new ≡ old

-- the same of resend
abbrev pub ResendCosts : Cache → Cache → Resent → ℕ → ℕ → Type 0
ResendCosts before after (resents.Segment m) old new = MakeCosts before after m old new
ResendCosts before after _ old new = new ≡ old

-- no segment was made
abbrev pub MakesNone : Emission → Type 0
MakesNone (emissions.Segment m) = ⊥
MakesNone _ = ⊤

-- no segment was made again
abbrev pub ResendsNone : Resent → Type 0
ResendsNone (resents.Segment m) = ⊥
ResendsNone _ = ⊤

-- how many bytes of the buffer the segment takes
abbrev pub length_made : Emission → ℕ
length_made (emissions.Segment m) = m.length
length_made _ = 0

-- the same of resend
abbrev pub length_made_again : Resent → ℕ
length_made_again (resents.Segment m) = m.length
length_made_again _ = 0
