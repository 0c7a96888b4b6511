-- What the answers of a run stand for.
use Rattle.std.specs.Prelude.{◌≡◌, ℕ, List, length, take}
use Rattle.book_segments.specs.Segments.{spell}
use Rattle.ao_check.specs.Sendings.{told}
use Rattle.book_endpoint.specs.Emissions.{Emission}
use Rattle.book_cmd_node.specs.NodeRuns as book
use Rattle.tcp_endpoint.specs.declared.emission.Made.{Made}
use Rattle.cmd_node.specs.declared.told.Told.{Told}
use Rattle.cmd_node.specs.declared.told.Told.TheVariants as tells

-- the segment stands in front of the buffer, and its line is told
pub record TellsMade (room : List ℕ) (m : Made) (e : Emission) : Type 0 where
  pub bytes : take m.length room ≡ spell e.segment
  pub sending : m.sending ≡ told e.sending
  pub number : m.number ≡ e.number
  pub ack : m.ack ≡ e.acknowledged
  pub flags : m.flags ≡ e.flags
  pub payload : m.payload ≡ length e.segment.payload

-- the answer is this one of the definitions
abbrev pub Tells : List ℕ → Told → book.NodeOutcome → Type 0
Tells room tells.Done o = o ≡ book.Performed
Tells room tells.InUse o = o ≡ book.InUse
Tells room tells.NodeFull o = o ≡ book.NodeFull
Tells room tells.NoConnection o = o ≡ book.NoConnection
Tells room tells.Full o = o ≡ book.NoRoom
Tells room tells.Closed o = o ≡ book.ConnectionClosing
Tells room (tells.Sent m) o = (e : Emission) × (o ≡ book.Transmitted e) × TellsMade room m e
Tells room tells.NoKey o = o ≡ book.NoUsableKey
Tells room tells.Idle o = o ≡ book.NothingToSend
Tells room tells.Nothing o = o ≡ book.NothingToResend
Tells room (tells.Answered answer) o = o ≡ book.DatagramAnswered answer
Tells room (tells.Took bytes shown) o = o ≡ book.Delivered bytes shown

-- how many bytes of the buffer a segment takes
abbrev pub length_told : Told → ℕ
length_told (tells.Sent m) = m.length
length_told _ = 0
