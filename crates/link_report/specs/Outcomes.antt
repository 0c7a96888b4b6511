-- Which outcome of the definitions a told one shows.
use Rattle.std.specs.Prelude.{◌≡◌, ℕ, List, [], ◌∷◌, length, ⊤}
use Rattle.ao_check.specs.Sendings.{told}
use Rattle.book_link.specs.Outcomes as book
use Rattle.book_link.specs.Worlds.{Made as BookMade}
use Rattle.book_macs.specs.Contexts.{bytes_of}
use Rattle.tcp_endpoint.specs.declared.emission.Made.{Made}
use Rattle.link_report.specs.declared.outcome.Outcome.{Outcome}
use Rattle.link_report.specs.declared.outcome.Outcome.TheVariants as outcome

-- what is told of a segment that was made
pub record TellsMade (name : ℕ) (m : Made) (made : BookMade) : Type 0 where
  pub name_is : made.name ≡ name
  pub long : m.length ≡ length made.bytes
  pub sending : m.sending ≡ told made.emission.sending
  pub number : m.number ≡ made.emission.number
  pub ack : m.ack ≡ made.emission.acknowledged
  pub flags : m.flags ≡ made.emission.flags
  pub payload : m.payload ≡ length made.emission.segment.payload
  pub context : bytes_of m.context ≡ made.emission.context

-- the told outcome shows this one
abbrev pub Shows : Outcome → book.Outcome → Type 0
Shows outcome.Done is = is ≡ book.Done
Shows outcome.IsnUsed is = is ≡ book.IsnUsed
Shows outcome.NoSession is = is ≡ book.NoSession
Shows outcome.NoSegment is = is ≡ book.NoSegment
Shows outcome.NoPlace is = is ≡ book.NoPlace
Shows outcome.Full is = is ≡ book.Full
Shows outcome.Closed is = is ≡ book.HasClosed
Shows (outcome.Sent name m) is = (made : BookMade) × (is ≡ book.Sent made) × TellsMade name m made
Shows outcome.NoKey is = is ≡ book.WithoutKey
Shows outcome.Idle is = is ≡ book.Idle
Shows outcome.Nothing is = is ≡ book.Nothing
Shows (outcome.Arrival answer) is = is ≡ book.Answered answer
Shows (outcome.Took bytes shown) is = is ≡ book.Took bytes shown
Shows (outcome.Image bytes) is = is ≡ book.Image bytes
Shows (outcome.Added row) is = is ≡ book.Added row
Shows outcome.TooManyRows is = is ≡ book.TooManyRows
Shows (outcome.Overlap row) is = is ≡ book.OverlapWith row
Shows outcome.NoRow is = is ≡ book.NoRow

-- the bytes that a told outcome carries: those that were taken, or those of a segment (own)
abbrev pub content_of : Outcome → List ℕ
content_of (outcome.Took bytes shown) = bytes
content_of (outcome.Image bytes) = bytes
content_of _ = []

-- the told outcomes show these, one by one
abbrev pub AreShown : List Outcome → List book.Outcome → Type 0
AreShown [] [] = ⊤
AreShown [] (is ∷ after) = ⊥
AreShown (shown ∷ rest) [] = ⊥
AreShown (shown ∷ rest) (is ∷ after) = Shows shown is × AreShown rest after
