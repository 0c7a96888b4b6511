-- A datagram that was found with its MAC, and the MAC that was made of it.
use Rattle.std.specs.Prelude.{◌≡◌, ℕ, List, Some, Result, Ok, Err}
use Rattle.book_base.specs.declared.algorithm.Algorithm.{Algorithm}
use Rattle.book_segments.specs.Options.{Ao, One, find_ao}
use Rattle.book_segments.specs.Segments.{Segment}
use Rattle.text_lines.specs.declared.word_problem.WordProblem.{WordProblem}
use Rattle.text_lines.specs.declared.word_problem.WordProblem.TheVariants as refusal
use Rattle.cmd_show.specs.declared.signed.SignedDatagram.{SignedDatagram}
use Rattle.book_cmd_check.specs.Vectors.{MacMaking, Vector, mac_of_signed, signed_of}

-- a datagram that was found with its MAC
pub record IsSigned (algorithm : Algorithm) (bytes : List ℕ) (s : SignedDatagram) : Type 0 where
  pub ao : Ao
  pub found : find_ao s.datagram.area ≡ One ao
  pub mac : ao.mac ≡ s.mac.now
  pub signed : signed_of algorithm bytes ≡ Some (record { segment = s.datagram; ao = ao })

-- the MAC that was made of a datagram, for the TCP-AO option that it has
abbrev pub IsMade : List ℕ → MacMaking → Segment → List ℕ → Type 0
IsMade master m d bytes = (ao : Ao) → find_ao d.area ≡ One ao → bytes ≡ mac_of_signed master m (record { segment = d; ao = ao })

-- the vector that was made of a datagram
abbrev pub IsMadeVector : List ℕ → MacMaking → SignedDatagram → Result Vector WordProblem → Type 0
IsMadeVector master m s (Ok v) = IsMade master m s.datagram v.computed × (v.expected ≡ s.mac.now)
IsMadeVector master m s (Err refusal.Memory) = Unit {0}
IsMadeVector master m s (Err (refusal.Kind kind)) = ⊥
