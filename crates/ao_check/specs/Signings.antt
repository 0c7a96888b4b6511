-- A segment that is to be signed.
use Rattle.std.specs.Prelude.{◌≡◌, ◌+◌, ◌≤◌, ◌^◌, ◌&&◌, not, false, is_some, ℕ, List, Option, Some}
use Rattle.book_base.specs.declared.address.Pair.{Pair}
use Rattle.book_segments.specs.Segments.{Segment, has, segment_length, SYN}
use Rattle.book_macs.specs.Contexts.{context_of}
use Rattle.book_keys.specs.Choices.{Numbered, accept_row}
use Rattle.book_endpoint.specs.Verdicts.{segment_number}
use Rattle.book_base.specs.Algorithms.{mac_length_of}
use Rattle.book_keys.specs.Rows.{Row}
use Rattle.tcp_segment.specs.declared.spelling.Head.{Head}
use Rattle.book_segments.specs.Options.{Ao}
use Rattle.tcp_segment.specs.Layout.{drafted, mss_length}
use Rattle.tcp_segment.specs.Drafts.{DatagramMut, Drafted, HasMacField}
use Rattle.ao_check.specs.Bonds.{Bond}
use Rattle.ao_check.specs.Contexts.{IsPlanned}

-- a draft with the association's sockets; it has SYN without ACK, or the peer's initial sequence number is known
pub record IsToSign (d : DatagramMut) (a : Bond) : Type 0 where
  pub head : Head
  pub mac : List ℕ
  pub payload : List ℕ
  pub rest : List ℕ
  pub drafted_so : Drafted d head mac payload rest
  pub source : head.source ≡ a.pair.local
  pub destination : head.destination ≡ a.pair.remote
  pub planned : IsPlanned (drafted head mac payload) a.peer

-- the MAC field has the length of the row's MACs
abbrev pub has_field : DatagramMut → Row → Type 0
has_field d r = HasMacField d (mac_length_of r.algorithm)

-- a row of the other end takes what this row signs: the same algorithm, key and flag (RFC 5925, section 3.1)
pub record SameTuple (r o : Row) : Type 0 where
  pub algorithm : o.algorithm ≡ r.algorithm
  pub master : o.master ≡ r.master
  pub with_options : o.with_options ≡ r.with_options

-- what the other end has for a signed segment: an acceptable row under its KeyID, the mirrored context, and the number
pub record Mirrors (rows : List Row) (pair : Pair) (own : ℕ) (peer expected : Option ℕ) (now : ℕ) (h : Head) (d : Segment) (r : Row) (n : Numbered) (context : List ℕ) (number : ℕ) : Type 0 where
  pub accepted : accept_row rows pair h.key_id now ≡ Some n
  pub tuple : SameTuple r n.row
  pub context_is : context_of d peer (Some own) ≡ Some context
  pub heard : (not (has SYN d) && not (is_some expected)) ≡ false
  pub number_is : Some number ≡ segment_number d expected
  pub end : number + segment_length d ≤ 2 ^ 63

-- the TCP-AO option of a draft
abbrev pub signed_ao : Head → List ℕ → Ao
signed_ao h mac = record { key_id = h.key_id; rnext_key_id = h.rnext; mac = mac; place = mss_length h.mss }
