-- What a datagram of the own kernel is to be sealed with, and how it stands in a buffer.
use Rattle.std.specs.Prelude.{◌≡◌, ◌+◌, ◌-◌, ◌≤◌, ◌^◌, ℕ, false, List, ◌∷◌, length}
use Rattle.std.specs.Prelude.{Some, Ok, slice_get}
use Rattle.std.specs.List.{list_any}
use Rattle.book_base.specs.declared.address.Pair.{Pair}
use Rattle.book_base.specs.Algorithms.{mac_length_of}
use Rattle.book_segments.specs.Options.{Ao, One, find_ao, plains, listed, options_of}
use Rattle.book_segments.specs.Options.{ao_kind, ao_head_length}
use Rattle.book_segments.specs.Segments.{Segment, Read, reading, segment_length}
use Rattle.book_macs.specs.Contexts.{context_of, bytes_of}
use Rattle.book_macs.specs.Keys.{traffic_key}
use Rattle.book_keys.specs.Rows.{Row}
use Rattle.book_keys.specs.Coordination.{Sending}
use Rattle.book_endpoint.specs.Emissions.{ao_length, no_mac}
use Rattle.book_shim.specs.declared.kept.Kept.{Kept}
use Rattle.book_shim.specs.Keeping.{own_isn, peer_isn}
use Rattle.book_shim.specs.Relaying.{fitted, length_in_header}
use Rattle.book_shim.specs.Leaving.{as_sent, signs, entered, with_ao, input_for, code_for}
use Rattle.book_shim.specs.Leaving.{send_sealed, kept_for}
use Rattle.law_shim.specs.Seals.{sealed_with}
use Rattle.ao_check.specs.Sendings.{told}
use Rattle.ao_kdf.specs.declared.way.Way.TheVariants.{Outbound}
use Rattle.ao_kdf.specs.Cache.{Cache, kept, IsRight}
use Rattle.ao_shim.specs.declared.plan.Plan.{Plan}
use Rattle.ao_shim.specs.Guards.{is_single_use}

-- a TCP-AO option with these key identifiers and this MAC (RFC 5925, section 2.2)
abbrev pub ao_after : (key_id rnext_key_id : ℕ) → List ℕ → List ℕ
ao_after key_id rnext_key_id code =
    ao_kind ∷ (ao_head_length + length code) ∷ key_id ∷ rnext_key_id ∷ code

-- the bytes are read as a segment with one TCP-AO option, without TCP MD5 (RFC 5925, section 2.2)
pub record HasOne (bytes : List ℕ) : Type 0 where
  pub segment : Segment
  pub ao : Ao
  pub read : reading bytes ≡ Read segment
  pub found : find_ao segment.area ≡ One ao

-- a plan for a datagram names a row of the table, and the options that fit beside TCP-AO (own)
pub record IsReady (rows : List Row) (d : Segment) (p : Plan) : Type 0 where
  pub s : Sending
  pub sending_is : p.sending ≡ told s
  pub low : 1 ≤ p.sending.row
  pub high : p.sending.row ≤ length rows
  pub row_is : slice_get rows (p.sending.row - 1) ≡ Some s.row
  pub mac_length_is : p.mac_length ≡ mac_length_of s.row.algorithm
  pub plain : list_any signs (plains (listed (options_of d.area))) ≡ false
  pub fitted_is : fitted (40 - ao_length s) d.area ≡ Some p.fitted
  pub whole : length_in_header d.ip (with_ao d p.fitted s (no_mac s)) ≤ 65535

-- a datagram as its plan seals it (RFC 5925, section 7.4)
abbrev pub sealed_by : Segment → Plan → Sending → Segment
sealed_by d p s =
    as_sent (with_ao d p.fitted s
    (code_for s (bytes_of p.context) (input_for d p.fitted s p.number)))

-- what a datagram is sealed with as the definitions say, whatever the MTU (own)
pub record IsPlanned (rows : List Row) (now : ℕ) (pair : Pair) (g : Kept) (d : Segment)
    (p : Plan) : Type 0 where
  pub ready : IsReady rows d p
  pub kept_is : p.kept ≡ entered g d
  pub context_is : context_of d (own_isn (kept_for p.kept d)) (peer_isn (kept_for p.kept d))
      ≡ Some (bytes_of p.context)
  pub ends : p.number + segment_length d ≤ 2 ^ 63
  pub sent_is : (mtu : ℕ)
      → send_sealed (record { rows = rows; now = now; mtu = mtu }) pair g d
      ≡ Ok (sealed_with (entered g d) d p.fitted ready.s
      (bytes_of p.context) p.number)

-- where a key is kept for a segment whose key isn't used once, it is that of the plan's row and
-- context (own)
pub record HasKey (keys : Cache) (d : Segment) (p : Plan) (row : Row) : Type 0 where
  pub room : p.sending.row ≤ keys.rows
  pub right : is_single_use p.kept d ≡ false
      → IsRight (kept keys p.sending.row Outbound)
      (traffic_key row.algorithm row.master (bytes_of p.context))
