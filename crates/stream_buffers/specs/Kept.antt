-- What a contract sees of a reassembly: the bytes that are kept, by position.
use Rattle.std.specs.Prelude.{◌≡◌, ℕ, ◌+◌, ◌-◌, ◌^◌, ◌<◌, ◌≤◌, ◌%◌, nat_le, false, List, [], ◌∷◌, Option, None, slice_index_or, IsSome, refl, if◌then◌else◌}
use Rattle.std.specs.Coded.{Coded, code_by, coded×, coded_ℕ, coded_list, coded_option}
use Rattle.stream_buffers.specs.declared.slot.Slot.{Slot}
use Rattle.book_segments.specs.Bytes.{ring}
use Rattle.book_segments.specs.Received.{keep, first_missing, runs, below_limit}
use Rattle.stream_buffers.specs.declared.run.Run.{Run}

-- the first position that isn't taken, the first missing position, and for each position from the first one on the byte that is kept there (own)
pub record Kept : Type 0 where
  pub from : ℕ
  pub expected : ℕ
  pub bytes : List (Option ℕ)

-- its fields, one after another (own)
abbrev pub kept_code : Coded Kept
kept_code =
    code_by
    (ℕ × (ℕ × List (Option ℕ)))
    (coded× coded_ℕ (coded× coded_ℕ (coded_list (coded_option coded_ℕ))))
    (λ k. (k.from, (k.expected, k.bytes)))
    (λ p. record { from = p.0; expected = p.1.0; bytes = p.1.1 })
    (λ _. refl)

-- the byte at a position, if one is kept there (own)
abbrev pub byte_at : Kept → ℕ → Option ℕ
byte_at k p = if nat_le k.from p then slice_index_or k.bytes (p - k.from) None else None

-- how many bytes are ready to be taken (own)
abbrev pub ready_count : Kept → ℕ
ready_count k = k.expected - k.from

-- how many positions are open from the first missing one on: 65,535 less the ready bytes (RFC 9293, section 3.8.6)
abbrev pub window : Kept → ℕ
window k = 65535 - ready_count k

-- the bytes where a piece at a position is kept as well, within the window and below a limit if there is one (RFC 9293, section 3.10.7.4)
abbrev pub grown : Kept → ℕ → List ℕ → Option ℕ → ℕ → Option ℕ
grown k n piece limit =
    keep (byte_at k) (record { number = n; bytes = piece })
    (record { low = k.expected; high = below_limit limit (k.expected + window k) })

-- the first missing position where these bytes are kept (own)
abbrev pub missing_then : Kept → (ℕ → Option ℕ) → ℕ
missing_then k m = first_missing m k.expected (window k)

-- how many separate runs lie past the first missing position where these bytes are kept (own)
abbrev pub runs_then : Kept → (ℕ → Option ℕ) → ℕ
runs_then k m = let x = missing_then k m in runs m false x (k.expected + window k - x)

-- the first missing position is the first one from `from` on without a byte, and no byte is kept 65,535 or more positions on (own)
pub record IsKept (k : Kept) : Type 0 where
  pub ordered : k.from ≤ k.expected
  pub few : k.expected ≤ k.from + 65535
  pub within : k.expected ≤ 2 ^ 63
  pub ready : (p : ℕ) → k.from ≤ p → p < k.expected → IsSome (byte_at k p)
  pub missing : byte_at k k.expected ≡ None
  pub far : (p : ℕ) → k.from + 65535 ≤ p → byte_at k p ≡ None

-- it keeps these bytes, of which those from `start` to below `missing` are ready (own)
pub record Shows (k : Kept) (start missing : ℕ) (m : ℕ → Option ℕ) : Type 0 where
  pub from : k.from ≡ start
  pub expected : k.expected ≡ missing
  pub bytes : (p : ℕ) → byte_at k p ≡ m p

-- the bytes without those below a position (own)
abbrev pub forgotten_below : ℕ → (ℕ → Option ℕ) → ℕ → Option ℕ
forgotten_below n m p = if nat_le n p then m p else None

-- past a missing position the bytes lie in these separate runs, in order, each with the sequence number of its first byte and its number of bytes (own)
abbrev pub RunsFrom : (ℕ → Option ℕ) → ℕ → List (Slot × Run) → Type 0
RunsFrom m at [] = (p : ℕ) → at ≤ p → m p ≡ None
RunsFrom m at (r ∷ rs) =
    (first : ℕ) × (at < first) × (r.1.first ≡ first % ring) × (0 < r.1.length)
    × ((p : ℕ) → at ≤ p → p < first → m p ≡ None)
    × ((p : ℕ) → first ≤ p → p < first + r.1.length → IsSome (m p))
    × RunsFrom m (first + r.1.length) rs
