-- A datagram as it is sealed.
use Rattle.std.specs.Prelude.{ℕ, List, Some}
use Rattle.book_segments.specs.Segments.{Segment}
use Rattle.book_keys.specs.Coordination.{Sending}
use Rattle.book_shim.specs.declared.kept.Kept.{Kept}
use Rattle.book_shim.specs.Leaving.{Sealed, as_sent, past_sent, with_ao, input_for, code_for}

-- a datagram sealed under the key of the row, its other options being these (RFC 5925, section 7.4)
abbrev pub sealed_with : Kept → Segment → (area : List ℕ) → Sending → (context : List ℕ) → (number : ℕ) → Sealed
sealed_with g d area s context n =
    let input = input_for d area s n in
    record {
      kept = record (past_sent g d n) { current = Some s.number };
      given = d;
      sending = s;
      number = n;
      context = context;
      input = input;
      segment = as_sent (with_ao d area s (code_for s context input));
    }
