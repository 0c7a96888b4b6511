-- What one datagram makes of what is kept.
use Rattle.std.proofs.Common.{◌≡◌, ℕ, ◌&&◌, Bool, true, false, Option, Some, Result, Ok, Err, refl, sym, subst, if◌then◌else◌}
use Rattle.book_base.specs.declared.address.Pair.{Pair}
use Rattle.book_segments.specs.Sockets.{same_socket}
use Rattle.book_segments.specs.Segments.{Segment, Reading, Bad as Unread, Read, reading}
use Rattle.book_endpoint.specs.Arrivals.{from_peer}
use Rattle.book_shim.specs.declared.kept.Kept.{Kept}
use Rattle.book_shim.specs.declared.refusal.Unsent.{Unsent}
use Rattle.book_shim.specs.declared.refusal.Unsent.TheVariants.{Foreign}
use Rattle.book_shim.specs.declared.refusal.Untaken.{Untaken}
use Rattle.book_shim.specs.declared.refusal.Untaken.TheVariants.{Foreign as Strange}
use Rattle.book_shim.specs.Keeping.{Setting}
use Rattle.book_shim.specs.Leaving.{Sealed, entered, past_sent, send_sealed, send_read}
use Rattle.book_shim.specs.Arriving.{Opened, admitted, past_heard, handed_on, take_in, take_read}
use Rattle.law_shim.proofs.Sealing.{sends, takes}
use Rattle.law_shim.specs.Unsaved.{Coming, Leaves, Arrives, after_leaving, after_arriving, after}

-- what holds of what is kept, and once a datagram was sealed or taken, holds after whatever comes
module _ (P : Kept → Type 0) (g : Kept) (stays : P g) (out : (d : Segment) (n : ℕ) (w : Option ℕ) → P (record (past_sent (entered g d) d n) { current = w })) (back : (d : Segment) (n : ℕ) (w : Option ℕ) → P (record (past_heard (admitted g d) d n) { current = w })) where
  leaves_by : (here : Setting) (pair : Pair) (d : Segment) (r : Result Sealed Unsent) → send_sealed here pair g d ≡ r → P (after_leaving g r)
  leaves_by here pair d (Ok m) e = subst (λ (x : Sealed). P x.kept) (sym (sends here pair g d m e).sent_is) (out d m.number (Some m.sending.number))
  leaves_by here pair d (Err why) e = stays

  leaves_read : (here : Setting) (pair : Pair) (x : Reading) → P (after_leaving g (send_read here pair g x))
  leaves_read here pair (Unread fault) = stays
  leaves_read here pair (Read d) = by_test (same_socket d.source pair.local && same_socket d.destination pair.remote)
    where
      by_test : (b : Bool) → P (after_leaving g (if b then send_sealed here pair g d else Err Foreign))
      by_test true = leaves_by here pair d (send_sealed here pair g d) refl
      by_test false = stays

  arrives_by : (here : Setting) (pair : Pair) (d : Segment) (r : Result Opened Untaken) → take_in here pair g d ≡ r → P (after_arriving g r)
  arrives_by here pair d (Ok t) e = subst (λ (x : Opened). P x.kept) (sym (takes here pair g d t e).taken_is) (back d t.passed.number (handed_on here pair g d t.passed).kept.current)
  arrives_by here pair d (Err why) e = stays

  arrives_read : (here : Setting) (pair : Pair) (x : Reading) → P (after_arriving g (take_read here pair g x))
  arrives_read here pair (Unread fault) = stays
  arrives_read here pair (Read d) = by_test (from_peer pair d)
    where
      by_test : (b : Bool) → P (after_arriving g (if b then take_in here pair g d else Err Strange))
      by_test true = arrives_by here pair d (take_in here pair g d) refl
      by_test false = stays

  pub after_by : (pair : Pair) (e : Coming) → P (after pair g e)
  after_by pair (Leaves here bytes) = leaves_read here pair (reading bytes)
  after_by pair (Arrives here bytes) = arrives_read here pair (reading bytes)
