-- A row accepts what another sends exactly where it differs in no column.
use Rattle.std.proofs.Common.{◌≡◌, Bool, true, false, ◌&&◌, not, ◌==◌, refl, ap, ◌∙◌}
use Rattle.book_base.specs.declared.address.Pair.{Pair}
use Rattle.book_segments.specs.Bytes.{same_bytes}
use Rattle.book_keys.specs.Rows.{Row, matches, receives}
use Rattle.book_keys.specs.Plans.{mirrored, same_flag, accepts_from}
use Rattle.book_base.specs.Algorithms.{same_algorithm}
use Rattle.book_plans.specs.Differences.{differences, is_alike}

twice_not : (a : Bool) → not (not a) ≡ a
twice_not true = refl
twice_not false = refl

and_of : (a b c d : Bool) → a ≡ b → c ≡ d → (a && c) ≡ (b && d)
and_of a b c d e f = rw (e, f) refl

-- differing in none of six columns, which are looked at in two groups
none_differ : (a b c d e f : Bool)
    → (not (not a) && (not (not b) && (not (not c) && (not (not d) && (not (not e) && not (not f)))))) ≡ (a && (b && (c && (d && (e && f)))))
none_differ a b c d e f =
    and_of (not (not a)) a _ _ (twice_not a) (and_of (not (not b)) b _ _ (twice_not b) (and_of (not (not c)) c _ _ (twice_not c)
    (and_of (not (not d)) d _ _ (twice_not d) (and_of (not (not e)) e _ _ (twice_not e) (twice_not f)))))

pub alike_accepts : (pair : Pair) (r other : Row) → is_alike (differences pair r other) ≡ accepts_from pair r other
alike_accepts pair r other =
    none_differ (matches other (mirrored pair)) (receives other.direction) (other.recv_id == r.send_id)
    (same_bytes other.master r.master) (same_algorithm other.algorithm r.algorithm) (same_flag other.with_options r.with_options)
