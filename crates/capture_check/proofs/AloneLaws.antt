-- A segment of which nothing is known costs no derivation, unless it has SYN: without the peer's initial sequence number no key can be kept.
use Rattle.std.proofs.Common.{◌≡◌, ◌<◌, ◌≤◌, ℕ, ◌-◌, Bool, true, false, List, Option, Some, None, ◌⊎◌, inl, inr, refl, arith}
use Rattle.std.specs.Prelude.{nat_lt, slice_get}
use Rattle.book_base.specs.declared.address.Pair.{Pair}
use Rattle.book_segments.specs.Options.{find_ao}
use Rattle.book_segments.specs.Segments.{Segment, has, SYN}
use Rattle.book_segments.proofs.Fields.{lt_is, lt_not}
use Rattle.book_keys.specs.Rows.{Row}
use Rattle.book_segments.specs.Segments.{pair_reached}
use Rattle.ao_kdf.specs.declared.way.Way.{Way}
use Rattle.ao_kdf.specs.declared.way.Way.TheVariants.{Inbound}
use Rattle.ao_check.specs.Bonds.{Bond, Fits, Counted, key_for}
use Rattle.ao_check.specs.Verdicts.{judging}
use Rattle.capture_check.specs.Judgements.{AloneCounts}

no_key : (o : Option Row) (way : Way) (pair : Pair) (own : ℕ) (peer : Option ℕ) (k : List ℕ) → peer ≡ None → key_for o way pair own peer ≡ Some k → ⊥
no_key None way pair own peer k p e = absurd (cc)
no_key (Some r) way pair own None k p e = absurd (cc)
no_key (Some r) way pair own (Some x) k p e = absurd (cc)

pub alone_counts : (rows : List Row) (now : ℕ) (d : Segment) (before after : Bond) (computed : Bool) (old new : ℕ) → Fits rows after → after.peer ≡ None
    → before.pair ≡ pair_reached d → Counted before.keys after.keys (judging rows before.pair now (find_ao d.area)) computed Inbound (has SYN d) old new → AloneCounts rows now d old new
alone_counts rows now d before after computed old new f none p c =
    let least = c.least in
    let most = c.most in
    record {
      least = least;
      most = most;
      free = λ n syn row. at n syn row (lt_or old new);
    }
  where
    lt_or : (x y : ℕ) → (x < y) ⊎ (y ≤ x)
    lt_or x y = tested (nat_lt x y) refl
      where
        tested : (b : Bool) → nat_lt x y ≡ b → (x < y) ⊎ (y ≤ x)
        tested true e = inl (lt_is x y e)
        tested false e = inr (lt_not x y e)

    at : (n : ℕ) → has SYN d ≡ false → judging rows (pair_reached d) now (find_ao d.area) ≡ Some n → (old < new) ⊎ (new ≤ old) → new ≡ old
    at n syn row (inl more) =
        let k = c.derived n syn (rw p row) more in
        absurd (no_key (slice_get rows (n - 1)) Inbound after.pair after.own after.peer k.0 none (f.keys n Inbound k.0 k.1))
    at n syn row (inr less) = let least = c.least in omega arith
