-- Headers of BGP messages that have no fault.
use Rattle.std.proofs.Common.{◌≡◌, ℕ, ◌≤◌, Bool, true, false, not, ◌||◌, List, take, Option, Some, None, cond, refl, sym}
use Rattle.std.proofs.lemmas.Bool.{le-ltb, ltb-false}
use Rattle.std.proofs.lemmas.Slice.Eq.{bytes_eq-Decides}
use Rattle.std.specs.Prelude.{bytes_eq}
use Rattle.book_bgp.specs.Messages.{header_fault, kind_in, length_in, is_kind, fits_kind, marker}

-- a header without a fault
pub record IsSound (header : List ℕ) : Type 0 where
  pub marked : take 16 header ≡ marker
  pub least : 19 ≤ length_in header
  pub most : length_in header ≤ 4096
  pub known : is_kind (kind_in header) ≡ true
  pub fits : fits_kind (kind_in header) (length_in header) ≡ true

none_of : {A : Type 0} (test : Bool) (fault : A) (others : Option A) → cond test (Some fault) others ≡ None → (test ≡ false) × (others ≡ None)
none_of true fault others is = absurd (cc)
none_of false fault others is = (refl, is)

not_true : (test : Bool) → not test ≡ false → test ≡ true
not_true true is = refl
not_true false is = sym is

neither : (one two : Bool) → (one || two) ≡ false → (one ≡ false) × (two ≡ false)
neither true two is = absurd (cc)
neither false two is = (refl, is)

pub sound : (header : List ℕ) → header_fault header ≡ None → IsSound header
unfolding header_fault
sound header is =
    let marked = none_of _ _ _ is in
    let long = none_of _ _ _ marked.1 in
    let known = none_of _ _ _ long.1 in
    let fits = none_of _ _ _ known.1 in
    let range = neither _ _ long.0 in
    record {
      marked = (bytes_eq-Decides (take 16 header) marker).0 (not_true _ marked.0);
      least = ltb-false (length_in header) 19 range.0;
      most = ltb-false 4096 (length_in header) range.1;
      known = not_true _ known.0;
      fits = not_true _ fits.0;
    }

pub sound_none : (header : List ℕ) → IsSound header → header_fault header ≡ None
unfolding header_fault
sound_none header s =
    let same : bytes_eq (take 16 header) marker ≡ true = (bytes_eq-Decides (take 16 header) marker).1 s.marked in
    rw (same, le-ltb (length_in header) 19 s.least, le-ltb 4096 (length_in header) s.most, s.known, s.fits) refl
