-- What a call of `read` on bytes in memory gives.
use Rattle.std.proofs.Common.{◌≡◌, ℕ, ◌+◌, ◌-◌, ◌<◌, ◌≤◌, min, List, [], ◌∷◌, ◌++◌, length, take, drop, Some, Ok, refl, sym, ap, arith}
use Rattle.std.proofs.lemmas.List.{length-append, length-take-le, length-drop, take-append-drop, nil_from_length}
use Rattle.std.proofs.Math.Seq.{take-append_seam}
use Rattle.ao_base.specs.InMemory.{unless_told}
use Rattle.ao_base.specs.Outside.{Reads, Side}

-- what is told when less is left
told_less : (failing : List ℕ) (all passed left most : ℕ) → unless_told failing all ≡ Some most → left + passed ≡ all →
    unless_told failing left ≡ Some (most - passed)
told_less [] all passed left most is parts =
    let same : all ≡ most = cc in
    let rest : left ≡ most - passed = omega arith in ap Some rest
told_less (call ∷ failing) all passed left most is parts = absurd (cc)

-- a source of which some calls are told to fail
abbrev pub left_side : List ℕ → List ℕ → ℕ → Side
left_side left failing faults = record { bytes = Some left; faults = faults; quiet = unless_told failing (length left + 1) }

pub given : {E : Type 0} (left buf new after failing : List ℕ) (n piece faults : ℕ) →
    n ≡ min (min piece (length buf)) (length left) → new ≡ take n left ++ drop n buf → after ≡ drop n left → 1 ≤ piece →
    Reads {E = E} (left_side left failing faults) (left_side after failing faults) new (Ok n)
given left buf new after failing n piece faults n_is new_is after_is some =
    let copied : length (take n left) ≡ n = length-take-le n left (omega arith) in
    let kept : length (drop n buf) ≡ length buf - n = length-drop n buf in
    let rest : length (drop n left) ≡ length left - n = length-drop n left in
    let whole : length (take n left ++ drop n buf) ≡ length buf = rw (length-append (take n left) (drop n buf)) (omega arith) in
    let front : take n (take n left ++ drop n buf) ≡ take n left =
    rw copied at (take-append_seam (take n left) (drop n buf)) in
    record {
      room = rw (new_is, whole) (omega arith);
      gave = record {
        bytes = rw (new_is, front, after_is) (sym (take-append-drop n left));
        counts = record {
          later = omega arith;
          small = λ h. h;
          quiet = λ most is less. (refl, rw (new_is, front, copied) (told_less failing (length left + 1) n (length after + 1) most is (rw after_is (omega arith))));
        };
      };
      ends = λ none more. rw after_is (nil_from_length (drop n left) (let l : 0 < length buf = rw (new_is, whole) at more in omega arith));
      failed = tt;
    }
