-- One call of a reader of lines.
use Rattle.std.proofs.Common.{◌≡◌, ℕ, ◌+◌, ◌-◌, ◌≤◌, ◌==◌, Bool, true, false, cond, min, List, ◌++◌, length, take, drop, None, Some, refl, sym, ap, ◌∙◌, append_assoc, arith}
use Rattle.std.proofs.lemmas.List.{length-append, length-drop, length-take-le}
use Rattle.std.specs.Prelude.{slice_range}
use Rattle.ao_base.specs.Outside.{Side, told}
use Rattle.ao_base.proofs.Sides.{told_given}
use Rattle.ao_base.specs.declared.reader.LineStep.{LineStep}
use Rattle.ao_base.specs.declared.reader.LineStep.TheVariants.{Line, End, Fault, TooLong, LongLine}
use Rattle.ao_base.specs.declared.search.Found.TheVariants as found
use Rattle.ao_base.specs.Buffered.{Buffered}
use Rattle.ao_base.specs.Found.{Finds}
use Rattle.ao_base.specs.Reads.{Reading, Advances, IsQuiet, IsLineOrEnd}
use Rattle.ao_base.proofs.Slices.{part_front}
use Rattle.ao_base.proofs.Newlines.{cut_of, long_and_none, long_line, longer, plain_front, within, first_of, past_within}

quiet_step : (before now : Reading) (source_before source_now : Side) (given left : List ℕ) (step : LineStep) →
    left ≡ given ++ told source_now.bytes → Advances before now source_before source_now given step → IsQuiet before source_before source_now left → IsLineOrEnd step
quiet_step before now source_before source_now given left Line split advances quiet = tt
quiet_step before now source_before source_now given left End split advances quiet = tt
quiet_step before now source_before source_now given left Fault split advances quiet = absurd (quiet.quiet advances.answers.1)
quiet_step before now source_before source_now given left TooLong split advances quiet =
    let size : length left ≡ length given + length (told source_now.bytes) = rw split (length-append given (told source_now.bytes)) in
    let over = advances.answers.1 in
    let taken = advances.taken in
    let most = quiet.most in
    absurd (omega arith)
quiet_step before now source_before source_now given left LongLine split advances quiet =
    let text : now.kept ++ told source_now.bytes ≡ before.kept ++ left =
    ap (λ xs. xs ++ told source_now.bytes) advances.answers.0.kept ∙ (append_assoc before.kept given (told source_now.bytes) ∙ ap (λ xs. before.kept ++ xs) (sym split)) in
    let long = longer before.longest now.kept (told source_now.bytes) advances.answers.1 in
    absurd (long_and_none before.longest _ (rw text at long) quiet.longest)

-- within the limits and without a fault a line or the end comes
pub quiet_call : (before now : Reading) (source_before source_now : Side) (given left : List ℕ) (step : LineStep) →
    Advances before now source_before source_now given step → IsQuiet before source_before source_now left → IsLineOrEnd step
quiet_call before now source_before source_now given left step advances quiet =
    quiet_step before now source_before source_now given left step (told_given source_before.bytes source_now.bytes given left quiet.told advances.gave.bytes) advances quiet

-- what a reader is seen as
abbrev pub reading : ℕ → ℕ → ℕ → Bool → Bool → Bool → Buffered → Reading
reading longest most handed shown ended over buffer =
    record { longest = longest; most = most; kept = buffer.kept; taken = handed + length buffer.kept; lacks_newline = ended; over = over; line = cond shown (Some buffer.piece) None }

-- the line that a search found goes out, with its newline
pub line_call : (longest most handed past n : ℕ) (shown ended over : Bool) (before now : Buffered) (a b : Side) (given : List ℕ) →
    over ≡ false → handed ≤ most → before.size ≡ longest + 65536 → past ≡ min (n + 1) (length now.kept) →
    Finds longest (most - handed) before now a b given (found.Line n) →
    Advances (reading longest most handed shown ended over before)
    (reading longest most (handed + past) true (past == n) over (record { kept = drop past now.kept; piece = slice_range now.kept 0 n; size = now.size })) a b given Line
line_call longest most handed past n shown ended over before now a b given going in_limit size past_is finds =
    let rest : length (drop past now.kept) ≡ length now.kept - past = length-drop past now.kept in
    let whole : length (before.kept ++ given) ≡ length before.kept + length given = length-append before.kept given in
    let all : length now.kept ≡ length before.kept + length given = ap length finds.kept ∙ whole in
    let fits = finds.fits in
    let same = finds.size in
    let found = finds.found in
    let inside : n ≤ length now.kept = rw found.0 (within now.kept) in
    let passed : past ≤ most - handed = past_within n past (length now.kept) (most - handed) b past_is inside found.3 found.4 in
    record {
      gave = finds.gave;
      longest = refl;
      most = refl;
      taken = omega arith;
      counted = omega arith;
      bound = omega arith;
      held = omega arith;
      answers = (
        take n now.kept,
        record {
          shown = ap Some (part_front now.kept n);
          first = rw (← finds.kept) (first_of now.kept b n past found.0 inside found.2 past_is (λ e. (found.4 e).0));
          plain = plain_front now.kept n found.0;
          cut = rw (← finds.kept) (cut_of now.kept b n past (past == n) refl found.0 inside found.2 past_is (λ e. (found.4 e).0));
          short = rw (length-take-le n now.kept inside) found.1;
          within = omega arith;
          going = going;
        },
      );
    }

-- a line that is too long ends the reading
pub long_call : (longest most handed : ℕ) (shown ended over : Bool) (before now : Buffered) (a b : Side) (given : List ℕ) →
    before.size ≡ longest + 65536 → Finds longest (most - handed) before now a b given found.LongLine →
    Advances (reading longest most handed shown ended over before) (record (reading longest most handed shown ended over now) { over = true; line = None }) a b given LongLine
long_call longest most handed shown ended over before now a b given size finds =
    let whole : length (before.kept ++ given) ≡ length before.kept + length given = length-append before.kept given in
    let all : length now.kept ≡ length before.kept + length given = ap length finds.kept ∙ whole in
    let fits = finds.fits in
    let same = finds.size in
    record {
      gave = finds.gave;
      longest = refl;
      most = refl;
      taken = omega arith;
      counted = omega arith;
      bound = omega arith;
      held = omega arith;
      answers = (record { line = refl; kept = finds.kept; lacks_newline = refl; over = refl }, long_line longest now.kept finds.found);
    }
