-- Events read one after another, as a loop reads them.
use Rattle.std.proofs.Common.{◌≡◌, ℕ, List, [], ◌∷◌, ◌++◌, Result, Ok, Err, refl, sym, ap, ◌∙◌, append_assoc}
use Rattle.std.proofs.lemmas.List.{append-nil}
use Rattle.book_lines.specs.declared.line_kind.LineKind.{LineKind}
use Rattle.book_lines.specs.declared.text_fault.TextFault.{TextFault}
use Rattle.book_lines.specs.declared.text_fault.TextFault.TheVariants as fault
use Rattle.book_base.specs.Results.{◌>>=◌}
use Rattle.book_lines.specs.Lines.{Line}
use Rattle.text_lines.specs.Readings.{Fails}
use Rattle.book_cmd_link.specs.LinkFiles.{event_at, events_of}

-- what is read already, and then what is said
abbrev pub after : {A : Type 0} → List A → Result (List A) TextFault → Result (List A) TextFault
after before (Ok others) = Ok (before ++ others)
after before (Err e) = Err e

module _ {A : Type 0} (meaning : List (List ℕ) → Result A LineKind) where
  event_first : (before : List A) (e : A) (others : Result (List A) TextFault) →
      after before (others >>= λ xs. Ok (e ∷ xs)) ≡ after (before ++ e ∷ []) others
  event_first before e (Ok others) = ap (λ (xs : List A). Ok xs) (sym (append_assoc before (e ∷ []) others))
  event_first before e (Err f) = refl

  module _ (before : List A) (l : Line) (ls lines : List Line) (whole : Result (List A) TextFault)
      (next : lines ≡ l ∷ ls) (so_far : after before (events_of meaning lines) ≡ whole) where
    step : after before (events_of meaning lines) ≡ after before (event_at meaning l >>= λ e. events_of meaning ls >>= λ xs. Ok (e ∷ xs))
    unfolding events_of
    step = rw next refl

    pub event_read : (e : A) → event_at meaning l ≡ Ok e → after (before ++ e ∷ []) (events_of meaning ls) ≡ whole
    event_read e h = sym (event_first before e (events_of meaning ls)) ∙ (sym (rw h at step) ∙ so_far)

    pub event_refused : (f : TextFault) → Fails f (event_at meaning l) → Fails f whole
    event_refused fault.Memory h = tt
    event_refused fault.TooManyLines h = sym so_far ∙ rw h at step
    event_refused (fault.Line n kind) h = sym so_far ∙ rw h at step

  pub events_read : (before : List A) (lines : List Line) (whole : Result (List A) TextFault) → lines ≡ [] →
      after before (events_of meaning lines) ≡ whole → whole ≡ Ok before
  unfolding events_of
  events_read before lines whole none so_far = sym (rw none at so_far) ∙ ap (λ (xs : List A). Ok xs) (append-nil before)

pub none_read : {A : Type 0} (whole : Result (List A) TextFault) → after [] whole ≡ whole
none_read (Ok xs) = refl
none_read (Err e) = refl
