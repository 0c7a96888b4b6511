-- Texts put behind one another, as loops put them.
use Rattle.std.proofs.Common.{◌≡◌, ℕ, List, [], ◌∷◌, ◌++◌, map, Result, Ok, Err, refl, sym, ap, ◌∙◌, append_assoc}
use Rattle.std.proofs.lemmas.List.{append-nil}
use Rattle.std.specs.List.{flat_map}
use Rattle.book_segments.specs.Options.{Plain}
use Rattle.book_lines.specs.declared.text_fault.TextFault.{TextFault}
use Rattle.book_lines.specs.declared.text_fault.TextFault.TheVariants as fault
use Rattle.book_lines.specs.Lines.{Line}
use Rattle.book_base.specs.Results.{◌>>=◌}
use Rattle.book_lines.specs.Said.{Said, at_number, said_by}
use Rattle.text_lines.specs.Readings.{Fails}
use Rattle.cmd_show.specs.Loops.{shown_from}
use Rattle.book_cmd_check.specs.Show.{bytes_of_line, shown_line}
use Rattle.book_lines.specs.Texts.{spaced}
use Rattle.book_cmd_check.specs.DatagramTexts.{option_text}
use Rattle.text_lines.proofs.SaidLaws.{said_few, same_fault}

pub one_more_option : (before after all : List ℕ) (o : Plain) (options rest : List Plain) → options ≡ o ∷ rest →
    before ++ spaced (map option_text options) ≡ all → after ≡ before ++ 32 ∷ option_text o → after ++ spaced (map option_text rest) ≡ all
one_more_option before after all o options rest next so_far more =
    rw more (append_assoc before (32 ∷ option_text o) (spaced (map option_text rest)) ∙ sym (ap (λ os. before ++ spaced (map option_text os)) next) ∙ so_far)

pub no_more_option : (out all : List ℕ) (options : List Plain) → options ≡ [] → out ++ spaced (map option_text options) ≡ all → out ≡ all
no_more_option out all options none so_far = sym (append-nil out) ∙ sym (ap (λ os. out ++ spaced (map option_text os)) none) ∙ so_far

module _ (before : List ℕ) (l : Line) (ls lines : List Line) (whole : Result (List ℕ) TextFault) (next : lines ≡ l ∷ ls) (so_far : shown_from before (said_by bytes_of_line lines) ≡ whole) where
  step : shown_from before (said_by bytes_of_line (l ∷ ls)) ≡ whole
  step = sym (ap (λ x. shown_from before (said_by bytes_of_line x)) next) ∙ so_far

  others_shown : (bytes out : List ℕ) (others : Result (List (Said (List ℕ))) TextFault) → out ≡ before ++ shown_line (record { number = l.number; value = bytes }) →
      shown_from out others ≡ shown_from before (others >>= λ o. Ok (record { number = l.number; value = bytes } ∷ o))
  others_shown bytes out (Ok said) more = rw more (ap Ok (append_assoc before (shown_line (record { number = l.number; value = bytes })) (flat_map shown_line said)))
  others_shown bytes out (Err e) more = refl

  pub line_shown : (bytes out : List ℕ) → at_number l.number (bytes_of_line l.words) ≡ Ok bytes → out ≡ before ++ shown_line (record { number = l.number; value = bytes }) →
      shown_from out (said_by bytes_of_line ls) ≡ whole
  unfolding said_by
  line_shown bytes out h more = others_shown bytes out (said_by bytes_of_line ls) more ∙ (rw h at step)

  pub line_refused : (f : TextFault) → Fails f (at_number l.number (bytes_of_line l.words)) → Fails f whole
  unfolding said_by
  line_refused fault.Memory h = tt
  line_refused fault.TooManyLines h = sym (rw h at step)
  line_refused (fault.Line n kind) h = sym (rw h at step)

pub lines_shown : (out : List ℕ) (lines : List Line) (whole : Result (List ℕ) TextFault) → lines ≡ [] → shown_from out (said_by bytes_of_line lines) ≡ whole → whole ≡ Ok out
unfolding said_by
lines_shown out lines whole none so_far = sym (rw none at so_far) ∙ ap Ok (append-nil out)

-- what lines say is never that they are too many
shown_few : (out : List ℕ) (said : Result (List (Said (List ℕ))) TextFault) → (said ≡ Err fault.TooManyLines → ⊥) → Fails fault.TooManyLines (shown_from out said) → ⊥
shown_few out (Ok said) few h = absurd (cc)
shown_few out (Err e) few h = few (same_fault e fault.TooManyLines h)

pub never_too_many : (ls : List Line) (out : List ℕ) (e : TextFault) → Fails e (shown_from out (said_by bytes_of_line ls)) → e ≡ fault.TooManyLines → ⊥
never_too_many ls out fault.Memory h is = absurd (cc)
never_too_many ls out fault.TooManyLines h is = shown_few out (said_by bytes_of_line ls) (said_few bytes_of_line ls) h
never_too_many ls out (fault.Line n kind) h is = absurd (cc)
