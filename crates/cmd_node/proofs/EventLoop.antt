-- Events read one after another, as a loop reads them.
use Rattle.std.proofs.Common.{◌≡◌, ℕ, List, [], ◌∷◌, ◌++◌, Result, Ok, Err, refl, sym, ap, ◌∙◌, append_assoc}
use Rattle.std.proofs.lemmas.List.{append-nil}
use Rattle.book_base.specs.declared.address.Address.{Address}
use Rattle.book_lines.specs.declared.text_fault.TextFault.{TextFault}
use Rattle.book_lines.specs.declared.text_fault.TextFault.TheVariants as fault
use Rattle.book_lines.specs.Lines.{Line}
use Rattle.book_lines.specs.Said.{at_number}
use Rattle.book_base.specs.Results.{◌>>=◌}
use Rattle.text_lines.specs.Readings.{Fails}
use Rattle.book_cmd_node.specs.declared.node.NodeEvent.{NodeEvent}
use Rattle.book_cmd_node.specs.NodeRuns.{node_event_of, node_events_of}

-- what is read already, and then what is said
abbrev pub after : List NodeEvent → Result (List NodeEvent) TextFault → Result (List NodeEvent) TextFault
after before (Ok others) = Ok (before ++ others)
after before (Err e) = Err e

event_first : (before : List NodeEvent) (e : NodeEvent) (others : Result (List NodeEvent) TextFault) →
    after before (others >>= λ xs. Ok (e ∷ xs)) ≡ after (before ++ e ∷ []) others
event_first before e (Ok others) = ap (λ (xs : List NodeEvent). Ok xs) (sym (append_assoc before (e ∷ []) others))
event_first before e (Err f) = refl

module _ (own : Address) (before : List NodeEvent) (l : Line) (ls lines : List Line) (whole : Result (List NodeEvent) TextFault)
    (next : lines ≡ l ∷ ls) (so_far : after before (node_events_of own lines) ≡ whole) where
  step : after before (node_events_of own lines) ≡ after before (at_number l.number (node_event_of own l.words) >>= λ e. node_events_of own ls >>= λ xs. Ok (e ∷ xs))
  unfolding node_events_of
  step = rw next refl

  pub event_read : (e : NodeEvent) → at_number l.number (node_event_of own l.words) ≡ Ok e → after (before ++ e ∷ []) (node_events_of own ls) ≡ whole
  event_read e h = sym (event_first before e (node_events_of own ls)) ∙ (sym (rw h at step) ∙ so_far)

  pub event_refused : (f : TextFault) → Fails f (at_number l.number (node_event_of own l.words)) → Fails f whole
  event_refused fault.Memory h = tt
  event_refused fault.TooManyLines h = sym so_far ∙ rw h at step
  event_refused (fault.Line n kind) h = sym so_far ∙ rw h at step

pub events_read : (own : Address) (before : List NodeEvent) (lines : List Line) (whole : Result (List NodeEvent) TextFault) → lines ≡ [] →
    after before (node_events_of own lines) ≡ whole → whole ≡ Ok before
unfolding node_events_of
events_read own before lines whole none so_far = sym (rw none at so_far) ∙ ap (λ (xs : List NodeEvent). Ok xs) (append-nil before)

pub none_read : (whole : Result (List NodeEvent) TextFault) → after [] whole ≡ whole
none_read (Ok xs) = refl
none_read (Err e) = refl
