-- A word that is put in two pieces.
use Rattle.std.proofs.Common.{◌≡◌, ℕ, List, ◌∷◌, ◌++◌, Result, Ok, Err, OnOk, sym, ap, ◌∙◌, append_assoc}
use Rattle.std.specs.Prelude.{codes}
use Rattle.std.proofs.lemmas.List.{append-nil}
use Rattle.book_endpoint.specs.declared.refusal.Refusal.{Refusal}
use Rattle.book_lines.specs.Texts.{spaced}
use Rattle.book_link.specs.Reports.{verdict_text}
use Rattle.book_sessions.specs.declared.outcome.SegmentOutcome.{SegmentOutcome}
use Rattle.book_sessions.specs.declared.outcome.SegmentOutcome.TheVariants as outcome
use Rattle.book_draw.specs.SessionLadders.{said_texts}

pub puts_unconfirmed : {E : Type 0} (result : Result (Unit {0}) E) (before after : List ℕ) (said : SegmentOutcome) (why : Refusal) → said ≡ outcome.UnconfirmedRefused why
    → OnOk result (after ≡ before ++ 32 ∷ codes "unconfirmed-" ++ verdict_text why) → OnOk result (after ≡ before ++ spaced (said_texts said))
puts_unconfirmed (Ok done) before after said why is put =
    put
    ∙ (append_assoc before (32 ∷ codes "unconfirmed-") (verdict_text why)
    ∙ (ap (λ (xs : List ℕ). before ++ 32 ∷ xs) (sym (append-nil (codes "unconfirmed-" ++ verdict_text why)))
    ∙ ap (λ o. before ++ spaced (said_texts o)) (sym is)))
puts_unconfirmed (Err e) before after said why is put = tt
