-- A segment that is made keeps the facts.
use Rattle.std.proofs.Common.{◌≡◌, ℕ, ◌≤◌, List, Option, Some, None, refl, subst, sym}
use Rattle.std.specs.Prelude.{is_some}
use Rattle.std.specs.List.{AllByRecursion}
use Rattle.book_base.specs.declared.end.End.{End}
use Rattle.book_macs.specs.Contexts.{context_of}
use Rattle.book_keys.specs.Coordination.{Sending, choose as choose_row}
use Rattle.book_endpoint.specs.States.{EndState}
use Rattle.book_endpoint.specs.Emissions.{Draft, Emitted, Quiet, NoKey, most_bytes, blank, seal_known}
use Rattle.endpoint_steps.specs.Drafting.{keyed, emitted, to_emit, to_resend}
use Rattle.endpoint_steps.proofs.Drafting.{emit_by_drafts, resend_by_drafts}
use Rattle.law_link.proofs.Tests.{choose}
use Rattle.law_link.proofs.Sound.{Sound}
use Rattle.law_link.proofs.Whole.{Whole}
use Rattle.law_link.proofs.Carrying.{Carries, MayCarry, emit_carries, resend_carries}
use Rattle.law_link.proofs.Drafts.{DraftOk, MayDraft, most_low, emit_ok, resend_ok}
use Rattle.book_link.specs.Outcomes.{Outcome, Idle, Nothing, WithoutKey}
use Rattle.book_link.specs.Worlds.{Setup, pair_of, World, side}
use Rattle.book_link.specs.Steps.{quietly, sent, send, send_again, view_of}
use Rattle.law_link.specs.Laws.{RowFits}
use Rattle.law_link.proofs.Keeping.{same_gained, ActOk}
use Rattle.law_link.proofs.Calls.{still_ok}

module _ (setup : Setup) (e : End) (w : World) (rows_fit : AllByRecursion RowFits (side w e).rows) (s : EndState) (sound : Sound s) (whole : Whole s) where
  quiet_ok : (without : Outcome) → ActOk setup e s (quietly s without)
  quiet_ok without = still_ok setup e s without sound whole

  sealed_ok : (without : Outcome) (out : Draft) (sending : Sending) (o : Option (List ℕ)) → DraftOk s out → Carries s out
      → choose_row s.current (side w e).rows (pair_of setup e) (side w e).clock ≡ Some sending
      → context_of (blank (pair_of setup e) s out sending) (Some s.isn) s.peer_isn ≡ o → ActOk setup e s (sent (view_of setup w e) s without (seal_known (pair_of setup e) s out sending o))
  sealed_ok without out sending None ok carry picked known = quiet_ok without
  sealed_ok without out sending (Some c) ok carry picked known =
      record {
        later = ok.later;
        sound = ok.sound;
        whole = carry.whole;
        shown = λ t. absurd (cc);
        made = (
          refl,
          record {
            state = s;
            later = ok.later;
            sound = sound;
            whole = whole;
            draft = out;
            drafted = ok;
            carries = carry;
            sending = sending;
            rows_fit = rows_fit;
            picked = picked;
            context = c;
            known = known;
            emission = refl;
            bytes = refl;
            isn = refl;
            sent = ok.sent;
          },
        );
        gained = same_gained setup e s (record (out.state) { current = Some sending.number }) _ carry.same_received carry.same_fin carry.same_una;
      }

  keyed_ok : (without : Outcome) (sending : Sending) (o : Option Draft) → MayDraft s o → MayCarry s o → choose_row s.current (side w e).rows (pair_of setup e) (side w e).clock ≡ Some sending
      → ActOk setup e s (sent (view_of setup w e) s without (keyed (pair_of setup e) s sending o))
  keyed_ok without sending None ok carry picked = quiet_ok without
  keyed_ok without sending (Some out) ok carry picked = sealed_ok without out sending (context_of (blank (pair_of setup e) s out sending) (Some s.isn) s.peer_isn) ok carry picked refl

  emitted_ok : (without : Outcome) (draft : ℕ → Option Draft) (o : Option Sending) → ((most : ℕ) → most ≤ 1460 → MayDraft s (draft most)) → ((most : ℕ) → MayCarry s (draft most))
      → choose_row s.current (side w e).rows (pair_of setup e) (side w e).clock ≡ o → ActOk setup e s (sent (view_of setup w e) s without (emitted (pair_of setup e) s draft o))
  emitted_ok without draft None ok carry picked =
      choose (λ (x : Emitted). ActOk setup e s (sent (view_of setup w e) s without x)) (is_some (draft 0)) NoKey Quiet (λ t. quiet_ok WithoutKey) (λ t. quiet_ok without)
  emitted_ok without draft (Some sending) ok carry picked =
      let most = most_bytes (pair_of setup e) s sending in
      keyed_ok without sending (draft most) (ok most (most_low (pair_of setup e) s sending)) (carry most) picked

  pub send_ok : ActOk setup e s (send (view_of setup w e) s)
  send_ok =
      subst (λ (x : Emitted). ActOk setup e s (sent (view_of setup w e) s Idle x)) (sym (emit_by_drafts (side w e).rows (pair_of setup e) (side w e).clock s))
      (emitted_ok Idle (to_emit s) (choose_row s.current (side w e).rows (pair_of setup e) (side w e).clock)
      (λ most low. emit_ok s most low sound) (λ most. emit_carries s most whole) refl)

  pub resend_act_ok : ActOk setup e s (send_again (view_of setup w e) s)
  resend_act_ok =
      subst (λ (x : Emitted). ActOk setup e s (sent (view_of setup w e) s Nothing x)) (sym (resend_by_drafts (side w e).rows (pair_of setup e) (side w e).clock s))
      (emitted_ok Nothing (to_resend s) (choose_row s.current (side w e).rows (pair_of setup e) (side w e).clock)
      (λ most low. resend_ok s most low sound) (λ most. resend_carries s most whole) refl)
