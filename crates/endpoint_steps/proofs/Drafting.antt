-- What is due, and then its draft, is the choice of a draft.
use Rattle.std.proofs.Common.{◌≡◌, ℕ, ◌==◌, nat_lt, Bool, true, false, not, ◌&&◌, List, Option, Some, None, if◌then◌else◌, refl, sym, ◌∙◌, arith}
use Rattle.std.specs.Prelude.{◌↔◌}
use Rattle.std.proofs.lemmas.Bool.Decides.{nat_tests}
use Rattle.book_base.specs.declared.address.Pair.{Pair}
use Rattle.book_keys.specs.Rows.{Row}
use Rattle.book_keys.specs.Coordination.{Sending, choose}
use Rattle.book_endpoint.specs.States.{EndState, given_end}
use Rattle.book_endpoint.specs.Emissions.{Draft, Due, Rst, Syn, SynAck, Data, Fin, Ack, data_draft, fin_draft, is_syn_sent, is_syn_received, is_silent, is_sending, sends_data, sends_fin, unsent, resends}
use Rattle.book_endpoint.specs.Emissions.{due_next, draft_next, due_probe, due_again, draft_again, made_if_due, most_bytes, emit, resend}
use Rattle.endpoint_steps.specs.Drafting.{to_emit, to_resend, unacknowledged, probe, emitted}

-- the draft of what is due, if anything is
abbrev pub drafted_if : (Due → ℕ → Draft) → Option Due → ℕ → Option Draft
drafted_if draft None most = None
drafted_if draft (Some due) most = Some (draft due most)

pick : (draft : Due → ℕ → Draft) (most : ℕ) (b : Bool) (due : Due) (rest : Option Due) (other : Option Draft) → other ≡ drafted_if draft rest most
    → (if b then Some (draft due most) else other) ≡ drafted_if draft (if b then Some due else rest) most
pick draft most true due rest other e = refl
pick draft most false due rest other e = e

pub to_emit_is : (s : EndState) (most : ℕ) → to_emit s most ≡ drafted_if (draft_next s) (due_next s) most
unfolding to_emit due_next
to_emit_is s most =
    let d = draft_next s in
    pick d most s.rst_owed Rst _ _ (
    pick d most (is_syn_sent s.phase && (s.next == s.isn)) Syn _ _ (
    pick d most (is_syn_received s.phase && (s.next == s.isn)) SynAck _ _ (
    pick d most (sends_data s) Data _ _ (
    pick d most (sends_fin s) Fin _ _ (
    pick d most (s.ack_owed && not (is_silent s.phase)) Ack None None refl)))))

-- what is made of the draft of what is due
pub by_drafts : (pair : Pair) (s : EndState) (draft : Due → ℕ → Draft) (due : Option Due) (choice : ℕ → Option Draft) (row : Option Sending)
    → ((most : ℕ) → choice most ≡ drafted_if draft due most) → made_if_due pair s draft due row ≡ emitted pair s choice row
by_drafts pair s draft None choice None e = rw (e 0) refl
by_drafts pair s draft None choice (Some sending) e = rw (e (most_bytes pair s sending)) refl
by_drafts pair s draft (Some due) choice None e = rw (e 0) refl
by_drafts pair s draft (Some due) choice (Some sending) e = rw (e (most_bytes pair s sending)) refl

pub emit_by_drafts : (rows : List Row) (pair : Pair) (now : ℕ) (s : EndState) → emit rows pair now s ≡ emitted pair s (to_emit s) (choose s.current rows pair now)
unfolding emit
emit_by_drafts rows pair now s = by_drafts pair s (draft_next s) (due_next s) (to_emit s) (choose s.current rows pair now) (to_emit_is s)

-- ---- again

not_below : (a b : ℕ) → (a == b) ≡ true → nat_lt a b ≡ false
not_below a b e = grind (arith, nat_tests)

unacked_is : (s : EndState) (most : ℕ) (may sent inside : Bool) (rest : Option Due) (other : Option Draft) → nat_lt s.una s.next ≡ sent → nat_lt s.una (given_end s) ≡ inside
    → other ≡ drafted_if (draft_again s) rest most
    → (if may && sent then Some (unacknowledged s most) else other) ≡ drafted_if (draft_again s) (if may && sent then Some (if nat_lt s.una (given_end s) then Data else Fin) else rest) most
unacked_is s most false sent inside rest other e f g = g
unacked_is s most true false inside rest other e f g = g
unacked_is s most true true true rest other e f g = rw (f, e) refl
unacked_is s most true true false rest other e f g = rw (f, e) refl

probe_is : (s : EndState) (most : ℕ) (waits closes : Bool) → nat_lt s.una s.next ≡ false
    → (if waits then Some (data_draft s 1) else (if closes then Some (fin_draft s) else None)) ≡ drafted_if (draft_again s) (if waits then Some Data else (if closes then Some Fin else None)) most
probe_is s most true closes e = rw e refl
probe_is s most false true e = rw e refl
probe_is s most false false e = refl

blocked_is : (s : EndState) (most : ℕ) (sends level shut : Bool) → (s.una == s.next) ≡ level
    → (if sends && level && shut then probe s else None) ≡ drafted_if (draft_again s) (if sends && level && shut then due_probe s else None) most
blocked_is s most true true true e = probe_is s most (nat_lt 0 (unsent s)) s.closing (not_below s.una s.next e)
blocked_is s most true true false e = refl
blocked_is s most true false shut e = refl
blocked_is s most false level shut e = refl

pub to_resend_is : (s : EndState) (most : ℕ) → to_resend s most ≡ drafted_if (draft_again s) (due_again s) most
unfolding to_resend due_again
to_resend_is s most =
    let d = draft_again s in
    pick d most (is_syn_sent s.phase && nat_lt s.isn s.next) Syn _ _ (
    pick d most (is_syn_received s.phase && nat_lt s.isn s.next) SynAck _ _ (
    unacked_is s most (resends s.phase) (nat_lt s.una s.next) (nat_lt s.una (given_end s)) _ _ refl refl (
    blocked_is s most (is_sending s.phase) (s.una == s.next) (s.send_window == 0) refl)))

pub resend_by_drafts : (rows : List Row) (pair : Pair) (now : ℕ) (s : EndState) → resend rows pair now s ≡ emitted pair s (to_resend s) (choose s.current rows pair now)
unfolding resend
resend_by_drafts rows pair now s = by_drafts pair s (draft_again s) (due_again s) (to_resend s) (choose s.current rows pair now) (to_resend_is s)

-- ---- nothing is due

none_is : (draft : Due → ℕ → Draft) (due : Option Due) (most : ℕ) → (drafted_if draft due most ≡ None) ↔ (due ≡ None)
none_is draft None most = (λ e. refl, λ e. refl)
none_is draft (Some due) most = (λ e. absurd (cc), λ e. absurd (cc))

pub none_next : (s : EndState) → (to_emit s 0 ≡ None) ↔ (due_next s ≡ None)
none_next s = let e = to_emit_is s 0 in let n = none_is (draft_next s) (due_next s) 0 in (λ h. n.0 (sym e ∙ h), λ h. e ∙ n.1 h)

pub none_again : (s : EndState) → (to_resend s 0 ≡ None) ↔ (due_again s ≡ None)
none_again s = let e = to_resend_is s 0 in let n = none_is (draft_again s) (due_again s) 0 in (λ h. n.0 (sym e ∙ h), λ h. e ∙ n.1 h)
