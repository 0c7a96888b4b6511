-- What holds of one state, what only grows, and what an arrival keeps.
use Rattle.std.proofs.Common.{◌≡◌, ℕ, ◌+◌, ◌^◌, ◌<◌, ◌≤◌, Bool, true, false, List, [], ◌++◌, length, Option, Some, None, refl, sym, ap, ◌∙◌, subst, arith, append-nil, append_assoc}
use Rattle.book_segments.specs.Spelling.{AreBytes}
use Rattle.book_segments.proofs.Fields.{some_is}
use Rattle.book_endpoint.specs.declared.phase.Phase.{Phase}
use Rattle.book_endpoint.specs.States.{EndState}
use Rattle.law_link.proofs.Phases.{fin_gone, fin_made, waits, PhaseOk}

-- what holds of one state, of the fields that it speaks of alone, so that a change of another one keeps it as it stands
pub record SoundOf (phase : Phase) (isn : ℕ) (peer_isn : Option ℕ) (next : ℕ) (given : List ℕ) (closing aborted rst : Bool) : Type 0 where
  pub isn_fits : isn < 2 ^ 32
  pub peer_isn_fits : (q : ℕ) → peer_isn ≡ Some q → q < 2 ^ 32
  pub few : isn + 1 + length given < 2 ^ 63
  pub bytes : AreBytes given
  pub next_high : next ≤ isn + 2 + length given
  pub unfinished : fin_gone phase ≡ false → next ≤ isn + 1 + length given
  pub unknown : waits phase ≡ true → peer_isn ≡ None
  pub closed : fin_made phase ≡ true → closing ≡ true
  pub reset : rst ≡ true → aborted ≡ true

abbrev pub Sound : EndState → Type 0
Sound s = SoundOf s.phase s.isn s.peer_isn s.next s.given s.closing s.aborted s.rst_owed

-- what a session keeps, whatever comes
pub record LaterOf (isn new_isn : ℕ) (peer_isn new_peer : Option ℕ) (given new_given taken new_taken : List ℕ) (closing new_closing aborted new_aborted : Bool) (fin new_fin : Option ℕ) (x new_x next new_next : ℕ) : Type 0 where
  pub same_isn : new_isn ≡ isn
  pub peer : (q : ℕ) → peer_isn ≡ Some q → new_peer ≡ Some q
  pub grown : (rest : List ℕ) × (new_given ≡ given ++ rest)
  pub took : length taken ≤ length new_taken
  pub closed : closing ≡ true → (new_closing ≡ true) × (new_given ≡ given)
  pub stopped : aborted ≡ true → new_aborted ≡ true
  pub ended : (f : ℕ) → fin ≡ Some f → new_fin ≡ Some f
  pub up : x ≤ new_x
  pub sent : next ≤ new_next

abbrev pub Later : EndState → EndState → Type 0
Later s t =
    LaterOf s.isn t.isn s.peer_isn t.peer_isn s.given t.given s.taken t.taken s.closing t.closing s.aborted t.aborted s.fin t.fin s.expected t.expected s.next t.next

pub later_refl : (s : EndState) → Later s s
later_refl s =
    record {
      same_isn = refl;
      peer = λ q e. e;
      grown = ([], sym (append-nil s.given));
      took = omega arith;
      closed = λ e. (e, refl);
      stopped = λ e. e;
      ended = λ f e. e;
      up = omega arith;
      sent = omega arith;
    }

-- a later number is the next one
pub later_next : (s : EndState) (next : ℕ) → s.next ≤ next → Later s (record s { next = next })
later_next s next more =
    record {
      same_isn = refl;
      peer = λ q e. e;
      grown = ([], sym (append-nil s.given));
      took = omega arith;
      closed = λ e. (e, refl);
      stopped = λ e. e;
      ended = λ f e. e;
      up = omega arith;
      sent = more;
    }

pub later_then : (s t u : EndState) → Later s t → Later t u → Later s u
later_then s t u a b =
    record {
      same_isn = b.same_isn ∙ a.same_isn;
      peer = λ q e. b.peer q (a.peer q e);
      grown = (a.grown.0 ++ b.grown.0, b.grown.1 ∙ ap (λ (l : List ℕ). l ++ b.grown.0) a.grown.1 ∙ append_assoc s.given a.grown.0 b.grown.0);
      took = (let one = a.took in let two = b.took in omega arith);
      closed = λ e. let one = a.closed e in let two = b.closed one.0 in (two.0, two.1 ∙ one.1);
      stopped = λ e. b.stopped (a.stopped e);
      ended = λ f e. b.ended f (a.ended f e);
      up = (let one = a.up in let two = b.up in omega arith);
      sent = (let one = a.sent in let two = b.sent in omega arith);
    }

-- a change that an arrival may make, in the fields that Sound speaks of
pub record SteadyOf (phase new_phase : Phase) (isn new_isn : ℕ) (peer_isn new_peer : Option ℕ) (next new_next : ℕ) (given new_given : List ℕ) (closing new_closing aborted new_aborted rst new_rst : Bool) : Type 0 where
  pub same_isn : new_isn ≡ isn
  pub peer : (q : ℕ) → peer_isn ≡ Some q → new_peer ≡ Some q
  pub peer_fits : ((q : ℕ) → peer_isn ≡ Some q → q < 2 ^ 32) → (q : ℕ) → new_peer ≡ Some q → q < 2 ^ 32
  pub waiting : waits new_phase ≡ true → (waits phase ≡ true) × (new_peer ≡ peer_isn)
  pub finished : fin_gone new_phase ≡ false → fin_gone phase ≡ false
  pub made : fin_made new_phase ≡ true → fin_made phase ≡ true
  pub same_next : new_next ≡ next
  pub same_given : new_given ≡ given
  pub same_closing : new_closing ≡ closing
  pub same_aborted : new_aborted ≡ aborted
  pub same_rst : new_rst ≡ rst

abbrev pub Steady : EndState → EndState → Type 0
Steady s t = SteadyOf s.phase t.phase s.isn t.isn s.peer_isn t.peer_isn s.next t.next s.given t.given s.closing t.closing s.aborted t.aborted s.rst_owed t.rst_owed

pub steady_refl : (s : EndState) → Steady s s
steady_refl s =
    record {
      same_isn = refl;
      peer = λ q e. e;
      peer_fits = λ h. h;
      waiting = λ e. (e, refl);
      finished = λ e. e;
      made = λ e. e;
      same_next = refl;
      same_given = refl;
      same_closing = refl;
      same_aborted = refl;
      same_rst = refl;
    }

pub steady_then : (s t u : EndState) → Steady s t → Steady t u → Steady s u
steady_then s t u a b =
    record {
      same_isn = b.same_isn ∙ a.same_isn;
      peer = λ q e. b.peer q (a.peer q e);
      peer_fits = λ h. b.peer_fits (a.peer_fits h);
      waiting = λ e. let two = b.waiting e in let one = a.waiting two.0 in (one.0, two.1 ∙ one.1);
      finished = λ e. a.finished (b.finished e);
      made = λ e. a.made (b.made e);
      same_next = b.same_next ∙ a.same_next;
      same_given = b.same_given ∙ a.same_given;
      same_closing = b.same_closing ∙ a.same_closing;
      same_aborted = b.same_aborted ∙ a.same_aborted;
      same_rst = b.same_rst ∙ a.same_rst;
    }

-- a steady change that takes nothing back of the receiving half
pub steady_later : (s t : EndState) → length s.taken ≤ length t.taken → ((f : ℕ) → s.fin ≡ Some f → t.fin ≡ Some f) → s.expected ≤ t.expected → Steady s t → Later s t
steady_later s t took ended up h =
    record {
      same_isn = h.same_isn;
      peer = h.peer;
      grown = ([], h.same_given ∙ sym (append-nil s.given));
      took = took;
      closed = λ e. (h.same_closing ∙ e, h.same_given);
      stopped = λ e. h.same_aborted ∙ e;
      ended = ended;
      up = up;
      sent = (let same = h.same_next in omega arith);
    }

pub steady_sound : (s t : EndState) → Steady s t → Sound s → Sound t
steady_sound s t h g =
    let isn = h.same_isn in
    let next = h.same_next in
    let long : length t.given ≡ length s.given = ap length h.same_given in
    let isn_fits = g.isn_fits in
    let few = g.few in
    let next_high = g.next_high in
    record {
      isn_fits = omega arith;
      peer_isn_fits = h.peer_fits g.peer_isn_fits;
      few = omega arith;
      bytes = subst AreBytes (sym h.same_given) g.bytes;
      next_high = omega arith;
      unfinished = λ e. let low = g.unfinished (h.finished e) in omega arith;
      unknown = λ e. let w = h.waiting e in w.1 ∙ g.unknown w.0;
      closed = λ e. h.same_closing ∙ g.closed (h.made e);
      reset = λ e. h.same_aborted ∙ g.reset (sym h.same_rst ∙ e);
    }

-- only the phase changes
pub with_phase : (s : EndState) (new : Phase) → PhaseOk s.phase new → Steady s (record s { phase = new })
with_phase s new ok =
    record {
      same_isn = refl;
      peer = λ q e. e;
      peer_fits = λ h. h;
      waiting = λ e. (ok.waiting e, refl);
      finished = ok.finished;
      made = ok.made;
      same_next = refl;
      same_given = refl;
      same_closing = refl;
      same_aborted = refl;
      same_rst = refl;
    }

-- the peer's initial sequence number is learned
pub learns : (s : EndState) (n : ℕ) (new : Phase) → s.peer_isn ≡ None → n < 2 ^ 32 → waits new ≡ false → PhaseOk s.phase new → Steady s (record s { peer_isn = Some n; phase = new })
learns s n new none fits told ok =
    record {
      same_isn = refl;
      peer = λ q e. absurd (cc);
      peer_fits = λ h q e. subst (λ k. k < 2 ^ 32) (some_is n q e) fits;
      waiting = λ e. absurd (cc);
      finished = ok.finished;
      made = ok.made;
      same_next = refl;
      same_given = refl;
      same_closing = refl;
      same_aborted = refl;
      same_rst = refl;
    }
