use Rattle.std.proofs.Common.{◌≡◌, ℕ, ◌+◌, ◌≤◌, true, length, refl, sym, ap, ◌∙◌, subst}
use Rattle.std.specs.Prelude.{is_some}
use Rattle.book_endpoint.specs.States as states
use Rattle.book_endpoint.specs.declared.arrival.Arrival.TheVariants as answers
use Rattle.book_endpoint.specs.Hearing as hearing
use Rattle.stream_buffers.specs.Kept.{byte_at, missing_then, grown}
use Rattle.tcp_segment.specs.Counter.{number}
use Rattle.tcp_endpoint.specs.Fins.{is_at, past_or}
use Rattle.tcp_endpoint.specs.Numbers.{fin_in, value_in, wl1_in, wl2_in}
use Rattle.tcp_endpoint.proofs.ReadyLaws.{ready_from}
use Rattle.tcp_endpoint.proofs.HearLaws.{reaches_of, many_is, data_is, runs_is, missing_is, bytes_kept, recorded_is, kept_state, heard_state, sends_past, receives_heard, many_test, few_test, past_move, over_move, phase_move, rec_is}
use Rattle.tcp_endpoint.proofs.endpoint.Endpoint.hear_data.Goals as goal

pub returns-in-Err-clause-reaches : goal.returns-in-Err-clause-reaches
returns-in-Err-clause-reaches g c = λ s h.
    let e = c.args.self.now in
    let f0 : value_in c.in-Some.received.fin ≡ s.fin = subst (λ z. fin_in z ≡ s.fin) c.in-Some.is h.fin in
    let runs = runs_is e s h c.requires.hears c.args.datagram.now c.args.number c.value_in.result (c.value_in.ensures ∙ f0) c.expected-expected.ensures.sound in
    let many = rw c.payload-payload.ensures.value at c.in-Err.ensures.variant.1 in
    reaches_of (hearing.owing s) answers.TooManyRuns (many_is s c.args.datagram.now c.args.number c.args.now (many_test _ _ runs many))
    (record {
      phase = h.phase;
      isn = h.isn;
      peer_isn = h.peer_isn;
      una = h.una;
      next = h.next;
      send_window = h.send_window;
      wl1 = h.wl1;
      wl2 = h.wl2;
      expected = h.expected;
      fin = h.fin;
      given = h.given;
      queue = h.queue;
      taken = h.taken;
      bytes = subst (λ k. (p : ℕ) → states.ready_at s ≤ p → byte_at k p ≡ s.received p) (sym c.in-Err.ensures.err) h.bytes;
      ack_owed = refl;
      closing = h.closing;
      rst_owed = h.rst_owed;
      mss = h.mss;
      deadline = h.deadline;
      current = h.current;
    })
    refl

pub invariant_of-self-2 : goal.invariant_of-self-2
invariant_of-self-2 g c =
    let e = c.args.self.now in
    let heard : is_some e.sequence.received ≡ true = ap is_some c.in-Some.is in
    let old : value_in c.in-Some.received.fin ≡ fin_in e.sequence.received = sym (ap fin_in c.in-Some.is) in
    let d = c.args.datagram.now in
    let n = c.args.number in
    let kept = rw c.payload-payload.ensures.value at c.kept_from-kept.ensures in
    let test = rw c.payload-payload.ensures.value at c.is_heard-records.ensures in
    let fin = rw c.payload-payload.ensures.value at c.fin_then-fin.ensures in
    record {
      bound = e.bound;
      owes = e.owes;
      sends = sends_past c.is_at-passes.result e.phase c.phase_past-self.result _ _ _ _ _ _ c.requires.hears c.phase_past-self.ensures e.sends;
      receives =
          receives_heard e d n c.phase_past-self.result (number c.of.result) (missing_then e.reassembly (grown e.reassembly n d.payload c.value_in.result)) c.value_in.result (value_in c.counter_in.result) c.keep.new.self c.is_heard-records.result c.is_at-passes.result
          c.requires.hears heard c.expected-expected.ensures.sound c.expected-reached.ensures.sound (rw c.payload-payload.ensures.value at c.in-Ok.ensures.ok) (c.value_in.ensures ∙ old)
          (c.counter_in.ensures ∙ fin ∙ ap (λ z. hearing.fin_of z c.is_heard-records.result (n + length d.payload)) (c.value_in-2.ensures ∙ sym c.value_in.ensures))
          (rec_is e.reassembly c.keep.new.self d n c.kept_from-kept.result c.has.result c.is_heard-records.result c.expected-expected.result c.from-window.result kept.1 c.has.ensures c.expected-expected.ensures.expected c.requires.last test)
          (past_move c.fin_then-fin.result (value_in c.counter_in.result) c.expected-reached.result c.keep.new.self.expected c.is_at-passes.result c.is_at-passes.ensures (sym c.counter_in.ensures) c.expected-reached.ensures.expected)
          c.phase_past-self.ensures
          (c.of.ensures ∙ c.past_or.ensures ∙ ap (λ z. past_or c.is_at-passes.result z) c.expected-reached.ensures.expected);
    }

pub returns-clause-reaches : goal.returns-clause-reaches
returns-clause-reaches g c = λ s h.
    let e = c.args.self.now in
    let d = c.args.datagram.now in
    let n = c.args.number in
    let f0 : value_in c.in-Some.received.fin ≡ s.fin = subst (λ z. fin_in z ≡ s.fin) c.in-Some.is h.fin in
    let q = c.value_in.ensures ∙ f0 in
    let old = c.expected-expected.ensures.sound in
    let new = c.expected-reached.ensures.sound in
    let shows = rw c.payload-payload.ensures.value at c.in-Ok.ensures.ok in
    let runs = runs_is e s h c.requires.hears d n c.value_in.result q old in
    let few = rw c.payload-payload.ensures.value at c.in-Ok.ensures.variant.0 in
    let kept = rw c.payload-payload.ensures.value at c.kept_from-kept.ensures in
    let heard = rw c.payload-payload.ensures.value at c.is_heard-records.ensures in
    let wide = c.from-window.ensures ∙ c.window.ensures in
    let missing = missing_then e.reassembly (grown e.reassembly n d.payload c.value_in.result) in
    let records = recorded_is e s h c.requires.hears d n missing c.value_in.result q c.keep.new.self old new shows c.kept_from-kept.result c.has.result c.is_heard-records.result c.expected-expected.result c.from-window.result kept c.has.ensures c.expected-expected.ensures.expected wide heard in
    let fin = rw c.payload-payload.ensures.value at c.fin_then-fin.ensures in
    let t = kept_state s d n in
    let u = heard_state s d n in
    let fin_is : c.fin_then-fin.result ≡ t.fin = fin ∙ ap (λ z. hearing.fin_of z c.is_heard-records.result (n + length d.payload)) (c.value_in-2.ensures ∙ f0) ∙ ap (λ z. hearing.fin_of s.fin z (n + length d.payload)) records in
    let x_is : c.expected-reached.result ≡ t.expected = c.expected-reached.ensures.expected ∙ shows.expected ∙ missing_is e s h c.requires.hears d n c.value_in.result q old in
    let pass : c.is_at-passes.result ≡ is_at t.fin t.expected = past_move c.fin_then-fin.result t.fin c.expected-reached.result t.expected c.is_at-passes.result c.is_at-passes.ensures fin_is x_is in
    let bytes = bytes_kept e s h c.requires.hears d n missing c.value_in.result q c.keep.new.self shows in
    reaches_of (hearing.rested u c.args.now u.phase u.deadline) answers.Taken (data_is s d n c.args.now (few_test _ _ runs (few refl)))
    (c.rest.ensures.stands u (record {
      phase = phase_move c.is_at-passes.result (is_at t.fin t.expected) e.phase s.phase c.phase_past-self.result c.phase_past-self.ensures pass h.phase;
      isn = h.isn;
      peer_isn = h.peer_isn;
      una = h.una;
      next = h.next;
      send_window = h.send_window;
      wl1 = subst (λ z. wl1_in z ≡ s.wl1) c.in-Some.is h.wl1;
      wl2 = subst (λ z. wl2_in z ≡ s.wl2) c.in-Some.is h.wl2;
      expected = over_move c.is_at-passes.result (is_at t.fin t.expected) c.expected-reached.result t.expected (number c.of.result) (c.of.ensures ∙ c.past_or.ensures) pass x_is;
      fin = c.counter_in.ensures ∙ fin_is;
      given = h.given;
      queue = h.queue;
      taken = h.taken;
      bytes = λ p le. bytes.at p (subst (λ z. z ≤ p) (sym (ready_from e s h)) le);
      ack_owed = refl;
      closing = h.closing;
      rst_owed = h.rst_owed;
      mss = h.mss;
      deadline = h.deadline;
      current = h.current;
    }))
    refl
