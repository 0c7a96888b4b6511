use Rattle.std.proofs.Common.{◌≡◌, Some, sym, ap, ◌∙◌, subst, Ok}
use Rattle.book_endpoint.specs.Verdicts as v
use Rattle.ao_check.specs.Verdicts.{Names}
use Rattle.tcp_endpoint.specs.Numbers.{expected_in}
use Rattle.tcp_endpoint.proofs.ReadyLaws.{nothing_known, something_known}
use Rattle.book_endpoint.specs.declared.arrival.Arrival.TheVariants.{Foreign, Closed, Refused}
use Rattle.tcp_endpoint.proofs.CostLaws.{early_costs, refused_costs, untold, none_before, passed_costs}
use Rattle.tcp_endpoint.proofs.JudgeLaws.{number_first, number_near}
use Rattle.tcp_endpoint.proofs.PassLaws.{arrives_pass, arrives_refused, judged_is, rnext_is, number_is, stopped}
use Rattle.tcp_endpoint.proofs.endpoint.Endpoint.hear_datagram.Goals as goal

pub returns-in-Err-clause-arrives : goal.returns-in-Err-clause-arrives
returns-in-Err-clause-arrives g c = λ s h.
    let e = c.args.self.now in
    let d = c.args.datagram.now in
    let rows = c.args.table.now.rows in
    let told = c.in-Err.ensures.verdict in
    let judged = sym (judged_is rows e s c.args.now d c.expected_of-expected.result h c.expected_of-expected.ensures.some c.expected_of-expected.ensures.none) ∙ told in
    arrives_refused rows e.pair c.args.now s d c.in-Err.verdict c.without-in-Err.result c.without-in-Err.ensures (sym c.if-not-is_from_peer.ensures.told) (sym c.if-not-checksum_ok.ensures) (ap Rattle.book_endpoint.specs.States.is_closed (sym h.phase) ∙ sym c.if-is_closed.ensures) judged
    (record {
      phase = h.phase;
      isn = h.isn;
      peer_isn = h.peer_isn;
      una = h.una;
      next = h.next;
      send_window = h.send_window;
      wl1 = h.wl1;
      wl2 = h.wl2;
      expected = h.expected;
      fin = h.fin;
      given = h.given;
      queue = h.queue;
      taken = h.taken;
      bytes = h.bytes;
      ack_owed = h.ack_owed;
      closing = h.closing;
      rst_owed = h.rst_owed;
      mss = h.mss;
      deadline = h.deadline;
      current = ap (λ b. b.current) c.check_with_option.ensures.same ∙ h.current;
    })

pub returns-in-Err-clause-untouched : goal.returns-in-Err-clause-untouched
returns-in-Err-clause-untouched g c = λ b. absurd (untold c.in-Err.verdict c.without-in-Err.result c.without-in-Err.ensures b)

pub returns-in-Err-clause-costs : goal.returns-in-Err-clause-costs
returns-in-Err-clause-costs g c =
    let e = c.args.self.now in
    refused_costs c.args.table.now.rows c.args.now e c.args.datagram.now c.in-Err.verdict c.without-in-Err.result e.association.pair _ _ c.without-in-Err.ensures e.bound.pair c.in-Err.ensures.counted

pub hear-arrival-requires-clause-number : goal.hear-arrival-requires-clause-number
hear-arrival-requires-clause-number g c = λ w.
    let e = c.args.self.now in
    let d = c.args.datagram.now in
    let told = c.in-Ok.ensures.verdict in
    let none = c.expected_of-expected.ensures.none (nothing_known e w) in
    let pass = subst (λ x. v.judge c.args.table.now.rows e.association.pair (record { own_isn = e.association.own; peer_isn = e.association.peer; expected = x }) c.args.now d ≡ Ok told.0) none told.1 in
    number_is c.args.table.now.rows e.association.pair d c.in-Ok.passing.passed told.0 told.2 ∙ number_first c.args.table.now.rows e.association.pair e.association.own e.association.peer c.args.now d told.0 pass

pub hear-arrival-requires-clause-near : goal.hear-arrival-requires-clause-near
hear-arrival-requires-clause-near g c = λ begun syn.
    let e = c.args.self.now in
    let d = c.args.datagram.now in
    let rows = c.args.table.now.rows in
    let told = c.in-Ok.ensures.verdict in
    let some = c.expected_of-expected.ensures.some (something_known e begun (sym c.if-is_closed.ensures)) in
    let pass = subst (λ x. v.judge rows e.association.pair (record { own_isn = e.association.own; peer_isn = e.association.peer; expected = x }) c.args.now d ≡ Ok told.0) some told.1 in
    number_near rows e.association.pair e.association.own e.association.peer (expected_in e.sequence.received) c.args.now d told.0 pass syn ∙ ap Some (sym (number_is rows e.association.pair d c.in-Ok.passing.passed told.0 told.2))

pub returns-then-not-is_from_peer-clause-costs : goal.returns-then-not-is_from_peer-clause-costs
returns-then-not-is_from_peer-clause-costs g c =
    early_costs c.args.table.now.rows c.args.now c.args.self.now c.args.datagram.now Foreign c.without.result c.args.steps.now c.without.ensures

pub returns-then-is_closed-clause-costs : goal.returns-then-is_closed-clause-costs
returns-then-is_closed-clause-costs g c =
    early_costs c.args.table.now.rows c.args.now c.args.self.now c.args.datagram.now Closed c.without-then-is_closed.result c.args.steps.now c.without-then-is_closed.ensures

pub returns-clause-untouched : goal.returns-clause-untouched
returns-clause-untouched g c = λ b. absurd (none_before c.hear-arrival.result c.hear-arrival.ensures.checked b)

pub returns-clause-costs : goal.returns-clause-costs
returns-clause-costs g c =
    let e = c.args.self.now in
    passed_costs c.args.table.now.rows c.args.now e c.args.datagram.now c.in-Ok.passing c.hear-arrival.result e.association.pair _ _ _ _ e.bound.pair
    c.hear-arrival.ensures.checked c.hear-arrival.ensures.keys c.hear-arrival.ensures.steps c.hear-arrival.ensures.bare c.in-Ok.ensures.counted

pub returns-clause-arrives : goal.returns-clause-arrives
returns-clause-arrives g c = λ s h.
    let e = c.args.self.now in
    let d = c.args.datagram.now in
    let rows = c.args.table.now.rows in
    let told = c.in-Ok.ensures.verdict in
    let judged = sym (judged_is rows e s c.args.now d c.expected_of-expected.result h c.expected_of-expected.ensures.some c.expected_of-expected.ensures.none) ∙ told.1 in
    let reach = c.hear-arrival.ensures.reaches s (record {
      phase = h.phase;
      isn = h.isn;
      peer_isn = h.peer_isn;
      una = h.una;
      next = h.next;
      send_window = h.send_window;
      wl1 = h.wl1;
      wl2 = h.wl2;
      expected = h.expected;
      fin = h.fin;
      given = h.given;
      queue = h.queue;
      taken = h.taken;
      bytes = h.bytes;
      ack_owed = h.ack_owed;
      closing = h.closing;
      rst_owed = h.rst_owed;
      mss = h.mss;
      deadline = h.deadline;
      current = ap (λ b. b.current) c.check_with_option.ensures.same ∙ h.current;
    }) in
    arrives_pass rows e.pair c.args.now s d told.0 c.hear-arrival.new.self c.hear-arrival.result c.in-Ok.passing c.in-Ok.passing.option.rnext c.in-Ok.passing.passed.number
    (sym c.if-not-is_from_peer.ensures.told) (sym c.if-not-checksum_ok.ensures) (ap Rattle.book_endpoint.specs.States.is_closed (sym h.phase) ∙ sym c.if-is_closed.ensures) judged
    (rnext_is rows e.association.pair d c.in-Ok.passing.passed c.in-Ok.passing.option told.0 told.2 c.in-Ok.ensures.option)
    (number_is rows e.association.pair d c.in-Ok.passing.passed told.0 told.2)
    reach
    (subst (λ z. Names rows z d c.in-Ok.passing.passed told.0) e.bound.pair told.2)

pub returns-clause-option : goal.returns-clause-option
returns-clause-option g c = c.in-Ok.ensures.option

pub returns-in-Err-clause-option : goal.returns-in-Err-clause-option
returns-in-Err-clause-option g c = stopped c.args.datagram.now (Refused c.in-Err.verdict) c.without-in-Err.result c.without-in-Err.ensures tt

pub returns-then-not-is_from_peer-clause-option : goal.returns-then-not-is_from_peer-clause-option
returns-then-not-is_from_peer-clause-option g c = stopped c.args.datagram.now Foreign c.without.result c.without.ensures tt

pub returns-then-is_closed-clause-option : goal.returns-then-is_closed-clause-option
returns-then-is_closed-clause-option g c = stopped c.args.datagram.now Closed c.without-then-is_closed.result c.without-then-is_closed.ensures tt
