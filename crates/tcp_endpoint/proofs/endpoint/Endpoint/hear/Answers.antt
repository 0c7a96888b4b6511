use Rattle.std.proofs.Common.{false, refl, sym, ap, ◌∙◌, subst, arith}
use Rattle.std.specs.Prelude.{if◌then◌else◌}
use Rattle.book_segments.specs.Meant.{meant}
use Rattle.book_segments.specs.Segments.{has, RST, segment_length}
use Rattle.tcp_segment.specs.Counter.{number}
use Rattle.ao_check.specs.Bonds.{Fits}
use Rattle.book_endpoint.specs.declared.arrival.Arrival.TheVariants as answers
use Rattle.book_endpoint.specs.Arrivals as book
use Rattle.book_endpoint.specs.Hearing as hearing
use Rattle.tcp_endpoint.specs.Ends.{Stands}
use Rattle.tcp_endpoint.proofs.ReadyLaws.{window_is}
use Rattle.tcp_endpoint.proofs.CostLaws.{moved_on}
use Rattle.tcp_endpoint.proofs.HearLaws.{reaches_of}
use Rattle.tcp_endpoint.proofs.PhaseLaws.{not_waiting, known_is, window_move}
use Rattle.tcp_endpoint.proofs.endpoint.Endpoint.hear.Goals as goal

pub returns-then-not-is_acceptable : goal.returns-then-not-is_acceptable
returns-then-not-is_acceptable g c = record {
  reaches = λ s h.
      let e = c.args.self.now in
      let d = c.args.datagram.now in
      let n = c.args.number in
      let f = book.heard c.args.table.now.rows e.pair c.args.now s c.args.rnext in
      let wide = c.window-window.ensures ∙ sym (window_is e s h) in
      let test = sym (window_move n (segment_length d) (segment_length d) (number c.expected_in-expected.result) s.expected c.window-window.result _ refl (c.expected_in-expected.ensures ∙ h.expected) wide) ∙ sym c.if-not-is_acceptable.ensures in
      reaches_of (if has RST d then s else hearing.owing s) answers.Window
      (known_is e.pair s f d n c.args.now s.phase false (ap Rattle.tcp_endpoint.specs.Halves.waits (sym h.phase) ∙ not_waiting e.phase c.in_default.not-Listen c.in_default.not-SynSent) test)
      (subst (λ b. Stands c.owe_unless.new.self (if b then s else hearing.owing s)) c.has.ensures (c.owe_unless.ensures.stands s h))
      refl;
  unchanged = λ b. absurd b;
  checked = refl;
  pair = c.owe_unless.ensures.pair;
  keys = ap (λ b. b.keys) c.owe_unless.ensures.bond;
  fits = λ k. subst (λ b. Fits c.args.table.now.rows b) (sym c.owe_unless.ensures.bond) k;
  steps = omega arith;
  bare = λ _. refl;
}

pub returns-else-not-is_acceptable-clause-checked : goal.returns-else-not-is_acceptable-clause-checked
returns-else-not-is_acceptable-clause-checked g c = moved_on c.hear_acceptable.result c.hear_acceptable.ensures.told

pub is_acceptable-requires-clause-near : goal.is_acceptable-requires-clause-near
is_acceptable-requires-clause-near g c = λ syn.
    ap (meant c.args.datagram.now.sequence) c.expected_in-expected.ensures ∙ c.requires.near (not_waiting c.args.self.now.phase c.in_default.not-Listen c.in_default.not-SynSent) syn
