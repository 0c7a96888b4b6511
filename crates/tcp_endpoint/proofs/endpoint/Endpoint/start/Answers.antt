use Rattle.std.proofs.Common.{refl, ap, ◌∙◌, rules}
use Rattle.tcp_endpoint.proofs.endpoint.Endpoint.start.Goals as goal

pub returns-clause-stands : goal.returns-clause-stands
returns-clause-stands c = record {
  phase = refl;
  isn = refl;
  peer_isn = refl;
  una = search rules;
  next = search rules;
  send_window = refl;
  wl1 = search rules;
  wl2 = search rules;
  expected = search rules;
  fin = refl;
  given = refl;
  queue = search rules;
  taken = refl;
  bytes = λ p le. c.in_ok-reassembly.ensures.bytes p;
  ack_owed = refl;
  closing = refl;
  rst_owed = refl;
  mss = c.own_mss.ensures;
  deadline = refl;
  current = ap (λ b. b.current) c.learn.ensures.peer ∙ ap (λ b. b.current) c.in_ok-association.ensures.fresh;
}

pub returns-clause-fits : goal.returns-clause-fits
returns-clause-fits c = c.learn.ensures.fits c.args.table.now.rows c.in_ok-association.ensures.fits
