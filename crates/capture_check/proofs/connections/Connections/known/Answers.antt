use Rattle.capture_check.proofs.connections.Connections.known.Goals as goal

pub returns-clause-limit : goal.returns-clause-limit
returns-clause-limit c = λ tables I. c.known.ensures.limit tables (rw (← c.self.view_is) at I)
