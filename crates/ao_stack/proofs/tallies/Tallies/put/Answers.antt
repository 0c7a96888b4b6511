use Rattle.ao_stack.proofs.MapLaws.{put_becomes}
use Rattle.ao_stack.proofs.tallies.Tallies.put.Goals as goal
use Rattle.ao_stack.proofs.tallies.Tallies.put.Goals.{in-Ok, in-Err}

pub returns-clause-put : goal.returns-clause-put
returns-clause-put c = elim c.match-insert.branch [
  | in-Ok w ↦ rw (w.result-is, ← c.no_tally.ensures) (put_becomes c.self.inside.items.entries c.insert.new.self.entries c.args.pair.now c.args.self.now c.self.view_is c.no_tally.result w.in-Ok.ensures.updates.0)
  | in-Err w ↦ rw w.result-is tt
]
