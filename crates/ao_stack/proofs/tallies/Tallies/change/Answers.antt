use Rattle.std.proofs.Common.{None, []}
use Rattle.ao_stack.specs.Counts.{changed_by}
use Rattle.ao_stack.proofs.MapLaws.{found_at, none_changed, some_changed}
use Rattle.ao_stack.proofs.tallies.Tallies.change.Goals as goal
use Rattle.ao_stack.proofs.tallies.Tallies.change.Goals.{in-None, in-Some}

pub returns : goal.returns
returns c =
    let es = c.self.inside.items.entries in
    let p = c.args.pair.now in
    let n = c.args.self.now in
    elim c.match-get_mut.branch [
      | in-None w ↦
          none_changed n _ p (changed_by c.args.what) (found_at es [] p n c.self.view_is None w.in-None.ensures.value)
          (rw (w.self-inside-is, c.get_mut.follows.holds-at-none) c.self.view_is)
      | in-Some w ↦
          let new = w.changed.result in
          rw w.self-inside-is (some_changed es (c.get_mut.follows.lender new).entries p n c.self.view_is w.in-Some.tally.now new (changed_by c.args.what) w.changed.ensures w.in-Some.ensures.value (c.get_mut.follows.holds new).0)
    ]
