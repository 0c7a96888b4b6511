use Rattle.std.proofs.Common.{◌≡◌, [], Some, None, refl, ap, subst, ◌∙◌}
use Rattle.book_base.specs.declared.address.Pair.{Pair}
use Rattle.book_base.specs.declared.address.Socket.{Socket}
use Rattle.book_segments.specs.Segments.{pair_reached}
use Rattle.stack_ends.specs.declared.answer.NodeArrival.TheVariants as answers
use Rattle.stack_ends.specs.Held.{end_at}
use Rattle.stack_ends.specs.Loans.{written}
use Rattle.stack_ends.proofs.NodeLaws.{comes_none, comes_some, costs_none, costs_some, found_at, of_entries, set_writes}
use Rattle.stack_ends.proofs.node.Node.hear_datagram.Goals as goal
use Rattle.stack_ends.proofs.node.Node.hear_datagram.Goals.{in-None, in-Some}

pub hear_datagram-requires-clause-fits : goal.hear_datagram-requires-clause-fits
hear_datagram-requires-clause-fits g c =
    let q : Pair = record { local = c.destination.result; remote = c.source.result } in
    c.requires.fits q c.in-Some.end.now (found_at c.self.inside.most c.self.inside.ends.entries [] q c.args.self.now c.self.view_is (Some c.in-Some.end.now) c.in-Some.ensures.value)

pub returns-clause-comes : goal.returns-clause-comes
returns-clause-comes g c =
    let d = c.args.datagram.now in
    let q : Pair = record { local = c.destination.result; remote = c.source.result } in
    let seen : q ≡ pair_reached d =
    ap (λ (s : Socket). let k : Pair = record { local = s; remote = c.source.result } in k) c.destination.ensures.value
    ∙ ap (λ (s : Socket). let k : Pair = record { local = d.destination; remote = s } in k) c.source.ensures.value in
    let most = c.self.inside.most in
    let es = c.self.inside.ends.entries in
    elim c.match-get_mut.branch [
      | in-None w ↦
          let none = found_at most es [] q c.args.self.now c.self.view_is None w.in-None.ensures.value in
          comes_none c.args.table.now.rows c.args.now _ d c.args.self.now _ _ refl (subst (λ (x : Pair). end_at c.args.self.now x ≡ None) seen none) w.result-is
          (rw (w.self-inside-is, c.get_mut.follows.holds-at-none) c.self.view_is)
      | in-Some w ↦
          let e = w.in-Some.end.now in
          let f = w.hear_datagram.new.self in
          let found = found_at most es [] q c.args.self.now c.self.view_is (Some e) w.in-Some.ensures.value in
          let new = set_writes most es (c.get_mut.follows.lender f).entries q c.args.self.now c.self.view_is f (c.get_mut.follows.holds f).0 in
          comes_some c.args.table.now.rows c.args.now _ d c.args.self.now _ _ e f w.hear_datagram.result refl (subst (λ (x : Pair). end_at c.args.self.now x ≡ Some e) seen found) (subst (λ (x : Pair). c.match-get_mut.result ≡ answers.At x w.hear_datagram.result) seen w.result-is)
          (rw w.self-inside-is (subst (λ (x : Pair). of_entries most (c.get_mut.follows.lender f).entries ≡ written x c.args.self.now f) seen new))
          (record {
            arrives = w.hear_datagram.ensures.arrives;
            option = w.hear_datagram.ensures.option;
            untouched = λ b. (w.hear_datagram.ensures.untouched b).0;
            unchanged = w.hear_datagram.ensures.unchanged;
            pair = w.hear_datagram.ensures.pair;
            fits = w.hear_datagram.ensures.fits;
          })
    ]

pub returns-clause-costs : goal.returns-clause-costs
returns-clause-costs g c =
    let rows = c.args.table.now.rows in
    let q : Pair = record { local = c.destination.result; remote = c.source.result } in
    let most = c.self.inside.most in
    let es = c.self.inside.ends.entries in
    elim c.match-get_mut.branch [
      | in-None w ↦ costs_none rows c.args.now c.args.datagram.now c.args.self.now _ _ c.args.steps.now _ w.result-is (rw w.steps-is refl)
      | in-Some w ↦
          let e = w.in-Some.end.now in
          let f = w.hear_datagram.new.self in
          let found = found_at most es [] q c.args.self.now c.self.view_is (Some e) w.in-Some.ensures.value in
          let new = set_writes most es (c.get_mut.follows.lender f).entries q c.args.self.now c.self.view_is f (c.get_mut.follows.holds f).0 in
          costs_some rows c.args.now c.args.datagram.now c.args.self.now _ _ q e f w.hear_datagram.result c.args.steps.now _ found w.result-is
          (rw w.self-inside-is new) (λ b. rw w.steps-is (w.hear_datagram.ensures.untouched b).1) (rw w.steps-is w.hear_datagram.ensures.costs)
    ]
