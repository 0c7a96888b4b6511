use Rattle.std.proofs.Common.{◌≡◌, [], refl, sym, ap, subst, ◌∙◌, arith}
use Rattle.std.specs.Prelude.{IfOk, IfErr, OnErr}
use Rattle.book_base.specs.declared.address.Pair.{Pair}
use Rattle.book_base.specs.declared.address.Socket.{Socket}
use Rattle.book_segments.specs.Segments.{Segment, pair_reached}
use Rattle.shim_pairs.specs.Holdings.{Holding}
use Rattle.shim_pairs.specs.Passing.{EntersAt, Enters, IsUntaken, Stays}
use Rattle.shim_pairs.proofs.RoomLaws.{rows_within}
use Rattle.shim_pairs.proofs.ShimLaws.{suits_held, suits_at, suits_written, enters_fresh, enters_held, refused_held, stays_written, one_pair, on_err, whole_hand, whole_written}
use Rattle.shim_pairs.proofs.OutLaws.{known}
use Rattle.shim_pairs.proofs.pairs.Pairs.inbound.Goals as goal
use Rattle.shim_pairs.proofs.pairs.Pairs.inbound.Goals.{in-Err-open, in-Ok-open, in-Err-open_unknown, in-Ok-open_unknown}

reached : (a b : Socket) (d : Segment) → a ≡ d.destination → b ≡ d.source → (let q : Pair = record { local = a; remote = b } in q ≡ pair_reached d)
reached a b d e f =
    ap (λ (s : Socket). let k : Pair = record { local = s; remote = b } in k) e
    ∙ ap (λ (s : Socket). let k : Pair = record { local = d.destination; remote = s } in k) f

pub open_unknown-requires-clause-rows : goal.open_unknown-requires-clause-rows
open_unknown-requires-clause-rows g c =
    let h = rows_within c.destination.result.address c.self.inside.tables c.in-Some.table.now c.in-Some.ensures in
    let r = c.self.invariant.hand_room in omega (arith, h, r)

pub invariant_of-self : goal.invariant_of-self
invariant_of-self g c =
    rw c.get_mut.follows.holds-at-none (whole_hand c.self.inside.tables c.self.inside.entries.most c.self.inside.entries.entries c.self.inside.spares.items c.self.inside.hand c.open_unknown.new.hand c.self.invariant c.open_unknown.ensures.rows)

pub open-requires-clause-suits : goal.open-requires-clause-suits
open-requires-clause-suits g c =
    let q : Pair = record { local = c.destination.result; remote = c.source.result } in
    suits_held c.self.inside.tables c.self.inside.entries.entries q c.self.invariant.all c.in-Some-get_mut.entry.now c.in-Some.table.now c.in-Some-get_mut.ensures.value c.in-Some.ensures

pub invariant_of-self-in-Some-get_mut : goal.invariant_of-self-in-Some-get_mut
invariant_of-self-in-Some-get_mut g c =
    let q : Pair = record { local = c.destination.result; remote = c.source.result } in
    let ts = c.self.inside.tables in let es = c.self.inside.entries.entries in let all = c.self.invariant.all in
    let e = c.in-Some-get_mut.entry.now in let f = c.open.new.self in let found = c.in-Some-get_mut.ensures.value in
    rw (known c.get_mut.result c.in-Some-get_mut.entry c.in-Some-get_mut.is (c.get_mut.follows.holds f))
    (whole_written ts c.self.inside.entries.most es _ c.self.inside.spares.items c.self.inside.hand q f c.self.invariant refl
    (suits_written ts es q all e f found (suits_at ts es q all e f c.in-Some.table.now found c.in-Some.ensures c.open.ensures.pair c.open.ensures.suits c.open.ensures.rows)))

pub returns-after-open_unknown-clause-taken : goal.returns-after-open_unknown-clause-taken
returns-after-open_unknown-clause-taken g c =
    let q : Pair = record { local = c.destination.result; remote = c.source.result } in
    let h : Holding = record { tables = c.self.inside.tables; most = c.self.inside.entries.most; entries = c.self.inside.entries.entries } in
    let k : Holding = record { tables = c.self.inside.tables; most = c.get_mut.follows.lender-at-none.most; entries = c.get_mut.follows.lender-at-none.entries } in
    let d = c.in-Ok.datagram in let now = c.args.now in let mtu = c.args.mtu in let bytes = c.args.bytes.now in let old = c.args.out.now in let new = c.open_unknown.new.out in
    let seen : q ≡ pair_reached d = reached c.destination.result c.source.result d c.destination.ensures.value c.source.ensures.value in
    subst (λ (x : Holding). IfOk c.match-open_unknown.result (λ p. Enters now mtu x k bytes old new p)) c.self.view_is
    (elim c.match-open_unknown.branch [
      | in-Err-open_unknown w ↦ rw w.result-is tt
      | in-Ok-open_unknown w ↦ rw w.result-is (record {
        d = d;
        read = c.in-Ok.ensures.read;
        opened = subst (λ (x : Pair). EntersAt x now mtu h k bytes old new w.in-Ok-open_unknown.passed) seen
            (enters_fresh h k q now mtu bytes old new c.in-Some.table.now c.in-Some.ensures w.in-Ok-open_unknown.passed (sym c.in-None-get_mut.ensures.value) (rw c.get_mut.follows.holds-at-none refl) w.in-Ok-open_unknown.ensures.taken);
      })
    ])

pub returns-after-open-clause-taken : goal.returns-after-open-clause-taken
returns-after-open-clause-taken g c =
    let q : Pair = record { local = c.destination.result; remote = c.source.result } in
    let es = c.self.inside.entries.entries in let all = c.self.invariant.all in
    let h : Holding = record { tables = c.self.inside.tables; most = c.self.inside.entries.most; entries = es } in
    let f = c.open.new.self in
    let k : Holding = record { tables = c.self.inside.tables; most = (c.get_mut.follows.lender f).most; entries = (c.get_mut.follows.lender f).entries } in
    let d = c.in-Ok.datagram in let e = c.in-Some-get_mut.entry.now in let found = c.in-Some-get_mut.ensures.value in
    let seen : q ≡ pair_reached d = reached c.destination.result c.source.result d c.destination.ensures.value c.source.ensures.value in
    let held = known c.get_mut.result c.in-Some-get_mut.entry c.in-Some-get_mut.is (c.get_mut.follows.holds f) in
    let now = c.args.now in let mtu = c.args.mtu in let bytes = c.args.bytes.now in let old = c.args.out.now in let new = c.open.new.out in
    subst (λ (x : Holding). IfOk c.match-open.result (λ p. Enters now mtu x k bytes old new p)) c.self.view_is
    (elim c.match-open.branch [
      | in-Err-open w ↦ rw w.result-is tt
      | in-Ok-open w ↦ rw w.result-is (record {
        d = d;
        read = c.in-Ok.ensures.read;
        opened = subst (λ (x : Pair). EntersAt x now mtu h k bytes old new w.in-Ok-open.passed) seen
            (enters_held h k q now mtu bytes old new c.in-Some.table.now c.in-Some.ensures w.in-Ok-open.passed e f found (all q e (sym found)).pair_is (rw held refl)
            w.in-Ok-open.ensures.taken w.in-Ok-open.ensures.told);
      })
    ])

pub returns-after-open-clause-refused : goal.returns-after-open-clause-refused
returns-after-open-clause-refused g c =
    let q : Pair = record { local = c.destination.result; remote = c.source.result } in
    let es = c.self.inside.entries.entries in
    let h : Holding = record { tables = c.self.inside.tables; most = c.self.inside.entries.most; entries = es } in
    let d = c.in-Ok.datagram in let e = c.in-Some-get_mut.entry.now in let found = c.in-Some-get_mut.ensures.value in
    let seen : q ≡ pair_reached d = reached c.destination.result c.source.result d c.destination.ensures.value c.source.ensures.value in
    subst (λ (x : Holding). IfErr c.match-open.result (λ why. IsUntaken x c.args.now c.args.mtu c.args.bytes.now why)) c.self.view_is
    (elim c.match-open.branch [
      | in-Err-open w ↦ rw w.result-is
          (refused_held h h q c.args.now c.args.mtu c.args.bytes.now [] [] c.in-Some.table.now c.in-Some.ensures w.in-Err-open.why e found (c.self.invariant.all q e (sym found)).pair_is
          (one_pair c.args.bytes.now d q c.in-Ok.ensures.read seen) w.in-Err-open.ensures.refused)
      | in-Ok-open w ↦ rw w.result-is tt
    ])

pub returns-after-open-clause-stays : goal.returns-after-open-clause-stays
returns-after-open-clause-stays g c =
    let q : Pair = record { local = c.destination.result; remote = c.source.result } in
    let es = c.self.inside.entries.entries in
    let h : Holding = record { tables = c.self.inside.tables; most = c.self.inside.entries.most; entries = es } in
    let e = c.in-Some-get_mut.entry.now in let f = c.open.new.self in
    let k : Holding = record { tables = c.self.inside.tables; most = (c.get_mut.follows.lender f).most; entries = (c.get_mut.follows.lender f).entries } in
    let held = known c.get_mut.result c.in-Some-get_mut.entry c.in-Some-get_mut.is (c.get_mut.follows.holds f) in
    subst (λ (x : Holding). OnErr c.match-open.result (Stays x k)) c.self.view_is
    (elim c.match-open.branch [
      | in-Err-open w ↦ on_err c.match-open.result (stays_written h k q e f c.in-Some-get_mut.ensures.value w.in-Err-open.ensures.unchanged.0 w.in-Err-open.ensures.unchanged.1 (rw held refl))
      | in-Ok-open w ↦ rw w.result-is tt
    ])
