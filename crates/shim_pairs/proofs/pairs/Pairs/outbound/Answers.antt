use Rattle.std.proofs.Common.{◌≡◌, [], refl, sym, ap, subst, ◌∙◌, arith}
use Rattle.std.specs.Prelude.{IfOk, IfErr}
use Rattle.book_base.specs.declared.address.Pair.{Pair}
use Rattle.book_base.specs.declared.address.Socket.{Socket}
use Rattle.book_segments.specs.Segments.{Segment}
use Rattle.pair_table.specs.Listings.{Listing}
use Rattle.shim_pairs.specs.declared.entry.Entry.{Entry}
use Rattle.shim_pairs.specs.Holdings.{Holding, IsWhole}
use Rattle.shim_pairs.specs.Passing.{LeavesAt, Leaves, IsUnsent, pair_left}
use Rattle.shim_pairs.proofs.RoomLaws.{rows_within}
use Rattle.shim_pairs.proofs.ShimLaws.{suits_held, suits_at, suits_written, set_same, on_err, whole_hand, whole_written}
use Rattle.shim_pairs.proofs.OutLaws.{known, leaves_fresh, leaves_held, suits_by, unsent_held, one_left, whole_put}
use Rattle.shim_pairs.proofs.pairs.Pairs.outbound.Goals as goal
use Rattle.shim_pairs.proofs.pairs.Pairs.outbound.Goals.{in-Err-seal, in-Ok-seal}

left : (a b : Socket) (d : Segment) → a ≡ d.source → b ≡ d.destination → (let q : Pair = record { local = a; remote = b } in q ≡ pair_left d)
left a b d e f =
    ap (λ (s : Socket). let k : Pair = record { local = s; remote = b } in k) e
    ∙ ap (λ (s : Socket). let k : Pair = record { local = d.source; remote = s } in k) f

pub seal_first-requires-clause-rows : goal.seal_first-requires-clause-rows
seal_first-requires-clause-rows g c =
    let h = rows_within c.source.result.address c.self.inside.tables c.in-Some.table.now c.in-Some.ensures in
    let r = c.self.invariant.hand_room in omega (arith, h, r)

pub invariant_of-self : goal.invariant_of-self
invariant_of-self g c =
    rw c.get_mut.follows.holds-at-none (whole_hand c.self.inside.tables c.self.inside.entries.most c.self.inside.entries.entries c.self.inside.spares.items c.self.inside.hand c.seal_first.new.hand c.self.invariant c.seal_first.ensures.rows)

pub invariant_of-self-in-Ok-seal_first : goal.invariant_of-self-in-Ok-seal_first
invariant_of-self-in-Ok-seal_first g c =
    let q : Pair = record { local = c.source.result; remote = c.destination.result } in
    let ts = c.self.inside.tables in
    let begins = c.in-Ok-seal_first.ensures.sent in
    let e : Entry = record { guard = c.seal_first.new.hand; last = c.args.now } in
    whole_put ts c.get_mut.follows.lender-at-none c.put.new.entries c.self.inside.spares.items c.put.new.spares.items c.self.inside.hand c.seal_first.new.hand c.put.new.hand q c.args.now
    (subst (λ (l : Listing Entry). IsWhole ts l.most l.entries c.self.inside.spares.items c.self.inside.hand) (sym c.get_mut.follows.holds-at-none) c.self.invariant)
    (suits_by ts q c.in-Some.table.now c.in-Some.ensures e begins.pair_is begins.suits (c.seal_first.ensures.rows ∙ c.self.invariant.hand_room))
    c.put.ensures.each c.put.ensures.most c.put.ensures.count c.put.ensures.spares c.put.ensures.hand

pub seal-requires-clause-suits : goal.seal-requires-clause-suits
seal-requires-clause-suits g c =
    let q : Pair = record { local = c.source.result; remote = c.destination.result } in
    suits_held c.self.inside.tables c.self.inside.entries.entries q c.self.invariant.all c.in-Some-get_mut.entry.now c.in-Some.table.now c.in-Some-get_mut.ensures.value c.in-Some.ensures

pub invariant_of-self-in-Some-get_mut : goal.invariant_of-self-in-Some-get_mut
invariant_of-self-in-Some-get_mut g c =
    let q : Pair = record { local = c.source.result; remote = c.destination.result } in
    let ts = c.self.inside.tables in let es = c.self.inside.entries.entries in let all = c.self.invariant.all in
    let e = c.in-Some-get_mut.entry.now in let f = c.seal.new.self in let found = c.in-Some-get_mut.ensures.value in
    rw (known c.get_mut.result c.in-Some-get_mut.entry c.in-Some-get_mut.is (c.get_mut.follows.holds f))
    (whole_written ts c.self.inside.entries.most es _ c.self.inside.spares.items c.self.inside.hand q f c.self.invariant refl
    (suits_written ts es q all e f found (suits_at ts es q all e f c.in-Some.table.now found c.in-Some.ensures c.seal.ensures.pair c.seal.ensures.suits c.seal.ensures.rows)))

pub returns-in-Ok-seal_first-clause-sent : goal.returns-in-Ok-seal_first-clause-sent
returns-in-Ok-seal_first-clause-sent g c =
    let q : Pair = record { local = c.source.result; remote = c.destination.result } in
    let h : Holding = record { tables = c.self.inside.tables; most = c.self.inside.entries.most; entries = c.self.inside.entries.entries } in
    let k : Holding = record { tables = c.self.inside.tables; most = c.put.new.entries.most; entries = c.put.new.entries.entries } in
    let d = c.in-Ok.datagram in let now = c.args.now in let bytes = c.args.bytes.now in let old = c.args.out.now in let new = c.seal_first.new.out in
    let seen : q ≡ pair_left d = left c.source.result c.destination.result d c.source.ensures.value c.destination.ensures.value in
    subst (λ (x : Holding). Leaves now x k bytes old new c.in-Ok-seal_first.passed) c.self.view_is
    (record {
      d = d;
      read = c.in-Ok.ensures.read;
      sealed = subst (λ (x : Pair). LeavesAt x now h k bytes old new c.in-Ok-seal_first.passed) seen
          (leaves_fresh h k q now bytes old new c.in-Some.table.now c.in-Some.ensures c.in-Ok-seal_first.passed c.seal_first.new.hand (sym c.in-None-get_mut.ensures.value)
          (rw (c.put.ensures.most, c.put.ensures.put, c.get_mut.follows.holds-at-none) refl) c.in-Ok-seal_first.ensures.sent);
    })

pub returns-after-seal-clause-sent : goal.returns-after-seal-clause-sent
returns-after-seal-clause-sent g c =
    let q : Pair = record { local = c.source.result; remote = c.destination.result } in
    let es = c.self.inside.entries.entries in let all = c.self.invariant.all in
    let h : Holding = record { tables = c.self.inside.tables; most = c.self.inside.entries.most; entries = es } in
    let f = c.seal.new.self in
    let k : Holding = record { tables = c.self.inside.tables; most = (c.get_mut.follows.lender f).most; entries = (c.get_mut.follows.lender f).entries } in
    let d = c.in-Ok.datagram in let e = c.in-Some-get_mut.entry.now in let found = c.in-Some-get_mut.ensures.value in
    let seen : q ≡ pair_left d = left c.source.result c.destination.result d c.source.ensures.value c.destination.ensures.value in
    let held = known c.get_mut.result c.in-Some-get_mut.entry c.in-Some-get_mut.is (c.get_mut.follows.holds f) in
    let now = c.args.now in let bytes = c.args.bytes.now in let old = c.args.out.now in let new = c.seal.new.out in
    subst (λ (x : Holding). IfOk c.match-seal.result (λ p. Leaves now x k bytes old new p)) c.self.view_is
    (elim c.match-seal.branch [
      | in-Err-seal w ↦ rw w.result-is tt
      | in-Ok-seal w ↦ rw w.result-is (record {
        d = d;
        read = c.in-Ok.ensures.read;
        sealed = subst (λ (x : Pair). LeavesAt x now h k bytes old new w.in-Ok-seal.passed) seen
            (leaves_held h k q now bytes old new c.in-Some.table.now c.in-Some.ensures w.in-Ok-seal.passed e f found (all q e (sym found)).pair_is (rw held refl)
            w.in-Ok-seal.ensures.sent w.in-Ok-seal.ensures.told);
      })
    ])

pub returns-after-seal-clause-refused : goal.returns-after-seal-clause-refused
returns-after-seal-clause-refused g c =
    let q : Pair = record { local = c.source.result; remote = c.destination.result } in
    let es = c.self.inside.entries.entries in
    let h : Holding = record { tables = c.self.inside.tables; most = c.self.inside.entries.most; entries = es } in
    let d = c.in-Ok.datagram in let e = c.in-Some-get_mut.entry.now in let found = c.in-Some-get_mut.ensures.value in
    let seen : q ≡ pair_left d = left c.source.result c.destination.result d c.source.ensures.value c.destination.ensures.value in
    subst (λ (x : Holding). IfErr c.match-seal.result (λ why. IsUnsent x c.args.now c.args.bytes.now why)) c.self.view_is
    (elim c.match-seal.branch [
      | in-Err-seal w ↦ rw w.result-is
          (unsent_held h h q c.args.now c.args.bytes.now [] [] c.in-Some.table.now c.in-Some.ensures w.in-Err-seal.why e found (c.self.invariant.all q e (sym found)).pair_is
          (one_left c.args.bytes.now d q c.in-Ok.ensures.read seen) w.in-Err-seal.ensures.refused)
      | in-Ok-seal w ↦ rw w.result-is tt
    ])

pub returns-after-seal-clause-unchanged : goal.returns-after-seal-clause-unchanged
returns-after-seal-clause-unchanged g c =
    let q : Pair = record { local = c.source.result; remote = c.destination.result } in
    let es = c.self.inside.entries.entries in let e = c.in-Some-get_mut.entry.now in let f = c.seal.new.self in
    elim c.match-seal.branch [
      | in-Err-seal w ↦ on_err c.match-seal.result
          (rw (known c.get_mut.result c.in-Some-get_mut.entry c.in-Some-get_mut.is (c.get_mut.follows.holds f), w.in-Err-seal.ensures.unchanged.0, set_same q es e c.in-Some-get_mut.ensures.value) c.self.view_is)
      | in-Ok-seal w ↦ rw w.result-is tt
    ]
