use Rattle.std.proofs.Common.{◌≡◌, ℕ, Some, true, false, ap, sym, subst, ◌∙◌, arith}
use Rattle.book_base.specs.declared.address.Socket.{Socket}
use Rattle.book_segments.specs.Sockets.{same_socket}
use Rattle.book_segments.specs.Segments.{Read, reading}
use Rattle.book_macs.specs.Contexts.{bytes_of}
use Rattle.book_shim.specs.declared.kept.Kept.{Kept}
use Rattle.book_shim.specs.Keeping.{is_keyed}
use Rattle.book_shim.specs.Leaving.{entered, past_sent}
use Rattle.law_shim.specs.Seals.{sealed_with}
use Rattle.ao_check.specs.declared.choice.Sending.{Sending as Answer}
use Rattle.ao_kdf.specs.declared.way.Way.TheVariants.{Outbound}
use Rattle.ao_kdf.specs.Cache.{kept}
use Rattle.ao_check.proofs.KeyLaws.{one_step}
use Rattle.ao_shim.specs.Guards.{AreLow, Suits, is_single_use}
use Rattle.ao_shim.proofs.KeptLaws.{entered_low, past_sent_low, past_sent_isns, has_key, suits_sealed, suits_same}
use Rattle.ao_shim.proofs.OutLaws.{unread, foreign_source, foreign_destination, unkeyed, own, costs, no_cost}
use Rattle.ao_shim.proofs.SealLaws.{read_fits}
use Rattle.ao_shim.proofs.leaving.sealed.Goals as goal

pub returns-in-Err-clause-refused : goal.returns-in-Err-clause-refused
returns-in-Err-clause-refused g c = λ mtu.
    unread (record { rows = c.args.table.now.rows; now = c.args.now; mtu = mtu }) c.args.pair.now c.args.before.now c.args.bytes.now c.in-Err.fault c.in-Err.ensures.refused

pub returns-then-not-is_same_socket-clause-refused : goal.returns-then-not-is_same_socket-clause-refused
returns-then-not-is_same_socket-clause-refused g c = λ mtu.
    let read : reading c.args.bytes.now ≡ Read c.in-Ok.datagram = c.in-Ok.ensures.read in
    let source : same_socket c.in-Ok.datagram.source c.args.pair.now.local ≡ false = ap (λ (s : Socket). same_socket s c.args.pair.now.local) (sym c.source.ensures.value) ∙ (sym c.is_same_socket.ensures.told ∙ c.if-not-is_same_socket.true) in
    foreign_source (record { rows = c.args.table.now.rows; now = c.args.now; mtu = mtu }) c.args.pair.now c.args.before.now c.args.bytes.now c.in-Ok.datagram read source

pub returns-then-not-is_same_socket-2-clause-refused : goal.returns-then-not-is_same_socket-2-clause-refused
returns-then-not-is_same_socket-2-clause-refused g c = λ mtu.
    let read : reading c.args.bytes.now ≡ Read c.in-Ok.datagram = c.in-Ok.ensures.read in
    let source : same_socket c.in-Ok.datagram.source c.args.pair.now.local ≡ true = ap (λ (s : Socket). same_socket s c.args.pair.now.local) (sym c.source.ensures.value) ∙ (sym c.is_same_socket.ensures.told ∙ c.if-not-is_same_socket.false) in
    let destination : same_socket c.in-Ok.datagram.destination c.args.pair.now.remote ≡ false = ap (λ (s : Socket). same_socket s c.args.pair.now.remote) (sym c.destination.ensures.value) ∙ (sym c.is_same_socket-2.ensures.told ∙ c.if-not-is_same_socket-2.true) in
    foreign_destination (record { rows = c.args.table.now.rows; now = c.args.now; mtu = mtu }) c.args.pair.now c.args.before.now c.args.bytes.now c.in-Ok.datagram read source destination

pub returns-then-not-is_keyed-clause-refused : goal.returns-then-not-is_keyed-clause-refused
returns-then-not-is_keyed-clause-refused g c = λ mtu.
    let read : reading c.args.bytes.now ≡ Read c.in-Ok.datagram = c.in-Ok.ensures.read in
    let source : same_socket c.in-Ok.datagram.source c.args.pair.now.local ≡ true = ap (λ (s : Socket). same_socket s c.args.pair.now.local) (sym c.source.ensures.value) ∙ (sym c.is_same_socket.ensures.told ∙ c.if-not-is_same_socket.false) in
    let destination : same_socket c.in-Ok.datagram.destination c.args.pair.now.remote ≡ true = ap (λ (s : Socket). same_socket s c.args.pair.now.remote) (sym c.destination.ensures.value) ∙ (sym c.is_same_socket-2.ensures.told ∙ c.if-not-is_same_socket-2.false) in
    let keyed : is_keyed c.args.table.now.rows c.args.pair.now ≡ false = sym c.is_keyed.ensures ∙ c.if-not-is_keyed.true in
    own (record { rows = c.args.table.now.rows; now = c.args.now; mtu = mtu }) c.args.pair.now c.args.before.now c.args.bytes.now c.in-Ok.datagram read source destination ∙ unkeyed (record { rows = c.args.table.now.rows; now = c.args.now; mtu = mtu }) c.args.pair.now (entered c.args.before.now c.in-Ok.datagram) c.in-Ok.datagram keyed

pub returns-in-Err-planned-clause-refused : goal.returns-in-Err-planned-clause-refused
returns-in-Err-planned-clause-refused g c = λ mtu.
    let read : reading c.args.bytes.now ≡ Read c.in-Ok.datagram = c.in-Ok.ensures.read in
    let source : same_socket c.in-Ok.datagram.source c.args.pair.now.local ≡ true = ap (λ (s : Socket). same_socket s c.args.pair.now.local) (sym c.source.ensures.value) ∙ (sym c.is_same_socket.ensures.told ∙ c.if-not-is_same_socket.false) in
    let destination : same_socket c.in-Ok.datagram.destination c.args.pair.now.remote ≡ true = ap (λ (s : Socket). same_socket s c.args.pair.now.remote) (sym c.destination.ensures.value) ∙ (sym c.is_same_socket-2.ensures.told ∙ c.if-not-is_same_socket-2.false) in
    (own (record { rows = c.args.table.now.rows; now = c.args.now; mtu = mtu }) c.args.pair.now c.args.before.now c.args.bytes.now c.in-Ok.datagram read source destination ∙ c.in-Err-planned.ensures.refused mtu)

pub returns-in-Err-clause-counted : goal.returns-in-Err-clause-counted
returns-in-Err-clause-counted g c = λ mtu m m-is.
    no_cost (sym m-is ∙ unread (record { rows = c.args.table.now.rows; now = c.args.now; mtu = mtu }) c.args.pair.now c.args.before.now c.args.bytes.now c.in-Err.fault c.in-Err.ensures.refused)

pub returns-then-not-is_same_socket-clause-counted : goal.returns-then-not-is_same_socket-clause-counted
returns-then-not-is_same_socket-clause-counted g c = λ mtu m m-is.
    let read : reading c.args.bytes.now ≡ Read c.in-Ok.datagram = c.in-Ok.ensures.read in
    let source : same_socket c.in-Ok.datagram.source c.args.pair.now.local ≡ false = ap (λ (s : Socket). same_socket s c.args.pair.now.local) (sym c.source.ensures.value) ∙ (sym c.is_same_socket.ensures.told ∙ c.if-not-is_same_socket.true) in
    no_cost (sym m-is ∙ foreign_source (record { rows = c.args.table.now.rows; now = c.args.now; mtu = mtu }) c.args.pair.now c.args.before.now c.args.bytes.now c.in-Ok.datagram read source)

pub returns-then-not-is_same_socket-2-clause-counted : goal.returns-then-not-is_same_socket-2-clause-counted
returns-then-not-is_same_socket-2-clause-counted g c = λ mtu m m-is.
    let read : reading c.args.bytes.now ≡ Read c.in-Ok.datagram = c.in-Ok.ensures.read in
    let source : same_socket c.in-Ok.datagram.source c.args.pair.now.local ≡ true = ap (λ (s : Socket). same_socket s c.args.pair.now.local) (sym c.source.ensures.value) ∙ (sym c.is_same_socket.ensures.told ∙ c.if-not-is_same_socket.false) in
    let destination : same_socket c.in-Ok.datagram.destination c.args.pair.now.remote ≡ false = ap (λ (s : Socket). same_socket s c.args.pair.now.remote) (sym c.destination.ensures.value) ∙ (sym c.is_same_socket-2.ensures.told ∙ c.if-not-is_same_socket-2.true) in
    no_cost (sym m-is ∙ foreign_destination (record { rows = c.args.table.now.rows; now = c.args.now; mtu = mtu }) c.args.pair.now c.args.before.now c.args.bytes.now c.in-Ok.datagram read source destination)

pub returns-then-not-is_keyed-clause-counted : goal.returns-then-not-is_keyed-clause-counted
returns-then-not-is_keyed-clause-counted g c = λ mtu m m-is.
    let read : reading c.args.bytes.now ≡ Read c.in-Ok.datagram = c.in-Ok.ensures.read in
    let source : same_socket c.in-Ok.datagram.source c.args.pair.now.local ≡ true = ap (λ (s : Socket). same_socket s c.args.pair.now.local) (sym c.source.ensures.value) ∙ (sym c.is_same_socket.ensures.told ∙ c.if-not-is_same_socket.false) in
    let destination : same_socket c.in-Ok.datagram.destination c.args.pair.now.remote ≡ true = ap (λ (s : Socket). same_socket s c.args.pair.now.remote) (sym c.destination.ensures.value) ∙ (sym c.is_same_socket-2.ensures.told ∙ c.if-not-is_same_socket-2.false) in
    let keyed : is_keyed c.args.table.now.rows c.args.pair.now ≡ false = sym c.is_keyed.ensures ∙ c.if-not-is_keyed.true in
    no_cost (sym m-is ∙ (own (record { rows = c.args.table.now.rows; now = c.args.now; mtu = mtu }) c.args.pair.now c.args.before.now c.args.bytes.now c.in-Ok.datagram read source destination ∙ unkeyed (record { rows = c.args.table.now.rows; now = c.args.now; mtu = mtu }) c.args.pair.now (entered c.args.before.now c.in-Ok.datagram) c.in-Ok.datagram keyed))

pub returns-in-Err-planned-clause-counted : goal.returns-in-Err-planned-clause-counted
returns-in-Err-planned-clause-counted g c = λ mtu m m-is.
    let read : reading c.args.bytes.now ≡ Read c.in-Ok.datagram = c.in-Ok.ensures.read in
    let source : same_socket c.in-Ok.datagram.source c.args.pair.now.local ≡ true = ap (λ (s : Socket). same_socket s c.args.pair.now.local) (sym c.source.ensures.value) ∙ (sym c.is_same_socket.ensures.told ∙ c.if-not-is_same_socket.false) in
    let destination : same_socket c.in-Ok.datagram.destination c.args.pair.now.remote ≡ true = ap (λ (s : Socket). same_socket s c.args.pair.now.remote) (sym c.destination.ensures.value) ∙ (sym c.is_same_socket-2.ensures.told ∙ c.if-not-is_same_socket-2.false) in
    no_cost (sym m-is ∙ (own (record { rows = c.args.table.now.rows; now = c.args.now; mtu = mtu }) c.args.pair.now c.args.before.now c.args.bytes.now c.in-Ok.datagram read source destination ∙ c.in-Err-planned.ensures.refused mtu))

pub seal-end-requires-clause-key : goal.seal-end-requires-clause-key
seal-end-requires-clause-key g c = λ r here.
    let read : reading c.args.bytes.now ≡ Read c.in-Ok.datagram = c.in-Ok.ensures.read in
    let q = c.in-Ok-planned.ensures.planned in
    let from : c.in-Ok.datagram.source ≡ c.args.pair.now.local = sym c.source.ensures.value ∙ c.is_same_socket.ensures.same c.if-not-is_same_socket.false in
    let to : c.in-Ok.datagram.destination ≡ c.args.pair.now.remote = sym c.destination.ensures.value ∙ c.is_same_socket-2.ensures.same c.if-not-is_same_socket-2.false in
    let suits : Suits c.args.table.now.rows (record { pair = c.args.pair.now; kept = c.in-Ok-planned.plan.kept; keys = c.renew.new.keys }) = c.renew.ensures.suits c.args.table.now.rows c.args.pair.now c.requires.suits in
    has_key c.args.table.now.rows c.args.pair.now c.renew.new.keys c.in-Ok.datagram c.in-Ok-planned.plan r suits q.ready.high q.context_is from to here

pub past_sent-sent-requires : goal.past_sent-sent-requires
past_sent-sent-requires g c =
    let q = c.in-Ok-planned.ensures.planned in
    omega (arith, q.ends)

pub returns-clause-low : goal.returns-clause-low
returns-clause-low g c =
    let read : reading c.args.bytes.now ≡ Read c.in-Ok.datagram = c.in-Ok.ensures.read in
    let q = c.in-Ok-planned.ensures.planned in
    let f = read_fits c.args.bytes.now c.in-Ok.datagram (λ i. omega (arith, c.type_inv.bytes i)) read in
    let low : AreLow c.in-Ok-planned.plan.kept = subst AreLow (sym q.kept_is) (entered_low c.args.before.now c.in-Ok.datagram c.requires.low f.sequence) in
    let past = subst AreLow (sym c.past_sent-sent.ensures) (past_sent_low c.in-Ok-planned.plan.kept c.in-Ok.datagram c.in-Ok-planned.plan.number low q.ends) in
    record { sent = past.sent; heard = past.heard }

pub returns-clause-suits : goal.returns-clause-suits
returns-clause-suits g c =
    let read : reading c.args.bytes.now ≡ Read c.in-Ok.datagram = c.in-Ok.ensures.read in
    let q = c.in-Ok-planned.ensures.planned in
    let from : c.in-Ok.datagram.source ≡ c.args.pair.now.local = sym c.source.ensures.value ∙ c.is_same_socket.ensures.same c.if-not-is_same_socket.false in
    let to : c.in-Ok.datagram.destination ≡ c.args.pair.now.remote = sym c.destination.ensures.value ∙ c.is_same_socket-2.ensures.same c.if-not-is_same_socket-2.false in
    let suits : Suits c.args.table.now.rows (record { pair = c.args.pair.now; kept = c.in-Ok-planned.plan.kept; keys = c.renew.new.keys }) = c.renew.ensures.suits c.args.table.now.rows c.args.pair.now c.requires.suits in
    let row = q.ready.s.row in
    let used = suits_sealed c.args.table.now.rows c.args.pair.now c.in-Ok-planned.plan.kept c.renew.new.keys c.seal-end.new.keys c.in-Ok.datagram c.in-Ok-planned.plan row suits q.context_is from to q.ready.row_is (c.seal-end.ensures.keys row q.ready.row_is) in
    let isns = ap (λ (k : Kept). k.isns) c.past_sent-sent.ensures ∙ past_sent_isns c.in-Ok-planned.plan.kept c.in-Ok.datagram c.in-Ok-planned.plan.number in
    suits_same c.args.table.now.rows c.args.pair.now c.in-Ok-planned.plan.kept (record c.past_sent-sent.result { current = Some c.in-Ok-planned.plan.sending.row }) c.seal-end.new.keys (sym isns) used

pub returns-clause-sent : goal.returns-clause-sent
returns-clause-sent g c = λ mtu.
    let read : reading c.args.bytes.now ≡ Read c.in-Ok.datagram = c.in-Ok.ensures.read in
    let source : same_socket c.in-Ok.datagram.source c.args.pair.now.local ≡ true = ap (λ (s : Socket). same_socket s c.args.pair.now.local) (sym c.source.ensures.value) ∙ (sym c.is_same_socket.ensures.told ∙ c.if-not-is_same_socket.false) in
    let destination : same_socket c.in-Ok.datagram.destination c.args.pair.now.remote ≡ true = ap (λ (s : Socket). same_socket s c.args.pair.now.remote) (sym c.destination.ensures.value) ∙ (sym c.is_same_socket-2.ensures.told ∙ c.if-not-is_same_socket-2.false) in
    let q = c.in-Ok-planned.ensures.planned in
    let number : c.in-Ok-planned.plan.sending.row ≡ q.ready.s.number = ap (λ (x : Answer). x.row) q.ready.sending_is in
    let past : c.past_sent-sent.result ≡ past_sent (entered c.args.before.now c.in-Ok.datagram) c.in-Ok.datagram c.in-Ok-planned.plan.number = c.past_sent-sent.ensures ∙ ap (λ (k : Kept). past_sent k c.in-Ok.datagram c.in-Ok-planned.plan.number) q.kept_is in
    record {
      sealed = sealed_with (entered c.args.before.now c.in-Ok.datagram) c.in-Ok.datagram c.in-Ok-planned.plan.fitted q.ready.s (bytes_of c.in-Ok-planned.plan.context) c.in-Ok-planned.plan.number;
      is = own (record { rows = c.args.table.now.rows; now = c.args.now; mtu = mtu }) c.args.pair.now c.args.before.now c.args.bytes.now c.in-Ok.datagram read source destination ∙ q.sent_is mtu;
      kept_is = ap (λ (k : Kept). let x : Kept = record k { current = Some c.in-Ok-planned.plan.sending.row } in x) past ∙ ap (λ (n : ℕ). let x : Kept = record (past_sent (entered c.args.before.now c.in-Ok.datagram) c.in-Ok.datagram c.in-Ok-planned.plan.number) { current = Some n } in x) number;
      written = c.seal-end.ensures.written q.ready;
    }

pub returns-clause-counted : goal.returns-clause-counted
returns-clause-counted g c = λ mtu m m-is.
    let read : reading c.args.bytes.now ≡ Read c.in-Ok.datagram = c.in-Ok.ensures.read in
    let source : same_socket c.in-Ok.datagram.source c.args.pair.now.local ≡ true = ap (λ (s : Socket). same_socket s c.args.pair.now.local) (sym c.source.ensures.value) ∙ (sym c.is_same_socket.ensures.told ∙ c.if-not-is_same_socket.false) in
    let destination : same_socket c.in-Ok.datagram.destination c.args.pair.now.remote ≡ true = ap (λ (s : Socket). same_socket s c.args.pair.now.remote) (sym c.destination.ensures.value) ∙ (sym c.is_same_socket-2.ensures.told ∙ c.if-not-is_same_socket-2.false) in
    let q = c.in-Ok-planned.ensures.planned in
    let same = sym (own (record { rows = c.args.table.now.rows; now = c.args.now; mtu = mtu }) c.args.pair.now c.args.before.now c.args.bytes.now c.in-Ok.datagram read source destination ∙ q.sent_is mtu) ∙ m-is in
    let number : c.in-Ok-planned.plan.sending.row ≡ q.ready.s.number = ap (λ (x : Answer). x.row) q.ready.sending_is in
    costs c.args.before.now c.in-Ok.datagram c.in-Ok-planned.plan.kept c.in-Ok-planned.plan.fitted q.ready.s (bytes_of c.in-Ok-planned.plan.context) c.in-Ok-planned.plan.number m c.args.keys.now c.renew.new.keys c.in-Ok-planned.plan.sending.row c.args.steps.now c.seal-end.new.steps same number q.kept_is c.renew.ensures.keys c.seal-end.ensures.counted

pub returns-clause-most : goal.returns-clause-most
returns-clause-most g c =
    omega (arith, c.seal-end.ensures.counted, one_step (is_single_use c.in-Ok-planned.plan.kept c.in-Ok.datagram) (kept c.renew.new.keys c.in-Ok-planned.plan.sending.row Outbound))
