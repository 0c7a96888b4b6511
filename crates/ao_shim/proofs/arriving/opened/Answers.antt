use Rattle.std.proofs.Common.{◌≡◌, ℕ, ◌≤◌, List, length, Option, true, false, ap, sym, subst, ◌∙◌, arith, ◌++◌, drop}
use Rattle.book_base.specs.declared.address.Socket.{Socket}
use Rattle.book_segments.specs.Sockets.{same_socket}
use Rattle.book_segments.specs.Segments.{Segment, Read, reading, good, spell, has, SYN}
use Rattle.book_shim.specs.declared.kept.Kept.{Kept}
use Rattle.book_shim.specs.Keeping.{is_keyed}
use Rattle.book_shim.specs.Relaying.{coming_area, most_mss, relaid}
use Rattle.book_shim.specs.Arriving.{judged_arrival, handed_on, admitted}
use Rattle.ao_shim.specs.Guards.{AreLow}
use Rattle.ao_shim.proofs.KeptLaws.{admitted_low, past_heard_low, idle_counted, Counts, counts_same}
use Rattle.ao_shim.proofs.InLaws.{unread, foreign_source, foreign_destination, from_peer_is, unkeyed, wrong_sum, refused_as, taken_as}
use Rattle.ao_shim.proofs.TakenLaws.{passed, heard_is, coming_less, less_told}
use Rattle.ao_shim.proofs.SealLaws.{read_fits, read_room, read_same}
use Rattle.ao_shim.proofs.arriving.opened.Goals as goal

pub returns-in-Err-clause-refused : goal.returns-in-Err-clause-refused
returns-in-Err-clause-refused g c =
    unread (record { rows = c.args.table.now.rows; now = c.args.now; mtu = c.args.mtu }) c.args.pair.now c.args.before.now c.args.bytes.now c.in-Err.fault c.in-Err.ensures.refused

pub returns-then-not-is_same_socket-clause-refused : goal.returns-then-not-is_same_socket-clause-refused
returns-then-not-is_same_socket-clause-refused g c =
    let read : reading c.args.bytes.now ≡ Read c.in-Ok.datagram = c.in-Ok.ensures.read in
    let source : same_socket c.in-Ok.datagram.source c.args.pair.now.remote ≡ false = ap (λ (s : Socket). same_socket s c.args.pair.now.remote) (sym c.source.ensures.value) ∙ (sym c.is_same_socket.ensures.told ∙ c.if-not-is_same_socket.true) in
    foreign_source (record { rows = c.args.table.now.rows; now = c.args.now; mtu = c.args.mtu }) c.args.pair.now c.args.before.now c.args.bytes.now c.in-Ok.datagram read source

pub returns-then-not-is_same_socket-2-clause-refused : goal.returns-then-not-is_same_socket-2-clause-refused
returns-then-not-is_same_socket-2-clause-refused g c =
    let read : reading c.args.bytes.now ≡ Read c.in-Ok.datagram = c.in-Ok.ensures.read in
    let source : same_socket c.in-Ok.datagram.source c.args.pair.now.remote ≡ true = ap (λ (s : Socket). same_socket s c.args.pair.now.remote) (sym c.source.ensures.value) ∙ (sym c.is_same_socket.ensures.told ∙ c.if-not-is_same_socket.false) in
    let destination : same_socket c.in-Ok.datagram.destination c.args.pair.now.local ≡ false = ap (λ (s : Socket). same_socket s c.args.pair.now.local) (sym c.destination.ensures.value) ∙ (sym c.is_same_socket-2.ensures.told ∙ c.if-not-is_same_socket-2.true) in
    foreign_destination (record { rows = c.args.table.now.rows; now = c.args.now; mtu = c.args.mtu }) c.args.pair.now c.args.before.now c.args.bytes.now c.in-Ok.datagram read source destination

pub returns-then-not-is_keyed-clause-refused : goal.returns-then-not-is_keyed-clause-refused
returns-then-not-is_keyed-clause-refused g c =
    let read : reading c.args.bytes.now ≡ Read c.in-Ok.datagram = c.in-Ok.ensures.read in
    let source : same_socket c.in-Ok.datagram.source c.args.pair.now.remote ≡ true = ap (λ (s : Socket). same_socket s c.args.pair.now.remote) (sym c.source.ensures.value) ∙ (sym c.is_same_socket.ensures.told ∙ c.if-not-is_same_socket.false) in
    let destination : same_socket c.in-Ok.datagram.destination c.args.pair.now.local ≡ true = ap (λ (s : Socket). same_socket s c.args.pair.now.local) (sym c.destination.ensures.value) ∙ (sym c.is_same_socket-2.ensures.told ∙ c.if-not-is_same_socket-2.false) in
    from_peer_is (record { rows = c.args.table.now.rows; now = c.args.now; mtu = c.args.mtu }) c.args.pair.now c.args.before.now c.args.bytes.now c.in-Ok.datagram read source destination ∙ unkeyed (record { rows = c.args.table.now.rows; now = c.args.now; mtu = c.args.mtu }) c.args.pair.now c.args.before.now c.in-Ok.datagram (sym c.is_keyed.ensures ∙ c.if-not-is_keyed.true)

pub returns-then-not-checksum_ok-clause-refused : goal.returns-then-not-checksum_ok-clause-refused
returns-then-not-checksum_ok-clause-refused g c =
    let read : reading c.args.bytes.now ≡ Read c.in-Ok.datagram = c.in-Ok.ensures.read in
    let source : same_socket c.in-Ok.datagram.source c.args.pair.now.remote ≡ true = ap (λ (s : Socket). same_socket s c.args.pair.now.remote) (sym c.source.ensures.value) ∙ (sym c.is_same_socket.ensures.told ∙ c.if-not-is_same_socket.false) in
    let destination : same_socket c.in-Ok.datagram.destination c.args.pair.now.local ≡ true = ap (λ (s : Socket). same_socket s c.args.pair.now.local) (sym c.destination.ensures.value) ∙ (sym c.is_same_socket-2.ensures.told ∙ c.if-not-is_same_socket-2.false) in
    let keyed : is_keyed c.args.table.now.rows c.args.pair.now ≡ true = sym c.is_keyed.ensures ∙ c.if-not-is_keyed.false in
    let right : good c.in-Ok.datagram ≡ false = sym c.checksum_ok.ensures ∙ c.if-not-checksum_ok.true in
    from_peer_is (record { rows = c.args.table.now.rows; now = c.args.now; mtu = c.args.mtu }) c.args.pair.now c.args.before.now c.args.bytes.now c.in-Ok.datagram read source destination ∙ wrong_sum (record { rows = c.args.table.now.rows; now = c.args.now; mtu = c.args.mtu }) c.args.pair.now c.args.before.now c.in-Ok.datagram keyed right

pub returns-in-Err-judged-clause-refused : goal.returns-in-Err-judged-clause-refused
returns-in-Err-judged-clause-refused g c =
    let read : reading c.args.bytes.now ≡ Read c.in-Ok.datagram = c.in-Ok.ensures.read in
    let source : same_socket c.in-Ok.datagram.source c.args.pair.now.remote ≡ true = ap (λ (s : Socket). same_socket s c.args.pair.now.remote) (sym c.source.ensures.value) ∙ (sym c.is_same_socket.ensures.told ∙ c.if-not-is_same_socket.false) in
    let destination : same_socket c.in-Ok.datagram.destination c.args.pair.now.local ≡ true = ap (λ (s : Socket). same_socket s c.args.pair.now.local) (sym c.destination.ensures.value) ∙ (sym c.is_same_socket-2.ensures.told ∙ c.if-not-is_same_socket-2.false) in
    let keyed : is_keyed c.args.table.now.rows c.args.pair.now ≡ true = sym c.is_keyed.ensures ∙ c.if-not-is_keyed.false in
    let right : good c.in-Ok.datagram ≡ true = sym c.checksum_ok.ensures ∙ c.if-not-checksum_ok.false in
    from_peer_is (record { rows = c.args.table.now.rows; now = c.args.now; mtu = c.args.mtu }) c.args.pair.now c.args.before.now c.args.bytes.now c.in-Ok.datagram read source destination ∙ refused_as (record { rows = c.args.table.now.rows; now = c.args.now; mtu = c.args.mtu }) c.args.pair.now c.args.before.now c.in-Ok.datagram c.in-Err-judged.verdict keyed right (c.in-Err-judged.ensures.verdict c.args.mtu)

pub judged-requires-clause-source : goal.judged-requires-clause-source
judged-requires-clause-source g c =
    sym c.source.ensures.value ∙ c.is_same_socket.ensures.same c.if-not-is_same_socket.false

pub judged-requires-clause-destination : goal.judged-requires-clause-destination
judged-requires-clause-destination g c =
    sym c.destination.ensures.value ∙ c.is_same_socket-2.ensures.same c.if-not-is_same_socket-2.false

pub coming-area-requires-clause-listed : goal.coming-area-requires-clause-listed
coming-area-requires-clause-listed g c =
    let read : reading c.args.bytes.now ≡ Read c.in-Ok.datagram = c.in-Ok.ensures.read in
    let f = read_fits c.args.bytes.now c.in-Ok.datagram (λ i. omega (arith, c.type_inv.bytes i)) read in
    subst (λ (l : List ℕ). Rattle.book_segments.specs.Options.AreListed (Rattle.book_segments.specs.Options.options_of l)) (sym c.options.ensures.value) f.listed

pub coming-area-requires-clause-short : goal.coming-area-requires-clause-short
coming-area-requires-clause-short g c =
    let read : reading c.args.bytes.now ≡ Read c.in-Ok.datagram = c.in-Ok.ensures.read in
    let f = read_fits c.args.bytes.now c.in-Ok.datagram (λ i. omega (arith, c.type_inv.bytes i)) read in
    subst (λ (l : List ℕ). length l ≤ 40) (sym c.options.ensures.value) f.area.most

pub relay-end-requires-clause-whole : goal.relay-end-requires-clause-whole
relay-end-requires-clause-whole g c =
    let read : reading c.args.bytes.now ≡ Read c.in-Ok.datagram = c.in-Ok.ensures.read in
    let f = read_fits c.args.bytes.now c.in-Ok.datagram (λ i. omega (arith, c.type_inv.bytes i)) read in
    let area : c.as_slice.result.now ≡ coming_area (most_mss c.args.mtu c.in-Ok.datagram) c.in-Ok.datagram.area = c.as_slice.ensures.bytes ∙ (c.coming-area.ensures ∙ (ap (λ (o : Option ℕ). coming_area o c.options.result) c.most_mss-most.ensures ∙ ap (coming_area (most_mss c.args.mtu c.in-Ok.datagram)) c.options.ensures.value)) in
    let less : length c.as_slice.result.now ≤ length c.in-Ok.datagram.area = subst (λ (l : List ℕ). length l ≤ length c.in-Ok.datagram.area) (sym area) (coming_less (most_mss c.args.mtu c.in-Ok.datagram) c.in-Ok.datagram f) in
    less_told c.in-Ok.datagram.ip c.in-Ok.datagram c.as_slice.result.now f.ip less

pub relay-end-requires-clause-room : goal.relay-end-requires-clause-room
relay-end-requires-clause-room g c =
    let read : reading c.args.bytes.now ≡ Read c.in-Ok.datagram = c.in-Ok.ensures.read in
    let f = read_fits c.args.bytes.now c.in-Ok.datagram (λ i. omega (arith, c.type_inv.bytes i)) read in
    let area : c.as_slice.result.now ≡ coming_area (most_mss c.args.mtu c.in-Ok.datagram) c.in-Ok.datagram.area = c.as_slice.ensures.bytes ∙ (c.coming-area.ensures ∙ (ap (λ (o : Option ℕ). coming_area o c.options.result) c.most_mss-most.ensures ∙ ap (coming_area (most_mss c.args.mtu c.in-Ok.datagram)) c.options.ensures.value)) in
    let less : length c.as_slice.result.now ≤ length c.in-Ok.datagram.area = subst (λ (l : List ℕ). length l ≤ length c.in-Ok.datagram.area) (sym area) (coming_less (most_mss c.args.mtu c.in-Ok.datagram) c.in-Ok.datagram f) in
    omega (arith, less, c.requires.room, read_room c.args.bytes.now c.in-Ok.datagram (λ i. omega (arith, c.type_inv.bytes i)) read)

pub heard-kept-requires : goal.heard-kept-requires
heard-kept-requires g c =
    let x = passed c.args.table.now.rows c.args.pair.now c.in-Ok.datagram c.in-Ok-judged.passing (judged_arrival (record { rows = c.args.table.now.rows; now = c.args.now; mtu = c.args.mtu }) c.args.pair.now c.args.before.now c.in-Ok.datagram) (c.in-Ok-judged.ensures.verdict c.args.mtu) c.in-Ok-judged.ensures.option in
    omega (arith, x.end)

pub returns-clause-low : goal.returns-clause-low
returns-clause-low g c =
    let read : reading c.args.bytes.now ≡ Read c.in-Ok.datagram = c.in-Ok.ensures.read in
    let f = read_fits c.args.bytes.now c.in-Ok.datagram (λ i. omega (arith, c.type_inv.bytes i)) read in
    let x = passed c.args.table.now.rows c.args.pair.now c.in-Ok.datagram c.in-Ok-judged.passing (judged_arrival (record { rows = c.args.table.now.rows; now = c.args.now; mtu = c.args.mtu }) c.args.pair.now c.args.before.now c.in-Ok.datagram) (c.in-Ok-judged.ensures.verdict c.args.mtu) c.in-Ok-judged.ensures.option in
    let past = past_heard_low (admitted c.args.before.now c.in-Ok.datagram) c.in-Ok.datagram c.in-Ok-judged.passing.passed.number (admitted_low c.args.before.now c.in-Ok.datagram c.requires.low f.sequence) x.end in
    subst AreLow (sym c.heard-kept.ensures) (record { sent = past.sent; heard = past.heard })

pub returns-clause-taken : goal.returns-clause-taken
returns-clause-taken g c =
    let read : reading c.args.bytes.now ≡ Read c.in-Ok.datagram = c.in-Ok.ensures.read in
    let source : same_socket c.in-Ok.datagram.source c.args.pair.now.remote ≡ true = ap (λ (s : Socket). same_socket s c.args.pair.now.remote) (sym c.source.ensures.value) ∙ (sym c.is_same_socket.ensures.told ∙ c.if-not-is_same_socket.false) in
    let destination : same_socket c.in-Ok.datagram.destination c.args.pair.now.local ≡ true = ap (λ (s : Socket). same_socket s c.args.pair.now.local) (sym c.destination.ensures.value) ∙ (sym c.is_same_socket-2.ensures.told ∙ c.if-not-is_same_socket-2.false) in
    let keyed : is_keyed c.args.table.now.rows c.args.pair.now ≡ true = sym c.is_keyed.ensures ∙ c.if-not-is_keyed.false in
    let right : good c.in-Ok.datagram ≡ true = sym c.checksum_ok.ensures ∙ c.if-not-checksum_ok.false in
    let x = passed c.args.table.now.rows c.args.pair.now c.in-Ok.datagram c.in-Ok-judged.passing (judged_arrival (record { rows = c.args.table.now.rows; now = c.args.now; mtu = c.args.mtu }) c.args.pair.now c.args.before.now c.in-Ok.datagram) (c.in-Ok-judged.ensures.verdict c.args.mtu) c.in-Ok-judged.ensures.option in
    let area : c.as_slice.result.now ≡ coming_area (most_mss c.args.mtu c.in-Ok.datagram) c.in-Ok.datagram.area = c.as_slice.ensures.bytes ∙ (c.coming-area.ensures ∙ (ap (λ (o : Option ℕ). coming_area o c.options.result) c.most_mss-most.ensures ∙ ap (coming_area (most_mss c.args.mtu c.in-Ok.datagram)) c.options.ensures.value)) in
    let segment : ◌≡◌ {A = Segment} (relaid c.in-Ok.datagram c.as_slice.result.now) (relaid c.in-Ok.datagram (coming_area (most_mss c.args.mtu c.in-Ok.datagram) c.in-Ok.datagram.area)) = ap (relaid c.in-Ok.datagram) area in
    record {
      opened = handed_on (record { rows = c.args.table.now.rows; now = c.args.now; mtu = c.args.mtu }) c.args.pair.now c.args.before.now c.in-Ok.datagram x.finding;
      is = from_peer_is (record { rows = c.args.table.now.rows; now = c.args.now; mtu = c.args.mtu }) c.args.pair.now c.args.before.now c.args.bytes.now c.in-Ok.datagram read source destination ∙ taken_as (record { rows = c.args.table.now.rows; now = c.args.now; mtu = c.args.mtu }) c.args.pair.now c.args.before.now c.in-Ok.datagram x.finding keyed right x.is;
      kept_is = c.heard-kept.ensures ∙ heard_is c.args.table.now.rows c.args.now c.args.mtu c.args.pair.now c.args.before.now c.in-Ok.datagram x.finding c.in-Ok-judged.passing.passed.number c.in-Ok-judged.passing.option.rnext x.number_is x.rnext_is;
      written = record {
        count_is = c.relay-end.ensures.end ∙ ap (λ (y : Segment). length (spell y)) segment;
        new_is = c.relay-end.ensures.relaid ∙ ap (λ (y : Segment). spell y ++ drop c.relay-end.result c.args.out.now) segment;
      };
    }

pub returns-in-Err-judged-clause-counted : goal.returns-in-Err-judged-clause-counted
returns-in-Err-judged-clause-counted g c = λ d read syn.
    let same = read_same c.in-Ok.datagram d c.args.bytes.now c.in-Ok.ensures.read read in
    subst (λ (x : Segment). Counts c.args.table.now.rows c.args.pair.now c.args.now c.args.keys.now c.judged.new.keys x c.args.steps.now c.judged.new.steps) same (c.in-Err-judged.ensures.counted (ap (λ (x : Segment). has SYN x) same ∙ syn))

pub returns-clause-counted : goal.returns-clause-counted
returns-clause-counted g c = λ d read syn.
    let same = read_same c.in-Ok.datagram d c.args.bytes.now c.in-Ok.ensures.read read in
    counts_same c.args.table.now.rows c.args.pair.now c.args.now c.args.keys.now c.judged.new.keys c.renew.new.keys c.in-Ok.datagram d c.args.before.now c.heard-kept.result c.in-Ok-judged.passing.passed.number c.args.steps.now c.judged.new.steps same syn (ap (λ (k : Kept). k.isns) c.heard-kept.ensures) c.renew.ensures.keys c.in-Ok-judged.ensures.counted

pub returns-in-Err-clause-counted : goal.returns-in-Err-clause-counted
returns-in-Err-clause-counted g c = λ d read syn. (false, idle_counted c.args.keys.now _ _ c.args.steps.now)

pub returns-then-not-is_same_socket-clause-counted : goal.returns-then-not-is_same_socket-clause-counted
returns-then-not-is_same_socket-clause-counted g c = λ d read syn. (false, idle_counted c.args.keys.now _ _ c.args.steps.now)

pub returns-then-not-is_same_socket-2-clause-counted : goal.returns-then-not-is_same_socket-2-clause-counted
returns-then-not-is_same_socket-2-clause-counted g c = λ d read syn. (false, idle_counted c.args.keys.now _ _ c.args.steps.now)

pub returns-then-not-is_keyed-clause-counted : goal.returns-then-not-is_keyed-clause-counted
returns-then-not-is_keyed-clause-counted g c = λ d read syn. (false, idle_counted c.args.keys.now _ _ c.args.steps.now)

pub returns-then-not-checksum_ok-clause-counted : goal.returns-then-not-checksum_ok-clause-counted
returns-then-not-checksum_ok-clause-counted g c = λ d read syn. (false, idle_counted c.args.keys.now _ _ c.args.steps.now)
