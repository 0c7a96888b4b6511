use Rattle.std.proofs.Common.{refl, None}
use Rattle.book_segments.specs.Segments.{has, SYN}
use Rattle.book_macs.specs.Contexts.{bytes_of}
use Rattle.book_macs.specs.Keys.{traffic_key}
use Rattle.ao_check.specs.Bonds.{Bond}
use Rattle.ao_check.proofs.CheckLaws.{ready, keyed, field_long, judges, left_by_check}
use Rattle.ao_check.proofs.under.check_under.Goals as goal

pub row-row-requires-clause-low : goal.row-row-requires-clause-low
row-row-requires-clause-low g c =
    let a : Bond = record { pair = c.args.pair.now; own = c.args.own_isn; peer = c.args.peer_isn; current = None; keys = c.args.keys.now } in
    let fits = c.requires.fits in
    (ready c.args.table.now.rows a c.args.now c.args.datagram.now c.in-Ok.seen _ fits c.in-Ok.ensures).low

pub row-row-requires-clause-high : goal.row-row-requires-clause-high
row-row-requires-clause-high g c =
    let a : Bond = record { pair = c.args.pair.now; own = c.args.own_isn; peer = c.args.peer_isn; current = None; keys = c.args.keys.now } in
    let fits = c.requires.fits in
    (ready c.args.table.now.rows a c.args.now c.args.datagram.now c.in-Ok.seen _ fits c.in-Ok.ensures).high

pub has_right_mac-requires-clause-low : goal.has_right_mac-requires-clause-low
has_right_mac-requires-clause-low g c =
    let a : Bond = record { pair = c.args.pair.now; own = c.args.own_isn; peer = c.args.peer_isn; current = None; keys = c.args.keys.now } in
    let fits = c.requires.fits in
    (ready c.args.table.now.rows a c.args.now c.args.datagram.now c.in-Ok.seen _ fits c.in-Ok.ensures).low

pub has_right_mac-requires-clause-high : goal.has_right_mac-requires-clause-high
has_right_mac-requires-clause-high g c =
    let a : Bond = record { pair = c.args.pair.now; own = c.args.own_isn; peer = c.args.peer_isn; current = None; keys = c.args.keys.now } in
    let fits = c.requires.fits in
    (ready c.args.table.now.rows a c.args.now c.args.datagram.now c.in-Ok.seen _ fits c.in-Ok.ensures).room

pub has_right_mac-requires-clause-kept : goal.has_right_mac-requires-clause-kept
has_right_mac-requires-clause-kept g c = λ syn.
    let a : Bond = record { pair = c.args.pair.now; own = c.args.own_isn; peer = c.args.peer_isn; current = None; keys = c.args.keys.now } in
    let fits = c.requires.fits in
    let from = c.requires.source in
    let to = c.requires.destination in
    let k = keyed c.args.table.now.rows a c.args.now c.args.datagram.now c.in-Ok.seen _ c.row-row.result.now fits c.in-Ok.ensures from to c.row-row.ensures in
    k.right syn

pub has_right_mac-requires-clause-field : goal.has_right_mac-requires-clause-field
has_right_mac-requires-clause-field g c =
    let a : Bond = record { pair = c.args.pair.now; own = c.args.own_isn; peer = c.args.peer_isn; current = None; keys = c.args.keys.now } in
    field_long c.args.table.now.rows a c.args.now c.args.datagram.now c.in-Ok.seen _ c.row-row.result.now c.in-Ok.ensures c.row-row.ensures

pub returns-then-not-has_right_mac-clause-verdict : goal.returns-then-not-has_right_mac-clause-verdict
returns-then-not-has_right_mac-clause-verdict g c =
    let a : Bond = record { pair = c.args.pair.now; own = c.args.own_isn; peer = c.args.peer_isn; current = None; keys = c.args.keys.now } in
    let from = c.requires.source in
    let to = c.requires.destination in
    let j = judges c.args.table.now.rows a c.args.now c.args.datagram.now c.in-Ok.seen _ c.row-row.result.now (traffic_key c.row-row.result.now.algorithm c.row-row.result.now.master (bytes_of c.in-Ok.seen.context)) c.has_right_mac.result c.in-Ok.ensures from to c.row-row.ensures refl c.has_right_mac.ensures.right in
    (j.wrong c.if-not-has_right_mac.true)

pub returns-then-not-has_right_mac-clause-fits : goal.returns-then-not-has_right_mac-clause-fits
returns-then-not-has_right_mac-clause-fits g c =
    let a : Bond = record { pair = c.args.pair.now; own = c.args.own_isn; peer = c.args.peer_isn; current = None; keys = c.args.keys.now } in
    let fits = c.requires.fits in
    let from = c.requires.source in
    let to = c.requires.destination in
    let k = c.has_right_mac.ensures in
    let l = left_by_check c.args.table.now.rows a c.args.now c.args.datagram.now c.in-Ok.seen _ c.row-row.result.now (traffic_key c.row-row.result.now.algorithm c.row-row.result.now.master (bytes_of c.in-Ok.seen.context)) c.has_right_mac.new.keys (has SYN c.args.datagram.now) c.args.steps.now c.has_right_mac.new.steps
    fits c.in-Ok.ensures from to c.row-row.ensures refl k.keys refl k.kept k.counted in
    l.fits

pub returns-then-not-has_right_mac-clause-counted : goal.returns-then-not-has_right_mac-clause-counted
returns-then-not-has_right_mac-clause-counted g c =
    let a : Bond = record { pair = c.args.pair.now; own = c.args.own_isn; peer = c.args.peer_isn; current = None; keys = c.args.keys.now } in
    let fits = c.requires.fits in
    let from = c.requires.source in
    let to = c.requires.destination in
    let k = c.has_right_mac.ensures in
    let l = left_by_check c.args.table.now.rows a c.args.now c.args.datagram.now c.in-Ok.seen _ c.row-row.result.now (traffic_key c.row-row.result.now.algorithm c.row-row.result.now.master (bytes_of c.in-Ok.seen.context)) c.has_right_mac.new.keys (has SYN c.args.datagram.now) c.args.steps.now c.has_right_mac.new.steps
    fits c.in-Ok.ensures from to c.row-row.ensures refl k.keys refl k.kept k.counted in
    l.counted

pub returns-clause-verdict : goal.returns-clause-verdict
returns-clause-verdict g c =
    let a : Bond = record { pair = c.args.pair.now; own = c.args.own_isn; peer = c.args.peer_isn; current = None; keys = c.args.keys.now } in
    let from = c.requires.source in
    let to = c.requires.destination in
    let j = judges c.args.table.now.rows a c.args.now c.args.datagram.now c.in-Ok.seen _ c.row-row.result.now (traffic_key c.row-row.result.now.algorithm c.row-row.result.now.master (bytes_of c.in-Ok.seen.context)) c.has_right_mac.result c.in-Ok.ensures from to c.row-row.ensures refl c.has_right_mac.ensures.right in
    (j.right c.if-not-has_right_mac.false)

pub returns-clause-fits : goal.returns-clause-fits
returns-clause-fits g c =
    let a : Bond = record { pair = c.args.pair.now; own = c.args.own_isn; peer = c.args.peer_isn; current = None; keys = c.args.keys.now } in
    let fits = c.requires.fits in
    let from = c.requires.source in
    let to = c.requires.destination in
    let k = c.has_right_mac.ensures in
    let l = left_by_check c.args.table.now.rows a c.args.now c.args.datagram.now c.in-Ok.seen _ c.row-row.result.now (traffic_key c.row-row.result.now.algorithm c.row-row.result.now.master (bytes_of c.in-Ok.seen.context)) c.has_right_mac.new.keys (has SYN c.args.datagram.now) c.args.steps.now c.has_right_mac.new.steps
    fits c.in-Ok.ensures from to c.row-row.ensures refl k.keys refl k.kept k.counted in
    l.fits

pub returns-clause-counted : goal.returns-clause-counted
returns-clause-counted g c =
    let a : Bond = record { pair = c.args.pair.now; own = c.args.own_isn; peer = c.args.peer_isn; current = None; keys = c.args.keys.now } in
    let fits = c.requires.fits in
    let from = c.requires.source in
    let to = c.requires.destination in
    let k = c.has_right_mac.ensures in
    let l = left_by_check c.args.table.now.rows a c.args.now c.args.datagram.now c.in-Ok.seen _ c.row-row.result.now (traffic_key c.row-row.result.now.algorithm c.row-row.result.now.master (bytes_of c.in-Ok.seen.context)) c.has_right_mac.new.keys (has SYN c.args.datagram.now) c.args.steps.now c.has_right_mac.new.steps
    fits c.in-Ok.ensures from to c.row-row.ensures refl k.keys refl k.kept k.counted in
    l.counted
