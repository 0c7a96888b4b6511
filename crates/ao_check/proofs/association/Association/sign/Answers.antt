use Rattle.std.proofs.Common.{true, sym, ap, ◌∙◌, refl, Some, arith, subst}
use Rattle.book_segments.specs.Segments.{Segment, has, SYN}
use Rattle.book_macs.specs.Keys.{traffic_key}
use Rattle.book_keys.specs.Rows.{Row}
use Rattle.book_macs.specs.Contexts.{bytes_of}
use Rattle.ao_check.specs.Bonds.{Bond, Counted}
use Rattle.ao_check.specs.Signings.{has_field}
use Rattle.ao_kdf.specs.declared.way.Way.TheVariants.{Outbound}
use Rattle.ao_check.proofs.KeyLaws.{sealed_as, one_step}
use Rattle.ao_check.proofs.CheckLaws.{signs, left_by_sign, same_at}
use Rattle.ao_check.proofs.association.Association.sign.Goals as goal

pub seal_by-requires-clause-kept : goal.seal_by-requires-clause-kept
seal_by-requires-clause-kept g c = λ syn.
    let i = c.self.inside in
    let a : Bond = record { pair = i.pair; own = i.own_isn; peer = i.peer_isn; current = i.choice; keys = i.keys } in
    let fits = rw (← c.self.view_is) at c.requires.fits in
    let D = c.requires.draft in
    let e = c.as_datagram.ensures.drafted D.head D.mac D.payload D.rest D.drafted_so in
    let from = rw (← c.self.view_is) at D.source in
    let to = rw (← c.self.view_is) at D.destination in
    let q = signs c.args.table.now.rows a c.as_datagram.result c.args.sending.now.row c.row-row.result.now (bytes_of c.outgoing-plan.result.context) fits c.requires.low c.requires.high c.row-row.ensures
    (ap (λ (s : Segment). s.source) e ∙ from) (ap (λ (s : Segment). s.destination) e ∙ to) c.outgoing-plan.ensures.context in
    q.right (sym c.outgoing-plan.ensures.syn ∙ syn)

pub seal_by-requires-clause-field : goal.seal_by-requires-clause-field
seal_by-requires-clause-field g c =
    subst (λ (x : Row). has_field c.args.datagram.now x) (sym (c.row-row.ensures c.row-row.result.now)) (c.requires.field c.row-row.result.now)

pub returns-clause-sealed : goal.returns-clause-sealed
returns-clause-sealed g c = λ h old payload rest r D here.
    let x = c.row-row.result.now in
    let same = same_at c.args.table.now.rows c.args.sending.now.row x r c.requires.low c.requires.high c.row-row.ensures here in
    let key = ap (λ (y : Row). traffic_key y.algorithm y.master (bytes_of c.outgoing-plan.result.context)) same in
    sealed_as _ h old payload rest _ _ _ _ _ _ _ _ (ap (λ (y : Row). y.algorithm) same) key (omega (arith, c.of.ensures)) (ap (λ (y : Row). y.with_options) same) (c.seal_by.ensures.sealed h old payload rest D)

pub returns-clause-fits : goal.returns-clause-fits
returns-clause-fits g c =
    let i = c.self.inside in
    let a : Bond = record { pair = i.pair; own = i.own_isn; peer = i.peer_isn; current = i.choice; keys = i.keys } in
    let fits = rw (← c.self.view_is) at c.requires.fits in
    let D = c.requires.draft in
    let e = c.as_datagram.ensures.drafted D.head D.mac D.payload D.rest D.drafted_so in
    let from = rw (← c.self.view_is) at D.source in
    let to = rw (← c.self.view_is) at D.destination in
    let q = signs c.args.table.now.rows a c.as_datagram.result c.args.sending.now.row c.row-row.result.now (bytes_of c.outgoing-plan.result.context) fits c.requires.low c.requires.high c.row-row.ensures
    (ap (λ (s : Segment). s.source) e ∙ from) (ap (λ (s : Segment). s.destination) e ∙ to) c.outgoing-plan.ensures.context in
    let k = c.seal_by.ensures in
    let l = left_by_sign c.args.table.now.rows a c.as_datagram.result c.args.sending.now.row c.row-row.result.now (bytes_of c.outgoing-plan.result.context) (traffic_key c.row-row.result.now.algorithm c.row-row.result.now.master (bytes_of c.outgoing-plan.result.context)) c.seal_by.new.keys c.outgoing-plan.result.syn
    c.args.steps.now c.seal_by.new.steps fits q refl k.keys c.outgoing-plan.ensures.syn k.kept k.counted in
    l.fits

pub returns-clause-counted : goal.returns-clause-counted
returns-clause-counted g c = λ h old payload rest F.
    let i = c.self.inside in
    let a : Bond = record { pair = i.pair; own = i.own_isn; peer = i.peer_isn; current = i.choice; keys = i.keys } in
    let fits = rw (← c.self.view_is) at c.requires.fits in
    let D = c.requires.draft in
    let e = c.as_datagram.ensures.drafted D.head D.mac D.payload D.rest D.drafted_so in
    let from = rw (← c.self.view_is) at D.source in
    let to = rw (← c.self.view_is) at D.destination in
    let q = signs c.args.table.now.rows a c.as_datagram.result c.args.sending.now.row c.row-row.result.now (bytes_of c.outgoing-plan.result.context) fits c.requires.low c.requires.high c.row-row.ensures
    (ap (λ (s : Segment). s.source) e ∙ from) (ap (λ (s : Segment). s.destination) e ∙ to) c.outgoing-plan.ensures.context in
    let k = c.seal_by.ensures in
    let l = left_by_sign c.args.table.now.rows a c.as_datagram.result c.args.sending.now.row c.row-row.result.now (bytes_of c.outgoing-plan.result.context) (traffic_key c.row-row.result.now.algorithm c.row-row.result.now.master (bytes_of c.outgoing-plan.result.context)) c.seal_by.new.keys c.outgoing-plan.result.syn
    c.args.steps.now c.seal_by.new.steps fits q refl k.keys c.outgoing-plan.ensures.syn k.kept k.counted in
    let same = c.as_datagram.ensures.drafted h old payload rest F in
    rw (← c.self.view_is) (subst (λ (s : Segment). Counted a.keys c.seal_by.new.keys (Some c.args.sending.now.row) true Outbound (has SYN s) c.args.steps.now c.seal_by.new.steps) same l.counted)

pub returns-clause-most : goal.returns-clause-most
returns-clause-most g c = omega (arith, c.seal_by.ensures.counted, one_step c.outgoing-plan.result.syn (Rattle.ao_kdf.specs.Cache.kept c.self.inside.keys c.args.sending.now.row Outbound))
