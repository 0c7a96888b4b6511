use Rattle.std.proofs.Common.{rules, ◌≡◌, ◌≤◌, ℕ, List, length, sym, ap, subst, ◌∙◌}
use Rattle.book_base.specs.Algorithms.{mac_length_of}
use Rattle.book_macs.specs.Contexts.{bytes_of}
use Rattle.book_keys.specs.Rows.{Row}
use Rattle.tcp_segment.specs.Loans.{with_payload}
use Rattle.tcp_segment.proofs.WriteLaws.{payload_set}
use Rattle.segment_writer.specs.Heads.{head_of, size_of}
use Rattle.segment_writer.proofs.LaidLaws.{IsLaid, emits_so, written_so, is_ready, is_counted, is_here}
use Rattle.segment_writer.proofs.SealLaws.{HasCode}
use Rattle.segment_writer.proofs.SizeLaws.{size_told, is_head, copied, rest_is}
use Rattle.segment_writer.proofs.write.write_segment.Goals as goal

pub write_datagram-datagram-requires-clause-head : goal.write_datagram-datagram-requires-clause-head
write_datagram-datagram-requires-clause-head g c =
    let r = c.row.result.now in
    let mac : c.mac_length-mac_length.result ≡ mac_length_of r.algorithm = c.mac_length-mac_length.ensures ∙ ap mac_length_of c.algorithm.ensures in
    let head = c.head_of-head.ensures ∙ ap (head_of c.args.pair.now c.args.outgoing.now c.args.sending.now) mac in
    is_head c.args.pair.now c.args.outgoing.now c.args.sending.now r c.head_of-head.result head c.requires.family
    (subst (λ (x : Row). size_of c.args.pair.now c.args.outgoing.now x ≤ 1500) (sym (c.row.ensures r)) (c.requires.size r))

pub sign-context-requires-clause-draft : goal.sign-context-requires-clause-draft
sign-context-requires-clause-draft g c =
    let h = c.head_of-head.result in
    let d = c.write_datagram-datagram.result in
    let p : List ℕ = c.copy_at.new.out in
    let o = c.args.outgoing.now in
    let D = c.write_datagram-datagram.ensures.drafted in
    let x = o.payload in
    let k = copied d h _ _ c.payload_mut.result.now p x.queue.now x.offset x.count D c.payload_mut.ensures.part c.copy_at.ensures c.requires.piece in
    let q = is_ready (with_payload d p) o c.args.pair.now c.args.sending.now _ h _ p _ c.args.association.now (payload_set p D k.long) c.head_of-head.ensures
    c.requires.sockets c.requires.known in search (rules, q)

pub returns-clause-length : goal.returns-clause-length
returns-clause-length g c = λ y.
    let h = c.head_of-head.result in
    let r = c.row.result.now in
    let p : List ℕ = c.copy_at.new.out in
    let o = c.args.outgoing.now in
    let D = c.write_datagram-datagram.ensures.drafted in
    let x = o.payload in
    let k = copied c.write_datagram-datagram.result h _ _ c.payload_mut.result.now p x.queue.now x.offset x.count D c.payload_mut.ensures.part c.copy_at.ensures
    c.requires.piece in
    let here = is_here c.args.table.now.rows c.args.sending.now.row r c.requires.low c.requires.high c.row.ensures in
    let s = c.sign-context.ensures.sealed h _ p _ r (payload_set p D k.long) here in
    let mac : c.mac_length-mac_length.result ≡ mac_length_of r.algorithm = c.mac_length-mac_length.ensures ∙ ap mac_length_of c.algorithm.ensures in
    let head = c.head_of-head.ensures ∙ ap (head_of c.args.pair.now o c.args.sending.now) mac in
    let len = size_told c.args.pair.now o c.args.sending.now r h (length p) c.finish.result head k.count_is (c.finish.ensures.len ∙ s.drafted_so.len_is) in
    len ∙ ap (size_of c.args.pair.now o) (c.row.ensures y)

pub returns-clause-emits : goal.returns-clause-emits
returns-clause-emits g c = λ s draft chosen i.
    let h = c.head_of-head.result in
    let r = c.row.result.now in
    let p : List ℕ = c.copy_at.new.out in
    let o = c.args.outgoing.now in
    let D = c.write_datagram-datagram.ensures.drafted in
    let x = o.payload in
    let k = copied c.write_datagram-datagram.result h _ _ c.payload_mut.result.now p x.queue.now x.offset x.count D c.payload_mut.ensures.part c.copy_at.ensures
    c.requires.piece in
    let here = is_here c.args.table.now.rows c.args.sending.now.row r c.requires.low c.requires.high c.row.ensures in
    let mac : c.mac_length-mac_length.result ≡ mac_length_of r.algorithm = c.mac_length-mac_length.ensures ∙ ap mac_length_of c.algorithm.ensures in
    let head = c.head_of-head.ensures ∙ ap (head_of c.args.pair.now o c.args.sending.now) mac in
    let l : IsLaid o c.args.table.now.rows c.args.sending.now c.args.pair.now h r = record { head = head; here = here } in
    emits_so o c.args.association.now c.args.table.now.rows c.args.sending.now c.args.pair.now h r s draft chosen p (bytes_of c.sign-context.result) l i k.same
    (c.sign-context.ensures.context h _ p _ (payload_set p D k.long))

pub returns-clause-written : goal.returns-clause-written
returns-clause-written g c = λ s draft chosen i.
    let h = c.head_of-head.result in
    let r = c.row.result.now in
    let p : List ℕ = c.copy_at.new.out in
    let o = c.args.outgoing.now in
    let D = c.write_datagram-datagram.ensures.drafted in
    let x = o.payload in
    let k = copied c.write_datagram-datagram.result h _ _ c.payload_mut.result.now p x.queue.now x.offset x.count D c.payload_mut.ensures.part c.copy_at.ensures
    c.requires.piece in
    let here = is_here c.args.table.now.rows c.args.sending.now.row r c.requires.low c.requires.high c.row.ensures in
    let mac : c.mac_length-mac_length.result ≡ mac_length_of r.algorithm = c.mac_length-mac_length.ensures ∙ ap mac_length_of c.algorithm.ensures in
    let head = c.head_of-head.ensures ∙ ap (head_of c.args.pair.now o c.args.sending.now) mac in
    let S = c.sign-context.ensures.sealed h _ p _ r (payload_set p D k.long) here in
    let F = c.finish.ensures.finished h S.mac p _ S.drafted_so in
    let size = c.finish.ensures.len ∙ S.drafted_so.len_is in
    let l : IsLaid o c.args.table.now.rows c.args.sending.now c.args.pair.now h r = record { head = head; here = here } in
    let f = rest_is h S.mac p _ _ (length p) x.count c.finish.result k.count_is size F in
    let w = written_so o c.args.association.now c.args.table.now.rows c.args.sending.now c.args.pair.now h r s draft chosen p
    (bytes_of c.sign-context.result) S.mac _ _
    c.finish.result l i k.same S.drafted_so.head.family S.drafted_so.mac_length size (subst (λ (n : ℕ). HasCode h p r (bytes_of c.sign-context.result) n S.mac) c.value.ensures S.of_old) f in search (rules, w)

pub returns-clause-counted : goal.returns-clause-counted
returns-clause-counted g c =
    let h = c.head_of-head.result in
    let p : List ℕ = c.copy_at.new.out in
    let o = c.args.outgoing.now in
    let D = c.write_datagram-datagram.ensures.drafted in
    let x = o.payload in
    let k = copied c.write_datagram-datagram.result h _ _ c.payload_mut.result.now p x.queue.now x.offset x.count D c.payload_mut.ensures.part c.copy_at.ensures
    c.requires.piece in
    let j = c.sign-context.ensures.counted h _ p _ (payload_set p D k.long) in
    let q = is_counted _ _ c.args.sending.now.row _ _ o c.args.pair.now c.args.sending.now _ h c.head_of-head.ensures j in search (rules, q)
