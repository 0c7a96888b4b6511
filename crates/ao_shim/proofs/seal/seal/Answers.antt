use Rattle.std.proofs.Common.{◌≡◌, ℕ, ◌/◌, ◌%◌, List, ◌++◌, length, ap, sym, subst, ◌∙◌, arith}
use Rattle.std.proofs.lemmas.List.{length-replicate}
use Rattle.book_segments.specs.Options.{AreListed, options_of, find_ao}
use Rattle.book_base.specs.Algorithms.{mac_length_of}
use Rattle.book_segments.specs.Bytes.{ring}
use Rattle.book_segments.specs.Segments.{Read, reading}
use Rattle.book_segments.proofs.Again.{read_again}
use Rattle.book_macs.specs.Keys.{traffic_key}
use Rattle.ao_mac.specs.Macs.{IsMacOf}
use Rattle.book_macs.specs.Contexts.{bytes_of}
use Rattle.book_shim.specs.Leaving.{ao_last}
use Rattle.ao_check.specs.declared.choice.Sending.{Sending}
use Rattle.ao_shim.specs.Laying.{laid}
use Rattle.ao_shim.specs.Plans.{ao_after}
use Rattle.ao_shim.proofs.SealLaws.{read_fits, read_room, beside, blank_is, whole_is, whole_long, told_with, laid_fits, laid_one, seals}
use Rattle.ao_shim.proofs.seal.seal.Goals as goal
use Rattle.book_endpoint.specs.Emissions.{written_ao, no_mac}

pub with_ao-blank-requires : goal.with_ao-blank-requires
with_ao-blank-requires g c =
    let r = c.requires.ready in
    let f = read_fits c.args.bytes.now c.args.datagram.now (λ i. omega (arith, c.type_inv.bytes i)) c.requires.read in
    let b = beside c.args.datagram.now c.args.plan.now.fitted r.s f r.plain r.fitted_is in
    omega (arith, b.room, r.mac_length_is, ap (λ (l : List ℕ). length l) c.zeros.ensures, length-replicate {A = ℕ} c.args.plan.now.mac_length 0)

pub lay_blank-requires-clause-whole : goal.lay_blank-requires-clause-whole
lay_blank-requires-clause-whole g c =
    let r = c.requires.ready in
    let f = read_fits c.args.bytes.now c.args.datagram.now (λ i. omega (arith, c.type_inv.bytes i)) c.requires.read in
    let b = beside c.args.datagram.now c.args.plan.now.fitted r.s f r.plain r.fitted_is in
    let key : c.args.plan.now.sending.key_id ≡ r.s.key_id = ap (λ (x : Sending). x.key_id) r.sending_is in
    let rnext : c.args.plan.now.sending.rnext ≡ r.s.rnext_key_id = ap (λ (x : Sending). x.rnext) r.sending_is in
    let blank : c.as_slice.result.now ≡ c.args.plan.now.fitted ++ written_ao r.s (no_mac r.s) =
    c.as_slice.ensures.bytes ∙ (c.with_ao-blank.ensures ∙ (ap (λ (l : List ℕ). c.args.plan.now.fitted ++ ao_after c.args.plan.now.sending.key_id c.args.plan.now.sending.rnext l) c.zeros.ensures
    ∙ blank_is c.args.plan.now.fitted r.s c.args.plan.now.sending.key_id c.args.plan.now.sending.rnext c.args.plan.now.mac_length key rnext r.mac_length_is)) in
    let long_blank : length c.as_slice.result.now ≡ length (c.args.plan.now.fitted ++ written_ao r.s (no_mac r.s)) = ap (λ (l : List ℕ). length l) blank in
    told_with c.args.datagram.now c.as_slice.result.now (c.args.plan.now.fitted ++ written_ao r.s (no_mac r.s)) long_blank r.whole

pub lay_blank-requires-clause-room : goal.lay_blank-requires-clause-room
lay_blank-requires-clause-room g c =
    let r = c.requires.ready in
    let f = read_fits c.args.bytes.now c.args.datagram.now (λ i. omega (arith, c.type_inv.bytes i)) c.requires.read in
    let b = beside c.args.datagram.now c.args.plan.now.fitted r.s f r.plain r.fitted_is in
    let key : c.args.plan.now.sending.key_id ≡ r.s.key_id = ap (λ (x : Sending). x.key_id) r.sending_is in
    let rnext : c.args.plan.now.sending.rnext ≡ r.s.rnext_key_id = ap (λ (x : Sending). x.rnext) r.sending_is in
    let blank : c.as_slice.result.now ≡ c.args.plan.now.fitted ++ written_ao r.s (no_mac r.s) =
    c.as_slice.ensures.bytes ∙ (c.with_ao-blank.ensures ∙ (ap (λ (l : List ℕ). c.args.plan.now.fitted ++ ao_after c.args.plan.now.sending.key_id c.args.plan.now.sending.rnext l) c.zeros.ensures
    ∙ blank_is c.args.plan.now.fitted r.s c.args.plan.now.sending.key_id c.args.plan.now.sending.rnext c.args.plan.now.mac_length key rnext r.mac_length_is)) in
    let long_blank : length c.as_slice.result.now ≡ length (c.args.plan.now.fitted ++ written_ao r.s (no_mac r.s)) = ap (λ (l : List ℕ). length l) blank in
    omega (arith, long_blank, b.long, b.mac, b.less, c.requires.room, read_room c.args.bytes.now c.args.datagram.now (λ i. omega (arith, c.type_inv.bytes i)) c.requires.read)

pub code_of-code-requires-clause-laid : goal.code_of-code-requires-clause-laid
code_of-code-requires-clause-laid g c =
    let r = c.requires.ready in
    let f = read_fits c.args.bytes.now c.args.datagram.now (λ i. omega (arith, c.type_inv.bytes i)) c.requires.read in
    let b = beside c.args.datagram.now c.args.plan.now.fitted r.s f r.plain r.fitted_is in
    let key : c.args.plan.now.sending.key_id ≡ r.s.key_id = ap (λ (x : Sending). x.key_id) r.sending_is in
    let rnext : c.args.plan.now.sending.rnext ≡ r.s.rnext_key_id = ap (λ (x : Sending). x.rnext) r.sending_is in
    let blank : c.as_slice.result.now ≡ c.args.plan.now.fitted ++ written_ao r.s (no_mac r.s) =
    c.as_slice.ensures.bytes ∙ (c.with_ao-blank.ensures ∙ (ap (λ (l : List ℕ). c.args.plan.now.fitted ++ ao_after c.args.plan.now.sending.key_id c.args.plan.now.sending.rnext l) c.zeros.ensures
    ∙ blank_is c.args.plan.now.fitted r.s c.args.plan.now.sending.key_id c.args.plan.now.sending.rnext c.args.plan.now.mac_length key rnext r.mac_length_is)) in
    let long_blank : length c.as_slice.result.now ≡ length (c.args.plan.now.fitted ++ written_ao r.s (no_mac r.s)) = ap (λ (l : List ℕ). length l) blank in
    let told = told_with c.args.datagram.now c.as_slice.result.now (c.args.plan.now.fitted ++ written_ao r.s (no_mac r.s)) long_blank r.whole in
    let words : length c.as_slice.result.now % 4 ≡ 0 = ap (λ (n : ℕ). n % 4) long_blank ∙ b.words in
    let list : AreListed (options_of c.as_slice.result.now) = subst (λ (l : List ℕ). AreListed (options_of l)) (sym blank) b.list in
    let fits = laid_fits c.args.datagram.now c.as_slice.result.now f told words c.as_slice.ensures.most c.lay_blank.ensures.bytes list in
    laid_one c.args.datagram.now c.as_slice.result.now _ c.lay_blank.new.out (ao_last c.args.plan.now.fitted r.s (no_mac r.s)) fits (ap find_ao blank ∙ b.found) c.lay_blank.ensures.laid

pub relay_sent-requires-clause-whole : goal.relay_sent-requires-clause-whole
relay_sent-requires-clause-whole g c =
    let r = c.requires.ready in
    let f = read_fits c.args.bytes.now c.args.datagram.now (λ i. omega (arith, c.type_inv.bytes i)) c.requires.read in
    let b = beside c.args.datagram.now c.args.plan.now.fitted r.s f r.plain r.fitted_is in
    let key : c.args.plan.now.sending.key_id ≡ r.s.key_id = ap (λ (x : Sending). x.key_id) r.sending_is in
    let rnext : c.args.plan.now.sending.rnext ≡ r.s.rnext_key_id = ap (λ (x : Sending). x.rnext) r.sending_is in
    let blank : c.as_slice.result.now ≡ c.args.plan.now.fitted ++ written_ao r.s (no_mac r.s) =
    c.as_slice.ensures.bytes ∙ (c.with_ao-blank.ensures ∙ (ap (λ (l : List ℕ). c.args.plan.now.fitted ++ ao_after c.args.plan.now.sending.key_id c.args.plan.now.sending.rnext l) c.zeros.ensures
    ∙ blank_is c.args.plan.now.fitted r.s c.args.plan.now.sending.key_id c.args.plan.now.sending.rnext c.args.plan.now.mac_length key rnext r.mac_length_is)) in
    let long_blank : length c.as_slice.result.now ≡ length (c.args.plan.now.fitted ++ written_ao r.s (no_mac r.s)) = ap (λ (l : List ℕ). length l) blank in
    let code : List ℕ = c.as_slice-2.result.now in
    let code_long : length code ≡ mac_length_of r.s.row.algorithm = ap (λ (l : List ℕ). length l) c.as_slice-2.ensures.bytes ∙ c.code_of-code.ensures.length r.s.row r.row_is in
    let whole : c.as_slice-3.result.now ≡ c.args.plan.now.fitted ++ written_ao r.s code =
    c.as_slice-3.ensures.bytes ∙ (c.with_ao-whole.ensures ∙ whole_is c.args.plan.now.fitted r.s c.args.plan.now.sending.key_id c.args.plan.now.sending.rnext code key rnext) in
    let long : length c.as_slice-3.result.now ≡ length (c.args.plan.now.fitted ++ written_ao r.s (no_mac r.s)) = ap (λ (l : List ℕ). length l) whole ∙ (whole_long c.args.plan.now.fitted r.s code code_long ∙ sym b.long) in
    told_with c.args.datagram.now c.as_slice-3.result.now (c.args.plan.now.fitted ++ written_ao r.s (no_mac r.s)) long r.whole

pub relay_sent-requires-clause-room : goal.relay_sent-requires-clause-room
relay_sent-requires-clause-room g c =
    let r = c.requires.ready in
    let f = read_fits c.args.bytes.now c.args.datagram.now (λ i. omega (arith, c.type_inv.bytes i)) c.requires.read in
    let b = beside c.args.datagram.now c.args.plan.now.fitted r.s f r.plain r.fitted_is in
    let key : c.args.plan.now.sending.key_id ≡ r.s.key_id = ap (λ (x : Sending). x.key_id) r.sending_is in
    let rnext : c.args.plan.now.sending.rnext ≡ r.s.rnext_key_id = ap (λ (x : Sending). x.rnext) r.sending_is in
    let blank : c.as_slice.result.now ≡ c.args.plan.now.fitted ++ written_ao r.s (no_mac r.s) =
    c.as_slice.ensures.bytes ∙ (c.with_ao-blank.ensures ∙ (ap (λ (l : List ℕ). c.args.plan.now.fitted ++ ao_after c.args.plan.now.sending.key_id c.args.plan.now.sending.rnext l) c.zeros.ensures
    ∙ blank_is c.args.plan.now.fitted r.s c.args.plan.now.sending.key_id c.args.plan.now.sending.rnext c.args.plan.now.mac_length key rnext r.mac_length_is)) in
    let long_blank : length c.as_slice.result.now ≡ length (c.args.plan.now.fitted ++ written_ao r.s (no_mac r.s)) = ap (λ (l : List ℕ). length l) blank in
    let code : List ℕ = c.as_slice-2.result.now in
    let code_long : length code ≡ mac_length_of r.s.row.algorithm = ap (λ (l : List ℕ). length l) c.as_slice-2.ensures.bytes ∙ c.code_of-code.ensures.length r.s.row r.row_is in
    let whole : c.as_slice-3.result.now ≡ c.args.plan.now.fitted ++ written_ao r.s code =
    c.as_slice-3.ensures.bytes ∙ (c.with_ao-whole.ensures ∙ whole_is c.args.plan.now.fitted r.s c.args.plan.now.sending.key_id c.args.plan.now.sending.rnext code key rnext) in
    let long : length c.as_slice-3.result.now ≡ length (c.args.plan.now.fitted ++ written_ao r.s (no_mac r.s)) = ap (λ (l : List ℕ). length l) whole ∙ (whole_long c.args.plan.now.fitted r.s code code_long ∙ sym b.long) in
    omega (arith, long, b.long, b.mac, b.less, c.requires.room, c.lay_blank.auto.out, read_room c.args.bytes.now c.args.datagram.now (λ i. omega (arith, c.type_inv.bytes i)) c.requires.read)

pub returns-clause-written : goal.returns-clause-written
returns-clause-written g c = λ r.
    let f = read_fits c.args.bytes.now c.args.datagram.now (λ i. omega (arith, c.type_inv.bytes i)) c.requires.read in
    let b = beside c.args.datagram.now c.args.plan.now.fitted r.s f r.plain r.fitted_is in
    let key : c.args.plan.now.sending.key_id ≡ r.s.key_id = ap (λ (x : Sending). x.key_id) r.sending_is in
    let rnext : c.args.plan.now.sending.rnext ≡ r.s.rnext_key_id = ap (λ (x : Sending). x.rnext) r.sending_is in
    let blank : c.as_slice.result.now ≡ c.args.plan.now.fitted ++ written_ao r.s (no_mac r.s) =
    c.as_slice.ensures.bytes ∙ (c.with_ao-blank.ensures ∙ (ap (λ (l : List ℕ). c.args.plan.now.fitted ++ ao_after c.args.plan.now.sending.key_id c.args.plan.now.sending.rnext l) c.zeros.ensures
    ∙ blank_is c.args.plan.now.fitted r.s c.args.plan.now.sending.key_id c.args.plan.now.sending.rnext c.args.plan.now.mac_length key rnext r.mac_length_is)) in
    let long_blank : length c.as_slice.result.now ≡ length (c.args.plan.now.fitted ++ written_ao r.s (no_mac r.s)) = ap (λ (l : List ℕ). length l) blank in
    let code : List ℕ = c.as_slice-2.result.now in
    let code_long : length code ≡ mac_length_of r.s.row.algorithm = ap (λ (l : List ℕ). length l) c.as_slice-2.ensures.bytes ∙ c.code_of-code.ensures.length r.s.row r.row_is in
    let whole : c.as_slice-3.result.now ≡ c.args.plan.now.fitted ++ written_ao r.s code =
    c.as_slice-3.ensures.bytes ∙ (c.with_ao-whole.ensures ∙ whole_is c.args.plan.now.fitted r.s c.args.plan.now.sending.key_id c.args.plan.now.sending.rnext code key rnext) in
    let long : length c.as_slice-3.result.now ≡ length (c.args.plan.now.fitted ++ written_ao r.s (no_mac r.s)) = ap (λ (l : List ℕ). length l) whole ∙ (whole_long c.args.plan.now.fitted r.s code code_long ∙ sym b.long) in
    let told = told_with c.args.datagram.now c.as_slice.result.now (c.args.plan.now.fitted ++ written_ao r.s (no_mac r.s)) long_blank r.whole in
    let words : length c.as_slice.result.now % 4 ≡ 0 = ap (λ (n : ℕ). n % 4) long_blank ∙ b.words in
    let list : AreListed (options_of c.as_slice.result.now) = subst (λ (l : List ℕ). AreListed (options_of l)) (sym blank) b.list in
    let fits = laid_fits c.args.datagram.now c.as_slice.result.now f told words c.as_slice.ensures.most c.lay_blank.ensures.bytes list in
    let read : reading c.lay_blank.new.out ≡ Read (laid c.args.datagram.now c.as_slice.result.now) = ap reading c.lay_blank.ensures.laid ∙ read_again (laid c.args.datagram.now c.as_slice.result.now) _ fits in
    let mac = c.code_of-code.ensures.mac r.s.row (laid c.args.datagram.now c.as_slice.result.now) r.row_is read in
    let is : IsMacOf code r.s.row.algorithm (traffic_key r.s.row.algorithm r.s.row.master (bytes_of c.args.plan.now.context)) (c.args.plan.now.number / ring) (laid c.args.datagram.now c.as_slice.result.now) r.s.row.with_options =
    subst (λ (l : List ℕ). IsMacOf l r.s.row.algorithm (traffic_key r.s.row.algorithm r.s.row.master (bytes_of c.args.plan.now.context)) (c.args.plan.now.number / ring) (laid c.args.datagram.now c.as_slice.result.now) r.s.row.with_options) (sym c.as_slice-2.ensures.bytes) mac in
    seals c.args.datagram.now c.args.plan.now.fitted r.s c.args.plan.now.number (bytes_of c.args.plan.now.context) code c.as_slice.result.now c.as_slice-3.result.now c.args.out.now c.lay_blank.new.out c.relay_sent.new.out c.lay_blank.result c.relay_sent.result
    f blank whole code_long (ap find_ao blank ∙ b.found) is c.lay_blank.ensures.end c.lay_blank.ensures.laid c.relay_sent.ensures.end c.relay_sent.ensures.sent
