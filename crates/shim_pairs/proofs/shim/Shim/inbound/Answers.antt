use Rattle.std.proofs.Common.{ℕ, List, length, drop, arith, ap, subst, ◌∙◌}
use Rattle.std.specs.Prelude.{IfOk, IfErr, take}
use Rattle.book_segments.specs.Segments.{reading}
use Rattle.book_shim.specs.Arriving.{take_read}
use Rattle.shim_pairs.specs.Holdings.{ShimState}
use Rattle.shim_pairs.specs.Passing.{Enters, IsUntaken}
use Rattle.shim_pairs.proofs.CopyLaws.{copied}
use Rattle.shim_pairs.proofs.AsLaws.{enters_as, untaken_as}
use Rattle.shim_pairs.proofs.ShimLaws.{if_ok, if_err}
use Rattle.shim_pairs.proofs.shim.Shim.inbound.Goals as goal
use Rattle.shim_pairs.proofs.shim.Shim.inbound.Goals.{in-Err, in-Ok}

pub returns-clause-taken : goal.returns-clause-taken
returns-clause-taken g c =
    let old = c.args.buffer.now in let now = c.args.now in let mtu = c.args.mtu in let bytes = take c.args.count old in
    let h = c.self.inside.pairs in
    let kept = copied c.self.inside.copy.len c.copy_datagram.new.copy (drop (length c.copy_datagram.new.copy) c.self.inside.copy.items) (let a = c.copy_datagram.auto.copy in let l = c.deref_mut.ensures.len in omega (arith, a, l)) in
    subst (λ (s : ShimState). IfOk c.match-copy_datagram.answer (λ p. Enters now mtu s.held c.match-copy_datagram.self-inside.pairs bytes old c.match-copy_datagram.buffer p)) c.self.view_is
    (elim c.match-copy_datagram.branch [
      | in-Err w ↦ rw w.answer-is tt
      | in-Ok w ↦ rw (w.answer-is, w.buffer-is, w.self-inside-is)
          (if_ok w.inbound-answer.result (λ p l. enters_as (take w.in-Ok.whole w.deref.result.now) bytes (ap (λ (b : List ℕ). reading (take w.in-Ok.whole b)) (w.deref.ensures.value ∙ kept) ∙ w.in-Ok.ensures.read)
          now mtu h w.inbound-answer.new.self old w.inbound-answer.new.out p l) w.inbound-answer.ensures.taken)
    ])

pub returns-clause-refused : goal.returns-clause-refused
returns-clause-refused g c =
    let old = c.args.buffer.now in let now = c.args.now in let mtu = c.args.mtu in let bytes = take c.args.count old in
    let h = c.self.inside.pairs in
    let kept = copied c.self.inside.copy.len c.copy_datagram.new.copy (drop (length c.copy_datagram.new.copy) c.self.inside.copy.items) (let a = c.copy_datagram.auto.copy in let l = c.deref_mut.ensures.len in omega (arith, a, l)) in
    subst (λ (s : ShimState). IfErr c.match-copy_datagram.answer (λ why. IsUntaken s.held now mtu bytes why)) c.self.view_is
    (elim c.match-copy_datagram.branch [
      | in-Err w ↦ rw w.answer-is (λ p is. ap (take_read _ p _) w.in-Err.ensures.fault)
      | in-Ok w ↦ rw w.answer-is
          (if_err w.inbound-answer.result (λ why u. untaken_as (take w.in-Ok.whole w.deref.result.now) bytes (ap (λ (b : List ℕ). reading (take w.in-Ok.whole b)) (w.deref.ensures.value ∙ kept) ∙ w.in-Ok.ensures.read)
          h now mtu why u) w.inbound-answer.ensures.refused)
    ])
