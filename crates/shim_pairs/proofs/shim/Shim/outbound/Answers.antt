use Rattle.std.proofs.Common.{ℕ, List, length, drop, arith, ap, subst, ◌∙◌}
use Rattle.std.specs.Prelude.{IfOk, IfErr, take}
use Rattle.book_segments.specs.Segments.{reading}
use Rattle.book_shim.specs.Leaving.{send_read}
use Rattle.shim_pairs.specs.Holdings.{ShimState}
use Rattle.shim_pairs.specs.Passing.{Leaves, IsUnsent}
use Rattle.shim_pairs.proofs.CopyLaws.{copied}
use Rattle.shim_pairs.proofs.AsLaws.{leaves_as, unsent_as}
use Rattle.shim_pairs.proofs.ShimLaws.{if_ok, if_err}
use Rattle.shim_pairs.proofs.shim.Shim.outbound.Goals as goal
use Rattle.shim_pairs.proofs.shim.Shim.outbound.Goals.{in-Err, in-Ok}

pub returns-clause-sent : goal.returns-clause-sent
returns-clause-sent g c =
    let old = c.args.buffer.now in let now = c.args.now in let bytes = take c.args.count old in
    let h = c.self.inside.pairs in
    let kept = copied c.self.inside.copy.len c.copy_datagram.new.copy (drop (length c.copy_datagram.new.copy) c.self.inside.copy.items) (let a = c.copy_datagram.auto.copy in let l = c.deref_mut.ensures.len in omega (arith, a, l)) in
    subst (λ (s : ShimState). IfOk c.match-copy_datagram.answer (λ p. Leaves now s.held c.match-copy_datagram.self-inside.pairs bytes old c.match-copy_datagram.buffer p)) c.self.view_is
    (elim c.match-copy_datagram.branch [
      | in-Err w ↦ rw w.answer-is tt
      | in-Ok w ↦ rw (w.answer-is, w.buffer-is, w.self-inside-is)
          (if_ok w.outbound-answer.result (λ p l. leaves_as (take w.in-Ok.whole w.deref.result.now) bytes (ap (λ (b : List ℕ). reading (take w.in-Ok.whole b)) (w.deref.ensures.value ∙ kept) ∙ w.in-Ok.ensures.read)
          now h w.outbound-answer.new.self old w.outbound-answer.new.out p l) w.outbound-answer.ensures.sent)
    ])

pub returns-clause-refused : goal.returns-clause-refused
returns-clause-refused g c =
    let old = c.args.buffer.now in let now = c.args.now in let bytes = take c.args.count old in
    let h = c.self.inside.pairs in
    let kept = copied c.self.inside.copy.len c.copy_datagram.new.copy (drop (length c.copy_datagram.new.copy) c.self.inside.copy.items) (let a = c.copy_datagram.auto.copy in let l = c.deref_mut.ensures.len in omega (arith, a, l)) in
    subst (λ (s : ShimState). IfErr c.match-copy_datagram.answer (λ why. IsUnsent s.held now bytes why)) c.self.view_is
    (elim c.match-copy_datagram.branch [
      | in-Err w ↦ rw w.answer-is (λ p is mtu. ap (send_read _ p _) w.in-Err.ensures.fault)
      | in-Ok w ↦ rw w.answer-is
          (if_err w.outbound-answer.result (λ why u. unsent_as (take w.in-Ok.whole w.deref.result.now) bytes (ap (λ (b : List ℕ). reading (take w.in-Ok.whole b)) (w.deref.ensures.value ∙ kept) ∙ w.in-Ok.ensures.read)
          h now why u) w.outbound-answer.ensures.refused)
    ])
