use Rattle.std.proofs.Common.{◌≡◌, ◌<◌, suc, length, refl, sym, ap, ◌∙◌, subst, arith}
use Rattle.std.proofs.lemmas.Option.{slice_get_read}
use Rattle.link_report.specs.Numbers.{past, AreLinked}
use Rattle.link_report.proofs.LogLaws.{Rejected, made_by, none_made, none_past, others_rejected}
use Rattle.link_report.proofs.NumberLaws.{search_begins, search_goes_on}
use Rattle.link_report.proofs.log.Log.was_made.Goals as goal

pub loop-next-init : goal.loop-next-init
loop-next-init c =
    let own = c.args.self.now in
    let e = c.args.passing.now.passed in
    let number = c.sought-number.result in
    rw (c.as_slice-kept.ensures.value, c.copied-next.ensures, c.get.ensures.value)
    (search_begins (Rejected c.args.at c.args.row.now c.args.datagram.now e.number e.context) own.kept.items number _
    (others_rejected c.args.at c.args.row.now c.args.datagram.now e.number number e.context c.requires.fits c.sought-number.ensures.small c.sought-number.ensures.number)
    (own.linked.last number))

pub accounts_for-requires-clause-number : goal.accounts_for-requires-clause-number
accounts_for-requires-clause-number c =
    let kept = c.as_slice-kept.result.now in
    let place : past c.loop-next.next ≡ suc c.in-Some.place = ap past c.in-Some.is in
    let most = c.loop-next.invariant.within in
    let within : c.in-Some.place < length kept = omega (arith, place, most) in
    c.loop-next.invariant.here c.in-Some.place c.index-kept-place.result c.in-Some.is
    (slice_get_read kept (length kept) c.in-Some.place c.index-kept-place.result refl within c.index-kept-place.is)
    ∙ c.sought-number.ensures.number

pub returns-then-accounts_for : goal.returns-then-accounts_for
returns-then-accounts_for c history f h passes =
    let kept = c.as_slice-kept.result.now in
    let place : past c.loop-next.next ≡ suc c.in-Some.place = ap past c.in-Some.is in
    let most = c.loop-next.invariant.within in
    let within : c.in-Some.place < length kept = omega (arith, place, most) in
    made_by kept history c.args.at f c.in-Some.place c.index-kept-place.result (rw c.as_slice-kept.ensures.value h.keeps)
    (slice_get_read kept (length kept) c.in-Some.place c.index-kept-place.result refl within c.index-kept-place.is)
    (λ m is. sym c.if-accounts_for.true ∙ c.accounts_for.ensures f m is passes)

pub loop-next-smaller : goal.loop-next-smaller
loop-next-smaller c =
    let kept = c.as_slice-kept.result.now in
    let own = c.args.self.now in
    let e = c.args.passing.now.passed in
    let number = c.sought-number.result in
    let place : past c.loop-next.next ≡ suc c.in-Some.place = ap past c.in-Some.is in
    let most = c.loop-next.invariant.within in
    let within : c.in-Some.place < length kept = omega (arith, place, most) in
    let x = c.index-kept-place.result in
    let at = slice_get_read kept (length kept) c.in-Some.place x refl within c.index-kept-place.is in
    let linked : AreLinked kept own.latest = subst (λ xs. AreLinked xs own.latest) (sym c.as_slice-kept.ensures.value) own.linked in
    (search_goes_on (Rejected c.args.at c.args.row.now c.args.datagram.now e.number e.context) kept number c.in-Some.place c.loop-next.next x
    (others_rejected c.args.at c.args.row.now c.args.datagram.now e.number number e.context c.requires.fits c.sought-number.ensures.small c.sought-number.ensures.number)
    c.loop-next.invariant c.in-Some.is at (λ f m is passes. sym c.if-accounts_for.false ∙ c.accounts_for.ensures f m is passes) (linked.earlier c.in-Some.place x at)).1

pub loop-next-preserved : goal.loop-next-preserved
loop-next-preserved c =
    let kept = c.as_slice-kept.result.now in
    let own = c.args.self.now in
    let e = c.args.passing.now.passed in
    let number = c.sought-number.result in
    let place : past c.loop-next.next ≡ suc c.in-Some.place = ap past c.in-Some.is in
    let most = c.loop-next.invariant.within in
    let within : c.in-Some.place < length kept = omega (arith, place, most) in
    let x = c.index-kept-place.result in
    let at = slice_get_read kept (length kept) c.in-Some.place x refl within c.index-kept-place.is in
    let linked : AreLinked kept own.latest = subst (λ xs. AreLinked xs own.latest) (sym c.as_slice-kept.ensures.value) own.linked in
    (search_goes_on (Rejected c.args.at c.args.row.now c.args.datagram.now e.number e.context) kept number c.in-Some.place c.loop-next.next x
    (others_rejected c.args.at c.args.row.now c.args.datagram.now e.number number e.context c.requires.fits c.sought-number.ensures.small c.sought-number.ensures.number)
    c.loop-next.invariant c.in-Some.is at (λ f m is passes. sym c.if-accounts_for.false ∙ c.accounts_for.ensures f m is passes) (linked.earlier c.in-Some.place x at)).0

pub returns : goal.returns
returns c history f h passes =
    let kept = c.as_slice-kept.result.now in
    let nothing : past c.loop-next.next ≡ 0 = none_past c.loop-next.next (λ i e. c.in_default.not-Some i e) in
    none_made kept history c.args.at f (rw c.as_slice-kept.ensures.value h.keeps)
    (λ i k m at is. c.loop-next.invariant.tried i k (omega (arith, nothing)) at f m is passes)
