use Rattle.std.proofs.Common.{◌≡◌, sym, ap, ◌∙◌, arith}
use Rattle.book_segments.specs.Segments.{tcp_length}
use Rattle.ao_mac.proofs.InputLaws.{never, refused, holds, decides, said, says}
use Rattle.ao_mac.proofs.inputs.same_pseudo_header.Goals as goal

pub returns-then-tcp_length_of : goal.returns-then-tcp_length_of
returns-then-tcp_length_of c = (
  λ t. absurd (never t),
  λ h. let size = (said c.args.datagram.now c.args.other.now c.tcp_length_of.ensures.fits c.tcp_length_of-2.ensures.fits h).size in
      absurd (omega (arith, size, c.tcp_length_of.ensures.length, c.tcp_length_of-2.ensures.length, c.if-tcp_length_of.true)),
)

pub returns-then-not-same_address : goal.returns-then-not-same_address
returns-then-not-same_address c =
    refused c.same_address.result c.if-not-same_address.true c.same_address.ensures
    (λ h. ap (λ s. s.address) c.source.ensures.value ∙ ((said c.args.datagram.now c.args.other.now c.tcp_length_of.ensures.fits c.tcp_length_of-2.ensures.fits h).source ∙ sym (ap (λ s. s.address) c.source-2.ensures.value)))

pub returns : goal.returns
returns c =
    let d = c.args.datagram.now in
    let e = c.args.other.now in
    let sources = holds c.same_address.result c.if-not-same_address.false c.same_address.ensures in
    let size : tcp_length d ≡ tcp_length e = omega (arith, c.tcp_length_of.ensures.length, c.tcp_length_of-2.ensures.length, c.if-tcp_length_of.false) in
    let source = sym (ap (λ s. s.address) c.source.ensures.value) ∙ (sources ∙ ap (λ s. s.address) c.source-2.ensures.value) in
    decides c.same_address-2.result c.same_address-2.ensures
    (λ h. says d e c.tcp_length_of.ensures.fits c.tcp_length_of-2.ensures.fits
    (record { size = size; source = source; destination = sym (ap (λ s. s.address) c.destination.ensures.value) ∙ (h ∙ ap (λ s. s.address) c.destination-2.ensures.value) }))
    (λ h. ap (λ s. s.address) c.destination.ensures.value ∙ ((said d e c.tcp_length_of.ensures.fits c.tcp_length_of-2.ensures.fits h).destination ∙ sym (ap (λ s. s.address) c.destination-2.ensures.value)))
