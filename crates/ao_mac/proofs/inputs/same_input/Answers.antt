use Rattle.std.proofs.Common.{◌≡◌, ℕ, ◌/◌, sym, ◌∙◌}
use Rattle.book_segments.specs.Options.{Ao, One, find_ao}
use Rattle.book_macs.specs.MacInput.{mac_input}
use Rattle.tcp_segment.specs.Views.{view_ao}
use Rattle.ao_mac.specs.declared.inputs.MacInput.{MacInput}
use Rattle.ao_mac.proofs.InputLaws.{SameParts, refused, holds, decides, one_of, to_parts, of_parts}
use Rattle.ao_mac.proofs.inputs.same_input.Goals as goal

pub returns-then-not-same_extension : goal.returns-then-not-same_extension
returns-then-not-same_extension c = λ n m p q en em od oe.
    let one = c.args.one.now in
    let other = c.args.other.now in
    refused c.same_extension.result c.if-not-same_extension.true c.same_extension.ensures.same
    (λ h. (to_parts n m one.sne other.sne one.datagram.now other.datagram.now p q one.with_options other.with_options c.payload-payload.ensures.fits c.payload-other_payload.ensures.fits od oe
    c.same_extension.ensures.fits.0 c.same_extension.ensures.fits.1 en em h).extension)

pub returns-then-not-same_header : goal.returns-then-not-same_header
returns-then-not-same_header c = λ n m p q en em od oe.
    let one = c.args.one.now in
    let other = c.args.other.now in
    refused c.same_header.result c.if-not-same_header.true c.same_header.ensures
    (λ h. (to_parts n m one.sne other.sne one.datagram.now other.datagram.now p q one.with_options other.with_options c.payload-payload.ensures.fits c.payload-other_payload.ensures.fits od oe
    c.same_extension.ensures.fits.0 c.same_extension.ensures.fits.1 en em h).header_is)

pub returns-then-not-same_pseudo_header : goal.returns-then-not-same_pseudo_header
returns-then-not-same_pseudo_header c = λ n m p q en em od oe.
    let one = c.args.one.now in
    let other = c.args.other.now in
    refused c.same_pseudo_header.result c.if-not-same_pseudo_header.true c.same_pseudo_header.ensures
    (λ h. (to_parts n m one.sne other.sne one.datagram.now other.datagram.now p q one.with_options other.with_options c.payload-payload.ensures.fits c.payload-other_payload.ensures.fits od oe
    c.same_extension.ensures.fits.0 c.same_extension.ensures.fits.1 en em h).pseudo_is)

pub returns-then-not-same_options : goal.returns-then-not-same_options
returns-then-not-same_options c = λ n m p q en em od oe.
    let one = c.args.one.now in
    let other = c.args.other.now in
    let first : p ≡ view_ao one.option = one_of one.datagram.now.area p (view_ao one.option) od c.requires.one in
    let second : q ≡ view_ao other.option = one_of other.datagram.now.area q (view_ao other.option) oe c.requires.other in
    refused c.same_options.result c.if-not-same_options.true (rw (first, second) c.same_options.ensures)
    (λ h. (to_parts n m one.sne other.sne one.datagram.now other.datagram.now p q one.with_options other.with_options c.payload-payload.ensures.fits c.payload-other_payload.ensures.fits od oe
    c.same_extension.ensures.fits.0 c.same_extension.ensures.fits.1 en em h).covered_is)

pub returns : goal.returns
returns c = λ n m p q en em od oe.
    let one = c.args.one.now in
    let other = c.args.other.now in
    let first : p ≡ view_ao one.option = one_of one.datagram.now.area p (view_ao one.option) od c.requires.one in
    let second : q ≡ view_ao other.option = one_of other.datagram.now.area q (view_ao other.option) oe c.requires.other in
    let extension = holds c.same_extension.result c.if-not-same_extension.false c.same_extension.ensures.same in
    let header = holds c.same_header.result c.if-not-same_header.false c.same_header.ensures in
    let pseudo = holds c.same_pseudo_header.result c.if-not-same_pseudo_header.false c.same_pseudo_header.ensures in
    let options = holds c.same_options.result c.if-not-same_options.false c.same_options.ensures in
    decides c.same_bytes.result c.same_bytes.ensures
    (λ h. of_parts n m one.sne other.sne one.datagram.now other.datagram.now p q one.with_options other.with_options en em
    (record {
      extension = extension;
      header_is = header;
      pseudo_is = pseudo;
      covered_is = rw (first, second) options;
      payload_is = sym c.payload-payload.ensures.value ∙ (h ∙ c.payload-other_payload.ensures.value);
    }))
    (λ h. c.payload-payload.ensures.value
    ∙ ((to_parts n m one.sne other.sne one.datagram.now other.datagram.now p q one.with_options other.with_options c.payload-payload.ensures.fits c.payload-other_payload.ensures.fits od oe
    c.same_extension.ensures.fits.0 c.same_extension.ensures.fits.1 en em h).payload_is ∙ sym c.payload-other_payload.ensures.value))
