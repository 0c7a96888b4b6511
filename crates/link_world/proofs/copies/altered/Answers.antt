use Rattle.std.proofs.Common.{ap, ◌∙◌}
use Rattle.std.proofs.lemmas.List.{with_items_is}
use Rattle.book_segments.specs.Spelling.{with_right_checksum}
use Rattle.link_world.proofs.AlterLaws.{copy_plain, copy_fixed, copy_left}
use Rattle.link_world.proofs.copies.altered.Goals.{in-Fix, in-Keep}
use Rattle.link_world.proofs.copies.altered.Goals as goal

pub fix_checksum-requires : goal.fix_checksum-requires
fix_checksum-requires c =
    let e = c.header_length.ensures in
    let p = c.from.ensures in
    let is = c.in_ok-copy.ensures in
    copy_plain c.args.bytes.now c.as_mut_slice.result.now c.header_length.result c.from.result c.args.place c.args.mask e p (c.as_mut_slice.ensures.value ∙ is) c.requires

pub returns-clause-copy : goal.returns-clause-copy
returns-clause-copy c =
    elim c.match-fixing.branch [
      | in-Keep w ↦
          let e = c.header_length.ensures in
          let p = c.from.ensures in
          let is = c.in_ok-copy.ensures in
          ap (λ v. v.items) w.copy-is ∙ copy_left c.args.bytes.now c.in_ok-copy.copy.items c.header_length.result c.from.result c.args.place c.args.mask c.args.fixing e p is w.in-Keep.is
      | in-Fix w ↦
          let e = c.header_length.ensures in
          let p = c.from.ensures in
          let is = c.in_ok-copy.ensures in
          let long = w.fix_checksum.auto.datagram ∙ w.as_mut_slice.ensures.len in
          ap (λ v. v.items) w.copy-is ∙ (with_items_is c.in_ok-copy.copy w.fix_checksum.new.datagram long ∙ (w.fix_checksum.ensures ∙ (ap with_right_checksum w.as_mut_slice.ensures.value
          ∙ copy_fixed c.args.bytes.now c.in_ok-copy.copy.items c.header_length.result c.from.result c.args.place c.args.mask c.args.fixing e p is w.in-Fix.is)))
    ]
