use Rattle.std.proofs.Common.{◌≡◌, ◌++◌, ◌∷◌, [], nat_eq, length, suc, Some, sym, ap, ◌∙◌, subst, arith}
use Rattle.std.specs.HashMap.{Updates}
use Rattle.book_segments.specs.Spelling.{AreBytes}
use Rattle.link_report.specs.declared.kept.Kept.{Kept}
use Rattle.link_report.specs.Numbers.{AreLinked}
use Rattle.link_report.proofs.LogLaws.{entry_of, only_ok, segments_kept}
use Rattle.link_report.proofs.NumberLaws.{linked_more}
use Rattle.link_report.proofs.log.Log.push.Goals as goal

pub invariant_of-self : goal.invariant_of-self
invariant_of-self c =
    let before = c.master_of.new.self in
    let x : Kept =
    record {
      entry = record {
        maker = c.args.maker;
        number = c.args.number;
        algorithm = c.algorithm.result;
        master = c.master_of.result;
        with_options = c.with_options.result;
        context = c.args.context;
        bytes = c.args.bytes;
      };
      earlier = c.unwrap-earlier.result;
    } in
    let items : c.push-pushed.new.self.items ≡ before.kept.items ++ x ∷ [] =
    only_ok c.push-pushed.result _ _ _ (c.push-pushed.ensures.succeeds (rw c.master_of.ensures.kept c.requires.room.entries)) c.push-pushed.ensures.items in
    let place : c.len-place.result ≡ length before.kept.items = omega (arith, c.len-place.ensures) in
    record {
      linked = subst (λ xs. AreLinked xs c.insert-inserted.new.self) (sym items)
          (linked_more before.kept.items x before.latest c.insert-inserted.new.self before.linked (rw c.unwrap-earlier.ensures at c.insert-inserted.ensures.old)
          (subst (λ n. Updates nat_eq before.latest c.insert-inserted.new.self c.args.number (Some n)) place (rw c.unwrap-earlier.ensures at c.insert-inserted.ensures.updates)));
    }

pub returns-clause-stands : goal.returns-clause-stands
returns-clause-stands c history m logs is name =
    let own = c.args.self.now in
    let before = c.master_of.new.self in
    let x : Kept =
    record {
      entry = record {
        maker = c.args.maker;
        number = c.args.number;
        algorithm = c.algorithm.result;
        master = c.master_of.result;
        with_options = c.with_options.result;
        context = c.args.context;
        bytes = c.args.bytes;
      };
      earlier = c.unwrap-earlier.result;
    } in
    let bytes : AreBytes c.args.bytes = subst AreBytes c.as_slice.ensures c.see_bytes.ensures in
    let items : c.push-pushed.new.self.items ≡ before.kept.items ++ x ∷ [] =
    only_ok c.push-pushed.result _ _ _ (c.push-pushed.ensures.succeeds (rw c.master_of.ensures.kept c.requires.room.entries)) c.push-pushed.ensures.items in
    let size = segments_kept own.kept.items history logs.keeps in
    record {
      keeps = (
        own.kept.items,
        x,
        items ∙ ap (λ v. v.items ++ x ∷ []) c.master_of.ensures.kept,
        name ∙ ap (λ n. suc n) size,
        entry_of m c.args.maker c.args.number c.args.row.now c.args.context c.args.bytes c.master_of.result c.algorithm.result c.with_options.result is c.algorithm.ensures
            c.master_of.ensures.master c.with_options.ensures c.ranges.number.fits bytes,
        logs.keeps,
      );
      count = c.master_of.ensures.forgeries ∙ logs.count;
    }
