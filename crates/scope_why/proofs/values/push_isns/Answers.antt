use Rattle.std.specs.Prelude.{[], ◌∷◌, codes, decimal}
use Rattle.book_lines.specs.Texts.{spaced}
use Rattle.scope_why.proofs.Parts.{on_four, on_same, two_spaced}
use Rattle.scope_why.proofs.values.push_isns.Goals as goal

pub returns : goal.returns
returns c =
    let source = codes "source" ∷ decimal c.args.isns.source_isn ∷ [] in
    let destination = codes "destination" ∷ decimal c.args.isns.destination_isn ∷ [] in
    on_same c.push_newline.result c.args.out.now.items _ _ c.push_newline.new.out.items (two_spaced (codes "isns") (10 ∷ []) source destination)
    (on_four c.push_newline.result c.args.out.now.items (codes "isns") (spaced source) (spaced destination) (10 ∷ []) c.extend_from_slice.new.self.items c.push_field.new.out.items c.push_field-2.new.out.items c.push_newline.new.out.items
    c.in_ok-extend_from_slice.ensures.items (rw (← c.from.ensures) c.in_ok-push_field.ensures) (rw (← c.from-2.ensures) c.in_ok-push_field-2.ensures) c.push_newline.ensures)
