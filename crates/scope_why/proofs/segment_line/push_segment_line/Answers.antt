use Rattle.std.specs.Prelude.{[], ◌∷◌, ◌++◌, codes, decimal}
use Rattle.book_cmd_check.specs.DatagramTexts.{number_texts}
use Rattle.book_lines.specs.Texts.{spaced}
use Rattle.book_scope_texts.specs.Addresses.{usual_address_text}
use Rattle.book_scope_texts.specs.Instants.{instant_text}
use Rattle.book_segments.specs.Options.{find_ao}
use Rattle.book_why.specs.Answers.{option_texts_of, segment_line}
use Rattle.scope_why.proofs.Parts.{four_spaced, on_four, on_same}
use Rattle.scope_why.proofs.segment_line.push_segment_line.Goals as goal

pub returns : goal.returns
unfolding segment_line
returns c = λ bytes.
    let d = c.args.datagram.now in
    let head = decimal c.args.number ∷ codes "at" ∷ instant_text c.args.time ∷ [] in
    let ends = usual_address_text d.source.address ∷ decimal d.source.port ∷ codes ">" ∷ usual_address_text d.destination.address ∷ decimal d.destination.port ∷ [] in
    let ao = option_texts_of (find_ao d.area) in
    on_same c.push_newline.result c.args.out.now.items _ _ c.push_newline.new.out.items (four_spaced (codes "packet") (10 ∷ []) head ends (number_texts d []) ao)
    (on_four c.push_newline.result c.args.out.now.items (codes "packet" ++ spaced head) (spaced ends) (spaced (number_texts d []) ++ spaced ao) (10 ∷ [])
    c.push_seen.new.out.items c.push_ends.new.out.items c.push_fields.new.out.items c.push_newline.new.out.items
    c.in_ok-push_seen.ensures (rw (← c.source.ensures.value, ← c.destination.ensures.value) c.in_ok-push_ends.ensures) c.in_ok-push_fields.ensures c.push_newline.ensures)
