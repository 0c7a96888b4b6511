use Rattle.std.specs.Prelude.{codes, false}
use Rattle.page_draw_svg.specs.Pictures.{end_column, upright_svg}
use Rattle.page_svg.specs.Tags.{line_tag, words_tag}
use Rattle.page_svg.proofs.Parts.{two}
use Rattle.scope_draw.proofs.heads.push_upright.Goals as goal

pub returns : goal.returns
unfolding upright_svg
returns c =
    two c.args.out.now.items
    (line_tag (record { x = end_column c.args.end; y = 66 }) (record { x = end_column c.args.end; y = c.args.height }) (codes " stroke=\"#000\""))
    (words_tag (record { x = end_column c.args.end; y = 58 }) false c.args.name.now) c.push_line.new.out.items _
    (rw c.end_column-x.ensures at c.in_ok-push_line.ensures) (rw c.end_column-x.ensures at c.in_ok-push_words.ensures)
