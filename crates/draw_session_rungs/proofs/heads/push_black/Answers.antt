use Rattle.std.specs.Prelude.{codes}
use Rattle.page_draw_svg.specs.SessionPictures.{outcome_dashes}
use Rattle.page_svg.proofs.Parts.{two}
use Rattle.draw_session_rungs.proofs.heads.push_black.Goals as goal

pub returns : goal.returns
returns c =
    two c.args.out.now.items (codes " stroke=\"#000\"") (outcome_dashes c.args.said) c.extend_from_slice.new.self.items _
    c.in_ok-extend_from_slice.ensures.items (rw c.outcome_dashes.ensures at c.in_ok-extend_from_slice-2.ensures.items)
