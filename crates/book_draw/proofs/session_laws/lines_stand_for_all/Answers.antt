use Rattle.book_draw.proofs.Folded.{all_told}
use Rattle.book_draw.proofs.session_laws.lines_stand_for_all.Goals as goal

pub returns : goal.returns
returns c = all_told
