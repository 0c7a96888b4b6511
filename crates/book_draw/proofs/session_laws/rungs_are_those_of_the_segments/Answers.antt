use Rattle.book_draw.proofs.Heard.{all_heard}
use Rattle.book_draw.proofs.session_laws.rungs_are_those_of_the_segments.Goals as goal

pub returns : goal.returns
returns c = all_heard
