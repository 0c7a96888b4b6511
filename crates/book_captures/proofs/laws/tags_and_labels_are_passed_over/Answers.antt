use Rattle.book_captures.proofs.Passing.{tags_pass, labels_pass}
use Rattle.book_captures.proofs.laws.tags_and_labels_are_passed_over.Goals as goal

pub returns-clause-tags : goal.returns-clause-tags
returns-clause-tags c = tags_pass

pub returns-clause-labels : goal.returns-clause-labels
returns-clause-labels c = labels_pass
