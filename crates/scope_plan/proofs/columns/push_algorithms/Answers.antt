use Rattle.std.specs.Prelude.{codes}
use Rattle.book_base.specs.Algorithms.{name_of}
use Rattle.book_scope_plan.specs.DifferenceTexts.{algorithms_text}
use Rattle.plan_texts.proofs.Parts.{five}
use Rattle.scope_plan.proofs.columns.push_algorithms.Goals as goal

pub returns : goal.returns
unfolding algorithms_text
returns c =
    five c.args.out.now.items (codes "AlgID: ") (name_of c.args.row.now.algorithm) (codes " and ") (name_of c.args.other.now.algorithm) (codes "\n")
    c.extend_from_slice.new.self.items c.push_algorithm.new.out.items c.extend_from_slice-2.new.self.items c.push_algorithm-2.new.out.items _
    c.in_ok-extend_from_slice.ensures.items c.in_ok-push_algorithm.ensures c.in_ok-extend_from_slice-2.ensures.items
    c.in_ok-push_algorithm-2.ensures c.in_ok-extend_from_slice-3.ensures.items
