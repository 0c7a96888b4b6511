use Rattle.std.proofs.Common.{codes}
use Rattle.scope_texts.proofs.SaidLaws.{one_behind, three_behind}
use Rattle.scope_texts.proofs.unknown.push_meant.Goals as goal

pub returns-in_ok-extend_from_slice-in-Some-2 : goal.returns-in_ok-extend_from_slice-in-Some-2
returns-in_ok-extend_from_slice-in-Some-2 c =
    rw c.in-Some.is (three_behind c.extend_from_slice-in-Some-2.result c.args.out.now.items c.extend_from_slice.new.self.items c.extend_from_slice-in-Some.new.self.items c.extend_from_slice-in-Some-2.new.self.items
    (codes "no such field; did you mean ") c.in-Some.word.now (codes "?")
    c.in_ok-extend_from_slice-in-Some.ensures.items (rw c.as_bytes.ensures.value at c.in_ok-extend_from_slice-in-Some-2.ensures.items) c.extend_from_slice-in-Some-2.ensures.items)

pub returns-in-None : goal.returns-in-None
returns-in-None c =
    rw c.in-None.is (one_behind c.extend_from_slice-in-None.result c.args.out.now.items c.extend_from_slice-in-None.new.self.items (codes "no such field") c.extend_from_slice-in-None.ensures.items)
