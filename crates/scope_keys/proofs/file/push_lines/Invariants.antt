use Rattle.std.proofs.Common.{◌≡◌, ◌++◌, drop}
use Rattle.std.specs.Prelude.{flat_map}
use Rattle.book_scope_texts.specs.Places.{key_finding_line}
use Rattle.scope_keys.proofs.file.push_lines.Given as goal

abbrev pub invariant-loop-finding : goal.invariant-loop-finding
invariant-loop-finding l =
    l.out.items ++ flat_map (key_finding_line l.text) (drop l.finding-index l.findings)
    ≡ l.fn.out.items ++ flat_map (key_finding_line l.text) l.findings
