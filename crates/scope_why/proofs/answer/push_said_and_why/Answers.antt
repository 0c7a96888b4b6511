use Rattle.std.proofs.Common.{◌≡◌, ◌++◌, ℕ, List, Ok, subst, ◌∙◌}
use Rattle.std.specs.List.{find}
use Rattle.book_cmd_check.specs.Captures.{hear_read}
use Rattle.book_keys.specs.Rows.{Table, has_address}
use Rattle.book_segments.specs.Segments.{Read}
use Rattle.scope_why.specs.declared.facts.Facts.{Facts}
use Rattle.scope_why.specs.Facts.{reason_by}
use Rattle.scope_why.proofs.SaidLaws.{known_between, said_passes, said_why}
use Rattle.scope_why.proofs.answer.push_said_and_why.Goals as goal

pub returns : goal.returns
returns g c = λ b number bytes stands read.
    let d = c.args.datagram.now in
    let tables = c.args.checker.now.tables in
    let f : Facts = record { document = c.args.question.now.document; with_key = c.args.question.now.with_key; told = c.args.told; known = c.known.result; time = c.args.time; datagram = c.args.datagram } in
    let h = c.in_ok-line.ensures.heard b.held stands.stands in
    let said = (hear_read tables b.held c.args.time (Read d)).saying in
    let tables_are = c.tables.ensures ∙ c.in_ok-line.ensures.tables in
    let known = known_between c.known.result b.held c.source.result c.destination.result d.source d.destination c.source.ensures.value c.destination.ensures.value (c.known.ensures.known b.held stands.stands) in
    let second = subst (λ (ts : List Table). c.push_reason.new.out.items ≡ c.push_said.new.out.items ++ reason_by f ts (find (has_address d.destination.address) ts) c.in_ok-line.line) tables_are c.in_ok-push_reason.ensures in
    record {
      text = said_why f tables b c.in_ok-line.line stands.tells known h.says {E = ℕ} (Ok tt) number bytes c.args.out.now.items c.push_said.new.out.items c.push_reason.new.out.items read (c.in_ok-push_said.ensures said h.says) second;
      passing = said_passes f tables b c.in_ok-line.line stands.tells known h.says bytes number c.is_pass.result read (c.is_pass.ensures said h.says);
    }
