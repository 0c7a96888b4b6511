use Rattle.std.proofs.Common.{◌∙◌}
use Rattle.toml.specs.View.{table_view}
use Rattle.scope_keys.proofs.FileLaws.{text_found}
use Rattle.scope_keys.proofs.report.faulty_text.Goals as goal

pub returns : goal.returns
returns c =
    c.from_vec.ensures
    ∙ text_found c.args.text.now (table_view c.args.document.now) c.args.fault c.new-out.result.items c.push_lines.new.out.items c.as_slice.result.now c.in_ok-found.found.items
    c.new-out.ensures.items c.as_slice.ensures.value c.in_ok-found.ensures c.requires.document c.requires.refused c.in_ok-push_lines.ensures
