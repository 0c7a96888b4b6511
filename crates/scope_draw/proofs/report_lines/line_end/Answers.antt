use Rattle.scope_draw.proofs.EchoLaws.{behind_found, first_found}
use Rattle.scope_draw.proofs.report_lines.line_end.Goals as goal

pub returns-clause-first : goal.returns-clause-first
returns-clause-first c =
    first_found c.args.text.now c.memchr.result c.unwrap_or.result c.past_line.result c.memchr.ensures c.unwrap_or.ensures c.past_line.ensures.place

pub returns-clause-behind : goal.returns-clause-behind
returns-clause-behind c =
    behind_found c.args.text.now c.memchr.result c.unwrap_or.result c.past_line.result c.memchr.ensures c.unwrap_or.ensures c.past_line.ensures.rest
