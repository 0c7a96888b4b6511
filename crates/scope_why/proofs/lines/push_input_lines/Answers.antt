use Rattle.scope_why.proofs.FrontParts.{put_five}
use Rattle.scope_why.proofs.lines.push_input_lines.Goals as goal

pub returns : goal.returns
returns c =
    put_five _ _ _ _ _ _ _ _ _ _ _ c.in_ok-push_extension_line.ensures c.in_ok-push_pseudo_line.ensures c.in_ok-push_header_line.ensures
    c.in_ok-push_options_line.ensures c.in_ok-push_payload_line.ensures
