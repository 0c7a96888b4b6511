use Rattle.std.proofs.Common.{◌≡◌}
use Rattle.law_scripts.specs.Printed.{text_of}
use Rattle.law_scripts.proofs.ScriptBack.{script_of-text_of}
use Rattle.link_script.proofs.TextParts.{whole_printed}
use Rattle.link_script.proofs.printer.print_script.Goals as goal

pub returns : goal.returns
returns c =
    let s = c.args.script.now in
    let text : c.from_vec.result ≡ text_of s = rw c.from_vec.ensures (whole_printed s c.push_title.new.out.items
    c.push_socket_line.new.out.items c.push_socket_line-2.new.out.items c.push_key.new.out.items c.push_events.new.out.items
    (rw c.new-out.ensures.items at c.in_ok-push_title.ensures) c.in_ok-push_socket_line.ensures c.in_ok-push_socket_line-2.ensures
    (rw c.as_ref.ensures.value at c.in_ok-push_key.ensures) (rw c.as_slice.ensures at c.in_ok-push_events.ensures)) in
    record { text = text; read_again = rw text (script_of-text_of s c.requires) }
