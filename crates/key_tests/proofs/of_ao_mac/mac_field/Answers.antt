use Rattle.std.proofs.Common.{sym, ap, ◌∙◌}
use Rattle.book_segments.specs.Options.{find_ao}
use Rattle.tcp_segment.specs.Views.{view_ao}
use Rattle.key_tests.proofs.of_ao_mac.mac_field.Goals as goal

pub returns-in-One : goal.returns-in-One
returns-in-One c = (view_ao c.in-One.ao, ap find_ao (sym c.options-options.ensures.value) ∙ sym c.in-One.ensures)
