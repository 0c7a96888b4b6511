use Rattle.std.proofs.Common.{◌≡◌, ◌++◌, map, take}
use Rattle.law_scripts.specs.Printed.{event_words, lines_text}
use Rattle.link_script.proofs.printer.push_events.Given as goal

abbrev pub invariant-loop-event : goal.invariant-loop-event
invariant-loop-event l = l.out.items ≡ l.fn.out.items ++ lines_text (map event_words (take l.event-index l.events))
