use Rattle.std.proofs.Common.{◌≡◌, ◌-◌}
use Rattle.book_captures.specs.BlockContents.{option_in}
use Rattle.capture_reader.proofs.contents.option_in.Given as goal

abbrev pub invariant-options : goal.invariant-options
invariant-options l = option_in (l.most - l.counter) l.order l.code l.size l.options ≡ option_in l.fn.most l.fn.order l.fn.code l.fn.size l.fn.options
