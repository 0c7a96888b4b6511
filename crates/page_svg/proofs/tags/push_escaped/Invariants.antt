use Rattle.std.proofs.Common.{◌≡◌, ◌++◌, drop}
use Rattle.std.specs.Prelude.{flat_map}
use Rattle.page_svg.specs.Tags.{escaped_byte}
use Rattle.page_svg.proofs.tags.push_escaped.Given as goal

abbrev pub invariant-loop-byte : goal.invariant-loop-byte
invariant-loop-byte l =
    l.out.items ++ flat_map escaped_byte (drop l.byte-index l.text) ≡ l.fn.out.items ++ flat_map escaped_byte l.text
