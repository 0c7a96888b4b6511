use Rattle.std.proofs.Common.{◌≡◌, ◌++◌, map, take}
use Rattle.book_scope_texts.specs.FieldTexts.{shown_byte}
use Rattle.scope_texts.proofs.shown.push_bytes.Given as goal

abbrev pub invariant-loop-byte : goal.invariant-loop-byte
invariant-loop-byte l = l.out.items ≡ l.fn.out.items ++ map shown_byte (take l.byte-index l.text)
