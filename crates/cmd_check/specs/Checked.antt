-- What a check of stored segments reads and writes, on either form of its input (own). Its top is
-- `Checks`.
use Rattle.std.specs.Prelude.{ℕ, Bool, List, Result}
use Rattle.ao_base.specs.Outside.{Side}
use Rattle.book_keys.specs.Rows.{Table}
use Rattle.cmd_check.specs.declared.answers.Form.{Form}
use Rattle.cmd_check.specs.declared.answers.Form.TheVariants as form
use Rattle.cmd_check.specs.declared.halt.Halt.{Halt}
use Rattle.cmd_check.specs.CheckedLines.{Checks as ChecksLines}
use Rattle.cmd_check.specs.CheckedPackets.{Checks as ChecksPackets}

-- a check of an input of this form, in which the source gave these bytes (own)
abbrev pub Checks : Form → List Table → (given : List ℕ) →
    (source_before source_now out_before out_now : Side) → Result Bool Halt → Type 0
Checks form.Lines tables given source_before source_now out_before out_now result =
    ChecksLines tables given source_before source_now out_before out_now result
Checks form.Pcap tables given source_before source_now out_before out_now result =
    ChecksPackets tables given source_before source_now out_before out_now result
