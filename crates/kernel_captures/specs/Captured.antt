-- What a check of a capture by a key file does (own).
use Rattle.std.specs.Prelude.{◌≡◌, ℕ, Bool, List, Result, Ok, Err}
use Rattle.ao_base.specs.Outside.{Side}
use Rattle.book_keys.specs.Nodes.{tables_of}
use Rattle.book_keys.specs.Rows.{Table}
use Rattle.cmd_check.specs.declared.answers.Form.TheVariants.{Pcap}
use Rattle.cmd_check.specs.declared.halt.Halt.{Halt}
use Rattle.cmd_check.specs.Checked.{Checks}
use Rattle.kernel_captures.specs.declared.captured.Unchecked.{Unchecked}
use Rattle.kernel_captures.specs.declared.captured.Unchecked.TheVariants.{Keys, Capture}

-- the packets are checked by the tables of this key file
abbrev pub ByTables : List ℕ → (source_before source_now out_before out_now : Side) → Result Bool Halt → Type 0
ByTables text source_before source_now out_before out_now result =
    (tables : List Table) × (tables_of text ≡ Ok tables) × (given : List ℕ) × Checks Pcap tables given source_before source_now out_before out_now result

-- a check by a key file of this text: without tables nothing is taken or written
abbrev pub ChecksBy : List ℕ → (source_before source_now out_before out_now : Side) → Result Bool Unchecked → Type 0
ChecksBy text source_before source_now out_before out_now (Ok amiss) = ByTables text source_before source_now out_before out_now (Ok amiss)
ChecksBy text source_before source_now out_before out_now (Err (Capture halt)) = ByTables text source_before source_now out_before out_now (Err halt)
ChecksBy text source_before source_now out_before out_now (Err Keys) = (source_now ≡ source_before) × (out_now ≡ out_before)
