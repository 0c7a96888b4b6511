-- Why a file is no TOML, as it is told: one of these texts. Our own format. Its top is
-- `toml_fault_text`.
use Rattle.std.specs.Prelude.{ℕ, List, codes}
use Rattle.book_scope_texts.specs.declared.finding.TomlFault.{TomlFault}
use Rattle.book_scope_texts.specs.declared.finding.TomlFault.TheVariants as fault

-- what is said of why a text is no TOML (own)
abbrev pub toml_fault_text : TomlFault → List ℕ
toml_fault_text fault.Utf8 = codes "a byte that is no UTF-8"
toml_fault_text fault.Key =
    codes "a line begins with a key or a header; other signs in a key need quotes"
toml_fault_text fault.MissingEquals = codes "an equals sign is missing behind a key"
toml_fault_text fault.OpenTable = codes "a header isn't closed by ]"
toml_fault_text fault.OpenArrayTable = codes "a header isn't closed by ]]"
toml_fault_text fault.EndOfLine = codes "more stands on the line than it may"
toml_fault_text fault.Content = codes "more stands there than may"
toml_fault_text fault.Array = codes "a comma or ] is missing in an array"
toml_fault_text fault.InlineTable = codes "a comma or } is missing in a table"
toml_fault_text fault.Text =
    codes "a text isn't closed by a quote, or has a byte that it can't have"
toml_fault_text fault.Escape = codes "no such escape in a text"
toml_fault_text fault.Value = codes "no value; a text needs straight quotes, \"...\""
toml_fault_text fault.Underscore = codes "an underscore in a number stands between digits"
toml_fault_text fault.Overflow = codes "a number out of its range"
toml_fault_text fault.Datetime = codes "no such date or time"
toml_fault_text fault.Twice = codes "this key or table stands in the file already"
toml_fault_text fault.Extend = codes "a key with a dot goes into a value that is no table"
toml_fault_text fault.Depth = codes "values lie in one another too deep"
