-- What is reported of a key file.
use Rattle.std.specs.Prelude.{◌≡◌, ℕ, ◌≤◌, Bool, true, false, List, length}
use Rattle.book_keys.specs.declared.fault.TableFault.{TableFault}
use Rattle.book_keys.specs.declared.fault.TableFault.TheVariants as fault
use Rattle.book_scope_texts.specs.declared.finding.TomlFault.{TomlFault}
use Rattle.book_scope_texts.specs.FileFindings.{key_report}

-- what is written is the book's report; where the text is no TOML, it is none from one of its bytes
-- on, for one of the reasons (own)
pub record IsKeyReport (text written : List ℕ) : Type 0 where
  pub index : ℕ
  pub why : TomlFault
  pub within : index ≤ length text
  pub is : written ≡ key_report index why text

-- memory ran out (own)
abbrev pub is_memory : TableFault → Bool
is_memory fault.Memory = true
is_memory fault.Syntax = false
is_memory (fault.Field n r c) = false
is_memory (fault.TooMany n) = false
is_memory (fault.Overlap n r s) = false
