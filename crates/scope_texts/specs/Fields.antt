-- A field of a table as code holds it, by borrows. Its top is `field_of`.
use Rattle.std.specs.Prelude.{option_map}
use Rattle.toml.specs.View.{view}
use Rattle.book_scope_texts.specs.RowFindings.{KeyField}
use Rattle.scope_texts.specs.declared.field.Field.{Field}

-- the field that this one is (own)
abbrev pub field_of : Field → KeyField
field_of f = record {
  place = f.place.now;
  key = f.key.now;
  value = option_map (λ v. view v.now) f.value;
}
