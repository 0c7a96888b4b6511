-- The key ids of what passed the check (own).
use Rattle.std.specs.Prelude.{Option, Some, None}
use Rattle.book_stack.specs.declared.key_ids.KeyIds.{KeyIds}
use Rattle.ao_check.specs.declared.passing.Passing.{Passing}

-- the ids of a segment that passed, and none of what didn't pass (RFC 5925, section 2.2)
abbrev pub ids_passed : Option Passing → Option KeyIds
ids_passed None = None
ids_passed (Some p) = Some (record { key_id = p.option.key_id; rnext_key_id = p.option.rnext })
