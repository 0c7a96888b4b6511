-- The row to send with, in the numbers of this crate.
use Rattle.book_keys.specs.Coordination as book
use Rattle.ao_check.specs.declared.choice.Sending.{Sending}

-- the number of the row and the two ids
abbrev pub told : book.Sending → Sending
told s = record { row = s.number; key_id = s.key_id; rnext = s.rnext_key_id }
