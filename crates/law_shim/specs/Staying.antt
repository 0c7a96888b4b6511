-- What a guard keeps of a connection stays as it is.
use Rattle.std.specs.Prelude.{◌≡◌}
use Rattle.book_shim.specs.declared.kept.Kept.{Kept}

-- all that is kept but the current key is the same: the SYN that is out, the one given up and the
-- late answer to it, the numbers of the connection in use, and the greatest of both ways (own)
abbrev pub HasSameConnection : (before after : Kept) → Type 0
HasSameConnection before after = after ≡ record before { current = after.current }
