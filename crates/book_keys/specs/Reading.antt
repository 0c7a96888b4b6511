-- Reading of a key file that goes on, or ends at the first fault (own).
use Rattle.std.specs.Prelude.{◌≡◌, ℕ, ◌+◌, Bool, true, false, List, [], ◌∷◌, Result, Ok, Err}
use Rattle.toml.specs.Data.{Data, Items, no_items, item}
use Rattle.book_base.specs.Results.{◌>>=◌}
use Rattle.book_keys.specs.declared.fault.TableFault.{TableFault}
use Rattle.book_keys.specs.declared.fault.TableFault.TheVariants as fault

-- a test holds, or this is the fault (own)
abbrev pub must : Bool → TableFault → Result (Unit {0}) TableFault
must true e = Ok tt
must false e = Err e

-- what each item of an array gives in order, the first one read under number n; the first fault
-- ends it (own)
unfoldable pub each :
    {A : Type 0} → (ℕ → Data → Result A TableFault) → ℕ → Items → Result (List A) TableFault
each read n no_items = Ok []
each read n (item d ds) =
    read n d >>= λ x. each read (n + 1) ds >>= λ xs. Ok (x ∷ xs)

-- the fault that was answered is what reading gives, unless memory was refused (own)
abbrev pub Fails : {A : Type 0} → TableFault → Result A TableFault → Type 0
Fails fault.Memory read = Unit {0}
Fails e read = read ≡ Err e

-- what was answered, seen as values, is what reading gives, unless memory was refused (own)
abbrev pub ReadingGives :
    {X A : Type 0} → (X → A) → Result X TableFault → Result A TableFault → Type 0
ReadingGives view (Ok x) read = read ≡ Ok (view x)
ReadingGives view (Err e) read = Fails e read
