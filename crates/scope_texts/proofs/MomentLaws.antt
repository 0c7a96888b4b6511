-- The time for which a date, a time of the day and an offset stand.
use Rattle.std.proofs.Common.{◌≡◌, ℕ, List, Option, Some, None, refl, sym, ap, ◌∙◌}
use Rattle.std.specs.Option.{option_and_then}
use Rattle.toml_datetime.specs.declared.datetime.Offset.{Offset}
use Rattle.book_scope_texts.specs.Instants.{instant_of}
use Rattle.book_scope_texts.specs.Moments.{in_utc}

-- the digits write a time
pub is_time : (o : Offset) (digits text : List ℕ) (read found : Option ℕ) (time : ℕ) → read ≡ Some time → read ≡ instant_of text → text ≡ digits → found ≡ in_utc o time →
    found ≡ option_and_then (in_utc o) (instant_of digits)
is_time o digits text read found time is said same h =
    let there : instant_of digits ≡ Some time = sym (ap instant_of same) ∙ (sym said ∙ is) in rw there h

-- they write none
pub no_time : (o : Offset) (digits text : List ℕ) (read : Option ℕ) → read ≡ None → read ≡ instant_of text → text ≡ digits →
    ◌≡◌ {A = Option ℕ} None (option_and_then (in_utc o) (instant_of digits))
no_time o digits text read is said same =
    let none : instant_of digits ≡ None = sym (ap instant_of same) ∙ (sym said ∙ is) in rw none refl
