-- What a log stands for.
use Rattle.std.specs.Prelude.{◌≡◌, ℕ, suc, ◌<◌, ◌≤◌, List, [], ◌∷◌, ◌++◌, length, vec_capacity, vec_len, Option, Some, None}
use Rattle.std.specs.HashMap.{spare}
use Rattle.std.specs.Option.{IsSomeAnd}
use Rattle.book_base.specs.declared.end.End.{End}
use Rattle.book_keys.specs.MasterKeys.{longest_master_key}
use Rattle.book_link.specs.Worlds.{Made, Happening, Making, Coming, forgeries}
use Rattle.link_report.specs.declared.kept.Kept.{Kept}
use Rattle.link_report.specs.declared.log.Log.{Log}
use Rattle.link_report.specs.Entries.{IsEntry}

-- how many segments a log keeps
abbrev pub made_count : Log → ℕ
made_count log = length log.kept.items

-- how many forgeries a log has counted
abbrev pub forgery_count : Log → ℕ
forgery_count log = log.forgeries

-- all that was made is kept, in order, each segment under its name
abbrev pub Keeps : List Kept → List Happening → Type 0
Keeps kept [] = kept ≡ []
Keeps kept (Making m ∷ past) =
    (front : List Kept) × (last : Kept) × (kept ≡ front ++ last ∷ []) × (m.name ≡ suc (length front)) × IsEntry last.entry m × Keeps front past
Keeps kept (Coming r ∷ past) = Keeps kept past

-- a log stands for a history: what was made is kept, and the forgeries are counted
pub record StandsLog (log : Log) (history : List Happening) : Type 0 where
  pub keeps : Keeps log.kept.items history
  pub count : log.forgeries ≡ forgeries history

-- the segment is there, and this end made it
abbrev pub MadeBy : End → Option Made → Type 0
MadeBy e None = ⊥
MadeBy e (Some m) = m.maker ≡ e

-- there is room for one more entry, whatever its number and its master key are
pub record HasRoom (log : Log) : Type 0 where
  pub entries : vec_len log.kept < vec_capacity log.kept
  pub numbers : 0 < spare log.latest
  pub master : IsSomeAnd log.master (λ m. (m.items ≡ []) × (longest_master_key ≤ vec_capacity m))
