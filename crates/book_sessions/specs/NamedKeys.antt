-- What stands in the way of the keys that a word names, and whether all of them may go. Our own
-- format. Its tops are `retire_lines` and `retiring_of`.
use Rattle.std.specs.Prelude.{ℕ, suc, ◌||◌, Bool, true, false, List, [], ◌∷◌, ◌++◌}
use Rattle.std.specs.Prelude.{if◌then◌else◌}
use Rattle.std.specs.List.{flat_map, list_all}
use Rattle.toml.specs.Data.{Members}
use Rattle.book_base.specs.Decimals.{decimal_of}
use Rattle.book_keys.specs.Columns.{is_word}
use Rattle.book_keys.specs.Rows.{Row, Table}
use Rattle.book_scope_plan.specs.AdminNames.{KeyFile, admin_name}
use Rattle.book_sessions.specs.declared.retiring.MayGo.{MayGo}
use Rattle.book_sessions.specs.declared.retiring.MayGo.TheVariants as go
use Rattle.book_sessions.specs.declared.retiring.Retiring.{Retiring}
use Rattle.book_sessions.specs.declared.retiring.Retiring.TheVariants as retiring
use Rattle.book_sessions.specs.KeyLines.{key_line}
use Rattle.book_sessions.specs.Retiring.{Evidence, is_id, may_go}

-- the word is the name of the row of this number of a node, or a KeyID of the row in decimal (RFC
-- 7210, section 2, and own)
abbrev pub is_named_so : (word : List ℕ) → Members → Table → (n : ℕ) → Row → Bool
is_named_so word document t n r = is_word word (admin_name document t.name n)
    || (is_id (decimal_of word) r.send_id || is_id (decimal_of word) r.recv_id)

-- what rows of a node give, the first one having number n (own)
abbrev pub by_rows : {A : Type 0} → ((n : ℕ) → Row → List A) → (n : ℕ) → List Row → List A
by_rows gives n [] = []
by_rows gives n (r ∷ rs) = gives n r ++ by_rows gives (suc n) rs

-- what the rows of all nodes give (own)
abbrev pub by_nodes : {A : Type 0} → (Table → (n : ℕ) → Row → List A) → List Table → List A
by_nodes gives tables = flat_map (λ t. by_rows (gives t) 1 t.rows) tables

-- a word, and the key file of whose rows it names some (own)
pub record Naming : Type 0 where
  pub word : List ℕ
  pub keys : KeyFile

-- a word in a key file (own)
abbrev pub naming : (word : List ℕ) → KeyFile → Naming
naming word keys = record { word = word; keys = keys }

-- the key line of the row, if the word names it (own)
abbrev pub retire_line : Naming → Evidence → Table → (n : ℕ) → Row → List ℕ
retire_line w e t n r =
    if is_named_so w.word w.keys.document t n r then key_line w.keys e t n r else []

-- the key lines of the rows that the word names (own)
abbrev pub retire_lines : (word : List ℕ) → KeyFile → Evidence → List ℕ
retire_lines word keys e = by_nodes (retire_line (naming word keys) e) keys.tables

-- whether the row may go, if the word names it (own)
abbrev pub retire_answer : Naming → Evidence → Table → (n : ℕ) → Row → List MayGo
retire_answer w e t n r =
    if is_named_so w.word w.keys.document t n r then may_go e w.keys.tables t n r ∷ [] else []

-- whether each of the rows that the word names may go (own)
abbrev pub retire_answers : (word : List ℕ) → KeyFile → Evidence → List MayGo
retire_answers word keys e = by_nodes (retire_answer (naming word keys) e) keys.tables

-- the row may go (own)
abbrev pub is_yes : MayGo → Bool
is_yes go.Yes = true
is_yes go.No = false
is_yes go.Unknown = false

-- whether all of these rows may go, where there are some (own)
abbrev pub all_told : List MayGo → Retiring
all_told [] = retiring.NoSuchRow
all_told (m ∷ ms) = if list_all is_yes (m ∷ ms) then retiring.Yes else retiring.NotYes

-- whether all rows that the word names may go (own)
abbrev pub retiring_of : (word : List ℕ) → KeyFile → Evidence → Retiring
retiring_of word keys e = all_told (retire_answers word keys e)

-- the status that tells it: 0 exactly where there are such rows, and all of them may go (own)
abbrev pub retire_status : Retiring → ℕ
retire_status retiring.Yes = 0
retire_status retiring.NotYes = 1
retire_status retiring.NoSuchRow = 2
