-- The JSON has an entry for each session that is listed, and one for each row of a node.
use Rattle.std.proofs.Common.{◌≡◌, ℕ, zero, suc, ◌+◌, ◌||◌, Bool, true, false, not, List, [], ◌∷◌, ◌++◌, length, map, refl, ap, ◌∙◌, arith}
use Rattle.std.specs.Prelude.{cond}
use Rattle.book_sessions.specs.Foreign.{foreign_sessions, is_foreign, listed_sessions, numbers_where, own_sessions}
use Rattle.book_sessions.specs.Retiring.{Evidence}
use Rattle.book_sessions.specs.Sessions.{SessionTable}
use Rattle.book_keys.specs.Rows.{Row, Table}
use Rattle.book_scope_plan.specs.AdminNames.{KeyFile}
use Rattle.page_sessions_json.specs.SessionJson.{rows_json, session_json}

length_same : {A : Type 0} (f : ℕ → A) (ns : List ℕ) → length (map f ns) ≡ length ns
length_same f [] = refl
length_same f (n ∷ ns) = let others = length_same f ns in omega arith

one_more : (ns : List ℕ) (n : ℕ) → length (ns ++ n ∷ []) ≡ length ns + 1
one_more [] n = refl
one_more (x ∷ ns) n = let others = one_more ns n in omega arith

numbers_length : (n : ℕ) → length (numbers_where (λ n. true) n) ≡ n
numbers_length zero = refl
numbers_length (suc n) = let others = numbers_length n in let last = one_more (numbers_where (λ n. true) n) (suc n) in omega arith

pub sessions_length : (tables : List Table) (t : SessionTable) → length (map (session_json t.uses) (listed_sessions true tables t)) ≡ t.sessions
sessions_length tables t = length_same (session_json t.uses) (listed_sessions true tables t) ∙ numbers_length t.sessions

module _ (foreign : ℕ → Bool) where
  either : (b : Bool) (n : ℕ) (own others : List ℕ) → length own + length others ≡ n
      → length (cond (not b) (own ++ suc n ∷ []) own) + length (cond b (others ++ suc n ∷ []) others) ≡ suc n
  either true n own others so_far = let last = one_more others (suc n) in omega arith
  either false n own others so_far = let last = one_more own (suc n) in omega arith

  both_length : (n : ℕ) → length (numbers_where (λ k. not (foreign k)) n) + length (numbers_where foreign n) ≡ n
  both_length zero = refl
  both_length (suc n) = either (foreign (suc n)) n (numbers_where (λ k. not (foreign k)) n) (numbers_where foreign n) (both_length n)

pub foreign_length : (tables : List Table) (t : SessionTable) → length (own_sessions tables t) + length (foreign_sessions tables t) ≡ t.sessions
foreign_length tables t = both_length (is_foreign tables t.uses) t.sessions

pub rows_length : (keys : KeyFile) (e : Evidence) (t : Table) (n : ℕ) (rows : List Row) → length (rows_json keys e t n rows) ≡ length rows
rows_length keys e t n [] = refl
rows_length keys e t n (r ∷ rs) = let others = rows_length keys e t (suc n) rs in omega arith
