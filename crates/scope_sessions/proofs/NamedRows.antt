-- What rows and nodes give, one behind another.
use Rattle.std.proofs.Common.{◌≡◌, ℕ, suc, ◌+◌, ◌-◌, ◌<◌, List, ◌∷◌, ◌++◌, length, drop, get_or, sym, ap, subst, ◌∙◌, append_assoc, arith, add-one}
use Rattle.std.proofs.Math.Seq.{drop-cons}
use Rattle.std.specs.List.{flat_map}
use Rattle.book_keys.specs.Rows.{Row, Table}
use Rattle.book_sessions.specs.NamedKeys.{by_rows}

one_more : {A : Type 0} (line rest before after all : List A) → before ++ (line ++ rest) ≡ all → after ≡ before ++ line → after ++ rest ≡ all
one_more line rest before after all so_far more = ap (λ x. x ++ rest) more ∙ (append_assoc before line rest ∙ so_far)

-- one more row of a node
pub row_behind : {A : Type 0} (gives : ℕ → Row → List A) (i : ℕ) (rows : List Row) (r : Row) (before after all : List A) → i < length rows → r ≡ get_or rows i r
    → before ++ by_rows gives (i + 1) (drop i rows) ≡ all → after ≡ before ++ gives (i + 1) r → after ++ by_rows gives (i + 1 + 1) (drop (i + 1) rows) ≡ all
row_behind gives i rows r before after all low here so_far more =
    let cut : drop i rows ≡ r ∷ drop (i + 1) rows = rw (add-one i) (drop-cons rows i r low ∙ ap (λ x. x ∷ drop (suc i) rows) (sym here)) in
    let at_row : before ++ by_rows gives (i + 1) (r ∷ drop (i + 1) rows) ≡ all = rw cut at so_far in
    let last : i + 1 + 1 ≡ suc (i + 1) = add-one (i + 1) in
    rw last (one_more (gives (i + 1) r) (by_rows gives (suc (i + 1)) (drop (i + 1) rows)) before after all at_row more)

-- the rows of one more node
pub node_behind : {A : Type 0} (gives : Table → List A) (i : ℕ) (tables : List Table) (t : Table) (before after all : List A) → i < length tables → ((d : Table) → t ≡ get_or tables (i + 1 - 1) d)
    → before ++ flat_map gives (drop i tables) ≡ all → after ≡ before ++ gives t → after ++ flat_map gives (drop (i + 1) tables) ≡ all
node_behind gives i tables t before after all low here so_far more =
    let place : i + 1 - 1 ≡ i = omega arith in
    let at_place : t ≡ get_or tables i t = subst (λ (k : ℕ). t ≡ get_or tables k t) place (here t) in
    let cut : drop i tables ≡ t ∷ drop (i + 1) tables = rw (add-one i) (drop-cons tables i t low ∙ ap (λ x. x ∷ drop (suc i) tables) (sym at_place)) in
    one_more (gives t) (flat_map gives (drop (i + 1) tables)) before after all (rw cut at so_far) more
