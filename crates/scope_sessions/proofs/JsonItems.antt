-- Values of JSON, one part behind another.
use Rattle.std.proofs.Common.{◌≡◌, ℕ, zero, suc, ◌+◌, ◌-◌, ◌<◌, ◌==◌, ◌&&◌, Bool, true, false, List, [], ◌∷◌, ◌++◌, length, drop, get_or, map, Option, refl, sym, ap, subst, ◌∙◌, append_assoc, arith, add-one}
use Rattle.std.proofs.Math.Seq.{drop-cons}
use Rattle.std.proofs.lemmas.List.{append-nil, map-append}
use Rattle.std.proofs.lemmas.Bool.Decides.{nat_tests}
use Rattle.std.specs.List.{find, flat_map}
use Rattle.std.specs.Prelude.{codes, decimal}
use Rattle.book_keys.specs.Rows.{Row, Table}
use Rattle.book_scope_plan.specs.AdminNames.{KeyFile}
use Rattle.book_sessions.specs.declared.uses.KeyUse.{KeyUse}
use Rattle.book_sessions.specs.declared.retiring.MayGo.{MayGo}
use Rattle.book_sessions.specs.Counts.{all_counted, all_passed}
use Rattle.book_sessions.specs.KeyLines.{asks_still, last_of}
use Rattle.book_sessions.specs.Peers.{peers_told}
use Rattle.book_sessions.specs.Retiring.{Evidence, carries_row, may_go}
use Rattle.book_sessions.specs.Sessions.{SessionTable}
use Rattle.page_sessions_json.specs.Json.{json_array, json_comma, json_items, json_member, json_object}
use Rattle.page_sessions_json.specs.SessionJson.{first_json, key_json, last_json, may_go_json, packets_json, passed_json, rows_json, use_json}
use Rattle.scope_sessions.specs.JsonParts.{asked_members, id_members, node_members, sender_members, span_members, told_members}

abbrev none : {A : Type 0} → List A → Bool
none [] = true
none (x ∷ xs) = false

value_first : (comma x : List ℕ) (xs ys : List (List ℕ)) → json_items false (xs ++ ys) ≡ json_items false xs ++ json_items false ys
    → comma ++ (x ++ json_items false (xs ++ ys)) ≡ (comma ++ (x ++ json_items false xs)) ++ json_items false ys
value_first comma x xs ys others =
    ap (λ (z : List ℕ). comma ++ (x ++ z)) others ∙ (ap (λ (z : List ℕ). comma ++ z) (sym (append_assoc x (json_items false xs) (json_items false ys)))
    ∙ sym (append_assoc comma (x ++ json_items false xs) (json_items false ys)))

-- values behind others
items_more : (b : Bool) (xs ys : List (List ℕ)) → json_items b (xs ++ ys) ≡ json_items b xs ++ json_items (b && none xs) ys
items_more true [] ys = refl
items_more false [] ys = refl
items_more true (x ∷ xs) ys = value_first [] x xs ys (items_more false xs ys)
items_more false (x ∷ xs) ys = value_first (44 ∷ []) x xs ys (items_more false xs ys)

after_some : (xs ys : List (List ℕ)) → none xs ≡ false → json_items true (xs ++ ys) ≡ json_items true xs ++ json_items false ys
after_some xs ys some = items_more true xs ys ∙ ap (λ (b : Bool). json_items true xs ++ json_items b ys) some

-- members behind the first ones
members_behind : (out one two : List ℕ) (xs ys : List (List ℕ)) → none xs ≡ false → one ≡ out ++ 123 ∷ json_items true xs → two ≡ one ++ json_items false ys
    → two ≡ out ++ 123 ∷ json_items true (xs ++ ys)
members_behind out one two xs ys some a b =
    b ∙ (ap (λ (z : List ℕ). z ++ json_items false ys) a ∙ (append_assoc out (123 ∷ json_items true xs) (json_items false ys)
    ∙ ap (λ (z : List ℕ). out ++ 123 ∷ z) (sym (after_some xs ys some))))

-- the last members, and the brace behind them
object_done : (out one two : List ℕ) (xs ys : List (List ℕ)) → none xs ≡ false → one ≡ out ++ 123 ∷ json_items true xs → two ≡ one ++ (json_items false ys ++ 125 ∷ [])
    → two ≡ out ++ json_object (xs ++ ys)
object_done out one two xs ys some a b =
    let first = json_items true xs in
    let last = json_items false ys in
    b ∙ (ap (λ (z : List ℕ). z ++ (last ++ 125 ∷ [])) a ∙ (append_assoc out (123 ∷ first) (last ++ 125 ∷ [])
    ∙ ap (λ (z : List ℕ). out ++ 123 ∷ z) (sym (append_assoc first last (125 ∷ [])) ∙ ap (λ (z : List ℕ). z ++ 125 ∷ []) (sym (after_some xs ys some)))))

some_more : (xs ys : List (List ℕ)) → none xs ≡ false → none (xs ++ ys) ≡ false
some_more [] ys some = absurd (cc)
some_more (x ∷ xs) ys some = refl

object_of_three : (out one two three : List ℕ) (xs ys zs : List (List ℕ)) → none xs ≡ false → one ≡ out ++ 123 ∷ json_items true xs → two ≡ one ++ json_items false ys
    → three ≡ two ++ (json_items false zs ++ 125 ∷ []) → three ≡ out ++ json_object ((xs ++ ys) ++ zs)
object_of_three out one two three xs ys zs some a b c = object_done out two three (xs ++ ys) zs (some_more xs ys some) (members_behind out one two xs ys some a b) c

-- six members, in three parts, and the brace behind them
object_of_six : (out one two three four s f l o r u : List ℕ) → one ≡ out ++ (123 ∷ s ++ (44 ∷ f ++ (44 ∷ l))) → two ≡ one ++ (44 ∷ o ++ (44 ∷ r)) → three ≡ two ++ (44 ∷ u) → four ≡ three ++ 125 ∷ []
    → four ≡ out ++ json_object (s ∷ f ∷ l ∷ o ∷ r ∷ u ∷ [])
object_of_six out one two three four s f l o r u a b c d =
    let first : one ≡ out ++ 123 ∷ json_items true (s ∷ f ∷ l ∷ []) = rw (append-nil l) a in
    let middle : two ≡ one ++ json_items false (o ∷ r ∷ []) = rw (append-nil r) b in
    let last : four ≡ two ++ (json_items false (u ∷ []) ++ 125 ∷ []) = rw (append-nil u) (d ∙ (ap (λ (z : List ℕ). z ++ 125 ∷ []) c ∙ append_assoc two (44 ∷ u) (125 ∷ []))) in
    object_of_three out one two four (s ∷ f ∷ l ∷ []) (o ∷ r ∷ []) (u ∷ []) refl first middle last

-- the packets of a capture
pub packets_done : (t : SessionTable) (out one two three four : List ℕ) (segments others : ℕ) → segments ≡ all_counted t.uses → others ≡ all_passed t.passed
    → one ≡ out ++ (123 ∷ json_member (codes "segments") (decimal segments) ++ (44 ∷ json_member (codes "first") (first_json t.uses) ++ (44 ∷ json_member (codes "last") (last_json t.uses))))
    → two ≡ one ++ (44 ∷ json_member (codes "other") (decimal others) ++ (44 ∷ json_member (codes "reasons") (json_array (map passed_json t.passed))))
    → three ≡ two ++ (44 ∷ json_member (codes "ip_checksum") (decimal t.unset)) → four ≡ three ++ 125 ∷ [] → four ≡ out ++ packets_json t
unfolding packets_json
packets_done t out one two three four segments others m n a b c d =
    object_of_six out one two three four (json_member (codes "segments") (decimal (all_counted t.uses))) (json_member (codes "first") (first_json t.uses)) (json_member (codes "last") (last_json t.uses))
    (json_member (codes "other") (decimal (all_passed t.passed))) (json_member (codes "reasons") (json_array (map passed_json t.passed))) (json_member (codes "ip_checksum") (decimal t.unset)) (rw m at a) (rw n at b) c d

-- segments, in three parts
pub use_done : (heading u : KeyUse) (out one two three : List ℕ) → one ≡ out ++ 123 ∷ json_items true (sender_members heading u) → two ≡ one ++ json_items false (span_members u)
    → three ≡ two ++ (json_items false (asked_members u) ++ 125 ∷ []) → three ≡ out ++ use_json heading u
unfolding use_json
use_done heading u out one two three a b c = object_of_three out one two three (sender_members heading u) (span_members u) (asked_members u) refl a b c

key_by : (keys : KeyFile) (e : Evidence) (t : Table) (n : ℕ) (r : Row) (out one two three : List ℕ) → one ≡ out ++ 123 ∷ json_items true (node_members keys.document t n) → two ≡ one ++ json_items false (id_members r)
    → three ≡ two ++ (json_items false (told_members (last_of (carries_row t n r) e.uses) (find (asks_still e t n r) e.live) (may_go_json (may_go e keys.tables t n r)) (peers_told e t r)) ++ 125 ∷ [])
    → three ≡ out ++ key_json keys e t n r
unfolding key_json
key_by keys e t n r out one two three a b c = object_of_three out one two three (node_members keys.document t n) (id_members r) (told_members (last_of (carries_row t n r) e.uses) (find (asks_still e t n r) e.live) (may_go_json (may_go e keys.tables t n r)) (peers_told e t r)) refl a b c

-- a row, in three parts
pub key_done : (keys : KeyFile) (e : Evidence) (t : Table) (n : ℕ) (r : Row) (last asking : Option KeyUse) (told : MayGo) (may : List ℕ) (peers : Option ℕ) (out one two three : List ℕ) → last ≡ last_of (carries_row t n r) e.uses → asking ≡ find (asks_still e t n r) e.live
    → told ≡ may_go e keys.tables t n r → may ≡ may_go_json told → peers ≡ peers_told e t r → one ≡ out ++ 123 ∷ json_items true (node_members keys.document t n) → two ≡ one ++ json_items false (id_members r)
    → three ≡ two ++ (json_items false (told_members last asking may peers) ++ 125 ∷ []) → three ≡ out ++ key_json keys e t n r
key_done keys e t n r last asking told may peers out one two three last_is asking_is told_is may_is peers_is a b c =
    key_by keys e t n r out one two three a b (rw (may_is, last_is, asking_is, told_is, peers_is) at c)

-- the rows of one node more
keys_first : (keys : KeyFile) (e : Evidence) (tables rest : List Table) (t : Table) (before after all : List ℕ) (first still : Bool) → tables ≡ t ∷ rest → before ++ json_items first (flat_map (λ t. rows_json keys e t 1 t.rows) tables) ≡ all
    → ((others : List (List ℕ)) → after ++ json_items still others ≡ before ++ json_items first (rows_json keys e t 1 t.rows ++ others)) → after ++ json_items still (flat_map (λ t. rows_json keys e t 1 t.rows) rest) ≡ all
keys_first keys e tables rest t before after all first still cut so_far more = more (flat_map (λ t. rows_json keys e t 1 t.rows) rest) ∙ (rw cut at so_far)

pub keys_more : (keys : KeyFile) (e : Evidence) (i : ℕ) (tables : List Table) (t : Table) (before after all : List ℕ) (first still : Bool) → i < length tables → ((d : Table) → t ≡ get_or tables (i + 1 - 1) d)
    → before ++ json_items first (flat_map (λ t. rows_json keys e t 1 t.rows) (drop i tables)) ≡ all
    → ((others : List (List ℕ)) → after ++ json_items still others ≡ before ++ json_items first (rows_json keys e t 1 t.rows ++ others)) → after ++ json_items still (flat_map (λ t. rows_json keys e t 1 t.rows) (drop (i + 1) tables)) ≡ all
keys_more keys e i tables t before after all first still low here so_far more =
    let place : i + 1 - 1 ≡ i = omega arith in
    let at_place : t ≡ get_or tables i t = subst (λ (k : ℕ). t ≡ get_or tables k t) place (here t) in
    let cut : drop i tables ≡ t ∷ drop (i + 1) tables = rw (add-one i) (drop-cons tables i t low ∙ ap (λ x. x ∷ drop (suc i) tables) (sym at_place)) in
    keys_first keys e (drop i tables) (drop (i + 1) tables) t before after all first still cut so_far more
