-- The whole table in JSON, one part behind another.
use Rattle.std.proofs.Common.{◌≡◌, ℕ, Bool, List, [], ◌∷◌, ◌++◌, map, Result, Ok, Err, OnOk, sym, ap, ◌∙◌, append_assoc}
use Rattle.std.proofs.lemmas.List.{append-nil}
use Rattle.std.specs.Prelude.{codes}
use Rattle.book_scope_plan.specs.AdminNames.{KeyFile}
use Rattle.book_sessions.specs.Foreign.{foreign_sessions, listed_sessions}
use Rattle.book_sessions.specs.Retiring.{evidence_of}
use Rattle.book_sessions.specs.Sessions.{SessionTable}
use Rattle.book_sessions.specs.TableTexts.{has_amiss}
use Rattle.page_sessions_json.specs.Json.{json_array, json_bool, json_member, json_name, json_object}
use Rattle.page_sessions_json.specs.SessionJson.{foreign_json, keys_json, packets_json, session_json, sessions_json}

body : (p f s k a : List ℕ) → (((123 ∷ p) ++ (44 ∷ f ++ (44 ∷ s))) ++ (44 ∷ k)) ++ (44 ∷ a ++ 125 ∷ 10 ∷ []) ≡ json_object (p ∷ f ∷ s ∷ k ∷ a ∷ []) ++ 10 ∷ []
body p f s k a =
    let e : List ℕ = 125 ∷ 10 ∷ [] in
    let last : List ℕ = 44 ∷ (a ++ e) in
    let v : List ℕ = k ++ 44 ∷ (a ++ []) in
    let u : List ℕ = s ++ 44 ∷ v in
    let t : List ℕ = f ++ 44 ∷ u in
    let v_is : v ++ e ≡ k ++ last = append_assoc k (44 ∷ (a ++ [])) e ∙ ap (λ (z : List ℕ). k ++ 44 ∷ (z ++ e)) (append-nil a) in
    let u_is : u ++ e ≡ s ++ 44 ∷ (k ++ last) = append_assoc s (44 ∷ v) e ∙ ap (λ (z : List ℕ). s ++ 44 ∷ z) v_is in
    let t_is : t ++ e ≡ f ++ 44 ∷ (s ++ 44 ∷ (k ++ last)) = append_assoc f (44 ∷ u) e ∙ ap (λ (z : List ℕ). f ++ 44 ∷ z) u_is in
    let right : ((p ++ 44 ∷ t) ++ 125 ∷ []) ++ 10 ∷ [] ≡ p ++ 44 ∷ (f ++ 44 ∷ (s ++ 44 ∷ (k ++ last))) =
    append_assoc (p ++ 44 ∷ t) (125 ∷ []) (10 ∷ []) ∙ (append_assoc p (44 ∷ t) e ∙ ap (λ (z : List ℕ). p ++ 44 ∷ z) t_is) in
    let left : ((p ++ 44 ∷ (f ++ 44 ∷ s)) ++ 44 ∷ k) ++ last ≡ p ++ 44 ∷ (f ++ 44 ∷ (s ++ 44 ∷ (k ++ last))) =
    append_assoc (p ++ 44 ∷ (f ++ 44 ∷ s)) (44 ∷ k) last ∙ (append_assoc p (44 ∷ (f ++ 44 ∷ s)) (44 ∷ (k ++ last)) ∙ ap (λ (z : List ℕ). p ++ 44 ∷ z) (append_assoc f (44 ∷ s) (44 ∷ (k ++ last)))) in
    ap (λ (z : List ℕ). 123 ∷ z) (left ∙ sym right)

join : (out x one b two : List ℕ) → one ≡ out ++ x → two ≡ one ++ b → two ≡ out ++ (x ++ b)
join out x one b two p q = q ∙ (ap (λ (z : List ℕ). z ++ b) p ∙ append_assoc out x b)

whole : (out one two three four five n p f s k a : List ℕ) → one ≡ out ++ 123 ∷ n → two ≡ one ++ p → three ≡ two ++ (44 ∷ f ++ (44 ∷ s)) → four ≡ three ++ (44 ∷ k)
    → five ≡ four ++ (44 ∷ a ++ 125 ∷ 10 ∷ []) → five ≡ out ++ (json_object ((n ++ p) ∷ f ∷ s ∷ k ∷ a ∷ []) ++ 10 ∷ [])
whole out one two three four five n p f s k a is_one is_two is_three is_four is_five =
    let to_two : two ≡ out ++ 123 ∷ (n ++ p) = join out (123 ∷ n) one p two is_one is_two in
    let to_three : three ≡ out ++ ((123 ∷ (n ++ p)) ++ (44 ∷ f ++ (44 ∷ s))) = join out (123 ∷ (n ++ p)) two (44 ∷ f ++ (44 ∷ s)) three to_two is_three in
    let to_four : four ≡ out ++ (((123 ∷ (n ++ p)) ++ (44 ∷ f ++ (44 ∷ s))) ++ (44 ∷ k)) = join out ((123 ∷ (n ++ p)) ++ (44 ∷ f ++ (44 ∷ s))) three (44 ∷ k) four to_three is_four in
    join out (((123 ∷ (n ++ p)) ++ (44 ∷ f ++ (44 ∷ s))) ++ (44 ∷ k)) four (44 ∷ a ++ 125 ∷ 10 ∷ []) five to_four is_five ∙ ap (λ (z : List ℕ). out ++ z) (body (n ++ p) f s k a)

-- the whole table
pub table_done : {E : Type 0} (result : Result (Unit {0}) E) (all : Bool) (keys : KeyFile) (t : SessionTable) (foreign listed : List ℕ) (amiss : Bool) (out one two three four five : List ℕ)
    → foreign ≡ foreign_sessions keys.tables t → listed ≡ listed_sessions all keys.tables t → amiss ≡ has_amiss keys.tables t
    → one ≡ out ++ 123 ∷ json_name (codes "packets") → two ≡ one ++ packets_json t
    → three ≡ two ++ (44 ∷ json_member (codes "foreign") (foreign_json t.uses foreign) ++ (44 ∷ json_member (codes "sessions") (json_array (map (session_json t.uses) listed))))
    → four ≡ three ++ (44 ∷ json_member (codes "keys") (json_array (keys_json keys (evidence_of t))))
    → OnOk result (five ≡ four ++ (44 ∷ json_member (codes "amiss") (json_bool amiss) ++ 125 ∷ 10 ∷ [])) → OnOk result (five ≡ out ++ sessions_json all keys t)
unfolding sessions_json
table_done (Ok done) all keys t foreign listed amiss out one two three four five foreign_are listed_are amiss_is a b c d e =
    whole out one two three four five (json_name (codes "packets")) (packets_json t) (json_member (codes "foreign") (foreign_json t.uses (foreign_sessions keys.tables t)))
    (json_member (codes "sessions") (json_array (map (session_json t.uses) (listed_sessions all keys.tables t)))) (json_member (codes "keys") (json_array (keys_json keys (evidence_of t)))) (json_member (codes "amiss") (json_bool (has_amiss keys.tables t)))
    a b (rw (foreign_are, listed_are) at c) d (rw amiss_is at e)
table_done (Err why) all keys t foreign listed amiss out one two three four five foreign_are listed_are amiss_is a b c d e = tt
