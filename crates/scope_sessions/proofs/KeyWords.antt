-- The parts of a text, one behind another.
use Rattle.std.proofs.Common.{◌≡◌, ◌≢◌, ℕ, zero, suc, ◌+◌, ◌-◌, ◌<◌, List, [], ◌∷◌, ◌++◌, length, drop, get_or, Option, Some, None, Bool, Result, Ok, Err, OnOk, refl, sym, ap, subst, ◌∙◌, append_assoc, arith, add-one}
use Rattle.std.proofs.Math.Seq.{drop-cons}
use Rattle.std.proofs.lemmas.List.{append-nil}
use Rattle.std.specs.List.{find, flat_map}
use Rattle.std.specs.Prelude.{codes, decimal}
use Rattle.book_keys.specs.Rows.{Row, Table}
use Rattle.book_lines.specs.Texts.{line_text, spaced}
use Rattle.book_scope_plan.specs.AdminNames.{KeyFile}
use Rattle.book_sessions.specs.declared.uses.KeyUse.{KeyUse}
use Rattle.book_sessions.specs.Counts.{all_counted, all_passed}
use Rattle.book_sessions.specs.declared.retiring.MayGo.{MayGo}
use Rattle.book_sessions.specs.KeyLines.{asking_texts, asks_still, key_line, key_lines, keys_lines, last_of, last_texts, obstacle_lines, seen_peers_text}
use Rattle.book_sessions.specs.Peers.{peers_told}
use Rattle.book_sessions.specs.Retiring.{Evidence, carries_row, evidence_of, may_go}
use Rattle.scope_sessions.specs.KeyRows.{found_line}
use Rattle.book_sessions.specs.Sessions.{SessionTable}
use Rattle.book_sessions.specs.Foreign.{foreign_sessions, listed_sessions, own_sessions}
use Rattle.book_sessions.specs.SessionTexts.{capture_line, lines_of_session, passed_line, unset_line}
use Rattle.book_sessions.specs.TableTexts.{foreign_lines, sessions_text}

spaced_more : (xs ys : List (List ℕ)) → spaced (xs ++ ys) ≡ spaced xs ++ spaced ys
spaced_more [] ys = refl
spaced_more (w ∷ ws) ys = ap (λ (x : List ℕ). 32 ∷ (w ++ x)) (spaced_more ws ys) ∙ ap (λ (x : List ℕ). 32 ∷ x) (sym (append_assoc w (spaced ws) (spaced ys)))

last_first : (last : Option KeyUse) (others : List (List ℕ)) → last_texts last others ≡ last_texts last [] ++ others
last_first None others = refl
last_first (Some u) others = refl

asking_first : (asking : Option KeyUse) (others : List (List ℕ)) → asking_texts asking others ≡ asking_texts asking [] ++ others
asking_first None others = refl
asking_first (Some u) others = refl

words_are : (last asking : Option KeyUse) (may : List ℕ) (peers : List (List ℕ)) → spaced (last_texts last (asking_texts asking (may ∷ peers))) ≡ spaced (last_texts last []) ++ (spaced (asking_texts asking []) ++ 32 ∷ (may ++ spaced peers))
words_are last asking may peers =
    ap spaced (last_first last (asking_texts asking (may ∷ peers))) ∙ (spaced_more (last_texts last []) (asking_texts asking (may ∷ peers))
    ∙ ap (λ (x : List ℕ). spaced (last_texts last []) ++ x) (ap spaced (asking_first asking (may ∷ peers)) ∙ spaced_more (asking_texts asking []) (may ∷ peers)))

-- who used a key last, who asks for it, whether it may go, and of whom that is known
pub state_line : (out one two three four five : List ℕ) (last asking : Option KeyUse) (may : List ℕ) (peers : List (List ℕ)) → one ≡ out ++ spaced (last_texts last []) → two ≡ one ++ spaced (asking_texts asking []) → three ≡ two ++ 32 ∷ may
    → four ≡ three ++ spaced peers → five ≡ four ++ 10 ∷ [] → five ≡ out ++ (spaced (last_texts last (asking_texts asking (may ∷ peers))) ++ 10 ∷ [])
state_line out one two three four five last asking may peers a b c d e =
    let l = spaced (last_texts last []) in
    let k = spaced (asking_texts asking []) in
    let m : List ℕ = 32 ∷ may in
    let p = spaced peers in
    let two_is : two ≡ out ++ (l ++ k) = b ∙ (ap (λ (x : List ℕ). x ++ k) a ∙ append_assoc out l k) in
    let three_is : three ≡ out ++ ((l ++ k) ++ m) = c ∙ (ap (λ (x : List ℕ). x ++ m) two_is ∙ append_assoc out (l ++ k) m) in
    let four_is : four ≡ out ++ (((l ++ k) ++ m) ++ p) = d ∙ (ap (λ (x : List ℕ). x ++ p) three_is ∙ append_assoc out ((l ++ k) ++ m) p) in
    let words : ((l ++ k) ++ m) ++ p ≡ spaced (last_texts last (asking_texts asking (may ∷ peers))) =
    append_assoc (l ++ k) m p ∙ (append_assoc l k (m ++ p) ∙ sym (words_are last asking may peers)) in
    e ∙ (ap (λ (x : List ℕ). x ++ 10 ∷ []) (four_is ∙ ap (λ (x : List ℕ). out ++ x) words) ∙ append_assoc out (spaced (last_texts last (asking_texts asking (may ∷ peers)))) (10 ∷ []))

goes_on : (keys : KeyFile) (e : Evidence) (tables rest : List Table) (t : Table) (before after all : List ℕ) → tables ≡ t ∷ rest → before ++ flat_map (λ t. key_lines keys e t 1 t.rows) tables ≡ all
    → after ≡ before ++ key_lines keys e t 1 t.rows → after ++ flat_map (λ t. key_lines keys e t 1 t.rows) rest ≡ all
goes_on keys e tables rest t before after all cut so_far more =
    rw more (append_assoc before (key_lines keys e t 1 t.rows) (flat_map (λ t. key_lines keys e t 1 t.rows) rest) ∙ (rw cut at so_far))

-- the rows of one more node
pub one_more_node : (keys : KeyFile) (e : Evidence) (i : ℕ) (tables : List Table) (t : Table) (before after all : List ℕ) → i < length tables → ((d : Table) → t ≡ get_or tables (i + 1 - 1) d)
    → before ++ flat_map (λ t. key_lines keys e t 1 t.rows) (drop i tables) ≡ all → after ≡ before ++ key_lines keys e t 1 t.rows → after ++ flat_map (λ t. key_lines keys e t 1 t.rows) (drop (i + 1) tables) ≡ all
one_more_node keys e i tables t before after all low here so_far more =
    let place : i + 1 - 1 ≡ i = omega arith in
    let at_place : t ≡ get_or tables i t = subst (λ (k : ℕ). t ≡ get_or tables k t) place (here t) in
    let cut : drop i tables ≡ t ∷ drop (i + 1) tables = rw (add-one i) (drop-cons tables i t low ∙ ap (λ x. x ∷ drop (suc i) tables) (sym at_place)) in
    goes_on keys e (drop i tables) (drop (i + 1) tables) t before after all cut so_far more

one_more : (line rest before after all : List ℕ) → before ++ (line ++ rest) ≡ all → after ≡ before ++ line → after ++ rest ≡ all
one_more line rest before after all so_far more = ap (λ (x : List ℕ). x ++ rest) more ∙ (append_assoc before line rest ∙ so_far)

-- one more row of a node
pub one_more_row : (keys : KeyFile) (e : Evidence) (t : Table) (i : ℕ) (rows : List Row) (r : Row) (before after all : List ℕ) → i < length rows → r ≡ get_or rows i r
    → before ++ key_lines keys e t (i + 1) (drop i rows) ≡ all → after ≡ before ++ key_line keys e t (i + 1) r → after ++ key_lines keys e t (i + 1 + 1) (drop (i + 1) rows) ≡ all
one_more_row keys e t i rows r before after all low here so_far more =
    let cut : drop i rows ≡ r ∷ drop (i + 1) rows = rw (add-one i) (drop-cons rows i r low ∙ ap (λ x. x ∷ drop (suc i) rows) (sym here)) in
    let at_row : before ++ key_lines keys e t (i + 1) (r ∷ drop (i + 1) rows) ≡ all = rw cut at so_far in
    let last : i + 1 + 1 ≡ suc (i + 1) = add-one (i + 1) in
    rw last (one_more (key_line keys e t (i + 1) r) (key_lines keys e t (suc (i + 1)) (drop (i + 1) rows)) before after all at_row more)

-- a line whose parts were put one behind another
pub on_line : {E : Type 0} (result : Result (Unit {0}) E) (out a b one two new : List ℕ) → one ≡ out ++ a → two ≡ one ++ b → OnOk result (new ≡ two ++ 10 ∷ [])
    → OnOk result (new ≡ out ++ (a ++ ((b ++ []) ++ 10 ∷ [])))
on_line (Ok done) out a b one two new p q r =
    rw (append-nil b) (r ∙ (ap (λ (x : List ℕ). x ++ 10 ∷ []) (q ∙ ap (λ (x : List ℕ). x ++ b) p) ∙ (append_assoc (out ++ a) b (10 ∷ []) ∙ append_assoc out a (b ++ 10 ∷ []))))
on_line (Err why) out a b one two new p q r = tt

-- the line of segments without a header checksum, where there are some
pub unset_told : (n : ℕ) → n ≢ 0 → unset_line n ≡ line_text (codes "ip-checksum" ∷ decimal n ∷ [])
unset_told zero some = absurd (some refl)
unset_told (suc n) some = refl

-- the whole text, one part behind another
pub whole_text : (all : Bool) (keys : KeyFile) (t : SessionTable) (listed own foreign out one two mid three four : List ℕ) (segments others : ℕ) → segments ≡ all_counted t.uses → others ≡ all_passed t.passed
    → listed ≡ listed_sessions all keys.tables t → own ≡ own_sessions keys.tables t → foreign ≡ foreign_sessions keys.tables t → one ≡ out ++ capture_line segments others t.uses
    → two ≡ one ++ flat_map passed_line t.passed → mid ≡ two ++ unset_line t.unset → three ≡ mid ++ (foreign_lines t.uses foreign own ++ flat_map (lines_of_session t.uses) listed) → four ≡ three ++ keys_lines keys (evidence_of t)
    → four ≡ out ++ sessions_text all keys t
unfolding sessions_text
whole_text all keys t listed own foreign out one two mid three four segments others m n listed_are own_are foreign_are a b c d e =
    let l = capture_line (all_counted t.uses) (all_passed t.passed) t.uses in
    let p = flat_map passed_line t.passed in
    let u = unset_line t.unset in
    let f = foreign_lines t.uses (foreign_sessions keys.tables t) (own_sessions keys.tables t) in
    let s = flat_map (lines_of_session t.uses) (listed_sessions all keys.tables t) in
    let k = keys_lines keys (evidence_of t) in
    let first : one ≡ out ++ l = rw (m, n) at a in
    let told : three ≡ mid ++ (f ++ s) = rw (listed_are, own_are, foreign_are) at d in
    let second : two ≡ out ++ (l ++ p) = b ∙ (ap (λ (x : List ℕ). x ++ p) first ∙ append_assoc out l p) in
    let between : mid ≡ out ++ (l ++ (p ++ u)) = c ∙ (ap (λ (x : List ℕ). x ++ u) second ∙ (append_assoc out (l ++ p) u ∙ ap (λ (x : List ℕ). out ++ x) (append_assoc l p u))) in
    let third : three ≡ out ++ (l ++ (p ++ (u ++ (f ++ s)))) =
    told ∙ (ap (λ (x : List ℕ). x ++ (f ++ s)) between ∙ (append_assoc out (l ++ (p ++ u)) (f ++ s) ∙ ap (λ (x : List ℕ). out ++ x) (append_assoc l (p ++ u) (f ++ s) ∙ ap (λ (x : List ℕ). l ++ x) (append_assoc p u (f ++ s))))) in
    e
    ∙ (ap (λ (x : List ℕ). x ++ k) third
    ∙ (append_assoc out (l ++ (p ++ (u ++ (f ++ s)))) k
    ∙ ap (λ (x : List ℕ). out ++ x)
    (append_assoc l (p ++ (u ++ (f ++ s))) k ∙ ap (λ (x : List ℕ). l ++ x) (append_assoc p (u ++ (f ++ s)) k
    ∙ ap (λ (x : List ℕ). p ++ x) (append_assoc u (f ++ s) k ∙ ap (λ (x : List ℕ). u ++ x) (append_assoc f s k))))))

-- the line of a row, by what was found of it, and what stands in the way behind it
pub key_found : {E : Type 0} (result : Result (Unit {0}) E) (keys : KeyFile) (e : Evidence) (t : Table) (n : ℕ) (r : Row) (last asking : Option KeyUse) (may : MayGo) (peers : Option ℕ) (out mid new : List ℕ)
    → last ≡ last_of (carries_row t n r) e.uses → asking ≡ find (asks_still e t n r) e.live → may ≡ may_go e keys.tables t n r → peers ≡ peers_told e t r → mid ≡ out ++ found_line keys.document t n r last asking may peers
    → OnOk result (new ≡ mid ++ obstacle_lines e keys.tables t n r) → OnOk result (new ≡ out ++ key_line keys e t n r)
key_found (Ok done) keys e t n r last asking may peers out mid new a b c d f h =
    h ∙ (ap (λ (x : List ℕ). x ++ obstacle_lines e keys.tables t n r) f ∙ (append_assoc out (found_line keys.document t n r last asking may peers) (obstacle_lines e keys.tables t n r) ∙ rw (a, b, c, d) refl))
key_found (Err x) keys e t n r last asking may peers out mid new a b c d f h = tt
