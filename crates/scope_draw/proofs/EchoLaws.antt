-- The first line of a text by its newline, and one step of a walk over the events of a report.
use Rattle.std.proofs.Common.{◌≡◌, ℕ, suc, ◌+◌, ◌≤◌, Bool, true, false, not, cond, min, Option, unwrap_or, Result, Ok, Err, if◌then◌else◌, List, [], ◌∷◌, ◌++◌, length, take, drop, refl, sym, ap, ◌∙◌, arith, append_assoc}
use Rattle.std.proofs.lemmas.List.{append-nil, drop_all, take_min}
use Rattle.std.specs.Prelude.{OnOk, is_ok}
use Rattle.std.specs.List.{position_or_len}
use Rattle.memchr.specs.Find.{IsFirstByte}
use Rattle.book_base.specs.Lines.{is_newline}
use Rattle.book_base.proofs.LineLaws.{one_more}
use Rattle.ao_base.proofs.CutLaws.{first_or_length}
use Rattle.book_scope_run.specs.Echoes.{behind_line, clock_echo, echoes_from, echoes_text, event_echo, first_line}
use Rattle.book_link.specs.declared.event.Event.{Event}

first_case : (b : Bool) (x n : ℕ) (xs first : List ℕ) → take (suc n) xs ≡ first → take (suc (cond (not b) (1 + n) 0)) (x ∷ xs) ≡ cond b (x ∷ []) (x ∷ first)
first_case true x n xs first h = refl
first_case false x n xs first h = rw one_more (ap (λ ys. x ∷ ys) h)

-- the bytes up to the first newline and that
first_is : (text : List ℕ) → take (suc (position_or_len is_newline text)) text ≡ first_line text
unfolding first_line
first_is [] = refl
first_is (x ∷ xs) = first_case (is_newline x) x (position_or_len is_newline xs) xs (first_line xs) (first_is xs)

behind_case : (b : Bool) (x n : ℕ) (xs behind : List ℕ) → drop (suc n) xs ≡ behind → drop (suc (cond (not b) (1 + n) 0)) (x ∷ xs) ≡ cond b xs behind
behind_case true x n xs behind h = refl
behind_case false x n xs behind h = rw one_more h

-- the bytes behind it
behind_is : (text : List ℕ) → drop (suc (position_or_len is_newline text)) text ≡ behind_line text
unfolding behind_line
behind_is [] = refl
behind_is (x ∷ xs) = behind_case (is_newline x) x (position_or_len is_newline xs) xs (behind_line xs) (behind_is xs)

-- what a search for the first newline gives
pub first_found : (text : List ℕ) (found : Option ℕ) (n end : ℕ) → IsFirstByte is_newline text found → n ≡ unwrap_or found (length text) → end ≡ min (n + 1) (length text) → take end text ≡ first_line text
first_found text found n end first n_is end_is =
    let place : n ≡ position_or_len is_newline text = n_is ∙ first_or_length is_newline text found first in
    let one : n + 1 ≡ suc (position_or_len is_newline text) = omega (arith, place) in
    ap (λ k. take k text) end_is ∙ (take_min (n + 1) text ∙ (ap (λ k. take k text) one ∙ first_is text))

pub behind_found : (text : List ℕ) (found : Option ℕ) (n end : ℕ) → IsFirstByte is_newline text found → n ≡ unwrap_or found (length text) → drop end text ≡ drop (n + 1) text → drop end text ≡ behind_line text
behind_found text found n end first n_is same =
    let place : n ≡ position_or_len is_newline text = n_is ∙ first_or_length is_newline text found first in
    let one : n + 1 ≡ suc (position_or_len is_newline text) = omega (arith, place) in
    same ∙ (ap (λ k. drop k text) one ∙ behind_is text)

-- one event more
pub one_event : (before after whole report : List ℕ) (n : ℕ) (line : List ℕ) (old lines : List (List ℕ)) (e : Event) (here events : List Event) → old ≡ line ∷ lines → here ≡ e ∷ events →
    after ≡ before ++ (event_echo n line ++ (first_line report ++ clock_echo e)) →
    before ++ echoes_text (echoes_from n old here report) ≡ whole → after ++ echoes_text (echoes_from (n + 1) lines events (behind_line report)) ≡ whole
unfolding echoes_from
one_event before after whole report n line old lines e here events old_is here_is after_is so_far =
    let E : List ℕ = event_echo n line in
    let F : List ℕ = first_line report in
    let C : List ℕ = clock_echo e in
    let rest : List ℕ = echoes_text (echoes_from (n + 1) lines events (behind_line report)) in
    let all : before ++ ((E ++ F) ++ ((C ++ []) ++ rest)) ≡ whole = rw (old_is, here_is) at so_far in
    let one : (E ++ (F ++ C)) ++ rest ≡ (E ++ F) ++ ((C ++ []) ++ rest) =
    ap (λ (xs : List ℕ). xs ++ rest) (sym (append_assoc E F C)) ∙ (append_assoc (E ++ F) C rest ∙ ap (λ (xs : List ℕ). (E ++ F) ++ (xs ++ rest)) (sym (append-nil C))) in
    rw after_is (append_assoc before (E ++ (F ++ C)) rest ∙ (ap (λ (xs : List ℕ). before ++ xs) one ∙ all))

nothing_echoed : (before report : List ℕ) → before ++ report ≡ before ++ (([] ++ report) ++ [])
nothing_echoed before report = ap (λ xs. before ++ xs) (sym (append-nil report))

-- no line is left
pub no_lines : (before whole report : List ℕ) (n : ℕ) (lines : List (List ℕ)) (events : List Event) → lines ≡ [] → before ++ echoes_text (echoes_from n lines events report) ≡ whole → before ++ report ≡ whole
unfolding echoes_from
no_lines before whole report n lines events none so_far = nothing_echoed before report ∙ (rw none at so_far)

no_events_of : (before report : List ℕ) (n : ℕ) (lines : List (List ℕ)) → before ++ report ≡ before ++ echoes_text (echoes_from n lines [] report)
unfolding echoes_from
no_events_of before report n [] = nothing_echoed before report
no_events_of before report n (l ∷ ls) = nothing_echoed before report

-- no event is left
pub no_events : (before whole report : List ℕ) (n i : ℕ) (lines : List (List ℕ)) (events : List Event) → length events ≤ i → before ++ echoes_text (echoes_from n lines (drop i events) report) ≡ whole → before ++ report ≡ whole
no_events before whole report n i lines events all so_far = let none : drop i events ≡ [] = drop_all i events all in no_events_of before report n lines ∙ (rw none at so_far)

-- the rest of a report that was put behind others, unless memory ran out
pub rest_told : {A B : Type 0} (r : Result A B) (before after told report whole : List ℕ) → after ≡ (if is_ok r then before ++ told else before) → told ≡ report → before ++ report ≡ whole → OnOk r (after ≡ whole)
rest_told (Ok u) before after told report whole is same all = is ∙ (ap (λ xs. before ++ xs) same ∙ all)
rest_told (Err e) before after told report whole is same all = tt
