-- Lines printed one after another.
use Rattle.std.proofs.Common.{◌≡◌, ℕ, ◌+◌, ◌<◌, List, [], ◌∷◌, ◌++◌, length, map, take, get_or, refl, sym, ap, ◌∙◌, append_assoc}
use Rattle.std.proofs.lemmas.List.{take_more, map_push, append-nil}
use Rattle.book_link.specs.declared.event.Event.{Event}
use Rattle.book_cmd_link.specs.declared.script.Script.{Script}
use Rattle.book_lines.specs.Texts.{line_text}
use Rattle.law_scripts.specs.Printed.{event_words, lines_text, script_lines, title_words, socket_words, key_lines, text_of}
use Rattle.std.specs.Prelude.{codes}

pub lines_text-append : (xs ys : List (List (List ℕ))) → lines_text (xs ++ ys) ≡ lines_text xs ++ lines_text ys
unfolding lines_text
lines_text-append [] ys = refl
lines_text-append (x ∷ xs) ys = rw (lines_text-append xs ys) (sym (append_assoc (line_text x) (lines_text xs) (lines_text ys)))

pub one_line : (l : List (List ℕ)) → lines_text (l ∷ []) ≡ line_text l
unfolding lines_text
one_line l = append-nil (line_text l)

pub none_printed : (out : List ℕ) → out ≡ out ++ lines_text (map event_words [])
unfolding lines_text
none_printed out = sym (append-nil out)

-- one more event
pub one_more_printed : (out before after : List ℕ) (es : List Event) (i : ℕ) (e : Event) → i < length es → e ≡ get_or es i e →
    before ≡ out ++ lines_text (map event_words (take i es)) → after ≡ before ++ line_text (event_words e) →
    after ≡ out ++ lines_text (map event_words (take (i + 1) es))
one_more_printed out before after es i e within is so_far more =
    let taken : take (i + 1) es ≡ take i es ++ e ∷ [] = take_more es i e within ∙ ap (λ x. take i es ++ x ∷ []) (sym is) in
    let text : lines_text (map event_words (take (i + 1) es)) ≡ lines_text (map event_words (take i es)) ++ line_text (event_words e) =
    rw taken (rw (map_push event_words (take i es) e)
    (rw (lines_text-append (map event_words (take i es)) (event_words e ∷ []), one_line (event_words e)) refl)) in
    rw (text, more, so_far) (append_assoc out (lines_text (map event_words (take i es))) (line_text (event_words e)))

-- the whole text, from its parts in order
pub whole_printed : (s : Script) (t a b k e : List ℕ) → t ≡ [] ++ line_text title_words → a ≡ t ++ line_text (socket_words (codes "a") s.a) →
    b ≡ a ++ line_text (socket_words (codes "b") s.b) → k ≡ b ++ lines_text (key_lines s.shared) → e ≡ k ++ lines_text (map event_words s.events) →
    e ≡ text_of s
unfolding text_of script_lines lines_text
whole_printed s t a b k e ht ha hb hk he =
    rw (he, hk, hb, ha, ht) (simp (lines_text-append, append_assoc))
