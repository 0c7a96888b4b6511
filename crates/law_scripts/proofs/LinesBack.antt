-- Printed lines are the lines of their text, numbered from the first.
use Rattle.std.proofs.Common.{◌≡◌, ℕ, ◌+◌, true, List, [], ◌∷◌, ◌++◌, length, map, refl, sym, ap, ◌∙◌, append_assoc}
use Rattle.std.proofs.lemmas.List.{append-nil, length-map}
use Rattle.book_base.specs.Lines.{lines_of}
use Rattle.book_base.proofs.LineLaws.{spaced, lines_of-line, words_of-spaced}
use Rattle.book_lines.specs.Lines.{Line, says_something, saying_from}
use Rattle.book_lines.specs.Texts.{line_text}
use Rattle.book_lines.specs.Texts as texts
use Rattle.law_scripts.specs.Printed.{lines_text}
use Rattle.law_scripts.proofs.PlainWords.{AreWords, all_words, no_newline}

-- a line that says something
abbrev pub IsLine : List (List ℕ) → Type 0
IsLine l = AreWords l × (says_something l ≡ true)

abbrev pub AreLines : List (List (List ℕ)) → Type 0
AreLines [] = Unit {0}
AreLines (l ∷ ls) = IsLine l × AreLines ls

pub AreLines-append : (ks ls : List (List (List ℕ))) → AreLines ks → AreLines ls → AreLines (ks ++ ls)
AreLines-append [] ls hk hl = hl
AreLines-append (k ∷ ks) ls hk hl = (hk.0, AreLines-append ks ls hk.1 hl)

-- a space in front of each further word is one between all
between : (w : List ℕ) (ws : List (List ℕ)) → spaced (w ∷ ws) ≡ w ++ texts.spaced ws
between w [] = sym (append-nil w)
between w (v ∷ ws) = ap (λ t. w ++ 32 ∷ t) (between v ws)

line_text-spaced : (l : List (List ℕ)) → line_text l ≡ spaced l ++ 10 ∷ []
line_text-spaced [] = refl
line_text-spaced (w ∷ ws) = sym (append_assoc w (texts.spaced ws) (10 ∷ [])) ∙ ap (λ t. t ++ 10 ∷ []) (sym (between w ws))

pub lines_of-printed : (ls : List (List (List ℕ))) → AreLines ls → lines_of (lines_text ls) ≡ map spaced ls
unfolding lines_text lines_of
lines_of-printed [] h = refl
lines_of-printed (l ∷ ls) h =
    ap lines_of (ap (λ t. t ++ lines_text ls) (line_text-spaced l) ∙ append_assoc (spaced l) (10 ∷ []) (lines_text ls))
    ∙ (lines_of-line (spaced l) (no_newline l h.0.0) (lines_text ls) ∙ ap (λ rest. spaced l ∷ rest) (lines_of-printed ls h.1))

-- lines with their numbers, from that of the first
abbrev pub numbered_from : ℕ → List (List (List ℕ)) → List Line
numbered_from n [] = []
numbered_from n (l ∷ ls) = record { number = n; words = l } ∷ numbered_from (n + 1) ls

pub saying_from-printed : (n : ℕ) (ls : List (List (List ℕ))) → AreLines ls → saying_from n (map spaced ls) ≡ numbered_from n ls
unfolding saying_from
saying_from-printed n [] h = refl
saying_from-printed n (l ∷ ls) h =
    rw (words_of-spaced l (all_words l h.0.0), h.0.1, saying_from-printed (n + 1) ls h.1) refl

pub length-lines_of-printed : (ls : List (List (List ℕ))) → AreLines ls → length (lines_of (lines_text ls)) ≡ length ls
length-lines_of-printed ls h = ap length (lines_of-printed ls h) ∙ length-map ls spaced
