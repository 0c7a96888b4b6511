-- The words from a place on, as the loop over them reads them.
use Rattle.std.proofs.Common.{◌≡◌, ◌∙◌, ℕ, suc, ◌+◌, ◌<◌, ◌≤◌, List, [], ◌∷◌, map, drop, length, get_or, Ok, Err, refl, sym, ap, add-one, drop-cons}
use Rattle.std.proofs.lemmas.List.{drop_all}
use Rattle.scope_run.specs.declared.step.Change.{Change}
use Rattle.scope_run.specs.declared.step.Ending.{Ending}
use Rattle.scope_run.specs.declared.word.Word.{Word}
use Rattle.scope_run.specs.Meanings.{State}
use Rattle.scope_run.specs.WordsReadings.{changed, ended, reading}
use Rattle.scope_run.specs.Steps.{step_of}

-- the word at a place, and those behind it
pub from_place : {S : Type 0} (bytes : S → List ℕ) (words : List S) (i : ℕ) (text : S) → i < length words → text ≡ get_or words i text →
    map bytes (drop i words) ≡ bytes text ∷ map bytes (drop (i + 1) words)
from_place bytes words i text low at =
    let cut : drop i words ≡ text ∷ drop (i + 1) words = rw (add-one i) (drop-cons words i text low ∙ ap (λ x. x ∷ drop (suc i) words) (sym at)) in
    rw cut refl

-- no word is left
pub past_place : {S : Type 0} (bytes : S → List ℕ) (words : List S) (i : ℕ) → length words ≤ i → map bytes (drop i words) ≡ []
past_place bytes words i high = rw (drop_all i words high) refl

-- a word ends the reading
pub ends : (word : Word) (s : State) (texts : List (List ℕ)) (text : List ℕ) (rest : List (List ℕ)) (e : Ending (List ℕ)) →
    texts ≡ text ∷ rest → step_of word s text ≡ Err e → reading word s texts ≡ Err e
unfolding reading
ends word s texts text rest e cut is = rw cut (rw is refl)

-- a word changes where the reading stands
pub goes_on : (word : Word) (s : State) (texts : List (List ℕ)) (text : List ℕ) (rest : List (List ℕ)) (c : Change (List ℕ)) →
    texts ≡ text ∷ rest → step_of word s text ≡ Ok c → reading word s texts ≡ reading word (changed s c) rest
unfolding reading
goes_on word s texts text rest c cut is = rw cut (rw is refl)

-- all words are read
pub all_read : (word : Word) (s : State) (texts : List (List ℕ)) → texts ≡ [] → reading word s texts ≡ ended s.waiting word s.given
unfolding reading
all_read word s texts none = rw none refl
