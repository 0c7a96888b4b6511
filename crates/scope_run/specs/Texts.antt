-- The parts of a word of the command line (own).
use Rattle.std.specs.Prelude.{ℕ, Bool, false, List, [], ◌∷◌, ◌==◌, ◌+◌, ◌&&◌, ◌||◌, codes}
use Rattle.std.specs.Prelude.{suc, drop, length, take}
use Rattle.std.specs.Prelude.{Option, Some, None, if◌then◌else◌}
use Rattle.std.specs.Str.{bytes_eq}

-- a text begins with a hyphen, and is more than that (own)
abbrev pub is_dashed : List ℕ → Bool
is_dashed [] = false
is_dashed (c ∷ []) = false
is_dashed (c ∷ d ∷ rest) = c == 45

-- it begins with two hyphens (own)
abbrev pub is_long : List ℕ → Bool
is_long [] = false
is_long (c ∷ []) = false
is_long (c ∷ d ∷ rest) = c == 45 && d == 45

-- it asks for help (own)
abbrev pub asks_help : List ℕ → Bool
asks_help text = bytes_eq text (codes "-h") || bytes_eq text (codes "--help")

-- where the first `=` of a text stands, which is 61; without one, how long the text is (own)
abbrev pub equals_at : List ℕ → ℕ
equals_at [] = 0
equals_at (c ∷ rest) = if c == 61 then 0 else suc (equals_at rest)

-- what stands in front of the first `=` of a text (own)
abbrev pub before_equals : List ℕ → List ℕ
before_equals text = take (equals_at text) text

-- what stands behind it, where there is one (own)
abbrev pub behind_equals : List ℕ → Option (List ℕ)
behind_equals text =
    if equals_at text == length text then None else Some (drop (equals_at text + 1) text)

-- the value of a short option: what stands behind its letter, without an `=` in front (own)
abbrev pub behind_letter : List ℕ → Option (List ℕ)
behind_letter [] = None
behind_letter (c ∷ []) = None
behind_letter (c ∷ d ∷ []) = None
behind_letter (c ∷ d ∷ e ∷ rest) = if e == 61 then Some rest else Some (e ∷ rest)

-- the name of an option, `--NAME` or `-N`, of the word in which it stands (own)
abbrev pub head_of : List ℕ → List ℕ
head_of text = if is_long text then before_equals text else take 2 text

-- the value in the same word: `--NAME=VALUE`, `-NVALUE` or `-N=VALUE` (own)
abbrev pub value_of : List ℕ → Option (List ℕ)
value_of text = if is_long text then behind_equals text else behind_letter text
