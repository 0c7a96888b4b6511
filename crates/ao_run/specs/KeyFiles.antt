-- Which word names the key file (own).
use Rattle.std.specs.Prelude.{ℕ, List, ◌∷◌, Option, Some, None, if◌then◌else◌}
use Rattle.book_answer.specs.declared.command.Command.{Command}
use Rattle.book_answer.specs.declared.command.Command.TheVariants as command
use Rattle.book_answer.specs.Commands.{command_of, reads_keys}

-- the word behind the name (own)
abbrev pub second : List (List ℕ) → Option (List ℕ)
second (name ∷ word ∷ others) = Some word
second _ = None

-- the word behind the name and an option (own)
abbrev pub third : List (List ℕ) → Option (List ℕ)
third (name ∷ option ∷ word ∷ others) = Some word
third _ = None

-- the word that names the key file of a command that reads one: the last one of `check --pcap
-- KEYS`, else the one behind the name (own)
abbrev pub key_word_for : Option Command → List (List ℕ) → Option (List ℕ)
key_word_for None words = None
key_word_for (Some command.CheckPcap) words = third words
key_word_for (Some c) words = if reads_keys c then second words else None

-- the word that names the key file, where the words ask for one (own)
abbrev pub key_word : List (List ℕ) → Option (List ℕ)
key_word words = key_word_for (command_of words) words
