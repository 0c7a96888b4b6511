-- The two texts that the program tells of itself. Our own formats.
use Rattle.std.specs.Prelude.{ℕ, Bool, ◌||◌, if◌then◌else◌, List, [], ◌∷◌, ◌++◌, codes, Option, Some, None}
use Rattle.std.specs.Str.{bytes_eq}
use Rattle.book_answer.specs.Commands.{usage}
use Rattle.aotcp.specs.declared.own_text.OwnText.{OwnText}
use Rattle.aotcp.specs.declared.own_text.OwnText.TheVariants.{Help, Version}

-- the word asks for help, behind a command too: `--help` or `-h` (own)
abbrev pub is_help : List ℕ → Bool
is_help word = bytes_eq word (codes "--help") || bytes_eq word (codes "-h")

-- what a word that stands alone asks of the program itself (own)
abbrev pub asked_alone : List ℕ → Option OwnText
asked_alone word =
    if is_help word || bytes_eq word (codes "help") then Some Help
    else if bytes_eq word (codes "--version") || bytes_eq word (codes "-V") then Some Version
    else None

-- what the words ask of the program itself (own)
abbrev pub asked_by : List (List ℕ) → Option OwnText
asked_by (word ∷ []) = asked_alone word
asked_by (command ∷ word ∷ []) = if is_help word then Some Help else None
asked_by _ = None

-- the text that it tells then
abbrev pub text_of : OwnText → List ℕ
text_of Help =
    usage ++ codes "\nlink reads a link file on standard input and writes the report of its run.\nshow reads datagrams in hexadecimal, one a line, and writes their fields.\nvectors reads test vectors and writes whether each is as computed.\ncheck reads stored segments, with --pcap those of a pcap file, and writes what the tables of KEYS say of each.\nkeys writes the rows of the key file KEYS with their state at TIME.\nlint reads connections and writes whether the tables of KEYS carry each through its rollovers.\nstorm writes the summary of a run of COUNT events that is made from the number SEED.\nbgp reads a link file and writes the BGP messages that its sessions delivered.\ntimed reads a link file with waits and writes the report of its run with timers.\nnode reads a node's file and writes the answers of its run.\nStatus 0: done; 1: done, with something amiss; 2: usage; 3: key file; 4: input;\n5: a read failed; 6: a write failed; 7: out of memory.\n"
text_of Version = codes "aotcp 0.2.0\n"
