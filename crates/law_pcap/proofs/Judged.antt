-- What `check --pcap` answers of a file, and `check` of its line form.
use Rattle.std.proofs.Common.{◌≡◌, ℕ, ◌≤◌, Bool, true, false, nat_lt, if◌then◌else◌, List, [], ◌∷◌, length, map, codes, Option, Some, None, option_map, Result, Ok, Err, refl}
use Rattle.std.proofs.lemmas.Bool.{le-ltb}
use Rattle.book_keys.specs.declared.fault.TableFault.{TableFault}
use Rattle.book_keys.specs.Nodes.{most_keys, tables_of}
use Rattle.book_keys.specs.Rows.{Table}
use Rattle.book_pcap.specs.Packets.{Packets, FileFault, packets_of}
use Rattle.book_answer.specs.declared.command.Command.TheVariants as command
use Rattle.book_cmd_check.specs.Captures.{Stored}
use Rattle.book_answer.specs.Commands.{command_of}
use Rattle.book_answer.specs.Answers.{Answer, answer, answer_by, answer_within, judged, packets_checked, pcap_fault_line, refusal, keys_too_long, lines_checked}
use Rattle.book_cmd_check.specs.StoredPackets.{stored_packet}
use Rattle.book_cmd_check.specs.StoredLines.{StoredInput, stored_input}
use Rattle.law_pcap.proofs.Records.{shows}

-- two answers to the same: their outputs are equal, and where there is no fault they are
pub record Alike (fault : Option FileFault) (one two : Answer) : Type 0 where
  pub output : one.output ≡ two.output
  pub whole : fault ≡ None → one ≡ two

alike_same : (fault : Option FileFault) (a : Answer) → Alike fault a a
alike_same fault a = record { output = refl; whole = λ none. refl }

judged_alike : (tables : List Table) (stored : List Stored) (text : FileFault → List ℕ) (fault : Option FileFault) →
    Alike fault (judged tables stored (option_map text fault)) (judged tables stored None)
judged_alike tables stored text None = alike_same None (judged tables stored None)
judged_alike tables stored text (Some fault) = record { output = refl; whole = λ none. absurd (cc) }

over_alike : (tables : List Table) (packets : Packets) (input : StoredInput) → input ≡ shows packets →
    Alike packets.fault (packets_checked tables packets) (lines_checked tables input)
over_alike tables packets input is = rw is (judged_alike tables (map stored_packet packets.list) pcap_fault_line packets.fault)

within_alike : (tables : List Table) (file form : List ℕ) → length file ≤ 268435456 → length form ≤ 268435456 → stored_input form ≡ shows (packets_of file) →
    Alike (packets_of file).fault (answer_within command.CheckPcap tables file) (answer_within command.Check tables form)
within_alike tables file form few few_lines is =
    rw (le-ltb 268435456 (length file) few, le-ltb 268435456 (length form) few_lines) (over_alike tables (packets_of file) (stored_input form) is)

by_alike : (r : Result (List Table) TableFault) (file form : List ℕ) → length file ≤ 268435456 → length form ≤ 268435456 → stored_input form ≡ shows (packets_of file) →
    Alike (packets_of file).fault (answer_by command.CheckPcap file r) (answer_by command.Check form r)
by_alike (Ok tables) file form few few_lines is = within_alike tables file form few few_lines is
by_alike (Err fault) file form few few_lines is = alike_same (packets_of file).fault _

either_alike : (test : Bool) (fault : Option FileFault) (early one two : Answer) → Alike fault one two → Alike fault (if test then early else one) (if test then early else two)
either_alike true fault early one two alike = alike_same fault early
either_alike false fault early one two alike = alike

-- the answers of the two commands with the same key file
pub answers_alike : (name keys file form : List ℕ) → length file ≤ 268435456 → length form ≤ 268435456 → stored_input form ≡ shows (packets_of file) →
    Alike (packets_of file).fault (answer (codes "check" ∷ codes "--pcap" ∷ name ∷ []) keys file) (answer (codes "check" ∷ name ∷ []) keys form)
unfolding answer command_of
answers_alike name keys file form few few_lines is =
    either_alike (nat_lt most_keys (length keys)) (packets_of file).fault (refusal 3 keys_too_long) _ _ (by_alike (tables_of keys) file form few few_lines is)
