-- What is so of each answer, whatever the bytes.
use Rattle.std.proofs.Common.{◌≡◌, ◌≢◌, inl, inr, ℕ, ◌<◌, ◌≤◌, ◌&&◌, nat_lt, Bool, true, false, List, [], length, Option, Some, None, Result, Ok, Err, if◌then◌else◌, refl, sym, ap, arith, ◌∙◌}
use Rattle.std.proofs.lemmas.Bool.Decides.{nat_tests}
use Rattle.book_keys.specs.declared.fault.TableFault.{TableFault}
use Rattle.book_keys.specs.Nodes.{most_keys, tables_of}
use Rattle.book_keys.specs.Rows.{Table}
use Rattle.book_lines.specs.declared.text_fault.TextFault.{TextFault}
use Rattle.book_answer.specs.declared.command.Command.{Command}
use Rattle.book_answer.specs.declared.command.Command.TheVariants as command
use Rattle.book_answer.specs.Answers.{Answer, answer_by, answer_of, answer_over, answer_with_keys, answer_within, bgp_over, done, if_read, judged, keys_too_long, linked, linked_by_shared, linted, long_text, most_input, node_over, refusal, timed_over, too_long, verified}
use Rattle.book_cmd_check.specs.Captures.{Stored, has_refusal}
use Rattle.book_answer.specs.Commands.{reads_keys, reads_input}
use Rattle.book_cmd_link.specs.KeyTexts.{table_fault_line}
use Rattle.book_cmd_link.specs.declared.script.KeysFrom.TheVariants as keys_from
use Rattle.book_cmd_link.specs.LinkFiles.{script_of}
use Rattle.book_cmd_link.specs.LintTexts.{lint_pair_of}
use Rattle.book_cmd_node.specs.NodeRuns.{node_script_of}
use Rattle.book_cmd_check.specs.Show.{show_of}
use Rattle.book_cmd_check.specs.StoredLines.{stored_input}
use Rattle.book_cmd_link.specs.TimedRuns.{timed_script_of}
use Rattle.book_cmd_check.specs.Verified.{vectors_of}
use Rattle.book_lines.specs.Said.{said_in}
use Rattle.ao_run.specs.Gathered.{answer_in}
use Rattle.ao_run.specs.Obeys.{asks_keys, asks_input, writes_along}
use Rattle.book_base.proofs.TestLaws.{either}

-- the answer of a command that reads no key file
pub unkeyed : (c : Command) (keys input : List ℕ) → reads_keys c ≡ false → answer_of (Some c) keys input ≡ answer_in c [] input
unkeyed c keys input lacks = rw lacks refl

-- that of a command that reads it
pub keyed : (c : Command) (keys input : List ℕ) → reads_keys c ≡ true → answer_of (Some c) keys input ≡ answer_with_keys c keys input
keyed c keys input holds = rw holds refl

within_same : (c : Command) (tables : List Table) (input : List ℕ) → reads_keys c ≡ true → answer_within c tables input ≡ answer_in c tables input
within_same c tables input holds = refl

pub longer : (m n : ℕ) → m < n → nat_lt m n ≡ true
longer m n h = grind (arith, nat_tests)

pub shorter : (m n : ℕ) → n ≤ m → nat_lt m n ≡ false
shorter m n h = grind (arith, nat_tests)

-- the answer over the tables of a key file
pub over_tables : (c : Command) (keys input : List ℕ) (tables : List Table) → reads_keys c ≡ true → length keys ≤ 1048576 → tables_of keys ≡ Ok tables →
    answer_of (Some c) keys input ≡ answer_in c tables input
over_tables c keys input tables holds few is =
    let short : nat_lt 1048576 (length keys) ≡ false = shorter 1048576 (length keys) few in
    keyed c keys input holds ∙ rw (short, is) (within_same c tables input holds)

-- the answer to a key file with a fault
pub faulty_tables : (c : Command) (keys input : List ℕ) (e : TableFault) → reads_keys c ≡ true → length keys ≤ 1048576 → tables_of keys ≡ Err e →
    answer_of (Some c) keys input ≡ refusal 3 (table_fault_line e)
faulty_tables c keys input e holds few is =
    let short : nat_lt 1048576 (length keys) ≡ false = shorter 1048576 (length keys) few in
    keyed c keys input holds ∙ rw (short, is) refl

-- the answer to a key file past its limit
pub long_keys : (c : Command) (keys input : List ℕ) → reads_keys c ≡ true → 1048576 < length keys → answer_of (Some c) keys input ≡ refusal 3 keys_too_long
long_keys c keys input holds many =
    let long : nat_lt 1048576 (length keys) ≡ true = longer 1048576 (length keys) many in
    keyed c keys input holds ∙ rw long refl

-- the answer to an input past its limit
pub long_input : (c : Command) (tables : List Table) (input : List ℕ) → reads_input c ≡ true → most_input c < length input → answer_in c tables input ≡ refusal 4 (long_text c input)
long_input c tables input holds many =
    let long : nat_lt (most_input c) (length input) ≡ true = longer (most_input c) (length input) many in
    rw (holds, long) refl

-- but for a pcap file it has one text
pub long_plain : (c : Command) (input : List ℕ) → writes_along (Some c) ≡ false → long_text c input ≡ too_long
long_plain command.CheckPcap input last = absurd (cc)
long_plain c input last = refl

limited : (a b : Bool) (x y : Answer) → b ≡ false → (if a && b then x else y) ≡ y
limited true b x y lacks = rw lacks refl
limited false b x y lacks = refl

-- the answer to an input within it
pub short_input : (c : Command) (tables : List Table) (input : List ℕ) → length input ≤ most_input c → answer_in c tables input ≡ answer_over c tables input
short_input c tables input few =
    limited (reads_input c) (nat_lt (most_input c) (length input)) (refusal 4 (long_text c input)) (answer_over c tables input) (shorter (most_input c) (length input) few)

pub unread_input : (c : Command) (tables : List Table) (input : List ℕ) → reads_input c ≡ false → answer_in c tables input ≡ answer_over c tables input
unread_input c tables input lacks = rw lacks refl

-- no answer to a command's words is a usage fault, and none over tables is a fault of them
abbrev pub Plain : ℕ → Type 0
Plain s = (s ≢ 2) × (s ≢ 3)

four : Plain 4
four = ((λ h. absurd (omega arith)), (λ h. absurd (omega arith)))

done_plain : (b : Bool) → Plain (if b then 1 else 0)
done_plain true = ((λ h. absurd (omega arith)), (λ h. absurd (omega arith)))
done_plain false = ((λ h. absurd (omega arith)), (λ h. absurd (omega arith)))

read_plain : {A : Type 0} (made : A → Answer) (r : Result A TextFault) → ((x : A) → Plain (made x).status) → Plain (if_read made r).status
read_plain made (Ok x) plain = plain x
read_plain made (Err e) plain = four

if_plain : (b : Bool) (x y : Answer) → Plain x.status → Plain y.status → Plain (if b then x else y).status
if_plain true x y p q = p
if_plain false x y p q = q

judged_plain : (tables : List Table) (stored : List Stored) (fault : Option (List ℕ)) → Plain (judged tables stored fault).status
judged_plain tables stored None = done_plain (has_refusal tables stored)
judged_plain tables stored (Some text) = four

pub over_plain : (c : Command) (tables : List Table) (input : List ℕ) → Plain (answer_over c tables input).status
over_plain command.Link tables input = read_plain linked_by_shared (script_of keys_from.LinkFile input) (λ s. done_plain _)
over_plain command.LinkKeys tables input = read_plain (linked tables) (script_of keys_from.KeyFile input) (λ s. done_plain _)
over_plain command.Check tables input = judged_plain tables (stored_input input).stored _
over_plain command.CheckPcap tables input = judged_plain tables _ _
over_plain command.Show tables input = read_plain (done false) (show_of input) (λ text. done_plain false)
over_plain command.Vectors tables input = read_plain verified (vectors_of input) (λ v. done_plain _)
over_plain (command.Keys time) tables input = done_plain false
over_plain (command.Lint plan) tables input = read_plain (linted tables plan) (said_in lint_pair_of input) (λ s. done_plain _)
over_plain (command.Storm seed count) tables input = done_plain _
over_plain command.Bgp tables input = read_plain (bgp_over tables) (script_of keys_from.KeyFile input) (λ s. done_plain _)
over_plain command.Timed tables input = read_plain (timed_over tables) (timed_script_of input) (λ s. if_plain _ _ _ four (done_plain _))
over_plain command.Node tables input = read_plain (node_over tables) (node_script_of input) (λ s. done_plain false)

pub within_plain : (c : Command) (tables : List Table) (input : List ℕ) → Plain (answer_in c tables input).status
within_plain c tables input =
    if_plain (reads_input c && nat_lt (most_input c) (length input)) (refusal 4 (long_text c input)) (answer_over c tables input) four (over_plain c tables input)

not_four : (b : Bool) → ◌≡◌ {A = ℕ} (if b then 1 else 0) 4 → ⊥
not_four true h = omega arith
not_four false h = omega arith

-- a command that reads no input refuses none
pub unread_four : (c : Command) (tables : List Table) (input : List ℕ) → reads_input c ≡ false → (answer_over c tables input).status ≢ 4
unread_four (command.Keys time) tables input lacks = not_four false
unread_four (command.Storm seed count) tables input lacks = not_four _
unread_four c tables input lacks = cc

by_plain : (c : Command) (input other : List ℕ) (b : Bool) (r : Result (List Table) TableFault) → reads_keys c ≡ true →
    (if b then refusal 3 keys_too_long else answer_by c input r).status ≡ 3 → (if b then refusal 3 keys_too_long else answer_by c other r).status ≡ 3
by_plain c input other true r holds three = refl
by_plain c input other false (Err e) holds three = refl
by_plain c input other false (Ok tables) holds three =
    absurd ((within_plain c tables input).1 (ap (λ (a : Answer). a.status) (sym (within_same c tables input holds)) ∙ three))

-- a key file is refused whatever the input
pub three_whatever : (c : Command) (keys input other : List ℕ) → (answer_of (Some c) keys input).status ≡ 3 → (answer_of (Some c) keys other).status ≡ 3
three_whatever c keys input other three = elim (either (reads_keys c)) [
  | inl holds ↦
      let one : answer_of (Some c) keys input ≡ answer_with_keys c keys input = keyed c keys input holds in
      let two : answer_of (Some c) keys other ≡ answer_with_keys c keys other = keyed c keys other holds in
      let t : (answer_with_keys c keys input).status ≡ 3 = rw one at three in
      rw two (by_plain c input other (nat_lt most_keys (length keys)) (tables_of keys) holds t)
  | inr lacks ↦
      let one : answer_of (Some c) keys input ≡ answer_in c [] input = unkeyed c keys input lacks in
      absurd ((within_plain c [] input).1 (rw one at three))
]

by_not_two : (c : Command) (input : List ℕ) (b : Bool) (r : Result (List Table) TableFault) → reads_keys c ≡ true →
    (if b then refusal 3 keys_too_long else answer_by c input r).status ≢ 2
by_not_two c input true r holds = λ h. absurd (omega arith)
by_not_two c input false (Err e) holds = λ h. absurd (omega arith)
by_not_two c input false (Ok tables) holds = λ h. (within_plain c tables input).0 (ap (λ (a : Answer). a.status) (sym (within_same c tables input holds)) ∙ h)

-- no answer to a command's words is a usage fault
pub not_two : (c : Command) (keys input : List ℕ) → (answer_of (Some c) keys input).status ≢ 2
not_two c keys input = elim (either (reads_keys c)) [
  | inl holds ↦ rw (keyed c keys input holds) (by_not_two c input (nat_lt most_keys (length keys)) (tables_of keys) holds)
  | inr lacks ↦ rw (unkeyed c keys input lacks) (within_plain c [] input).0
]

by_long : (c : Command) (input : List ℕ) (b : Bool) (r : Result (List Table) TableFault) → reads_keys c ≡ true → reads_input c ≡ true → most_input c < length input →
    2 < (if b then refusal 3 keys_too_long else answer_by c input r).status
by_long c input true r holds reads many = omega arith
by_long c input false (Err e) holds reads many = omega arith
by_long c input false (Ok tables) holds reads many =
    let is : answer_within c tables input ≡ refusal 4 (long_text c input) = within_same c tables input holds ∙ long_input c tables input reads many in
    rw is (omega arith)

-- an input past its limit has no output
pub long_refused : (c : Command) (keys input : List ℕ) → reads_input c ≡ true → most_input c < length input → 2 < (answer_of (Some c) keys input).status
long_refused c keys input reads many = elim (either (reads_keys c)) [
  | inl holds ↦ rw (keyed c keys input holds) (by_long c input (nat_lt most_keys (length keys)) (tables_of keys) holds reads many)
  | inr lacks ↦ rw (unkeyed c keys input lacks, long_input c [] input reads many) (omega arith)
]

over_unread : (c : Command) (tables : List Table) (input other : List ℕ) → reads_input c ≡ false → answer_in c tables input ≡ answer_in c tables other
over_unread (command.Keys time) tables input other lacks = refl
over_unread (command.Storm seed count) tables input other lacks = refl
over_unread c tables input other lacks = cc

by_unread : (c : Command) (input other : List ℕ) (b : Bool) (r : Result (List Table) TableFault) → reads_keys c ≡ true → reads_input c ≡ false →
    (if b then refusal 3 keys_too_long else answer_by c input r) ≡ (if b then refusal 3 keys_too_long else answer_by c other r)
by_unread c input other true r holds lacks = refl
by_unread c input other false (Err e) holds lacks = refl
by_unread c input other false (Ok tables) holds lacks =
    within_same c tables input holds ∙ (over_unread c tables input other lacks ∙ sym (within_same c tables other holds))

-- the answer of a command that reads no input
input_unread : (c : Command) (keys input other : List ℕ) → reads_input c ≡ false → answer_of (Some c) keys input ≡ answer_of (Some c) keys other
input_unread c keys input other lacks = elim (either (reads_keys c)) [
  | inl holds ↦ keyed c keys input holds ∙ (by_unread c input other (nat_lt most_keys (length keys)) (tables_of keys) holds lacks ∙ sym (keyed c keys other holds))
  | inr none ↦ unkeyed c keys input none ∙ (over_unread c [] input other lacks ∙ sym (unkeyed c keys other none))
]

keys_unread : (c : Command) (keys other input : List ℕ) → reads_keys c ≡ false → answer_of (Some c) keys input ≡ answer_of (Some c) other input
keys_unread c keys other input lacks = unkeyed c keys input lacks ∙ sym (unkeyed c other input lacks)

-- the bytes of a source that isn't asked for don't matter
pub same_answer : (command : Option Command) (keys keys2 input input2 : List ℕ) → (asks_keys command ≡ true → keys ≡ keys2) → (asks_input command ≡ true → input ≡ input2) →
    answer_of command keys input ≡ answer_of command keys2 input2
same_answer None keys keys2 input input2 k i = refl
same_answer (Some c) keys keys2 input input2 k i = first ∙ second
  where
    first : answer_of (Some c) keys input ≡ answer_of (Some c) keys2 input
    first = elim (either (reads_keys c)) [
      | inl holds ↦ ap (λ (x : List ℕ). answer_of (Some c) x input) (k holds)
      | inr lacks ↦ keys_unread c keys keys2 input lacks
    ]

    second : answer_of (Some c) keys2 input ≡ answer_of (Some c) keys2 input2
    second = elim (either (reads_input c)) [
      | inl holds ↦ ap (λ (x : List ℕ). answer_of (Some c) keys2 x) (i holds)
      | inr lacks ↦ input_unread c keys2 input input2 lacks
    ]
