-- Which answers have no output, and which bytes they don't depend on.
use Rattle.std.proofs.Common.{◌≡◌, inl, inr, ℕ, ◌<◌, ◌&&◌, Bool, true, false, nat_lt, if◌then◌else◌, List, [], length, Some, Result, Ok, Err, refl, sym, ap, ◌∙◌, arith}
use Rattle.ao_run.proofs.AnswerLaws.{keyed, long_input, long_plain, unkeyed, within_plain}
use Rattle.ao_run.specs.Gathered.{answer_in}
use Rattle.ao_run.specs.Obeys.{writes_along}
use Rattle.book_answer.specs.Answers.{Answer, answer_by, answer_of, answer_over, answer_with_keys, answer_within, bgp_over, done, if_read, keys_too_long, linked, linked_by_shared, linted, long_text, most_input, node_over, refusal, reported, timed_over, too_many_events, verified}
use Rattle.book_answer.specs.Commands.{reads_input, reads_keys}
use Rattle.book_answer.specs.declared.command.Command.{Command}
use Rattle.book_answer.specs.declared.command.Command.TheVariants as command
use Rattle.book_base.proofs.TestLaws.{either}
use Rattle.book_cmd_link.specs.KeyTexts.{table_fault_line}
use Rattle.book_cmd_check.specs.Verified.{vectors_of}
use Rattle.book_cmd_link.specs.TimedRuns.{expand, most_events}
use Rattle.book_keys.specs.declared.fault.TableFault.{TableFault}
use Rattle.book_keys.specs.Nodes.{most_keys, tables_of}
use Rattle.book_keys.specs.Rows.{Table}
use Rattle.book_link.specs.Worlds.{setup_of}
use Rattle.book_lines.specs.declared.text_fault.TextFault.{TextFault}

-- ---- a refused input has no output

abbrev EmptyAt4 : Answer → Type 0
EmptyAt4 a = a.status ≡ 4 → a.output ≡ []

done_four : (b : Bool) (output : List ℕ) → EmptyAt4 (done b output)
done_four true output e = absurd (omega arith)
done_four false output e = absurd (omega arith)

read_four : {A : Type 0} (made : A → Answer) (r : Result A TextFault) → ((x : A) → EmptyAt4 (made x)) → EmptyAt4 (if_read made r)
read_four made (Ok x) each = each x
read_four made (Err e) each = λ four. refl

if_four : (b : Bool) (x y : Answer) → EmptyAt4 x → EmptyAt4 y → EmptyAt4 (if b then x else y)
if_four true x y p q = p
if_four false x y p q = q

over_four : (c : Command) (tables : List Table) (input : List ℕ) → writes_along (Some c) ≡ false → EmptyAt4 (answer_over c tables input)
over_four command.Link tables input plain = read_four linked_by_shared _ (λ s. done_four _ _)
over_four command.LinkKeys tables input plain = read_four (linked tables) _ (λ s. done_four _ _)
over_four command.Check tables input plain = absurd (cc)
over_four command.CheckPcap tables input plain = absurd (cc)
over_four command.Show tables input plain = read_four (done false) _ (λ text. done_four false text)
over_four command.Vectors tables input plain = read_four verified (vectors_of input) (λ v. done_four _ _)
over_four (command.Keys time) tables input plain = done_four false _
over_four (command.Lint plan) tables input plain = read_four (linted tables plan) _ (λ s. done_four _ _)
over_four (command.Storm seed count) tables input plain = done_four _ _
over_four command.Bgp tables input plain = read_four (bgp_over tables) _ (λ s. done_four _ _)
over_four command.Timed tables input plain =
    read_four (timed_over tables) _ (λ s.
    let setup = setup_of tables s.a s.b in
    let events = (expand setup s.events).events in
    if_four (nat_lt most_events (length events)) (refusal 4 too_many_events) (reported setup events) (λ four. refl) (done_four _ _))
over_four command.Node tables input plain = read_four (node_over tables) _ (λ s. done_four false _)

within_four : (c : Command) (tables : List Table) (input : List ℕ) → writes_along (Some c) ≡ false → EmptyAt4 (answer_within c tables input)
within_four c tables input plain = if_four (reads_input c && nat_lt (most_input c) (length input)) (refusal 4 (long_text c input)) (answer_over c tables input) (λ four. refl) (over_four c tables input plain)

by_four : (c : Command) (input : List ℕ) (long : Bool) (r : Result (List Table) TableFault) → writes_along (Some c) ≡ false → EmptyAt4 (if long then refusal 3 keys_too_long else answer_by c input r)
by_four c input true r plain = λ four. absurd (omega arith)
by_four c input false (Err e) plain = λ four. absurd (omega arith)
by_four c input false (Ok tables) plain = within_four c tables input plain

empty_at : (a b : Answer) → a ≡ b → EmptyAt4 b → EmptyAt4 a
empty_at a b e h four = ap (λ (x : Answer). x.output) e ∙ h (ap (λ (x : Answer). x.status) (sym e) ∙ four)

-- a command that writes when all was read has no output where it refuses its input
pub four_empty : (c : Command) (keys input : List ℕ) → writes_along (Some c) ≡ false → (answer_of (Some c) keys input).status ≡ 4 → (answer_of (Some c) keys input).output ≡ []
four_empty c keys input plain = elim (either (reads_keys c)) [
  | inl holds ↦ empty_at (answer_of (Some c) keys input) (answer_with_keys c keys input) (keyed c keys input holds) (by_four c input (nat_lt most_keys (length keys)) (tables_of keys) plain)
  | inr lacks ↦ empty_at (answer_of (Some c) keys input) (answer_in c [] input) (unkeyed c keys input lacks) (within_four c [] input plain)
]

-- ---- a refused key file

-- the answer is this refusal, whatever the input
pub record Refused3 (c : Command) (keys : List ℕ) : Type 0 where
  pub text : List ℕ
  pub is : (input : List ℕ) → answer_of (Some c) keys input ≡ refusal 3 text

by_three : (c : Command) (keys input : List ℕ) (long : Bool) (r : Result (List Table) TableFault) → ((other : List ℕ) → answer_of (Some c) keys other ≡ (if long then refusal 3 keys_too_long else answer_by c other r))
    → (if long then refusal 3 keys_too_long else answer_by c input r).status ≡ 3 → Refused3 c keys
by_three c keys input true r is three = record { text = keys_too_long; is = is }
by_three c keys input false (Err e) is three = record { text = table_fault_line e; is = is }
by_three c keys input false (Ok tables) is three = absurd ((within_plain c tables input).1 three)

pub refused_three : (c : Command) (keys input : List ℕ) → (answer_of (Some c) keys input).status ≡ 3 → Refused3 c keys
refused_three c keys input three = elim (either (reads_keys c)) [
  | inl holds ↦ by_three c keys input (nat_lt most_keys (length keys)) (tables_of keys) (λ other. keyed c keys other holds) (ap (λ (x : Answer). x.status) (sym (keyed c keys input holds)) ∙ three)
  | inr lacks ↦ absurd ((within_plain c [] input).1 (ap (λ (x : Answer). x.status) (sym (unkeyed c keys input lacks)) ∙ three))
]

pub three_reads : (c : Command) (keys input : List ℕ) → (answer_of (Some c) keys input).status ≡ 3 → reads_keys c ≡ true
three_reads c keys input three = elim (either (reads_keys c)) [
  | inl holds ↦ holds
  | inr lacks ↦ absurd ((within_plain c [] input).1 (ap (λ (x : Answer). x.status) (sym (unkeyed c keys input lacks)) ∙ three))
]

-- ---- an input that is too long

long_over : (c : Command) (tables : List Table) (one two : List ℕ) → reads_input c ≡ true → writes_along (Some c) ≡ false → most_input c < length one → most_input c < length two → answer_in c tables one ≡ answer_in c tables two
long_over c tables one two reads plain a b =
    long_input c tables one reads a ∙ (ap (refusal 4) (long_plain c one plain ∙ sym (long_plain c two plain)) ∙ sym (long_input c tables two reads b))

by_long : (c : Command) (one two : List ℕ) (long : Bool) (r : Result (List Table) TableFault) → reads_input c ≡ true → writes_along (Some c) ≡ false → most_input c < length one → most_input c < length two
    → (if long then refusal 3 keys_too_long else answer_by c one r) ≡ (if long then refusal 3 keys_too_long else answer_by c two r)
by_long c one two true r reads plain a b = refl
by_long c one two false (Err e) reads plain a b = refl
by_long c one two false (Ok tables) reads plain a b = long_over c tables one two reads plain a b

-- two inputs that are too long have one answer
pub long_same : (c : Command) (keys one two : List ℕ) → reads_input c ≡ true → writes_along (Some c) ≡ false → most_input c < length one → most_input c < length two → answer_of (Some c) keys one ≡ answer_of (Some c) keys two
long_same c keys one two reads plain a b = elim (either (reads_keys c)) [
  | inl holds ↦ keyed c keys one holds ∙ (by_long c one two (nat_lt most_keys (length keys)) (tables_of keys) reads plain a b ∙ sym (keyed c keys two holds))
  | inr lacks ↦ unkeyed c keys one lacks ∙ (long_over c [] one two reads plain a b ∙ sym (unkeyed c keys two lacks))
]
