-- Completeness, from the contract for every command.
use Rattle.std.proofs.Common.{◌≡◌, ◌≢◌, ◌⊎◌, inl, inr, ℕ, zero, suc, ◌<◌, ◌≤◌, List, [], length, take, Option, Some, None, Ok, true, false, refl, sym, ap, subst, ◌∙◌, arith}
use Rattle.std.proofs.lemmas.List.{length-take}
use Rattle.ao_base.specs.Outside.{WasWritten, Rose, IsAtEnd}
use Rattle.book_keys.specs.Nodes.{most_keys, tables_of}
use Rattle.book_keys.specs.Rows.{Table}
use Rattle.book_answer.specs.declared.command.Command.{Command}
use Rattle.book_answer.specs.declared.command.Command.TheVariants as commands
use Rattle.book_answer.specs.Answers.{Answer, answer_of, keys_too_long, most_input, refusal}
use Rattle.book_answer.specs.Commands.{command_of, reads_input, reads_keys}
use Rattle.ao_run.specs.Completes.{Completes, IsCalm, Tells}
use Rattle.ao_run.specs.Gathered.{answer_in}
use Rattle.ao_run.specs.Obeys.{Along, IsWritten, NotBegun, Obeys, Sides, Unread, asks_input, asks_keys, most_of, text_of, writes_along}
use Rattle.ao_run.proofs.AnswerLaws.{long_keys, long_refused, not_two, over_tables, same_answer, three_whatever, unkeyed, within_plain}
use Rattle.book_base.proofs.TestLaws.{either}
use Rattle.ao_run.proofs.Facts.{Facts}
use Rattle.ao_run.proofs.Given.{all_given, calm, no_more}
use Rattle.ao_run.proofs.LineEnds.{line_facts}
use Rattle.ao_run.proofs.PacketEnds.{packet_facts}

-- the answer to words, by what they name
abbrev answer : List (List ℕ) → List ℕ → List ℕ → Answer
answer words keys input = answer_of (command_of words) keys input

-- words with an output name a command
has_command : (command : Option Command) (keys input : List ℕ) → (answer_of command keys input).status < 2 → (c : Command) × (command ≡ Some c)
has_command None keys input small = absurd (omega arith)
has_command (Some c) keys input small = (c, refl)

-- a command that writes as it reads came to its input behind a key file with tables
record Behind (command : Option Command) (k i : List ℕ) (b n : Sides) (s : ℕ) : Type 0 where
  c : Command
  is : command ≡ Some c
  reads : (reads_keys c ≡ true) × (reads_input c ≡ true)
  tables : List Table
  is_key_file : tables_of k ≡ Ok tables
  few : length k ≤ most_keys
  facts : Facts c tables i b.input n.input b.out n.out s

behind : (command : Option Command) (k text i : List ℕ) (b n : Sides) (s : ℕ) → writes_along command ≡ true → Along command k text i b n s →
    NotBegun text i b n s ⊎ Behind command k i b n s
behind None k text i b n s along a = absurd (cc)
behind (Some commands.Check) k text i b n s along (inl a) = inl a
behind (Some commands.Check) k text i b n s along (inr a) =
    inr (record { c = commands.Check; is = refl; reads = (refl, refl); tables = a.tables; is_key_file = a.is_key_file; few = a.few; facts = line_facts a.tables i b n s a.checks })
behind (Some commands.CheckPcap) k text i b n s along (inl a) = inl a
behind (Some commands.CheckPcap) k text i b n s along (inr a) =
    inr (record { c = commands.CheckPcap; is = refl; reads = (refl, refl); tables = a.tables; is_key_file = a.is_key_file; few = a.few; facts = packet_facts a.tables i b n s a.checks })
behind (Some c) k text i b n s along a = absurd (cc)

-- a command whose key file isn't read ends with neither a fault of the input nor of writing
not_begun : (s : ℕ) → (s ≡ 4) ⊎ (s ≡ 6) → (s ≡ 3) ⊎ ((s ≡ 5) ⊎ (s ≡ 7)) → ⊥
not_begun s (inl e) (inl h) = omega (arith, e, h)
not_begun s (inl e) (inr (inl h)) = omega (arith, e, h)
not_begun s (inl e) (inr (inr h)) = omega (arith, e, h)
not_begun s (inr e) (inl h) = omega (arith, e, h)
not_begun s (inr e) (inr (inl h)) = omega (arith, e, h)
not_begun s (inr e) (inr (inr h)) = omega (arith, e, h)

module _ (words : List (List ℕ)) (k i keys input : List ℕ) (b n : Sides) (small : (answer words keys input).status < 2)
    (tells_keys : Tells (asks_keys (command_of words)) keys b.keys n.keys) (tells_input : Tells (asks_input (command_of words)) input b.input n.input)
    (calm_out : IsCalm (answer words keys input).output b.out n.out) where
  abbrev Done : ℕ → Type 0
  Done s = ((s ≡ (answer words keys input).status) × WasWritten (answer words keys input).output b.out n.out) ⊎ (s ≡ 7)

  all_keys : (s : ℕ) → Obeys words k i b n s → asks_keys (command_of words) ≡ true → IsAtEnd n.keys → k ≡ keys
  all_keys s x asks end = all_given b.keys.bytes n.keys.bytes k keys x.gave_keys.bytes (tells_keys.told asks) end

  all_input : (s : ℕ) → Obeys words k i b n s → asks_input (command_of words) ≡ true → IsAtEnd n.input → i ≡ input
  all_input s x asks end = all_given b.input.bytes n.input.bytes i input x.gave_input.bytes (tells_input.told asks) end

  -- all was read
  whole : (s : ℕ) → Obeys words k i b n s → (asks_keys (command_of words) ≡ true → IsAtEnd n.keys) → (asks_input (command_of words) ≡ true → IsAtEnd n.input) →
      answer words k i ≡ answer words keys input
  whole s x ek ei = same_answer (command_of words) k keys i input (λ asks. all_keys s x asks (ek asks)) (λ asks. all_input s x asks (ei asks))

  written : (s : ℕ) → Obeys words k i b n s → s < 2 → Done s
  written s x less =
      let e : answer words k i ≡ answer words keys input = whole s x (x.keys_end (inl (inl less))) (x.input_end (inl less)) in
      let P : Answer → Type 0 = λ (a : Answer). (s ≡ a.status) × WasWritten a.output b.out n.out in
      inl (subst P e (x.known (omega (arith, less)), x.whole less))

  unwritten : (s : ℕ) → Obeys words k i b n s → s ≡ 6 → writes_along (command_of words) ≡ false → Done s
  unwritten s x six last =
      let e : answer words k i ≡ answer words keys input = whole s x (x.keys_end (inl (inr six))) (x.input_end (inr (six, last))) in
      let P : Answer → Type 0 = λ (a : Answer). (m : ℕ) × (m < length a.output) × WasWritten (take m a.output) b.out n.out in
      let p : P (answer words keys input) = subst P e (x.part six last).1 in
      let few : length (take p.0 (answer words keys input).output) ≤ length (answer words keys input).output = grind (arith, length-take) in
      absurd (calm (length (take p.0 (answer words keys input).output)) (answer words keys input).output b.out n.out p.2.counts few calm_out (x.write six))

  faulty : (s : ℕ) → Obeys words k i b n s →
      (((asks_keys (command_of words) ≡ true) × Rose b.keys n.keys × Unread i b.input n.input)
      ⊎ ((asks_input (command_of words) ≡ true) × ((answer words k i).status ≢ 3) × Rose b.input n.input)) → Done s
  faulty s x (inl f) =
      let few : length k ≤ length keys = no_more b.keys.bytes n.keys.bytes k keys x.gave_keys.bytes (tells_keys.told f.0) in
      absurd (calm (length k) keys b.keys n.keys x.gave_keys.counts few (tells_keys.calm f.0) f.1)
  faulty s x (inr f) =
      let few : length i ≤ length input = no_more b.input.bytes n.input.bytes i input x.gave_input.bytes (tells_input.told f.0) in
      absurd (calm (length i) input b.input n.input x.gave_input.counts few (tells_input.calm f.0) f.2)

  module _ (c : Command) (is : command_of words ≡ Some c) where
    of_command : (x y : List ℕ) → answer words x y ≡ answer_of (Some c) x y
    of_command x y = ap (λ (o : Option Command). answer_of o x y) is

    usage : (s : ℕ) → Obeys words k i b n s → s ≡ 2 → ⊥
    usage s x two =
        let e : (answer words k i).status ≡ (answer_of (Some c) k i).status = ap (λ (a : Answer). a.status) (of_command k i) in
        let known : s ≡ (answer words k i).status = x.known (omega (arith, two)) in
        not_two c k i (omega (arith, e, known, two))

    not_three : (answer_of (Some c) keys input).status ≢ 3
    not_three h =
        let e : (answer words keys input).status ≡ (answer_of (Some c) keys input).status = ap (λ (a : Answer). a.status) (of_command keys input) in
        omega (arith, e, h, small)

    -- only a command that reads the key file refuses it
    asked_keys : (answer_of (Some c) k i).status ≡ 3 → reads_keys c ≡ true
    asked_keys three = elim (either (reads_keys c)) [
      | inl holds ↦ holds
      | inr lacks ↦ absurd ((within_plain c [] i).1 (ap (λ (a : Answer). a.status) (sym (unkeyed c k i lacks)) ∙ three))
    ]

    refused_keys : (s : ℕ) → Obeys words k i b n s → s ≡ 3 → IsAtEnd n.keys ⊎ (most_keys < length k) → ⊥
    refused_keys s x three end =
        let e : (answer words k i).status ≡ (answer_of (Some c) k i).status = ap (λ (a : Answer). a.status) (of_command k i) in
        let known : s ≡ (answer words k i).status = x.known (omega (arith, three)) in
        let t : (answer_of (Some c) k i).status ≡ 3 = omega (arith, e, known, three) in
        let holds : reads_keys c ≡ true = asked_keys t in
        let asks : asks_keys (command_of words) ≡ true = rw is holds in
        elim end [
          | inl at_end ↦
              let same : k ≡ keys = all_keys s x asks at_end in
              not_three (rw same at (three_whatever c k i input t))
          | inr many ↦
              let few : length k ≤ length keys = no_more b.keys.bytes n.keys.bytes k keys x.gave_keys.bytes (tells_keys.told asks) in
              let r : answer_of (Some c) keys input ≡ refusal 3 keys_too_long = long_keys c keys input holds (omega (arith, few, many)) in
              not_three (ap (λ (a : Answer). a.status) r)
        ]

    refused_input : (s : ℕ) → Obeys words k i b n s → s ≡ 4 → IsAtEnd n.input ⊎ (most_of (command_of words) < length i) → ⊥
    refused_input s x four (inl at_end) =
        let e : answer words k i ≡ answer words keys input = whole s x (x.keys_end (inr four)) (λ _. at_end) in
        let t : (answer words k i).status ≡ (answer words keys input).status = ap (λ (a : Answer). a.status) e in
        let known : s ≡ (answer words k i).status = x.known (omega (arith, four)) in
        omega (arith, t, known, four, small)
    refused_input s x four (inr long) = elim (either (reads_input c)) [
      | inl holds ↦
          let asks : asks_input (command_of words) ≡ true = rw is holds in
          let more : length i ≤ length input = no_more b.input.bytes n.input.bytes i input x.gave_input.bytes (tells_input.told asks) in
          let many : most_input c < length i = rw is at long in
          let r : 2 < (answer_of (Some c) keys input).status = long_refused c keys input holds (omega (arith, more, many)) in
          let e : (answer words keys input).status ≡ (answer_of (Some c) keys input).status = ap (λ (a : Answer). a.status) (of_command keys input) in
          omega (arith, e, r, small)
      | inr lacks ↦
          let asks : asks_input (command_of words) ≡ false = rw is lacks in
          let none : length i ≡ 0 = ap (λ (l : List ℕ). length l) (x.input_alone (inl asks)).1 in
          omega (arith, none, long)
    ]

  module _ (s : ℕ) (x : Obeys words k i b n s) (w : Behind (command_of words) k i b n s) (over : IsWritten s ⊎ (s ≡ 4)) where
    asks : (asks_keys (command_of words) ≡ true) × (asks_input (command_of words) ≡ true)
    asks = rw w.is w.reads

    -- the answer to all that was told, by the tables of the key file
    of_tables : answer words keys input ≡ answer_in w.c w.tables input
    of_tables =
        let same : k ≡ keys = all_keys s x asks.0 (x.keys_end over asks.0) in
        of_command w.c w.is keys input ∙ rw (← same) (over_tables w.c k input w.tables w.reads.0 w.few w.is_key_file)

    still_refused : s ≡ 4 → ⊥
    still_refused four =
        let is : (answer_in w.c w.tables input).status ≡ 4 = w.facts.refused four input (tells_input.told asks.1) x.gave_input.bytes in
        let status : (answer words keys input).status ≡ 4 = ap (λ (a : Answer). a.status) of_tables ∙ is in
        omega (arith, status, small)

    still_calm : s ≡ 6 → ⊥
    still_calm six =
        let less : (answer_in w.c w.tables input).status < 2 = rw of_tables at small in
        let fewer = w.facts.broken six input (tells_input.told asks.1) x.gave_input.bytes less in
        let few : fewer.n ≤ length (answer words keys input).output = rw of_tables fewer.few in
        calm fewer.n (answer words keys input).output b.out n.out fewer.counts few calm_out (x.write six)

  refused_ends : (s : ℕ) → Obeys words k i b n s → s ≡ 4 → (writes_along (command_of words) ≡ true) ⊎ (writes_along (command_of words) ≡ false) → Done s
  refused_ends s x four (inl along) = elim (behind (command_of words) k (text_of s (answer words k i)) i b n s along x.along) [
    | inl none ↦ absurd (not_begun s (inl four) none.stops)
    | inr w ↦ absurd (still_refused s x w (inr four) four)
  ]
  refused_ends s x four (inr last) =
      let c = has_command (command_of words) keys input small in absurd (refused_input c.0 c.1 s x four (x.judged four last))

  unwritten_ends : (s : ℕ) → Obeys words k i b n s → s ≡ 6 → (writes_along (command_of words) ≡ true) ⊎ (writes_along (command_of words) ≡ false) → Done s
  unwritten_ends s x six (inl along) = elim (behind (command_of words) k (text_of s (answer words k i)) i b n s along x.along) [
    | inl none ↦ absurd (not_begun s (inr six) none.stops)
    | inr w ↦ absurd (still_calm s x w (inl (inr six)) six)
  ]
  unwritten_ends s x six (inr last) = unwritten s x six last

  pub ends : (s : ℕ) → Obeys words k i b n s → Done s
  ends zero x = written 0 x (omega arith)
  ends (suc zero) x = written 1 x (omega arith)
  ends (suc (suc zero)) x = let c = has_command (command_of words) keys input small in absurd (usage c.0 c.1 2 x refl)
  ends (suc (suc (suc zero))) x = let c = has_command (command_of words) keys input small in absurd (refused_keys c.0 c.1 3 x refl (x.keys_judged refl))
  ends (suc (suc (suc (suc zero)))) x = refused_ends 4 x refl (either (writes_along (command_of words)))
  ends (suc (suc (suc (suc (suc zero))))) x = faulty 5 x (x.read refl)
  ends (suc (suc (suc (suc (suc (suc zero)))))) x = unwritten_ends 6 x refl (either (writes_along (command_of words)))
  ends (suc (suc (suc (suc (suc (suc (suc zero))))))) x = inr refl
  ends (suc (suc (suc (suc (suc (suc (suc (suc s)))))))) x = absurd (omega (arith, x.no_other))

pub completes : (words : List (List ℕ)) (k i : List ℕ) (b n : Sides) (s : ℕ) → Obeys words k i b n s → Completes words b n s
completes words k i b n s x =
    record { done = λ keys input small tells_keys tells_input calm_out. ends words k i keys input b n small tells_keys tells_input calm_out s x }
