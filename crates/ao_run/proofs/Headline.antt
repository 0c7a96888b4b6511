-- The headlines, from the contract for every command and the theorems on every run.
use Rattle.std.proofs.Common.{◌≡◌, ◌↔◌, inl, ℕ, ◌==◌, ◌<◌, ◌≤◌, ◌||◌, ◌&&◌, if◌then◌else◌, List, [], ◌∷◌, length, codes, Bool, true, false, not, All, Option, Some, None, option_map, Result, Ok, Err, refl, sym, ap, ◌∙◌, arith, nat_lt, inr}
use Rattle.std.specs.List.{AllByRecursion}
use Rattle.std.proofs.lemmas.Bool.Decides.{nat_tests}
use Rattle.std.proofs.lemmas.List.Elements.{All-from_get_or}
use Rattle.ao_base.specs.Outside.{Side, IsAtEnd}
use Rattle.book_keys.specs.declared.fault.TableFault.{TableFault}
use Rattle.book_keys.specs.Nodes.{most_keys, tables_of}
use Rattle.book_keys.specs.Plans.{rows_at}
use Rattle.book_keys.specs.Rows.{Table}
use Rattle.book_lines.specs.declared.text_fault.TextFault.{TextFault}
use Rattle.book_pcap.specs.Packets.{FileFault, packets_of}
use Rattle.book_link.specs.declared.event.Event.{Event}
use Rattle.book_link.specs.Runs.{run}
use Rattle.book_link.specs.Storm.{storm_events, storm_setup}
use Rattle.book_link.specs.Worlds.{Setup, forgeries, setup_of}
use Rattle.book_answer.specs.declared.command.Command.{Command}
use Rattle.book_answer.specs.declared.command.Command.TheVariants as command
use Rattle.book_cmd_node.specs.declared.node.NodeScript.{NodeScript}
use Rattle.book_cmd_link.specs.declared.script.Script.{Script}
use Rattle.book_cmd_link.specs.declared.timed.TimedScript.{TimedScript}
use Rattle.book_answer.specs.Answers.{Answer, answer_by, answer_of, answer_over, answer_with_keys, answer_within, bgp_over, if_read, judged, keys_too_long, linked, linked_by_shared, linted, most_input, node_over, pcap_fault_line, refusal, reported, stormed, timed_over, too_long, too_many_events, long_text}
use Rattle.book_cmd_link.specs.TimedRuns.{most_events}
use Rattle.book_cmd_link.specs.BgpRuns.{bgp_faults}
use Rattle.book_cmd_check.specs.Captures.{Stored}
use Rattle.book_answer.specs.Commands.{command_of, reads_input, reads_keys}
use Rattle.book_cmd_link.specs.declared.script.KeysFrom.TheVariants as keys_from
use Rattle.book_cmd_link.specs.LinkFiles.{script_of}
use Rattle.book_cmd_node.specs.NodeRuns.{node_script_of}
use Rattle.book_cmd_link.specs.TimedRuns.{expand, timed_script_of}
use Rattle.cmd_link.proofs.TellLaws.{speaks_in_order, tells_messages}
use Rattle.law_headline.specs.GetsThrough.{GetsThrough}
use Rattle.law_headline.specs.Lawful.{Lawful}
use Rattle.law_headline.proofs.FilesThrough.{keyed_through, shared_through, timed_through}
use Rattle.law_headline.proofs.InputLaws.{events_fit, keyed_fits, keyed_tables, shared_fits, shared_tables_fit}
use Rattle.law_headline.proofs.LawfulRuns.{lawful}
use Rattle.law_headline.proofs.ReportEnds.{last_line}
use Rattle.law_headline.proofs.StormFits.{storm_fits, storm_tables, events_fit as events_fit_storm}
use Rattle.law_headline.proofs.Through.{storm_through}
use Rattle.law_link.specs.Laws.{EventFits, SetupFits, TablesFit}
use Rattle.law_seen.proofs.Relied.{acknowledges_received, is_reliable, summary_says_seen}
use Rattle.law_node.proofs.Runs.{each_alone}
use Rattle.book_base.specs.Hexadecimal.{IsByte}
use Rattle.law_pcap.specs.LineForms.{line_form}
use Rattle.law_pcap.proofs.Judged.{answers_alike}
use Rattle.law_pcap.proofs.Records.{line_form_shows}
use Rattle.book_cmd_link.specs.LintTexts.{lint_pair_of}
use Rattle.book_keys.specs.declared.plan.Plan.{Plan}
use Rattle.book_lines.specs.Said.{said_in}
use Rattle.ao_run.proofs.Planned.{ApartAndCarried, all_aligned, all_carried, apart_of}
use Rattle.ao_run.specs.Delivers.{CarriesAll, CommandsDeliver, Delivers, DeliversPackets, DeliversStorm, HoldsAsSeen, Keyed, LinkFile, MessageFile, NodeFile, Says, TimedFile, named_tables}
use Rattle.ao_run.specs.Obeys.{Obeys, Sides, asks_input, asks_keys, Along, text_of}
use Rattle.ao_run.specs.Gathered.{is_ready}
use Rattle.ao_run.proofs.AnswerLaws.{keyed}
use Rattle.ao_run.proofs.CommandLaws.{named_ready}
use Rattle.law_headline.proofs.TimedFits.{expanded_fit, timed_fits}

-- what holds of what is seen of a run of events that fit
seen_of : (setup : Setup) → SetupFits setup → (events : List Event) → AllByRecursion EventFits events → HoldsAsSeen setup events
seen_of setup fits events all = record {
  reliable = is_reliable setup fits events all;
  acknowledged = acknowledges_received setup fits events all;
  summary = summary_says_seen setup fits events all;
}

-- the answer to words, by what they name
abbrev answer : List (List ℕ) → List ℕ → List ℕ → Answer
answer words keys input = answer_of (command_of words) keys input

-- an answer that is done isn't refused
not_refused : (b : Bool) (a : Answer) (n s : ℕ) (text : List ℕ) → s < 2 → 2 < n → s ≡ (if b then refusal n text else a).status → b ≡ false
not_refused true a n s text small large known = absurd (omega (arith, small, large, known))
not_refused false a n s text small large known = refl

within : (b : Bool) (a : Answer) (n s : ℕ) (text : List ℕ) → s < 2 → 2 < n → s ≡ (if b then refusal n text else a).status → (if b then refusal n text else a) ≡ a
within true a n s text small large known = absurd (omega (arith, small, large, known))
within false a n s text small large known = refl

none_of : (n : ℕ) → (n == 0) ≡ true → n ≡ 0
none_of n e = grind (arith, nat_tests)

some_of : (n : ℕ) → (n == 0) ≡ false → n ≡ 0 → ⊥
some_of n e z = grind (arith, nat_tests)

counted_by : (b : Bool) (s n : ℕ) → (n == 0) ≡ b → s ≡ (if not b then 1 else 0) → (s ≡ 0) ↔ (n ≡ 0)
counted_by true s n e h = ((λ _. none_of n e), (λ _. h))
counted_by false s n e h = ((λ z. absurd (omega (arith, z, h))), (λ z. absurd (some_of n e z)))

counted : (s n : ℕ) → s ≡ (if not (n == 0) then 1 else 0) → (s ≡ 0) ↔ (n ≡ 0)
counted s n h = counted_by (n == 0) s n refl h

both_by : (a b : Bool) (s n m : ℕ) → (n == 0) ≡ a → (m == 0) ≡ b → s ≡ (if not a || not b then 1 else 0) → (s ≡ 0) ↔ ((n ≡ 0) × (m ≡ 0))
both_by true true s n m e f h = ((λ _. (none_of n e, none_of m f)), (λ _. h))
both_by true false s n m e f h = ((λ z. absurd (omega (arith, z, h))), (λ z. absurd (some_of m f z.1)))
both_by false b s n m e f h = ((λ z. absurd (omega (arith, z, h))), (λ z. absurd (some_of n e z.0)))

both : (s n m : ℕ) → s ≡ (if not (n == 0) || not (m == 0) then 1 else 0) → (s ≡ 0) ↔ ((n ≡ 0) × (m ≡ 0))
both s n m h = both_by (n == 0) (m == 0) s n m refl refl h

-- what an input with an output says
value_in : {S : Type 0} (made : S → Answer) (r : Result S TextFault) (s : ℕ) → s < 2 → s ≡ (if_read made r).status → (x : S) × (r ≡ Ok x)
value_in made (Ok x) s small known = (x, refl)
value_in made (Err e) s small known = absurd (omega (arith, small, known))

-- the tables of a key file with an output
tables_in : (c : Command) (input : List ℕ) (r : Result (List Table) TableFault) (s : ℕ) → s < 2 → s ≡ (answer_by c input r).status → (tables : List Table) × (r ≡ Ok tables)
tables_in c input (Ok tables) s small known = (tables, refl)
tables_in c input (Err e) s small known = absurd (omega (arith, small, known))

-- the answer of a command is that over the tables of the key file, and the input is within its limit
record IsOver (c : Command) (k i : List ℕ) : Type 0 where
  tables : List Table
  is_key_file : tables_of k ≡ Ok tables
  short : (reads_input c && nat_lt (most_input c) (length i)) ≡ false
  is : answer_of (Some c) k i ≡ answer_over c tables i

over : (c : Command) (k i : List ℕ) (s : ℕ) → reads_keys c ≡ true → s < 2 → s ≡ (answer_of (Some c) k i).status → IsOver c k i
over c k i s holds small known =
    let one : answer_of (Some c) k i ≡ answer_with_keys c k i = keyed c k i holds in
    let two : answer_of (Some c) k i ≡ answer_by c i (tables_of k) =
    one ∙ within (nat_lt most_keys (length k)) (answer_by c i (tables_of k)) 3 s keys_too_long small (omega arith) (known ∙ ap (λ (y : Answer). y.status) one) in
    let t = tables_in c i (tables_of k) s small (known ∙ ap (λ (y : Answer). y.status) two) in
    let three : answer_of (Some c) k i ≡ answer_within c t.0 i = two ∙ ap (λ (r : Result (List Table) TableFault). answer_by c i r) t.1 in
    let long = reads_input c && nat_lt (most_input c) (length i) in
    let known_three = known ∙ ap (λ (y : Answer). y.status) three in
    record {
      tables = t.0;
      is_key_file = t.1;
      short = not_refused long (answer_over c t.0 i) 4 s (long_text c i) small (omega arith) known_three;
      is = three ∙ within long (answer_over c t.0 i) 4 s (long_text c i) small (omega arith) known_three;
    }

-- an input with an output says what the answer is made of
says : {S : Type 0} (script_in : List ℕ → Result S TextFault) (made : S → Answer) (Holds : S → Type 0) (i : List ℕ) (now : Side) (a : Answer) (s : ℕ) →
    s < 2 → s ≡ a.status → IsAtEnd now → a ≡ if_read made (script_in i) → ((x : S) → script_in i ≡ Ok x → a ≡ made x → Holds x) → Says script_in i now Holds
says script_in made Holds i now a s small known at_end is holds =
    let got = value_in made (script_in i) s small (known ∙ ap (λ (y : Answer). y.status) is) in
    record { read_out = at_end; script = got.0; is_script = got.1; holds = holds got.0 got.1 (is ∙ ap (if_read made) got.1) }

module _ (words : List (List ℕ)) (k i : List ℕ) (b n : Sides) (s : ℕ) (x : Obeys words k i b n s) (small : s < 2) where
  known : s ≡ (answer words k i).status
  known = x.known (omega (arith, small))

  -- of a run whose report is the answer
  delivers : (setup : Setup) (events : List Event) → answer words k i ≡ reported setup events → TablesFit setup → HoldsAsSeen setup events → ApartAndCarried setup events → Lawful setup events → GetsThrough setup events →
      Delivers setup events b.out n.out s
  delivers setup events is tables seen apart law through = record {
    written = rw is at (x.whole small);
    counted = counted s (forgeries (run setup events).history) (known ∙ ap (λ (y : Answer). y.status) is);
    last_line = last_line setup events;
    as_seen = seen;
    apart = apart.apart;
    carried = apart.carried;
    tables = tables;
    lawful = law;
    gets_through = through;
  }

  -- of a link whose ends have timers
  timed_delivers : (tables : List Table) (script : TimedScript) → tables_of k ≡ Ok tables → timed_script_of i ≡ Ok script →
      answer words k i ≡ timed_over tables script → TimedFile tables script b n s
  timed_delivers tables script key_file read is =
      let setup = setup_of tables script.a script.b in
      let events = (expand setup script.events).events in
      let long = nat_lt most_events (length events) in
      let known_is = known ∙ ap (λ (y : Answer). y.status) is in
      let short : long ≡ false = not_refused long (reported setup events) 4 s too_many_events small (omega arith) known_is in
      let few : length events ≤ most_events = grind (arith, nat_tests) in
      record {
        few = few;
        plain_run =
            delivers setup events (is ∙ within long (reported setup events) 4 s too_many_events small (omega arith) known_is)
            (keyed_tables k tables script.a script.b key_file)
            (seen_of setup (timed_fits k i tables script key_file read) events (expanded_fit setup i script read))
            (apart_of setup (timed_fits k i tables script key_file read) (keyed_tables k tables script.a script.b key_file) events (expanded_fit setup i script read))
            (lawful setup (timed_fits k i tables script key_file read) events (expanded_fit setup i script read))
            (timed_through k i tables script key_file read few);
      }

  -- of messages
  messages_delivered : (tables : List Table) (script : Script) → tables_of k ≡ Ok tables → script_of keys_from.KeyFile i ≡ Ok script →
      answer words k i ≡ bgp_over tables script → MessageFile tables script b n s
  messages_delivered tables script key_file read is =
      let setup = setup_of tables script.a script.b in
      let fits = keyed_fits k i tables script key_file read in
      let all = events_fit keys_from.KeyFile i script read in
      record {
        written = rw is at (x.whole small);
        counted = both s (forgeries (run setup script.events).history) (bgp_faults (run setup script.events)) (known ∙ ap (λ (y : Answer). y.status) is);
        told = tells_messages setup script.events;
        in_order = speaks_in_order setup script.events fits all;
        as_seen = seen_of setup fits script.events all;
        apart = (apart_of setup fits (keyed_tables k tables script.a script.b key_file) script.events all).apart;
        carried = (apart_of setup fits (keyed_tables k tables script.a script.b key_file) script.events all).carried;
        tables = keyed_tables k tables script.a script.b key_file;
        lawful = lawful setup fits script.events all;
        gets_through = keyed_through k i tables script key_file read;
      }

  -- of a storm
  storm_delivers : (seed count : ℕ) → count ≤ 10000 → answer words k i ≡ stormed (storm_events seed count) → DeliversStorm (storm_events seed count) b.out n.out s
  storm_delivers seed count low is = record {
    written = rw is at (x.whole small);
    counted = counted s (forgeries (run storm_setup (storm_events seed count)).history) (known ∙ ap (λ (y : Answer). y.status) is);
    as_seen = seen_of storm_setup storm_fits (storm_events seed count) (events_fit_storm seed count);
    apart = (apart_of storm_setup storm_fits storm_tables (storm_events seed count) (events_fit_storm seed count)).apart;
    tables = storm_tables;
    lawful = lawful storm_setup storm_fits (storm_events seed count) (events_fit_storm seed count);
    gets_through = storm_through seed count low;
  }

  -- of a node
  node_delivers : (tables : List Table) (script : NodeScript) → answer words k i ≡ node_over tables script → NodeFile tables script b n s
  node_delivers tables script is = record {
    written = rw is at (x.whole small);
    done = known ∙ ap (λ (y : Answer). y.status) is;
    alone = λ pair. each_alone pair (rows_at tables script.address) script.events;
  }

-- of words that name a command, with an output
module _ (ws : List (List ℕ)) (c : Command) (k i : List ℕ) (b n : Sides) (s : ℕ) (x : Obeys ws k i b n s) (small : s < 2) (command_is : command_of ws ≡ Some c) where
  status_is : s ≡ (answer ws k i).status
  status_is = known ws k i b n s x small

  answer_is : answer ws k i ≡ answer_of (Some c) k i
  answer_is = ap (λ (o : Option Command). answer_of o k i) command_is

  over_tables : reads_keys c ≡ true → IsOver c k i
  over_tables holds = over c k i s holds small (status_is ∙ ap (λ (y : Answer). y.status) answer_is)

  input_ended : reads_input c ≡ true → IsAtEnd n.input
  input_ended reads = x.input_end (inl small) (ap asks_input command_is ∙ reads)

  keyed_file : {S : Type 0} (script_in : List ℕ → Result S TextFault) (made : List Table → S → Answer) (Holds : List Table → S → Type 0) →
      reads_keys c ≡ true → reads_input c ≡ true → (o : IsOver c k i) → answer_over c o.tables i ≡ if_read (made o.tables) (script_in i) →
      ((script : S) → script_in i ≡ Ok script → answer ws k i ≡ made o.tables script → Holds o.tables script) →
      Keyed k n.keys (λ tables. Says script_in i n.input (λ script. Holds tables script))
  keyed_file script_in made Holds keyed_by reads o over_is holds = record {
    keys_read_out = x.keys_end (inl (inl small)) (ap asks_keys command_is ∙ keyed_by);
    tables = o.tables;
    is_key_file = o.is_key_file;
    over =
        says script_in (made o.tables) (λ script. Holds o.tables script) i n.input (answer ws k i) s small status_is (input_ended reads) (answer_is ∙ (o.is ∙ over_is))
        holds;
  }

-- what the words name
named_link : command_of (codes "link" ∷ []) ≡ Some command.Link
unfolding command_of
named_link = refl

named_link_keys : (name : List ℕ) → command_of (codes "link" ∷ name ∷ []) ≡ Some command.LinkKeys
unfolding command_of
named_link_keys name = refl

named_timed : (name : List ℕ) → command_of (codes "timed" ∷ name ∷ []) ≡ Some command.Timed
unfolding command_of
named_timed name = refl

named_bgp : (name : List ℕ) → command_of (codes "bgp" ∷ name ∷ []) ≡ Some command.Bgp
unfolding command_of
named_bgp name = refl

named_node : (name : List ℕ) → command_of (codes "node" ∷ name ∷ []) ≡ Some command.Node
unfolding command_of
named_node name = refl

named_packets : (name : List ℕ) → command_of (codes "check" ∷ codes "--pcap" ∷ name ∷ []) ≡ Some command.CheckPcap
unfolding command_of
named_packets name = refl

linked_file : (k i : List ℕ) (b n : Sides) (s : ℕ) → Obeys (codes "link" ∷ []) k i b n s → s < 2 →
    Says (script_of keys_from.LinkFile) i n.input (λ script. LinkFile (named_tables script) script b n s)
linked_file k i b n s x small =
    let ws = codes "link" ∷ [] in
    let is_known : s ≡ (answer ws k i).status = known ws k i b n s x small in
    let read = if_read linked_by_shared (script_of keys_from.LinkFile i) in
    let is_within : answer ws k i ≡ answer_within command.Link [] i = answer_is ws command.Link k i b n s x small named_link in
    let is : answer ws k i ≡ read =
    is_within ∙ within (nat_lt 33554432 (length i)) read 4 s too_long small (omega arith) (is_known ∙ ap (λ (y : Answer). y.status) is_within) in
    says (script_of keys_from.LinkFile) linked_by_shared (λ script. LinkFile (named_tables script) script b n s) i n.input (answer ws k i) s small is_known
    (input_ended ws command.Link k i b n s x small named_link refl) is
    (λ script found made.
    delivers ws k i b n s x small (setup_of (named_tables script) script.a script.b) script.events made (shared_tables_fit script)
    (seen_of (setup_of (named_tables script) script.a script.b) (shared_fits i script found) script.events (events_fit keys_from.LinkFile i script found))
    (apart_of (setup_of (named_tables script) script.a script.b) (shared_fits i script found) (shared_tables_fit script) script.events (events_fit keys_from.LinkFile i script found))
    (lawful (setup_of (named_tables script) script.a script.b) (shared_fits i script found) script.events (events_fit keys_from.LinkFile i script found)) (shared_through i script found))

linked_keys_file : (name k i : List ℕ) (b n : Sides) (s : ℕ) → Obeys (codes "link" ∷ name ∷ []) k i b n s → s < 2 →
    Keyed k n.keys (λ tables. Says (script_of keys_from.KeyFile) i n.input (λ script. LinkFile tables script b n s))
linked_keys_file name k i b n s x small =
    let ws = codes "link" ∷ name ∷ [] in
    let o = over_tables ws command.LinkKeys k i b n s x small (named_link_keys name) refl in
    keyed_file ws command.LinkKeys k i b n s x small (named_link_keys name) (script_of keys_from.KeyFile) linked (λ tables script. LinkFile tables script b n s) refl refl o refl
    (λ script found made.
    delivers ws k i b n s x small (setup_of o.tables script.a script.b) script.events made (keyed_tables k o.tables script.a script.b o.is_key_file)
    (seen_of (setup_of o.tables script.a script.b) (keyed_fits k i o.tables script o.is_key_file found) script.events (events_fit keys_from.KeyFile i script found))
    (apart_of (setup_of o.tables script.a script.b) (keyed_fits k i o.tables script o.is_key_file found) (keyed_tables k o.tables script.a script.b o.is_key_file) script.events (events_fit keys_from.KeyFile i script found))
    (lawful (setup_of o.tables script.a script.b) (keyed_fits k i o.tables script o.is_key_file found) script.events (events_fit keys_from.KeyFile i script found))
    (keyed_through k i o.tables script o.is_key_file found))

timed_file : (name k i : List ℕ) (b n : Sides) (s : ℕ) → Obeys (codes "timed" ∷ name ∷ []) k i b n s → s < 2 →
    Keyed k n.keys (λ tables. Says timed_script_of i n.input (λ script. TimedFile tables script b n s))
timed_file name k i b n s x small =
    let ws = codes "timed" ∷ name ∷ [] in
    let o = over_tables ws command.Timed k i b n s x small (named_timed name) refl in
    keyed_file ws command.Timed k i b n s x small (named_timed name) timed_script_of timed_over (λ tables script. TimedFile tables script b n s) refl refl o refl
    (λ script found made. timed_delivers ws k i b n s x small o.tables script o.is_key_file found made)

message_file : (name k i : List ℕ) (b n : Sides) (s : ℕ) → Obeys (codes "bgp" ∷ name ∷ []) k i b n s → s < 2 →
    Keyed k n.keys (λ tables. Says (script_of keys_from.KeyFile) i n.input (λ script. MessageFile tables script b n s))
message_file name k i b n s x small =
    let ws = codes "bgp" ∷ name ∷ [] in
    let o = over_tables ws command.Bgp k i b n s x small (named_bgp name) refl in
    keyed_file ws command.Bgp k i b n s x small (named_bgp name) (script_of keys_from.KeyFile) bgp_over (λ tables script. MessageFile tables script b n s) refl refl o refl
    (λ script found made. messages_delivered ws k i b n s x small o.tables script o.is_key_file found made)

-- a storm that words name draws at most 10,000 events
storm_low : (ws : List (List ℕ)) (seed count : ℕ) → command_of ws ≡ Some (command.Storm seed count) → count ≤ 10000
storm_low ws seed count is =
    let ready : is_ready (Some (command.Storm seed count)) ≡ true = ap is_ready (sym is) ∙ named_ready ws in
    grind (arith, nat_tests)

stormed_run : (ws : List (List ℕ)) (seed count : ℕ) (k i : List ℕ) (b n : Sides) (s : ℕ) → Obeys ws k i b n s → s < 2 → command_of ws ≡ Some (command.Storm seed count) →
    DeliversStorm (storm_events seed count) b.out n.out s
stormed_run ws seed count k i b n s x small is =
    storm_delivers ws k i b n s x small seed count (storm_low ws seed count is) (answer_is ws (command.Storm seed count) k i b n s x small is)

node_file : (name k i : List ℕ) (b n : Sides) (s : ℕ) → Obeys (codes "node" ∷ name ∷ []) k i b n s → s < 2 →
    Keyed k n.keys (λ tables. Says node_script_of i n.input (λ script. NodeFile tables script b n s))
node_file name k i b n s x small =
    let ws = codes "node" ∷ name ∷ [] in
    let o = over_tables ws command.Node k i b n s x small (named_node name) refl in
    keyed_file ws command.Node k i b n s x small (named_node name) node_script_of node_over (λ tables script. NodeFile tables script b n s) refl refl o refl
    (λ script found made. node_delivers ws k i b n s x small o.tables script made)

-- connections of which `lint` says that all are aligned
linted_file : (ws : List (List ℕ)) (plan : Plan) (k i : List ℕ) (b n : Sides) (s : ℕ) → Obeys ws k i b n s → s ≡ 0 → command_of ws ≡ Some (command.Lint plan) →
    Keyed k n.keys (λ tables. Says (said_in lint_pair_of) i n.input (λ said. CarriesAll plan tables said))
linted_file ws plan k i b n s x zero is =
    let small : s < 2 = omega arith in
    let o = over_tables ws (command.Lint plan) k i b n s x small is refl in
    keyed_file ws (command.Lint plan) k i b n s x small is (said_in lint_pair_of) (λ tables said. linted tables plan said) (λ tables said. CarriesAll plan tables said) refl refl o refl
    (λ said found made. all_carried k o.tables o.is_key_file plan said (all_aligned o.tables plan said (sym zero ∙ (known ws k i b n s x small ∙ ap (λ (y : Answer). y.status) made))))

-- a pcap file with an output has no fault
no_fault : (tables : List Table) (stored : List Stored) (fault : Option FileFault) (s : ℕ) → s < 2 → s ≡ (judged tables stored (option_map pcap_fault_line fault)).status → fault ≡ None
no_fault tables stored None s small known = refl
no_fault tables stored (Some f) s small known = absurd (omega (arith, small, known))

-- all that was read of a pcap file are bytes
file_bytes : (text k i : List ℕ) (b n : Sides) (s : ℕ) → Along (Some command.CheckPcap) k text i b n s → All IsByte i
file_bytes text k i b n s (inl none) = rw (none.unread.1) (All-from_get_or IsByte [] 0 (λ j within. absurd (omega arith)))
file_bytes text k i b n s (inr begun) = begun.checks.judges.bytes

-- one that was read to its end within the limit, without a fault
faultless_file : (name k i : List ℕ) (b n : Sides) (s : ℕ) → Obeys (codes "check" ∷ codes "--pcap" ∷ name ∷ []) k i b n s → s < 2 → ((packets_of i).fault ≡ None) × (length i ≤ 268435456)
faultless_file name k i b n s x small =
    let ws = codes "check" ∷ codes "--pcap" ∷ name ∷ [] in
    let o = over_tables ws command.CheckPcap k i b n s x small (named_packets name) refl in
    let short : nat_lt 268435456 (length i) ≡ false = o.short in
    let few : length i ≤ 268435456 = grind (arith, nat_tests) in
    let is : answer ws k i ≡ answer_over command.CheckPcap o.tables i = answer_is ws command.CheckPcap k i b n s x small (named_packets name) ∙ o.is in
    let none : (packets_of i).fault ≡ None = no_fault o.tables _ (packets_of i).fault s small (known ws k i b n s x small ∙ ap (λ (y : Answer). y.status) is) in
    (none, few)

packets_delivered : (name k i : List ℕ) (b n : Sides) (s : ℕ) → Obeys (codes "check" ∷ codes "--pcap" ∷ name ∷ []) k i b n s → DeliversPackets name k i s
packets_delivered name k i b n s x =
    let along : Along (Some command.CheckPcap) k (text_of s (answer_of (Some command.CheckPcap) k i)) i b n s = rw (named_packets name) at x.along in
    let all = file_bytes (text_of s (answer_of (Some command.CheckPcap) k i)) k i b n s along in
    record {
      lines = λ short. (answers_alike name k i (line_form i) short.0 short.1 (line_form_shows i all)).output;
      whole = λ short none. (answers_alike name k i (line_form i) short.0 short.1 (line_form_shows i all)).whole none;
      faultless = faultless_file name k i b n s x;
    }

pub commands_deliver : (words : List (List ℕ)) (k i : List ℕ) (b n : Sides) (s : ℕ) → Obeys words k i b n s → CommandsDeliver words k i b n s
commands_deliver words k i b n s x = record {
  link = λ is small. linked_file k i b n s (rw is at x) small;
  link_keys = λ name is small. linked_keys_file name k i b n s (rw is at x) small;
  timed = λ name is small. timed_file name k i b n s (rw is at x) small;
  storm = λ seed count is small. stormed_run words seed count k i b n s x small is;
  bgp = λ name is small. message_file name k i b n s (rw is at x) small;
  node = λ name is small. node_file name k i b n s (rw is at x) small;
  lint = λ plan is zero. linted_file words plan k i b n s x zero is;
  packets = λ name is. packets_delivered name k i b n s (rw is at x);
}
