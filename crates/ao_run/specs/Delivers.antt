-- The headlines: what the commands that run say of every input, over every key file. Its top is
-- `CommandsDeliver` (own).
use Rattle.std.specs.Prelude.{◌≡◌, ◌↔◌, ℕ, ◌<◌, ◌≤◌, List, [], ◌∷◌, ◌++◌, length}
use Rattle.std.specs.Prelude.{codes, Some, Result, Ok, None}
use Rattle.std.specs.List.{AllByRecursion}
use Rattle.book_base.specs.declared.end.End.{End}
use Rattle.book_base.specs.declared.address.Pair.{Pair}
use Rattle.ao_base.specs.Outside.{Side, WasWritten, IsAtEnd}
use Rattle.book_keys.specs.Nodes.{tables_of}
use Rattle.book_keys.specs.declared.plan.Plan.{Plan}
use Rattle.book_keys.specs.Plans.{rows_at}
use Rattle.book_keys.specs.Rows.{Row, Table}
use Rattle.book_lines.specs.declared.text_fault.TextFault.{TextFault}
use Rattle.book_link.specs.declared.event.Event.{Event}
use Rattle.book_link.specs.Reports.{report, counts_line, summary}
use Rattle.book_link.specs.Runs.{run}
use Rattle.book_link.specs.Storm.{storm_events, storm_setup}
use Rattle.book_link.specs.Worlds.{Setup, forgeries, setup_of}
use Rattle.book_answer.specs.declared.command.Command.TheVariants.{Lint, Storm}
use Rattle.book_cmd_node.specs.declared.node.NodeEvent.{NodeEvent}
use Rattle.book_cmd_node.specs.declared.node.NodeScript.{NodeScript}
use Rattle.book_cmd_link.specs.declared.script.Script.{Script}
use Rattle.book_cmd_link.specs.declared.timed.TimedEvent.{TimedEvent}
use Rattle.book_cmd_link.specs.declared.timed.TimedScript.{TimedScript}
use Rattle.book_answer.specs.Answers.{Answer, answer}
use Rattle.book_cmd_link.specs.TimedRuns.{most_events}
use Rattle.book_cmd_link.specs.declared.script.KeysFrom.TheVariants as keys_from
use Rattle.book_cmd_link.specs.LinkFiles.{shared_by}
use Rattle.book_cmd_link.specs.BgpRuns.{bgp_faults, bgp_text}
use Rattle.book_cmd_link.specs.LintTexts.{lint_pair_of}
use Rattle.book_lines.specs.Said.{Said, said_in}
use Rattle.book_answer.specs.Commands.{command_of}
use Rattle.book_cmd_link.specs.LinkFiles.{script_of}
use Rattle.book_cmd_node.specs.NodeRuns.{node_script_of, node_text}
use Rattle.law_node.specs.Alone.{Alone}
use Rattle.book_cmd_link.specs.TimedRuns.{expand, timed_script_of}
use Rattle.book_pcap.specs.Packets.{most_capture, packets_of}
use Rattle.cmd_link.specs.Tellings.{SpeaksInOrder, TellsMessages}
use Rattle.law_headline.specs.GetsThrough.{GetsThrough}
use Rattle.law_seen.specs.Carried.{Carries, IsAligned, KeepsTables}
use Rattle.law_seen.specs.Apart.{EachHasOrigin, EachResetIsAnAbort, SessionBySession}
use Rattle.law_headline.specs.Lawful.{AtEachEvent, AtEachMoment, Lawful}
use Rattle.law_link.specs.Headline.{few_events}
use Rattle.law_link.specs.Laws.{TablesFit}
use Rattle.law_seen.specs.Seen.{AcknowledgesReceived, ReliableUnlessForged}
use Rattle.law_seen.specs.Summaries.{SummarySaysSeen}
use Rattle.law_pcap.specs.LineForms.{line_form}
use Rattle.ao_run.specs.Obeys.{Sides}

-- the key file is one of valid tables, it was read to its end, and what is said of tables holds
-- of these (own)
pub record Keyed (keys : List ℕ) (now : Side) (Over : List Table → Type 0) : Type 0 where
  pub keys_read_out : IsAtEnd now
  pub tables : List Table
  pub is_key_file : tables_of keys ≡ Ok tables
  pub over : Over tables

-- the input is in the command's grammar, it was read to its end, and what is said of scripts
-- holds of the one that it says (own)
pub record Says {S : Type 0} (script_in : List ℕ → Result S TextFault) (input : List ℕ) (now : Side)
    (Holds : S → Type 0) : Type 0 where
  pub read_out : IsAtEnd now
  pub script : S
  pub is_script : script_in input ≡ Ok script
  pub holds : Holds script

-- what holds of a run of these events, said of what is seen of it alone: the events, what came of
-- each, and the lines of its sessions (own)
pub record HoldsAsSeen (setup : Setup) (events : List Event) : Type 0 where
  -- where no forgery is counted: what a session got is a prefix of what its peer gave, one that is
  -- nobody's peer got nothing, and the end is told only where all that the peer gave was got
  pub reliable : ReliableUnlessForged setup events
  -- what a session acknowledges was received
  pub acknowledged : AcknowledgesReceived setup events
  -- the lines of the sessions say what is seen of them
  pub summary : SummarySaysSeen setup events

-- what holds of a run of these events session by session, and arrival by arrival (own)
pub record HoldsApart (setup : Setup) (events : List Event) : Type 0 where
  -- a forgery in one session voids its own promises, and not those of others
  pub session_by_session : AtEachMoment setup events SessionBySession
  -- an arrival that is no forgery says what the session's partner had said before, and a reset by
  -- one comes only of a partner that was aborted
  pub has_origin : AtEachEvent setup events (EachHasOrigin setup)
  pub reset_by_abort : AtEachEvent setup events (EachResetIsAnAbort setup)

-- where `lint` calls the tables with which both ends begin `aligned` for a plan, and no row is added
-- or withdrawn: what comes as it was made, in time, is admitted, and no send lacks a key (own)
abbrev pub CarriedWhereAligned : Setup → List Event → Type 0
CarriedWhereAligned setup events =
    (plan : Plan) → IsAligned plan setup → AllByRecursion KeepsTables events
    → length events ≤ few_events
    → AtEachMoment setup events (λ w. (e : End) → Carries plan setup w e)

-- what holds of the run of these events, with the status of the call (own)
pub record Delivers (setup : Setup) (events : List Event) (out_before out_now : Side) (status : ℕ)
    : Type 0 where
  -- its report was written
  pub written : WasWritten (report setup events) out_before out_now
  -- the status is 0 exactly where no forgery is counted
  pub counted : (status ≡ 0) ↔ (forgeries (run setup events).history ≡ 0)
  -- the last line of the report says how many are
  pub last_line : (front : List ℕ) × (report setup events ≡ front ++ counts_line (run setup events))
  -- prefix, nobody's peer, end of stream, and acknowledgement, by what is seen
  pub as_seen : HoldsAsSeen setup events
  -- the same of one session and of one arrival, whatever is forged in others
  pub apart : HoldsApart setup events
  -- tables that `lint` calls aligned carry it
  pub carried : CarriedWhereAligned setup events
  -- the tables with which its ends begin have no overlap (RFC 7210, section 3)
  pub tables : TablesFit setup
  -- prefix, what was received and made, one partner, end of stream, rollover, no gap, origin, reset
  pub lawful : Lawful setup events
  -- few bytes given, acknowledgement, and progress over a way that loses nothing
  pub gets_through : GetsThrough setup events

-- what holds of the run of a link whose ends have timers (RFC 6298): its plain run isn't too
-- long, and what holds of runs holds of that one (own)
pub record DeliversTimed (setup : Setup) (events : List TimedEvent) (out_before out_now : Side)
    (status : ℕ) : Type 0 where
  pub few : length (expand setup events).events ≤ most_events
  pub plain_run : Delivers setup (expand setup events).events out_before out_now status

-- of the run of these events, whose delivered bytes are read as BGP messages (RFC 4271)
pub record DeliversMessages (setup : Setup) (events : List Event) (out_before out_now : Side)
    (status : ℕ) : Type 0 where
  -- the messages and the summary were written
  pub written : WasWritten (bgp_text setup events) out_before out_now
  -- the status is 0 exactly where no forgery is counted and no session reached a faulty message
  pub counted : (status ≡ 0) ↔ ((forgeries (run setup events).history ≡ 0)
      × (bgp_faults (run setup events) ≡ 0))
  -- the lines written for each session are those of the messages in its delivered bytes, in
  -- whatever pieces they were taken, and of the fault that ends them; so many lines as sessions
  -- with a fault are of faults
  pub told : TellsMessages setup events
  -- where no forgery is counted they begin the messages in the bytes given to its partner
  pub in_order : SpeaksInOrder (run setup events)
  -- prefix, nobody's peer, end of stream, and acknowledgement, by what is seen
  pub as_seen : HoldsAsSeen setup events
  -- the same of one session and of one arrival, whatever is forged in others
  pub apart : HoldsApart setup events
  -- tables that `lint` calls aligned carry it
  pub carried : CarriedWhereAligned setup events
  -- the tables with which its ends begin have no overlap (RFC 7210, section 3)
  pub tables : TablesFit setup
  -- prefix, what was received and made, one partner, end of stream, rollover, no gap, origin, reset
  pub lawful : Lawful setup events
  -- few bytes given, acknowledgement, and progress over a way that loses nothing
  pub gets_through : GetsThrough setup events

-- what holds of the run of these events of a storm's link, of which only the summary is written
-- (own)
pub record DeliversStorm (events : List Event) (out_before out_now : Side) (status : ℕ)
    : Type 0 where
  -- the summary was written
  pub written : WasWritten (summary (run storm_setup events)) out_before out_now
  -- the status is 0 exactly where no forgery is counted
  pub counted : (status ≡ 0) ↔ (forgeries (run storm_setup events).history ≡ 0)
  -- as of a link's run
  pub as_seen : HoldsAsSeen storm_setup events
  pub apart : HoldsApart storm_setup events
  pub tables : TablesFit storm_setup
  pub lawful : Lawful storm_setup events
  pub gets_through : GetsThrough storm_setup events

-- what holds of the run of a node with these rows (own)
pub record DeliversNode (rows : List Row) (events : List NodeEvent) (out_before out_now : Side)
    (status : ℕ) : Type 0 where
  -- the answers were written
  pub written : WasWritten (node_text rows events) out_before out_now
  pub done : status ≡ 0
  -- each connection gives the answers that it would give alone
  pub alone : (pair : Pair) → Alone pair rows events

-- the answer to a pcap file (own)
abbrev pub of_packets : (name keys file : List ℕ) → Answer
of_packets name keys file = answer (codes "check" ∷ codes "--pcap" ∷ name ∷ []) keys file

-- the answer to the line form of a pcap file (own)
abbrev pub of_lines : (name keys file : List ℕ) → Answer
of_lines name keys file = answer (codes "check" ∷ name ∷ []) keys (line_form file)

-- a file and its line form are within the limit of an input (own)
abbrev pub IsShort : List ℕ → Type 0
IsShort file = (length file ≤ most_capture) × (length (line_form file) ≤ most_capture)

-- of what was read of a pcap file, with the status of the call: it is judged as its line form is
-- (own)
pub record DeliversPackets (name keys file : List ℕ) (status : ℕ) : Type 0 where
  -- up to the first fault, if there is one, the same lines are written
  pub lines : IsShort file → (of_packets name keys file).output ≡ (of_lines name keys file).output
  -- without a fault the whole answer is the same
  pub whole : IsShort file → (packets_of file).fault ≡ None →
      of_packets name keys file ≡ of_lines name keys file
  -- with 0 and 1 there is none, and the file is within the limit
  pub faultless : status < 2 → ((packets_of file).fault ≡ None) × (length file ≤ most_capture)

-- the tables of the key that a script names (own)
abbrev pub named_tables : Script → List Table
named_tables s = shared_by s s.shared

-- what holds of the run of a link file over these tables (own)
abbrev pub LinkFile : List Table → Script → (before now : Sides) → ℕ → Type 0
LinkFile tables s before now status =
    Delivers (setup_of tables s.a s.b) s.events before.out now.out status

-- what holds of the run of a link file with waits over these tables (own)
abbrev pub TimedFile : List Table → TimedScript → (before now : Sides) → ℕ → Type 0
TimedFile tables s before now status =
    DeliversTimed (setup_of tables s.a s.b) s.events before.out now.out status

-- what holds of the messages in a link file's run over these tables (own)
abbrev pub MessageFile : List Table → Script → (before now : Sides) → ℕ → Type 0
MessageFile tables s before now status =
    DeliversMessages (setup_of tables s.a s.b) s.events before.out now.out status

-- what holds of the run of a node's file over these tables; an address that no node has stands
-- for an empty table (own)
abbrev pub NodeFile : List Table → NodeScript → (before now : Sides) → ℕ → Type 0
NodeFile tables s before now status =
    DeliversNode (rows_at tables s.address) s.events before.out now.out status

-- the tables carry each run of a link file over them between these two sockets (own)
abbrev pub CarriesLinkFiles : Plan → List Table → Pair → Type 0
CarriesLinkFiles plan tables pair =
    (file : List ℕ) (s : Script) → script_of keys_from.KeyFile file ≡ Ok s
    → s.a ≡ pair.local → s.b ≡ pair.remote
    → AllByRecursion KeepsTables s.events → length s.events ≤ few_events
    → AtEachMoment (setup_of tables s.a s.b) s.events
    (λ w. (e : End) → Carries plan (setup_of tables s.a s.b) w e)

-- so they carry each of these connections (own)
abbrev pub CarriesAll : Plan → List Table → List (Said Pair) → Type 0
CarriesAll plan tables said =
    AllByRecursion (λ (s : Said Pair). CarriesLinkFiles plan tables s.value) said

-- what holds of a call with the words of each command, once it is done (own)
pub record CommandsDeliver (words : List (List ℕ)) (keys input : List ℕ) (before now : Sides)
    (status : ℕ) : Type 0 where
  pub link : words ≡ codes "link" ∷ [] → status < 2 →
      Says (script_of keys_from.LinkFile) input now.input
      (λ s. LinkFile (named_tables s) s before now status)
  pub link_keys : (name : List ℕ) → words ≡ codes "link" ∷ name ∷ [] → status < 2 →
      Keyed keys now.keys
      (λ tables. Says (script_of keys_from.KeyFile) input now.input
      (λ s. LinkFile tables s before now status))
  pub timed : (name : List ℕ) → words ≡ codes "timed" ∷ name ∷ [] → status < 2 →
      Keyed keys now.keys
      (λ tables. Says timed_script_of input now.input (λ s. TimedFile tables s before now status))
  pub bgp : (name : List ℕ) → words ≡ codes "bgp" ∷ name ∷ [] → status < 2 →
      Keyed keys now.keys
      (λ tables. Says (script_of keys_from.KeyFile) input now.input
      (λ s. MessageFile tables s before now status))
  pub storm : (seed count : ℕ) → command_of words ≡ Some (Storm seed count) → status < 2 →
      DeliversStorm (storm_events seed count) before.out now.out status
  pub node : (name : List ℕ) → words ≡ codes "node" ∷ name ∷ [] → status < 2 →
      Keyed keys now.keys
      (λ tables. Says node_script_of input now.input (λ s. NodeFile tables s before now status))
  pub lint : (plan : Plan) → command_of words ≡ Some (Lint plan) → status ≡ 0 →
      Keyed keys now.keys
      (λ tables. Says (said_in lint_pair_of) input now.input (λ said. CarriesAll plan tables said))
  pub packets : (name : List ℕ) → words ≡ codes "check" ∷ codes "--pcap" ∷ name ∷ [] →
      DeliversPackets name keys input status
