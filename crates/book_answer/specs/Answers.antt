-- What the program answers to its words, to what its key file gives and to what standard input
-- gives. Our own format. It is to be read from its end: `answer` stands last.
use Rattle.std.specs.Prelude.{ℕ, ◌==◌, nat_lt, Bool, true, false, not, ◌&&◌, ◌||◌, List, [], ◌∷◌}
use Rattle.std.specs.Prelude.{length, map, codes, decimal, Option, Some, None, option_map, Result}
use Rattle.std.specs.Prelude.{Ok, Err, if◌then◌else◌}
use Rattle.book_base.specs.declared.address.Pair.{Pair}
use Rattle.book_keys.specs.declared.fault.TableFault.{TableFault}
use Rattle.book_keys.specs.Nodes.{most_keys, tables_of}
use Rattle.book_keys.specs.Plans.{rows_at}
use Rattle.book_keys.specs.Rows.{Table}
use Rattle.book_lines.specs.declared.text_fault.TextFault.{TextFault}
use Rattle.book_lines.specs.declared.text_fault.TextFault.TheVariants.{Line}
use Rattle.book_lines.specs.Faults.{input_fault_text}
use Rattle.book_lines.specs.Said.{Said, said_in}
use Rattle.book_lines.specs.Texts.{line_text}
use Rattle.book_pcap.specs.declared.pcap_head.Head.{Head}
use Rattle.book_pcap.specs.declared.pcap_head.HeadFault.{HeadFault}
use Rattle.book_pcap.specs.declared.pcap_head.HeadFault.TheVariants as head_fault
use Rattle.book_pcap.specs.Packets.{Packet, Packets, FileFault, BadHead, BadRecord, opened}
use Rattle.book_pcap.specs.Packets.{most_capture, packets_of}
use Rattle.book_link.specs.declared.event.Event.{Event}
use Rattle.book_link.specs.Reports.{report, summary}
use Rattle.book_link.specs.Runs.{run}
use Rattle.book_link.specs.Storm.{storm_setup, storm_events}
use Rattle.book_link.specs.Worlds.{Setup, World, forgeries, setup_of}
use Rattle.book_answer.specs.declared.command.Command.{Command}
use Rattle.book_answer.specs.declared.command.Command.TheVariants as command
use Rattle.book_keys.specs.declared.plan.Plan.{Plan}
use Rattle.book_cmd_node.specs.declared.node.NodeScript.{NodeScript}
use Rattle.book_cmd_link.specs.declared.script.Script.{Script}
use Rattle.book_cmd_link.specs.declared.script.SharedKey.{SharedKey}
use Rattle.book_cmd_link.specs.declared.timed.TimedScript.{TimedScript}
use Rattle.book_cmd_check.specs.declared.verified.Verified.{Verified}
use Rattle.book_cmd_link.specs.BgpRuns.{bgp_text, bgp_faults}
use Rattle.book_cmd_check.specs.Captures.{Stored, capture_run, has_refusal}
use Rattle.book_answer.specs.Commands.{command_of, reads_keys, reads_input, usage}
use Rattle.book_cmd_link.specs.KeyTexts.{keys_text, table_fault_line}
use Rattle.book_cmd_link.specs.declared.script.KeysFrom.TheVariants as keys_from
use Rattle.book_cmd_link.specs.LinkFiles.{script_of}
use Rattle.book_cmd_link.specs.LintTexts.{lint_pair_of, has_misfit, lint_text}
use Rattle.book_cmd_node.specs.NodeRuns.{node_script_of, node_text}
use Rattle.book_cmd_check.specs.Show.{show_of}
use Rattle.book_cmd_check.specs.StoredLines.{LineFault, StoredInput, stored_input}
use Rattle.book_cmd_link.specs.TimedRuns.{expand, timed_script_of}
use Rattle.book_cmd_check.specs.Verified.{vectors_of}
use Rattle.book_cmd_link.specs.TimedRuns.{most_events}
use Rattle.book_cmd_link.specs.LinkFiles.{shared_by}
use Rattle.book_cmd_check.specs.StoredPackets.{stored_packet}

-- the status, the bytes for standard output, and the text for standard error (own)
pub record Answer : Type 0 where
  pub status : ℕ
  pub output : List ℕ
  pub text : List ℕ

-- the text where a read failed; the status is 5 (own)
abbrev pub read_fault : List ℕ
read_fault = codes "read fault\n"

-- the text where a write failed; the status is 6 (own)
abbrev pub write_fault : List ℕ
write_fault = codes "write fault\n"

-- the text where memory ran out; the status is 7 (own)
abbrev pub memory : List ℕ
memory = codes "memory\n"

-- the text where a key file has more bytes than one may have (own)
abbrev pub keys_too_long : List ℕ
keys_too_long = codes "keys: too long\n"

-- the text where an input has more bytes than one may have (own)
abbrev pub too_long : List ℕ
too_long = codes "input: too long\n"

-- the text where the plain run of a link with timers has more events than one may have (own)
abbrev pub too_many_events : List ℕ
too_many_events = codes "input: too many events\n"

-- the word for the fault of a pcap file's header (pcap-savefile)
abbrev pub head_fault_text : HeadFault → List ℕ
head_fault_text head_fault.Short = codes "short"
head_fault_text head_fault.Magic = codes "magic"
head_fault_text head_fault.Version = codes "version"
head_fault_text head_fault.LinkType = codes "link-type"

-- the line of the fault of a pcap file (pcap-savefile, and own)
abbrev pub pcap_fault_line : FileFault → List ℕ
pcap_fault_line (BadHead fault) = line_text (codes "input: pcap" ∷ head_fault_text fault ∷ [])
pcap_fault_line (BadRecord n) = line_text (codes "input: pcap record" ∷ decimal n ∷ [])

-- an answer without output, with this status and this text for standard error (own)
abbrev pub refusal : ℕ → List ℕ → Answer
refusal status text = record { status = status; output = []; text = text }

-- an answer with the whole output, whose status says whether something in it is amiss (own)
abbrev pub done : Bool → List ℕ → Answer
done amiss output = record { status = if amiss then 1 else 0; output = output; text = [] }

-- what is made of an input that is read; one that isn't is refused (own)
abbrev pub if_read : {A : Type 0} → (A → Answer) → Result A TextFault → Answer
if_read made (Ok x) = made x
if_read made (Err fault) = refusal 4 (input_fault_text fault)

-- a forgery is counted in a world (own)
abbrev pub has_forgery : World → Bool
has_forgery w = not (forgeries w.history == 0)

-- the answer that is the report of a run, in which a forgery is amiss (own)
abbrev pub reported : Setup → List Event → Answer
reported setup events = done (has_forgery (run setup events)) (report setup events)

-- `link KEYS`: the run of a script over the tables (own)
abbrev pub linked : List Table → Script → Answer
linked tables s = reported (setup_of tables s.a s.b) s.events

-- `link`: the run of a script that names its shared key (own)
abbrev pub linked_by_shared : Script → Answer
linked_by_shared s = linked (shared_by s s.shared) s

-- a link file's run, read as BGP messages: a forgery is amiss, and so is a faulty message (RFC
-- 4271, section 6.1, and own)
abbrev pub spoken : Setup → List Event → Answer
spoken setup events =
    let w = run setup events in
    done (has_forgery w || not (bgp_faults w == 0)) (bgp_text setup events)

-- `bgp KEYS`: the messages of a script's run over the tables (own)
abbrev pub bgp_over : List Table → Script → Answer
bgp_over tables s = spoken (setup_of tables s.a s.b) s.events

-- `timed KEYS`: the report of the plain run of a script with waits over the tables, unless it has
-- too many events (RFC 6298, section 5, and own)
abbrev pub timed_over : List Table → TimedScript → Answer
timed_over tables s =
    let setup = setup_of tables s.a s.b in
    let events = (expand setup s.events).events in
    if nat_lt most_events (length events) then refusal 4 too_many_events else reported setup events

-- `node KEYS`: the run of a node's script over the node's table (own)
abbrev pub node_over : List Table → NodeScript → Answer
node_over tables s = done false (node_text (rows_at tables s.address) s.events)

-- `storm SEED COUNT`: the summary of a run made from a number (own)
abbrev pub stormed : List Event → Answer
stormed events =
    let w = run storm_setup events in
    done (has_forgery w) (summary w)

-- stored segments up to the first fault of an input, with the text of that fault: the lines of
-- those before it are written (own)
abbrev pub judged : List Table → List Stored → Option (List ℕ) → Answer
judged tables stored None = done (has_refusal tables stored) (capture_run tables stored)
judged tables stored (Some text) = record {
  status = 4;
  output = capture_run tables stored;
  text = text;
}

-- the line of a faulty line of stored segments (own)
abbrev pub line_fault_line : LineFault → List ℕ
line_fault_line fault = input_fault_text (Line fault.number fault.kind)

-- `check KEYS`: the segments of lines (own)
abbrev pub lines_checked : List Table → StoredInput → Answer
lines_checked tables input = judged tables input.stored (option_map line_fault_line input.fault)

-- `check --pcap KEYS`: the segments of a pcap file (own)
abbrev pub packets_checked : List Table → Packets → Answer
packets_checked tables packets =
    judged tables (map stored_packet packets.list) (option_map pcap_fault_line packets.fault)

-- `vectors`: a vector that differs is amiss (own)
abbrev pub verified : Verified → Answer
verified v = done (not (v.differing == 0)) v.text

-- `lint KEYS LEAD LAG FROM TO`: a connection that isn't aligned is amiss (own)
abbrev pub linted : List Table → Plan → List (Said Pair) → Answer
linted tables plan connections =
    done (has_misfit tables plan connections) (lint_text tables plan connections)

-- the answer of a command over tables to an input within its limit (own)
abbrev pub answer_over : Command → List Table → List ℕ → Answer
answer_over command.Link tables input =
    if_read linked_by_shared (script_of keys_from.LinkFile input)
answer_over command.LinkKeys tables input =
    if_read (linked tables) (script_of keys_from.KeyFile input)
answer_over command.Check tables input = lines_checked tables (stored_input input)
answer_over command.CheckPcap tables input = packets_checked tables (packets_of input)
answer_over command.Show tables input = if_read (done false) (show_of input)
answer_over command.Vectors tables input = if_read verified (vectors_of input)
answer_over (command.Keys time) tables input = done false (keys_text time tables)
answer_over (command.Lint plan) tables input =
    if_read (linted tables plan) (said_in lint_pair_of input)
answer_over (command.Storm seed count) tables input = stormed (storm_events seed count)
answer_over command.Bgp tables input = if_read (bgp_over tables) (script_of keys_from.KeyFile input)
answer_over command.Timed tables input = if_read (timed_over tables) (timed_script_of input)
answer_over command.Node tables input = if_read (node_over tables) (node_script_of input)

-- the most bytes of any other input: 2^25 (own)
abbrev pub most_text : ℕ
most_text = 33554432

-- the most bytes of a command's input (own)
abbrev pub most_input : Command → ℕ
most_input command.Check = most_capture
most_input command.CheckPcap = most_capture
most_input _ = most_text

-- the text of a pcap file that is too long: that of its header's fault, where it has one (own)
abbrev pub long_file_text : Result (Head × List ℕ) HeadFault → List ℕ
long_file_text (Ok body) = too_long
long_file_text (Err fault) = pcap_fault_line (BadHead fault)

-- the text of an input past its limit; the header of a pcap file is judged before (own)
abbrev pub long_text : Command → List ℕ → List ℕ
long_text command.CheckPcap input = long_file_text (opened input)
long_text _ input = too_long

-- the answer of a command over tables; an input past its limit is refused (own)
abbrev pub answer_within : Command → List Table → List ℕ → Answer
answer_within c tables input =
    if reads_input c && nat_lt (most_input c) (length input) then refusal 4 (long_text c input)
    else answer_over c tables input

-- the answer of a command over the tables of a key file; one with a fault is refused, and the
-- input isn't looked at (own)
abbrev pub answer_by : Command → List ℕ → Result (List Table) TableFault → Answer
answer_by c input (Ok tables) = answer_within c tables input
answer_by c input (Err fault) = refusal 3 (table_fault_line fault)

-- the answer of a command that reads a key file; one past its limit is refused (own)
abbrev pub answer_with_keys : Command → (keys input : List ℕ) → Answer
answer_with_keys c keys input =
    if nat_lt most_keys (length keys) then refusal 3 keys_too_long
    else answer_by c input (tables_of keys)

-- the answer of a command, or of words that name none (own)
abbrev pub answer_of : Option Command → (keys input : List ℕ) → Answer
answer_of None keys input = refusal 2 usage
answer_of (Some c) keys input =
    if reads_keys c then answer_with_keys c keys input else answer_within c [] input

-- the answer to the words, to the bytes of the key file and to those of standard input: status,
-- output, and text for standard error (own)
unfoldable pub answer : List (List ℕ) → (keys input : List ℕ) → Answer
answer words keys input = answer_of (command_of words) keys input
