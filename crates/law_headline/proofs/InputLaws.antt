-- What a link file and a key file say fits a link.
use Rattle.std.proofs.Common.{◌≡◌, ◌≤◌, ℕ, suc, ◌+◌, Bool, true, false, cond, List, [], ◌∷◌, ◌++◌, length, map, Option, Some, None, Ok, ap, ◌∙◌, arith, length-append}
use Rattle.std.proofs.lemmas.List.{length-map}
use Rattle.std.specs.List.{All, AllByRecursion, find}
use Rattle.book_base.specs.declared.address.Address.{Address}
use Rattle.book_base.specs.declared.address.Address.TheVariants.{V4, V6}
use Rattle.book_base.specs.declared.address.Socket.{Socket}
use Rattle.book_base.specs.declared.end.End.{End}
use Rattle.book_base.specs.declared.end.End.TheVariants.{A, B}
use Rattle.book_keys.specs.Nodes.{tables_of}
use Rattle.book_keys.specs.Overlaps.{IsValid}
use Rattle.book_keys.specs.Plans.{rows_at, rows_of_table}
use Rattle.book_keys.specs.Rows.{Row, Table, has_address}
use Rattle.book_keys.specs.Shared.{shared_row}
use Rattle.book_keys.proofs.ValidLaws.{empty-valid, shared-valid, tables_of-valid}
use Rattle.book_link.specs.declared.event.Event.{Event}
use Rattle.book_link.specs.declared.event.Event.TheVariants.{At, Dump}
use Rattle.book_link.specs.declared.event.Action.TheVariants.{Clock, Connect, Listen, Start, Give, Fill, Send, Resend, Deliver, Inject, Alter, Take, Close, Abort, AddRow, Withdraw}
use Rattle.law_link.specs.Laws.{EventFits, AddressesFit, RowFits, SetupFits, TablesFit}
use Rattle.book_link.specs.Worlds.{first_rows, setup_of}
use Rattle.book_cmd_link.specs.declared.script.Script.{Script}
use Rattle.book_cmd_link.specs.declared.script.SharedKey.{SharedKey}
use Rattle.book_cmd_link.specs.declared.script.KeysFrom.TheVariants as keys_from
use Rattle.book_cmd_link.specs.declared.script.KeysFrom.{KeysFrom}
use Rattle.book_cmd_link.specs.LinkFiles.{shared_by}
use Rattle.book_cmd_link.specs.LinkFiles.{script_of}
use Rattle.book_segments.specs.Sockets.{are_two_of_a_family}
use Rattle.law_scripts.specs.Printed.{event_words, key_lines, script_lines}
use Rattle.law_scripts.specs.Scripts.{IsAddress, IsEvent, IsKey, IsScript, IsSocket}
use Rattle.law_scripts.proofs.ScriptRanges.{script_of_ok}
use Rattle.law_headline.proofs.TableFits.{Fit, tables_fit}

-- ---- events

pub event_fits : (e : Event) → IsEvent e → EventFits e
event_fits (At e (Clock seconds)) r = r
event_fits (At e (Connect isn)) r = omega (arith, r)
event_fits (At e (Listen isn)) r = omega (arith, r)
event_fits (At e (Start isn peer)) r = (omega (arith, r.0), omega (arith, r.1))
event_fits (At e (Give bytes)) r = r.1
event_fits (At e (Fill count byte)) r = r.1
event_fits (At e Send) r = tt
event_fits (At e Resend) r = tt
event_fits (At e (Deliver name)) r = tt
event_fits (At e (Inject bytes)) r = r.small
event_fits (At e (Alter name place mask fixing)) r = r.2
event_fits (At e (Take count)) r = tt
event_fits (At e Close) r = tt
event_fits (At e Abort) r = tt
event_fits (At e (AddRow row)) r =
    let recv = r.recv_id in
    let send = r.send_id in
    record { recv_id = omega (arith, recv); send_id = omega (arith, send); master = r.master.small }
event_fits (At e (Withdraw number)) r = tt
event_fits (Dump name) r = tt

all_events : (es : List Event) → All IsEvent es → AllByRecursion EventFits es
all_events [] all = tt
all_events (e ∷ es) all = (event_fits e (all 0 e (omega arith)), all_events es (λ k d h. all (suc k) d (omega arith)))

pub events_fit : (keys : KeysFrom) (text : List ℕ) (script : Script) → script_of keys text ≡ Ok script → AllByRecursion EventFits script.events
events_fit keys text script is = all_events script.events (script_of_ok keys text script is).0.events

-- ---- sockets

family : (a b : Address) → IsAddress a → IsAddress b → are_two_of_a_family a b ≡ true → AddressesFit a b
family (V4 one) (V4 two) x y h = (x, y)
family (V6 one) (V6 two) x y h = (x, y)
family (V4 one) (V6 two) x y h = absurd (cc)
family (V6 one) (V4 two) x y h = absurd (cc)

-- ---- tables

found : (P : List Row → Type 0) (b : Bool) (t : Table) (o : Option Table) → P t.rows → P (rows_of_table o) → P (rows_of_table (cond b (Some t) o))
found P true t o here more = here
found P false t o here more = more

fit_at : (tables : List Table) (address : Address) → AllByRecursion Fit tables → AllByRecursion RowFits (rows_at tables address)
fit_at [] address all = tt
fit_at (t ∷ ts) address all = found (AllByRecursion RowFits) (has_address address t) t (find (has_address address) ts) all.0 (fit_at ts address all.1)

valid_at : (tables : List Table) (address : Address) → All (λ (t : Table). IsValid t.rows) tables → IsValid (rows_at tables address)
valid_at [] address all = empty-valid
valid_at (t ∷ ts) address all =
    found IsValid (has_address address t) t (find (has_address address) ts) (all 0 t (omega arith)) (valid_at ts address (λ k d h. all (suc k) d (omega arith)))

-- the ends of two sockets, over tables
pub fits : (tables : List Table) (a b : Socket) → IsSocket a → IsSocket b → are_two_of_a_family a.address b.address ≡ true
    → AllByRecursion Fit tables → SetupFits (setup_of tables a b)
fits tables a b is_a is_b two fit =
    let a_port = is_a.port in
    let b_port = is_b.port in
    record {
      family = family a.address b.address is_a.address is_b.address two;
      a_port = omega (arith, a_port);
      b_port = omega (arith, b_port);
      rows = of_end;
    }
  where
    of_end : (e : End) → AllByRecursion RowFits (first_rows (setup_of tables a b) e)
    of_end A = fit_at tables a.address fit
    of_end B = fit_at tables b.address fit

valid_tables : (tables : List Table) (a b : Socket) → All (λ (t : Table). IsValid t.rows) tables → TablesFit (setup_of tables a b)
valid_tables tables a b valid = record { valid = valid_of_end }
  where
    valid_of_end : (e : End) → IsValid (first_rows (setup_of tables a b) e)
    valid_of_end A = valid_at tables a.address valid
    valid_of_end B = valid_at tables b.address valid

pub keyed_tables : (keys : List ℕ) (tables : List Table) (a b : Socket) → tables_of keys ≡ Ok tables → TablesFit (setup_of tables a b)
keyed_tables keys tables a b read = valid_tables tables a b (tables_of-valid keys tables read)

pub keyed_fits : (keys text : List ℕ) (tables : List Table) (script : Script) → tables_of keys ≡ Ok tables → script_of keys_from.KeyFile text ≡ Ok script → SetupFits (setup_of tables script.a script.b)
keyed_fits keys text tables script read is =
    let s : IsScript script = (script_of_ok keys_from.KeyFile text script is).0 in
    fits tables script.a script.b s.a s.b s.two (tables_fit keys tables read)

shared_fit : (script : Script) (shared : Option SharedKey) → IsKey shared → AllByRecursion Fit (shared_by script shared)
shared_fit script None is = tt
shared_fit script (Some key) is =
    let row : RowFits (shared_row key.alg key.master) = record { recv_id = omega arith; send_id = omega arith; master = is.small } in
    ((row, tt), ((row, tt), tt))

shared_valid : (script : Script) (shared : Option SharedKey) → All (λ (t : Table). IsValid t.rows) (shared_by script shared)
shared_valid script None = λ k d h. absurd (omega arith)
shared_valid script (Some key) = shared-valid script.a.address script.b.address key.alg key.master

pub shared_fits : (text : List ℕ) (script : Script) → script_of keys_from.LinkFile text ≡ Ok script → SetupFits (setup_of (shared_by script script.shared) script.a script.b)
shared_fits text script is =
    let s : IsScript script = (script_of_ok keys_from.LinkFile text script is).0 in
    fits (shared_by script script.shared) script.a script.b s.a s.b s.two (shared_fit script script.shared s.key)

pub shared_tables_fit : (script : Script) → TablesFit (setup_of (shared_by script script.shared) script.a script.b)
shared_tables_fit script = valid_tables (shared_by script script.shared) script.a script.b (shared_valid script script.shared)

-- ---- how many events

script_few : (script : Script) → IsScript script → length script.events ≤ 20000
unfolding script_lines
script_few script s =
    let lines = s.lines in
    let all : length (key_lines script.shared ++ map event_words script.events) ≡ length (key_lines script.shared) + length script.events =
    length-append (key_lines script.shared) (map event_words script.events) ∙ ap (λ n. length (key_lines script.shared) + n) (length-map script.events event_words) in
    omega arith

pub few_in : (keys : KeysFrom) (text : List ℕ) (script : Script) → script_of keys text ≡ Ok script → length script.events ≤ 20000
few_in keys text script is = script_few script (script_of_ok keys text script is).0
