-- What is made of a plan is what the book makes.
use Rattle.std.proofs.Common.{◌≡◌, ℕ, ◌+◌, ◌-◌, ◌≤◌, Bool, true, false, List, length, take, drop, length-take, length-drop, Option, Some, None, refl, sym, ap, ◌∙◌, arith, subst}
use Rattle.std.specs.Prelude.{is_some, option_map, if◌then◌else◌, max, slice_get}
use Rattle.book_base.specs.declared.address.Pair.{Pair}
use Rattle.book_base.specs.declared.address.Address.{Address}
use Rattle.book_base.specs.declared.address.Address.TheVariants.{V4, V6}
use Rattle.book_base.specs.declared.algorithm.Algorithm.{Algorithm}
use Rattle.book_base.specs.declared.algorithm.Algorithm.TheVariants.{HmacSha1, AesCmac, HmacSha256}
use Rattle.book_base.specs.Algorithms.{mac_length_of}
use Rattle.book_segments.specs.Segments.{SYN, ACK}
use Rattle.book_keys.specs.Rows.{Row}
use Rattle.book_keys.specs.Coordination as keys
use Rattle.ao_check.specs.declared.choice.Sending.{Sending}
use Rattle.ao_check.specs.Sendings.{told}
use Rattle.ao_check.proofs.ChoosingLaws.{choose_in}
use Rattle.ao_check.specs.Bonds.{Bond}
use Rattle.ao_check.proofs.KeyLaws.{got}
use Rattle.tcp_segment.specs.Layout.{ip_size}
use Rattle.book_endpoint.specs.States.{EndState, own_mss}
use Rattle.book_endpoint.specs.Emissions as book
use Rattle.endpoint_steps.specs.Drafting as steps
use Rattle.endpoint_steps.proofs.Drafting.{emit_by_drafts, resend_by_drafts}
use Rattle.tcp_endpoint.specs.declared.endpoint.Endpoint.{Endpoint}
use Rattle.tcp_endpoint.specs.declared.plans.Plan.{Plan}
use Rattle.tcp_endpoint.specs.declared.plans.Plan.TheVariants as plans
use Rattle.tcp_endpoint.specs.declared.emission.Made.{Made}
use Rattle.tcp_endpoint.specs.declared.emission.Emission.TheVariants as emissions
use Rattle.tcp_endpoint.specs.declared.emission.Resent.TheVariants as resents
use Rattle.tcp_endpoint.specs.Ends.{Stands}
use Rattle.tcp_endpoint.specs.Emissions.{Emits, Makes, Resends}
use Rattle.tcp_endpoint.specs.Plans.{draft_of, flags_of}

-- ---- the row that was chosen

-- what was told is of a row that was chosen
pub record IsChosen (o : Option keys.Sending) (x : Sending) : Type 0 where
  pub sending : keys.Sending
  pub is : o ≡ Some sending
  pub told_is : x ≡ told sending

the_same : (a b : Sending) → Some a ≡ Some b → a ≡ b
the_same a b e = cc

pub chosen_of : (o : Option keys.Sending) (x : Sending) → Some x ≡ option_map told o → IsChosen o x
chosen_of None x e = absurd (cc)
chosen_of (Some c) x e = record { sending = c; is = refl; told_is = the_same x (told c) e }

pub none_chosen : (o : Option keys.Sending) → None ≡ option_map told o → o ≡ None
none_chosen None e = refl
none_chosen (Some c) e = absurd (cc)

-- ---- what the book makes

pub emitted_none : (pair : Pair) (s : EndState) (draft : ℕ → Option book.Draft) (o : Option keys.Sending) → ((most : ℕ) → draft most ≡ None) → steps.emitted pair s draft o ≡ book.Quiet
emitted_none pair s draft None h = ap (λ z. if is_some z then book.NoKey else book.Quiet) (h 0)
emitted_none pair s draft (Some c) h = ap (λ z. steps.keyed pair s c z) (h (book.most_bytes pair s c))

pub emitted_keyless : (pair : Pair) (s : EndState) (draft : ℕ → Option book.Draft) (o : Option keys.Sending) (d : book.Draft) → draft 0 ≡ Some d → o ≡ None → steps.emitted pair s draft o ≡ book.NoKey
emitted_keyless pair s draft None d h e = ap (λ z. if is_some z then book.NoKey else book.Quiet) h
emitted_keyless pair s draft (Some c) d h e = absurd (cc)

pub emitted_some : (pair : Pair) (s : EndState) (draft : ℕ → Option book.Draft) (o : Option keys.Sending) (c : keys.Sending) (d : book.Draft) → draft (book.most_bytes pair s c) ≡ Some d → o ≡ Some c → steps.emitted pair s draft o ≡ book.made_under pair s c d
emitted_some pair s draft None c d h e = absurd (cc)
emitted_some pair s draft (Some b) c d h e =
    let q : b ≡ c = cc in
    subst (λ z. steps.keyed pair s z (draft (book.most_bytes pair s z)) ≡ book.made_under pair s c d) (sym q) (ap (λ z. steps.keyed pair s c z) h)

-- ---- another current row

-- the state with this row current
abbrev pub with_row : EndState → ℕ → EndState
with_row s n = record s { current = Some n }

pub keyed_same : (pair : Pair) (s : EndState) (c : keys.Sending) (n most : ℕ) (p : Plan) → book.made_under pair (with_row s n) c (draft_of (with_row s n) most p) ≡ book.made_under pair s c (draft_of s most p)
keyed_same pair s c n most plans.Reset = refl
keyed_same pair s c n most plans.Syn = refl
keyed_same pair s c n most plans.SynAck = refl
keyed_same pair s c n most plans.Data = refl
keyed_same pair s c n most plans.Probe = refl
keyed_same pair s c n most plans.Fin = refl
keyed_same pair s c n most plans.Ack = refl
keyed_same pair s c n most plans.SynAgain = refl
keyed_same pair s c n most plans.SynAckAgain = refl
keyed_same pair s c n most plans.Again = refl
keyed_same pair s c n most plans.FinAgain = refl

-- a draft leaves the current row as it is
pub draft_current : (s : EndState) (most : ℕ) (p : Plan) → (draft_of s most p).state.current ≡ s.current
draft_current s most plans.Reset = refl
draft_current s most plans.Syn = refl
draft_current s most plans.SynAck = refl
draft_current s most plans.Data = refl
draft_current s most plans.Probe = refl
draft_current s most plans.Fin = refl
draft_current s most plans.Ack = refl
draft_current s most plans.SynAgain = refl
draft_current s most plans.SynAckAgain = refl
draft_current s most plans.Again = refl
draft_current s most plans.FinAgain = refl

pub draft_flags : (s : EndState) (most : ℕ) (p : Plan) → flags_of p ≡ (draft_of s most p).flags
draft_flags s most plans.Reset = refl
draft_flags s most plans.Syn = refl
draft_flags s most plans.SynAck = refl
draft_flags s most plans.Data = refl
draft_flags s most plans.Probe = refl
draft_flags s most plans.Fin = refl
draft_flags s most plans.Ack = refl
draft_flags s most plans.SynAgain = refl
draft_flags s most plans.SynAckAgain = refl
draft_flags s most plans.Again = refl
draft_flags s most plans.FinAgain = refl

-- an end that stands for a state stands for it with the current row that it has
pub stands_with : (e : Endpoint) (t : EndState) (n : ℕ) → Stands e t → t.current ≡ Some n → Stands e (with_row t n)
stands_with e t n h q = record {
  phase = h.phase;
  isn = h.isn;
  peer_isn = h.peer_isn;
  una = h.una;
  next = h.next;
  send_window = h.send_window;
  wl1 = h.wl1;
  wl2 = h.wl2;
  expected = h.expected;
  fin = h.fin;
  given = h.given;
  queue = h.queue;
  taken = h.taken;
  bytes = h.bytes;
  ack_owed = h.ack_owed;
  closing = h.closing;
  rst_owed = h.rst_owed;
  mss = h.mss;
  deadline = h.deadline;
  current = h.current ∙ q;
}

-- ---- what the writer asks

mac_least : (a : Algorithm) → (12 ≤ mac_length_of a) × (mac_length_of a ≤ 16)
mac_least HmacSha1 = (omega arith, omega arith)
mac_least AesCmac = (omega arith, omega arith)
mac_least HmacSha256 = (omega arith, omega arith)

small : (a : Address) (syn : Bool) (mac most count : ℕ) → mac ≤ 16 → most + (4 + mac) ≤ own_mss a → count ≤ max 1 most → (syn ≡ true → count ≡ 0) → ip_size a + 24 + book.ao_place syn + mac + count ≤ 1500
small (V4 b) true mac most count m l f z = let n = z refl in omega (arith, n, m)
small (V4 b) false mac most count m l f z = omega (arith, m, l, f)
small (V6 b) true mac most count m l f z = let n = z refl in omega (arith, n, m)
small (V6 b) false mac most count m l f z = omega (arith, m, l, f)

-- a planned segment has at most 1,500 bytes
pub size_small : (a : Address) (flags most count : ℕ) (g : Algorithm) → most + (4 + mac_length_of g) ≤ own_mss a → count ≤ max 1 most → (book.sets flags SYN ≡ true → count ≡ 0)
    → ip_size a + 24 + book.ao_place (book.sets flags SYN) + mac_length_of g + count ≤ 1500
size_small a flags most count g l f z = small a (book.sets flags SYN) (mac_length_of g) most count ((mac_least g).1) l f z

-- ---- a planned segment, from what the calls say

take_drop : (xs : List ℕ) (at count : ℕ) → at + count ≤ length xs → length (take count (drop at xs)) ≡ count
take_drop xs at count h = length-take count (drop at xs) ∙ (let d = length-drop at xs in omega (arith, h, d))

pub ack_same : (f g : ℕ) (x y : ℕ) → f ≡ g → x ≡ y → (if book.sets f ACK then Some x else None) ≡ (if book.sets g ACK then Some y else None)
ack_same f g x y p q = rw (p, q) refl

pub payload_same : (queue payload : List ℕ) (at count : ℕ) → at + count ≤ length queue → take count (drop at queue) ≡ payload → count ≡ length payload
payload_same queue payload at count h e = sym (take_drop queue at count h) ∙ ap length e

-- ---- the row that an end sends with

-- the row that was told is the one that is chosen in the state, and stands in the table
pub record IsPicked (rows : List Row) (pair : Pair) (now : ℕ) (s : EndState) (x : Sending) : Type 0 where
  pub sending : keys.Sending
  pub is : keys.choose s.current rows pair now ≡ Some sending
  pub told_is : x ≡ told sending
  pub here : slice_get rows (sending.number - 1) ≡ Some sending.row

choose_move : (a b : Option ℕ) (rows : List Row) (p q : Pair) (now : ℕ) → a ≡ b → p ≡ q → keys.choose a rows p now ≡ keys.choose b rows q now
choose_move a b rows p q now e f = ap (λ z. keys.choose z rows p now) e ∙ ap (λ z. keys.choose b rows z now) f

pub chosen_same : (e : Endpoint) (s : EndState) (rows : List Row) (now : ℕ) → Stands e s → keys.choose e.association.current rows e.association.pair now ≡ keys.choose s.current rows e.pair now
chosen_same e s rows now h = choose_move e.association.current s.current rows e.association.pair e.pair now h.current e.bound.pair

pub picked : (e : Endpoint) (s : EndState) (rows : List Row) (now : ℕ) (x : Sending) → Stands e s → Some x ≡ option_map told (keys.choose e.association.current rows e.association.pair now) → IsPicked rows e.pair now s x
picked e s rows now x h told_so =
    let c = chosen_of (keys.choose s.current rows e.pair now) x (told_so ∙ ap (λ o. option_map told o) (chosen_same e s rows now h)) in
    let i = choose_in s.current rows e.pair now c.sending c.is in
    let low = i.low in
    let high = i.high in
    record { sending = c.sending; is = c.is; told_is = c.told_is; here = got rows (c.sending.number - 1) c.sending.row (omega (arith, low, high)) (λ d. sym (i.here d)) }

-- the end once the row is chosen
pub current_told : (a b : Bond) (rows : List Row) (now : ℕ) (o : Option keys.Sending) → b ≡ record a { current = keys.current_after a.current o } → b.current ≡ keys.current_after a.current o
current_told a b rows now o e = ap (λ z. z.current) e

-- ---- the answers

pub emit_none : (rows : List Row) (pair : Pair) (now : ℕ) (s : EndState) → ((most : ℕ) → steps.to_emit s most ≡ None) → book.emit rows pair now s ≡ book.Quiet
emit_none rows pair now s h = emit_by_drafts rows pair now s ∙ emitted_none pair s (steps.to_emit s) (keys.choose s.current rows pair now) h

pub resend_none : (rows : List Row) (pair : Pair) (now : ℕ) (s : EndState) → ((most : ℕ) → steps.to_resend s most ≡ None) → book.resend rows pair now s ≡ book.Quiet
resend_none rows pair now s h = resend_by_drafts rows pair now s ∙ emitted_none pair s (steps.to_resend s) (keys.choose s.current rows pair now) h

pub emit_keyless : (rows : List Row) (pair : Pair) (now : ℕ) (s : EndState) (d : book.Draft) → steps.to_emit s 0 ≡ Some d → keys.choose s.current rows pair now ≡ None → book.emit rows pair now s ≡ book.NoKey
emit_keyless rows pair now s d h e = emit_by_drafts rows pair now s ∙ emitted_keyless pair s (steps.to_emit s) (keys.choose s.current rows pair now) d h e

pub resend_keyless : (rows : List Row) (pair : Pair) (now : ℕ) (s : EndState) (d : book.Draft) → steps.to_resend s 0 ≡ Some d → keys.choose s.current rows pair now ≡ None → book.resend rows pair now s ≡ book.NoKey
resend_keyless rows pair now s d h e = resend_by_drafts rows pair now s ∙ emitted_keyless pair s (steps.to_resend s) (keys.choose s.current rows pair now) d h e

pub emit_some : (rows : List Row) (pair : Pair) (now : ℕ) (s : EndState) (c : keys.Sending) (d : book.Draft) → steps.to_emit s (book.most_bytes pair s c) ≡ Some d → keys.choose s.current rows pair now ≡ Some c → book.emit rows pair now s ≡ book.made_under pair s c d
emit_some rows pair now s c d h e = emit_by_drafts rows pair now s ∙ emitted_some pair s (steps.to_emit s) (keys.choose s.current rows pair now) c d h e

pub resend_some : (rows : List Row) (pair : Pair) (now : ℕ) (s : EndState) (c : keys.Sending) (d : book.Draft) → steps.to_resend s (book.most_bytes pair s c) ≡ Some d → keys.choose s.current rows pair now ≡ Some c → book.resend rows pair now s ≡ book.made_under pair s c d
resend_some rows pair now s c d h e = resend_by_drafts rows pair now s ∙ emitted_some pair s (steps.to_resend s) (keys.choose s.current rows pair now) c d h e

pub emits_made : {e : Endpoint} {before after : List ℕ} {m : Made} (s : EndState) (b o : book.Emitted) → Makes e before after m b → o ≡ b → Emits s e before after (emissions.Segment m) o
emits_made {e} {before} {after} {m} s b o k q =
    subst (λ z. Emits s e before after (emissions.Segment m) z) (sym (q ∙ k.is)) (record { stands = k.stands; answer_is = k.made })

pub resends_made : {e : Endpoint} {before after : List ℕ} {m : Made} (s : EndState) (b o : book.Emitted) → Makes e before after m b → o ≡ b → Resends s e before after (resents.Segment m) o
resends_made {e} {before} {after} {m} s b o k q =
    subst (λ z. Resends s e before after (resents.Segment m) z) (sym (q ∙ k.is)) (record { stands = k.stands; answer_is = k.made })

pub emits_quiet : {e : Endpoint} {out : List ℕ} (s : EndState) (o : book.Emitted) → Stands e s → o ≡ book.Quiet → Emits s e out out emissions.Idle o
emits_quiet {e} {out} s o h q = subst (λ z. Emits s e out out emissions.Idle z) (sym q) (record { stands = h; answer_is = refl })

pub emits_keyless : {e : Endpoint} {out : List ℕ} (s : EndState) (o : book.Emitted) → Stands e s → o ≡ book.NoKey → Emits s e out out emissions.NoKey o
emits_keyless {e} {out} s o h q = subst (λ z. Emits s e out out emissions.NoKey z) (sym q) (record { stands = h; answer_is = refl })

pub resends_quiet : {e : Endpoint} {out : List ℕ} (s : EndState) (o : book.Emitted) → Stands e s → o ≡ book.Quiet → Resends s e out out resents.Nothing o
resends_quiet {e} {out} s o h q = subst (λ z. Resends s e out out resents.Nothing z) (sym q) (record { stands = h; answer_is = refl })

pub resends_keyless : {e : Endpoint} {out : List ℕ} (s : EndState) (o : book.Emitted) → Stands e s → o ≡ book.NoKey → Resends s e out out resents.NoKey o
resends_keyless {e} {out} s o h q = subst (λ z. Resends s e out out resents.NoKey z) (sym q) (record { stands = h; answer_is = refl })
