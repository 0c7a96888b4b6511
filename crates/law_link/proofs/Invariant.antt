-- What every made entry is, and what else holds in each state of each run.
use Rattle.std.proofs.Common.{◌≡◌, ℕ, ◌+◌, ◌≤◌, ◌<◌, ◌%◌, Bool, true, false, List, [], ◌∷◌, length, replicate, Option, Some, None, sym, ap, ◌∙◌, subst, arith, append-nil}
use Rattle.std.specs.Prelude.{⊤, if◌then◌else◌}
use Rattle.std.specs.List.{AllByRecursion}
use Rattle.book_base.specs.declared.address.Address.{Address}
use Rattle.book_base.specs.declared.address.Address.TheVariants.{V4, V6}
use Rattle.book_base.specs.declared.end.End.{End}
use Rattle.book_base.specs.declared.end.End.TheVariants.{A, B}
use Rattle.book_base.specs.Algorithms.{mac_length_of}
use Rattle.std.proofs.lemmas.List.{length-replicate}
use Rattle.book_segments.specs.Segments.{Segment, Read, reading, good, spell, has, bit_of, ACK, FIN, SYN}
use Rattle.book_segments.specs.Spelling.{AreBytes, Fits, finished}
use Rattle.book_segments.proofs.Fields.{some_is}
use Rattle.book_segments.proofs.SpellLaws.{read_front, finished_is_good}
use Rattle.book_segments.proofs.SumLaws.{finished_fits}
use Rattle.book_macs.specs.Contexts.{context, context_known, context_of_syn, context_of_later, context_of}
use Rattle.book_macs.proofs.MacLaws.{mac_fits}
use Rattle.book_keys.specs.Lifetimes.{greatest_time}
use Rattle.book_keys.specs.Overlaps.{IsValid}
use Rattle.book_keys.specs.Coordination.{Sending, choose as choose_row}
use Rattle.book_keys.proofs.SendingLaws.{Chosen, chosen}
use Rattle.book_endpoint.specs.States.{EndState, at_end}
use Rattle.book_endpoint.specs.Emissions.{Draft, sets, no_mac, blank, own_ao, written, seal_of, input_of, sealed}
use Rattle.law_link.proofs.Sound.{Sound, Later, later_then}
use Rattle.law_link.proofs.Drafts.{DraftOk}
use Rattle.law_link.proofs.Whole.{Whole}
use Rattle.law_link.proofs.Carrying.{Carries}
use Rattle.law_link.proofs.ByteLists.{PairFits, zeros, context_bytes, input_bytes, spell_bytes}
use Rattle.law_link.proofs.Written.{mac_words, written_fits}
use Rattle.book_link.specs.Worlds.{Setup, pair_of, Session, Made, Happening, Making, Coming, World, side, find, live}
use Rattle.law_link.specs.Laws.{RowFits, AddressesFit, SetupFits, TablesFit}

-- as made: how a session made a segment, in its state and from its table then, and what it kept since
pub record MadeBy (setup : Setup) (t : EndState) (m : Made) : Type 0 where
  pub state : EndState
  pub later : Later state t
  pub sound : Sound state
  pub draft : Draft
  pub whole : Whole state
  pub drafted : DraftOk state draft
  pub carries : Carries state draft
  pub sending : Sending
  pub rows_fit : AllByRecursion RowFits m.rows
  pub picked : choose_row state.current m.rows (pair_of setup m.maker) m.clock ≡ Some sending
  pub context : List ℕ
  pub known : context_of (blank (pair_of setup m.maker) state draft sending) (Some state.isn) state.peer_isn ≡ Some context
  pub emission : m.emission ≡ sealed (pair_of setup m.maker) state draft sending context
  pub bytes : m.bytes ≡ spell m.emission.segment
  pub isn : state.isn ≡ m.isn
  pub sent : draft.number + (length draft.payload + bit_of (sets draft.flags FIN)) ≤ t.next

pub made-later : (setup : Setup) (t u : EndState) (m : Made) → Later t u → MadeBy setup t m → MadeBy setup u m
made-later setup t u m l h =
    record {
      state = h.state;
      later = later_then h.state t u h.later l;
      sound = h.sound;
      whole = h.whole;
      draft = h.draft;
      drafted = h.drafted;
      carries = h.carries;
      sending = h.sending;
      rows_fit = h.rows_fit;
      picked = h.picked;
      context = h.context;
      known = h.known;
      emission = h.emission;
      bytes = h.bytes;
      isn = h.isn;
      sent = (let low = h.sent in let more = l.sent in omega arith);
    }

-- one of these sessions made it
pub record MadeOk (setup : Setup) (sessions : List Session) (m : Made) : Type 0 where
  pub session : Session
  pub found : find sessions m.isn ≡ Some session
  pub by : MadeBy setup session.state m

-- all entries are as made
abbrev pub AllMadeOk : Setup → World → List Happening → Type 0
AllMadeOk setup w [] = ⊤
AllMadeOk setup w (Making m ∷ past) = MadeOk setup (side w m.maker).sessions m × AllMadeOk setup w past
AllMadeOk setup w (Coming r ∷ past) = AllMadeOk setup w past

-- all states are sound
abbrev pub AllSound : List Session → Type 0
AllSound sessions = AllByRecursion (λ (s : Session). Sound s.state) sessions

-- all receiving halves are sound
abbrev pub AllWhole : List Session → Type 0
AllWhole sessions = AllByRecursion (λ (s : Session). Whole s.state) sessions

pub live_sound : (sessions : List Session) (r : Session) → live sessions ≡ Some r → AllSound sessions → Sound r.state
live_sound [] r lives h = absurd (cc)
live_sound (s ∷ rest) r lives h = subst (λ (x : Session). Sound x.state) (some_is s r lives) h.0

pub live_whole : (sessions : List Session) (r : Session) → live sessions ≡ Some r → AllWhole sessions → Whole r.state
live_whole [] r lives h = absurd (cc)
live_whole (s ∷ rest) r lives h = subst (λ (x : Session). Whole x.state) (some_is s r lives) h.0

-- each session whose end was shown is at the end of its stream
abbrev pub AllShown : List Session → Type 0
AllShown sessions = AllByRecursion (λ (s : Session). s.end_shown ≡ true → at_end s.state ≡ true) sessions

-- each session has an initial sequence number of its own
abbrev pub Distinct : List Session → Type 0
Distinct [] = ⊤
Distinct (s ∷ rest) = (find rest s.state.isn ≡ None) × Distinct rest

-- the facts that each step keeps together
pub record Inv (setup : Setup) (w : World) : Type 0 where
  pub made : AllMadeOk setup w w.history
  pub sound : (e : End) → AllSound (side w e).sessions
  pub whole : (e : End) → AllWhole (side w e).sessions
  pub shown : (e : End) → AllShown (side w e).sessions
  pub distinct : (e : End) → Distinct (side w e).sessions
  pub rows : (e : End) → AllByRecursion RowFits (side w e).rows
  pub valid : TablesFit setup → (e : End) → IsValid (side w e).rows
  pub clock : (e : End) → (side w e).clock ≤ greatest_time

-- later states of the same sessions, and maybe more sessions
abbrev pub Grows : List Session → List Session → Type 0
Grows old new = (isn : ℕ) (t : Session) → find old isn ≡ Some t → (u : Session) × (find new isn ≡ Some u) × Later t.state u.state

-- ---- the sockets

family_turned : (a c : Address) → AddressesFit a c → AddressesFit c a
family_turned (V4 one) (V4 two) f = (f.1, f.0)
family_turned (V6 one) (V6 two) f = (f.1, f.0)
family_turned (V4 one) (V6 two) f = absurd f
family_turned (V6 one) (V4 two) f = absurd f

pub pair_fits : (setup : Setup) (e : End) → SetupFits setup → PairFits (pair_of setup e)
pair_fits setup A f = record { family = f.family; local_port = f.a_port; remote_port = f.b_port }
pair_fits setup B f = record { family = family_turned setup.a.address setup.b.address f.family; local_port = f.b_port; remote_port = f.a_port }

-- ---- what an entry is on the wire

-- a context is that of the segment's sockets
pub record Shape (d : Segment) (c : List ℕ) : Type 0 where
  pub source : ℕ
  pub destination : ℕ
  pub is : c ≡ context d.source d.destination source destination

list_is : (a b : List ℕ) → Some a ≡ Some b → a ≡ b
list_is a b e = cc

known_shape : (d : Segment) (own : ℕ) (o : Option ℕ) (c : List ℕ) → context_known d.source d.destination own o ≡ Some c → Shape d c
known_shape d own None c e = absurd (cc)
known_shape d own (Some q) c e = record { source = own; destination = q; is = sym (list_is (context d.source d.destination own q) c e) }

syn_shape : (d : Segment) (o : Option ℕ) (c : List ℕ) (b : Bool) → (if b then context_known d.source d.destination d.sequence o else Some (context d.source d.destination d.sequence 0)) ≡ Some c → Shape d c
syn_shape d o c true e = known_shape d d.sequence o c e
syn_shape d o c false e = record { source = d.sequence; destination = 0; is = sym (list_is (context d.source d.destination d.sequence 0) c e) }

later_shape : (d : Segment) (o p : Option ℕ) (c : List ℕ) → context_of_later d o p ≡ Some c → Shape d c
later_shape d None p c e = absurd (cc)
later_shape d (Some q) p c e = known_shape d q p c e

pub context_shape : (d : Segment) (o p : Option ℕ) (c : List ℕ) → context_of d o p ≡ Some c → Shape d c
unfolding context_of
context_shape d o p c e = by_test (has SYN d) e
  where
    by_test : (b : Bool) → (if b then context_of_syn d p else context_of_later d o p) ≡ Some c → Shape d c
    by_test true e = syn_shape d p c (has ACK d) e
    by_test false e = later_shape d o p c e

-- what an entry is on the wire: a segment with a right checksum that fits, is read again, and has a MAC of its algorithm's length
pub record Wired (m : Made) (mac : List ℕ) : Type 0 where
  pub mac_long : length mac ≡ mac_length_of m.emission.sending.row.algorithm
  pub fits : Fits m.emission.segment
  pub right : good m.emission.segment ≡ true
  pub reads : reading m.bytes ≡ Read m.emission.segment
  pub bytes : AreBytes m.bytes

-- the MAC of an entry
abbrev pub mac_in : (setup : Setup) (t : EndState) (m : Made) → MadeBy setup t m → List ℕ
mac_in setup t m h = seal_of (pair_of setup m.maker) h.state h.draft h.sending h.context

-- the segment of an entry with the MAC zero
abbrev pub blank_in : (setup : Setup) (t : EndState) (m : Made) → MadeBy setup t m → Segment
blank_in setup t m h = blank (pair_of setup m.maker) h.state h.draft h.sending

pub row_in : (setup : Setup) (t : EndState) (m : Made) (h : MadeBy setup t m) → Chosen RowFits (pair_of setup m.maker) m.clock h.sending
row_in setup t m h = chosen RowFits h.state.current m.rows (pair_of setup m.maker) m.clock h.sending h.rows_fit h.picked

pub ids_in : (setup : Setup) (t : EndState) (m : Made) (h : MadeBy setup t m) → (h.sending.key_id < 256) × (h.sending.rnext_key_id < 256)
ids_in setup t m h =
    let row = row_in setup t m h in
    (subst (λ n. n < 256) (sym row.key_id) row.of.send_id, subst (λ n. n < 256) (sym row.rnext_key_id) row.preferred_of.recv_id)

pub blank_fits : (setup : Setup) (t : EndState) (m : Made) (h : MadeBy setup t m) → SetupFits setup → Fits (blank_in setup t m h)
blank_fits setup t m h fits =
    let ids = ids_in setup t m h in
    let n = mac_length_of h.sending.row.algorithm in
    let long : length (replicate n 0) ≡ n = length-replicate n 0 in
    let words = mac_words h.sending.row.algorithm in
    written_fits (pair_of setup m.maker) h.state h.state h.draft h.sending (no_mac h.sending) (pair_fits setup m.maker fits) h.drafted ids.0 ids.1
    (ap (λ k. k % 4) long ∙ words.0) (subst (λ k. k ≤ 16) (sym long) words.1) (zeros n).at

pub wired : (setup : Setup) (t : EndState) (m : Made) (h : MadeBy setup t m) → SetupFits setup → Wired m (mac_in setup t m h)
wired setup t m h fits =
    let pair = pair_of setup m.maker in
    let row = row_in setup t m h in
    let ids = ids_in setup t m h in
    let pf = pair_fits setup m.maker fits in
    let shape = context_shape (blank_in setup t m h) (Some h.state.isn) h.state.peer_isn h.context h.known in
    let context_ok : AreBytes h.context = subst AreBytes (sym shape.is) (context_bytes pair shape.source shape.destination pf) in
    let words = mac_words h.sending.row.algorithm in
    let n = mac_length_of h.sending.row.algorithm in
    let short = words.1 in
    let zero_low : length (replicate n 0) < 252 = subst (λ k. k < 252) (sym (length-replicate n 0)) (omega arith) in
    let input_ok : AreBytes (input_of pair h.state h.draft h.sending) =
    input_bytes h.draft.number (blank_in setup t m h) (own_ao h.draft h.sending (no_mac h.sending)) h.sending.row.with_options (blank_fits setup t m h fits) ids.0 ids.1 zero_low in
    let the_mac = mac_in setup t m h in
    let mac_ok = mac_fits h.sending.row.algorithm h.sending.row.master h.context (input_of pair h.state h.draft h.sending) row.of.master context_ok input_ok in
    let plain = written pair h.state h.draft h.sending the_mac in
    let plain_fits = written_fits pair h.state h.state h.draft h.sending the_mac pf h.drafted ids.0 ids.1 (ap (λ k. k % 4) mac_ok.0 ∙ words.0) (subst (λ k. k ≤ 16) (sym mac_ok.0) words.1) mac_ok.1 in
    let segment : finished plain ≡ m.emission.segment = sym (ap (λ e. e.segment) h.emission) in
    let all_fit : Fits m.emission.segment = subst Fits segment (finished_fits plain plain_fits) in
    record {
      mac_long = mac_ok.0 ∙ ap (λ e. mac_length_of e.sending.row.algorithm) (sym h.emission);
      fits = all_fit;
      right = subst (λ d. good d ≡ true) segment (finished_is_good plain plain_fits);
      reads = read_front m.bytes [] m.emission.segment all_fit (h.bytes ∙ sym (append-nil (spell m.emission.segment)));
      bytes = subst AreBytes (sym h.bytes) (spell_bytes m.emission.segment all_fit);
    }
