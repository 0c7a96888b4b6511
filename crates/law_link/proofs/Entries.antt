-- Every made entry is as made.
use Rattle.std.proofs.Common.{◌≡◌, ℕ, zero, suc, ◌+◌, ◌-◌, ◌/◌, ◌%◌, ◌==◌, Bool, true, false, List, [], ◌∷◌, length, take, drop, slice_get, Option, Some, None, if◌then◌else◌, refl, sym, ap, ◌∙◌, subst, arith}
use Rattle.std.specs.List.{AllByRecursion}
use Rattle.book_base.specs.Algorithms.{mac_length_of}
use Rattle.book_segments.proofs.Fields.{some_is}
use Rattle.book_segments.specs.Options.{find_ao}
use Rattle.book_segments.specs.Segments.{Segment, has, bit_of, ACK, FIN, SYN}
use Rattle.book_macs.specs.Contexts.{context, context_known, context_of_syn, context_of_later, context_of}
use Rattle.book_macs.specs.MacInput.{mac_input}
use Rattle.book_macs.specs.Keys.{traffic_key, mac}
use Rattle.book_keys.specs.Rows.{Row, sendable}
use Rattle.book_keys.proofs.SendingLaws.{chosen}
use Rattle.book_endpoint.specs.States.{EndState}
use Rattle.book_endpoint.specs.Emissions.{slice_at, sets, written, blank, own_ao}
use Rattle.book_segments.specs.Spelling.{finished}
use Rattle.law_link.proofs.Carrying.{GivenAt, given-later}
use Rattle.law_link.proofs.Written.{area_ao, same_input, same_context}
use Rattle.law_link.specs.Entries.{StandsIn, AcknowledgesAs, FromRow, Written, Protected, Placed, AsMade, AllMade, Carried}
use Rattle.book_link.specs.declared.event.Event.{Event}
use Rattle.law_link.specs.Laws.{SetupFits, EventFits}
use Rattle.book_link.specs.Worlds.{Setup, pair_of, Session, Made, Happening, Making, Coming, World, side}
use Rattle.book_link.specs.Runs.{run}
use Rattle.law_link.proofs.Invariant.{MadeBy, MadeOk, AllMadeOk, mac_in, wired}
use Rattle.law_link.proofs.Running.{run_inv}
use Rattle.book_segments.specs.Bytes.{ring}

stands_more : (r : Row) (rows : List Row) (x : Row) → StandsIn rows x → StandsIn (r ∷ rows) x
stands_more r rows x (k, low, here) = (suc k, omega arith, here)

all_weaker : (P Q : Row → Type 0) (rows : List Row) → ((r : Row) → P r → Q r) → AllByRecursion P rows → AllByRecursion Q rows
all_weaker P Q [] f h = tt
all_weaker P Q (r ∷ rows) f h = (f r h.0, all_weaker P Q rows f h.1)

-- each row of a table stands in it
all_stand : (rows : List Row) → AllByRecursion (StandsIn rows) rows
all_stand [] = tt
all_stand (r ∷ rows) = ((0, omega arith, λ d. refl), all_weaker (StandsIn rows) (StandsIn (r ∷ rows)) rows (stands_more r rows) (all_stand rows))

drop_at : (k : ℕ) (ys : List ℕ) (y : ℕ) → slice_get ys k ≡ Some y → drop k ys ≡ y ∷ drop (suc k) ys
drop_at k [] y e = absurd (cc)
drop_at zero (z ∷ ys) y e = let same : z ≡ y = cc in ap (λ x. x ∷ ys) same
drop_at (suc k) (z ∷ ys) y e = drop_at k ys y e

-- bytes that stand in a list from a place on are that part of it
part_is : (xs ys : List ℕ) (k : ℕ) → ((i b : ℕ) → slice_get xs i ≡ Some b → slice_get ys (k + i) ≡ Some b) → take (length xs) (drop k ys) ≡ xs
part_is [] ys k h = refl
part_is (x ∷ xs) ys k h =
    let at : k + 0 ≡ k = omega arith in
    let here : slice_get ys k ≡ Some x = rw at at (h 0 x refl) in
    let rest : take (length xs) (drop (suc k) ys) ≡ xs = part_is xs ys (suc k) (λ i b e. let next : k + suc i ≡ suc k + i = omega arith in rw next at (h (suc i) b e)) in
    rw (drop_at k ys x here) (ap (λ l. x ∷ l) rest)

-- a context that was known stays known
known_later : (d : Segment) (own : ℕ) (o p : Option ℕ) (c : List ℕ) → ((q : ℕ) → o ≡ Some q → p ≡ Some q) → context_known d.source d.destination own o ≡ Some c → context_known d.source d.destination own p ≡ Some c
known_later d own None p c keeps e = absurd (cc)
known_later d own (Some q) p c keeps e = ap (context_known d.source d.destination own) (keeps q refl) ∙ e

syn_later : (d : Segment) (o p : Option ℕ) (c : List ℕ) (b : Bool) → ((q : ℕ) → o ≡ Some q → p ≡ Some q)
    → (if b then context_known d.source d.destination d.sequence o else Some (context d.source d.destination d.sequence 0)) ≡ Some c
    → (if b then context_known d.source d.destination d.sequence p else Some (context d.source d.destination d.sequence 0)) ≡ Some c
syn_later d o p c true keeps e = known_later d d.sequence o p c keeps e
syn_later d o p c false keeps e = e

context-later : (d : Segment) (own : ℕ) (o p : Option ℕ) (c : List ℕ) → ((q : ℕ) → o ≡ Some q → p ≡ Some q) → context_of d (Some own) o ≡ Some c → context_of d (Some own) p ≡ Some c
unfolding context_of
context-later d own o p c keeps e = by_test (has SYN d) e
  where
    by_test : (b : Bool) → (if b then context_of_syn d o else context_of_later d (Some own) o) ≡ Some c → (if b then context_of_syn d p else context_of_later d (Some own) p) ≡ Some c
    by_test true e = syn_later d o p c (has ACK d) keeps e
    by_test false e = known_later d own o p c keeps e

-- the payload is the part of the given bytes at its number
slice_is : (t : EndState) (n : ℕ) (payload : List ℕ) → ((i b : ℕ) → slice_get payload i ≡ Some b → GivenAt t (n + i) b) → payload ≡ slice_at t n (length payload)
slice_is t n [] carried = refl
slice_is t n (x ∷ payload) carried =
    let first = carried 0 x refl in
    let at = first.1 in
    sym (part_is (x ∷ payload) t.given (n - (t.isn + 1)) (λ i b e.
    let given = carried i b e in
    let place = given.1 in
    let index : given.0 ≡ n - (t.isn + 1) + i = omega arith in
    subst (λ (j : ℕ). slice_get t.given j ≡ Some b) index given.2))

-- what a segment with this flag or without it acknowledges
acknowledges_as : (b : Bool) (a : ℕ) (d : Segment) → has ACK d ≡ b → d.acknowledgement ≡ (if b then a % ring else 0) → AcknowledgesAs (if b then Some a else None) d
acknowledges_as true a d flag is = (flag, is)
acknowledges_as false a d flag is = (flag, is)

told_is : (b : Bool) (x a : ℕ) → (if b then Some x else None) ≡ Some a → a ≡ x
told_is true x a e = sym (some_is x a e)
told_is false x a e = absurd (cc)

-- what a session made in its state then, and kept since
module _ (setup : Setup) (session : Session) (m : Made) (h : MadeBy setup session.state m) where
  made_row : FromRow setup m
  made_row =
      let pair = pair_of setup m.maker in
      let sending : m.emission.sending ≡ h.sending = ap (λ x. x.sending) h.emission in
      let row = chosen (StandsIn m.rows) h.state.current m.rows pair m.clock h.sending (all_stand m.rows) h.picked in
      record {
        stands = subst (λ x. StandsIn m.rows x.row) (sym sending) row.of;
        may = ap (λ x. sendable pair m.clock x.row) sending ∙ row.may;
        key_id = ap (λ x. x.key_id) sending ∙ row.key_id ∙ ap (λ x. x.row.send_id) (sym sending);
      }

  made_written : Written setup m
  made_written =
      let pair = pair_of setup m.maker in
      let the_mac = mac_in setup session.state m h in
      let d = finished (written pair h.state h.draft h.sending the_mac) in
      record {
        state = h.state;
        draft = h.draft;
        mac = the_mac;
        form = ap (λ x. x.segment) h.emission ∙ ap (λ x. finished (written pair h.state h.draft x.sending the_mac)) (sym h.emission);
        flags = ap (λ x. x.flags) h.emission ∙ ap (λ x. x.segment.flags) (sym h.emission);
        acknowledged = subst (λ x. AcknowledgesAs x.acknowledged x.segment) (sym h.emission) (acknowledges_as (sets h.draft.flags ACK) h.state.expected d refl refl);
      }

  made_context : context_of m.emission.segment (Some session.state.isn) session.state.peer_isn ≡ Some m.emission.context
  made_context =
      let pair = pair_of setup m.maker in
      let s = h.state in
      let own = session.state.isn in
      let the_mac = mac_in setup session.state m h in
      context-later m.emission.segment own s.peer_isn session.state.peer_isn m.emission.context h.later.peer
      (ap (λ x. context_of x.segment (Some own) s.peer_isn) h.emission ∙ same_context pair s h.draft h.sending the_mac (Some own) s.peer_isn
      ∙ ap (λ (k : ℕ). context_of (blank pair s h.draft h.sending) (Some k) s.peer_isn) h.later.same_isn ∙ h.known ∙ ap (λ x. Some x.context) (sym h.emission))

  made_wire : SetupFits setup → Protected m session
  made_wire fits =
      let pair = pair_of setup m.maker in
      let wire = wired setup session.state m h fits in
      let the_mac = mac_in setup session.state m h in
      let ao = own_ao h.draft h.sending the_mac in
      let long = wire.mac_long ∙ ap (λ x. mac_length_of x.sending.row.algorithm) h.emission in
      let flag = h.sending.row.with_options in
      record {
        fits = wire.fits;
        good = wire.right;
        bytes = h.bytes;
        context = made_context;
        ao = ao;
        option = ap (λ x. find_ao x.segment.area) h.emission ∙ area_ao pair (sets h.draft.flags SYN) h.sending the_mac;
        key_id = ap (λ x. x.sending.key_id) (sym h.emission);
        rnext_key_id = ap (λ x. x.sending.rnext_key_id) (sym h.emission);
        input =
            ap (λ x. x.input) h.emission ∙ sym (same_input pair h.state h.draft h.sending the_mac h.draft.number flag long)
            ∙ ap (λ x. mac_input x.number x.segment ao x.sending.row.with_options) (sym h.emission);
        mac = ap (λ x. mac x.sending.row.algorithm (traffic_key x.sending.row.algorithm x.sending.row.master x.context) x.input) (sym h.emission);
      }

  made_payload : m.emission.segment.payload ≡ slice_at session.state m.emission.number (length m.emission.segment.payload)
  made_payload =
      let t = session.state in
      let out = h.draft in
      let carried : (i b : ℕ) → slice_get out.payload i ≡ Some b → GivenAt t (out.number + i) b =
      λ i b e. given-later h.state t (out.number + i) b h.later (h.carries.carried i b e) in
      ap (λ x. x.segment.payload) h.emission ∙ slice_is t out.number out.payload carried
      ∙ ap (λ x. slice_at t x.number (length x.segment.payload)) (sym h.emission)

  made_place : Placed m session
  made_place =
      let t = session.state in
      let s = h.state in
      let out = h.draft in
      let small = h.drafted.small in
      let number : m.emission.number ≡ out.number = ap (λ x. x.number) h.emission in
      let flags : m.emission.segment.flags ≡ out.flags = ap (λ x. x.segment.flags) h.emission in
      let payload : m.emission.segment.payload ≡ out.payload = ap (λ x. x.segment.payload) h.emission in
      record {
        sequence = ap (λ x. x.segment.sequence) h.emission ∙ ap (λ (k : ℕ). k % ring) (sym number);
        number =
            (let long : length m.emission.segment.payload ≡ length out.payload = ap (λ (l : List ℕ). length l) payload in
            let syn : bit_of (has SYN m.emission.segment) ≡ bit_of (sets out.flags SYN) = ap (λ (k : ℕ). bit_of ((k / 2) % 2 == 1)) flags in
            let fin : bit_of (has FIN m.emission.segment) ≡ bit_of (sets out.flags FIN) = ap (λ (k : ℕ). bit_of ((k / 1) % 2 == 1)) flags in
            omega arith);
        payload = made_payload;
        fin = λ e.
            let f = h.drafted.fin (ap (λ (k : ℕ). (k / 1) % 2 == 1) (sym flags) ∙ e) in
            let c = h.later.closed f.0 in
            let isn = h.later.same_isn in
            let at = f.2 in
            let len : length t.given ≡ length s.given = ap (λ (l : List ℕ). length l) c.1 in
            (c.0, payload ∙ f.1, omega arith);
        rst = λ e. h.later.stopped (h.drafted.rst (ap (λ (k : ℕ). (k / 4) % 2 == 1) (sym flags) ∙ e)).0;
        heard = λ a e. let is = told_is (sets out.flags ACK) s.expected a (sym (ap (λ x. x.acknowledged) h.emission) ∙ e) in let up = h.later.up in omega arith;
      }

as_made_by : (setup : Setup) (w : World) (m : Made) → SetupFits setup → MadeOk setup (side w m.maker).sessions m → AsMade setup w m
as_made_by setup w m fits ok =
    record {
      session = ok.session;
      found = ok.found;
      row = made_row setup ok.session m ok.by;
      written = made_written setup ok.session m ok.by;
      wire = made_wire setup ok.session m ok.by fits;
      place = made_place setup ok.session m ok.by;
    }

all_as_made : (setup : Setup) (w : World) (history : List Happening) → SetupFits setup → AllMadeOk setup w history → AllMade (AsMade setup w) history
all_as_made setup w [] fits h = tt
all_as_made setup w (Making m ∷ past) fits h = (as_made_by setup w m fits h.0, all_as_made setup w past fits h.1)
all_as_made setup w (Coming r ∷ past) fits h = all_as_made setup w past fits h

pub as_made : (setup : Setup) (fits : SetupFits setup) (events : List Event) → AllByRecursion EventFits events → AllMade (AsMade setup (run setup events)) (run setup events).history
as_made setup fits events f = all_as_made setup (run setup events) (run setup events).history fits (run_inv setup fits events f).made

-- what is as made carries what was given
all_carried : (setup : Setup) (w : World) (history : List Happening) → AllMade (AsMade setup w) history → AllMade (Carried w) history
all_carried setup w [] h = tt
all_carried setup w (Making m ∷ past) h =
    let e = h.0 in
    (record { session = e.session; found = e.found; sequence = e.place.sequence; payload = e.place.payload; bytes = e.wire.bytes }, all_carried setup w past h.1)
all_carried setup w (Coming r ∷ past) h = all_carried setup w past h

pub carries_given : (setup : Setup) (fits : SetupFits setup) (events : List Event) → AllByRecursion EventFits events → AllMade (Carried (run setup events)) (run setup events).history
carries_given setup fits events f = all_carried setup (run setup events) (run setup events).history (as_made setup fits events f)
