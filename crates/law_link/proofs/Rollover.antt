-- Between aligned tables a segment that is delivered as made passes the check.
use Rattle.std.proofs.Common.{◌≡◌, ℕ, ◌%◌, ◌^◌, ◌<◌, Bool, true, false, not, ◌&&◌, List, [], ◌∷◌, length, Option, Some, None, ◌⊎◌, inl, inr, if◌then◌else◌, refl, sym, ap, ◌∙◌, subst, arith, Ok}
use Rattle.std.specs.Prelude.{is_some}
use Rattle.std.specs.List.{AllByRecursion}
use Rattle.std.proofs.lemmas.Bool.Decides.{nat_tests}
use Rattle.book_base.specs.declared.address.Pair.{Pair}
use Rattle.book_base.specs.declared.algorithm.Algorithm.{Algorithm}
use Rattle.book_base.specs.declared.end.End.{End}
use Rattle.book_base.specs.declared.end.End.TheVariants.{A, B}
use Rattle.book_base.specs.Algorithms.{mac_length_of}
use Rattle.book_segments.specs.Bytes.{same_bytes, ring}
use Rattle.book_segments.specs.Meant.{meant}
use Rattle.book_segments.specs.Segments.{Segment, Read, reading, good, has, ACK, SYN}
use Rattle.book_segments.proofs.Fields.{and_tells, some_is}
use Rattle.book_macs.specs.Contexts.{context_of}
use Rattle.book_macs.specs.MacInput.{mac_input}
use Rattle.book_macs.specs.Keys.{traffic_key, mac}
use Rattle.book_keys.specs.Rows.{Row, sendable}
use Rattle.book_keys.specs.Choices.{Numbered, accept_row}
use Rattle.book_keys.specs.Coordination.{Sending, follow, choose as choose_row}
use Rattle.book_keys.specs.Plans.{mirrored, IsMet, AlignedFrom}
use Rattle.book_keys.proofs.SendingLaws.{chosen}
use Rattle.book_keys.proofs.PlanLaws.{Meets, meets, same_key_tells}
use Rattle.book_endpoint.specs.States.{EndState, is_closed}
use Rattle.book_endpoint.specs.Verdicts.{Key, key_of, Finding, mac_of, found_with, segment_number}
use Rattle.book_endpoint.specs.declared.arrival.Arrival.{Arrival}
use Rattle.book_endpoint.specs.declared.arrival.Arrival.TheVariants.{Foreign, Checksum, Closed as AtClosed, Unexpected, Window, Challenge, NoAck, BadAck, TooManyRuns, Reset, Taken}
use Rattle.book_endpoint.specs.Arrivals.{Arrived, unmoved, heard, number_expected, judged_by, from_peer, arrive}
use Rattle.endpoint_steps.specs.Arriving.{after_check, arrive_judged, arrive_read}
use Rattle.book_endpoint.specs.Emissions.{Draft, Emission, sets, written, blank, own_ao, seal_of, input_of}
use Rattle.endpoint_steps.proofs.Arriving.{read_by_cases}
use Rattle.book_segments.specs.Spelling.{finished}
use Rattle.law_link.proofs.Tests.{choose}
use Rattle.book_base.proofs.TestLaws.{not_true}
use Rattle.book_base.proofs.TestLaws.{by_bool}
use Rattle.law_link.proofs.Sound.{Sound, Later}
use Rattle.law_link.proofs.Moves.{MovedOk, after_check_ok}
use Rattle.law_link.proofs.Drafts.{DraftOk}
use Rattle.law_link.proofs.Written.{area_ao, same_input, same_context}
use Rattle.book_link.specs.declared.event.Event.TheVariants.{At}
use Rattle.book_link.specs.declared.event.Action.TheVariants.{Deliver}
use Rattle.book_link.specs.Worlds.{other, Setup, pair_of, Session, Made, World, side, find, live, is_known, addressed}
use Rattle.book_link.specs.Steps.{Act, act_on, come, deliver, step, view_of}
use Rattle.law_link.specs.Laws.{SetupFits, IsNear, RollsOver, IsHeard, IsAdmitted, TablesFit}
use Rattle.law_link.proofs.Invariant.{live_sound, Inv, mac_in, row_in, wired}
use Rattle.law_link.proofs.Running.{named_ok}
use Rattle.law_link.proofs.Accepted.{option_is, meant_near, context_met, Passes, judged_pass}
use Rattle.book_segments.proofs.SocketLaws.{same_socket-refl}
use Rattle.book_segments.proofs.SocketLaws.{same_bytes-refl}
use Rattle.law_link.proofs.Sessions.{known_is}

-- ---- the answer

heard_by : (a : Arrival) → (a ≡ Reset) ⊎ ((a ≡ Unexpected) ⊎ ((a ≡ Window) ⊎ ((a ≡ Challenge) ⊎ ((a ≡ NoAck) ⊎ ((a ≡ BadAck) ⊎ ((a ≡ TooManyRuns) ⊎ (a ≡ Taken))))))) → IsHeard a
heard_by a (inl e) = subst IsHeard (sym e) tt
heard_by a (inr (inl e)) = subst IsHeard (sym e) tt
heard_by a (inr (inr (inl e))) = subst IsHeard (sym e) tt
heard_by a (inr (inr (inr (inl e)))) = subst IsHeard (sym e) tt
heard_by a (inr (inr (inr (inr (inl e))))) = subst IsHeard (sym e) tt
heard_by a (inr (inr (inr (inr (inr (inl e)))))) = subst IsHeard (sym e) tt
heard_by a (inr (inr (inr (inr (inr (inr (inl e))))))) = subst IsHeard (sym e) tt
heard_by a (inr (inr (inr (inr (inr (inr (inr e))))))) = subst IsHeard (sym e) tt

pass_heard : (rows : List Row) (pair : Pair) (now : ℕ) (s : EndState) (d : Segment) (p : Finding) → (has SYN d ≡ true → p.number < 2 ^ 32) → Sound s → IsHeard (arrive_judged rows pair now s d (Ok p)).answer
pass_heard rows pair now s d p fits h =
    let moved = after_check pair s (heard rows pair now s p.rnext_key_id) d p.number now s.phase in
    let m : MovedOk s d moved = after_check_ok pair s (follow s.current rows pair p.rnext_key_id now) d p.number now s.phase refl fits h in
    heard_by moved.answer m.heard

read_heard : (rows : List Row) (pair : Pair) (now : ℕ) (s : EndState) (d : Segment) → from_peer pair d ≡ true → good d ≡ true → is_closed s.phase ≡ false
    → IsHeard (arrive_judged rows pair now s d (judged_by rows pair now s d)).answer → IsHeard (arrive_read rows pair now s (Read d)).answer
read_heard rows pair now s d ours right awake h =
    let P : Arrived → Type 0 = λ a. IsHeard a.answer in
    choose P (not (from_peer pair d)) (unmoved s Foreign) _ (λ t. let f = not_true (from_peer pair d) t in absurd (cc)) (λ t.
    choose P (not (good d)) (unmoved s Checksum) _ (λ t. let f = not_true (good d) t in absurd (cc)) (λ t.
    choose P (is_closed s.phase) (unmoved s AtClosed) _ (λ t. tt) (λ t. h)))

arrive_heard : (rows : List Row) (pair : Pair) (now : ℕ) (s : EndState) (bytes : List ℕ) (d : Segment) → reading bytes ≡ Read d → IsHeard (arrive_read rows pair now s (Read d)).answer
    → IsHeard (arrive rows pair now s (reading bytes)).answer
arrive_heard rows pair now s bytes d reads h =
    subst (λ (a : Arrived). IsHeard a.answer) (read_by_cases rows pair now s (reading bytes)) (subst (λ r. IsHeard (arrive_read rows pair now s r).answer) (sym reads) h)

-- ---- the pairs

pub turned : (setup : Setup) (e : End) → mirrored (pair_of setup (other e)) ≡ pair_of setup e
turned setup A = refl
turned setup B = refl

-- ---- one delivery

-- a segment in the written form, as it is made: all that its receiver needs of it
record Sent (pair : Pair) (st : EndState) (out : Draft) (sending : Sending) (c : List ℕ) : Type 0 where
  sound : Sound st
  drafted : DraftOk st out
  known : context_of (blank pair st out sending) (Some st.isn) st.peer_isn ≡ Some c
  key_id : sending.key_id ≡ sending.row.send_id
  mac_long : length (seal_of pair st out sending c) ≡ mac_length_of sending.row.algorithm
  right : good (finished (written pair st out sending (seal_of pair st out sending c))) ≡ true

-- the MAC that the receiver computes is the sender's
mac_met : (pair : Pair) (st : EndState) (out : Draft) (sending : Sending) (c : List ℕ) (r : Numbered) → length (seal_of pair st out sending c) ≡ mac_length_of sending.row.algorithm
    → r.row.algorithm ≡ sending.row.algorithm → r.row.master ≡ sending.row.master → r.row.with_options ≡ sending.row.with_options
    → let m = seal_of pair st out sending c in
    same_bytes m (mac_of (found_with r (finished (written pair st out sending m)) (own_ao out sending m) c out.number)) ≡ true
mac_met pair st out sending c r long algorithm master flag =
    let m = seal_of pair st out sending c in
    let d = finished (written pair st out sending m) in
    let ao = own_ao out sending m in
    let input : mac_input out.number d ao r.row.with_options ≡ input_of pair st out sending =
    ap (mac_input out.number d ao) flag ∙ same_input pair st out sending m out.number sending.row.with_options long in
    let is : mac r.row.algorithm (traffic_key r.row.algorithm r.row.master c) (mac_input out.number d ao r.row.with_options) ≡ m =
    ap (λ (a : Algorithm). mac a (traffic_key a r.row.master c) (mac_input out.number d ao r.row.with_options)) algorithm
    ∙ ap (λ (k : List ℕ). mac sending.row.algorithm (traffic_key sending.row.algorithm k c) (mac_input out.number d ao r.row.with_options)) master
    ∙ ap (mac sending.row.algorithm (traffic_key sending.row.algorithm sending.row.master c)) input in
    subst (λ (l : List ℕ). same_bytes m l ≡ true) (sym is) (same_bytes-refl m)

-- the number that the receiver finds is the sender's
syn_number : (d : Segment) (x : Option ℕ) → has SYN d ≡ true → segment_number d x ≡ Some d.sequence
syn_number d None syn = refl
syn_number d (Some x) syn = choose (λ o. o ≡ Some d.sequence) (has SYN d) (Some d.sequence) (meant d.sequence x) (λ t. refl) (λ t. absurd (cc))

plain_number : (d : Segment) (n x : ℕ) (o : Option ℕ) → o ≡ Some x → has SYN d ≡ false → d.sequence ≡ n % ring → IsNear n x → segment_number d o ≡ Some n
plain_number d n x None e syn is near = absurd (cc)
plain_number d n x (Some y) e syn is near =
    let same : y ≡ x = option_is y x e in
    choose (λ o. o ≡ Some n) (has SYN d) (Some d.sequence) (meant d.sequence y) (λ t. absurd (cc))
    (λ t. ap (λ k. meant k y) is ∙ ap (meant (n % ring)) same ∙ meant_near n x near.ahead near.behind)

known_expected : (s : EndState) (o : Option ℕ) (q : ℕ) → o ≡ Some q → number_expected s o ≡ Some s.expected
known_expected s None q e = absurd (cc)
known_expected s (Some k) q e = refl

expects_syn : (b c : Bool) → b ≡ true → (not b && c) ≡ false
expects_syn true c e = refl
expects_syn false c e = absurd (cc)

expects_known : (b : Bool) (o : Option ℕ) (x : ℕ) → o ≡ Some x → (not b && not (is_some o)) ≡ false
expects_known true o x e = refl
expects_known false None x e = absurd (cc)
expects_known false (Some y) x e = refl

-- the number, and that it is expected
record Counted (s : EndState) (d : Segment) (n : ℕ) : Type 0 where
  expects : (not (has SYN d) && not (is_some (number_expected s s.peer_isn))) ≡ false
  number : segment_number d (number_expected s s.peer_isn) ≡ Some n
  syn : has SYN d ≡ true → n < 2 ^ 32

to_plain : (b : Bool) (x y : Bool) (z : Bool) → b ≡ false → (if b then x else y && z) ≡ true → z ≡ true
to_plain true x y z e h = absurd (cc)
to_plain false x y z e h = (and_tells y z h).1

counted : (pair : Pair) (st : EndState) (out : Draft) (sending : Sending) (m : List ℕ) (t s : EndState) → Sound st → DraftOk st out
    → addressed (finished (written pair st out sending m)) t s ≡ true → (sets out.flags SYN ≡ false → IsNear out.number s.expected) → Counted s (finished (written pair st out sending m)) out.number
counted pair st out sending m t s sound ok to near =
    let d = finished (written pair st out sending m) in
    by_bool (Counted s d out.number) (has SYN d)
    (λ syn.
    let at = (ok.syn syn).0 in
    let low = sound.isn_fits in
    let is : d.sequence ≡ out.number = omega arith in
    record { expects = expects_syn (has SYN d) (not (is_some (number_expected s s.peer_isn))) syn; number = syn_number d (number_expected s s.peer_isn) syn ∙ ap (λ k. Some k) is; syn = λ e. omega arith })
    (λ plain.
    let back = known_is s.peer_isn t.isn (to_plain (has SYN d) (if has ACK d then is_known t.peer_isn s.isn else true) (is_known t.peer_isn s.isn) (is_known s.peer_isn t.isn) plain to) in
    let x = known_expected s s.peer_isn t.isn back in
    record { expects = expects_known (has SYN d) (number_expected s s.peer_isn) s.expected x; number = plain_number d out.number s.expected (number_expected s s.peer_isn) x plain refl (near plain); syn = λ e. absurd (cc) })

-- what the receiver finds of a segment in the written form, under a row that meets the sender's
pub record Judges (rows : List Row) (pair : Pair) (now : ℕ) (s : EndState) (d : Segment) (sending : Sending) (c : List ℕ) (n : ℕ) (input : List ℕ) : Type 0 where
  pub found : Finding
  pub key : found.key ≡ key_of sending.row
  pub context : found.context ≡ c
  pub number : found.number ≡ n
  pub message : found.input ≡ input
  pub syn : has SYN d ≡ true → n < 2 ^ 32
  pub verdict : judged_by rows pair now s d ≡ Ok found
  pub ours : from_peer pair d ≡ true

key_met : (a b : Row) → a.algorithm ≡ b.algorithm → a.master ≡ b.master → key_of a ≡ key_of b
key_met a b e f = let half : key_of a ≡ record { algorithm = b.algorithm; master = a.master } = ap (λ (x : Algorithm). let k : Key = record { algorithm = x; master = a.master } in k) e in
    half ∙ ap (λ (x : List ℕ). let k : Key = record { algorithm = b.algorithm; master = x } in k) f

-- a segment in the written form passes under a row that meets the sender's
sent_judged : (rows : List Row) (pair there : Pair) (now : ℕ) (s t st : EndState) (out : Draft) (sending : Sending) (c : List ℕ) → Sent there st out sending c → Later st t → mirrored there ≡ pair
    → Meets rows pair sending.row.send_id now sending.row
    → addressed (finished (written there st out sending (seal_of there st out sending c))) t s ≡ true → (sets out.flags SYN ≡ false → IsNear out.number s.expected)
    → Judges rows pair now s (finished (written there st out sending (seal_of there st out sending c))) sending c out.number (input_of there st out sending)
sent_judged rows pair there now s t st out sending c h later turn met to near =
    let m = seal_of there st out sending c in
    let d = finished (written there st out sending m) in
    let ao = own_ao out sending m in
    let syn = sets out.flags SYN in
    let r = met.numbered in
    let n = counted there st out sending m t s h.sound h.drafted to near in
    let small = h.drafted.small in
    let isn : t.isn ≡ st.isn = later.same_isn in
    let key = same_key_tells r.row sending.row met.key in
    let to_isn : (if has SYN d then (if has ACK d then is_known t.peer_isn s.isn else true) else is_known t.peer_isn s.isn && is_known s.peer_isn st.isn) ≡ true =
    subst (λ (k : ℕ). (if has SYN d then (if has ACK d then is_known t.peer_isn s.isn else true) else is_known t.peer_isn s.isn && is_known s.peer_isn k) ≡ true) isn to in
    let known : context_of d s.peer_isn (Some s.isn) ≡ Some c =
    context_met d st.isn st.peer_isn t.peer_isn s.isn s.peer_isn c (same_context there st out sending m (Some st.isn) st.peer_isn ∙ h.known) later.peer to_isn in
    let all : Passes rows pair now s d ao r c out.number = record {
      option = area_ao there syn sending m;
      accepts = ap (λ k. accept_row rows pair k now) h.key_id ∙ met.accepts;
      long = h.mac_long ∙ ap mac_length_of (sym key.algorithm);
      known = known;
      expects = n.expects;
      number = n.number;
      range = grind (arith, nat_tests);
      right = mac_met there st out sending c r h.mac_long key.algorithm key.master key.flag;
    } in
    record {
      found = found_with r d ao c out.number;
      key = key_met r.row sending.row key.algorithm key.master;
      context = refl;
      number = refl;
      message = ap (mac_input out.number d ao) key.flag ∙ same_input there st out sending m out.number sending.row.with_options h.mac_long;
      syn = n.syn;
      verdict = judged_pass rows pair now s d ao r c out.number all;
      ours = subst (λ (p : Pair). from_peer p d ≡ true) turn (rw (same_socket-refl there.local, same_socket-refl there.remote) refl);
    }

judges_heard : (rows : List Row) (pair : Pair) (now : ℕ) (s : EndState) (d : Segment) (sending : Sending) (c : List ℕ) (n : ℕ) (input : List ℕ) → Judges rows pair now s d sending c n input → Sound s → is_closed s.phase ≡ false → good d ≡ true
    → IsHeard (arrive_read rows pair now s (Read d)).answer
judges_heard rows pair now s d sending c n input j sound awake right =
    read_heard rows pair now s d j.ours right awake
    (subst (λ v. IsHeard (arrive_judged rows pair now s d v).answer) (sym j.verdict) (pass_heard rows pair now s d j.found (λ e. subst (λ k. k < 2 ^ 32) (sym j.number) (j.syn e)) sound))

-- the live session's answer is the outcome
live_admitted : (w : World) (e : End) (sessions : List Session) (call : EndState → Act) (r : Session) → live sessions ≡ Some r → IsAdmitted (call r.state).outcome → IsAdmitted (act_on w e sessions call).outcome
live_admitted w e [] call r lives h = absurd (cc)
live_admitted w e (s ∷ rest) call r lives h = subst (λ (x : Session). IsAdmitted (call x.state).outcome) (sym (some_is s r lives)) h

met_row : (P : Row → Type 0) (current : Option ℕ) (rows : List Row) (pair : Pair) (now : ℕ) (s : Sending) → AllByRecursion P rows → choose_row current rows pair now ≡ Some s → P s.row × (sendable pair now s.row ≡ true)
met_row P current rows pair now s h e = let c = chosen P current rows pair now s h e in (c.of, c.may)

session_is : (a b : Session) → Some a ≡ Some b → a ≡ b
session_is a b e = cc

-- what the receiver finds of a segment that is delivered as it was made
pub record FindsMade (setup : Setup) (w : World) (e : End) (r : EndState) (m : Made) : Type 0 where
  pub reads : reading m.bytes ≡ Read m.emission.segment
  pub right : good m.emission.segment ≡ true
  pub judges : Judges (side w e).rows (pair_of setup e) (side w e).clock r m.emission.segment m.emission.sending m.emission.context m.emission.number m.emission.input

pub finds_made : (setup : Setup) (fits : SetupFits setup) → TablesFit setup → (w : World) (e : End) (name : ℕ) (m : Made) → Inv setup w → (c : RollsOver setup w e name m) → FindsMade setup w e c.receiver.state m
finds_made setup fits tables w e name m inv c =
    let rows = (side w e).rows in
    let pair = pair_of setup e in
    let now = (side w e).clock in
    let ok = named_ok setup fits w name w.history m inv.made c.made in
    let h = ok.by in
    let there = pair_of setup m.maker in
    let there_is : there ≡ pair_of setup (other e) = ap (pair_of setup) c.maker in
    let turn : mirrored there ≡ pair = ap mirrored there_is ∙ turned setup e in
    let sender : ok.session ≡ c.sender =
    session_is ok.session c.sender (sym ok.found ∙ ap (λ (f : End). find (side w f).sessions m.isn) c.maker ∙ c.sent) in
    let later : Later h.state c.sender.state = subst (λ (x : Session). Later h.state x.state) sender h.later in
    let row = row_in setup ok.session.state m h in
    let aligned : AllByRecursion (IsMet rows there c.lead c.lag) m.rows = subst (λ (p : Pair). AlignedFrom m.rows rows p c.lead c.lag) (sym there_is) c.aligned in
    let met = met_row (IsMet rows there c.lead c.lag) h.state.current m.rows there m.clock h.sending aligned h.picked in
    let meets_now : Meets rows (mirrored there) h.sending.row.send_id now h.sending.row =
    meets rows there c.lead c.lag h.sending.row m.clock now met.0 met.1 (inv.valid tables e) c.early c.late (inv.clock e) in
    let meets_here : Meets rows pair h.sending.row.send_id now h.sending.row = subst (λ (p : Pair). Meets rows p h.sending.row.send_id now h.sending.row) turn meets_now in
    let wire = wired setup ok.session.state m h fits in
    let mac = mac_in setup ok.session.state m h in
    let d = finished (written there h.state h.draft h.sending mac) in
    let segment : m.emission.segment ≡ d = ap (λ x. x.segment) h.emission in
    let number : m.emission.number ≡ h.draft.number = ap (λ x. x.number) h.emission in
    let sent : Sent there h.state h.draft h.sending h.context = record {
      sound = h.sound;
      drafted = h.drafted;
      known = h.known;
      key_id = row.key_id;
      mac_long = wire.mac_long ∙ ap (λ x. mac_length_of x.sending.row.algorithm) h.emission;
      right = subst (λ (x : Segment). good x ≡ true) segment wire.right;
    } in
    let r = c.receiver in
    let to : addressed d c.sender.state r.state ≡ true = subst (λ (x : Segment). addressed x c.sender.state r.state ≡ true) segment c.addressed in
    let near : sets h.draft.flags SYN ≡ false → IsNear h.draft.number r.state.expected =
    λ plain. subst (λ (k : ℕ). IsNear k r.state.expected) number (c.near (ap (λ (x : Segment). has SYN x) segment ∙ plain)) in
    let found = sent_judged rows pair there now r.state c.sender.state h.state h.draft h.sending h.context sent later turn meets_here to near in
    let there_found : Judges rows pair now r.state m.emission.segment m.emission.sending m.emission.context m.emission.number m.emission.input =
    subst (λ (x : Emission). Judges rows pair now r.state x.segment x.sending x.context x.number x.input) (sym h.emission) found in
    record { reads = wire.reads; right = wire.right; judges = there_found }

pub rolls_over : (setup : Setup) (fits : SetupFits setup) → TablesFit setup → (w : World) (e : End) (name : ℕ) (m : Made) → Inv setup w → RollsOver setup w e name m → IsAdmitted (step setup w (At e (Deliver name))).outcome
rolls_over setup fits tables w e name m inv c =
    let rows = (side w e).rows in
    let pair = pair_of setup e in
    let now = (side w e).clock in
    let r = c.receiver in
    let f = finds_made setup fits tables w e name m inv c in
    let answer = judges_heard rows pair now r.state m.emission.segment m.emission.sending m.emission.context m.emission.number m.emission.input f.judges (live_sound (side w e).sessions r c.lives (inv.sound e)) c.awake f.right in
    let admitted : IsAdmitted (come m.bytes (view_of setup w e) r.state).outcome = arrive_heard rows pair now r.state m.bytes m.emission.segment f.reads answer in
    subst (λ (o : Option Made). IsAdmitted (deliver setup w e o).outcome) (sym c.made) (live_admitted w e (side w e).sessions (come m.bytes (view_of setup w e)) r c.lives admitted)
