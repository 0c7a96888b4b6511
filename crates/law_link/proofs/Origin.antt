-- Where no forgery is counted, what passes was made by the partner, and a reset comes of an abort.
use Rattle.std.proofs.Common.{◌≡◌, ℕ, ◌/◌, ◌%◌, ◌==◌, Bool, true, false, List, ◌∷◌, length, Option, Some, None, if◌then◌else◌, refl, sym, ap, ◌∙◌, subst, arith}
use Rattle.book_base.specs.declared.address.Address.{Address}
use Rattle.book_base.specs.declared.address.Address.TheVariants.{V4, V6}
use Rattle.book_base.specs.declared.address.Socket.{Socket}
use Rattle.book_base.specs.declared.address.Pair.{Pair}
use Rattle.book_base.specs.Algorithms.{mac_length_of}
use Rattle.std.proofs.lemmas.List.{length-replicate}
use Rattle.book_base.specs.declared.end.End.{End}
use Rattle.book_base.specs.declared.end.End.TheVariants.{A, B}
use Rattle.book_segments.specs.Options.{Ao, One, find_ao}
use Rattle.book_segments.specs.Segments.{IpHeader, Ipv4, Ipv6, Segment, Read, reading, has, RST, SYN}
use Rattle.book_segments.specs.Spelling.{IsV4, IsV6, FitsIp}
use Rattle.book_segments.proofs.Fields.{some_is}
use Rattle.book_macs.specs.Contexts.{context, context_of_syn, context_of_later, context_of}
use Rattle.book_macs.specs.MacInput.{mac_input}
use Rattle.book_macs.specs.Meaning.{SameFamily, NumberedSegment, SameMeaning}
use Rattle.book_macs.proofs.Ids.{equal_inputs_equal_meaning}
use Rattle.book_macs.proofs.Telling.{context_law}
use Rattle.book_endpoint.specs.States.{EndState}
use Rattle.book_endpoint.specs.Verdicts.{Finding}
use Rattle.book_endpoint.specs.declared.arrival.Arrival.TheVariants.{Reset}
use Rattle.book_endpoint.specs.Arrivals.{arrive}
use Rattle.book_endpoint.specs.Emissions.{sets, no_mac, own_ao}
use Rattle.law_link.proofs.Sound.{Sound}
use Rattle.law_link.proofs.Written.{area_ao}
use Rattle.book_link.specs.declared.event.Event.{Event}
use Rattle.book_link.specs.Worlds.{other, Setup, pair_of, Session, Made, Came, Coming, World, side, find, partner, forged, forgeries}
use Rattle.book_link.specs.Steps.{step}
use Rattle.law_link.specs.Laws.{SetupFits, EventFits, IsAmong, Repeats, FromPartner, Arrives, HasOrigin, PartnerAborted, ResetsByAbort}
use Rattle.law_link.proofs.Invariant.{live_sound, live_whole, MadeBy, Inv, blank_in, blank_fits}
use Rattle.law_link.proofs.Arriving.{Passing, ArrivedOk, arrive_ok, segment_is}
use Rattle.law_link.proofs.Accounts.{Found, found_made, none_forged, Accounts, accounts_tell}
use Rattle.law_link.proofs.Comings.{came_by}
use Rattle.law_link.proofs.Sessions.{partner_is}

not_both : (a : Address) → IsV4 a → IsV6 a → ⊥
not_both (V4 bytes) h g = absurd g
not_both (V6 bytes) h g = absurd h

family_met : (i j : IpHeader) (d e : Segment) → FitsIp i d → FitsIp j e → d.source.address ≡ e.source.address → SameFamily i j
family_met (Ipv4 a b c f g o) (Ipv4 a2 b2 c2 f2 g2 o2) d e h k same = tt
family_met (Ipv6 a b) (Ipv6 a2 b2) d e h k same = tt
family_met (Ipv4 a b c f g o) (Ipv6 a2 b2) d e h k same = absurd (not_both e.source.address (subst IsV4 same h.source) k.source)
family_met (Ipv6 a b) (Ipv4 a2 b2 c2 f2 g2 o2) d e h k same = absurd (not_both e.source.address k.source (subst IsV6 same h.source))

-- the pair seen from the other end
pub seen : (setup : Setup) (e : End) → ((pair_of setup (other e)).local ≡ (pair_of setup e).remote) × ((pair_of setup (other e)).remote ≡ (pair_of setup e).local)
seen setup A = (refl, refl)
seen setup B = (refl, refl)

-- ---- the partner

later_known : (d : Segment) (o p : Option ℕ) (c : List ℕ) → context_of_later d o p ≡ Some c → (i : ℕ) × (j : ℕ) × (o ≡ Some i) × (p ≡ Some j) × (c ≡ context d.source d.destination i j)
later_known d None p c e = absurd (cc)
later_known d (Some i) None c e = absurd (cc)
later_known d (Some i) (Some j) c e = (i, j, refl, refl, sym (some_is (context d.source d.destination i j) c e))

pub plain_context : (d : Segment) (o p : Option ℕ) (c : List ℕ) → has SYN d ≡ false → context_of d o p ≡ Some c → (i : ℕ) × (j : ℕ) × (o ≡ Some i) × (p ≡ Some j) × (c ≡ context d.source d.destination i j)
unfolding context_of
plain_context d o p c plain e = by_test (has SYN d) plain e
  where
    by_test : (b : Bool) → b ≡ false → (if b then context_of_syn d p else context_of_later d o p) ≡ Some c → (i : ℕ) × (j : ℕ) × (o ≡ Some i) × (p ≡ Some j) × (c ≡ context d.source d.destination i j)
    by_test true off e = absurd (cc)
    by_test false off e = later_known d o p c e

-- ---- the origin of what passed

-- an entry of the other end that says what passed, and the session that made it; without SYN that is the partner
pub record Origin (setup : Setup) (w : World) (at : End) (s : EndState) (n : ℕ) (d : Segment) (ao : Ao) : Type 0 where
  pub made : Made
  pub among : IsAmong made w.history
  pub maker : made.maker ≡ other at
  pub session : Session
  pub by : MadeBy setup session.state made
  pub flags : by.draft.flags ≡ d.flags
  pub repeats : Repeats made n d ao
  pub linked : has SYN d ≡ false → (q : ℕ) × (s.peer_isn ≡ Some q) × (find (side w (other at)).sessions q ≡ Some session) × (session.state.peer_isn ≡ Some s.isn)

-- the session that an origin names is the partner
is_partner : (setup : Setup) (w : World) (at : End) (s : EndState) (n : ℕ) (d : Segment) (ao : Ao) (o : Origin setup w at s n d ao) → has SYN d ≡ false → partner w at s ≡ Some o.session
is_partner setup w at s n d ao o plain = let l = o.linked plain in partner_is (side w (other at)).sessions s.isn s.peer_isn l.0 o.session l.1 l.2 l.3

-- the sockets of what passed are those of the maker
sockets_met : (setup : Setup) (at e : End) (s : EndState) (bytes : List ℕ) (p : Finding) → e ≡ other at → (g : Passing (pair_of setup at) s bytes p)
    → ((pair_of setup e).local ≡ g.segment.source) × ((pair_of setup e).remote ≡ g.segment.destination)
sockets_met setup at e s bytes p maker g =
    let there = ap (pair_of setup) maker in
    let turn = seen setup at in
    (ap (λ (k : Pair). k.local) there ∙ (turn.0 ∙ sym g.source), ap (λ (k : Pair). k.remote) there ∙ (turn.1 ∙ sym g.destination))

-- what an entry and what passed say is the same
meaning_met : (setup : Setup) (t : EndState) (m : Made) (h : MadeBy setup t m) (at : End) (s : EndState) (bytes : List ℕ) (p : Finding) → SetupFits setup → Accounts at p m
    → (g : Passing (pair_of setup at) s bytes p)
    → SameMeaning h.draft.number p.number (blank_in setup t m h) g.segment (own_ao h.draft h.sending (no_mac h.sending)) g.judged.ao
meaning_met setup t m h at s bytes p fits same g =
    let there = pair_of setup m.maker in
    let d = g.segment in
    let j = g.judged in
    let b = blank_in setup t m h in
    let zero_mac = no_mac h.sending in
    let own = own_ao h.draft h.sending zero_mac in
    let small = h.drafted.small in
    let ours : NumberedSegment h.draft.number b own =
    record { fits = blank_fits setup t m h fits; option = area_ao there (sets h.draft.flags SYN) h.sending zero_mac; number = omega arith; sequence = refl } in
    let theirs : NumberedSegment p.number d j.ao = record { fits = g.fits; option = j.option; number = j.small; sequence = j.number.0 } in
    let source = (sockets_met setup at m.maker s bytes p same.maker g).0 in
    let family = family_met b.ip d.ip b d ours.fits.ip g.fits.ip (ap (λ (k : Socket). k.address) source) in
    let algorithm : h.sending.row.algorithm ≡ p.key.algorithm = ap (λ x. x.sending.row.algorithm) (sym h.emission) ∙ same.algorithm in
    let long : length zero_mac ≡ length j.ao.mac = length-replicate (mac_length_of h.sending.row.algorithm) 0 ∙ (ap mac_length_of algorithm ∙ sym j.mac_long) in
    let input : mac_input h.draft.number b own h.sending.row.with_options ≡ mac_input p.number d j.ao j.flag = sym (ap (λ x. x.input) h.emission) ∙ (same.input ∙ j.input) in
    equal_inputs_equal_meaning h.draft.number p.number b d own j.ao h.sending.row.with_options j.flag ours theirs family long input

-- the numbers by which both ends know the connection
record Linked (m : Made) (t s : EndState) : Type 0 where
  peer : ℕ
  knows : s.peer_isn ≡ Some peer
  isn : m.isn ≡ peer
  back : t.peer_isn ≡ Some s.isn

-- without SYN the context of an entry is that of the one connection
linked_met : (setup : Setup) (t : EndState) (m : Made) (h : MadeBy setup t m) (at : End) (s : EndState) (bytes : List ℕ) (p : Finding) → Sound s → Accounts at p m
    → (g : Passing (pair_of setup at) s bytes p) → has SYN (blank_in setup t m h) ≡ false → has SYN g.segment ≡ false → Linked m t s
linked_met setup t m h at s bytes p sound same g bare plain =
    let d = g.segment in
    let there = pair_of setup m.maker in
    let mine = plain_context d s.peer_isn (Some s.isn) p.context plain g.judged.context in
    let told = plain_context (blank_in setup t m h) (Some h.state.isn) h.state.peer_isn h.context bare h.known in
    let c : h.context ≡ p.context = ap (λ x. x.context) (sym h.emission) ∙ same.context in
    let sockets = sockets_met setup at m.maker s bytes p same.maker g in
    let turned : context there.local there.remote told.0 told.1 ≡ context d.source d.destination told.0 told.1 =
    ap (λ (k : Socket). context k there.remote told.0 told.1) sockets.0 ∙ ap (λ (k : Socket). context d.source k told.0 told.1) sockets.1 in
    let equal : context d.source d.destination told.0 told.1 ≡ context d.source d.destination mine.0 mine.1 = sym turned ∙ (sym told.4 ∙ (c ∙ mine.4)) in
    let isn_is : h.state.isn ≡ told.0 = some_is h.state.isn told.0 told.2 in
    let own_is : s.isn ≡ mine.1 = some_is s.isn mine.1 mine.3 in
    let isn_low = h.sound.isn_fits in
    let own_low = sound.isn_fits in
    let isns =
    context_law d.source d.destination told.0 told.1 mine.0 mine.1 (omega arith) (h.sound.peer_isn_fits told.1 told.3) (sound.peer_isn_fits mine.0 mine.2) (omega arith) equal in
    let same_isn = isns.0 in
    let isn = h.isn in
    record { peer = mine.0; knows = mine.2; isn = omega arith; back = h.later.peer told.1 told.3 ∙ ap (λ n. Some n) (isns.1 ∙ sym own_is) }

pub origin_of : (setup : Setup) (w : World) (at : End) (s : EndState) (bytes : List ℕ) (p : Finding) → SetupFits setup → Sound s → (g : Passing (pair_of setup at) s bytes p) → Found setup w at p w.history
    → Origin setup w at s p.number g.segment g.judged.ao
origin_of setup w at s bytes p fits sound g f =
    let m = f.made in
    let t = f.ok.session in
    let h = f.ok.by in
    let accounts = accounts_tell at p m f.accounts in
    let same = meaning_met setup t.state m h at s bytes p fits accounts g in
    record {
      made = m;
      among = f.among;
      maker = accounts.maker;
      session = t;
      by = h;
      flags = same.flags;
      repeats = record {
        number = ap (λ x. x.number) h.emission ∙ same.number;
        flags = ap (λ x. x.segment.flags) h.emission ∙ same.flags;
        acknowledgement = ap (λ x. x.segment.acknowledgement) h.emission ∙ same.acknowledgement;
        window = ap (λ x. x.segment.window) h.emission ∙ same.window;
        key_id = ap (λ x. x.sending.key_id) h.emission ∙ same.key_id;
        rnext_key_id = ap (λ x. x.sending.rnext_key_id) h.emission ∙ same.rnext_key_id;
        payload = ap (λ x. x.segment.payload) h.emission ∙ same.payload;
      };
      linked = λ plain.
          let l = linked_met setup t.state m h at s bytes p sound accounts g (ap (λ (k : ℕ). (k / 2) % 2 == 1) same.flags ∙ plain) plain in
          let others = (side w (other at)).sessions in
          (l.peer, l.knows, ap (find others) (sym l.isn) ∙ (ap (λ (x : End). find (side w x).sessions m.isn) (sym accounts.maker) ∙ f.ok.found), l.back);
    }

-- ---- the laws

session_is : (a b : Session) → Some a ≡ Some b → a ≡ b
session_is a b e = cc

-- an arrival of an event that is no forgery
record Came0 (setup : Setup) (w : World) (r : Came) (s : Session) : Type 0 where
  arrived : ArrivedOk (pair_of setup r.at) s.state r.bytes (arrive (side w r.at).rows (pair_of setup r.at) (side w r.at).clock s.state (reading r.bytes))
  answer : r.answer ≡ (arrive (side w r.at).rows (pair_of setup r.at) (side w r.at).clock s.state (reading r.bytes)).answer
  passed : r.passed ≡ (arrive (side w r.at).rows (pair_of setup r.at) (side w r.at).clock s.state (reading r.bytes)).passed
  sound : Sound s.state
  origin : (p : Finding) → r.passed ≡ Some p → (g : Passing (pair_of setup r.at) s.state r.bytes p) → Origin setup w r.at s.state p.number g.segment g.judged.ao

came0 : (setup : Setup) → SetupFits setup → (w : World) (event : Event) → EventFits event → Inv setup w → (r : Came) (a : Arrives setup w event r) → forged r.at r.passed w.history ≡ 0
    → Came0 setup w r a.session
came0 setup fits w event f inv r a none =
    let by = came_by setup fits w event r f inv a.came in
    let same : by.session ≡ a.session = session_is by.session a.session (sym by.lives ∙ a.lives) in
    let s = a.session in
    let sound = live_sound (side w r.at).sessions s a.lives (inv.sound r.at) in
    let whole = live_whole (side w r.at).sessions s a.lives (inv.whole r.at) in
    let rows = (side w r.at).rows in
    let pair = pair_of setup r.at in
    let now = (side w r.at).clock in
    record {
      arrived = arrive_ok rows pair now s.state r.bytes by.bytes sound whole;
      answer = subst (λ (x : Session). r.answer ≡ (arrive rows pair now x.state (reading r.bytes)).answer) same by.answer;
      passed = subst (λ (x : Session). r.passed ≡ (arrive rows pair now x.state (reading r.bytes)).passed) same by.passed;
      sound = sound;
      origin = λ p is g. origin_of setup w r.at s.state r.bytes p fits sound g (found_made setup w r.at p w.history (none_forged r.at r.passed p w.history is none) inv.made);
    }

-- an arrival is none where no forgery is counted after it
unforged_at : (setup : Setup) (w : World) (event : Event) (r : Came) (a : Arrives setup w event r) → forgeries (step setup w event).world.history ≡ 0 → forged r.at r.passed w.history ≡ 0
unforged_at setup w event r a none =
    let all : forgeries (Coming r ∷ w.history) ≡ 0 = ap forgeries (sym a.came) ∙ none in omega arith

-- an arrival without SYN that passes and is no forgery says what the session's partner had said before
pub origin_if : (setup : Setup) → SetupFits setup → (w : World) (event : Event) → EventFits event → Inv setup w → (r : Came) (a : Arrives setup w event r) → forged r.at r.passed w.history ≡ 0
    → (p : Finding) (d : Segment) → r.passed ≡ Some p → reading r.bytes ≡ Read d → has SYN d ≡ false → (ao : Ao) × (find_ao d.area ≡ One ao) × FromPartner w r.at a.session.state p.number d ao
origin_if setup fits w event f inv r a none p d is reads plain =
    let c = came0 setup fits w event f inv r a none in
    let g = c.arrived.passing p (sym c.passed ∙ is) in
    let o = c.origin p is g in
    let same : g.segment ≡ d = segment_is g.segment d (sym g.reads ∙ reads) in
    let plain_g : has SYN g.segment ≡ false = ap (λ (x : Segment). has SYN x) same ∙ plain in
    let from : FromPartner w r.at a.session.state p.number g.segment g.judged.ao = record {
      session = o.session;
      is_partner = is_partner setup w r.at a.session.state p.number g.segment g.judged.ao o plain_g;
      made = o.made;
      among = o.among;
      maker = o.maker;
      isn = sym (o.by.later.same_isn ∙ o.by.isn);
      repeats = o.repeats;
    } in (
      g.judged.ao,
      subst (λ (x : Segment). find_ao x.area ≡ One g.judged.ao) same g.judged.option,
      subst (λ (x : Segment). FromPartner w r.at a.session.state p.number x g.judged.ao) same from,
    )

pub has_origin : (setup : Setup) → SetupFits setup → (w : World) (event : Event) → EventFits event → Inv setup w → HasOrigin setup w event
has_origin setup fits w event f inv none r a p d is reads plain = origin_if setup fits w event f inv r a (unforged_at setup w event r a none) p d is reads plain

-- a reset that is no forgery comes only of a partner that had abort called
pub reset_if : (setup : Setup) → SetupFits setup → (w : World) (event : Event) → EventFits event → Inv setup w → (r : Came) (a : Arrives setup w event r) → forged r.at r.passed w.history ≡ 0
    → r.answer ≡ Reset → PartnerAborted w r.at a.session.state
reset_if setup fits w event f inv r a none is =
    let c = came0 setup fits w event f inv r a none in
    let z = c.arrived.reset (sym c.answer ∙ is) in
    let p = z.0 in
    let g = c.arrived.passing p z.1 in
    let o = c.origin p (c.passed ∙ z.1) g in
    let rst : has RST g.segment ≡ true = z.2 g.segment g.reads in
    let made_rst : sets o.by.draft.flags RST ≡ true = ap (λ (k : ℕ). (k / 4) % 2 == 1) o.flags ∙ rst in
    let stop = o.by.drafted.rst made_rst in
    let plain : has SYN g.segment ≡ false = ap (λ (k : ℕ). (k / 2) % 2 == 1) (sym o.flags) ∙ stop.1 in
    record { session = o.session; is_partner = is_partner setup w r.at a.session.state p.number g.segment g.judged.ao o plain; aborted = o.by.later.stopped stop.0 }

pub resets_by_abort : (setup : Setup) → SetupFits setup → (w : World) (event : Event) → EventFits event → Inv setup w → ResetsByAbort setup w event
resets_by_abort setup fits w event f inv none r a is = reset_if setup fits w event f inv r a (unforged_at setup w event r a none) is
