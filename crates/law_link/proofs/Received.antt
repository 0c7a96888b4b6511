-- Received was given, and acknowledged was received, in each state of each run.
use Rattle.std.proofs.Common.{◌≡◌, ℕ, ◌+◌, ◌-◌, ◌/◌, ◌%◌, ◌≤◌, ◌^◌, ◌<◌, ◌==◌, Bool, true, false, List, [], ◌∷◌, ◌++◌, length, slice_get, Option, Some, None, ◌⊎◌, inl, inr, ⊎_elim, if◌then◌else◌, refl, sym, ap, ◌∙◌, subst, arith, length-append}
use Rattle.std.specs.Prelude.{⊤}
use Rattle.std.specs.List.{AllByRecursion}
use Rattle.std.proofs.lemmas.Option.{slice_get_within}
use Rattle.book_base.specs.declared.end.End.{End}
use Rattle.book_base.specs.declared.end.End.TheVariants.{A, B}
use Rattle.book_segments.specs.Options.{Ao}
use Rattle.book_segments.specs.Segments.{Segment, has, bit_of, FIN, SYN, ACK}
use Rattle.book_segments.proofs.Fields.{some_is}
use Rattle.book_endpoint.specs.States.{EndState, first}
use Rattle.book_segments.specs.Received.{below_limit}
use Rattle.book_endpoint.specs.Verdicts.{Finding}
use Rattle.book_endpoint.specs.Emissions.{sets}
use Rattle.law_link.proofs.Sound.{Sound, Later}
use Rattle.law_link.proofs.Stream.{Stream}
use Rattle.law_link.proofs.Whole.{Whole}
use Rattle.law_link.proofs.Gains.{Brings, BringsFin, BringsAck}
use Rattle.law_link.proofs.Carrying.{GivenAt, given-later}
use Rattle.law_link.specs.Headline.{GivesFew}
use Rattle.law_link.specs.Laws.{SetupFits, Repeats}
use Rattle.book_link.specs.Worlds.{other, Setup, pair_of, Session, LinkSide, Made, Came, Happening, Making, Coming, World, side, find, forged, forgeries}
use Rattle.book_link.specs.Steps.{add, put}
use Rattle.law_link.proofs.Invariant.{MadeBy, Inv, Grows}
use Rattle.law_link.proofs.Sessions.{both}
use Rattle.law_link.proofs.Keeping.{HasPassed, Gained}
use Rattle.law_link.proofs.Arriving.{Passing}
use Rattle.law_link.proofs.Origin.{Origin, origin_of, plain_context}
use Rattle.law_link.proofs.Accounts.{found_made, none_forged}
use Rattle.book_segments.specs.Bytes.{ring}

-- close was called on the session, and its FIN has this number
abbrev pub FinMade : EndState → ℕ → Type 0
FinMade s f = (s.closing ≡ true) × (f ≡ s.isn + 1 + length s.given)

-- the session's partner is one of these, and this is so of it
pub record OfPartner (others : List Session) (s : EndState) (P : EndState → Type 0) : Type 0 where
  pub peer : ℕ
  pub knows : s.peer_isn ≡ Some peer
  pub session : Session
  pub found : find others peer ≡ Some session
  pub back : session.state.peer_isn ≡ Some s.isn
  pub what : P session.state

-- received was given: each byte that a session received was given to its partner at that number, and a recorded FIN is the partner's
pub record Received (others : List Session) (s : EndState) : Type 0 where
  pub bytes : (p b : ℕ) → s.received p ≡ Some b → OfPartner others s (λ t. GivenAt t p b)
  pub fins : (f : ℕ) → s.fin ≡ Some f → OfPartner others s (λ t. FinMade t f)
  pub sent : (p b : ℕ) → s.received p ≡ Some b → OfPartner others s (λ t. p < t.next)
  pub gone : (f : ℕ) → s.fin ≡ Some f → OfPartner others s (λ t. f < t.next)

abbrev pub AllReceived : List Session → List Session → Type 0
AllReceived others sessions = AllByRecursion (λ (s : Session). Received others s.state) sessions

-- acknowledged was received
abbrev pub Acked : List Session → EndState → Type 0
Acked others s = (s.una ≤ s.isn + 1) ⊎ OfPartner others s (λ t. s.una ≤ t.expected)

abbrev pub AllAcked : List Session → List Session → Type 0
AllAcked others sessions = AllByRecursion (λ (s : Session). Acked others s.state) sessions

abbrev pub AllFew : List Session → Type 0
AllFew sessions = AllByRecursion (λ (s : Session). length s.state.given < 2 ^ 31) sessions

pub record Heard (w : World) : Type 0 where
  pub origin : forgeries w.history ≡ 0 → (e : End) → AllReceived (side w (other e)).sessions (side w e).sessions
  pub acks : forgeries w.history ≡ 0 → GivesFew w → (e : End) → AllAcked (side w (other e)).sessions (side w e).sessions

-- ---- what stays so

fin-later : (old new : EndState) (f : ℕ) → Later old new → FinMade old f → FinMade new f
fin-later old new f l (closing, at) =
    let c = l.closed closing in
    let isn = l.same_isn in
    let len : length new.given ≡ length old.given = ap length c.1 in
    (c.0, omega arith)

pub of-grows : (others now : List Session) (s : EndState) (P : EndState → Type 0) → ((t u : EndState) → Later t u → P t → P u) → Grows others now → OfPartner others s P → OfPartner now s P
of-grows others now s P more g o =
    let r = g o.peer o.session o.found in
    record { peer = o.peer; knows = o.knows; session = r.0; found = r.1; back = r.2.peer s.isn o.back; what = more o.session.state r.0.state r.2 o.what }

pub of-later : (others : List Session) (old new : EndState) (P : EndState → Type 0) → Later old new → OfPartner others old P → OfPartner others new P
of-later others old new P l o =
    record { peer = o.peer; knows = l.peer o.peer o.knows; session = o.session; found = o.found; back = o.back ∙ ap (λ n. Some n) (sym l.same_isn); what = o.what }

pub of-map : (others : List Session) (s : EndState) (P Q : EndState → Type 0) → ((t : EndState) → t.peer_isn ≡ Some s.isn → P t → Q t) → OfPartner others s P → OfPartner others s Q
of-map others s P Q f o = record { peer = o.peer; knows = o.knows; session = o.session; found = o.found; back = o.back; what = f o.session.state o.back o.what }

pub received-grows : (others now : List Session) (s : EndState) → Grows others now → Received others s → Received now s
received-grows others now s g h =
    record {
      bytes = λ p b e. of-grows others now s (λ t. GivenAt t p b) (λ t u l x. given-later t u p b l x) g (h.bytes p b e);
      fins = λ f e. of-grows others now s (λ t. FinMade t f) (λ t u l x. fin-later t u f l x) g (h.fins f e);
      sent = λ p b e. of-grows others now s (λ t. p < t.next) (λ t u l x. let more = l.sent in omega arith) g (h.sent p b e);
      gone = λ f e. of-grows others now s (λ t. f < t.next) (λ t u l x. let more = l.sent in omega arith) g (h.gone f e);
    }

pub all_received-grows : (others now sessions : List Session) → Grows others now → AllReceived others sessions → AllReceived now sessions
all_received-grows others now [] g h = h
all_received-grows others now (s ∷ rest) g h = (received-grows others now s.state g h.0, all_received-grows others now rest g h.1)

pub acked-grows : (others now : List Session) (s : EndState) → Grows others now → Acked others s → Acked now s
acked-grows others now s g h =
    ⊎_elim (λ (x : s.una ≤ s.isn + 1). inl x)
    (λ (x : OfPartner others s (λ t. s.una ≤ t.expected)). inr (of-grows others now s (λ t. s.una ≤ t.expected) (λ t u l y. let up = l.up in omega arith) g x)) h

all_acked-grows : (others now sessions : List Session) → Grows others now → AllAcked others sessions → AllAcked now sessions
all_acked-grows others now [] g h = h
all_acked-grows others now (s ∷ rest) g h = (acked-grows others now s.state g h.0, all_acked-grows others now rest g h.1)

pub fewer_forgeries : (happened : Option Happening) (history : List Happening) → forgeries (add happened history) ≡ 0 → forgeries history ≡ 0
fewer_forgeries None history e = e
fewer_forgeries (Some (Making m)) history e = e
fewer_forgeries (Some (Coming r)) history e = omega arith

-- ---- what an arrival brings was made by the partner

-- what happens after this history is no forgery
abbrev pub Unforged : Option Happening → List Happening → Type 0
Unforged None history = ⊤
Unforged (Some (Making m)) history = ⊤
Unforged (Some (Coming r)) history = forged r.at r.passed history ≡ 0

unforged : (happened : Option Happening) (history : List Happening) → forgeries (add happened history) ≡ 0 → Unforged happened history
unforged None history e = tt
unforged (Some (Making m)) history e = tt
unforged (Some (Coming r)) history e = omega arith

origin_now : (setup : Setup) (w : World) (e : End) (s : EndState) (r : Came) (p : Finding) → SetupFits setup → Inv setup w → Sound s → forged r.at r.passed w.history ≡ 0 → r.at ≡ e → r.passed ≡ Some p
    → (g : Passing (pair_of setup e) s r.bytes p) → Origin setup w e s p.number g.segment g.judged.ao
origin_now setup w e s r p fits inv sound none at passed g =
    let z : forged e r.passed w.history ≡ 0 = subst (λ (f : End). forged f r.passed w.history ≡ 0) at none in
    origin_of setup w e s r.bytes p fits sound g (found_made setup w e p w.history (none_forged e r.passed p w.history passed z) inv.made)

pub passed_origin : (setup : Setup) (w : World) (e : End) (s : EndState) (r : Came) (p : Finding) → SetupFits setup → Inv setup w → Sound s → forgeries (Coming r ∷ w.history) ≡ 0 → r.at ≡ e → r.passed ≡ Some p
    → (g : Passing (pair_of setup e) s r.bytes p) → Origin setup w e s p.number g.segment g.judged.ao
passed_origin setup w e s r p fits inv sound none at passed g = origin_now setup w e s r p fits inv sound (unforged (Some (Coming r)) w.history none) at passed g

-- what a segment says of its origin's session
abbrev pub Says : Setup → (Segment → ℕ → Type 0) → (EndState → Type 0) → Type 0
Says setup Q P = (d : Segment) (n : ℕ) (ao : Ao) → Q d n → (t : EndState) (m : Made) (h : MadeBy setup t m) → h.draft.flags ≡ d.flags → Repeats m n d ao → P t

pub brought : (setup : Setup) (w : World) (e : End) (s : EndState) (happened : Option Happening) (d : Segment) (n : ℕ) (Q : Segment → ℕ → Type 0) (P : EndState → Type 0) → SetupFits setup → Inv setup w → Sound s
    → Unforged happened w.history → HasPassed setup e s happened d n → Q d n → ((c : Segment) (k : ℕ) → Q c k → has SYN c ≡ false) → Says setup Q P → OfPartner (side w (other e)).sessions s P
brought setup w e s None d n Q P fits inv sound none h q plain says = absurd h
brought setup w e s (Some (Making m)) d n Q P fits inv sound none h q plain says = absurd h
brought setup w e s (Some (Coming r)) d n Q P fits inv sound none (at, p, passed, g, segment, number) q plain says =
    let o = origin_now setup w e s r p fits inv sound none at passed g in
    let here : Q g.segment p.number = subst (λ (c : Segment). Q c p.number) (sym segment) (subst (λ (k : ℕ). Q d k) (sym number) q) in
    let l = o.linked (plain g.segment p.number here) in
    record { peer = l.0; knows = l.1; session = o.session; found = l.2; back = l.3; what = says g.segment p.number g.judged.ao here o.session.state o.made o.by o.flags o.repeats }

pub payload_in : (setup : Setup) (t : EndState) (m : Made) (h : MadeBy setup t m) → m.emission.segment.payload ≡ h.draft.payload
payload_in setup t m h = ap (λ x. x.segment.payload) h.emission

pub number_in : (setup : Setup) (t : EndState) (m : Made) (h : MadeBy setup t m) → m.emission.number ≡ h.draft.number
number_in setup t m h = ap (λ x. x.number) h.emission

byte_says : (setup : Setup) (p b : ℕ) → Says setup (λ d n. Brings d n p b) (λ t. GivenAt t p b)
byte_says setup p b d n ao x t m h flags same =
    let payload : h.draft.payload ≡ d.payload = sym (payload_in setup t m h) ∙ same.payload in
    let byte : slice_get h.draft.payload (p - n) ≡ Some b = subst (λ (l : List ℕ). slice_get l (p - n) ≡ Some b) (sym payload) x.2 in
    let number : h.draft.number ≡ n = sym (number_in setup t m h) ∙ same.number in
    let low = x.1 in
    let place : h.draft.number + (p - n) ≡ p = omega arith in
    given-later h.state t p b h.later (subst (λ (k : ℕ). GivenAt h.state k b) place (h.carries.carried (p - n) b byte))

sent_says : (setup : Setup) (p b : ℕ) → Says setup (λ d n. Brings d n p b) (λ t. p < t.next)
sent_says setup p b d n ao x t m h flags same =
    let payload : h.draft.payload ≡ d.payload = sym (payload_in setup t m h) ∙ same.payload in
    let number : h.draft.number ≡ n = sym (number_in setup t m h) ∙ same.number in
    let inside = slice_get_within d.payload (p - n) b x.2 in
    let long : length h.draft.payload ≡ length d.payload = ap length payload in
    let low = x.1 in
    let sent = h.sent in
    omega arith

gone_says : (setup : Setup) (f : ℕ) → Says setup (λ d n. BringsFin d n f) (λ t. f < t.next)
gone_says setup f d n ao x t m h flags same =
    let fin : sets h.draft.flags FIN ≡ true = ap (λ (k : ℕ). (k / 1) % 2 == 1) flags ∙ x.1 in
    let payload : length h.draft.payload ≡ length d.payload = ap (λ (l : List ℕ). length l) (sym (payload_in setup t m h) ∙ same.payload) in
    let number : h.draft.number ≡ n = sym (number_in setup t m h) ∙ same.number in
    let one : bit_of (sets h.draft.flags FIN) ≡ 1 = ap bit_of fin in
    let at = x.2 in
    let sent = h.sent in
    omega arith

fin_says : (setup : Setup) (f : ℕ) → Says setup (λ d n. BringsFin d n f) (λ t. FinMade t f)
fin_says setup f d n ao x t m h flags same =
    let fin = h.drafted.fin (ap (λ (k : ℕ). (k / 1) % 2 == 1) flags ∙ x.1) in
    let payload : length h.draft.payload ≡ length d.payload = ap (λ (l : List ℕ). length l) (sym (payload_in setup t m h) ∙ same.payload) in
    let bare : length h.draft.payload ≡ 0 = ap (λ (l : List ℕ). length l) fin.1 in
    let number : h.draft.number ≡ n = sym (number_in setup t m h) ∙ same.number in
    let end_is = fin.2 in
    let at = x.2 in
    fin-later h.state t f h.later (fin.0, omega arith)

-- the partner acknowledged a number with this remainder
abbrev Told : ℕ → EndState → Type 0
Told una t = (a : ℕ) × (a % ring ≡ una % ring) × (a ≤ t.expected) × ((q : ℕ) → t.peer_isn ≡ Some q → q + 1 ≤ a)

pub low_limit : (n : ℕ) (fin : Option ℕ) (x : ℕ) → n ≤ below_limit fin x → n ≤ x
low_limit n None x h = h
low_limit n (Some f) x h = omega arith

pub stream_low : (o : Option ℕ) (taken : List ℕ) (m : ℕ → Option ℕ) (fin : Option ℕ) (x : ℕ) → Stream o taken m fin x → first o ≤ x
stream_low o taken m fin x h = let low = low_limit (first o + length taken) fin x h.begun in omega arith

ack_is : (b : Bool) (x : ℕ) → b ≡ true → (if b then x else 0) ≡ x
ack_is true x e = refl
ack_is false x e = absurd (cc)

ack_says : (setup : Setup) (una : ℕ) → Says setup (λ d n. BringsAck d una) (λ t. Told una t)
ack_says setup una d n ao x t m h flags same =
    let s = h.state in
    let acks : sets h.draft.flags ACK ≡ true = ap (λ (k : ℕ). (k / 16) % 2 == 1) flags ∙ x.1 in
    let plain : sets h.draft.flags SYN ≡ false = ap (λ (k : ℕ). (k / 2) % 2 == 1) flags ∙ x.0 in
    let made_ack : m.emission.segment.acknowledgement ≡ s.expected % ring = ap (λ e. e.segment.acknowledgement) h.emission ∙ ack_is (sets h.draft.flags ACK) (s.expected % ring) acks in
    let told = plain_context _ (Some s.isn) s.peer_isn h.context plain h.known in
    let knows : s.peer_isn ≡ Some told.1 = told.3 in
    let low = stream_low s.peer_isn s.taken s.received s.fin s.expected h.whole.stream in
    let start : first s.peer_isn ≡ told.1 + 1 = ap first knows in (
      s.expected,
      sym made_ack ∙ same.acknowledgement ∙ sym x.2,
      h.later.up,
      λ q e. let is : told.1 ≡ q = some_is told.1 q (sym (h.later.peer told.1 knows) ∙ e) in omega arith,
    )

-- ---- one session changes

not_past : (a una isn x given : ℕ) → a % ring ≡ una % ring → a ≤ x → isn + 1 ≤ a → una ≤ isn + 2 + given → given < 2 ^ 31 → una ≤ x
not_past a una isn x given same le low high few = omega arith

module _ (setup : Setup) (fits : SetupFits setup) (w : World) (e : End) (inv : Inv setup w) (s u : EndState) (happened : Option Happening) (sound : Sound s) (l : Later s u) (gained : Gained setup e s u happened)
    (none : Unforged happened w.history) where
  pub head_received : Received (side w (other e)).sessions s → Received (side w (other e)).sessions u
  head_received old =
      let others = (side w (other e)).sessions in
      record {
        bytes = λ p b r.
            of-later others s u (λ t. GivenAt t p b) l
            (⊎_elim (λ (x : s.received p ≡ Some b). old.bytes p b x)
            (λ (x : (d : Segment) × (n : ℕ) × HasPassed setup e s happened d n × Brings d n p b).
            brought setup w e s happened x.0 x.1 (λ d n. Brings d n p b) (λ t. GivenAt t p b) fits inv sound none x.2 x.3 (λ c k q. q.0) (byte_says setup p b))
            (gained.bytes p b r));
        fins = λ f r.
            of-later others s u (λ t. FinMade t f) l
            (⊎_elim (λ (x : s.fin ≡ Some f). old.fins f x)
            (λ (x : (d : Segment) × (n : ℕ) × HasPassed setup e s happened d n × BringsFin d n f).
            brought setup w e s happened x.0 x.1 (λ d n. BringsFin d n f) (λ t. FinMade t f) fits inv sound none x.2 x.3 (λ c k q. q.0) (fin_says setup f))
            (gained.fins f r));
        sent = λ p b r.
            of-later others s u (λ t. p < t.next) l
            (⊎_elim (λ (x : s.received p ≡ Some b). old.sent p b x)
            (λ (x : (d : Segment) × (n : ℕ) × HasPassed setup e s happened d n × Brings d n p b).
            brought setup w e s happened x.0 x.1 (λ d n. Brings d n p b) (λ t. p < t.next) fits inv sound none x.2 x.3 (λ c k q. q.0) (sent_says setup p b))
            (gained.bytes p b r));
        gone = λ f r.
            of-later others s u (λ t. f < t.next) l
            (⊎_elim (λ (x : s.fin ≡ Some f). old.gone f x)
            (λ (x : (d : Segment) × (n : ℕ) × HasPassed setup e s happened d n × BringsFin d n f).
            brought setup w e s happened x.0 x.1 (λ d n. BringsFin d n f) (λ t. f < t.next) fits inv sound none x.2 x.3 (λ c k q. q.0) (gone_says setup f))
            (gained.fins f r));
      }

  pub head_acked : Sound u → Whole u → length u.given < 2 ^ 31 → Acked (side w (other e)).sessions s → Acked (side w (other e)).sessions u
  head_acked sound_u whole_u few old =
      let others = (side w (other e)).sessions in
      let isn = l.same_isn in
      let una = whole_u.ends.una_high in
      let next = sound_u.next_high in
      ⊎_elim
      (λ (same : u.una ≡ s.una).
      ⊎_elim (λ (x : s.una ≤ s.isn + 1). let r : u.una ≤ u.isn + 1 = omega arith in inl r)
      (λ (x : OfPartner others s (λ t. s.una ≤ t.expected)).
      inr (of-map others u (λ t. s.una ≤ t.expected) (λ t. u.una ≤ t.expected) (λ t back y. omega arith) (of-later others s u (λ t. s.una ≤ t.expected) l x))) old)
      (λ (x : (u.una ≤ u.isn + 1) ⊎ ((d : Segment) × (n : ℕ) × HasPassed setup e s happened d n × BringsAck d u.una)).
      ⊎_elim (λ (y : u.una ≤ u.isn + 1). inl y)
      (λ (y : (d : Segment) × (n : ℕ) × HasPassed setup e s happened d n × BringsAck d u.una).
      let o = brought setup w e s happened y.0 y.1 (λ d n. BringsAck d u.una) (Told u.una) fits inv sound none y.2 y.3 (λ c k q. q.0) (ack_says setup u.una) in
      inr (of-map others u (Told u.una) (λ t. u.una ≤ t.expected)
      (λ t back h. not_past h.0 u.una u.isn t.expected (length u.given) h.1 h.2 (h.3 u.isn back) (omega arith) few)
      (of-later others s u (Told u.una) l o))) x)
      gained.acks

pub few_before : (s u : EndState) → Later s u → length u.given < 2 ^ 31 → length s.given < 2 ^ 31
few_before s u l few =
    let longer = length-append s.given l.grown.0 in
    let same : length u.given ≡ length (s.given ++ l.grown.0) = ap length l.grown.1 in
    omega arith

-- an end changes so
pub put_heard : (w : World) (e : End) (now : LinkSide) (happened : Option Happening) → Heard w → Grows (side w e).sessions now.sessions → (AllFew now.sessions → AllFew (side w e).sessions)
    → (forgeries (add happened w.history) ≡ 0 → AllReceived (side w (other e)).sessions (side w e).sessions → AllReceived (side w (other e)).sessions now.sessions)
    → (forgeries (add happened w.history) ≡ 0 → AllFew now.sessions → AllAcked (side w (other e)).sessions (side w e).sessions → AllAcked (side w (other e)).sessions now.sessions)
    → Heard (put w e now happened)
put_heard w A now happened h g few received acked =
    let v = put w A now happened in
    record {
      origin = λ none. let z = fewer_forgeries happened w.history none in
          both (λ f. AllReceived (side v (other f)).sessions (side v f).sessions) (received none (h.origin z A)) (all_received-grows w.a.sessions now.sessions w.b.sessions g (h.origin z B));
      acks = λ none all.
          let z = fewer_forgeries happened w.history none in
          let before : GivesFew w = both (λ f. AllFew (side w f).sessions) (few (all A)) (all B) in
          both (λ f. AllAcked (side v (other f)).sessions (side v f).sessions) (acked none (all A) (h.acks z before A)) (all_acked-grows w.a.sessions now.sessions w.b.sessions g (h.acks z before B));
    }
put_heard w B now happened h g few received acked =
    let v = put w B now happened in
    record {
      origin = λ none. let z = fewer_forgeries happened w.history none in
          both (λ f. AllReceived (side v (other f)).sessions (side v f).sessions) (all_received-grows w.b.sessions now.sessions w.a.sessions g (h.origin z A)) (received none (h.origin z B));
      acks = λ none all.
          let z = fewer_forgeries happened w.history none in
          let before : GivesFew w = both (λ f. AllFew (side w f).sessions) (all A) (few (all B)) in
          both (λ f. AllAcked (side v (other f)).sessions (side v f).sessions) (all_acked-grows w.b.sessions now.sessions w.a.sessions g (h.acks z before A)) (acked none (all B) (h.acks z before B));
    }

-- the newest session of an end changes so
pub head_heard : (setup : Setup) → SetupFits setup → (w : World) (e : End) (s : Session) (rest : List Session) (now : LinkSide) (u : Session) (happened : Option Happening) → (side w e).sessions ≡ s ∷ rest → now.sessions ≡ u ∷ rest
    → Inv setup w → Sound s.state → Sound u.state → Whole u.state → Later s.state u.state → Gained setup e s.state u.state happened → Grows (s ∷ rest) (u ∷ rest) → Heard w → Heard (put w e now happened)
head_heard setup fits w e s rest now u happened old new inv sound sound_u whole_u l gained grows h =
    let others = (side w (other e)).sessions in
    put_heard w e now happened h
    (subst (λ (a : List Session). Grows a now.sessions) (sym old) (subst (λ (b : List Session). Grows (s ∷ rest) b) (sym new) grows))
    (λ all. let few : AllFew (u ∷ rest) = subst AllFew new all in
    subst AllFew (sym old) (few_before s.state u.state l few.0, few.1))
    (λ none all. let was : AllReceived others (s ∷ rest) = subst (λ (a : List Session). AllReceived others a) old all in
    subst (λ (a : List Session). AllReceived others a) (sym new) (head_received setup fits w e inv s.state u.state happened sound l gained (unforged happened w.history none) was.0, was.1))
    (λ none all acked. let few : AllFew (u ∷ rest) = subst AllFew new all in
    let was : AllAcked others (s ∷ rest) = subst (λ (a : List Session). AllAcked others a) old acked in
    subst (λ (a : List Session). AllAcked others a) (sym new) (head_acked setup fits w e inv s.state u.state happened sound l gained (unforged happened w.history none) sound_u whole_u few.0 was.0, was.1))
