-- What holds of every run besides what law_link keeps: room, runs, sizes, and that only what was sent is received.
use Rattle.std.proofs.Common.{◌≡◌, ℕ, ◌+◌, ◌-◌, ◌<◌, ◌≤◌, ◌==◌, max, Bool, true, false, List, [], ◌∷◌, length, Option, Some, None, ⊎_elim, refl, sym, ap, ◌∙◌, subst, arith}
use Rattle.std.specs.Prelude.{⊤}
use Rattle.std.specs.List.{AllByRecursion}
use Rattle.book_base.specs.declared.end.End.{End}
use Rattle.book_base.specs.declared.end.End.TheVariants.{A, B}
use Rattle.book_segments.specs.Received.{below_limit}
use Rattle.book_segments.proofs.Fields.{some_is}
use Rattle.book_endpoint.specs.declared.phase.Phase.{Phase}
use Rattle.book_endpoint.specs.declared.phase.Phase.TheVariants.{Listen, SynSent, SynReceived, Established, FinWait1, FinWait2, CloseWait, Closing, LastAck, TimeWait, Closed}
use Rattle.book_endpoint.specs.States.{EndState, first, given_end, is_closed, hears, passed_fin}
use Rattle.book_endpoint.specs.Emissions.{is_syn_received}
use Rattle.book_segments.specs.Segments.{bit_of}
use Rattle.book_segments.proofs.Fields.{lt_is, lt_not}
use Rattle.std.proofs.lemmas.Option.{slice_get_within}
use Rattle.book_base.proofs.TestLaws.{by_bool}
use Rattle.law_link.proofs.Carrying.{GivenAt}
use Rattle.book_link.specs.Worlds.{other, Setup, Session, Made, Happening, Making, Coming, World, side, find, live, forgeries}
use Rattle.law_link.specs.Headline.{GivesFew}
use Rattle.law_link.specs.Laws.{TablesFit}
use Rattle.law_link.proofs.Phases.{fin_gone, fin_made, open_now, waits}
use Rattle.law_link.proofs.Sound.{Sound}
use Rattle.law_link.proofs.Whole.{Whole}
use Rattle.law_link.proofs.Stream.{or_lt}
use Rattle.law_link.proofs.Invariant.{Inv, live_sound, live_whole}
use Rattle.law_link.proofs.Sessions.{find_own}
use Rattle.law_link.proofs.Received.{FinMade, OfPartner, Received, Acked, Heard, stream_low}
use Rattle.book_segments.specs.Segments.{has, FIN}
use Rattle.law_progress.specs.Progress.{is_open, all_end}
use Rattle.law_progress.proofs.Calm.{AllCalms}
use Rattle.law_progress.proofs.Opened.{BothOpen}
use Rattle.law_progress.proofs.Runs.{HasFewRuns}
use Rattle.law_progress.proofs.Making.{IsOpen, Numbers, is_past, is_settled}

-- ---- the facts

-- what holds of one state: at most 65,535 given bytes are unacknowledged, the peer's size is at least 88, few runs are kept past the number expected, a RST is owed only of a closed end, nothing is acknowledged before the handshake, and no FIN is recorded then; the phase says whether the peer's FIN was passed, and whether the own was sent and acknowledged
pub record FitOf (una isn : ℕ) (given : List ℕ) (size : ℕ) (m : ℕ → Option ℕ) (x : ℕ) (fin : Option ℕ) (next : ℕ) (owed : Bool) (phase : Phase) : Type 0 where
  pub room : isn + 1 + length given ≤ max una (isn + 1) + 65535
  pub mss : 88 ≤ size
  pub runs : HasFewRuns m x
  pub rst : owed ≡ true → is_closed phase ≡ true
  pub start : waits phase ≡ true → una ≤ isn + 1
  pub mute : is_syn_received phase ≡ true → fin ≡ None
  pub hearing : hears phase ≡ true → passed_fin fin x ≡ false
  pub past : is_past phase ≡ true → passed_fin fin x ≡ true
  pub gone : fin_made phase ≡ true → isn + 2 + length given ≤ next
  pub settled : is_settled phase ≡ true → next ≤ una

abbrev pub Fit : EndState → Type 0
Fit s = FitOf s.una s.isn s.given s.mss s.received s.expected s.fin s.next s.rst_owed s.phase

abbrev pub AllFit : List Session → Type 0
AllFit sessions = AllByRecursion (λ (s : Session). Fit s.state) sessions

abbrev pub AllFits : World → Type 0
AllFits w = (e : End) → AllFit (side w e).sessions

-- ---- what is told

-- the session made a FIN, and in LAST-ACK all that it expects was acknowledged with this number
abbrev pub IsSettledBy : EndState → ℕ → Type 0
IsSettledBy t a = (fin_gone t.phase ≡ true) × (t.phase ≡ LastAck → t.expected ≤ a)

-- an entry's session, with what its acknowledgement tells
pub record TellsOf (sessions : List Session) (m : Made) : Type 0 where
  pub session : Session
  pub found : find sessions m.isn ≡ Some session
  pub gone : fin_gone session.state.phase ≡ true
  pub told : session.state.phase ≡ LastAck → (a : ℕ) → m.emission.acknowledged ≡ Some a → session.state.expected ≤ a

-- all entries with a FIN tell so
abbrev pub AllTells : World → List Happening → Type 0
AllTells w [] = ⊤
AllTells w (Making m ∷ past) = (has FIN m.emission.segment ≡ true → TellsOf (side w m.maker).sessions m) × AllTells w past
AllTells w (Coming r ∷ past) = AllTells w past

-- where a FIN is recorded, its session's partner is settled by what is acknowledged
abbrev pub FinTold : List Session → EndState → Type 0
FinTold others s = (f : ℕ) → s.fin ≡ Some f → OfPartner others s (λ t. IsSettledBy t s.una)

abbrev pub AllFinTold : List Session → List Session → Type 0
AllFinTold others sessions = AllByRecursion (λ (s : Session). FinTold others s.state) sessions

pub record Telling (w : World) : Type 0 where
  pub tells : AllTells w w.history
  pub told : forgeries w.history ≡ 0 → GivesFew w → (e : End) → AllFinTold (side w (other e)).sessions (side w e).sessions

-- all of that, with what law_link keeps
pub record Facts (setup : Setup) (w : World) : Type 0 where
  pub tables : TablesFit setup
  pub inv : Inv setup w
  pub heard : Heard w
  pub fit : AllFits w
  pub telling : Telling w
  pub calm : AllCalms w

-- ---- two ends that are up

-- where the partner is in LAST-ACK and its FIN was received here, it acknowledged all that is to be sent here
abbrev pub IsTold : EndState → EndState → Type 0
IsTold s t = t.phase ≡ LastAck → given_end t < s.expected → s.una ≡ all_end s

-- what is known of an end s and its partner t
pub record Ends (s t : EndState) : Type 0 where
  pub up : IsOpen s
  pub numbers : Numbers s
  pub room : given_end s ≤ s.una + 65535
  pub few : HasFewRuns s.received s.expected
  pub whole : Whole s
  pub sound : Sound s
  pub acked : s.una ≤ t.expected
  pub sent : t.expected ≤ s.next
  pub peer : s.peer_isn ≡ Some t.isn
  pub fin_at : (f : ℕ) → s.fin ≡ Some f → (t.closing ≡ true) × (f ≡ given_end t)
  pub below : (p b : ℕ) → s.received p ≡ Some b → p < given_end t
  pub hearing : hears s.phase ≡ true → s.expected ≤ given_end t
  pub past : hears s.phase ≡ false → (t.closing ≡ true) × (s.expected ≡ given_end t + 1)
  pub ended : hears s.phase ≡ false → (f : ℕ) × (s.fin ≡ Some f)
  pub told : IsTold s t

pub live_all : (P : Session → Type 0) (sessions : List Session) (r : Session) → live sessions ≡ Some r → AllByRecursion P sessions → P r
live_all P [] r lives h = absurd (cc)
live_all P (s ∷ rest) r lives h = subst P (some_is s r lives) h.0

pub live_found : (sessions : List Session) (r : Session) → live sessions ≡ Some r → find sessions r.state.isn ≡ Some r
live_found [] r lives = absurd (cc)
live_found (s ∷ rest) r lives = subst (λ (x : Session). find (s ∷ rest) x.state.isn ≡ Some x) (some_is s r lives) (find_own s rest (s.state.isn == s.state.isn) refl)

-- the partner is the live session of the other end
pub partner_live : (others : List Session) (s : EndState) (t : Session) (P : EndState → Type 0) → live others ≡ Some t → s.peer_isn ≡ Some t.state.isn → OfPartner others s P → P t.state
partner_live others s t P lives knows o =
    let same : o.peer ≡ t.state.isn = some_is o.peer t.state.isn (sym o.knows ∙ knows) in
    let found : find others t.state.isn ≡ Some o.session = subst (λ (k : ℕ). find others k ≡ Some o.session) same o.found in
    let is : o.session ≡ t = some_is o.session t (sym found ∙ live_found others t lives) in
    subst (λ (x : Session). P x.state) is o.what

pub knows_other : (setup : Setup) (w : World) (lead lag : ℕ) (up : BothOpen setup w lead lag) (e : End) → (up.session e).state.peer_isn ≡ Some (up.session (other e)).state.isn
knows_other setup w lead lag up A = up.partners.here
knows_other setup w lead lag up B = up.partners.there

pub knows_back : (setup : Setup) (w : World) (lead lag : ℕ) (up : BothOpen setup w lead lag) (e : End) → (up.session (other e)).state.peer_isn ≡ Some (up.session e).state.isn
knows_back setup w lead lag up A = up.partners.there
knows_back setup w lead lag up B = up.partners.here

pub back_again : (P : End → Type 0) (e : End) → P e → P (other (other e))
back_again P A h = h
back_again P B h = h

pub forth_again : (P : End → Type 0) (e : End) → P (other (other e)) → P e
forth_again P A h = h
forth_again P B h = h

pub limit_none : (o : Option ℕ) (x : ℕ) → o ≡ None → below_limit o x ≡ x
limit_none None x e = refl
limit_none (Some f) x e = absurd (cc)

pub limit_is : (o : Option ℕ) (x : ℕ) → ((f : ℕ) → o ≡ Some f → x ≤ f) → below_limit o x ≡ x
limit_is None x h = refl
limit_is (Some f) x h = let low = h f refl in omega arith

pub passed_is : (o : Option ℕ) (x : ℕ) → passed_fin o x ≡ true → (f : ℕ) × (o ≡ Some f) × (f < x)
passed_is None x e = absurd (cc)
passed_is (Some f) x e = (f, refl, lt_is f x e)

pub unpassed_is : (o : Option ℕ) (x f : ℕ) → passed_fin o x ≡ false → o ≡ Some f → x ≤ f
unpassed_is None x f e is = absurd (cc)
unpassed_is (Some g) x f e is = let same = some_is g f is in let low = lt_not g x e in omega arith

pub past_unless : (phase : Phase) → is_open phase ≡ true → hears phase ≡ false → is_past phase ≡ true
past_unless Listen o h = absurd (cc)
past_unless SynSent o h = absurd (cc)
past_unless SynReceived o h = absurd (cc)
past_unless Closed o h = absurd (cc)
past_unless Established o h = absurd (cc)
past_unless FinWait1 o h = absurd (cc)
past_unless FinWait2 o h = absurd (cc)
past_unless CloseWait o h = refl
past_unless Closing o h = refl
past_unless LastAck o h = refl
past_unless TimeWait o h = refl

pub open_speaks : (phase : Phase) → is_open phase ≡ true → (open_now phase ≡ true) × (is_closed phase ≡ false)
open_speaks Listen o = absurd (cc)
open_speaks SynSent o = absurd (cc)
open_speaks SynReceived o = absurd (cc)
open_speaks Closed o = absurd (cc)
open_speaks Established o = (refl, refl)
open_speaks FinWait1 o = (refl, refl)
open_speaks FinWait2 o = (refl, refl)
open_speaks CloseWait o = (refl, refl)
open_speaks Closing o = (refl, refl)
open_speaks LastAck o = (refl, refl)
open_speaks TimeWait o = (refl, refl)

pub gone_made : (phase : Phase) → is_open phase ≡ true → fin_gone phase ≡ true → fin_made phase ≡ true
gone_made Listen o g = absurd (cc)
gone_made SynSent o g = absurd (cc)
gone_made SynReceived o g = absurd (cc)
gone_made Closed o g = absurd (cc)
gone_made Established o g = absurd (cc)
gone_made CloseWait o g = absurd (cc)
gone_made FinWait1 o g = refl
gone_made FinWait2 o g = refl
gone_made Closing o g = refl
gone_made LastAck o g = refl
gone_made TimeWait o g = refl

pub unowed : (a b : Bool) → (a ≡ true → b ≡ true) → b ≡ false → a ≡ false
unowed true b h e = let on = h refl in absurd (cc)
unowed false b h e = refl

module _ (setup : Setup) (w : World) (lead lag : ℕ) (facts : Facts setup w) (few : GivesFew w) (up : BothOpen setup w lead lag) (e : End) where
  pub received_here : Received (side w (other e)).sessions (up.session e).state
  received_here = live_all (λ (x : Session). Received (side w (other e)).sessions x.state) (side w e).sessions (up.session e) (up.lives e) (facts.heard.origin up.unforged e)

  pub of_partner : (P : EndState → Type 0) → OfPartner (side w (other e)).sessions (up.session e).state P → P (up.session (other e)).state
  of_partner P o = partner_live (side w (other e)).sessions (up.session e).state (up.session (other e)) P (up.lives (other e)) (knows_other setup w lead lag up e) o

  pub fin_is : (f : ℕ) → (up.session e).state.fin ≡ Some f → ((up.session (other e)).state.closing ≡ true) × (f ≡ given_end (up.session (other e)).state)
  fin_is f is = of_partner (λ t. FinMade t f) (received_here.fins f is)

  pub below_is : (p b : ℕ) → (up.session e).state.received p ≡ Some b → p < given_end (up.session (other e)).state
  below_is p b is =
      let h = of_partner (λ t. GivenAt t p b) (received_here.bytes p b is) in
      let inside = slice_get_within (up.session (other e)).state.given h.0 b h.2 in
      let at = h.1 in
      omega arith

  pub whole_here : Whole (up.session e).state
  whole_here = live_whole (side w e).sessions (up.session e) (up.lives e) (facts.inv.whole e)

  pub sound_here : Sound (up.session e).state
  sound_here = live_sound (side w e).sessions (up.session e) (up.lives e) (facts.inv.sound e)

  pub fit_here : Fit (up.session e).state
  fit_here = live_all (λ (x : Session). Fit x.state) (side w e).sessions (up.session e) (up.lives e) (facts.fit e)

  pub start : (up.session e).state.isn + 1 ≤ (up.session (other e)).state.expected
  start =
      let t = (up.session (other e)).state in
      let whole = live_whole (side w (other e)).sessions (up.session (other e)) (up.lives (other e)) (facts.inv.whole (other e)) in
      let low = stream_low t.peer_isn t.taken t.received t.fin t.expected whole.stream in
      let is : first t.peer_isn ≡ (up.session e).state.isn + 1 = ap first (knows_back setup w lead lag up e) in
      omega arith

  pub acked_up : (up.session e).state.una ≤ (up.session (other e)).state.expected
  acked_up =
      let s = (up.session e).state in
      let t = (up.session (other e)).state in
      let others = (side w (other e)).sessions in
      let h = live_all (λ (x : Session). Acked others x.state) (side w e).sessions (up.session e) (up.lives e) (facts.heard.acks up.unforged few e) in
      let low = start in
      ⊎_elim (λ (x : s.una ≤ s.isn + 1). omega arith)
      (λ (x : OfPartner others s (λ t. s.una ≤ t.expected)). of_partner (λ t. s.una ≤ t.expected) x) h

  -- in a phase that hears, all that was received is below the partner's end
  pub hearing_here : hears (up.session e).state.phase ≡ true → (up.session e).state.expected ≤ given_end (up.session (other e)).state
  hearing_here on =
      let s = (up.session e).state in
      let t = (up.session (other e)).state in
      let is : first s.peer_isn ≡ t.isn + 1 = ap first (knows_other setup w lead lag up e) in
      by_fin s.fin refl is
    where
      by_fin : (o : Option ℕ) → (up.session e).state.fin ≡ o → first (up.session e).state.peer_isn ≡ (up.session (other e)).state.isn + 1 → (up.session e).state.expected ≤ given_end (up.session (other e)).state
      by_fin (Some f) e2 is = let low = unpassed_is (up.session e).state.fin (up.session e).state.expected f (fit_here.hearing on) e2 in let at = (fin_is f e2).1 in omega arith
      by_fin None e2 is =
          let s = (up.session e).state in
          let t = (up.session (other e)).state in
          let limit = limit_none s.fin s.expected e2 in
          ⊎_elim (λ (x : s.expected < t.isn + 2). omega arith)
          (λ (x : t.isn + 2 ≤ s.expected).
          let byte = whole_here.stream.filled (s.expected - 1) (omega arith) (omega arith) in
          let low = below_is (s.expected - 1) byte.0 byte.1 in
          omega arith)
          (or_lt s.expected (t.isn + 2))

  past_here : hears (up.session e).state.phase ≡ false → ((up.session (other e)).state.closing ≡ true) × ((up.session e).state.expected ≡ given_end (up.session (other e)).state + 1) × ((f : ℕ) × ((up.session e).state.fin ≡ Some f))
  past_here off =
      let s = (up.session e).state in
      let k = passed_is s.fin s.expected (fit_here.past (past_unless s.phase (up.opened e) off)) in
      let at = fin_is k.0 k.1 in
      let is = at.1 in
      let high = whole_here.stream.fin_high k.0 k.1 in
      let low = k.2 in
      (at.0, omega arith, (k.0, k.1))

sent_up : (setup : Setup) (w : World) (lead lag : ℕ) (facts : Facts setup w) (few : GivesFew w) (up : BothOpen setup w lead lag) (e : End) → (up.session e).state.expected ≤ max ((up.session (other e)).state.isn + 1) (up.session (other e)).state.next
sent_up setup w lead lag facts few up e =
    by_bool (s.expected ≤ max (t.isn + 1) t.next) (hears s.phase)
    (λ on.
    let is : first s.peer_isn ≡ t.isn + 1 = ap first (knows_other setup w lead lag up e) in
    let from = received_here setup w lead lag facts few up e in
    let low = hearing_here setup w lead lag facts few up e on in
    ⊎_elim (λ (x : s.expected < t.isn + 2). omega arith)
    (λ (x : t.isn + 2 ≤ s.expected).
    let byte = (whole_here setup w lead lag facts few up e).stream.filled (s.expected - 1) (omega arith) (under (omega arith) on) in
    let sent = of_partner setup w lead lag facts few up e (λ t. s.expected - 1 < t.next) (from.sent (s.expected - 1) byte.0 byte.1) in
    omega arith)
    (or_lt s.expected (t.isn + 2)))
    (λ off.
    let k = past_here setup w lead lag facts few up e off in
    let f = k.2 in
    let from = received_here setup w lead lag facts few up e in
    let sent = of_partner setup w lead lag facts few up e (λ t. f.0 < t.next) (from.gone f.0 f.1) in
    let at = (fin_is setup w lead lag facts few up e f.0 f.1).1 in
    let x = k.1 in
    omega arith)
  where
    s : EndState
    s = (up.session e).state

    t : EndState
    t = (up.session (other e)).state

    under : 1 ≤ (up.session e).state.expected → hears (up.session e).state.phase ≡ true → (up.session e).state.expected - 1 < below_limit (up.session e).state.fin (up.session e).state.expected
    under some on =
        let limit = limit_is (up.session e).state.fin (up.session e).state.expected (λ f is. unpassed_is (up.session e).state.fin (up.session e).state.expected f ((fit_here setup w lead lag facts few up e).hearing on) is) in
        omega arith

pub bit_low : (b : Bool) → bit_of b ≤ 1
bit_low true = omega arith
bit_low false = omega arith

told_here : (setup : Setup) (w : World) (lead lag : ℕ) (facts : Facts setup w) (few : GivesFew w) (up : BothOpen setup w lead lag) (e : End) → (up.session e).state.isn + 1 ≤ (up.session e).state.una → (up.session e).state.una ≤ (up.session e).state.next
    → (up.session e).state.next ≤ all_end (up.session e).state → IsTold (up.session e).state (up.session (other e)).state
told_here setup w lead lag facts few up e begun una high last passed =
    let s = (up.session e).state in
    let t = (up.session (other e)).state in
    let told = live_all (λ (x : Session). FinTold (side w (other e)).sessions x.state) (side w e).sessions (up.session e) (up.lives e) (facts.telling.told up.unforged few e) in
    let start : first s.peer_isn ≡ t.isn + 1 = ap first (knows_other setup w lead lag up e) in
    let far = past_here setup w lead lag facts few up (other e) (ap hears last) in
    let closing : s.closing ≡ true = forth_again (λ (f : End). (up.session f).state.closing ≡ true) e far.0 in
    let x : t.expected ≡ given_end s + 1 = forth_again (λ (f : End). t.expected ≡ given_end (up.session f).state + 1) e far.1 in
    let one : bit_of s.closing ≡ 1 = ap bit_of closing in
    let settled = by_fin s.fin refl start told in
    let low = settled.1 last in
    omega arith
  where
    by_fin : (o : Option ℕ) → (up.session e).state.fin ≡ o → first (up.session e).state.peer_isn ≡ (up.session (other e)).state.isn + 1 → FinTold (side w (other e)).sessions (up.session e).state → IsSettledBy (up.session (other e)).state (up.session e).state.una
    by_fin (Some f) is start told = of_partner setup w lead lag facts few up e (λ t. IsSettledBy t (up.session e).state.una) (told f is)
    by_fin None is start told =
        let s = (up.session e).state in
        let limit = limit_none s.fin s.expected is in
        let byte = (whole_here setup w lead lag facts few up e).stream.filled (given_end (up.session (other e)).state) (omega arith) (omega arith) in
        let low = below_is setup w lead lag facts few up e (given_end (up.session (other e)).state) byte.0 byte.1 in
        absurd (omega arith)

pub ends_of : (setup : Setup) (w : World) (lead lag : ℕ) (facts : Facts setup w) (few : GivesFew w) (up : BothOpen setup w lead lag) (e : End) → Ends (up.session e).state (up.session (other e)).state
ends_of setup w lead lag facts few up e =
    let s = (up.session e).state in
    let t = (up.session (other e)).state in
    let sound = sound_here setup w lead lag facts few up e in
    let whole = whole_here setup w lead lag facts few up e in
    let fit = fit_here setup w lead lag facts few up e in
    let speaks = open_speaks s.phase (up.opened e) in
    let begun = whole.ends.begun speaks.0 in
    let una = whole.ends.una_high in
    let room = fit.room in
    let back = sent_up setup w lead lag facts few up (other e) in
    let sent_back : t.expected ≤ max (s.isn + 1) s.next = forth_again (λ (f : End). t.expected ≤ max ((up.session f).state.isn + 1) (up.session f).state.next) e back in
    let high : s.next ≤ all_end s =
    by_bool (s.next ≤ all_end s) (fin_gone s.phase)
    (λ g. let closing = sound.closed (gone_made s.phase (up.opened e) g) in let one : bit_of s.closing ≡ 1 = ap bit_of closing in let top = sound.next_high in omega arith)
    (λ g. let top = sound.unfinished g in omega arith) in
    record {
      up = record { phase = up.opened e; rst = unowed s.rst_owed (is_closed s.phase) fit.rst speaks.1 };
      numbers = record {
        low = begun;
        una = una;
        next = high;
        unfinished = sound.unfinished;
        gone = λ g. (fit.gone g, sound.closed g);
        settled = fit.settled;
        mss = fit.mss;
        peer = (t.isn, knows_other setup w lead lag up e);
      };
      room = omega arith;
      few = fit.runs;
      whole = whole;
      sound = sound;
      acked = acked_up setup w lead lag facts few up e;
      sent = omega arith;
      peer = knows_other setup w lead lag up e;
      fin_at = fin_is setup w lead lag facts few up e;
      below = below_is setup w lead lag facts few up e;
      hearing = hearing_here setup w lead lag facts few up e;
      past = λ off. let k = past_here setup w lead lag facts few up e off in (k.0, k.1);
      ended = λ off. (past_here setup w lead lag facts few up e off).2;
      told = told_here setup w lead lag facts few up e begun una high;
    }
