-- A link of which one end is past the handshake, and the other, in SYN-RECEIVED, waits for the last ACK.
use Rattle.std.proofs.Common.{◌≡◌, ℕ, ◌+◌, ◌-◌, ◌%◌, ◌^◌, ◌<◌, ◌≤◌, Bool, true, false, not, ◌&&◌, List, length, Option, Some, ◌⊎◌, inl, inr, ⊎_elim, if◌then◌else◌, refl, sym, ap, ◌∙◌, subst, arith}
use Rattle.std.specs.List.{AllByRecursion}
use Rattle.book_base.specs.declared.address.Pair.{Pair}
use Rattle.book_base.specs.declared.end.End.{End}
use Rattle.book_base.specs.declared.end.End.TheVariants.{A, B}
use Rattle.book_segments.specs.Bytes.{ring}
use Rattle.book_segments.specs.Meant.{meant}
use Rattle.book_segments.specs.Segments.{Segment, has, bit_of, segment_length, SYN, FIN, RST, ACK}
use Rattle.book_keys.specs.Rows.{Row}
use Rattle.book_keys.specs.Plans.{has_sendable}
use Rattle.book_endpoint.specs.declared.phase.Phase.TheVariants.{SynReceived, Established, LastAck, Closed}
use Rattle.book_endpoint.specs.declared.arrival.Arrival.TheVariants.{Window, Challenge}
use Rattle.book_endpoint.specs.States.{EndState, first, window, take_out, given_end, is_closed, hears}
use Rattle.book_endpoint.specs.Hearing.{Moved, answered, owing, fits_window}
use Rattle.endpoint_steps.specs.Arriving.{reset, ordinary, after_check}
use Rattle.book_endpoint.specs.Emissions.{Draft, Emitted, Quiet, is_silent, is_sending, is_syn_received, sets, sends_data, sends_fin, syn_ack_draft, ack_draft, emit, resend}
use Rattle.book_link.specs.Worlds.{other, Setup, pair_of, Session, World, side, is_known}
use Rattle.book_link.specs.Runs.{run_from}
use Rattle.law_link.specs.Headline.{GivesFew, ArePartners}
use Rattle.law_link.specs.Laws.{SetupFits}
use Rattle.law_link.proofs.Accepted.{meant_near}
use Rattle.law_link.proofs.Carrying.{GivenAt}
use Rattle.law_link.proofs.Invariant.{live_sound, live_whole}
use Rattle.std.proofs.lemmas.Option.{slice_get_within}
use Rattle.law_link.proofs.Moves.{following}
use Rattle.law_link.proofs.Phases.{fin_gone}
use Rattle.law_link.proofs.Received.{FinMade, OfPartner, Received, Acked, stream_low}
use Rattle.law_link.proofs.Sessions.{known_so}
use Rattle.law_link.proofs.Sound.{Sound}
use Rattle.law_link.proofs.Stream.{or_lt}
use Rattle.law_link.proofs.Tests.{choose}
use Rattle.book_base.proofs.TestLaws.{by_bool}
use Rattle.law_link.proofs.Whole.{Whole}
use Rattle.law_progress.specs.Progress.{Sends, Resends, turn_events, is_open, all_end, IsWaiting, IsSame}
use Rattle.law_progress.proofs.Acting.{StaysUp}
use Rattle.law_progress.proofs.Calm.{Calm, is_before}
use Rattle.law_progress.proofs.Facts.{Fit, live_all, partner_live, forth_again, limit_is, passed_is, unpassed_is, past_unless, open_speaks, unowed, gone_made}
use Rattle.law_progress.proofs.Greeting.{is_asking, sends_nothing, sends_ack, resends_syn_ack, joins, as_established, joins_effect}
use Rattle.law_progress.proofs.Hearing.{Frame, frame, IsPlain, reach, Due, Effect, checked_phase, after_check_effect}
use Rattle.law_progress.proofs.Joining.{Ready, sides, sides_near, sides_far, sides_live, ready_flip, ready_back, SealsAs, Fits, Turned, Rested, live_few, turned, turned_quiet, turned_either}
use Rattle.law_progress.proofs.Making.{IsOpen, Numbers, PlainFlags, plain_ack, Rest, rest, takes, Makes, send_case, resend_case}
use Rattle.law_progress.proofs.Trips.{Tripped, Over, flip, second, third, fourth, sends_so, same_then, same_rest, same_stays}
use Rattle.law_progress.proofs.Turning.{Two, AfterMade, in_window, or_owed, took_window}

-- ---- both past the handshake

pub two_of : (setup : Setup) (v : World) (lead lag : ℕ) (y : End) (a b : Session) → Ready setup v lead lag y a b → GivesFew v → is_open a.state.phase ≡ true → is_open b.state.phase ≡ true → a.state.peer_isn ≡ Some b.state.isn → b.state.peer_isn ≡ Some a.state.isn
    → Two setup v lead lag y a b
two_of setup v lead lag y a b r few oa ob here there = record {
  facts = r.facts;
  few = few;
  up = record {
    session = sides y a b;
    lives = sides_live v y a b r.far_lives r.near_lives;
    partners = partners_of y;
    opened = opened_of y;
    keyed = r.keyed.sends;
    aligned = r.keyed.aligned;
    early = r.keyed.early;
    late = r.keyed.late;
    unforged = r.keyed.unforged;
  };
  far = sides_far y a b;
  near = sides_near y a b;
}
  where
    partners_of : (y : End) → ArePartners (sides y a b A).state (sides y a b B).state
    partners_of A = record { here = there; there = here }
    partners_of B = record { here = here; there = there }

    opened_of : (y e : End) → is_open (sides y a b e).state.phase ≡ true
    opened_of A A = ob
    opened_of A B = oa
    opened_of B A = oa
    opened_of B B = ob

-- ---- one past it

-- the far end is past the handshake, and the near one waits for the ACK of its SYN
pub record Half (setup : Setup) (w : World) (lead lag : ℕ) (y : End) (a b : Session) : Type 0 where
  pub ready : Ready setup w lead lag y a b
  pub few : GivesFew w
  pub opened : is_open a.state.phase ≡ true
  pub waiting : b.state.phase ≡ SynReceived
  pub sent : b.state.isn < b.state.next
  pub here : a.state.peer_isn ≡ Some b.state.isn
  pub there : b.state.peer_isn ≡ Some a.state.isn

module _ (setup : Setup) (w : World) (lead lag : ℕ) (y : End) (a b : Session) (h : Half setup w lead lag y a b) where
  near_calm : Calm b.state
  near_calm = live_all (λ (x : Session). Calm x.state) (side w y).sessions b h.ready.near_lives (h.ready.facts.calm y)

  near_fit : Fit b.state
  near_fit = live_all (λ (x : Session). Fit x.state) (side w y).sessions b h.ready.near_lives (h.ready.facts.fit y)

  near_whole : Whole b.state
  near_whole = live_whole (side w y).sessions b h.ready.near_lives (h.ready.facts.inv.whole y)

  far_fit : Fit a.state
  far_fit = live_all (λ (x : Session). Fit x.state) (side w (other y)).sessions a h.ready.far_lives (h.ready.facts.fit (other y))

  far_whole : Whole a.state
  far_whole = live_whole (side w (other y)).sessions a h.ready.far_lives (h.ready.facts.inv.whole (other y))

  far_sound : Sound a.state
  far_sound = live_sound (side w (other y)).sessions a h.ready.far_lives (h.ready.facts.inv.sound (other y))

  near_expects : b.state.expected ≡ a.state.isn + 1
  near_expects = near_calm.at (ap is_syn_received h.waiting) ∙ ap first h.there

  pub near_una : b.state.una ≡ b.state.isn
  near_una = near_calm.oldest (ap is_before h.waiting)

  near_next : b.state.next ≡ b.state.isn + 1
  near_next = let low = near_calm.soon (ap is_before h.waiting) in let sent = h.sent in omega arith

  far_una : a.state.una ≡ a.state.isn + 1
  far_una =
      let begun = far_whole.ends.begun (open_speaks a.state.phase h.opened).0 in
      let x = near_expects in
      let acks = forth_again (λ (f : End). AllByRecursion (λ (k : Session). Acked (side w f).sessions k.state) (side w (other y)).sessions) y (h.ready.facts.heard.acks h.ready.keyed.unforged h.few (other y)) in
      let acked = live_all (λ (k : Session). Acked (side w y).sessions k.state) (side w (other y)).sessions a h.ready.far_lives acks in
      ⊎_elim (λ (z : a.state.una ≤ a.state.isn + 1). omega arith)
      (λ (z : OfPartner (side w y).sessions a.state (λ t. a.state.una ≤ t.expected)).
      let low = partner_live (side w y).sessions a.state b (λ t. a.state.una ≤ t.expected) h.ready.near_lives h.here z in
      omega arith) acked

  far_from : Received (side w y).sessions a.state
  far_from =
      let all = forth_again (λ (f : End). AllByRecursion (λ (k : Session). Received (side w f).sessions k.state) (side w (other y)).sessions) y (h.ready.facts.heard.origin h.ready.keyed.unforged (other y)) in
      live_all (λ (k : Session). Received (side w y).sessions k.state) (side w (other y)).sessions a h.ready.far_lives all

  of_near : (P : EndState → Type 0) → OfPartner (side w y).sessions a.state P → P b.state
  of_near P o = partner_live (side w y).sessions a.state b P h.ready.near_lives h.here o

  far_expects : a.state.expected ≡ b.state.isn + 1
  far_expects =
      let low = stream_low a.state.peer_isn a.state.taken a.state.received a.state.fin a.state.expected far_whole.stream in
      let is : first a.state.peer_isn ≡ b.state.isn + 1 = ap first h.here in
      let next = near_next in
      by_bool (a.state.expected ≡ b.state.isn + 1) (hears a.state.phase)
      (λ on.
      ⊎_elim (λ (z : a.state.expected < b.state.isn + 2). omega arith)
      (λ (z : b.state.isn + 2 ≤ a.state.expected).
      let limit = limit_is a.state.fin a.state.expected (λ f e. unpassed_is a.state.fin a.state.expected f (far_fit.hearing on) e) in
      let byte = far_whole.stream.filled (a.state.expected - 1) (omega arith) (omega arith) in
      let sent = of_near (λ t. a.state.expected - 1 < t.next) (far_from.sent (a.state.expected - 1) byte.0 byte.1) in
      absurd (omega arith))
      (or_lt a.state.expected (b.state.isn + 2)))
      (λ off.
      let k = passed_is a.state.fin a.state.expected (far_fit.past (past_unless a.state.phase h.opened off)) in
      let gone = of_near (λ t. k.0 < t.next) (far_from.gone k.0 k.1) in
      let at = of_near (λ t. FinMade t k.0) (far_from.fins k.0 k.1) in
      let end_is = at.1 in
      absurd (omega arith))

  near_below : (p k : ℕ) → b.state.received p ≡ Some k → p < given_end a.state
  near_below p k is =
      let from = live_all (λ (x : Session). Received (side w (other y)).sessions x.state) (side w y).sessions b h.ready.near_lives (h.ready.facts.heard.origin h.ready.keyed.unforged y) in
      let at = partner_live (side w (other y)).sessions b.state a (λ t. GivenAt t p k) h.ready.far_lives h.there (from.bytes p k is) in
      let inside = slice_get_within a.state.given at.0 k at.2 in
      let place = at.1 in
      omega arith

  far_open : IsOpen a.state
  far_open = record { phase = h.opened; rst = unowed a.state.rst_owed (is_closed a.state.phase) far_fit.rst (open_speaks a.state.phase h.opened).1 }

  far_numbers : Numbers a.state
  far_numbers =
      let s = a.state in
      let begun = far_una in
      let una = far_whole.ends.una_high in
      let high : s.next ≤ all_end s =
      by_bool (s.next ≤ all_end s) (fin_gone s.phase)
      (λ g. let closing = far_sound.closed (gone_made s.phase h.opened g) in let one : bit_of s.closing ≡ 1 = ap bit_of closing in let top = far_sound.next_high in omega arith)
      (λ g. let top = far_sound.unfinished g in omega arith) in
      record {
        low = omega arith;
        una = una;
        next = high;
        unfinished = far_sound.unfinished;
        gone = λ g. (far_fit.gone g, far_sound.closed g);
        settled = far_fit.settled;
        mss = far_fit.mss;
        peer = (b.state.isn, h.here);
      }

  far_room : given_end a.state ≤ a.state.una + 65535
  far_room = let room = far_fit.room in let una = far_una in omega arith

-- ---- the open end makes a segment

-- what an open end makes, at this number
record MadeOut (s : EndState) (n : ℕ) (out : Draft) : Type 0 where
  flags : PlainFlags out.flags
  same : rest out.state ≡ rest s
  opened : is_open out.state.phase ≡ true
  next : s.next ≤ out.state.next
  bytes : 0 < length out.payload → out.number + length out.payload ≤ given_end s
  fin : sets out.flags FIN ≡ true → out.number + length out.payload ≡ given_end s
  small : takes out ≤ 65535
  number : out.number ≡ n

from_makes : (pair : Pair) (s : EndState) (r : Emitted) (n : ℕ) (Q : Draft → Type 0) (m : Makes pair s r) → m.out.number ≡ n → Q m.out → SealsAs pair s (λ o. MadeOut s n o × Q o) r
from_makes pair s r n Q m at q = record {
  out = m.out;
  sending = m.sending;
  context = m.context;
  is = m.is;
  holds = (record { flags = m.flags; same = m.same; opened = m.opened; next = m.next; bytes = m.bytes; fin = λ on. (m.fin on).0; small = m.small; number = at }, q);
}

pub fits_known : (a b : EndState) (out : Draft) → PlainFlags out.flags → out.state.isn ≡ a.isn → out.state.peer_isn ≡ Some b.isn → b.peer_isn ≡ Some out.state.isn → out.number ≡ b.expected → Fits a b out
fits_known a b out flags isn here there at = record {
  to = plain_to (sets out.flags SYN) _ (is_known out.state.peer_isn b.isn) (is_known b.peer_isn out.state.isn) flags.syn (known_so out.state.peer_isn b.isn here) (known_so b.peer_isn out.state.isn there);
  near = λ e. record { ahead = omega arith; behind = omega arith };
  isn = isn;
}
  where
    plain_to : (syn x y z : Bool) → syn ≡ false → y ≡ true → z ≡ true → (if syn then x else y && z) ≡ true
    plain_to true x y z e f g = absurd (cc)
    plain_to false x true true e f g = refl
    plain_to false x true false e f g = g
    plain_to false x false z e f g = absurd (cc)

pub ack_on : (b : Bool) (k : ℕ) → b ≡ true → (if b then k else 0) ≡ k
ack_on true k e = refl
ack_on false k e = absurd (cc)

under_end : (P : Type 0) (l : ℕ) (b : Bool) → 0 < l + bit_of b → (0 < l → P) → (b ≡ true → P) → P
under_end P l true some one two = two refl
under_end P l false some one two = one (omega arith)

module _ (setup : Setup) (w : World) (lead lag : ℕ) (y : End) (a b : Session) (h : Half setup w lead lag y a b) where
  -- the segment brings the near end past the handshake
  joined_by : (v : World) (n : ℕ) (Q : Draft → Type 0) → n ≡ b.state.expected → (t : Turned setup w v lead lag y a.state (take_out 65535 b.state) (λ o. MadeOut a.state n o × Q o))
      → AfterMade setup v lead lag y a.state b.state t.out.number (takes t.out) t.out.state.next
  joined_by v n Q at t =
      let m = t.holds.0 in
      let out = t.out in
      let d = t.segment in
      let s = take_out 65535 b.state in
      let plain : IsPlain d = record {
        syn = ap (λ (k : ℕ). sets k SYN) t.flags ∙ m.flags.syn;
        rst = ap (λ (k : ℕ). sets k RST) t.flags ∙ m.flags.rst;
        ack = ap (λ (k : ℕ). sets k ACK) t.flags ∙ m.flags.ack;
      } in
      let whole = near_whole setup w lead lag y a b h in
      let wide : window s ≡ 65535 = took_window b.state whole in
      let x_near = near_expects setup w lead lag y a b h in
      let x_far = far_expects setup w lead lag y a b h in
      let una = near_una setup w lead lag y a b h in
      let next = near_next setup w lead lag y a b h in
      let number = t.number_is in
      let out_number = m.number in
      let acks : d.acknowledgement ≡ a.state.expected % ring = t.acknowledgement ∙ ack_on (sets out.flags ACK) (a.state.expected % ring) m.flags.ack in
      let means : meant d.acknowledgement s.una ≡ Some a.state.expected = ap (λ (k : ℕ). meant k s.una) acks ∙ meant_near a.state.expected s.una (omega arith) (omega arith) in
      let fits : fits_window t.number (segment_length d) s.expected (window s) ≡ true = in_window t.number (segment_length d) s.expected (window s) (omega arith) (omega arith) (omega arith) in
      let is = t.near_is ∙ joins (pair_of setup y) s t.current d t.number t.now a.state.expected h.waiting plain (omega arith) (omega arith) means fits in
      let e : Effect (as_established s) t.near.state d t.number a.state.expected = subst (λ (k : EndState). Effect (as_established s) k d t.number a.state.expected) (sym is) (joins_effect s t.current d t.number t.now a.state.expected plain (omega arith) fits) in
      let opened : is_open t.near.state.phase ≡ true =
      ⊎_elim (λ (z : is_open t.near.state.phase ≡ true). z)
      (λ (z : (Established ≡ LastAck) × (s.isn + 1 + length s.given < t.near.state.una) × (t.near.state.phase ≡ Closed) × (t.near.state.una ≡ a.state.expected)). let wrong = z.0 in absurd (cc)) e.opened in
      let long : length d.payload ≡ length out.payload = ap length t.payload in
      let fin_is : has FIN d ≡ sets out.flags FIN = ap (λ (k : ℕ). sets k FIN) t.flags in
      let size : reach d ≡ takes out = (let bit : bit_of (has FIN d) ≡ bit_of (sets out.flags FIN) = ap bit_of fin_is in omega arith) in
      let none : (f : ℕ) → s.fin ≡ Some f → ⊥ = λ f g. let mute = (near_fit setup w lead lag y a b h).mute (ap is_syn_received h.waiting) in absurd (cc) in
      let below : (p k : ℕ) → s.received p ≡ Some k → p < given_end a.state = near_below setup w lead lag y a b h in
      let due : 0 < takes out → Due (as_established s) d t.number (given_end a.state) = λ some.
      let small = m.small in
      let under : t.number + length d.payload ≤ given_end a.state =
      under_end (t.number + length d.payload ≤ given_end a.state) (length out.payload) (sets out.flags FIN) some (λ more. let low = m.bytes more in omega arith) (λ on. let to = m.fin on in omega arith) in
      record {
        few = (near_fit setup w lead lag y a b h).runs;
        at = omega arith;
        some = omega arith;
        under = under;
        fin_at = λ on. let to = m.fin (sym fin_is ∙ on) in omega arith;
        ends = λ f g. absurd (none f g);
        below = below;
        fits = omega arith;
        hearing = λ on. omega arith;
        past = λ off. absurd (cc);
      } in
      let far_is = t.far_is in
      let far_rest : rest t.far.state ≡ rest a.state = ap rest far_is ∙ m.same in
      let far_open : is_open t.far.state.phase ≡ true = ap (λ (k : EndState). is_open k.phase) far_is ∙ m.opened in
      let far_next : t.far.state.next ≡ out.state.next = ap (λ (k : EndState). k.next) far_is in
      let stays : StaysUp b.state t.near.state = record {
        opened = opened;
        isn = ap (λ (f : Frame). f.isn) e.frame_is;
        peer = ap (λ (f : Frame). f.peer_isn) e.frame_is;
        closing = ap (λ (f : Frame). f.closing) e.frame_is;
        given = ap (λ (f : Frame). f.given) e.frame_is;
      } in
      let far_isn : t.far.state.isn ≡ a.state.isn = ap (λ (k : Rest). k.isn) far_rest in
      let far_given : length t.far.state.given ≡ length a.state.given = ap (λ (k : Rest). length k.given) far_rest in
      let near_given : length t.near.state.given ≡ length b.state.given = ap length stays.given in
      let few_a = live_few (side w (other y)).sessions a h.ready.far_lives (h.few (other y)) in
      let few_b = live_few (side w y).sessions b h.ready.near_lives (h.few y) in
      let few = t.few (omega arith) (omega arith) h.few in
      let here : t.far.state.peer_isn ≡ Some t.near.state.isn = ap (λ (k : Rest). k.peer_isn) far_rest ∙ h.here ∙ ap (λ (k : ℕ). Some k) (sym stays.isn) in
      let there : t.near.state.peer_isn ≡ Some t.far.state.isn = stays.peer ∙ h.there ∙ ap (λ (k : ℕ). Some k) (sym far_isn) in
      let una_is = e.heard fits in
      let up = e.up in
      let next_low = m.next in
      record {
        after = record {
          far = t.far;
          near = t.near;
          two = two_of setup v lead lag y t.far t.near t.ready few far_open opened here there;
          rest_is = far_rest;
          next = omega arith;
          stays = stays;
          same_next = ap (λ (f : Frame). f.next) e.frame_is;
          una = omega arith;
          up = omega arith;
          owed = λ g. e.owed (or_owed b.state.ack_owed _ g);
        };
        next = far_next;
        moved = λ some low. (let r = e.moved (given_end a.state) (due some) (omega arith) in (r.0, (let up_to = r.1 in omega arith)));
        heard = λ low high. una_is;
      }

-- ---- the waiting end makes a segment

-- an open end heard a SYN with ACK again
record Challenged (s t : EndState) : Type 0 where
  frame_is : frame t ≡ frame s
  phase : t.phase ≡ s.phase
  owed : t.ack_owed ≡ true

clash : (b : Bool) → b ≡ true → b ≡ false → ⊥
clash b e f = cc

challenged : (pair : Pair) (s : EndState) (c : Option ℕ) (d : Segment) (n now : ℕ) → is_open s.phase ≡ true → d.flags ≡ SYN + ACK → Challenged s (after_check pair s (following c s) d n now s.phase).state
challenged pair s c d n now awake flags =
    let f = following c s in
    let syn : has SYN d ≡ true = ap (λ (k : ℕ). sets k SYN) flags in
    let rst : has RST d ≡ false = ap (λ (k : ℕ). sets k RST) flags in
    let P : Moved → Type 0 = λ m. Challenged s m.state in
    checked_phase pair s f d n now s.phase awake P
    (choose P (fits_window n (segment_length d) s.expected (window s)) (ordinary s f d n now) (answered (if has RST d then s else owing s) Window)
    (λ e. choose P (has RST d) (reset s n) _ (λ e1. absurd (clash (has RST d) e1 rst)) (λ e1.
    choose P (has SYN d) (answered (owing f) Challenge) _ (λ e2. record { frame_is = refl; phase = refl; owed = refl }) (λ e2. absurd (clash (has SYN d) syn e2))))
    (λ e. choose (λ (t : EndState). Challenged s t) (has RST d) s (owing s) (λ e1. absurd (clash (has RST d) e1 rst)) (λ e1. record { frame_is = refl; phase = refl; owed = refl })))

-- what a waiting end's turn leaves of it
record StillWaits (s t : EndState) : Type 0 where
  phase : t.phase ≡ s.phase
  isn : t.isn ≡ s.isn
  peer : t.peer_isn ≡ s.peer_isn
  next : t.next ≡ s.next
  given : t.given ≡ s.given
  closing : t.closing ≡ s.closing

-- the link after a turn that leaves one end open and one waiting
record Held (setup : Setup) (v : World) (lead lag : ℕ) (y : End) (a b : EndState) : Type 0 where
  far : Session
  near : Session
  half : Half setup v lead lag y far near
  stays : StaysUp a far.state
  next : far.state.next ≡ a.next
  owed : a.ack_owed ≡ true → far.state.ack_owed ≡ true
  same : StillWaits b near.state

held_by : (setup : Setup) (w v : World) (lead lag : ℕ) (y : End) (a b c d : Session) → Half setup w lead lag y a b → Ready setup v lead lag y c d → (length c.state.given < 2 ^ 31 → length d.state.given < 2 ^ 31 → GivesFew w → GivesFew v)
    → StaysUp a.state c.state → c.state.next ≡ a.state.next → (a.state.ack_owed ≡ true → c.state.ack_owed ≡ true) → StillWaits b.state d.state → Held setup v lead lag y a.state b.state
held_by setup w v lead lag y a b c d h r few stays next owed same =
    let few_a = live_few (side w (other y)).sessions a h.ready.far_lives (h.few (other y)) in
    let few_b = live_few (side w y).sessions b h.ready.near_lives (h.few y) in
    let long_a : length c.state.given ≡ length a.state.given = ap length stays.given in
    let long_b : length d.state.given ≡ length b.state.given = ap length same.given in
    let isn = same.isn in
    let to = same.next in
    let sent = h.sent in
    record {
      far = c;
      near = d;
      half = record {
        ready = r;
        few = few (omega arith) (omega arith) h.few;
        opened = stays.opened;
        waiting = same.phase ∙ h.waiting;
        sent = omega arith;
        here = stays.peer ∙ h.here ∙ ap (λ (k : ℕ). Some k) (sym isn);
        there = same.peer ∙ h.there ∙ ap (λ (k : ℕ). Some k) (sym stays.isn);
      };
      stays = stays;
      next = next;
      owed = owed;
      same = same;
    }

fits_syn_ack : (a b : EndState) (t : EndState) → a.peer_isn ≡ Some b.isn → t.isn ≡ a.isn → t.peer_isn ≡ a.peer_isn → Fits a b (syn_ack_draft a t)
fits_syn_ack a b t knows isn peer = record { to = known_so t.peer_isn b.isn (peer ∙ knows); near = λ e. absurd (cc); isn = isn }

module _ (setup : Setup) (fits : SetupFits setup) (lead lag : ℕ) (x : End) where
  unowed_near : (w : World) (a b : Session) → Half setup w lead lag (other x) a b → b.state.rst_owed ≡ false
  unowed_near w a b h = unowed b.state.rst_owed (is_closed b.state.phase) (near_fit setup w lead lag (other x) a b h).rst (ap is_closed h.waiting)

  -- the SYN with ACK again, to which an ACK is owed
  resends_half : (w : World) (a b : Session) → Half setup w lead lag (other x) a b
      → (held : Held setup (run_from setup w (turn_events setup w (Resends (other x)))) lead lag (other x) a.state b.state) × (held.far.state.ack_owed ≡ true)
  unfolding held_by
  resends_half w a b h =
      let v = run_from setup w (turn_events setup w (Resends (other x))) in
      let P : Draft → Type 0 = λ k. k ≡ syn_ack_draft b.state b.state in
      let t = turned setup fits w lead lag b a (Resends (other x)) P (ready_flip setup w lead lag x a b h.ready)
      (λ rows now has. resends_syn_ack (pair_of setup (other x)) b.state rows now has a.state.isn h.there h.waiting h.sent) (open_speaks a.state.phase h.opened).1
      (λ out e. subst (λ (o : Draft). Fits b.state a.state o) (sym e) (fits_syn_ack b.state a.state b.state h.there refl refl)) in
      let s = take_out 65535 a.state in
      let c : Challenged s t.near.state =
      subst (λ (k : EndState). Challenged s k) (sym t.near_is) (challenged (pair_of setup (other (other x))) s t.current t.segment t.number t.now h.opened (t.flags ∙ ap (λ (o : Draft). o.flags) t.holds)) in
      let b_is : t.far.state ≡ following t.row (syn_ack_draft b.state b.state).state = t.far_is ∙ ap (λ (o : Draft). following t.row o.state) t.holds in
      let stays : StaysUp a.state t.near.state = record {
        opened = ap is_open c.phase ∙ h.opened;
        isn = ap (λ (f : Frame). f.isn) c.frame_is;
        peer = ap (λ (f : Frame). f.peer_isn) c.frame_is;
        closing = ap (λ (f : Frame). f.closing) c.frame_is;
        given = ap (λ (f : Frame). f.given) c.frame_is;
      } in
      let same : StillWaits b.state t.far.state = record {
        phase = ap (λ (k : EndState). k.phase) b_is;
        isn = ap (λ (k : EndState). k.isn) b_is;
        peer = ap (λ (k : EndState). k.peer_isn) b_is;
        next = ap (λ (k : EndState). k.next) b_is;
        given = ap (λ (k : EndState). k.given) b_is;
        closing = ap (λ (k : EndState). k.closing) b_is;
      } in
      (held_by setup w v lead lag (other x) a b t.near t.far h (ready_back setup v lead lag x t.far t.near t.ready) (λ low high all. t.few high low all) stays (ap (λ (f : Frame). f.next) c.frame_is) (λ e. c.owed) same, c.owed)

  -- an ACK, or nothing
  sends_half : (w : World) (a b : Session) → Half setup w lead lag (other x) a b → Held setup (run_from setup w (turn_events setup w (Sends (other x)))) lead lag (other x) a.state b.state
  sends_half w a b h =
      let v = run_from setup w (turn_events setup w (Sends (other x))) in
      let asking : is_asking b.state.phase ≡ true = ap is_asking h.waiting in
      let s = take_out 65535 a.state in
      let H = Held setup v lead lag (other x) a.state b.state in
      by_bool H (b.state.ack_owed && not (is_silent b.state.phase))
      (λ on.
      let P : Draft → Type 0 = λ k. k ≡ ack_draft b.state in
      let x_near = near_expects setup w lead lag (other x) a b h in
      let x_far = far_expects setup w lead lag (other x) a b h in
      let una = far_una setup w lead lag (other x) a b h in
      let next_b = near_next setup w lead lag (other x) a b h in
      let next_a = (far_numbers setup w lead lag (other x) a b h).una in
      let t = turned setup fits w lead lag b a (Sends (other x)) P (ready_flip setup w lead lag x a b h.ready)
      (λ rows now has. sends_ack (pair_of setup (other x)) b.state rows now has a.state.isn h.there asking (unowed_near w a b h) h.sent on) (open_speaks a.state.phase h.opened).1
      (λ out e. subst (λ (o : Draft). Fits b.state a.state o) (sym e) (fits_known b.state a.state (ack_draft b.state) plain_ack refl h.there h.here (omega arith))) in
      let d = t.segment in
      let flags : d.flags ≡ ACK = t.flags ∙ ap (λ (o : Draft). o.flags) t.holds in
      let plain : IsPlain d = record { syn = ap (λ (k : ℕ). sets k SYN) flags; rst = ap (λ (k : ℕ). sets k RST) flags; ack = ap (λ (k : ℕ). sets k ACK) flags } in
      let acks : d.acknowledgement ≡ b.state.expected % ring = t.acknowledgement ∙ ap (λ (o : Draft). if sets o.flags ACK then b.state.expected % ring else 0) t.holds in
      let means : meant d.acknowledgement s.una ≡ Some b.state.expected = ap (λ (k : ℕ). meant k s.una) acks ∙ meant_near b.state.expected s.una (omega arith) (omega arith) in
      let e : Effect s t.near.state d t.number b.state.expected =
      subst (λ (k : EndState). Effect s k d t.number b.state.expected) (sym t.near_is) (after_check_effect (pair_of setup (other (other x))) s t.current d t.number t.now b.state.expected plain h.opened (omega arith) (omega arith) means) in
      let opened : is_open t.near.state.phase ≡ true =
      ⊎_elim (λ (z : is_open t.near.state.phase ≡ true). z)
      (λ (z : (s.phase ≡ LastAck) × (s.isn + 1 + length s.given < t.near.state.una) × (t.near.state.phase ≡ Closed) × (t.near.state.una ≡ b.state.expected)). let more = z.1 in let is = z.3 in absurd (omega arith)) e.opened in
      let b_is : t.far.state ≡ following t.row (ack_draft b.state).state = t.far_is ∙ ap (λ (o : Draft). following t.row o.state) t.holds in
      let stays : StaysUp a.state t.near.state = record {
        opened = opened;
        isn = ap (λ (f : Frame). f.isn) e.frame_is;
        peer = ap (λ (f : Frame). f.peer_isn) e.frame_is;
        closing = ap (λ (f : Frame). f.closing) e.frame_is;
        given = ap (λ (f : Frame). f.given) e.frame_is;
      } in
      let same : StillWaits b.state t.far.state = record {
        phase = ap (λ (k : EndState). k.phase) b_is;
        isn = ap (λ (k : EndState). k.isn) b_is;
        peer = ap (λ (k : EndState). k.peer_isn) b_is;
        next = ap (λ (k : EndState). k.next) b_is;
        given = ap (λ (k : EndState). k.given) b_is;
        closing = ap (λ (k : EndState). k.closing) b_is;
      } in
      held_by setup w v lead lag (other x) a b t.near t.far h (ready_back setup v lead lag x t.far t.near t.ready) (λ low high all. t.few high low all) stays (ap (λ (f : Frame). f.next) e.frame_is) (λ o. e.owed (or_owed a.state.ack_owed _ o)) same)
      (λ off.
      let q = turned_quiet setup fits w lead lag b a (Sends (other x)) (ready_flip setup w lead lag x a b h.ready) (λ rows now. quiet_of w a b h asking off rows now) in
      let stays : StaysUp a.state q.near.state = record {
        opened = ap (λ (k : EndState). is_open k.phase) q.near_is ∙ h.opened;
        isn = ap (λ (k : EndState). k.isn) q.near_is;
        peer = ap (λ (k : EndState). k.peer_isn) q.near_is;
        closing = ap (λ (k : EndState). k.closing) q.near_is;
        given = ap (λ (k : EndState). k.given) q.near_is;
      } in
      let same : StillWaits b.state q.far.state = record {
        phase = ap (λ (k : EndState). k.phase) q.far_is;
        isn = ap (λ (k : EndState). k.isn) q.far_is;
        peer = ap (λ (k : EndState). k.peer_isn) q.far_is;
        next = ap (λ (k : EndState). k.next) q.far_is;
        given = ap (λ (k : EndState). k.given) q.far_is;
        closing = ap (λ (k : EndState). k.closing) q.far_is;
      } in
      held_by setup w v lead lag (other x) a b q.near q.far h (ready_back setup v lead lag x q.far q.near q.ready) (λ low high all. q.few all) stays (ap (λ (k : EndState). k.next) q.near_is)
      (λ o. ap (λ (k : EndState). k.ack_owed) q.near_is ∙ or_owed a.state.ack_owed _ o) same)
    where
      quiet_of : (w : World) (a b : Session) (h : Half setup w lead lag (other x) a b) → is_asking b.state.phase ≡ true → (b.state.ack_owed && not (is_silent b.state.phase)) ≡ false → (rows : List Row) (now : ℕ) → emit rows (pair_of setup (other x)) now b.state ≡ Quiet
      quiet_of w a b h asking off rows now = sends_nothing (pair_of setup (other x)) b.state rows now asking (unowed_near w a b h) h.sent off

  -- nothing was made by the open end
  rests_half : (w v : World) (a b : Session) → Half setup w lead lag (other x) a b → (q : Rested setup w v lead lag (other x) a.state (take_out 65535 b.state)) → Half setup v lead lag (other x) q.far q.near
  rests_half w v a b h q =
      let sent = h.sent in
      let isn : q.near.state.isn ≡ b.state.isn = ap (λ (k : EndState). k.isn) q.near_is in
      let next : q.near.state.next ≡ b.state.next = ap (λ (k : EndState). k.next) q.near_is in
      let far_isn : q.far.state.isn ≡ a.state.isn = ap (λ (k : EndState). k.isn) q.far_is in
      record {
        ready = q.ready;
        few = q.few h.few;
        opened = ap (λ (k : EndState). is_open k.phase) q.far_is ∙ h.opened;
        waiting = ap (λ (k : EndState). k.phase) q.near_is ∙ h.waiting;
        sent = omega arith;
        here = ap (λ (k : EndState). k.peer_isn) q.far_is ∙ h.here ∙ ap (λ (k : ℕ). Some k) (sym isn);
        there = ap (λ (k : EndState). k.peer_isn) q.near_is ∙ h.there ∙ ap (λ (k : ℕ). Some k) (sym far_isn);
      }

-- ---- the round trips

-- what is sent again takes numbers, and leaves the ACK of it in the window
abbrev Again : EndState → Draft → Type 0
Again s out = (0 < takes out) × (out.state.next ≤ s.una + 65534 + takes out)

-- nothing is sent again: all was acknowledged, and what waits may be sent
abbrev Nothing : EndState → Type 0
Nothing s = (s.next ≤ s.una) × (IsWaiting s → (is_sending s.phase ≡ true) × (0 < s.send_window))

-- what is sent takes numbers where data or the FIN may be sent
abbrev SentSome : EndState → Draft → Type 0
SentSome s out = (sends_data s ≡ true) ⊎ (sends_fin s ≡ true) → 0 < takes out

module _ (setup : Setup) (fits : SetupFits setup) (lead lag : ℕ) (x : End) where
  -- what the open end makes is addressed and near
  open_fits : (w : World) (a b : Session) (h : Half setup w lead lag (other x) a b) (n : ℕ) → n ≡ b.state.expected → (out : Draft) → MadeOut a.state n out → Fits a.state b.state out
  open_fits w a b h n at out m =
      let isn : out.state.isn ≡ a.state.isn = ap (λ (k : Rest). k.isn) m.same in
      let number = m.number in
      fits_known a.state b.state out m.flags isn (ap (λ (k : Rest). k.peer_isn) m.same ∙ h.here) (h.there ∙ ap (λ (k : ℕ). Some k) (sym isn)) (omega arith)

  awake_near : (w : World) (a b : Session) → Half setup w lead lag (other x) a b → is_closed b.state.phase ≡ false
  awake_near w a b h = ap is_closed h.waiting

  again_turn : (w : World) (a b : Session) (h : Half setup w lead lag (other x) a b)
      → let v = run_from setup w (turn_events setup w (Resends x)) in
      ((t : Turned setup w v lead lag (other x) a.state (take_out 65535 b.state) (λ o. MadeOut a.state a.state.una o × Again a.state o)) × AfterMade setup v lead lag (other x) a.state b.state t.out.number (takes t.out) t.out.state.next)
      ⊎ (Rested setup w v lead lag (other x) a.state (take_out 65535 b.state) × Nothing a.state)
  again_turn w a b h =
      let s = a.state in
      let v = run_from setup w (turn_events setup w (Resends x)) in
      let pair = pair_of setup x in
      let Q = Again s in
      let P : Draft → Type 0 = λ o. MadeOut s s.una o × Q o in
      let x_near = near_expects setup w lead lag (other x) a b h in
      let una = far_una setup w lead lag (other x) a b h in
      let up = far_open setup w lead lag (other x) a b h in
      let numbers = far_numbers setup w lead lag (other x) a b h in
      let room = far_room setup w lead lag (other x) a b h in
      let made : (rows : List Row) (now : ℕ) → has_sendable rows pair now ≡ true → SealsAs pair s P (resend rows pair now s) ⊎ ((resend rows pair now s ≡ Quiet) × Nothing s) =
      λ rows now has.
      ⊎_elim
      (λ (z : (m : Makes pair s (resend rows pair now s)) × (m.out.number ≡ s.una) × (0 < takes m.out) × (m.out.state.next ≤ s.una + 65534 + takes m.out)). inl (from_makes pair s (resend rows pair now s) s.una Q z.0 z.1 (z.2, z.3)))
      (λ (z : (resend rows pair now s ≡ Quiet) × (s.next ≤ s.una) × (s.una < all_end s → (is_sending s.phase ≡ true) × (0 < s.send_window))). inr (z.0, (z.1, z.2)))
      (resend_case rows pair now s up numbers room has).which in
      ⊎_elim
      (λ (t : Turned setup w v lead lag (other x) s (take_out 65535 b.state) P). inl (t, joined_by setup w lead lag (other x) a b h v s.una Q (omega arith) t))
      (λ (q : Rested setup w v lead lag (other x) s (take_out 65535 b.state) × Nothing s). inr q)
      (turned_either setup fits w lead lag a b P (Nothing s) (Resends x) h.ready made (awake_near w a b h) (λ out p. open_fits w a b h s.una (omega arith) out p.0))

  -- the open end sends, where it owes an ACK and nothing is unacknowledged
  first_turn : (w : World) (a b : Session) (h : Half setup w lead lag (other x) a b) → a.state.ack_owed ≡ true → a.state.next ≤ a.state.una
      → let v = run_from setup w (turn_events setup w (Sends x)) in
      (t : Turned setup w v lead lag (other x) a.state (take_out 65535 b.state) (λ o. MadeOut a.state a.state.next o × SentSome a.state o)) × AfterMade setup v lead lag (other x) a.state b.state t.out.number (takes t.out) t.out.state.next
  first_turn w a b h owed all =
      let s = a.state in
      let v = run_from setup w (turn_events setup w (Sends x)) in
      let pair = pair_of setup x in
      let Q = SentSome s in
      let P : Draft → Type 0 = λ o. MadeOut s s.next o × Q o in
      let x_near = near_expects setup w lead lag (other x) a b h in
      let una = far_una setup w lead lag (other x) a b h in
      let up = far_open setup w lead lag (other x) a b h in
      let numbers = far_numbers setup w lead lag (other x) a b h in
      let room = far_room setup w lead lag (other x) a b h in
      let next = numbers.una in
      let made : (rows : List Row) (now : ℕ) → has_sendable rows pair now ≡ true → SealsAs pair s P (emit rows pair now s) =
      λ rows now has.
      ⊎_elim
      (λ (z : (m : Makes pair s (emit rows pair now s)) × (m.out.number ≡ s.next) × ((sends_data s ≡ true) ⊎ (sends_fin s ≡ true) → 0 < takes m.out)). from_makes pair s (emit rows pair now s) s.next Q z.0 z.1 z.2)
      (λ (z : (emit rows pair now s ≡ Quiet) × (sends_data s ≡ false) × (sends_fin s ≡ false) × (s.ack_owed ≡ false)). absurd (clash s.ack_owed owed z.3))
      (send_case rows pair now s up numbers room has).which in
      let t = turned setup fits w lead lag a b (Sends x) P h.ready made (awake_near w a b h) (λ out p. open_fits w a b h s.next (omega arith) out p.0) in
      (t, joined_by setup w lead lag (other x) a b h v s.next Q (omega arith) t)

  same_waits : (s t : EndState) → StillWaits s t → IsSame s t
  same_waits s t h = record { isn = h.isn; given = h.given; closing = h.closing }

  same_far : (s t : EndState) → StaysUp s t → IsSame s t
  same_far s t h = record { isn = h.isn; given = h.given; closing = h.closing }

  -- the round trip of the open end
  pub open_trip : (w : World) (a b : Session) → Half setup w lead lag (other x) a b
      → let v1 = run_from setup w (turn_events setup w (Resends (other x))) in
      let v2 = run_from setup v1 (turn_events setup v1 (Resends x)) in
      let v3 = run_from setup v2 (turn_events setup v2 (Sends x)) in
      let v4 = run_from setup v3 (turn_events setup v3 (Sends (other x))) in
      Tripped setup v4 lead lag x a.state b.state ⊎ Over setup v4 x a.state b.state
  open_trip w a b h =
      let v1 = run_from setup w (turn_events setup w (Resends (other x))) in
      let v2 = run_from setup v1 (turn_events setup v1 (Resends x)) in
      let v3 = run_from setup v2 (turn_events setup v2 (Sends x)) in
      let v4 = run_from setup v3 (turn_events setup v3 (Sends (other x))) in
      let r1 = resends_half setup fits lead lag x w a b h in
      let k1 = r1.0 in
      let a1 = k1.far in
      let b1 = k1.near in
      let h1 = k1.half in
      let una0 = far_una setup w lead lag (other x) a b h in
      let una1 = far_una setup v1 lead lag (other x) a1 b1 h1 in
      let isn1 = k1.stays.isn in
      let b_una0 = near_una setup w lead lag (other x) a b h in
      let b_una1 = near_una setup v1 lead lag (other x) a1 b1 h1 in
      let b_isn1 = k1.same.isn in
      let same_a1 = same_far a.state a1.state k1.stays in
      let same_b1 = same_waits b.state b1.state k1.same in
      let b_next1 = near_next setup v1 lead lag (other x) a1 b1 h1 in
      let expects1 = near_expects setup v1 lead lag (other x) a1 b1 h1 in
      let a_expects1 = far_expects setup v1 lead lag (other x) a1 b1 h1 in
      let G = Tripped setup v4 lead lag x a.state b.state ⊎ Over setup v4 x a.state b.state in
      ⊎_elim
      (λ (z : (t : Turned setup v1 v2 lead lag (other x) a1.state (take_out 65535 b1.state) (λ o. MadeOut a1.state a1.state.una o × Again a1.state o)) × AfterMade setup v2 lead lag (other x) a1.state b1.state t.out.number (takes t.out) t.out.state.next).
      let d = z.1 in
      let s2 = d.after.far in
      let t2 = d.after.near in
      let m = z.0.holds.0 in
      let number = m.number in
      let some = z.0.holds.1.0 in
      let moved = d.moved some (omega arith) in
      let up = moved.1 in
      let una2 : s2.state.una ≡ a1.state.una = ap (λ (k : Rest). k.una) d.after.rest_is in
      let x2 : s2.state.expected ≡ a1.state.expected = ap (λ (k : Rest). k.expected) d.after.rest_is in
      let next2 = d.after.same_next in
      let near_una2 = d.after.una in
      third setup fits lead lag x v2 a.state b.state s2 t2 d.after.two (same_then a.state a1.state s2.state same_a1 (same_rest a1.state s2.state d.after.rest_is)) (same_then b.state b1.state t2.state same_b1 (same_stays b1.state t2.state d.after.stays)) (omega arith) (omega arith) (omega arith)
      (λ waits. inr (inl (omega arith, moved.0))))
      (λ (z : Rested setup v1 v2 lead lag (other x) a1.state (take_out 65535 b1.state) × Nothing a1.state).
      let q = z.0 in
      let h2 = rests_half setup fits lead lag x v1 v2 a1 b1 h1 q in
      let a2 = q.far in
      let b2 = q.near in
      let all = z.1.0 in
      let next_is : a2.state.next ≡ a1.state.next = ap (λ (k : EndState). k.next) q.far_is in
      let una_is : a2.state.una ≡ a1.state.una = ap (λ (k : EndState). k.una) q.far_is in
      let window_is : a2.state.send_window ≡ a1.state.send_window = ap (λ (k : EndState). k.send_window) q.far_is in
      let end_is : all_end a2.state ≡ all_end a1.state = ap all_end q.far_is in
      let long1 : length a1.state.given ≡ length a.state.given = ap length k1.stays.given in
      let bit1 : bit_of a1.state.closing ≡ bit_of a.state.closing = ap bit_of k1.stays.closing in
      let owed2 : a2.state.ack_owed ≡ true = ap (λ (k : EndState). k.ack_owed) q.far_is ∙ r1.1 in
      let f = first_turn v2 a2 b2 h2 owed2 (omega arith) in
      let d = f.1 in
      let s3 = d.after.far in
      let t3 = d.after.near in
      let number = f.0.holds.0.number in
      let una3 : s3.state.una ≡ a2.state.una = ap (λ (k : Rest). k.una) d.after.rest_is in
      let x3 : s3.state.expected ≡ a2.state.expected = ap (λ (k : Rest). k.expected) d.after.rest_is in
      let next3 = d.after.same_next in
      let near_una3 = d.after.una in
      let b_una2 = near_una setup v2 lead lag (other x) a2 b2 h2 in
      let b_next2 = near_next setup v2 lead lag (other x) a2 b2 h2 in
      let expects2 = near_expects setup v2 lead lag (other x) a2 b2 h2 in
      let a_expects2 = far_expects setup v2 lead lag (other x) a2 b2 h2 in
      let una_low = (far_numbers setup v2 lead lag (other x) a2 b2 h2).una in
      let una_two = far_una setup v2 lead lag (other x) a2 b2 h2 in
      let b_isn2 : b2.state.isn ≡ b1.state.isn = ap (λ (k : EndState). k.isn) q.near_is in
      let same_a2 : IsSame a1.state a2.state = record { isn = ap (λ (k : EndState). k.isn) q.far_is; given = ap (λ (k : EndState). k.given) q.far_is; closing = ap (λ (k : EndState). k.closing) q.far_is } in
      let same_b2 : IsSame b1.state b2.state = record { isn = b_isn2; given = ap (λ (k : EndState). k.given) q.near_is; closing = ap (λ (k : EndState). k.closing) q.near_is } in
      fourth setup fits lead lag x v3 a.state b.state s3 t3 d.after.two
      (same_then a.state a2.state s3.state (same_then a.state a1.state a2.state same_a1 same_a2) (same_rest a2.state s3.state d.after.rest_is))
      (same_then b.state b2.state t3.state (same_then b.state b1.state b2.state same_b1 same_b2) (same_stays b2.state t3.state d.after.stays)) (omega arith) (omega arith)
      (λ waits.
      let may = z.1.1 (omega arith) in
      let wide = may.1 in
      let sending : is_sending a2.state.phase ≡ true = ap (λ (k : EndState). is_sending k.phase) q.far_is ∙ may.0 in
      let some = f.0.holds.1 (sends_so a2.state sending (omega arith) (omega arith)) in
      let moved = d.moved some (omega arith) in
      let up = moved.1 in
      inr (omega arith, moved.0, omega arith)))
      (again_turn v1 a1 b1 h1)

  -- the round trip of the waiting end
  pub waiting_trip : (w : World) (a b : Session) → Half setup w lead lag (other x) a b
      → let v1 = run_from setup w (turn_events setup w (Resends x)) in
      let v2 = run_from setup v1 (turn_events setup v1 (Resends (other x))) in
      let v3 = run_from setup v2 (turn_events setup v2 (Sends (other x))) in
      let v4 = run_from setup v3 (turn_events setup v3 (Sends x)) in
      Tripped setup v4 lead lag (other x) b.state a.state ⊎ Over setup v4 (other x) b.state a.state
  waiting_trip w a b h =
      let v1 = run_from setup w (turn_events setup w (Resends x)) in
      let v2 = run_from setup v1 (turn_events setup v1 (Resends (other x))) in
      let v3 = run_from setup v2 (turn_events setup v2 (Sends (other x))) in
      let v4 = run_from setup v3 (turn_events setup v3 (Sends x)) in
      let una0 = far_una setup w lead lag (other x) a b h in
      let b_una0 = near_una setup w lead lag (other x) a b h in
      let b_next0 = near_next setup w lead lag (other x) a b h in
      let expects0 = near_expects setup w lead lag (other x) a b h in
      let a_expects0 = far_expects setup w lead lag (other x) a b h in
      ⊎_elim
      (λ (z : (t : Turned setup w v1 lead lag (other x) a.state (take_out 65535 b.state) (λ o. MadeOut a.state a.state.una o × Again a.state o)) × AfterMade setup v1 lead lag (other x) a.state b.state t.out.number (takes t.out) t.out.state.next).
      let d = z.1 in
      let s1 = d.after.near in
      let t1 = d.after.far in
      let number = z.0.holds.0.number in
      let some = z.0.holds.1.0 in
      let top = z.0.holds.1.1 in
      let next1 = d.next in
      let moved = d.moved some (omega arith) in
      let up = moved.1 in
      let low = d.after.una in
      let una1 : t1.state.una ≡ a.state.una = ap (λ (k : Rest). k.una) d.after.rest_is in
      forth_again (λ (f : End). let v4 = run_from setup v3 (turn_events setup v3 (Sends f)) in Tripped setup v4 lead lag (other x) b.state a.state ⊎ Over setup v4 (other x) b.state a.state) x
      (second setup fits lead lag (other x) v1 b.state a.state s1 t1 (flip setup v1 lead lag x t1 s1 d.after.two) (same_stays b.state s1.state d.after.stays) (same_rest a.state t1.state d.after.rest_is) (omega arith) (omega arith) (omega arith)))
      (λ (z : Rested setup w v1 lead lag (other x) a.state (take_out 65535 b.state) × Nothing a.state).
      let q = z.0 in
      let h1 = rests_half setup fits lead lag x w v1 a b h q in
      let a1 = q.far in
      let b1 = q.near in
      let r2 = resends_half setup fits lead lag x v1 a1 b1 h1 in
      let k2 = r2.0 in
      let k3 = sends_half setup fits lead lag x v2 k2.far k2.near k2.half in
      let a3 = k3.far in
      let b3 = k3.near in
      let h3 = k3.half in
      let all = z.1.0 in
      let next1 : a1.state.next ≡ a.state.next = ap (λ (k : EndState). k.next) q.far_is in
      let next2 = k2.next in
      let next3 = k3.next in
      let una3 = far_una setup v3 lead lag (other x) a3 b3 h3 in
      let isn1 : a1.state.isn ≡ a.state.isn = ap (λ (k : EndState). k.isn) q.far_is in
      let isn2 = k2.stays.isn in
      let isn3 = k3.stays.isn in
      let b_isn1 : b1.state.isn ≡ b.state.isn = ap (λ (k : EndState). k.isn) q.near_is in
      let b_isn2 = k2.same.isn in
      let b_isn3 = k3.same.isn in
      let f = first_turn v3 a3 b3 h3 (k3.owed r2.1) (omega arith) in
      let d = f.1 in
      let s4 = d.after.near in
      let t4 = d.after.far in
      let number = f.0.holds.0.number in
      let una_low = (far_numbers setup v3 lead lag (other x) a3 b3 h3).una in
      let expects3 = near_expects setup v3 lead lag (other x) a3 b3 h3 in
      let a_expects3 = far_expects setup v3 lead lag (other x) a3 b3 h3 in
      let heard = d.heard (omega arith) (omega arith) in
      let una4 : t4.state.una ≡ a3.state.una = ap (λ (k : Rest). k.una) d.after.rest_is in
      let same_a1 : IsSame a.state a1.state = record { isn = isn1; given = ap (λ (k : EndState). k.given) q.far_is; closing = ap (λ (k : EndState). k.closing) q.far_is } in
      let same_b1 : IsSame b.state b1.state = record { isn = b_isn1; given = ap (λ (k : EndState). k.given) q.near_is; closing = ap (λ (k : EndState). k.closing) q.near_is } in
      let same_a3 = same_then a.state k2.far.state a3.state (same_then a.state a1.state k2.far.state same_a1 (same_far a1.state k2.far.state k2.stays)) (same_far k2.far.state a3.state k3.stays) in
      let same_b3 = same_then b.state k2.near.state b3.state (same_then b.state b1.state k2.near.state same_b1 (same_waits b1.state k2.near.state k2.same)) (same_waits k2.near.state b3.state k3.same) in
      let goal : Tripped setup v4 lead lag (other x) b.state a.state = record {
        here = s4;
        there = t4;
        two = flip setup v4 lead lag x t4 s4 d.after.two;
        same_here = same_then b.state b3.state s4.state same_b3 (same_stays b3.state s4.state d.after.stays);
        same_there = same_then a.state a3.state t4.state same_a3 (same_rest a3.state t4.state d.after.rest_is);
        una_here = omega arith;
        una_there = omega arith;
        moved = λ waits. omega arith;
      } in
      inl goal)
      (again_turn w a b h)
