-- What is handed to a kernel was given by the other one.
use Rattle.std.specs.Prelude.{slice_index_or, ◌-◌}
use Rattle.std.proofs.Common.{◌≡◌, ℕ, ◌&&◌, ◌||◌, Bool, true, false, List, [], ◌∷◌, ◌++◌, Option, Result, Ok, Err, refl, sym, ap, subst, ◌∙◌, inl, inr, ◌⊎◌, if◌then◌else◌}
use Rattle.book_base.specs.declared.address.Pair.{Pair}
use Rattle.book_segments.specs.Bytes.{same_bytes}
use Rattle.book_segments.specs.Options.{Ao, One, Opt, find_ao, found, of_kind, listed, options_of}
use Rattle.book_segments.specs.Sockets.{same_socket}
use Rattle.book_segments.specs.Segments.{Segment, Reading, Bad as Unread, Read, reading}
use Rattle.book_segments.specs.Spelling.{AreBytes, Fits}
use Rattle.book_segments.proofs.Fields.{and_tells, same_bytes_tells}
use Rattle.book_segments.proofs.SocketLaws.{same_socket_is}
use Rattle.book_segments.proofs.SpellLaws.{read_stands}
use Rattle.book_macs.specs.MacInput.{mac_input, covered}
use Rattle.book_keys.specs.Rows.{Row}
use Rattle.book_shim.specs.Keeping.{Setting}
use Rattle.book_endpoint.specs.Verdicts.{Finding, Known, key_of, same_master_key}
use Rattle.book_endpoint.specs.Passing.{Passes}
use Rattle.book_endpoint.proofs.Passing.{meets}
use Rattle.book_endpoint.specs.Arrivals.{from_peer}
use Rattle.book_shim.specs.declared.kept.Kept.{Kept}
use Rattle.book_shim.specs.declared.refusal.Unsent.{Unsent}
use Rattle.book_shim.specs.declared.refusal.Unsent.TheVariants.{Foreign}
use Rattle.book_shim.specs.declared.refusal.Untaken.TheVariants.{Foreign as Strange}
use Rattle.book_shim.specs.declared.refusal.Untaken.{Untaken}
use Rattle.book_shim.specs.Leaving.{Sealed, send_sealed, send_read, outbound, with_ao, ao_last}
use Rattle.book_shim.specs.Arriving.{Opened, take_in, take_read, inbound, known_for}
use Rattle.book_shim.specs.Relaying.{relaid, coming_area, most_mss}
use Rattle.law_shim.specs.Worlds.{Side, Left, Right, other, same_side, pair_at, Event, Leaves, Arrives, Made, World, kept_at, keeping, after_leaving, after_arriving, run, accounts_for, was_made, Gave, WasSealed, IsBytewise}
use Rattle.law_shim.specs.Origins.{AgreesWith, IsOriginal}
use Rattle.law_shim.proofs.Meanings.{same_inputs, same_family, fits_sized}
use Rattle.law_shim.proofs.Blanks.{comes_blank}
use Rattle.law_shim.proofs.Returning.{fitted_found, fitted_options, front_listed}
use Rattle.law_shim.proofs.Sealing.{same_most, is_fitted, IsSealed, sends, Keeps, relaid_keeps, relaid_family, blank_sized, fitted_words, IsOpened, takes}
use Rattle.book_endpoint.specs.Emissions.{written_ao, no_mac}

-- ---- one step

-- what was sent in place of what was read
pub record WasSent (here : Setting) (pair : Pair) (g : Kept) (r : Reading) (m : Sealed) : Type 0 where
  pub given : Segment
  pub read : r ≡ Read given
  pub source : given.source ≡ pair.local
  pub destination : given.destination ≡ pair.remote
  pub sealed_so : IsSealed here pair g given m

sockets : (b : Bool) (here : Setting) (pair : Pair) (g : Kept) (d : Segment) (m : Sealed) → b ≡ (same_socket d.source pair.local && same_socket d.destination pair.remote)
    → (if b then send_sealed here pair g d else Err Foreign) ≡ Ok m → WasSent here pair g (Read d) m
sockets true here pair g d m is e =
    let two = and_tells (same_socket d.source pair.local) (same_socket d.destination pair.remote) (sym is) in
    record { given = d; read = refl; source = same_socket_is d.source pair.local two.0; destination = same_socket_is d.destination pair.remote two.1; sealed_so = sends here pair g d m e }
sockets false here pair g d m is e = absurd (cc)

pub was_sent : (here : Setting) (pair : Pair) (g : Kept) (r : Reading) (m : Sealed) → send_read here pair g r ≡ Ok m → WasSent here pair g r m
was_sent here pair g (Unread fault) m e = absurd (cc)
was_sent here pair g (Read d) m e = sockets (same_socket d.source pair.local && same_socket d.destination pair.remote) here pair g d m refl e

-- what was taken in place of what was read
pub record WasTaken (here : Setting) (pair : Pair) (g : Kept) (r : Reading) (t : Opened) : Type 0 where
  pub segment : Segment
  pub read : r ≡ Read segment
  pub source : segment.source ≡ pair.remote
  pub destination : segment.destination ≡ pair.local
  pub opened_so : IsOpened here pair g segment t

peers : (b : Bool) (here : Setting) (pair : Pair) (g : Kept) (d : Segment) (t : Opened) → b ≡ from_peer pair d
    → (if b then take_in here pair g d else Err Strange) ≡ Ok t → WasTaken here pair g (Read d) t
peers true here pair g d t is e =
    let two = and_tells (same_socket d.source pair.remote) (same_socket d.destination pair.local) (sym is) in
    record { segment = d; read = refl; source = same_socket_is d.source pair.remote two.0; destination = same_socket_is d.destination pair.local two.1; opened_so = takes here pair g d t e }
peers false here pair g d t is e = absurd (cc)

pub was_taken : (here : Setting) (pair : Pair) (g : Kept) (r : Reading) (t : Opened) → take_read here pair g r ≡ Ok t → WasTaken here pair g r t
was_taken here pair g (Unread fault) t e = absurd (cc)
was_taken here pair g (Read d) t e = peers (from_peer pair d) here pair g d t refl e

pub read_fits : (bytes : List ℕ) (d : Segment) → AreBytes bytes → reading bytes ≡ Read d → Fits d
read_fits bytes d b e = (read_stands bytes d b e).1

-- ---- what was sealed in a run

pub record IsMade (pair : Pair) (events : List Event) (m : Made) : Type 0 where
  pub bytes : List ℕ
  pub here : Setting
  pub kept : Kept
  pub gave : Gave m.maker bytes events
  pub read : reading bytes ≡ Read m.sent.given
  pub fits : Fits m.sent.given
  pub source : m.sent.given.source ≡ (pair_at pair m.maker).local
  pub destination : m.sent.given.destination ≡ (pair_at pair m.maker).remote
  pub sealed_so : IsSealed here (pair_at pair m.maker) kept m.sent.given m.sent

abbrev pub AllMade : Pair → List Event → List Made → Type 0
AllMade pair events [] = Unit {0}
AllMade pair events (m ∷ ms) = IsMade pair events m × AllMade pair events ms

gave_later : (at : Side) (bytes : List ℕ) (e : Event) (past : List Event) → Gave at bytes past → Gave at bytes (e ∷ past)
gave_later at bytes (Leaves side here given) past h = inr h
gave_later at bytes (Arrives side here given) past h = h

made_later : (pair : Pair) (e : Event) (past : List Event) (m : Made) → IsMade pair past m → IsMade pair (e ∷ past) m
made_later pair e past m h = record {
  bytes = h.bytes;
  here = h.here;
  kept = h.kept;
  gave = gave_later m.maker h.bytes e past h.gave;
  read = h.read;
  fits = h.fits;
  source = h.source;
  destination = h.destination;
  sealed_so = h.sealed_so;
}

all_later : (pair : Pair) (e : Event) (past : List Event) (ms : List Made) → AllMade pair past ms → AllMade pair (e ∷ past) ms
all_later pair e past [] h = tt
all_later pair e past (m ∷ ms) h = (made_later pair e past m h.0, all_later pair e past ms h.1)

-- a segment that is sealed is that of a datagram
is_made : (pair : Pair) (at : Side) (here : Setting) (g : Kept) (bytes : List ℕ) (past : List Event) (m : Sealed) → AreBytes bytes
    → outbound here (pair_at pair at) g bytes ≡ Ok m → IsMade pair (Leaves at here bytes ∷ past) (record { maker = at; sent = m })
is_made pair at here g bytes past m b e =
    let w = was_sent here (pair_at pair at) g (reading bytes) m e in
    let d = w.given in
    let is : d ≡ m.given = ap (λ (x : Sealed). x.given) (sym w.sealed_so.sent_is) in
    let f = read_fits bytes d b w.read in
    record {
      bytes = bytes;
      here = here;
      kept = g;
      gave = inl ((refl, refl));
      read = subst (λ (x : Segment). reading bytes ≡ Read x) is w.read;
      fits = subst Fits is f;
      source = subst (λ (x : Segment). x.source ≡ (pair_at pair at).local) is w.source;
      destination = subst (λ (x : Segment). x.destination ≡ (pair_at pair at).remote) is w.destination;
      sealed_so = subst (λ (x : Segment). IsSealed here (pair_at pair at) g x m) is w.sealed_so;
    }

made_keeping : (w : World) (at : Side) (g : Kept) → (keeping w at g).made ≡ w.made
made_keeping w Left g = refl
made_keeping w Right g = refl

leaving : (pair : Pair) (at : Side) (here : Setting) (bytes : List ℕ) (past : List Event) (w : World) (r : Result Sealed Unsent) → AreBytes bytes
    → outbound here (pair_at pair at) (kept_at w at) bytes ≡ r → AllMade pair past w.made → AllMade pair (Leaves at here bytes ∷ past) (after_leaving w at r).made
leaving pair at here bytes past w (Ok m) b is h =
    (is_made pair at here (kept_at w at) bytes past m b is, all_later pair (Leaves at here bytes) past w.made h)
leaving pair at here bytes past w (Err why) b is h = all_later pair (Leaves at here bytes) past w.made h

arriving : (pair : Pair) (at : Side) (here : Setting) (bytes : List ℕ) (past : List Event) (w : World) (r : Result Opened Untaken)
    → AllMade pair past w.made → AllMade pair (Arrives at here bytes ∷ past) (after_arriving w at r).made
arriving pair at here bytes past w (Ok t) h =
    subst (λ (ms : List Made). AllMade pair (Arrives at here bytes ∷ past) ms) (sym (made_keeping w at t.kept)) (all_later pair (Arrives at here bytes) past w.made h)
arriving pair at here bytes past w (Err why) h = all_later pair (Arrives at here bytes) past w.made h

pub all_made : (pair : Pair) (events : List Event) → IsBytewise events → AllMade pair events (run pair events).made
all_made pair [] b = tt
all_made pair (Leaves at here bytes ∷ past) b =
    leaving pair at here bytes past (run pair past) (outbound here (pair_at pair at) (kept_at (run pair past) at) bytes) b.0 refl (all_made pair past b.1)
all_made pair (Arrives at here bytes ∷ past) b =
    arriving pair at here bytes past (run pair past) (inbound here (pair_at pair at) (kept_at (run pair past) at) bytes) (all_made pair past b.1)

-- ---- what passed and is no forgery

or_tells : (a b : Bool) → (a || b) ≡ true → (a ≡ true) ⊎ (b ≡ true)
or_tells true b e = inl refl
or_tells false b e = inr e

same_side_is : (one two : Side) → same_side one two ≡ true → one ≡ two
same_side_is Left Left e = refl
same_side_is Left Right e = absurd (cc)
same_side_is Right Left e = absurd (cc)
same_side_is Right Right e = refl

record Accounted (pair : Pair) (events : List Event) (at : Side) (p : Finding) (ms : List Made) : Type 0 where
  made : Made
  sealed_there : WasSealed (other at) made.sent ms
  is_so : IsMade pair events made
  maker : made.maker ≡ other at
  context : made.sent.context ≡ p.context
  input : made.sent.input ≡ p.input

accounted : (pair : Pair) (events : List Event) (at : Side) (p : Finding) (m : Made) (ms : List Made) → IsMade pair events m → accounts_for at p m ≡ true
    → Accounted pair events at p (m ∷ ms)
accounted pair events at p m ms h e =
    let one = and_tells (same_side m.maker (other at)) _ e in
    let two = and_tells (same_master_key (key_of m.sent.sending.row) p.key) _ one.1 in
    let three = and_tells (same_bytes m.sent.context p.context) (same_bytes m.sent.input p.input) two.1 in
    let maker = same_side_is m.maker (other at) one.0 in
    record {
      made = m;
      sealed_there = inl (ap (λ (x : Side). let y : Made = record { maker = x; sent = m.sent } in y) maker);
      is_so = h;
      maker = maker;
      context = same_bytes_tells m.sent.context p.context three.0;
      input = same_bytes_tells m.sent.input p.input three.1;
    }

accounted_later : (pair : Pair) (events : List Event) (at : Side) (p : Finding) (m : Made) (ms : List Made) → Accounted pair events at p ms → Accounted pair events at p (m ∷ ms)
accounted_later pair events at p m ms a = record {
  made = a.made;
  sealed_there = inr a.sealed_there;
  is_so = a.is_so;
  maker = a.maker;
  context = a.context;
  input = a.input;
}

found_made : (pair : Pair) (events : List Event) (at : Side) (p : Finding) (ms : List Made) → AllMade pair events ms → was_made at p ms ≡ true → Accounted pair events at p ms
found_made pair events at p [] h e = absurd (cc)
found_made pair events at p (m ∷ ms) h e = elim (or_tells (accounts_for at p m) (was_made at p ms) e) [
  | inl here ↦ accounted pair events at p m ms h.0 here
  | inr later ↦ accounted_later pair events at p m ms (found_made pair events at p ms h.1 later)
]

pub local_across : (pair : Pair) (at : Side) → (pair_at pair (other at)).local ≡ (pair_at pair at).remote
local_across pair Left = refl
local_across pair Right = refl

pub remote_across : (pair : Pair) (at : Side) → (pair_at pair (other at)).remote ≡ (pair_at pair at).local
remote_across pair Left = refl
remote_across pair Right = refl

-- what is laid out again agrees with what it was made of, on both ways
carried : (given blank came out : Segment) (a b : List ℕ) → Keeps given blank a → AgreesWith blank came → Keeps came out b → AgreesWith given out
carried given blank came out a b k h l = record {
  source = sym k.source ∙ h.source ∙ sym l.source;
  destination = sym k.destination ∙ h.destination ∙ sym l.destination;
  sequence = sym k.sequence ∙ h.sequence ∙ sym l.sequence;
  acknowledgement = sym k.acknowledgement ∙ h.acknowledgement ∙ sym l.acknowledgement;
  reserved = sym k.reserved ∙ h.reserved ∙ sym l.reserved;
  flags = sym k.flags ∙ h.flags ∙ sym l.flags;
  window = sym k.window ∙ h.window ∙ sym l.window;
  urgent = sym k.urgent ∙ h.urgent ∙ sym l.urgent;
  payload = sym k.payload ∙ h.payload ∙ sym l.payload;
}

-- the option of a segment that passes is found
pub one_found : (d : Segment) {rows : List Row} {pair : Pair} {known : Known} {now : ℕ} {p : Finding} (h : Passes rows pair known now d p) → find_ao d.area ≡ One h.ao
unfolding find_ao
one_found d h = ap (λ (l : List Opt). found l (of_kind 19 (listed (options_of d.area)))) h.one_option ∙ ap (λ (l : List Opt). found (h.option ∷ []) l) h.no_md5 ∙ ap (λ (a : Ao). One a) (sym h.its_fields)

-- the MAC of what was given is over what the MAC of what passed is
pub authentic_input : (pair : Pair) (events : List Event) (at : Side) (here : Setting) (bytes : List ℕ) (t : Opened) → IsBytewise events → AreBytes bytes
    → inbound here (pair_at pair at) (kept_at (run pair events) at) bytes ≡ Ok t → was_made at t.passed (run pair events).made ≡ true → (o : IsOriginal pair events here at t) × (o.sent.input ≡ t.passed.input)
authentic_input pair events at here bytes t all b e made =
    let P = pair_at pair at in
    let w = was_taken here P (kept_at (run pair events) at) (reading bytes) t e in
    let d = w.segment in
    let fd = read_fits bytes d b w.read in
    let p = t.passed in
    let passes = meets here.rows P (known_for (kept_at (run pair events) at) d) here.now d p w.opened_so.judgement in
    let found = found_made pair events at p (run pair events).made (all_made pair events all) made in
    let m = found.made in
    let s = found.is_so in
    let given = m.sent.given in
    let z = s.sealed_so in
    let sending = m.sent.sending in
    let area = z.area in
    let blank = with_ao given area sending (no_mac sending) in
    let source : given.source ≡ d.source = s.source ∙ ap (λ (x : Side). (pair_at pair x).local) found.maker ∙ local_across pair at ∙ sym w.source in
    let destination : given.destination ≡ d.destination = s.destination ∙ ap (λ (x : Side). (pair_at pair x).remote) found.maker ∙ remote_across pair at ∙ sym w.destination in
    let k = relaid_keeps given (area ++ written_ao sending (no_mac sending)) in
    let family = relaid_family given d (area ++ written_ao sending (no_mac sending)) (same_family given.ip d.ip given d source s.fits.ip fd.ip) in
    let input : mac_input m.sent.number blank (ao_last area sending (no_mac sending)) sending.row.with_options ≡ mac_input p.number d passes.ao passes.row.row.with_options =
    sym (ap (λ (x : Sealed). x.input) z.sent_is) ∙ found.input ∙ ap (λ (x : Finding). x.input) passes.finding in
    let same = same_inputs m.sent.number p.number blank d (ao_last area sending (no_mac sending)) passes.ao sending.row.with_options passes.row.row.with_options
    family (k.source ∙ source) (k.destination ∙ destination) (blank_sized given area sending s.fits (fitted_words _ given.area area z.fits) z.whole) (fits_sized d fd) input in
    let out_is : t.segment ≡ relaid d (coming_area (most_mss here.mtu d) d.area) = ap (λ (x : Opened). x.segment) w.opened_so.taken_is in
    let agrees = carried given blank d (relaid d (coming_area (most_mss here.mtu d) d.area)) (area ++ written_ao sending (no_mac sending)) (coming_area (most_mss here.mtu d) d.area) k same.agrees (relaid_keeps d (coming_area (most_mss here.mtu d) d.area)) in (
      record {
        sent = m.sent;
        made = found.sealed_there;
        bytes = s.bytes;
        given = subst (λ (x : Side). Gave x s.bytes events) found.maker s.gave;
        read = s.read;
        agrees = subst (λ (x : Segment). AgreesWith given x) (sym out_is) agrees;
        context = found.context;
        options = area;
        fit = z.fits;
        come = λ flag passing.
            let passed_row : p.row ≡ passes.row.number = ap (λ (x : Finding). x.row) passes.finding in
            let flag_there : passes.row.row.with_options ≡ true =
            ap (λ (x : Row). x.with_options) (sym (passes.acceptable_row.here passes.row.row) ∙ ap (λ (i : ℕ). slice_index_or here.rows (i - 1) passes.row.row) (sym passed_row)) ∙ passing passes.row.row in
            let most_is : most_mss here.mtu t.segment ≡ most_mss here.mtu d = ap (λ (x : Segment). most_mss here.mtu x) out_is ∙ same_most here.mtu d (coming_area (most_mss here.mtu d) d.area) in
            let blank_code = no_mac sending in
            let covers_both : covered true (area ++ written_ao sending blank_code) (ao_last area sending blank_code) ≡ covered true d.area passes.ao =
            ap (λ (l : List ℕ). covered true l (ao_last area sending blank_code)) (sym k.area_is)
            ∙ ap (λ (b : Bool). covered b blank.area (ao_last area sending blank_code)) (sym flag) ∙ same.covers ∙ ap (λ (b : Bool). covered b d.area passes.ao) flag_there in
            let os = fitted_options given area sending blank_code s.fits z.plain (is_fitted _ given.area area z.fits) (fitted_words _ given.area area z.fits) in
            let listed_blank = front_listed given area sending blank_code s.fits z.plain (is_fitted _ given.area area z.fits) in
            ap (λ (x : Segment). x.area) out_is ∙ (relaid_keeps d (coming_area (most_mss here.mtu d) d.area)).area_is
            ∙ sym (comes_blank (most_mss here.mtu d) d.area passes.ao fd.listed (one_found d passes))
            ∙ ap (λ (l : List ℕ). coming_area (most_mss here.mtu d) l) (sym covers_both)
            ∙ comes_blank (most_mss here.mtu d) (area ++ written_ao sending blank_code) (ao_last area sending blank_code) listed_blank (fitted_found given area sending blank_code s.fits z.plain (is_fitted _ given.area area z.fits))
            ∙ os.come (most_mss here.mtu d) ∙ ap (λ (o : Option ℕ). coming_area o area) (sym most_is);
      },
      found.input,
    )

pub authentic : (pair : Pair) (events : List Event) (at : Side) (here : Setting) (bytes : List ℕ) (t : Opened) → IsBytewise events → AreBytes bytes
    → inbound here (pair_at pair at) (kept_at (run pair events) at) bytes ≡ Ok t → was_made at t.passed (run pair events).made ≡ true → IsOriginal pair events here at t
authentic pair events at here bytes t all b e made = (authentic_input pair events at here bytes t all b e made).0
