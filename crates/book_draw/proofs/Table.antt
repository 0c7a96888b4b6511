-- That the rungs of a session are as many as its table counts.
use Rattle.std.proofs.Common.{◌≡◌, ℕ, zero, suc, ◌+◌, ◌/◌, ◌==◌, Bool, true, false, List, [], ◌∷◌, ◌++◌, length, Option, Some, None, Result, Ok, Err, refl, sym, subst, ap, ◌∙◌, arith, append_assoc, cond, if◌then◌else◌}
use Rattle.std.specs.Prelude.{is_some, option_map, slice_get}
use Rattle.std.specs.List.{filter, find, list_any}
use Rattle.std.specs.Option.{option_or, unwrap_or}
use Rattle.std.proofs.lemmas.Bool.{or_parts}
use Rattle.std.proofs.lemmas.List.{append-nil}
use Rattle.book_segments.specs.declared.fault.DatagramFault.{DatagramFault}
use Rattle.book_cmd_check.specs.Captures.{Stored}
use Rattle.book_segments.specs.Segments.{Segment, Reading, Read, Bad, reading}
use Rattle.book_captures.specs.declared.reasons.Skipped.{Skipped}
use Rattle.book_captures.specs.Frames.{Datagram}
use Rattle.book_captures.specs.Captures.{CapturePacket, frame_datagram}
use Rattle.book_cmd_check.specs.declared.given.GivenIsns.{GivenIsns}
use Rattle.book_captures.specs.PacketLines.{judged_bytes}
use Rattle.book_sessions.specs.AsSent.{mended}
use Rattle.book_sessions.specs.declared.outcome.SegmentOutcome.{SegmentOutcome}
use Rattle.book_sessions.specs.declared.outcome.SegmentOutcome.TheVariants.{CutOff}
use Rattle.book_sessions.specs.CutOff.{cut_segment}
use Rattle.book_sessions.specs.declared.uses.KeyUse.{KeyUse}
use Rattle.book_sessions.specs.declared.uses.SeenSegment.{SeenSegment}
use Rattle.book_sessions.specs.Laps.{Judging}
use Rattle.book_sessions.specs.Listening.{Listened, Listening, listen, listen_to, listening_behind}
use Rattle.book_sessions.specs.Sessions.{SessionTable, and_counted, and_segment, and_unset, captured_of_packet, counted_by, no_sessions, seen_as, seen_by, seen_cut, seen_pass, seen_segment, session_of, sessions_from, sessions_of, signs_of, stored_by, with_use}
use Rattle.book_sessions.specs.SessionTexts.{is_of_session}
use Rattle.book_draw.specs.declared.session_rung.SessionEnds.{SessionEnds}
use Rattle.book_draw.specs.declared.session_rung.SessionRung.{SessionRung}
use Rattle.book_draw.specs.SessionRungs.{and_session, counted_in, drawn_by, ends_of, ends_of_use, is_between, rung_before, rung_cut, rung_heard, rung_said, rungs_between, rungs_in, rungs_of_session, same_ends, seen_at, seen_of, session_at, session_rung, session_rungs_from, sessions_after, sessions_drawn}
use Rattle.book_draw.proofs.Heard.{read_uncut}
use Rattle.book_draw.proofs.Places.{any_place, known_more, known_still, like_ends, many_more, number_more, number_now, number_of, one_less, other_zero, place, place_more, place_of, session_more, zero_other}
use Rattle.book_draw.proofs.Numbers.{Agree, agree_more, agree_used, all_of, count_used, ends_found, ends_in, ends_used, number_in, number_used, session_number}

-- ---- how many segments have this number

abbrev is_number : ℕ → Option ℕ → Bool
is_number n None = false
is_number n (Some m) = m == n

abbrev has_number : ℕ → List SessionEnds → SessionRung → Bool
has_number n known r = is_number n (number_of (ends_of r) known)

abbrev numbered : ℕ → List SessionEnds → List SessionRung → ℕ
numbered n known [] = 0
numbered n known (r ∷ rs) = (if has_number n known r then 1 else 0) + numbered n known rs

-- each segment has a place
abbrev pub Placed : List SessionEnds → List SessionRung → Type 0
Placed known [] = Unit {0}
Placed known (r ∷ rs) = (is_some (place (ends_of r) known) ≡ true) × Placed known rs

numbered_last : (n : ℕ) (known : List SessionEnds) (r : SessionRung) (rs : List SessionRung) → numbered n known (rs ++ r ∷ []) ≡ numbered n known rs + (if has_number n known r then 1 else 0)
numbered_last n known r [] = omega arith
numbered_last n known r (x ∷ rs) = let more = numbered_last n known r rs in omega (arith, more)

pub placed_last : (known : List SessionEnds) (r : SessionRung) (rs : List SessionRung) → Placed known rs → is_some (place (ends_of r) known) ≡ true → Placed known (rs ++ r ∷ [])
placed_last known r [] all last = (last, tt)
placed_last known r (x ∷ rs) all last = (all.0, placed_last known r rs all.1 last)

has_still : (p q : Option ℕ) → is_some p ≡ true → option_or p q ≡ p
has_still None q has = absurd (cc)
has_still (Some n) q has = refl

some_either : (p q : Option ℕ) → is_some p ≡ true → is_some (option_or p q) ≡ true
some_either None q has = absurd (cc)
some_either (Some n) q has = refl

pub some_number : (p : Option ℕ) (n : ℕ) → option_map (λ m. suc m) p ≡ Some n → is_some p ≡ true
some_number None n is = absurd (cc)
some_number (Some m) n is = refl

module _ (known : List SessionEnds) (r : SessionRung) where
  pub placed_more : (rs : List SessionRung) → Placed known rs → Placed (and_session known r) rs
  placed_more [] all = tt
  placed_more (x ∷ rs) all =
      (ap is_some (place_more known r (ends_of x)) ∙ some_either (place (ends_of x) known) _ all.0, placed_more rs all.1)

  numbered_more : (n : ℕ) (rs : List SessionRung) → Placed known rs → numbered n (and_session known r) rs ≡ numbered n known rs
  numbered_more n [] all = refl
  numbered_more n (x ∷ rs) all =
      ap (λ (p : Option ℕ). (if is_number n (option_map (λ m. suc m) p) then 1 else 0) + numbered n (and_session known r) rs)
      (place_more known r (ends_of x) ∙ has_still (place (ends_of x) known) _ all.0)
      ∙ ap (λ (m : ℕ). (if has_number n known x then 1 else 0) + m) (numbered_more n rs all.1)

-- ---- the sessions are apart

abbrev Apart : List SessionEnds → Type 0
Apart [] = Unit {0}
Apart (e ∷ es) = (list_any (λ k. same_ends k e) es ≡ false) × Apart es

any_last : (e x : SessionEnds) (es : List SessionEnds) → list_any (λ k. same_ends k e) es ≡ false → same_ends x e ≡ false → list_any (λ k. same_ends k e) (es ++ x ∷ []) ≡ false
any_last e x [] none last = rw last refl
any_last e x (k ∷ ks) none last = let both = or_parts (same_ends k e) (list_any (λ k. same_ends k e) ks) none in rw both.0 (any_last e x ks both.1 last)

apart_last : (x : SessionEnds) (es : List SessionEnds) → list_any (λ e. same_ends x e) es ≡ false → Apart es → Apart (es ++ x ∷ [])
apart_last x [] none apart = (refl, tt)
apart_last x (e ∷ es) none apart =
    let both = or_parts (same_ends x e) (list_any (λ e. same_ends x e) es) none in
    (any_last e x es apart.0 both.0, apart_last x es both.1 apart.1)

apart_by : (known : List SessionEnds) (r : SessionRung) (found : Option ℕ) → place (ends_of r) known ≡ found → Apart known → Apart (and_session known r)
apart_by known r None is apart = rw (known_more known r is) (apart_last (ends_of r) known (sym (any_place (ends_of r) known) ∙ ap is_some is) apart)
apart_by known r (Some m) is apart = rw (known_still known r m is) apart

-- ---- a segment between the sockets of a session has its number

abbrev between_at : Option SessionEnds → SessionRung → Bool
between_at None r = false
between_at (Some e) r = is_between e r

differs_by : (b : Bool) (x k e : SessionEnds) → same_ends x k ≡ b → same_ends k e ≡ false → same_ends x e ≡ true → b ≡ false
differs_by true x k e is apart same = let like = like_ends x k e is in absurd (cc)
differs_by false x k e is apart same = refl

differs : (e : SessionEnds) (r : SessionRung) (es : List SessionEnds) (i : ℕ) → list_any (λ k. same_ends k e) es ≡ false → same_ends (ends_of r) e ≡ true → between_at (slice_get es i) r ≡ false
differs e r [] i none same = refl
differs e r (k ∷ ks) zero none same =
    differs_by (same_ends (ends_of r) k) (ends_of r) k e refl (or_parts (same_ends k e) (list_any (λ k. same_ends k e) ks) none).0 same
differs e r (k ∷ ks) (suc i) none same = differs e r ks i (or_parts (same_ends k e) (list_any (λ k. same_ends k e) ks) none).1 same

not_first : (p : Option ℕ) → is_number 0 (option_map (λ m. suc m) p) ≡ false
not_first None = refl
not_first (Some m) = other_zero m

one_down : (i : ℕ) (p : Option ℕ) → is_number i p ≡ is_number (suc i) (option_map (λ m. suc m) p)
one_down i None = refl
one_down i (Some m) = sym (one_less m i)

first_number : (b : Bool) (p : Option ℕ) → b ≡ is_number 0 (if b then Some 0 else option_map (λ m. suc m) p)
first_number true p = refl
first_number false p = sym (not_first p)

later_number : (b : Bool) (i : ℕ) (e : SessionEnds) (es : List SessionEnds) (r : SessionRung) → same_ends (ends_of r) e ≡ b → Apart (e ∷ es) → between_at (slice_get es i) r ≡ is_number i (place (ends_of r) es)
    → between_at (slice_get es i) r ≡ is_number (suc i) (if b then Some 0 else option_map (λ m. suc m) (place (ends_of r) es))
later_number true i e es r is apart others = differs e r es i apart.0 is ∙ sym (zero_other i)
later_number false i e es r is apart others = others ∙ one_down i (place (ends_of r) es)

at_place : (r : SessionRung) (known : List SessionEnds) (i : ℕ) → Apart known → between_at (slice_get known i) r ≡ is_number i (place (ends_of r) known)
at_place r [] i apart = refl
at_place r (e ∷ es) zero apart = first_number (same_ends (ends_of r) e) (place (ends_of r) es)
at_place r (e ∷ es) (suc i) apart = later_number (same_ends (ends_of r) e) i e es r refl apart (at_place r es i apart.1)

at_number : (r : SessionRung) (known : List SessionEnds) (n : ℕ) → Apart known → between_at (session_at n known) r ≡ has_number n known r
at_number r known zero apart = sym (not_first (place (ends_of r) known))
at_number r known (suc i) apart = at_place r known i apart ∙ one_down i (place (ends_of r) known)

one_longer : (b : Bool) (r : SessionRung) (rs : List SessionRung) → length (cond b (r ∷ rs) rs) ≡ (if b then 1 else 0) + length rs
one_longer true r rs = omega arith
one_longer false r rs = omega arith

rung_more : (o : Option SessionEnds) (r : SessionRung) (rs : List SessionRung) → length (rungs_between o (r ∷ rs)) ≡ (if between_at o r then 1 else 0) + length (rungs_between o rs)
rung_more None r rs = refl
rung_more (Some e) r rs = one_longer (is_between e r) r (filter (is_between e) rs)

none_between : (o : Option SessionEnds) → length (rungs_between o []) ≡ 0
none_between None = refl
none_between (Some e) = refl

as_numbered : (n : ℕ) (known : List SessionEnds) (rs : List SessionRung) → Apart known → length (rungs_between (session_at n known) rs) ≡ numbered n known rs
as_numbered n known [] apart = none_between (session_at n known)
as_numbered n known (r ∷ rs) apart =
    rung_more (session_at n known) r rs
    ∙ (ap (λ (b : Bool). (if b then 1 else 0) + length (rungs_between (session_at n known) rs)) (at_number r known n apart)
    ∙ ap (λ (m : ℕ). (if has_number n known r then 1 else 0) + m) (as_numbered n known rs apart))

-- ---- one segment more

-- the table tells of these segments
pub record Fits (known : List SessionEnds) (sessions : ℕ) (uses : List KeyUse) (rs : List SessionRung) : Type 0 where
  pub many : length known ≡ sessions
  pub numbers : (e : SessionEnds) → number_in e uses ≡ number_of e known
  pub ends : (n : ℕ) → session_at n known ≡ ends_in n uses
  pub agree : Agree known uses
  pub apart : Apart known
  pub placed : Placed known rs
  pub counts : (n : ℕ) → numbered n known rs ≡ counted_in n uses

one_behind : (n : ℕ) → n + 1 ≡ suc n
one_behind n = omega arith

module _ (known : List SessionEnds) (uses : List KeyUse) (rs : List SessionRung) (sessions : ℕ) (fits : Fits known sessions uses rs) (r : SessionRung) where
  fits_with : (k : ℕ) (many : ℕ) → k ≡ suc (place_of r known) → length (and_session known r) ≡ many → Fits (and_session known r) many (with_use k (signs_of (seen_of r) uses) (seen_of r) uses) (rs ++ r ∷ [])
  fits_with k many is length_is =
      let now : number_of (ends_of r) (and_session known r) ≡ Some k = number_now known r ∙ ap (λ m. Some m) (sym is) in
      let agree = agree_more known r uses fits.agree in
      let all = all_of (and_session known r) k (signs_of (seen_of r) uses) (seen_of r) now uses agree in
      let here = some_number (place (ends_of r) (and_session known r)) k now in
      record {
        many = length_is;
        numbers = λ e. number_used e k (signs_of (seen_of r) uses) (seen_of r) uses
            ∙ (ap (λ (p : Option ℕ). option_or p (if same_ends e (ends_of r) then Some k else None)) (fits.numbers e)
            ∙ (ap (λ (m : ℕ). option_or (number_of e known) (if same_ends e (ends_of r) then Some m else None)) is
            ∙ sym (number_more known r e)));
        ends = λ n. session_more known r n
            ∙ (ap (λ (m : ℕ). option_or (session_at n known) (if m == n then Some (ends_of r) else None)) (sym is)
            ∙ (ap (λ (o : Option SessionEnds). option_or o (if k == n then Some (ends_of r) else None)) (fits.ends n)
            ∙ sym (ends_used n k (signs_of (seen_of r) uses) (seen_of r) uses all)));
        agree = agree_used (and_session known r) k (signs_of (seen_of r) uses) (seen_of r) now uses agree;
        apart = apart_by known r (place (ends_of r) known) refl fits.apart;
        placed = placed_last (and_session known r) r rs (placed_more known r rs fits.placed) here;
        counts = λ n. numbered_last n (and_session known r) r rs
            ∙ (ap (λ (m : ℕ). m + (if has_number n (and_session known r) r then 1 else 0)) (numbered_more known r n rs fits.placed ∙ fits.counts n)
            ∙ (ap (λ (p : Option ℕ). counted_in n uses + (if is_number n p then 1 else 0)) now
            ∙ sym (count_used n k (signs_of (seen_of r) uses) (seen_of r) uses all)));
      }

  fits_by : (p : Option ℕ) → place (ends_of r) known ≡ p → (passed_over : _) (unset : ℕ) →
      let now = and_segment (option_map (λ m. suc m) p) (seen_of r) (record { sessions = sessions; uses = uses; passed = passed_over; unset = unset }) in
      Fits (and_session known r) now.sessions now.uses (rs ++ r ∷ [])
  fits_by None is passed_over unset =
      let many = fits.many in
      fits_with (sessions + 1) (sessions + 1) (ap (λ m. m + 1) (sym many) ∙ (one_behind (length known) ∙ ap (λ o. suc (unwrap_or o (length known))) (sym is)))
      (many_more known r ∙ (ap (λ (o : Option ℕ). if is_some o then length known else length known + 1) is ∙ ap (λ m. m + 1) many))
  fits_by (Some m) is passed_over unset =
      fits_with (suc m) sessions (ap (λ o. suc (unwrap_or o (length known))) (sym is))
      (many_more known r ∙ (ap (λ (o : Option ℕ). if is_some o then length known else length known + 1) is ∙ fits.many))

pub fits_more : (known : List SessionEnds) (t : SessionTable) (rs : List SessionRung) → Fits known t.sessions t.uses rs → (r : SessionRung) →
    let now = and_counted (Ok (seen_of r)) t in Fits (and_session known r) now.sessions now.uses (rs ++ r ∷ [])
fits_more known t rs fits r =
    let found : session_of (seen_of r) t.uses ≡ number_of (ends_of r) known = session_number (seen_of r) t.uses ∙ fits.numbers (ends_of r) in
    rw found (fits_by known t.uses rs t.sessions fits r (place (ends_of r) known) refl t.passed t.unset)

-- ---- all packets

-- the tables of further packets tell of further segments
abbrev FitsLater : List SessionEnds → List SessionRung → SessionTable → List SessionRung → Type 0
FitsLater known rs t more = Fits (sessions_after known more) t.sessions t.uses (rs ++ more)

-- what follows a segment tells of what follows it
abbrev Later : List SessionRung → (SessionTable → SessionTable) → Type 0
Later others after = (k : List SessionEnds) (xs : List SessionRung) (u : SessionTable) → Fits k u.sessions u.uses xs → FitsLater k xs (after u) others

-- a segment more
one_fits : (r : SessionRung) (seen : SeenSegment) (known : List SessionEnds) (rs : List SessionRung) (t : SessionTable) (others : List SessionRung) (after : SessionTable → SessionTable)
    → seen ≡ seen_of r → Later others after → Fits known t.sessions t.uses rs → FitsLater known rs (after (and_counted (Ok seen) t)) (r ∷ others)
one_fits r seen known rs t others after is later fits =
    let more = later (and_session known r) (rs ++ r ∷ []) (and_counted (Ok (seen_of r)) t) (fits_more known t rs fits r) in
    subst (λ (x : SeenSegment). FitsLater known rs (after (and_counted (Ok x) t)) (r ∷ others)) (sym is) (rw (append_assoc rs (r ∷ []) others) at more)

cut_fits : (s : Stored) (time : ℕ) (cut : Option Segment) (fault : DatagramFault) (known : List SessionEnds) (rs : List SessionRung) (t : SessionTable) (others : List SessionRung) (after : SessionTable → SessionTable)
    → s.time ≡ time / 1000000000 → Later others after → Fits known t.sessions t.uses rs
    → FitsLater known rs (after (and_counted (seen_cut s cut fault) t)) (rung_cut s.number time cut others)
cut_fits s time None fault known rs t others after at later fits = later known rs _ fits
cut_fits s time (Some d) fault known rs t others after at later fits =
    let r = session_rung s.number time d CutOff None in
    let is : seen_segment s d CutOff None ≡ seen_of r = rw at refl in
    one_fits r (seen_segment s d CutOff None) known rs t others after is later fits

said_fits : (s : Stored) (time : ℕ) (d : Segment) (l : Listened) (said : Result SegmentOutcome DatagramFault) (known : List SessionEnds) (rs : List SessionRung) (t : SessionTable) (others : List SessionRung) (after : SessionTable → SessionTable)
    → reading s.bytes ≡ Read d → s.time ≡ time / 1000000000 → Later others after → Fits known t.sessions t.uses rs
    → FitsLater known rs (after (and_counted (seen_as s l (Read d) said) t)) (rung_said (rung_heard s.number time d l) said others)
said_fits s time d l (Err why) known rs t others after read at later fits =
    subst (λ (cut : Option Segment). FitsLater known rs (after (and_counted (seen_cut s cut why) t)) others) (sym (read_uncut s.bytes d read)) (later known rs _ fits)
said_fits s time d l (Ok said) known rs t others after read at later fits =
    let r = rung_heard s.number time d l said in
    let seen = seen_segment s d said (option_map (seen_pass d l.listening.held) l.pass) in
    let is : seen ≡ seen_of r = rw at refl in
    one_fits r seen known rs t others after is later fits

read_fits : (j : Judging) (m : Listening) (s : Stored) (time : ℕ) (r : Reading) (known : List SessionEnds) (rs : List SessionRung) (t : SessionTable) (others : List SessionRung) (after : SessionTable → SessionTable)
    → reading s.bytes ≡ r → s.time ≡ time / 1000000000 → Later others after → Fits known t.sessions t.uses rs
    → FitsLater known rs (after (and_counted (seen_by s r (listen j m s.time r)) t)) (rung_before (seen_at s.number time) (cut_segment s.bytes) (listen j m s.time r) r others)
unfolding listen
read_fits j m s time (Bad fault) known rs t others after read at later fits = cut_fits s time (cut_segment s.bytes) fault known rs t others after at later fits
read_fits j m s time (Read d) known rs t others after read at later fits =
    said_fits s time d (listen_to j m s.time d) (listen_to j m s.time d).outcome known rs t others after read at later fits

module _ (j : Judging) where
  stored_fits : (time : Option ℕ) (number : ℕ) (found : Result Datagram Skipped) (ps : List CapturePacket)
      → ((l : Listening) (k : List SessionEnds) (xs : List SessionRung) (u : SessionTable) → Fits k u.sessions u.uses xs → FitsLater k xs (sessions_from j l u ps) (session_rungs_from j l ps))
      → (l : Listening) (known : List SessionEnds) (rs : List SessionRung) (t : SessionTable) → Fits known t.sessions t.uses rs
      → FitsLater known rs (counted_by j l t (stored_by number time found) (λ k now. sessions_from j k now ps)) (drawn_by j l time (stored_by number time found) (λ k. session_rungs_from j k ps))
  stored_fits time number (Err why) ps later l known rs t fits = later l known rs _ fits
  stored_fits None number (Ok d) ps later l known rs t fits = later l known rs _ fits
  stored_fits (Some s) number (Ok d) ps later l known rs t fits =
      let h = listen j l (s / 1000000000) (reading (mended (judged_bytes d))) in
      let stored : Stored = record { number = number; time = s / 1000000000; bytes = mended (judged_bytes d) } in
      read_fits j l stored s (reading (mended (judged_bytes d))) known rs t (session_rungs_from j h.listening ps) (λ now. sessions_from j h.listening now ps) refl refl (λ k xs u. later h.listening k xs u) fits

  from_fits : (ps : List CapturePacket) (l : Listening) (known : List SessionEnds) (rs : List SessionRung) (t : SessionTable) → Fits known t.sessions t.uses rs
      → FitsLater known rs (sessions_from j l t ps) (session_rungs_from j l ps)
  from_fits [] l known rs t fits = rw (append-nil rs) fits
  from_fits (p ∷ ps) l known rs t fits = stored_fits p.frame.time p.number (frame_datagram p.frame) ps (λ k xs u now. from_fits ps k xs u now) l known rs (and_unset (captured_of_packet p) t) fits

none_at : (n : ℕ) → session_at n [] ≡ None
none_at zero = refl
none_at (suc n) = refl

no_fits : Fits [] 0 [] []
no_fits = record {
  many = refl;
  numbers = λ e. refl;
  ends = none_at;
  agree = tt;
  apart = tt;
  placed = tt;
  counts = λ n. refl;
}

module _ (j : Judging) (given : List GivenIsns) (packets : List CapturePacket) where
  all_fits : Fits (sessions_drawn (rungs_in j given packets)) (sessions_of j given packets).sessions (sessions_of j given packets).uses (rungs_in j given packets)
  unfolding rungs_in sessions_of
  all_fits = from_fits j packets (listening_behind given) [] [] no_sessions no_fits

  pub all_sessions : length (sessions_drawn (rungs_in j given packets)) ≡ (sessions_of j given packets).sessions
  all_sessions = all_fits.many

  pub all_ends : (n : ℕ) → session_at n (sessions_drawn (rungs_in j given packets)) ≡ option_map ends_of_use (find (is_of_session n) (sessions_of j given packets).uses)
  all_ends n = all_fits.ends n ∙ sym (ends_found n (sessions_of j given packets).uses)

  pub all_counted : (n : ℕ) → length (rungs_of_session n (rungs_in j given packets)) ≡ counted_in n (sessions_of j given packets).uses
  all_counted n = as_numbered n (sessions_drawn (rungs_in j given packets)) (rungs_in j given packets) all_fits.apart ∙ all_fits.counts n
