-- What is told as verified, or as unconfirmed, passes the check.
use Rattle.std.proofs.Common.{◌≡◌, ◌≤◌, ◌<◌, ℕ, zero, suc, ◌+◌, ◌-◌, ◌*◌, nat_le, Bool, true, false, List, Option, Some, None, Ok, Err, if◌then◌else◌, refl, sym, ap, ◌∙◌, subst, arith}
use Rattle.std.proofs.lemmas.Bool.{le-leb}
use Rattle.std.specs.Option.{option_or, unwrap_or}
use Rattle.book_segments.specs.Bytes.{ring}
use Rattle.book_segments.specs.Segments.{Segment, Read}
use Rattle.book_endpoint.specs.States.{number_limit}
use Rattle.book_endpoint.specs.declared.refusal.Refusal.TheVariants.{NoAo, TwoAo, WithMd5, NoTuple, Expired, MacLength, NoContext, Range, BadMac}
use Rattle.book_cmd_check.specs.Captures.{Connection, Heard, Saying, Unreadable, UnknownNode, Judged, TooManyConnections, connection_between, is_pass}
use Rattle.book_sessions.specs.declared.outcome.SegmentOutcome.TheVariants as outcome
use Rattle.book_sessions.specs.Glimpses.{Opening, glimpsed, is_unknown, openings_after}
use Rattle.book_sessions.specs.Laps.{Judging, with_expected, if_pass, heard_ahead, first_from, heard_further, is_searched, heard_by, hear_over}
use Rattle.book_sessions.specs.Listening.{Listening, Listened, outcome_of, unconfirmed_of, heard_once, heard_twice, listen, said_of}
use Rattle.book_sessions.specs.Passing.{PassesBehind, AtOnce, Later, FoundAhead, PassesGuessed}

-- ---- which words are told of which sayings

verified_passes : (w : Saying) → outcome_of w ≡ Ok outcome.Verified → is_pass w ≡ true
verified_passes (Unreadable fault) e = absurd (cc)
verified_passes UnknownNode e = absurd (cc)
verified_passes (Judged (Ok p) checksum) e = refl
verified_passes (Judged (Err why) checksum) e = absurd (cc)
verified_passes (TooManyConnections checksum) e = absurd (cc)

unconfirmed_never_verified : (w : Saying) → unconfirmed_of w ≡ Ok outcome.Verified → true ≡ false
unconfirmed_never_verified (Unreadable fault) e = absurd (cc)
unconfirmed_never_verified UnknownNode e = absurd (cc)
unconfirmed_never_verified (TooManyConnections checksum) e = absurd (cc)
unconfirmed_never_verified (Judged (Ok p) checksum) e = absurd (cc)
unconfirmed_never_verified (Judged (Err NoAo) checksum) e = absurd (cc)
unconfirmed_never_verified (Judged (Err TwoAo) checksum) e = absurd (cc)
unconfirmed_never_verified (Judged (Err WithMd5) checksum) e = absurd (cc)
unconfirmed_never_verified (Judged (Err NoTuple) checksum) e = absurd (cc)
unconfirmed_never_verified (Judged (Err Expired) checksum) e = absurd (cc)
unconfirmed_never_verified (Judged (Err MacLength) checksum) e = absurd (cc)
unconfirmed_never_verified (Judged (Err NoContext) checksum) e = absurd (cc)
unconfirmed_never_verified (Judged (Err Range) checksum) e = absurd (cc)
unconfirmed_never_verified (Judged (Err BadMac) checksum) e = absurd (cc)

unconfirmed_passes : (w : Saying) → unconfirmed_of w ≡ Ok outcome.Unconfirmed → is_pass w ≡ true
unconfirmed_passes (Unreadable fault) e = absurd (cc)
unconfirmed_passes UnknownNode e = absurd (cc)
unconfirmed_passes (TooManyConnections checksum) e = absurd (cc)
unconfirmed_passes (Judged (Ok p) checksum) e = refl
unconfirmed_passes (Judged (Err NoAo) checksum) e = absurd (cc)
unconfirmed_passes (Judged (Err TwoAo) checksum) e = absurd (cc)
unconfirmed_passes (Judged (Err WithMd5) checksum) e = absurd (cc)
unconfirmed_passes (Judged (Err NoTuple) checksum) e = absurd (cc)
unconfirmed_passes (Judged (Err Expired) checksum) e = absurd (cc)
unconfirmed_passes (Judged (Err MacLength) checksum) e = absurd (cc)
unconfirmed_passes (Judged (Err NoContext) checksum) e = absurd (cc)
unconfirmed_passes (Judged (Err Range) checksum) e = absurd (cc)
unconfirmed_passes (Judged (Err BadMac) checksum) e = absurd (cc)

once_confirmed : (w : Saying) → outcome_of w ≡ Ok outcome.Unconfirmed → true ≡ false
once_confirmed (Unreadable fault) e = absurd (cc)
once_confirmed UnknownNode e = absurd (cc)
once_confirmed (Judged (Ok p) checksum) e = absurd (cc)
once_confirmed (Judged (Err why) checksum) e = absurd (cc)
once_confirmed (TooManyConnections checksum) e = absurd (cc)

-- ---- what is heard over laps passes with so many of them

pass_found : (b : Bool) (h k : Heard) → (if b then Some h else None) ≡ Some k → b ≡ true
pass_found true h k e = refl
pass_found false h k e = absurd (cc)

ahead_found : (b : Bool) (h k : Heard) → (if b then if_pass h else None) ≡ Some k → is_pass h.saying ≡ true
ahead_found true h k e = pass_found (is_pass h.saying) h k e
ahead_found false h k e = absurd (cc)

module _ (j : Judging) (held : List Connection) (now : ℕ) (d : Segment) (c : Connection) (between : connection_between d held ≡ Some c) where
  abbrev ahead : ℕ → Option Heard
  ahead n = heard_ahead (heard_by j now d) held c n

  passes_by : (n : ℕ) (k : Heard) → n ≤ j.laps → ahead n ≡ Some k → PassesBehind j held now d
  passes_by n k few e = Later n (record {
    connection = c;
    between = between;
    few = few;
    passes = ahead_found (nat_le (c.one.expected + n * ring) number_limit) (heard_by j now d (with_expected (c.one.expected + n * ring) c held)) k e;
  })

  first_passes : (found : Option Heard) (others : Option Heard) (k : Heard) → option_or found others ≡ Some k → ((h : Heard) → found ≡ Some h → PassesBehind j held now d) → (others ≡ Some k → PassesBehind j held now d) → PassesBehind j held now d
  first_passes None others k e here there = there e
  first_passes (Some h) others k e here there = here h refl

  from_passes : (more n : ℕ) (k : Heard) → n + more ≤ suc j.laps → first_from ahead more n ≡ Some k → PassesBehind j held now d
  from_passes zero n k few e = absurd (cc)
  from_passes (suc more) n k few e =
      first_passes (ahead n) (first_from ahead more (suc n)) k e
      (λ h found. passes_by n h (omega arith) found)
      (λ later. from_passes more (suc n) k (omega arith) later)

further_passes : (j : Judging) (held : List Connection) (now : ℕ) (d : Segment) (c : Option Connection) → connection_between d held ≡ c → (k : Heard) → heard_further (heard_by j now d) j.laps held c ≡ Some k → PassesBehind j held now d
further_passes j held now d None between k e = absurd (cc)
further_passes j held now d (Some c) between k e = from_passes j held now d c between j.laps 1 k (omega arith) e

over_passes : (j : Judging) (held : List Connection) (now : ℕ) (d : Segment) (b : Bool) (found : Option Heard) → ((k : Heard) → found ≡ Some k → PassesBehind j held now d) →
    is_pass (if b then unwrap_or found (heard_by j now d held) else heard_by j now d held).saying ≡ true → PassesBehind j held now d
over_passes j held now d false found further e = AtOnce e
over_passes j held now d true None further e = AtOnce e
over_passes j held now d true (Some k) further e = further k refl

passes : (j : Judging) (held : List Connection) (now : ℕ) (d : Segment) → is_pass (hear_over j held now d).saying ≡ true → PassesBehind j held now d
unfolding hear_over
passes j held now d e =
    let c = connection_between d held in
    over_passes j held now d (is_searched d (heard_by j now d held).saying) (heard_further (heard_by j now d) j.laps held c)
    (λ k found. further_passes j held now d c refl k found) e

-- ---- what passes with more laps is found

-- there is something, and it is a pass
abbrev Finds : Option Heard → Type 0
Finds found = (k : Heard) × ((found ≡ Some k) × (is_pass k.saying ≡ true))

plus_zero : (n : ℕ) → n ≡ n + 0
plus_zero n = omega arith

plus_suc : (n m : ℕ) → suc n + m ≡ n + suc m
plus_suc n m = omega arith

one_and_rest : (n : ℕ) → 1 ≤ n → 1 + (n - 1) ≡ n
one_and_rest n e = omega arith

module _ (heard : ℕ → Option Heard) (sound : (n : ℕ) (k : Heard) → heard n ≡ Some k → is_pass k.saying ≡ true) where
  here_or_later : (n : ℕ) (found others : Option Heard) → heard n ≡ found → Finds others → Finds (option_or found others)
  here_or_later n None others is later = later
  here_or_later n (Some k) others is later = (k, (refl, sound n k is))

  first_found : (others more n : ℕ) (k : Heard) → others < more → heard (n + others) ≡ Some k → Finds (first_from heard more n)
  first_found others zero n k few e = absurd (omega arith)
  first_found zero (suc more) n k few e =
      let is = ap heard (plus_zero n) ∙ e in
      subst (λ (o : Option Heard). Finds (option_or o (first_from heard more (suc n)))) (sym is) (k, (refl, sound n k is))
  first_found (suc others) (suc more) n k few e =
      here_or_later n (heard n) (first_from heard more (suc n)) refl (first_found others more (suc n) k (omega arith) (ap heard (plus_suc n others) ∙ e))

some_pass : (b : Bool) (h k : Heard) → is_pass h.saying ≡ b → (if b then Some h else None) ≡ Some k → is_pass k.saying ≡ true
some_pass true h k is e = sym (ap (λ (o : Option Heard). is_pass (unwrap_or o h).saying) e) ∙ is
some_pass false h k is e = absurd (cc)

pub ahead_passes : (b : Bool) (h k : Heard) → (if b then if_pass h else None) ≡ Some k → is_pass k.saying ≡ true
ahead_passes true h k e = some_pass (is_pass h.saying) h k refl e
ahead_passes false h k e = absurd (cc)

kept : (b p : Bool) (h : Heard) → b ≡ true → p ≡ true → (if b then (if p then Some h else None) else None) ≡ Some h
kept true true h e f = refl
kept true false h e f = absurd (cc)
kept false p h e f = absurd (cc)

further_found : (j : Judging) (held : List Connection) (now : ℕ) (d : Segment) (c : Connection) (laps : ℕ) → laps ≤ j.laps → 1 ≤ laps → c.one.expected + laps * ring ≤ number_limit →
    is_pass (heard_by j now d (with_expected (c.one.expected + laps * ring) c held)).saying ≡ true → Finds (heard_further (heard_by j now d) j.laps held (Some c))
further_found j held now d c laps few more in_range passing =
    let heard = heard_ahead (heard_by j now d) held c in
    let h = heard_by j now d (with_expected (c.one.expected + laps * ring) c held) in
    first_found heard
    (λ n k e. ahead_passes (nat_le (c.one.expected + n * ring) number_limit) (heard_by j now d (with_expected (c.one.expected + n * ring) c held)) k e)
    (laps - 1) j.laps 1 h (omega arith)
    (ap heard (one_and_rest laps more) ∙ kept (nat_le (c.one.expected + laps * ring) number_limit) (is_pass h.saying) h (le-leb _ _ in_range) passing)

over_found : (b : Bool) (found : Option Heard) (h : Heard) → b ≡ true → Finds found → is_pass (if b then unwrap_or found h else h).saying ≡ true
over_found true found h e finds = ap (λ (o : Option Heard). is_pass (unwrap_or o h).saying) finds.1.0 ∙ finds.1.1
over_found false found h e finds = absurd (cc)

pub searched_is_found : (j : Judging) (held : List Connection) (now : ℕ) (d : Segment) (laps : ℕ) → FoundAhead j held now d laps → is_pass (hear_over j held now d).saying ≡ true
unfolding hear_over
searched_is_found j held now d laps f =
    let heard = heard_by j now d in
    let found = further_found j held now d f.ahead.connection laps f.ahead.few f.more f.in_range f.ahead.passes in
    over_found (is_searched d (heard held).saying) (heard_further heard j.laps held (connection_between d held)) (heard held) f.searched
    (subst (λ (c : Option Connection). Finds (heard_further heard j.laps held c)) (sym f.ahead.between) found)

-- ---- what is told

abbrev listened : Bool → (h k : Heard) → List Connection → List Opening → Listened
listened b h k guessed openings = if b then heard_twice h k openings else heard_once h guessed openings

told_verified : (b : Bool) (h k : Heard) (guessed : List Connection) (openings : List Opening) → (listened b h k guessed openings).outcome ≡ Ok outcome.Verified → is_pass h.saying ≡ true
told_verified true h k guessed openings e = let never = unconfirmed_never_verified k.saying e in absurd (cc)
told_verified false h k guessed openings e = verified_passes h.saying e

told_unconfirmed : (b : Bool) (h k : Heard) (guessed : List Connection) (openings : List Opening) → (listened b h k guessed openings).outcome ≡ Ok outcome.Unconfirmed → (b ≡ true) × (is_pass k.saying ≡ true)
told_unconfirmed true h k guessed openings e = (refl, unconfirmed_passes k.saying e)
told_unconfirmed false h k guessed openings e = let never = once_confirmed h.saying e in absurd (cc)

pub verified_is_right : (j : Judging) (l : Listening) (now : ℕ) (d : Segment) → (listen j l now (Read d)).outcome ≡ Ok outcome.Verified → PassesBehind j l.held now d
unfolding listen
verified_is_right j l now d e =
    let h = hear_over j l.held now d in
    let guessed = glimpsed d (said_of j l now d) l.openings l.guessed in
    passes j l.held now d (told_verified (is_unknown (said_of j l now d)) h (hear_over j guessed now d) guessed (openings_after d h.saying l.openings) e)

pub unconfirmed_is_right : (j : Judging) (l : Listening) (now : ℕ) (d : Segment) → (listen j l now (Read d)).outcome ≡ Ok outcome.Unconfirmed → PassesGuessed j l now d
unfolding listen
unconfirmed_is_right j l now d e =
    let h = hear_over j l.held now d in
    let guessed = glimpsed d (said_of j l now d) l.openings l.guessed in
    let both = told_unconfirmed (is_unknown (said_of j l now d)) h (hear_over j guessed now d) guessed (openings_after d h.saying l.openings) e in
    record { unknown = both.0; passes = passes j guessed now d both.1 }
