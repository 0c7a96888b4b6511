-- What is heard over laps.
use Rattle.std.proofs.Common.{◌≡◌, ◌+◌, ◌*◌, ℕ, zero, suc, length, Bool, true, false, not, List, Option, Some, None, refl, sym, ap, ◌∙◌, subst, Ok, Err}
use Rattle.std.specs.Prelude.{◌&&◌, nat_le, option_map, if◌then◌else◌}
use Rattle.std.specs.List.{find}
use Rattle.std.specs.Option.{option_or, unwrap_or}
use Rattle.book_base.specs.declared.address.Pair.{Pair}
use Rattle.book_segments.specs.Bytes.{ring}
use Rattle.book_segments.specs.Segments.{Segment, has, SYN, ACK, pair_reached}
use Rattle.book_segments.specs.Sockets.{same_socket}
use Rattle.book_segments.proofs.Fields.{some_is}
use Rattle.book_keys.specs.Rows.{Table, has_address}
use Rattle.book_endpoint.specs.States.{number_limit}
use Rattle.book_endpoint.specs.Verdicts.{Judgement}
use Rattle.book_endpoint.specs.declared.refusal.Refusal.TheVariants.{NoAo, TwoAo, WithMd5, NoTuple, Expired, MacLength, NoContext, Range, BadMac}
use Rattle.book_cmd_check.specs.declared.checksum.Checksum.TheVariants.{Good}
use Rattle.book_cmd_check.specs.DatagramTexts.{checksum_in}
use Rattle.book_cmd_check.specs.Captures.{Connection, Heard, Saying, Unreadable, UnknownNode, Judged, TooManyConnections, connection_between, fixed, hear_at, hear_judged, hear_later, hear_syn_ack, is_pass, judge_stored, most_connections, with_connection}
use Rattle.book_sessions.specs.Glimpses.{is_refused}
use Rattle.book_sessions.specs.Laps.{Judging, first_from, hear_over, heard_ahead, heard_by, heard_further, is_searched, with_expected}
use Rattle.capture_check.specs.declared.answer.CheckLine.{CheckLine}
use Rattle.capture_check.specs.declared.answer.CheckLine.TheVariants as line
use Rattle.capture_check.specs.declared.flows.Flows.{Flows}
use Rattle.capture_check.specs.declared.known.KnownConnection.{KnownConnection}
use Rattle.capture_check.specs.Answers.{Says}
use Rattle.capture_check.specs.Checkers.{Hears, StandsFor}
use Rattle.capture_check.specs.Expecting.{known_numbers, numbers_of}
use Rattle.capture_listener.specs.Lines.{is_readable, says_refused, says_searched}
use Rattle.capture_listener.specs.Searches.{Finds}
use Rattle.capture_listener.proofs.LineLaws.{refused_told, searched_told}

-- ---- what is heard of a datagram

-- it is readable, and where it is refused, or a SYN without ACK, the connections stay
pub record Fair (held : List Connection) (d : Segment) (h : Heard) : Type 0 where
  pub readable : is_readable h.saying ≡ true
  pub refused : is_refused h.saying ≡ true → h.connections ≡ held
  pub opening : has SYN d ≡ true → has ACK d ≡ false → h.connections ≡ held

fair_later : (held : List Connection) (d : Segment) (n : ℕ) (p : Judgement) (known : Option Connection) → has SYN d ≡ false → is_refused (Judged p Good) ≡ false → Fair held d (hear_later held d n p known)
fair_later held d n (Ok p) None syn r = record { readable = refl; refused = λ e. refl; opening = λ e f. refl }
fair_later held d n (Ok p) (Some c) syn r = record { readable = refl; refused = λ e. absurd (cc); opening = λ e f. absurd (cc) }
fair_later held d n (Err why) known syn r = absurd (cc)

fair_syn_ack : (held : List Connection) (d : Segment) (p : Judgement) (known : Option Connection) → has ACK d ≡ true → is_refused (Judged p Good) ≡ false → Fair held d (hear_syn_ack held d p known)
fair_syn_ack held d (Ok p) (Some c) ack r = record { readable = refl; refused = λ e. absurd (cc); opening = λ e f. absurd (cc) }
fair_syn_ack held d (Ok p) None ack r = at (nat_le most_connections (length held))
  where
    at : (b : Bool) → Fair held d (if b then record { connections = held; saying = TooManyConnections (checksum_in d) } else record { connections = with_connection (fixed d) held; saying = Judged (Ok p) (checksum_in d) })
    at true = record { readable = refl; refused = λ e. refl; opening = λ e f. refl }
    at false = record { readable = refl; refused = λ e. absurd (cc); opening = λ e f. absurd (cc) }
fair_syn_ack held d (Err why) known ack r = absurd (cc)

fair_judged : (held : List Connection) (d : Segment) (known : Option Connection) (p : Judgement) → Fair held d (hear_judged held d known p)
fair_judged held d known (Err why) = record { readable = refl; refused = λ e. refl; opening = λ e f. refl }
fair_judged held d known (Ok p) = at (has SYN d) (has ACK d) refl refl
  where
    at : (u v : Bool) → has SYN d ≡ u → has ACK d ≡ v
        → Fair held d (if not u then hear_later held d p.number (Ok p) known else if v then hear_syn_ack held d (Ok p) known else record { connections = held; saying = Judged (Ok p) (checksum_in d) })
    at false v syn ack = fair_later held d p.number (Ok p) known syn refl
    at true true syn ack = fair_syn_ack held d (Ok p) known ack refl
    at true false syn ack = record { readable = refl; refused = λ e. refl; opening = λ e f. refl }

pub fair_read : (j : Judging) (held : List Connection) (now : ℕ) (d : Segment) → Fair held d (heard_by j now d held)
fair_read j held now d = at (find (has_address d.destination.address) j.tables)
  where
    differ : (t : Table) (b : Bool)
        → Fair held d (if b then record { connections = held; saying = UnknownNode } else hear_judged held d (connection_between d held) (judge_stored t.rows (pair_reached d) now d (connection_between d held)))
    differ t true = record { readable = refl; refused = λ e. refl; opening = λ e f. refl }
    differ t false = fair_judged held d (connection_between d held) (judge_stored t.rows (pair_reached d) now d (connection_between d held))

    at : (o : Option Table) → Fair held d (hear_at o held now d)
    at None = record { readable = refl; refused = λ e. refl; opening = λ e f. refl }
    at (Some t) = differ t (same_socket d.source d.destination)

-- ---- what is searched

-- a SYN isn't searched
not_syn : (d : Segment) (s : Saying) → is_searched d s ≡ true → has SYN d ≡ true → ⊥
not_syn d (Unreadable fault) e f = absurd (cc)
not_syn d UnknownNode e f = absurd (cc)
not_syn d (TooManyConnections checksum) e f = absurd (cc)
not_syn d (Judged (Ok p) checksum) e f = absurd (cc)
not_syn d (Judged (Err NoAo) checksum) e f = absurd (cc)
not_syn d (Judged (Err TwoAo) checksum) e f = absurd (cc)
not_syn d (Judged (Err WithMd5) checksum) e f = absurd (cc)
not_syn d (Judged (Err NoTuple) checksum) e f = absurd (cc)
not_syn d (Judged (Err Expired) checksum) e f = absurd (cc)
not_syn d (Judged (Err MacLength) checksum) e f = absurd (cc)
not_syn d (Judged (Err NoContext) checksum) e f = absurd (cc)
not_syn d (Judged (Err Range) checksum) e f = absurd (cc)
not_syn d (Judged (Err BadMac) checksum) e f = absurd (cc)

-- what a search finds is a pass
ahead_passes : (hear : List Connection → Heard) (held : List Connection) (c : Connection) (n : ℕ) (k : Heard) → heard_ahead hear held c n ≡ Some k → is_pass k.saying ≡ true
ahead_passes hear held c n k e = at (nat_le (c.one.expected + n * ring) number_limit) (is_pass (hear (with_expected (c.one.expected + n * ring) c held)).saying) refl e
  where
    at : (u v : Bool) → is_pass (hear (with_expected (c.one.expected + n * ring) c held)).saying ≡ v
        → (if u then (if v then Some (hear (with_expected (c.one.expected + n * ring) c held)) else None) else None) ≡ Some k → is_pass k.saying ≡ true
    at true true f e = ap (λ (h : Heard). is_pass h.saying) (sym (some_is _ k e)) ∙ f
    at true false f e = absurd (cc)
    at false v f e = absurd (cc)

first_passes : (hear : List Connection → Heard) (held : List Connection) (c : Connection) (many n : ℕ) (k : Heard) → first_from (heard_ahead hear held c) many n ≡ Some k → is_pass k.saying ≡ true
first_passes hear held c zero n k e = absurd (cc)
first_passes hear held c (suc many) n k e = at (heard_ahead hear held c n) refl (first_passes hear held c many (suc n) k) e
  where
    at : (o : Option Heard) → heard_ahead hear held c n ≡ o → (first_from (heard_ahead hear held c) many (suc n) ≡ Some k → is_pass k.saying ≡ true)
        → option_or o (first_from (heard_ahead hear held c) many (suc n)) ≡ Some k → is_pass k.saying ≡ true
    at None f i e = i e
    at (Some x) f i e = ahead_passes hear held c n k (f ∙ e)

further_passes : (hear : List Connection → Heard) (held : List Connection) (laps : ℕ) (o : Option Connection) (k : Heard) → heard_further hear laps held o ≡ Some k → is_pass k.saying ≡ true
further_passes hear held laps None k e = absurd (cc)
further_passes hear held laps (Some c) k e = first_passes hear held c laps 1 k e

pass_readable : (s : Saying) → is_pass s ≡ true → is_readable s ≡ true
pass_readable (Unreadable fault) e = absurd (cc)
pass_readable UnknownNode e = refl
pass_readable (TooManyConnections checksum) e = refl
pass_readable (Judged p checksum) e = refl

pass_refused : (s : Saying) → is_pass s ≡ true → is_refused s ≡ true → ⊥
pass_refused (Unreadable fault) e f = absurd (cc)
pass_refused UnknownNode e f = absurd (cc)
pass_refused (TooManyConnections checksum) e f = absurd (cc)
pass_refused (Judged (Ok p) checksum) e f = absurd (cc)
pass_refused (Judged (Err why) checksum) e f = absurd (cc)

pub fair_over : (j : Judging) (held : List Connection) (now : ℕ) (d : Segment) → Fair held d (hear_over j held now d)
unfolding hear_over
fair_over j held now d = at (is_searched d (heard_by j now d held).saying) refl
  where
    further : is_searched d (heard_by j now d held).saying ≡ true → (o : Option Heard) → heard_further (heard_by j now d) j.laps held (connection_between d held) ≡ o
        → Fair held d (unwrap_or o (heard_by j now d held))
    further e None f = fair_read j held now d
    further e (Some k) f =
        let p = further_passes (heard_by j now d) held j.laps (connection_between d held) k f in
        record {
          readable = pass_readable k.saying p;
          refused = λ r. absurd (pass_refused k.saying p r);
          opening = λ syn ack. absurd (not_syn d (heard_by j now d held).saying e syn);
        }

    at : (b : Bool) → is_searched d (heard_by j now d held).saying ≡ b
        → Fair held d (if b then unwrap_or (heard_further (heard_by j now d) j.laps held (connection_between d held)) (heard_by j now d held) else heard_by j now d held)
    at true e = further e (heard_further (heard_by j now d) j.laps held (connection_between d held)) refl
    at false e = fair_read j held now d

-- ---- what is heard over laps, by cases

pub over_plain : (j : Judging) (held : List Connection) (now : ℕ) (d : Segment) → is_searched d (heard_by j now d held).saying ≡ false → heard_by j now d held ≡ hear_over j held now d
unfolding hear_over
over_plain j held now d e = rw e refl

pub over_unknown : (j : Judging) (held : List Connection) (now : ℕ) (d : Segment) → connection_between d held ≡ None → heard_by j now d held ≡ hear_over j held now d
unfolding hear_over
over_unknown j held now d e = at (is_searched d (heard_by j now d held).saying) (connection_between d held) e
  where
    at : (b : Bool) (o : Option Connection) → o ≡ None → heard_by j now d held ≡ (if b then unwrap_or (heard_further (heard_by j now d) j.laps held o) (heard_by j now d held) else heard_by j now d held)
    at true None e = refl
    at true (Some c) e = absurd (cc)
    at false o e = refl

pub over_none : (j : Judging) (held : List Connection) (now : ℕ) (d : Segment) (c : Connection) → connection_between d held ≡ Some c
    → first_from (heard_ahead (heard_by j now d) held c) j.laps 1 ≡ None → heard_by j now d held ≡ hear_over j held now d
unfolding hear_over
over_none j held now d c e none = at (is_searched d (heard_by j now d held).saying)
  where
    nothing : heard_further (heard_by j now d) j.laps held (connection_between d held) ≡ None
    nothing = ap (heard_further (heard_by j now d) j.laps held) e ∙ none

    at : (b : Bool) → heard_by j now d held ≡ (if b then unwrap_or (heard_further (heard_by j now d) j.laps held (connection_between d held)) (heard_by j now d held) else heard_by j now d held)
    at true = sym (ap (λ (o : Option Heard). unwrap_or o (heard_by j now d held)) nothing)
    at false = refl

pub over_found : (j : Judging) (held : List Connection) (now : ℕ) (d : Segment) (c : Connection) (k : Heard) → is_searched d (heard_by j now d held).saying ≡ true → connection_between d held ≡ Some c
    → first_from (heard_ahead (heard_by j now d) held c) j.laps 1 ≡ Some k → k ≡ hear_over j held now d
unfolding hear_over
over_found j held now d c k s e found =
    let some : heard_further (heard_by j now d) j.laps held (connection_between d held) ≡ Some k = ap (heard_further (heard_by j now d) j.laps held) e ∙ found in
    let is : unwrap_or (heard_further (heard_by j now d) j.laps held (connection_between d held)) (heard_by j now d held) ≡ k = ap (λ (o : Option Heard). unwrap_or o (heard_by j now d held)) some in
    sym is ∙ sym (ap (λ (b : Bool). if b then unwrap_or (heard_further (heard_by j now d) j.laps held (connection_between d held)) (heard_by j now d held) else heard_by j now d held) s)

-- ---- what a line says of it

pub searched_by : (l : CheckLine) (s : Saying) (d : Segment) (u v : Bool) → Says l s → says_searched l ≡ u → has SYN d ≡ v → is_searched d s ≡ (u && not v)
searched_by l s d u v says e f = sym (searched_told l s d says) ∙ (ap (λ (b : Bool). b && not (has SYN d)) e ∙ ap (λ (b : Bool). u && not b) f)

searched_refused : (l : CheckLine) → says_searched l ≡ true → says_refused l ≡ true
searched_refused (line.Bad fault) e = absurd (cc)
searched_refused line.UnknownNode e = absurd (cc)
searched_refused (line.Full checksum) e = absurd (cc)
searched_refused (line.Verdict (Ok p) checksum) e = absurd (cc)
searched_refused (line.Verdict (Err why) checksum) e = refl

-- a segment is heard, and isn't searched
pub heard_plain : (j : Judging) (held : List Connection) (now : ℕ) (d : Segment) (after : List (Pair × Flows)) (l : CheckLine) (u v : Bool) → Hears after l (heard_by j now d held)
    → says_searched l ≡ u → has SYN d ≡ v → (u && not v) ≡ false → Hears after l (hear_over j held now d)
heard_plain j held now d after l u v H e f no_search =
    subst (λ (h : Heard). Hears after l h) (over_plain j held now d (searched_by l (heard_by j now d held).saying d u v H.says e f ∙ no_search)) H

-- a segment that is searched is refused, and the connections stay
pub searched_stays : (j : Judging) (held : List Connection) (now : ℕ) (d : Segment) (after : List (Pair × Flows)) (l : CheckLine) → Hears after l (heard_by j now d held) → says_searched l ≡ true
    → (heard_by j now d held).connections ≡ held
searched_stays j held now d after l H e = (fair_read j held now d).refused (sym (refused_told l (heard_by j now d held).saying H.says) ∙ searched_refused l e)

pub searched_stands : (j : Judging) (held : List Connection) (now : ℕ) (d : Segment) (after : List (Pair × Flows)) (l : CheckLine) → Hears after l (heard_by j now d held) → says_searched l ≡ true
    → StandsFor after held
searched_stands j held now d after l H e = subst (λ (cs : List Connection). StandsFor after cs) (searched_stays j held now d after l H e) H.stands

-- between a socket and itself nothing is searched
one_unsearched : (j : Judging) (held : List Connection) (now : ℕ) (d : Segment) → same_socket d.source d.destination ≡ true → is_searched d (heard_by j now d held).saying ≡ false
one_unsearched j held now d same = at (find (has_address d.destination.address) j.tables)
  where
    at : (o : Option Table) → is_searched d (hear_at o held now d).saying ≡ false
    at None = refl
    at (Some t) = rw same refl

none_told : (o : Option Connection) → option_map numbers_of o ≡ None → o ≡ None
none_told None e = refl
none_told (Some c) e = absurd (cc)

-- no connection is known between its sockets
pub heard_unknown : (j : Judging) (held : List Connection) (now : ℕ) (d : Segment) (after : List (Pair × Flows)) (l : CheckLine) → Hears after l (heard_by j now d held)
    → (same_socket d.source d.destination ≡ false → None ≡ known_numbers d.source d.destination held) → Hears after l (hear_over j held now d)
heard_unknown j held now d after l H none = subst (λ (h : Heard). Hears after l h) (at (same_socket d.source d.destination) refl) H
  where
    at : (b : Bool) → same_socket d.source d.destination ≡ b → heard_by j now d held ≡ hear_over j held now d
    at true e = over_plain j held now d (one_unsearched j held now d e)
    at false e = over_unknown j held now d (none_told (connection_between d held) (sym (none e)))

-- the connection between its sockets is known
pub record Between (d : Segment) (held : List Connection) (expected : ℕ) : Type 0 where
  pub connection : Connection
  pub is : connection_between d held ≡ Some connection
  pub expected_is : connection.one.expected ≡ expected

pub between_told : (d : Segment) (held : List Connection) (k : KnownConnection) → (same_socket d.source d.destination ≡ false → Some k ≡ known_numbers d.source d.destination held)
    → (same_socket d.source d.destination ≡ true → ◌≡◌ {A = Option KnownConnection} (Some k) None) → Between d held k.expected
between_told d held k one none = at (same_socket d.source d.destination) refl
  where
    told : (o : Option Connection) → connection_between d held ≡ o → Some k ≡ option_map numbers_of o → Between d held k.expected
    told None e f = absurd (cc)
    told (Some c) e f = record { connection = c; is = e; expected_is = sym (ap (λ (n : KnownConnection). n.expected) (some_is k (numbers_of c) f)) }

    at : (b : Bool) → same_socket d.source d.destination ≡ b → Between d held k.expected
    at true e = let no_one = none e in absurd (cc)
    at false e = told (connection_between d held) refl (one e)

-- a search found nothing
pub heard_none : (j : Judging) (held : List Connection) (now : ℕ) (d : Segment) (before after : List (Pair × Flows)) (l : CheckLine) (n : ℕ) → Hears before l (heard_by j now d held) → says_searched l ≡ true
    → (B : Between d held n) → Finds after held None (first_from (heard_ahead (heard_by j now d) held B.connection) j.laps 1) → Hears after l (hear_over j held now d)
heard_none j held now d before after l n H e B F =
    let stays = searched_stays j held now d before l H e in
    subst (λ (h : Heard). Hears after l h) (over_none j held now d B.connection B.is F.0)
    (record { says = H.says; stands = subst (λ (cs : List Connection). StandsFor after cs) (sym stays) F.1 })

-- a search found this
pub heard_found : (j : Judging) (held : List Connection) (now : ℕ) (d : Segment) (before after : List (Pair × Flows)) (l more : CheckLine) (n : ℕ) → Hears before l (heard_by j now d held) → says_searched l ≡ true
    → has SYN d ≡ false → (B : Between d held n) → Finds after held (Some more) (first_from (heard_ahead (heard_by j now d) held B.connection) j.laps 1) → Hears after more (hear_over j held now d)
heard_found j held now d before after l more n H e syn B (k, is, found) =
    subst (λ (h : Heard). Hears after more h) (over_found j held now d B.connection k (searched_by l (heard_by j now d held).saying d true false H.says e syn) B.is is) found

-- a SYN is heard once
pub heard_syn : (j : Judging) (held : List Connection) (now : ℕ) (d : Segment) (after : List (Pair × Flows)) (l : CheckLine) → Hears after l (heard_by j now d held) → has SYN d ≡ true
    → Hears after l (hear_over j held now d)
heard_syn j held now d after l H syn = at (says_searched l) refl
  where
    at : (u : Bool) → says_searched l ≡ u → Hears after l (hear_over j held now d)
    at true e = heard_plain j held now d after l true true H e syn refl
    at false e = heard_plain j held now d after l false true H e syn refl
