-- A given connection is the one that a passing handshake fixes.
use Rattle.std.proofs.Common.{◌≡◌, ℕ, ◌+◌, Bool, true, false, not, nat_le, List, length, Option, Some, None, option_map, refl, sym, ap, ◌∙◌, if◌then◌else◌, Ok, Err}
use Rattle.std.specs.List.{find}
use Rattle.book_segments.specs.Sockets.{same_socket}
use Rattle.book_segments.specs.Segments.{Segment, Reading, Read, reading, has, pair_reached, SYN, ACK}
use Rattle.book_keys.specs.Rows.{Table, has_address}
use Rattle.book_endpoint.specs.Verdicts.{Judgement}
use Rattle.book_cmd_check.specs.DatagramTexts.{checksum_in}
use Rattle.book_cmd_check.specs.declared.given.GivenIsns.{GivenIsns}
use Rattle.book_cmd_check.specs.Captures.{Connection, Heard, acknowledged_isn, connection_between, fixed, hear, hear_at, hear_judged, hear_later, hear_read, hear_syn_ack, is_pass, judge_stored, most_connections, same_isns, with_connection, Judged, TooManyConnections, UnknownNode}
use Rattle.book_cmd_check.specs.Handshakes.{EndsHandshake, and_given, given_connection, told_by, with_begun}

abbrev heard_full : Bool → List Connection → Segment → Judgement → Heard
heard_full full held d j =
    if full then record { connections = held; saying = TooManyConnections (checksum_in d) }
    else record { connections = with_connection (fixed d) held; saying = Judged j (checksum_in d) }

full_fixed : (full : Bool) (held : List Connection) (d : Segment) (j : Judgement) → is_pass (heard_full full held d j).saying ≡ true
    → (heard_full full held d j).connections ≡ (if full then held else with_connection (fixed d) held)
full_fixed true held d j pass = refl
full_fixed false held d j pass = refl

fixed_alike : (held : List Connection) (d : Segment) (j : Judgement) (known : Option Connection) → is_pass (hear_syn_ack held d j known).saying ≡ true
    → (hear_syn_ack held d j known).connections ≡ with_begun (given_connection (told_by d)) known held
fixed_alike held d j (Some c) pass = refl
fixed_alike held d j None pass = full_fixed (nat_le most_connections (length held)) held d j pass

judged_alike : (held : List Connection) (d : Segment) (known : Option Connection) (j : Judgement) → has SYN d ≡ true → has ACK d ≡ true
    → is_pass (hear_judged held d known j).saying ≡ true → (hear_judged held d known j).connections ≡ with_begun (given_connection (told_by d)) known held
judged_alike held d known (Err why) one two pass = absurd (cc)
judged_alike held d known (Ok p) one two pass =
    let is : hear_judged held d known (Ok p) ≡ hear_syn_ack held d (Ok p) known = rw (one, two) refl in
    rw is (fixed_alike held d (Ok p) known (rw is at pass))

abbrev heard_same : Bool → List Connection → Heard → Heard
heard_same same held heard = if same then record { connections = held; saying = UnknownNode } else heard

same_alike : (same : Bool) (held : List Connection) (d : Segment) (heard : Heard) → (is_pass heard.saying ≡ true → heard.connections ≡ with_begun (given_connection (told_by d)) (connection_between d held) held)
    → is_pass (heard_same same held heard).saying ≡ true
    → (heard_same same held heard).connections ≡ (if same then held else with_begun (given_connection (told_by d)) (connection_between d held) held)
same_alike true held d heard others pass = refl
same_alike false held d heard others pass = others pass

at_alike : (t : Option Table) (held : List Connection) (now : ℕ) (d : Segment) → has SYN d ≡ true → has ACK d ≡ true
    → is_pass (hear_at t held now d).saying ≡ true → (hear_at t held now d).connections ≡ and_given (told_by d) held
at_alike None held now d one two pass = absurd (cc)
at_alike (Some t) held now d one two pass =
    same_alike (same_socket d.source d.destination) held d (hear_judged held d (connection_between d held) (judge_stored t.rows (pair_reached d) now d (connection_between d held)))
    (judged_alike held d (connection_between d held) (judge_stored t.rows (pair_reached d) now d (connection_between d held)) one two) pass

told_is : (d : Segment) (g : GivenIsns) → EndsHandshake d g → told_by d ≡ g
told_is d g e = rw (e.source, e.isn, e.destination, e.other_isn) refl

pub of_handshake : (tables : List Table) (held : List Connection) (time : ℕ) (bytes : List ℕ) (d : Segment) (g : GivenIsns) → reading bytes ≡ Read d → EndsHandshake d g
    → is_pass (hear tables held time bytes).saying ≡ true → (hear tables held time bytes).connections ≡ and_given g held
unfolding hear
of_handshake tables held time bytes d g is ends pass =
    rw is (at_alike (find (has_address d.destination.address) tables) held time d ends.syn ends.ack (rw is at pass))
    ∙ ap (λ (h : GivenIsns). and_given h held) (told_is d g ends)
