-- Worked reports on keys and their lifetimes, computed from the definitions.
use Rattle.std.proofs.Common.{◌≡◌, true, false, [], ◌∷◌, codes, refl}
use Rattle.std.specs.Fmt.{digits}
use Rattle.hex.specs.Hex.{encode_with}
use Rattle.sha1.specs.Sha1.{sha1, digest_bytes, hash_after, compress, rounds, schedule, first_words}
use Rattle.book_base.specs.declared.end.End.TheVariants.{A, B}
use Rattle.book_segments.specs.Bytes.{put2, put4}
use Rattle.book_segments.specs.Meant.{meant}
use Rattle.book_segments.specs.Options.{options_of, find_ao}
use Rattle.book_segments.specs.Received.{keep}
use Rattle.book_segments.specs.Segments.{sums, complement_of, pseudo, header, tcp_bytes, checksum_of, good, spell, first_fault, fields, reading}
use Rattle.book_segments.specs.Spelling.{with_right_checksum}
use Rattle.book_macs.specs.Hmac.{block_key, hmac}
use Rattle.book_macs.specs.Contexts.{context, context_of}
use Rattle.book_macs.specs.MacInput.{mac_input}
use Rattle.book_macs.specs.Keys.{traffic_key, mac}
use Rattle.book_keys.specs.Coordination.{choose, follow}
use Rattle.book_keys.specs.Overlaps.{overlaps}
use Rattle.book_keys.specs.Tables.{adding, withdrawn}
use Rattle.book_endpoint.specs.Verdicts.{judge}
use Rattle.book_endpoint.specs.States.{ready}
use Rattle.book_endpoint.specs.Arrivals.{arrive}
use Rattle.book_endpoint.specs.Emissions.{due_next, due_again, emit, resend}
use Rattle.book_link.specs.declared.event.Event.TheVariants.{At, Dump}
use Rattle.book_link.specs.declared.event.Fixing.TheVariants.{Keep, Fix}
use Rattle.book_link.specs.declared.event.Action.TheVariants.{Clock, Connect, Listen, Start, Give, Fill, Send, Resend, Deliver, Inject, Alter, Take, Close, Abort, AddRow, Withdraw}
use Rattle.book_link.specs.Alterations.{altered}
use Rattle.book_link.specs.Reports.{summary, report}
use Rattle.book_link.proofs.Links.{shared_link, one_key, two_keys, later_row, lines}

-- an altered copy is refused by its MAC or by its checksum
pub altered_copies : report shared_link
    (At A (Start 100 200) ∷ At B (Start 200 100) ∷ At A (Give (65 ∷ [])) ∷ At A Send ∷ At B (Alter 1 36 1 Fix) ∷ At B (Alter 1 36 1 Keep) ∷ At B (Alter 1 37 1 Fix) ∷ At B (Deliver 2) ∷ [])
    ≡ lines (
    codes "1 ok" ∷ codes "2 ok" ∷ codes "3 ok" ∷ codes "4 sent 1 AP seq 101 ack 201 len 1 key 0 next 0" ∷ codes "5 refused bad-mac" ∷ codes "6 checksum" ∷
    codes "7 no-place" ∷ codes "8 no-segment" ∷ codes "session a 1 isn 100 peer 200 established given 1 delivered 0 open" ∷
    codes "session b 1 isn 200 peer 100 established given 0 delivered 0 open" ∷ codes "segments 1 forgeries 0" ∷ [])
unfolding digits encode_with sha1 digest_bytes hash_after compress rounds schedule first_words put2 put4 meant options_of find_ao keep sums complement_of pseudo header tcp_bytes checksum_of good spell first_fault fields reading with_right_checksum block_key hmac context context_of mac_input traffic_key mac choose follow judge ready arrive due_next due_again emit resend altered summary report
altered_copies = refl

-- a key is accepted in the last second of its lifetime, and not after
pub last_second_of_a_lifetime : report one_key
    (At A (Start 100 200) ∷ At B (Start 200 100) ∷ At A (Give (65 ∷ [])) ∷ At A Send ∷ At A (Give (66 ∷ [])) ∷ At A Send ∷ At B (Clock 3660) ∷ At B (Deliver 1) ∷ At B (Clock 3661) ∷ At B (Deliver 2) ∷
    [])
    ≡ lines (
    codes "1 ok" ∷ codes "2 ok" ∷ codes "3 ok" ∷ codes "4 sent 1 AP seq 101 ack 201 len 1 key 1 next 1" ∷ codes "5 ok" ∷
    codes "6 sent 2 AP seq 102 ack 201 len 1 key 1 next 1" ∷ codes "7 ok" ∷ codes "8 taken" ∷ codes "9 ok" ∷ codes "10 refused expired" ∷
    codes "session a 1 isn 100 peer 200 established given 2 delivered 0 open" ∷
    codes "session b 1 isn 200 peer 100 established given 0 delivered 0 open" ∷ codes "segments 2 forgeries 0" ∷ [])
unfolding digits encode_with sha1 digest_bytes hash_after compress rounds schedule first_words put2 put4 meant options_of find_ao keep sums complement_of pseudo header tcp_bytes checksum_of good spell first_fault fields reading with_right_checksum block_key hmac context context_of mac_input traffic_key mac choose follow judge ready arrive due_next due_again emit resend altered summary report
last_second_of_a_lifetime = refl

-- no row sends at this time
pub no_key_to_send : report one_key
    (At A (Start 100 200) ∷ At B (Start 200 100) ∷ At A (Give (65 ∷ [])) ∷ At A (Clock 3601) ∷ At A Send ∷ At A (Clock 3600) ∷ At A Send ∷ [])
    ≡ lines (
    codes "1 ok" ∷ codes "2 ok" ∷ codes "3 ok" ∷ codes "4 ok" ∷ codes "5 no-key" ∷ codes "6 ok" ∷ codes "7 sent 1 AP seq 101 ack 201 len 1 key 1 next 1" ∷
    codes "session a 1 isn 100 peer 200 established given 1 delivered 0 open" ∷
    codes "session b 1 isn 200 peer 100 established given 0 delivered 0 open" ∷ codes "segments 1 forgeries 0" ∷ [])
unfolding digits encode_with sha1 digest_bytes hash_after compress rounds schedule first_words put2 put4 meant options_of find_ao keep sums complement_of pseudo header tcp_bytes checksum_of good spell first_fault fields reading with_right_checksum block_key hmac context context_of mac_input traffic_key mac choose follow judge ready arrive due_next due_again emit resend altered summary report
no_key_to_send = refl

-- the next key is asked for and followed
pub rollover_follows : report two_keys
    (At A (Start 100 200) ∷ At B (Start 200 100) ∷ At A (Give (65 ∷ [])) ∷ At A Send ∷ At A (Clock 3600) ∷ At B (Clock 3600) ∷ At A (Give (66 ∷ [])) ∷ At A Send ∷ At B (Deliver 2) ∷ At B Send ∷
    At A (Deliver 3) ∷ At A (Give (67 ∷ [])) ∷ At A Send ∷ [])
    ≡ lines (
    codes "1 ok" ∷ codes "2 ok" ∷ codes "3 ok" ∷ codes "4 sent 1 AP seq 101 ack 201 len 1 key 1 next 1" ∷ codes "5 ok" ∷ codes "6 ok" ∷ codes "7 ok" ∷
    codes "8 sent 2 AP seq 102 ack 201 len 1 key 1 next 2" ∷ codes "9 taken" ∷ codes "10 sent 3 A seq 201 ack 101 len 0 key 2 next 2" ∷ codes "11 taken" ∷
    codes "12 ok" ∷ codes "13 sent 4 AP seq 103 ack 201 len 1 key 2 next 2" ∷ codes "session a 1 isn 100 peer 200 established given 3 delivered 0 open" ∷
    codes "session b 1 isn 200 peer 100 established given 0 delivered 0 open" ∷ codes "segments 4 forgeries 0" ∷ [])
unfolding digits encode_with sha1 digest_bytes hash_after compress rounds schedule first_words put2 put4 meant options_of find_ao keep sums complement_of pseudo header tcp_bytes checksum_of good spell first_fault fields reading with_right_checksum block_key hmac context context_of mac_input traffic_key mac choose follow judge ready arrive due_next due_again emit resend altered summary report
rollover_follows = refl

-- a row that is added takes and sends at once; one that is withdrawn does neither, and keeps its number
pub rows_added_and_withdrawn : report one_key
    (At A (Start 100 200) ∷ At B (Start 200 100) ∷ At A (AddRow later_row) ∷ At B (AddRow later_row) ∷ At A (AddRow later_row) ∷ At A (Clock 3601) ∷ At B (Clock 3601) ∷ At A (Give (65 ∷ [])) ∷ At A Send ∷
    At B (Deliver 1) ∷ At B (Withdraw 2) ∷ At A (Give (66 ∷ [])) ∷ At A Send ∷ At B (Deliver 2) ∷ At B Send ∷ At B (Withdraw 3) ∷ [])
    ≡ lines (
    codes "1 ok" ∷ codes "2 ok" ∷ codes "3 added row 2" ∷ codes "4 added row 2" ∷ codes "5 overlap 2" ∷ codes "6 ok" ∷ codes "7 ok" ∷ codes "8 ok" ∷
    codes "9 sent 1 AP seq 101 ack 201 len 1 key 2 next 2" ∷ codes "10 taken" ∷ codes "11 ok" ∷ codes "12 ok" ∷
    codes "13 sent 2 AP seq 102 ack 201 len 1 key 2 next 2" ∷ codes "14 refused no-tuple" ∷ codes "15 no-key" ∷ codes "16 no-row" ∷
    codes "session a 1 isn 100 peer 200 established given 2 delivered 0 open" ∷
    codes "session b 1 isn 200 peer 100 established given 0 delivered 0 open" ∷ codes "segments 2 forgeries 0" ∷ [])
unfolding digits encode_with sha1 digest_bytes hash_after compress rounds schedule first_words put2 put4 meant options_of find_ao keep sums complement_of pseudo header tcp_bytes checksum_of good spell first_fault fields reading with_right_checksum block_key hmac context context_of mac_input traffic_key mac choose follow judge ready arrive due_next due_again emit resend altered summary report adding withdrawn overlaps
rows_added_and_withdrawn = refl
