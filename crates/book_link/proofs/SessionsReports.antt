-- Worked reports on sessions that open, close and reset, computed from the definitions.
use Rattle.std.proofs.Common.{◌≡◌, true, false, [], ◌∷◌, codes, refl}
use Rattle.std.specs.Fmt.{digits}
use Rattle.hex.specs.Hex.{encode_with}
use Rattle.sha1.specs.Sha1.{sha1, digest_bytes, hash_after, compress, rounds, schedule, first_words}
use Rattle.book_base.specs.declared.end.End.TheVariants.{A, B}
use Rattle.book_segments.specs.Bytes.{put2, put4}
use Rattle.book_segments.specs.Meant.{meant}
use Rattle.book_segments.specs.Options.{options_of, find_ao}
use Rattle.book_segments.specs.Received.{keep}
use Rattle.book_segments.specs.Segments.{sums, complement_of, pseudo, header, tcp_bytes, checksum_of, good, spell, first_fault, fields, reading}
use Rattle.book_segments.specs.Spelling.{with_right_checksum}
use Rattle.book_macs.specs.Hmac.{block_key, hmac}
use Rattle.book_macs.specs.Contexts.{context, context_of}
use Rattle.book_macs.specs.MacInput.{mac_input}
use Rattle.book_macs.specs.Keys.{traffic_key, mac}
use Rattle.book_keys.specs.Coordination.{choose, follow}
use Rattle.book_endpoint.specs.Verdicts.{judge}
use Rattle.book_endpoint.specs.States.{ready}
use Rattle.book_endpoint.specs.Arrivals.{arrive}
use Rattle.book_endpoint.specs.Emissions.{due_next, due_again, emit, resend}
use Rattle.book_link.specs.declared.event.Event.TheVariants.{At, Dump}
use Rattle.book_link.specs.declared.event.Action.TheVariants.{Clock, Connect, Listen, Start, Give, Fill, Send, Resend, Deliver, Inject, Alter, Take, Close, Abort}
use Rattle.book_link.specs.Alterations.{altered}
use Rattle.book_link.specs.Reports.{summary, report}
use Rattle.book_link.proofs.Links.{shared_link, one_key, two_keys, lines}

-- a handshake with a server whose initial sequence number is 0
pub server_isn_zero : report shared_link
    (At A (Connect 1000) ∷ At B (Listen 0) ∷ At A Send ∷ At B (Deliver 1) ∷ At B Send ∷ At A (Deliver 2) ∷ At A Send ∷ At B (Deliver 3) ∷ At A (Give (65 ∷ [])) ∷ At A Send ∷ At B (Deliver 4) ∷
    At B (Take 10) ∷ At B (Deliver 1) ∷ [])
    ≡ lines (
    codes "1 ok" ∷ codes "2 ok" ∷ codes "3 sent 1 S seq 1000 ack - len 0 key 0 next 0" ∷ codes "4 taken" ∷
    codes "5 sent 2 SA seq 0 ack 1001 len 0 key 0 next 0" ∷ codes "6 taken" ∷ codes "7 sent 3 A seq 1001 ack 1 len 0 key 0 next 0" ∷ codes "8 taken" ∷
    codes "9 ok" ∷ codes "10 sent 4 AP seq 1001 ack 1 len 1 key 0 next 0" ∷ codes "11 taken" ∷ codes "12 took 41" ∷ codes "13 window" ∷
    codes "session a 1 isn 1000 peer 0 established given 1 delivered 0 open" ∷ codes "session b 1 isn 0 peer 1000 established given 0 delivered 1 open" ∷
    codes "segments 4 forgeries 0" ∷ [])
unfolding digits encode_with sha1 digest_bytes hash_after compress rounds schedule first_words put2 put4 meant options_of find_ao keep sums complement_of pseudo header tcp_bytes checksum_of good spell first_fault fields reading with_right_checksum block_key hmac context context_of mac_input traffic_key mac choose follow judge ready arrive due_next due_again emit resend altered summary report
server_isn_zero = refl

-- a segment of an older session is refused
pub older_sessions_segment : report shared_link
    (At A (Start 100 200) ∷ At B (Start 200 100) ∷ At A (Give (65 ∷ [])) ∷ At A Send ∷ At A (Start 101 201) ∷ At B (Start 201 101) ∷ At B (Deliver 1) ∷ [])
    ≡ lines (
    codes "1 ok" ∷ codes "2 ok" ∷ codes "3 ok" ∷ codes "4 sent 1 AP seq 101 ack 201 len 1 key 0 next 0" ∷ codes "5 ok" ∷ codes "6 ok" ∷
    codes "7 refused bad-mac" ∷ codes "session a 1 isn 100 peer 200 dropped given 1 delivered 0 open" ∷
    codes "session a 2 isn 101 peer 201 established given 0 delivered 0 open" ∷ codes "session b 1 isn 200 peer 100 dropped given 0 delivered 0 open" ∷
    codes "session b 2 isn 201 peer 101 established given 0 delivered 0 open" ∷ codes "segments 1 forgeries 0" ∷ [])
unfolding digits encode_with sha1 digest_bytes hash_after compress rounds schedule first_words put2 put4 meant options_of find_ao keep sums complement_of pseudo header tcp_bytes checksum_of good spell first_fault fields reading with_right_checksum block_key hmac context context_of mac_input traffic_key mac choose follow judge ready arrive due_next due_again emit resend altered summary report
older_sessions_segment = refl

-- an initial sequence number is used once
pub isn_used_twice : report shared_link
    (At A (Start 100 200) ∷ At B (Start 200 100) ∷ At A (Connect 100) ∷ [])
    ≡ lines (
    codes "1 ok" ∷ codes "2 ok" ∷ codes "3 isn-used" ∷ codes "session a 1 isn 100 peer 200 established given 0 delivered 0 open" ∷
    codes "session b 1 isn 200 peer 100 established given 0 delivered 0 open" ∷ codes "segments 0 forgeries 0" ∷ [])
unfolding digits encode_with sha1 digest_bytes hash_after compress rounds schedule first_words put2 put4 meant options_of find_ao keep sums complement_of pseudo header tcp_bytes checksum_of good spell first_fault fields reading with_right_checksum block_key hmac context context_of mac_input traffic_key mac choose follow judge ready arrive due_next due_again emit resend altered summary report
isn_used_twice = refl

-- an abort, its reset, and what is sent again before
pub abort_and_reset : report shared_link
    (At A (Start 100 200) ∷ At B (Start 200 100) ∷ At A Resend ∷ At A (Give (65 ∷ [])) ∷ At A Send ∷ At A Resend ∷ At B (Deliver 2) ∷ At B (Deliver 1) ∷ At B Send ∷ At A (Deliver 3) ∷ At A Resend ∷
    At B Abort ∷ At B Send ∷ At A (Deliver 4) ∷ At A (Give (65 ∷ [])) ∷ At B Close ∷ [])
    ≡ lines (
    codes "1 ok" ∷ codes "2 ok" ∷ codes "3 nothing" ∷ codes "4 ok" ∷ codes "5 sent 1 AP seq 101 ack 201 len 1 key 0 next 0" ∷
    codes "6 sent 2 AP seq 101 ack 201 len 1 key 0 next 0" ∷ codes "7 taken" ∷ codes "8 window" ∷ codes "9 sent 3 A seq 201 ack 102 len 0 key 0 next 0" ∷
    codes "10 taken" ∷ codes "11 nothing" ∷ codes "12 ok" ∷ codes "13 sent 4 R seq 201 ack - len 0 key 0 next 0" ∷ codes "14 reset" ∷ codes "15 closed" ∷
    codes "16 ok" ∷ codes "session a 1 isn 100 peer 200 closed given 1 delivered 0 open" ∷
    codes "session b 1 isn 200 peer 100 closed given 0 delivered 0 open" ∷ codes "segments 4 forgeries 0" ∷ [])
unfolding digits encode_with sha1 digest_bytes hash_after compress rounds schedule first_words put2 put4 meant options_of find_ao keep sums complement_of pseudo header tcp_bytes checksum_of good spell first_fault fields reading with_right_checksum block_key hmac context context_of mac_input traffic_key mac choose follow judge ready arrive due_next due_again emit resend altered summary report
abort_and_reset = refl

-- both FINs, and TIME-WAIT at its deadline
pub both_fins_and_time_wait : report shared_link
    (At A (Start 100 200) ∷ At B (Start 200 100) ∷ At B Close ∷ At B Send ∷ At A (Deliver 1) ∷ At A Send ∷ At B (Deliver 2) ∷ At A Close ∷ At A Send ∷ At B (Deliver 3) ∷ At B Send ∷ At A (Deliver 4) ∷
    At B (Clock 240) ∷ At A (Take 5) ∷ [])
    ≡ lines (
    codes "1 ok" ∷ codes "2 ok" ∷ codes "3 ok" ∷ codes "4 sent 1 AF seq 201 ack 101 len 0 key 0 next 0" ∷ codes "5 taken" ∷
    codes "6 sent 2 A seq 101 ack 202 len 0 key 0 next 0" ∷ codes "7 taken" ∷ codes "8 ok" ∷ codes "9 sent 3 AF seq 101 ack 202 len 0 key 0 next 0" ∷
    codes "10 taken" ∷ codes "11 sent 4 A seq 202 ack 102 len 0 key 0 next 0" ∷ codes "12 taken" ∷ codes "13 ok" ∷ codes "14 took - end" ∷
    codes "session a 1 isn 100 peer 200 closed given 0 delivered 0 end" ∷ codes "session b 1 isn 200 peer 100 closed given 0 delivered 0 open" ∷
    codes "segments 4 forgeries 0" ∷ [])
unfolding digits encode_with sha1 digest_bytes hash_after compress rounds schedule first_words put2 put4 meant options_of find_ao keep sums complement_of pseudo header tcp_bytes checksum_of good spell first_fault fields reading with_right_checksum block_key hmac context context_of mac_input traffic_key mac choose follow judge ready arrive due_next due_again emit resend altered summary report
both_fins_and_time_wait = refl
