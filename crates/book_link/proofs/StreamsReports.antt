-- Worked reports on streams, computed from the definitions.
use Rattle.std.proofs.Common.{◌≡◌, true, false, [], ◌∷◌, codes, refl}
use Rattle.std.specs.Fmt.{digits}
use Rattle.hex.specs.Hex.{encode_with}
use Rattle.sha1.specs.Sha1.{sha1, digest_bytes, hash_after, compress, rounds, schedule, first_words}
use Rattle.book_base.specs.declared.end.End.TheVariants.{A, B}
use Rattle.book_segments.specs.Bytes.{put2, put4}
use Rattle.book_segments.specs.Meant.{meant}
use Rattle.book_segments.specs.Options.{options_of, find_ao}
use Rattle.book_segments.specs.Received.{keep}
use Rattle.book_segments.specs.Segments.{sums, complement_of, pseudo, header, tcp_bytes, checksum_of, good, spell, first_fault, fields, reading}
use Rattle.book_segments.specs.Spelling.{with_right_checksum}
use Rattle.book_macs.specs.Hmac.{block_key, hmac}
use Rattle.book_macs.specs.Contexts.{context, context_of}
use Rattle.book_macs.specs.MacInput.{mac_input}
use Rattle.book_macs.specs.Keys.{traffic_key, mac}
use Rattle.book_keys.specs.Coordination.{choose, follow}
use Rattle.book_endpoint.specs.Verdicts.{judge}
use Rattle.book_endpoint.specs.States.{ready}
use Rattle.book_endpoint.specs.Arrivals.{arrive}
use Rattle.book_endpoint.specs.Emissions.{due_next, due_again, emit, resend}
use Rattle.book_link.specs.declared.event.Event.TheVariants.{At, Dump}
use Rattle.book_link.specs.declared.event.Action.TheVariants.{Clock, Connect, Listen, Start, Give, Fill, Send, Resend, Deliver, Inject, Alter, Take, Close, Abort}
use Rattle.book_link.specs.Alterations.{altered}
use Rattle.book_link.specs.Reports.{summary, report}
use Rattle.book_link.proofs.Links.{shared_link, one_key, two_keys, lines}

-- five bytes are given, sent, delivered and taken
pub five_bytes_arrive : report shared_link
    (At A (Start 100 200) ∷ At B (Start 200 100) ∷ At A (Give (104 ∷ 101 ∷ 108 ∷ 108 ∷ 111 ∷ [])) ∷ At A Send ∷ At B (Deliver 1) ∷ At B (Take 100) ∷ [])
    ≡ lines (
    codes "1 ok" ∷ codes "2 ok" ∷ codes "3 ok" ∷ codes "4 sent 1 AP seq 101 ack 201 len 5 key 0 next 0" ∷ codes "5 taken" ∷ codes "6 took 68656c6c6f" ∷
    codes "session a 1 isn 100 peer 200 established given 5 delivered 0 open" ∷
    codes "session b 1 isn 200 peer 100 established given 0 delivered 5 open" ∷ codes "segments 1 forgeries 0" ∷ [])
unfolding digits encode_with sha1 digest_bytes hash_after compress rounds schedule first_words put2 put4 meant options_of find_ao keep sums complement_of pseudo header tcp_bytes checksum_of good spell first_fault fields reading with_right_checksum block_key hmac context context_of mac_input traffic_key mac choose follow judge ready arrive due_next due_again emit resend altered summary report
five_bytes_arrive = refl

-- a later segment comes first, and an earlier one twice
pub reordered_and_repeated : report shared_link
    (At A (Start 100 200) ∷ At B (Start 200 100) ∷ At A (Give (65 ∷ 66 ∷ [])) ∷ At A Send ∷ At A (Give (67 ∷ 68 ∷ [])) ∷ At A Send ∷ At B (Deliver 2) ∷ At B (Deliver 1) ∷ At B (Deliver 1) ∷
    At B (Take 10) ∷ [])
    ≡ lines (
    codes "1 ok" ∷ codes "2 ok" ∷ codes "3 ok" ∷ codes "4 sent 1 AP seq 101 ack 201 len 2 key 0 next 0" ∷ codes "5 ok" ∷
    codes "6 sent 2 AP seq 103 ack 201 len 2 key 0 next 0" ∷ codes "7 taken" ∷ codes "8 taken" ∷ codes "9 window" ∷ codes "10 took 41424344" ∷
    codes "session a 1 isn 100 peer 200 established given 4 delivered 0 open" ∷
    codes "session b 1 isn 200 peer 100 established given 0 delivered 4 open" ∷ codes "segments 2 forgeries 0" ∷ [])
unfolding digits encode_with sha1 digest_bytes hash_after compress rounds schedule first_words put2 put4 meant options_of find_ao keep sums complement_of pseudo header tcp_bytes checksum_of good spell first_fault fields reading with_right_checksum block_key hmac context context_of mac_input traffic_key mac choose follow judge ready arrive due_next due_again emit resend altered summary report
reordered_and_repeated = refl

-- the sequence field goes round its ring, and the extension rises
pub sequence_wraps : report shared_link
    (At A (Start 4294967295 200) ∷ At B (Start 200 4294967295) ∷ At A (Give (0 ∷ 1 ∷ 2 ∷ 3 ∷ 4 ∷ 5 ∷ 6 ∷ 7 ∷ 8 ∷ 9 ∷ [])) ∷ At A Send ∷ At B (Deliver 1) ∷ At B (Take 10) ∷ [])
    ≡ lines (
    codes "1 ok" ∷ codes "2 ok" ∷ codes "3 ok" ∷ codes "4 sent 1 AP seq 4294967296 ack 201 len 10 key 0 next 0" ∷ codes "5 taken" ∷
    codes "6 took 00010203040506070809" ∷ codes "session a 1 isn 4294967295 peer 200 established given 10 delivered 0 open" ∷
    codes "session b 1 isn 200 peer 4294967295 established given 0 delivered 10 open" ∷ codes "segments 1 forgeries 0" ∷ [])
unfolding digits encode_with sha1 digest_bytes hash_after compress rounds schedule first_words put2 put4 meant options_of find_ao keep sums complement_of pseudo header tcp_bytes checksum_of good spell first_fault fields reading with_right_checksum block_key hmac context context_of mac_input traffic_key mac choose follow judge ready arrive due_next due_again emit resend altered summary report
sequence_wraps = refl

-- an older number has the older extension
pub older_number_after_the_wrap : report shared_link
    (At A (Start 4294967294 200) ∷ At B (Start 200 4294967294) ∷ At A (Give (65 ∷ [])) ∷ At A Send ∷ At A (Give (66 ∷ [])) ∷ At A Send ∷ At B (Deliver 1) ∷ At B (Deliver 2) ∷ At B (Deliver 1) ∷ [])
    ≡ lines (
    codes "1 ok" ∷ codes "2 ok" ∷ codes "3 ok" ∷ codes "4 sent 1 AP seq 4294967295 ack 201 len 1 key 0 next 0" ∷ codes "5 ok" ∷
    codes "6 sent 2 AP seq 4294967296 ack 201 len 1 key 0 next 0" ∷ codes "7 taken" ∷ codes "8 taken" ∷ codes "9 window" ∷
    codes "session a 1 isn 4294967294 peer 200 established given 2 delivered 0 open" ∷
    codes "session b 1 isn 200 peer 4294967294 established given 0 delivered 0 open" ∷ codes "segments 2 forgeries 0" ∷ [])
unfolding digits encode_with sha1 digest_bytes hash_after compress rounds schedule first_words put2 put4 meant options_of find_ao keep sums complement_of pseudo header tcp_bytes checksum_of good spell first_fault fields reading with_right_checksum block_key hmac context context_of mac_input traffic_key mac choose follow judge ready arrive due_next due_again emit resend altered summary report
older_number_after_the_wrap = refl

-- the FIN comes before the data, and the end of the stream after them
pub fin_before_the_data : report shared_link
    (At A (Start 100 200) ∷ At B (Start 200 100) ∷ At A (Give (65 ∷ [])) ∷ At A Send ∷ At A Close ∷ At A Send ∷ At B (Deliver 2) ∷ At B (Take 10) ∷ At B (Deliver 1) ∷ At B (Take 10) ∷
    At A (Give (66 ∷ [])) ∷ [])
    ≡ lines (
    codes "1 ok" ∷ codes "2 ok" ∷ codes "3 ok" ∷ codes "4 sent 1 AP seq 101 ack 201 len 1 key 0 next 0" ∷ codes "5 ok" ∷
    codes "6 sent 2 AF seq 102 ack 201 len 0 key 0 next 0" ∷ codes "7 taken" ∷ codes "8 took -" ∷ codes "9 taken" ∷ codes "10 took 41 end" ∷
    codes "11 closed" ∷ codes "session a 1 isn 100 peer 200 fin-wait-1 given 1 delivered 0 open" ∷
    codes "session b 1 isn 200 peer 100 close-wait given 0 delivered 1 end" ∷ codes "segments 2 forgeries 0" ∷ [])
unfolding digits encode_with sha1 digest_bytes hash_after compress rounds schedule first_words put2 put4 meant options_of find_ao keep sums complement_of pseudo header tcp_bytes checksum_of good spell first_fault fields reading with_right_checksum block_key hmac context context_of mac_input traffic_key mac choose follow judge ready arrive due_next due_again emit resend altered summary report
fin_before_the_data = refl
