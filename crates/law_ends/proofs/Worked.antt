-- A handshake and a byte between two stacks, computed from the definitions.
use Rattle.std.proofs.Common.{◌≡◌, ℕ, zero, suc, Bool, true, ◌&&◌, nat_lt, List, [], ◌∷◌, replicate, Option, Some, None, refl, sym, subst, arith, lit<}
use Rattle.std.proofs.lemmas.Bool.Decides.{nat_tests}
use Rattle.std.specs.Prelude.{is_some}
use Rattle.std.specs.List.{AllByRecursion}
use Rattle.sha1.specs.Sha1.{sha1, digest_bytes, hash_after, compress, rounds, schedule, first_words}
use Rattle.book_base.specs.declared.end.End.{End}
use Rattle.book_base.specs.declared.end.End.TheVariants.{A, B}
use Rattle.book_segments.specs.Bytes.{put2, put4}
use Rattle.book_segments.specs.Meant.{meant}
use Rattle.book_segments.specs.Options.{options_of, find_ao}
use Rattle.book_segments.specs.Received.{keep}
use Rattle.book_segments.specs.Segments.{sums, complement_of, pseudo, header, tcp_bytes, checksum_of, good, spell, first_fault, fields, reading}
use Rattle.book_segments.specs.Spelling.{AreBytes, with_right_checksum}
use Rattle.book_segments.proofs.Fields.{and_tells}
use Rattle.book_base.specs.declared.algorithm.Algorithm.TheVariants.{HmacSha1}
use Rattle.book_keys.specs.Shared.{shared_row}
use Rattle.book_cmd_node.specs.NodeRuns.{held_end}
use Rattle.law_link.specs.Laws.{RowFits, SetupFits}
use Rattle.law_link.proofs.Sessions.{both}
use Rattle.book_macs.specs.Hmac.{block_key, hmac}
use Rattle.book_macs.specs.Contexts.{context, context_of}
use Rattle.book_macs.specs.MacInput.{mac_input}
use Rattle.book_macs.specs.Keys.{traffic_key, mac}
use Rattle.book_keys.specs.Coordination.{choose, follow}
use Rattle.book_endpoint.specs.Verdicts.{judge}
use Rattle.book_endpoint.specs.States.{EndState, connected, ready}
use Rattle.book_endpoint.specs.Arrivals.{arrive}
use Rattle.book_endpoint.specs.Emissions.{due_next, due_again, emit, resend}
use Rattle.book_link.specs.Storm.{storm_setup}
use Rattle.book_link.specs.Worlds.{other, pair_of, first_rows}
use Rattle.book_cmd_node.specs.declared.node.Act.TheVariants as act
use Rattle.book_stack.specs.Calls.{Call, At, Input, Output, call}
use Rattle.law_ends.specs.Doings.{Doing, DoingFits, IsInTime, new_twins, stack_of, twins}
use Rattle.law_ends.specs.Users.{user_sessions, AreFresh, FreshIsns}
use Rattle.law_ends.specs.Ends.{IsUnforged}
use Rattle.law_ends.specs.Delivered.{handed_from, heard_in, talked, Delivers}

abbrev does : End → Call → Doing
does e c = record { end = e; what = c }

-- the three datagrams: the SYN, the SYN with ACK, and the byte
abbrev pub syn : List ℕ
syn = 69 ∷ 0 ∷ 0 ∷ 60 ∷ 0 ∷ 0 ∷ 64 ∷ 0 ∷ 64 ∷ 6 ∷ 38 ∷ 186 ∷ 10 ∷ 0 ∷ 0 ∷ 1 ∷ 10 ∷ 0 ∷ 0 ∷ 2 ∷ 3 ∷ 232 ∷ 7 ∷ 208 ∷ 0 ∷ 0 ∷ 3 ∷ 232 ∷ 0 ∷ 0 ∷ 0 ∷ 0 ∷ 160 ∷ 2 ∷ 255 ∷ 255 ∷ 93 ∷ 102 ∷ 0 ∷ 0 ∷ 2 ∷ 4 ∷ 5 ∷ 180 ∷ 29 ∷ 16 ∷ 0 ∷ 0 ∷ 171 ∷ 147 ∷ 8 ∷ 198 ∷ 229 ∷ 214 ∷ 165 ∷ 91 ∷ 26 ∷ 57 ∷ 96 ∷ 56 ∷ []

abbrev pub syn_ack : List ℕ
syn_ack = 69 ∷ 0 ∷ 0 ∷ 60 ∷ 0 ∷ 0 ∷ 64 ∷ 0 ∷ 64 ∷ 6 ∷ 38 ∷ 186 ∷ 10 ∷ 0 ∷ 0 ∷ 2 ∷ 10 ∷ 0 ∷ 0 ∷ 1 ∷ 7 ∷ 208 ∷ 3 ∷ 232 ∷ 0 ∷ 0 ∷ 7 ∷ 208 ∷ 0 ∷ 0 ∷ 3 ∷ 233 ∷ 160 ∷ 18 ∷ 255 ∷ 255 ∷ 50 ∷ 61 ∷ 0 ∷ 0 ∷ 2 ∷ 4 ∷ 5 ∷ 180 ∷ 29 ∷ 16 ∷ 0 ∷ 0 ∷ 118 ∷ 195 ∷ 95 ∷ 243 ∷ 166 ∷ 242 ∷ 191 ∷ 211 ∷ 50 ∷ 19 ∷ 109 ∷ 181 ∷ []

abbrev pub data_byte : List ℕ
data_byte = 69 ∷ 0 ∷ 0 ∷ 57 ∷ 0 ∷ 0 ∷ 64 ∷ 0 ∷ 64 ∷ 6 ∷ 38 ∷ 189 ∷ 10 ∷ 0 ∷ 0 ∷ 1 ∷ 10 ∷ 0 ∷ 0 ∷ 2 ∷ 3 ∷ 232 ∷ 7 ∷ 208 ∷ 0 ∷ 0 ∷ 3 ∷ 233 ∷ 0 ∷ 0 ∷ 7 ∷ 209 ∷ 144 ∷ 24 ∷ 255 ∷ 255 ∷ 156 ∷ 103 ∷ 0 ∷ 0 ∷ 29 ∷ 16 ∷ 0 ∷ 0 ∷ 123 ∷ 89 ∷ 216 ∷ 38 ∷ 164 ∷ 91 ∷ 179 ∷ 115 ∷ 165 ∷ 95 ∷ 57 ∷ 32 ∷ 1 ∷ []

abbrev comes : List ℕ → Call
comes bytes = Input (record { now = 0; bytes = bytes })

-- one end opens and the other listens; each hears what the other hands out; a byte is given, and taken
abbrev pub doings : List Doing
doings = does A (At (pair_of storm_setup A) (act.Open 1000)) ∷ does B (At (pair_of storm_setup B) (act.Listen 2000)) ∷ does A (Output 0) ∷ does B (comes syn) ∷ does B (Output 0) ∷ does A (comes syn_ack)
    ∷ does A (At (pair_of storm_setup A) (act.Give (1 ∷ []))) ∷ does A (Output 0) ∷ does B (comes data_byte) ∷ does B (At (pair_of storm_setup B) (act.Take 1)) ∷ []

abbrev one_each : End → ℕ
one_each e = 1

gave_is : user_sessions storm_setup one_each doings A ≡ talked 1000 (1 ∷ []) [] ∷ []
unfolding call sha1 digest_bytes hash_after compress rounds schedule first_words put2 put4 meant options_of find_ao keep sums complement_of pseudo header tcp_bytes checksum_of good spell first_fault fields reading with_right_checksum block_key hmac context context_of mac_input traffic_key mac choose follow judge ready arrive due_next due_again emit resend
gave_is = refl

took_is : user_sessions storm_setup one_each doings B ≡ talked 2000 [] (1 ∷ []) ∷ []
unfolding call sha1 digest_bytes hash_after compress rounds schedule first_words put2 put4 meant options_of find_ao keep sums complement_of pseudo header tcp_bytes checksum_of good spell first_fault fields reading with_right_checksum block_key hmac context context_of mac_input traffic_key mac choose follow judge ready arrive due_next due_again emit resend
took_is = refl

unforged : IsUnforged storm_setup one_each doings
unfolding call sha1 digest_bytes hash_after compress rounds schedule first_words put2 put4 meant options_of find_ao keep sums complement_of pseudo header tcp_bytes checksum_of good spell first_fault fields reading with_right_checksum block_key hmac context context_of mac_input traffic_key mac choose follow judge ready arrive due_next due_again emit resend
unforged = refl

path_to_a : heard_in A doings ≡ handed_from (new_twins storm_setup one_each) B doings
unfolding call sha1 digest_bytes hash_after compress rounds schedule first_words put2 put4 meant options_of find_ao keep sums complement_of pseudo header tcp_bytes checksum_of good spell first_fault fields reading with_right_checksum block_key hmac context context_of mac_input traffic_key mac choose follow judge ready arrive due_next due_again emit resend
path_to_a = refl

path_to_b : heard_in B doings ≡ handed_from (new_twins storm_setup one_each) A doings
unfolding call sha1 digest_bytes hash_after compress rounds schedule first_words put2 put4 meant options_of find_ao keep sums complement_of pseudo header tcp_bytes checksum_of good spell first_fault fields reading with_right_checksum block_key hmac context context_of mac_input traffic_key mac choose follow judge ready arrive due_next due_again emit resend
path_to_b = refl

-- ---- the premises

abbrev small : List ℕ → Bool
small [] = true
small (b ∷ bytes) = nat_lt b 256 && small bytes

small_bytes : (bytes : List ℕ) → small bytes ≡ true → AreBytes bytes
small_bytes [] e i = lit< tt
small_bytes (b ∷ bytes) e zero = let low = (and_tells (nat_lt b 256) (small bytes) e).0 in grind (arith, nat_tests)
small_bytes (b ∷ bytes) e (suc i) = small_bytes bytes (and_tells (nat_lt b 256) (small bytes) e).1 i

row_fits : RowFits (shared_row HmacSha1 (replicate 20 11))
row_fits = record { recv_id = lit< tt; send_id = lit< tt; master = small_bytes (replicate 20 11) refl }

storm_fits : SetupFits storm_setup
storm_fits = record {
  family = ((refl, small_bytes (10 ∷ 0 ∷ 0 ∷ 1 ∷ []) refl), (refl, small_bytes (10 ∷ 0 ∷ 0 ∷ 2 ∷ []) refl));
  a_port = lit< tt;
  b_port = lit< tt;
  rows = both (λ e. AllByRecursion RowFits (first_rows storm_setup e)) (row_fits, tt) (row_fits, tt);
}

doings_fit : AllByRecursion DoingFits doings
doings_fit =
    (lit< tt, (lit< tt, (in_time, ((in_time, small_bytes syn refl), (in_time, ((in_time, small_bytes syn_ack refl), (small_bytes (1 ∷ []) refl, (in_time, ((in_time, small_bytes data_byte refl), (tt, tt))))))))))
  where
    in_time : IsInTime 0
    in_time = omega arith

doings_fresh : FreshIsns storm_setup one_each doings
doings_fresh = both (λ e. AreFresh (user_sessions storm_setup one_each doings e)) (subst AreFresh (sym gave_is) (refl, tt)) (subst AreFresh (sym took_is) (refl, tt))

-- ---- the ends that are held

-- the end of an option, or that of nobody
abbrev the : Option EndState → EndState
the None = connected (pair_of storm_setup A) 0
the (Some u) = u

abbrev end_at : End → Option EndState
end_at e = held_end (pair_of storm_setup e) (stack_of (twins storm_setup one_each doings) e).node.ends

some_the : (o : Option EndState) → is_some o ≡ true → o ≡ Some (the o)
some_the None e = absurd (cc)
some_the (Some u) e = refl

one_there : is_some (end_at A) ≡ true
unfolding call sha1 digest_bytes hash_after compress rounds schedule first_words put2 put4 meant options_of find_ao keep sums complement_of pseudo header tcp_bytes checksum_of good spell first_fault fields reading with_right_checksum block_key hmac context context_of mac_input traffic_key mac choose follow judge ready arrive due_next due_again emit resend
one_there = refl

two_there : is_some (end_at B) ≡ true
unfolding call sha1 digest_bytes hash_after compress rounds schedule first_words put2 put4 meant options_of find_ao keep sums complement_of pseudo header tcp_bytes checksum_of good spell first_fault fields reading with_right_checksum block_key hmac context context_of mac_input traffic_key mac choose follow judge ready arrive due_next due_again emit resend
two_there = refl

here : (the (end_at A)).peer_isn ≡ Some (the (end_at B)).isn
unfolding call sha1 digest_bytes hash_after compress rounds schedule first_words put2 put4 meant options_of find_ao keep sums complement_of pseudo header tcp_bytes checksum_of good spell first_fault fields reading with_right_checksum block_key hmac context context_of mac_input traffic_key mac choose follow judge ready arrive due_next due_again emit resend
here = refl

there : (the (end_at B)).peer_isn ≡ Some (the (end_at A)).isn
unfolding call sha1 digest_bytes hash_after compress rounds schedule first_words put2 put4 meant options_of find_ao keep sums complement_of pseudo header tcp_bytes checksum_of good spell first_fault fields reading with_right_checksum block_key hmac context context_of mac_input traffic_key mac choose follow judge ready arrive due_next due_again emit resend
there = refl

pub delivers : Delivers storm_setup one_each doings
delivers = record {
  fits = storm_fits;
  all = doings_fit;
  fresh = doings_fresh;
  unforged = unforged;
  path = both (λ e. heard_in e doings ≡ handed_from (new_twins storm_setup one_each) (other e) doings) path_to_a path_to_b;
  one = the (end_at A);
  two = the (end_at B);
  holds_one = some_the (end_at A) one_there;
  holds_two = some_the (end_at B) two_there;
  partners = record { here = here; there = there };
  gave = gave_is;
  took = took_is;
}

pub is_met : (doings : List Doing) × Delivers storm_setup (λ e. 1) doings
is_met = (doings, delivers)
