-- The segments of RFC 9235, section 4.1, as they go out of one guard and come in at the other, computed from the definitions.
use Rattle.std.proofs.Common.{◌≡◌, ℕ, true, false, List, [], ◌∷◌, replicate, Some, None, Result, Ok, Err, ◌+◌, refl}
use Rattle.sha1.specs.Sha1.{sha1, digest_bytes, hash_after, compress, rounds, schedule, first_words}
use Rattle.book_base.specs.declared.address.Address.TheVariants.{V4}
use Rattle.book_base.specs.declared.address.Pair.{Pair}
use Rattle.book_base.specs.declared.address.Socket.{Socket}
use Rattle.book_base.specs.declared.algorithm.Algorithm.TheVariants.{HmacSha1}
use Rattle.book_segments.specs.Bytes.{put2, put4}
use Rattle.book_segments.specs.Meant.{meant}
use Rattle.book_segments.specs.Options.{options_of, find_ao}
use Rattle.book_segments.specs.Segments.{sums, complement_of, pseudo, header, tcp_bytes, checksum_of, good, spell, first_fault, fields, reading}
use Rattle.book_macs.specs.Hmac.{block_key, hmac}
use Rattle.book_macs.specs.Contexts.{context, context_of}
use Rattle.book_macs.specs.MacInput.{mac_input}
use Rattle.book_macs.specs.Keys.{traffic_key, mac}
use Rattle.book_keys.specs.declared.direction.Direction.TheVariants.{Both}
use Rattle.book_keys.specs.Rows.{Row}
use Rattle.book_keys.specs.Coordination.{choose, follow}
use Rattle.book_endpoint.specs.Verdicts.{judge}
use Rattle.book_endpoint.specs.declared.refusal.Refusal.TheVariants.{NoAo}
use Rattle.book_shim.specs.declared.kept.Kept.{Kept}
use Rattle.book_shim.specs.declared.refusal.Unsent.{Unsent}
use Rattle.book_shim.specs.declared.refusal.Unsent.TheVariants.{Unkeyed, NoContext}
use Rattle.book_shim.specs.declared.refusal.Untaken.{Untaken}
use Rattle.book_shim.specs.declared.refusal.Untaken.TheVariants.{Refused}
use Rattle.book_shim.specs.Keeping.{Setting, fresh}
use Rattle.book_shim.specs.Relaying.{rewritten, fitted_from, fitted, lowered, relaid}
use Rattle.book_shim.specs.Leaving.{Sealed, send_within, outbound}
use Rattle.book_shim.specs.Arriving.{Opened, judged_arrival, take_in, inbound}

-- what a guard keeps, and the bytes that it hands on
pub record Handed : Type 0 where
  pub kept : Kept
  pub bytes : List ℕ

abbrev pub sent_as : Result Sealed Unsent → Result Handed Unsent
sent_as (Ok m) = Ok (record { kept = m.kept; bytes = spell m.segment })
sent_as (Err why) = Err why

abbrev pub taken_as : Result Opened Untaken → Result Handed Untaken
taken_as (Ok t) = Ok (record { kept = t.kept; bytes = spell t.segment })
taken_as (Err why) = Err why

abbrev pub client : Socket
client = record { address = V4 (10 ∷ 11 ∷ 12 ∷ 13 ∷ []); port = 59863 }

abbrev pub server : Socket
server = record { address = V4 (172 ∷ 27 ∷ 28 ∷ 29 ∷ []); port = 179 }

abbrev pub at_client : Pair
at_client = record { local = client; remote = server }

abbrev pub at_server : Pair
at_server = record { local = server; remote = client }

-- the master key "testvector"
abbrev pub key_row : ℕ → ℕ → List Row
key_row send_sealed recv = record {
  recv_id = recv;
  send_id = send_sealed;
  peers = None ∷ [];
  local_port = None;
  peer_port = None;
  algorithm = HmacSha1;
  master = 116 ∷ 101 ∷ 115 ∷ 116 ∷ 118 ∷ 101 ∷ 99 ∷ 116 ∷ 111 ∷ 114 ∷ [];
  with_options = true;
  direction = Both;
  sending = record { first = 0; last = 253402300799 };
  accepting = record { first = 0; last = 253402300799 };
} ∷ []

abbrev pub rows_at_client : List Row
rows_at_client = key_row 61 84

abbrev pub rows_at_server : List Row
rows_at_server = key_row 84 61

-- under these rows, the own device taking 1,500 bytes
abbrev pub under : List Row → Setting
under rows = record { rows = rows; now = 0; mtu = 1500 }

-- the initial sequence numbers
abbrev pub client_isn : ℕ
client_isn = 4227574618

abbrev pub server_isn : ℕ
server_isn = 297878113

-- the client once its SYN is out
abbrev pub client_opening : Kept
client_opening = record { opening = Some client_isn; given_up = None; late = None; isns = None; settled = false; sent = 0; heard = 0; current = Some 1 }

-- the server once the SYN passed, which asks for a key
abbrev pub server_asked : Kept
server_asked = record { opening = None; given_up = None; late = None; isns = None; settled = false; sent = 0; heard = 0; current = Some 1 }

-- the server once its SYN with ACK is out
abbrev pub server_joined : Kept
server_joined = record { opening = None; given_up = None; late = None; isns = Some (record { own = server_isn; peer = client_isn }); settled = false; sent = server_isn + 1; heard = client_isn + 1; current = Some 1 }

-- the client once it heard it
abbrev pub client_joined : Kept
client_joined = record { opening = None; given_up = None; late = None; isns = Some (record { own = client_isn; peer = server_isn }); settled = false; sent = client_isn + 1; heard = server_isn + 1; current = Some 1 }

-- the client once another SYN is out, the first being given up
abbrev pub client_gave_up : Kept
client_gave_up = record client_opening { opening = Some 7; given_up = Some client_isn; current = None }

-- RFC 9235, section 4.1, the TCP checksum set right
abbrev pub sealed_syn : List ℕ
sealed_syn = 69 ∷ 224 ∷ 0 ∷ 76 ∷ 221 ∷ 15 ∷ 64 ∷ 0 ∷ 255 ∷ 6 ∷ 191 ∷ 107 ∷ 10 ∷ 11 ∷ 12 ∷ 13 ∷ 172 ∷ 27 ∷ 28 ∷ 29 ∷ 233 ∷ 215 ∷ 0 ∷ 179 ∷ 251 ∷ 251 ∷ 171 ∷ 90 ∷ 0 ∷ 0 ∷ 0 ∷ 0 ∷ 224 ∷ 2 ∷ 255 ∷ 255 ∷ 212 ∷ 94 ∷ 0 ∷ 0 ∷ 2 ∷ 4 ∷ 5 ∷ 180 ∷ 1 ∷ 3 ∷ 3 ∷ 8 ∷ 4 ∷ 2 ∷ 8 ∷ 10 ∷ 0 ∷ 21 ∷ 90 ∷ 183 ∷ 0 ∷ 0 ∷ 0 ∷ 0 ∷ 29 ∷ 16 ∷ 61 ∷ 84 ∷ 46 ∷ 228 ∷ 55 ∷ 198 ∷ 248 ∷ 237 ∷ 230 ∷ 215 ∷ 196 ∷ 214 ∷ 2 ∷ 231 ∷ []

-- the same without TCP-AO
abbrev pub plain_syn : List ℕ
plain_syn = 69 ∷ 224 ∷ 0 ∷ 60 ∷ 221 ∷ 15 ∷ 64 ∷ 0 ∷ 255 ∷ 6 ∷ 191 ∷ 123 ∷ 10 ∷ 11 ∷ 12 ∷ 13 ∷ 172 ∷ 27 ∷ 28 ∷ 29 ∷ 233 ∷ 215 ∷ 0 ∷ 179 ∷ 251 ∷ 251 ∷ 171 ∷ 90 ∷ 0 ∷ 0 ∷ 0 ∷ 0 ∷ 160 ∷ 2 ∷ 255 ∷ 255 ∷ 125 ∷ 1 ∷ 0 ∷ 0 ∷ 2 ∷ 4 ∷ 5 ∷ 180 ∷ 1 ∷ 3 ∷ 3 ∷ 8 ∷ 4 ∷ 2 ∷ 8 ∷ 10 ∷ 0 ∷ 21 ∷ 90 ∷ 183 ∷ 0 ∷ 0 ∷ 0 ∷ 0 ∷ []

-- as the kernel takes it
abbrev pub taken_syn : List ℕ
taken_syn = 69 ∷ 224 ∷ 0 ∷ 60 ∷ 221 ∷ 15 ∷ 64 ∷ 0 ∷ 255 ∷ 6 ∷ 191 ∷ 123 ∷ 10 ∷ 11 ∷ 12 ∷ 13 ∷ 172 ∷ 27 ∷ 28 ∷ 29 ∷ 233 ∷ 215 ∷ 0 ∷ 179 ∷ 251 ∷ 251 ∷ 171 ∷ 90 ∷ 0 ∷ 0 ∷ 0 ∷ 0 ∷ 160 ∷ 2 ∷ 255 ∷ 255 ∷ 125 ∷ 21 ∷ 0 ∷ 0 ∷ 2 ∷ 4 ∷ 5 ∷ 160 ∷ 1 ∷ 3 ∷ 3 ∷ 8 ∷ 4 ∷ 2 ∷ 8 ∷ 10 ∷ 0 ∷ 21 ∷ 90 ∷ 183 ∷ 0 ∷ 0 ∷ 0 ∷ 0 ∷ []

-- RFC 9235, section 4.1, the TCP checksum set right
abbrev pub sealed_syn_ack : List ℕ
sealed_syn_ack = 69 ∷ 224 ∷ 0 ∷ 76 ∷ 101 ∷ 6 ∷ 64 ∷ 0 ∷ 255 ∷ 6 ∷ 55 ∷ 117 ∷ 172 ∷ 27 ∷ 28 ∷ 29 ∷ 10 ∷ 11 ∷ 12 ∷ 13 ∷ 0 ∷ 179 ∷ 233 ∷ 215 ∷ 17 ∷ 193 ∷ 66 ∷ 97 ∷ 251 ∷ 251 ∷ 171 ∷ 91 ∷ 224 ∷ 18 ∷ 255 ∷ 255 ∷ 134 ∷ 203 ∷ 0 ∷ 0 ∷ 2 ∷ 4 ∷ 5 ∷ 180 ∷ 1 ∷ 3 ∷ 3 ∷ 8 ∷ 4 ∷ 2 ∷ 8 ∷ 10 ∷ 132 ∷ 165 ∷ 11 ∷ 235 ∷ 0 ∷ 21 ∷ 90 ∷ 183 ∷ 29 ∷ 16 ∷ 84 ∷ 61 ∷ 238 ∷ 171 ∷ 15 ∷ 226 ∷ 76 ∷ 48 ∷ 16 ∷ 129 ∷ 81 ∷ 22 ∷ 179 ∷ 190 ∷ []

-- the same without TCP-AO
abbrev pub plain_syn_ack : List ℕ
plain_syn_ack = 69 ∷ 224 ∷ 0 ∷ 60 ∷ 101 ∷ 6 ∷ 64 ∷ 0 ∷ 255 ∷ 6 ∷ 55 ∷ 133 ∷ 172 ∷ 27 ∷ 28 ∷ 29 ∷ 10 ∷ 11 ∷ 12 ∷ 13 ∷ 0 ∷ 179 ∷ 233 ∷ 215 ∷ 17 ∷ 193 ∷ 66 ∷ 97 ∷ 251 ∷ 251 ∷ 171 ∷ 91 ∷ 160 ∷ 18 ∷ 255 ∷ 255 ∷ 152 ∷ 61 ∷ 0 ∷ 0 ∷ 2 ∷ 4 ∷ 5 ∷ 180 ∷ 1 ∷ 3 ∷ 3 ∷ 8 ∷ 4 ∷ 2 ∷ 8 ∷ 10 ∷ 132 ∷ 165 ∷ 11 ∷ 235 ∷ 0 ∷ 21 ∷ 90 ∷ 183 ∷ []

-- as the kernel takes it
abbrev pub taken_syn_ack : List ℕ
taken_syn_ack = 69 ∷ 224 ∷ 0 ∷ 60 ∷ 101 ∷ 6 ∷ 64 ∷ 0 ∷ 255 ∷ 6 ∷ 55 ∷ 133 ∷ 172 ∷ 27 ∷ 28 ∷ 29 ∷ 10 ∷ 11 ∷ 12 ∷ 13 ∷ 0 ∷ 179 ∷ 233 ∷ 215 ∷ 17 ∷ 193 ∷ 66 ∷ 97 ∷ 251 ∷ 251 ∷ 171 ∷ 91 ∷ 160 ∷ 18 ∷ 255 ∷ 255 ∷ 152 ∷ 81 ∷ 0 ∷ 0 ∷ 2 ∷ 4 ∷ 5 ∷ 160 ∷ 1 ∷ 3 ∷ 3 ∷ 8 ∷ 4 ∷ 2 ∷ 8 ∷ 10 ∷ 132 ∷ 165 ∷ 11 ∷ 235 ∷ 0 ∷ 21 ∷ 90 ∷ 183 ∷ []

-- RFC 9235, section 4.1, the TCP checksum set right
abbrev pub sealed_text : List ℕ
sealed_text = 69 ∷ 224 ∷ 0 ∷ 135 ∷ 54 ∷ 161 ∷ 64 ∷ 0 ∷ 255 ∷ 6 ∷ 101 ∷ 159 ∷ 10 ∷ 11 ∷ 12 ∷ 13 ∷ 172 ∷ 27 ∷ 28 ∷ 29 ∷ 233 ∷ 215 ∷ 0 ∷ 179 ∷ 251 ∷ 251 ∷ 171 ∷ 91 ∷ 17 ∷ 193 ∷ 66 ∷ 98 ∷ 192 ∷ 24 ∷ 1 ∷ 4 ∷ 140 ∷ 222 ∷ 0 ∷ 0 ∷ 1 ∷ 1 ∷ 8 ∷ 10 ∷ 0 ∷ 21 ∷ 90 ∷ 193 ∷ 132 ∷ 165 ∷ 11 ∷ 235 ∷ 29 ∷ 16 ∷ 61 ∷ 84 ∷ 112 ∷ 100 ∷ 207 ∷ 153 ∷ 140 ∷ 198 ∷ 195 ∷ 21 ∷ 194 ∷ 194 ∷ 226 ∷ 191 ∷ 255 ∷ 255 ∷ 255 ∷ 255 ∷ 255 ∷ 255 ∷ 255 ∷ 255 ∷ 255 ∷ 255 ∷ 255 ∷ 255 ∷ 255 ∷ 255 ∷ 255 ∷ 255 ∷ 0 ∷ 67 ∷ 1 ∷ 4 ∷ 218 ∷ 191 ∷ 0 ∷ 180 ∷ 10 ∷ 11 ∷ 12 ∷ 13 ∷ 38 ∷ 2 ∷ 6 ∷ 1 ∷ 4 ∷ 0 ∷ 1 ∷ 0 ∷ 1 ∷ 2 ∷ 2 ∷ 128 ∷ 0 ∷ 2 ∷ 2 ∷ 2 ∷ 0 ∷ 2 ∷ 2 ∷ 66 ∷ 0 ∷ 2 ∷ 6 ∷ 65 ∷ 4 ∷ 0 ∷ 0 ∷ 218 ∷ 191 ∷ 2 ∷ 8 ∷ 64 ∷ 6 ∷ 0 ∷ 100 ∷ 0 ∷ 1 ∷ 1 ∷ 0 ∷ []

-- the same without TCP-AO
abbrev pub plain_text : List ℕ
plain_text = 69 ∷ 224 ∷ 0 ∷ 119 ∷ 54 ∷ 161 ∷ 64 ∷ 0 ∷ 255 ∷ 6 ∷ 101 ∷ 175 ∷ 10 ∷ 11 ∷ 12 ∷ 13 ∷ 172 ∷ 27 ∷ 28 ∷ 29 ∷ 233 ∷ 215 ∷ 0 ∷ 179 ∷ 251 ∷ 251 ∷ 171 ∷ 91 ∷ 17 ∷ 193 ∷ 66 ∷ 98 ∷ 128 ∷ 24 ∷ 1 ∷ 4 ∷ 92 ∷ 176 ∷ 0 ∷ 0 ∷ 1 ∷ 1 ∷ 8 ∷ 10 ∷ 0 ∷ 21 ∷ 90 ∷ 193 ∷ 132 ∷ 165 ∷ 11 ∷ 235 ∷ 255 ∷ 255 ∷ 255 ∷ 255 ∷ 255 ∷ 255 ∷ 255 ∷ 255 ∷ 255 ∷ 255 ∷ 255 ∷ 255 ∷ 255 ∷ 255 ∷ 255 ∷ 255 ∷ 0 ∷ 67 ∷ 1 ∷ 4 ∷ 218 ∷ 191 ∷ 0 ∷ 180 ∷ 10 ∷ 11 ∷ 12 ∷ 13 ∷ 38 ∷ 2 ∷ 6 ∷ 1 ∷ 4 ∷ 0 ∷ 1 ∷ 0 ∷ 1 ∷ 2 ∷ 2 ∷ 128 ∷ 0 ∷ 2 ∷ 2 ∷ 2 ∷ 0 ∷ 2 ∷ 2 ∷ 66 ∷ 0 ∷ 2 ∷ 6 ∷ 65 ∷ 4 ∷ 0 ∷ 0 ∷ 218 ∷ 191 ∷ 2 ∷ 8 ∷ 64 ∷ 6 ∷ 0 ∷ 100 ∷ 0 ∷ 1 ∷ 1 ∷ 0 ∷ []

-- as the kernel takes it
abbrev pub taken_text : List ℕ
taken_text = 69 ∷ 224 ∷ 0 ∷ 119 ∷ 54 ∷ 161 ∷ 64 ∷ 0 ∷ 255 ∷ 6 ∷ 101 ∷ 175 ∷ 10 ∷ 11 ∷ 12 ∷ 13 ∷ 172 ∷ 27 ∷ 28 ∷ 29 ∷ 233 ∷ 215 ∷ 0 ∷ 179 ∷ 251 ∷ 251 ∷ 171 ∷ 91 ∷ 17 ∷ 193 ∷ 66 ∷ 98 ∷ 128 ∷ 24 ∷ 1 ∷ 4 ∷ 92 ∷ 176 ∷ 0 ∷ 0 ∷ 1 ∷ 1 ∷ 8 ∷ 10 ∷ 0 ∷ 21 ∷ 90 ∷ 193 ∷ 132 ∷ 165 ∷ 11 ∷ 235 ∷ 255 ∷ 255 ∷ 255 ∷ 255 ∷ 255 ∷ 255 ∷ 255 ∷ 255 ∷ 255 ∷ 255 ∷ 255 ∷ 255 ∷ 255 ∷ 255 ∷ 255 ∷ 255 ∷ 0 ∷ 67 ∷ 1 ∷ 4 ∷ 218 ∷ 191 ∷ 0 ∷ 180 ∷ 10 ∷ 11 ∷ 12 ∷ 13 ∷ 38 ∷ 2 ∷ 6 ∷ 1 ∷ 4 ∷ 0 ∷ 1 ∷ 0 ∷ 1 ∷ 2 ∷ 2 ∷ 128 ∷ 0 ∷ 2 ∷ 2 ∷ 2 ∷ 0 ∷ 2 ∷ 2 ∷ 66 ∷ 0 ∷ 2 ∷ 6 ∷ 65 ∷ 4 ∷ 0 ∷ 0 ∷ 218 ∷ 191 ∷ 2 ∷ 8 ∷ 64 ∷ 6 ∷ 0 ∷ 100 ∷ 0 ∷ 1 ∷ 1 ∷ 0 ∷ []

-- timestamps, and after them three blocks of selective acknowledgements
abbrev pub times_and_sacks : List ℕ
times_and_sacks = 1 ∷ 1 ∷ 8 ∷ 10 ∷ 1 ∷ 2 ∷ 3 ∷ 4 ∷ 5 ∷ 6 ∷ 7 ∷ 8 ∷ 1 ∷ 1 ∷ 5 ∷ 26 ∷ 0 ∷ 0 ∷ 0 ∷ 1 ∷ 0 ∷ 0 ∷ 0 ∷ 2 ∷ 0 ∷ 0 ∷ 0 ∷ 3 ∷ 0 ∷ 0 ∷ 0 ∷ 4 ∷ 0 ∷ 0 ∷ 0 ∷ 5 ∷ 0 ∷ 0 ∷ 0 ∷ 6 ∷ []

abbrev pub times_and_sack : List ℕ
times_and_sack = 1 ∷ 1 ∷ 8 ∷ 10 ∷ 1 ∷ 2 ∷ 3 ∷ 4 ∷ 5 ∷ 6 ∷ 7 ∷ 8 ∷ 1 ∷ 1 ∷ 5 ∷ 10 ∷ 0 ∷ 0 ∷ 0 ∷ 1 ∷ 0 ∷ 0 ∷ 0 ∷ 2 ∷ []

abbrev pub times_and_sack_packed : List ℕ
times_and_sack_packed = 8 ∷ 10 ∷ 1 ∷ 2 ∷ 3 ∷ 4 ∷ 5 ∷ 6 ∷ 7 ∷ 8 ∷ 5 ∷ 10 ∷ 0 ∷ 0 ∷ 0 ∷ 1 ∷ 0 ∷ 0 ∷ 0 ∷ 2 ∷ []

-- of a SYN with ACK: a maximum segment size, permission to acknowledge selectively, a window scale, and multipath
abbrev pub syn_with_multipath : List ℕ
syn_with_multipath = 2 ∷ 4 ∷ 5 ∷ 180 ∷ 4 ∷ 2 ∷ 1 ∷ 3 ∷ 3 ∷ 7 ∷ 1 ∷ 1 ∷ 30 ∷ 12 ∷ 1 ∷ 1 ∷ 1 ∷ 2 ∷ 3 ∷ 4 ∷ 5 ∷ 6 ∷ 7 ∷ 8 ∷ []

abbrev pub syn_without_multipath : List ℕ
syn_without_multipath = 2 ∷ 4 ∷ 5 ∷ 180 ∷ 4 ∷ 2 ∷ 1 ∷ 3 ∷ 3 ∷ 7 ∷ 1 ∷ 1 ∷ []

abbrev pub long_body : List ℕ
long_body = replicate 38 7

-- the client's SYN goes out as 4.1.1
pub syn_sealed : sent_as (outbound (under rows_at_client) at_client fresh plain_syn) ≡ Ok (record { kept = client_opening; bytes = sealed_syn })
unfolding sha1 digest_bytes hash_after compress rounds schedule first_words put2 put4 meant options_of find_ao sums complement_of pseudo header tcp_bytes checksum_of good spell first_fault fields reading block_key hmac context context_of mac_input traffic_key mac choose follow judge rewritten fitted_from relaid send_within judged_arrival take_in
syn_sealed = refl

-- it comes in at the server
pub syn_opened : taken_as (inbound (under rows_at_server) at_server fresh sealed_syn) ≡ Ok (record { kept = server_asked; bytes = taken_syn })
unfolding sha1 digest_bytes hash_after compress rounds schedule first_words put2 put4 meant options_of find_ao sums complement_of pseudo header tcp_bytes checksum_of good spell first_fault fields reading block_key hmac context context_of mac_input traffic_key mac choose follow judge rewritten fitted_from relaid send_within judged_arrival take_in
syn_opened = refl

-- the server's SYN with ACK goes out as 4.1.2
pub syn_ack_sealed : sent_as (outbound (under rows_at_server) at_server server_asked plain_syn_ack) ≡ Ok (record { kept = server_joined; bytes = sealed_syn_ack })
unfolding sha1 digest_bytes hash_after compress rounds schedule first_words put2 put4 meant options_of find_ao sums complement_of pseudo header tcp_bytes checksum_of good spell first_fault fields reading block_key hmac context context_of mac_input traffic_key mac choose follow judge rewritten fitted_from relaid send_within judged_arrival take_in
syn_ack_sealed = refl

-- it comes in at the client
pub syn_ack_opened : taken_as (inbound (under rows_at_client) at_client client_opening sealed_syn_ack) ≡ Ok (record { kept = client_joined; bytes = taken_syn_ack })
unfolding sha1 digest_bytes hash_after compress rounds schedule first_words put2 put4 meant options_of find_ao sums complement_of pseudo header tcp_bytes checksum_of good spell first_fault fields reading block_key hmac context context_of mac_input traffic_key mac choose follow judge rewritten fitted_from relaid send_within judged_arrival take_in
syn_ack_opened = refl

-- where it comes late it is taken, and the SYN that is out stays out
pub late_syn_ack_opened : taken_as (inbound (under rows_at_client) at_client client_gave_up sealed_syn_ack)
    ≡ Ok (record { kept = record client_gave_up { late = Some (record { own = client_isn; peer = server_isn }) }; bytes = taken_syn_ack })
unfolding sha1 digest_bytes hash_after compress rounds schedule first_words put2 put4 meant options_of find_ao sums complement_of pseudo header tcp_bytes checksum_of good spell first_fault fields reading block_key hmac context context_of mac_input traffic_key mac choose follow judge rewritten fitted_from relaid send_within judged_arrival take_in
late_syn_ack_opened = refl

-- the client's text goes out as 4.1.3
pub text_sealed : sent_as (outbound (under rows_at_client) at_client client_joined plain_text) ≡ Ok (record { kept = record client_joined { settled = true; sent = client_isn + 68 }; bytes = sealed_text })
unfolding sha1 digest_bytes hash_after compress rounds schedule first_words put2 put4 meant options_of find_ao sums complement_of pseudo header tcp_bytes checksum_of good spell first_fault fields reading block_key hmac context context_of mac_input traffic_key mac choose follow judge rewritten fitted_from relaid send_within judged_arrival take_in
text_sealed = refl

-- it comes in at the server
pub text_opened : taken_as (inbound (under rows_at_server) at_server server_joined sealed_text) ≡ Ok (record { kept = record server_joined { settled = true; heard = client_isn + 68 }; bytes = taken_text })
unfolding sha1 digest_bytes hash_after compress rounds schedule first_words put2 put4 meant options_of find_ao sums complement_of pseudo header tcp_bytes checksum_of good spell first_fault fields reading block_key hmac context context_of mac_input traffic_key mac choose follow judge rewritten fitted_from relaid send_within judged_arrival take_in
text_opened = refl

-- before the handshake no text goes out
pub no_context : sent_as (outbound (under rows_at_client) at_client fresh plain_text) ≡ Err NoContext
unfolding sha1 digest_bytes hash_after compress rounds schedule first_words put2 put4 meant options_of find_ao sums complement_of pseudo header tcp_bytes checksum_of good spell first_fault fields reading block_key hmac context context_of mac_input traffic_key mac choose follow judge rewritten fitted_from relaid send_within judged_arrival take_in
no_context = refl

-- where no row is for the pair, none goes out
pub no_row : sent_as (outbound (under []) at_client client_joined plain_text) ≡ Err Unkeyed
unfolding sha1 digest_bytes hash_after compress rounds schedule first_words put2 put4 meant options_of find_ao sums complement_of pseudo header tcp_bytes checksum_of good spell first_fault fields reading block_key hmac context context_of mac_input traffic_key mac choose follow judge rewritten fitted_from relaid send_within judged_arrival take_in
no_row = refl

-- a segment without TCP-AO isn't taken
pub no_option : taken_as (inbound (under rows_at_server) at_server server_joined plain_text) ≡ Err (Refused NoAo)
unfolding sha1 digest_bytes hash_after compress rounds schedule first_words put2 put4 meant options_of find_ao sums complement_of pseudo header tcp_bytes checksum_of good spell first_fault fields reading block_key hmac context context_of mac_input traffic_key mac choose follow judge rewritten fitted_from relaid send_within judged_arrival take_in
no_option = refl

-- of three blocks of selective acknowledgements after timestamps the first stays where TCP-AO has 16 bytes
pub first_block : fitted 24 times_and_sacks ≡ Some times_and_sack
unfolding sha1 digest_bytes hash_after compress rounds schedule first_words put2 put4 meant options_of find_ao sums complement_of pseudo header tcp_bytes checksum_of good spell first_fault fields reading block_key hmac context context_of mac_input traffic_key mac choose follow judge rewritten fitted_from relaid send_within judged_arrival take_in
first_block = refl

-- where it has 20 the block stays without what only fills up
pub packed_block : fitted 20 times_and_sacks ≡ Some times_and_sack_packed
unfolding sha1 digest_bytes hash_after compress rounds schedule first_words put2 put4 meant options_of find_ao sums complement_of pseudo header tcp_bytes checksum_of good spell first_fault fields reading block_key hmac context context_of mac_input traffic_key mac choose follow judge rewritten fitted_from relaid send_within judged_arrival take_in
packed_block = refl

-- multipath gives way to TCP-AO, and nothing else does
pub no_multipath : fitted 20 syn_with_multipath ≡ Some syn_without_multipath
unfolding sha1 digest_bytes hash_after compress rounds schedule first_words put2 put4 meant options_of find_ao sums complement_of pseudo header tcp_bytes checksum_of good spell first_fault fields reading block_key hmac context context_of mac_input traffic_key mac choose follow judge rewritten fitted_from relaid send_within judged_arrival take_in
no_multipath = refl

-- a peer with large datagrams is told what the own device takes, less 20
pub bounded : lowered 1460 (35 ∷ 0 ∷ []) ≡ 1440
bounded = refl

-- options of 40 bytes of which none may be left out have no room
pub no_room : fitted 24 (254 ∷ 40 ∷ long_body) ≡ None
unfolding sha1 digest_bytes hash_after compress rounds schedule first_words put2 put4 meant options_of find_ao sums complement_of pseudo header tcp_bytes checksum_of good spell first_fault fields reading block_key hmac context context_of mac_input traffic_key mac choose follow judge rewritten fitted_from relaid send_within judged_arrival take_in
no_room = refl
