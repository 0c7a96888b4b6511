-- What the lines of test vectors say. Our own format. Its top is `vector_of`.
use Rattle.std.specs.Prelude.{ℕ, ◌+◌, ◌*◌, ◌==◌, if◌then◌else◌, Bool, List, length, codes, Option}
use Rattle.std.specs.Prelude.{Some, None, Result, Ok, Err}
use Rattle.std.specs.Str.{bytes_eq}
use Rattle.sha1.specs.Sha1.{sha1}
use Rattle.sha2.specs.Sha256.{sha256}
use Rattle.book_base.specs.declared.algorithm.Algorithm.{Algorithm}
use Rattle.book_lines.specs.declared.line_kind.LineKind.{LineKind}
use Rattle.book_lines.specs.declared.line_kind.LineKind.TheVariants.{Word, Range}
use Rattle.book_base.specs.Algorithms.{mac_length_of}
use Rattle.book_segments.specs.Bytes.{ring}
use Rattle.book_segments.specs.Options.{Ao, AoFound, One, find_ao}
use Rattle.book_segments.specs.Segments.{Segment, Reading, Bad, Read, reading}
use Rattle.book_keys.specs.MasterKeys.{longest_master_key}
use Rattle.book_macs.specs.Ciphers.{aes, cmac, prf}
use Rattle.book_macs.specs.Contexts.{context}
use Rattle.book_macs.specs.Hmac.{hmac}
use Rattle.book_macs.specs.Keys.{mac, traffic_key}
use Rattle.book_macs.specs.MacInput.{mac_input}
use Rattle.book_lines.specs.Words.{Taken, word_in, nothing_in, hex_in, sized_hex_in, number_in}
use Rattle.book_lines.specs.Words.{algorithm_in}
use Rattle.book_base.specs.Results.{◌>>=◌, or_fault}
use Rattle.book_cmd_check.specs.VectorWords.{message_in, context_in, covering_in}
use Rattle.book_cmd_link.specs.LinkEvents.{greatest_isn}

-- a test vector: what is computed, and what its line says (own)
pub record Vector : Type 0 where
  pub computed : List ℕ
  pub expected : List ℕ

-- a key, a message, and what an algorithm makes of them (own)
pub record Keyed : Type 0 where
  pub key : List ℕ
  pub message : List ℕ
  pub expected : List ℕ

-- what the words `KEY MESSAGE OUT` say (own)
unfoldable pub keyed_of : List (List ℕ) → Result Keyed LineKind
keyed_of ws = do
  key ← hex_in ws
  message ← message_in key.rest
  out ← hex_in message.rest
  none ← nothing_in out.rest
  Ok (record { key = key.value; message = message.value; expected = out.value })

-- the test vector `KEY MESSAGE OUT` of an algorithm (own)
abbrev pub keyed_vector : (List ℕ → List ℕ → List ℕ) → List (List ℕ) → Result Vector LineKind
keyed_vector algorithm ws = do
  k ← keyed_of ws
  Ok (record { computed = algorithm k.key k.message; expected = k.expected })

-- how many bytes a key of AES-128 has, and a block (FIPS 197, section 5)
abbrev pub aes_length : ℕ
aes_length = 16

-- the test vector `KEY MESSAGE OUT` of AES-CMAC, with a key of 16 bytes (RFC 4493, section 2.4,
-- and own)
unfoldable pub cmac_vector : List (List ℕ) → Result Vector LineKind
cmac_vector ws = do
  key ← sized_hex_in aes_length aes_length ws
  message ← message_in key.rest
  out ← hex_in message.rest
  none ← nothing_in out.rest
  Ok (record { computed = cmac key.value message.value; expected = out.value })

-- the test vector `KEY BLOCK OUT` of AES-128, with 16 bytes each of key and block (FIPS 197,
-- section 5.1, and own)
unfoldable pub aes_vector : List (List ℕ) → Result Vector LineKind
aes_vector ws = do
  key ← sized_hex_in aes_length aes_length ws
  block ← sized_hex_in aes_length aes_length key.rest
  out ← hex_in block.rest
  none ← nothing_in out.rest
  Ok (record { computed = aes key.value block.value; expected = out.value })

-- the test vector `ALGORITHM MASTER CONTEXT OUT` of a traffic key (RFC 5926, section 3.1, and
-- own)
unfoldable pub kdf_vector : List (List ℕ) → Result Vector LineKind
kdf_vector ws = do
  algorithm ← algorithm_in ws
  master ← sized_hex_in 1 longest_master_key algorithm.rest
  context ← context_in master.rest
  out ← hex_in context.rest
  none ← nothing_in out.rest
  Ok (record {
    computed = traffic_key algorithm.value master.value context.value;
    expected = out.value;
  })

-- a datagram with its TCP-AO option (RFC 5925, section 2.2)
pub record Signed : Type 0 where
  pub segment : Segment
  pub ao : Ao

-- one TCP-AO option with a MAC of the algorithm's length (RFC 5926, section 3.2, and own)
abbrev pub signed_by : Algorithm → Segment → AoFound → Option Signed
signed_by algorithm d (One ao) =
    if length ao.mac == mac_length_of algorithm then Some (record { segment = d; ao = ao })
    else None
signed_by algorithm d _ = None

-- the datagram that was read, where it has one TCP-AO option with a MAC of the algorithm's length
-- (RFC 5925, section 2.2, and own)
abbrev pub signed_in_reading : Algorithm → Reading → Option Signed
signed_in_reading algorithm (Read d) = signed_by algorithm d (find_ao d.area)
signed_in_reading algorithm (Bad fault) = None

-- the datagram that a prefix of the bytes spells, where it has one TCP-AO option with a MAC of
-- the algorithm's length (RFC 5925, section 2.2, and own)
unfoldable pub signed_of : Algorithm → List ℕ → Option Signed
signed_of algorithm bytes = signed_in_reading algorithm (reading bytes)

-- how the MAC of a segment is made: the algorithm, the initial sequence numbers of its source and
-- its destination, the sequence number extension, and whether all options are covered (RFC 5925,
-- sections 3.1, 5.1, 5.2 and 6.2)
pub record MacMaking : Type 0 where
  pub algorithm : Algorithm
  pub source_isn : ℕ
  pub dest_isn : ℕ
  pub extension : ℕ
  pub covering : Bool

-- the MAC of a datagram under the traffic key of its sockets and these initial sequence numbers,
-- with this sequence number extension (RFC 5925, sections 5.1, 5.2 and 6.2)
abbrev pub mac_of_signed : List ℕ → MacMaking → Signed → List ℕ
mac_of_signed master m s =
    let d = s.segment in
    let key_context = context d.source d.destination m.source_isn m.dest_isn in
    let input = mac_input (m.extension * ring + d.sequence) d s.ao m.covering in
    mac m.algorithm (traffic_key m.algorithm master key_context) input

-- the next words as how a MAC is made: `SOURCEISN DESTISN EXTENSION options`, or `no-options`
-- (own)
unfoldable pub making_in : Algorithm → List (List ℕ) → Result (Taken MacMaking) LineKind
making_in algorithm ws = do
  source_isn ← number_in 0 greatest_isn ws
  dest_isn ← number_in 0 greatest_isn source_isn.rest
  extension ← number_in 0 greatest_isn dest_isn.rest
  covering ← covering_in extension.rest
  Ok (record {
    value = record {
      algorithm = algorithm;
      source_isn = source_isn.value;
      dest_isn = dest_isn.value;
      extension = extension.value;
      covering = covering.value;
    };
    rest = covering.rest;
  })

-- the test vector `ALGORITHM MASTER SOURCEISN DESTISN EXTENSION options DATAGRAM`, or
-- `no-options`, of the MAC of a datagram (RFC 5925, section 5.1, and own)
unfoldable pub segment_vector : List (List ℕ) → Result Vector LineKind
segment_vector ws = do
  algorithm ← algorithm_in ws
  master ← sized_hex_in 1 longest_master_key algorithm.rest
  making ← making_in algorithm.value master.rest
  bytes ← hex_in making.rest
  signed ← or_fault (signed_of algorithm.value bytes.value) Range
  no_more ← nothing_in bytes.rest
  Ok (record {
    computed = mac_of_signed master.value making.value signed;
    expected = signed.ao.mac;
  })

-- the vector that the first word of a line names, of the words after it: of RFC 2104, FIPS 197,
-- RFC 4493, RFC 4615, RFC 5926 or RFC 5925 (own)
unfoldable pub vector_named : List ℕ → List (List ℕ) → Result Vector LineKind
vector_named name ws =
    if bytes_eq name (codes "hmac") then keyed_vector (hmac sha1) ws
    else if bytes_eq name (codes "hmac256") then keyed_vector (hmac sha256) ws
    else if bytes_eq name (codes "aes") then aes_vector ws
    else if bytes_eq name (codes "cmac") then cmac_vector ws
    else if bytes_eq name (codes "prf") then keyed_vector prf ws
    else if bytes_eq name (codes "kdf") then kdf_vector ws
    else if bytes_eq name (codes "segment") then segment_vector ws
    else Err Word

-- the vector that the words of a line say (own)
unfoldable pub vector_of : List (List ℕ) → Result Vector LineKind
vector_of ws = do
  name ← word_in ws
  vector_named name.value name.rest
