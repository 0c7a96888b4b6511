-- How the MAC of a segment is made, step by step (RFC 5925, sections 5.1 and 5.2; RFC 5926, section
-- 3). Its tops: `recipe_of` and `mac_made`.
use Rattle.std.specs.Prelude.{ℕ, ◌+◌, ◌-◌, ◌*◌, ◌/◌, ◌%◌, Bool, true, false}
use Rattle.std.specs.Prelude.{List, [], ◌∷◌, ◌++◌, length, take, drop, replicate, if◌then◌else◌}
use Rattle.sha1.specs.Sha1.{sha1}
use Rattle.sha2.specs.Sha256.{sha256}
use Rattle.book_base.specs.declared.address.Socket.{Socket}
use Rattle.book_base.specs.Algorithms.{mac_length_of}
use Rattle.book_base.specs.declared.algorithm.Algorithm.{Algorithm}
use Rattle.book_base.specs.declared.algorithm.Algorithm.TheVariants.{HmacSha1, AesCmac, HmacSha256}
use Rattle.book_segments.specs.Bytes.{put4, ring}
use Rattle.book_segments.specs.Options.{Ao}
use Rattle.book_segments.specs.Segments.{Segment, pseudo, header}
use Rattle.book_macs.specs.Ciphers.{prf}
use Rattle.book_macs.specs.Contexts.{context}
use Rattle.book_macs.specs.Hmac.{hmac}
use Rattle.book_macs.specs.Keys.{derivation_input, key_length, untruncated}
use Rattle.book_keys.specs.Rows.{Row}
use Rattle.book_why.specs.declared.change.MacPart.{MacPart}
use Rattle.book_why.specs.declared.change.MacPart.TheVariants.{First, Last}

-- how a MAC is made: the algorithm, the master key, what the key derivation hashes, what the MAC is
-- computed over, and which part of the whole MAC is sent (RFC 5925, sections 5.1 and 5.2)
pub record Recipe : Type 0 where
  pub algorithm : Algorithm
  pub master : List ℕ
  pub derivation : List ℕ
  pub input : List ℕ
  pub part : MacPart
  pub taken : ℕ  -- how many bytes are sent

-- the pseudo-random function of the key derivation (RFC 5926, section 3.1; own for HMAC-SHA-256)
abbrev pub key_made : Algorithm → (master derivation : List ℕ) → List ℕ
key_made HmacSha1 master derivation = hmac sha1 master derivation
key_made AesCmac master derivation = prf master derivation
key_made HmacSha256 master derivation = hmac sha256 master derivation

-- so many bytes of a whole MAC (RFC 5926, section 3.2; its last ones: own)
abbrev pub part_of : MacPart → ℕ → List ℕ → List ℕ
part_of First n bytes = take n bytes
part_of Last n bytes = drop (length bytes - n) bytes

-- the MAC that a recipe makes (RFC 5925, sections 5.1 and 5.2)
unfoldable pub mac_made : Recipe → List ℕ
mac_made r =
    part_of r.part r.taken
    (untruncated r.algorithm (key_made r.algorithm r.master r.derivation) r.input)

-- a segment whose MAC is in question: its number, the initial sequence numbers of its source and
-- its destination, and the row under which it is judged (RFC 5925, section 7.5)
pub record Suspect : Type 0 where
  pub segment : Segment
  pub ao : Ao
  pub number : ℕ
  pub source_isn : ℕ
  pub destination_isn : ℕ
  pub row : Row

-- the choices of which a recipe follows: what goes into the key derivation, and what into the MAC
-- (RFC 5925, sections 5.1 and 5.2; RFC 5926, section 3)
pub record MacChoices : Type 0 where
  pub algorithm : Algorithm
  pub master : List ℕ
  pub source : Socket
  pub destination : Socket
  pub source_isn : ℕ
  pub destination_isn : ℕ
  pub output_length : ℕ  -- as the key derivation is told it
  pub extension : ℕ
  pub pseudo_header : Bool
  pub checksum : ℕ  -- what stands in the checksum's place in the input
  pub with_options : Bool
  pub mac_bytes : List ℕ  -- what stands in the MAC's place in the input
  pub part : MacPart
  pub cut : Bool  -- the MAC is cut to 96 bits, whatever the algorithm

-- the right choices under a row: the length in bits, the checksum and the MAC zero (RFC 5925,
-- sections 5.1 and 5.2; RFC 5926, section 3.1)
abbrev pub right_choices : Row → Suspect → MacChoices
right_choices row s = record {
  algorithm = row.algorithm;
  master = row.master;
  source = s.segment.source;
  destination = s.segment.destination;
  source_isn = s.source_isn;
  destination_isn = s.destination_isn;
  output_length = 8 * key_length row.algorithm;
  extension = s.number / ring;
  pseudo_header = true;
  checksum = 0;
  with_options = row.with_options;
  mac_bytes = replicate (length s.ao.mac) 0;
  part = First;
  cut = false;
}

-- the options that the MAC covers, with these bytes in the MAC's place: all of them, or the TCP-AO
-- option alone (RFC 5925, section 5.1)
abbrev pub covered_with : Bool → (area : List ℕ) → Ao → (mac : List ℕ) → List ℕ
covered_with true area ao mac =
    take (ao.place + 4) area ++ (mac ++ drop (ao.place + 4 + length ao.mac) area)
covered_with false area ao mac =
    29 ∷ (4 + length ao.mac) ∷ ao.key_id ∷ ao.rnext_key_id ∷ mac

-- the pseudo-header, if it is there, and then the rest (RFC 5925, section 5.1)
abbrev pub behind_pseudo : Bool → Segment → List ℕ → List ℕ
behind_pseudo present d rest = if present then pseudo d rest else rest

-- what the MAC is computed over by these choices (RFC 5925, section 5.1)
abbrev pub input_made : MacChoices → Segment → Ao → List ℕ
input_made m d ao =
    let options = covered_with m.with_options d.area ao m.mac_bytes in
    put4 m.extension (behind_pseudo m.pseudo_header d (header d m.checksum (options ++ d.payload)))

-- how many bytes of a whole MAC are sent: as many as the algorithm says, or 96 bits (RFC 5926,
-- section 3.2, and own)
abbrev pub bytes_sent : MacChoices → ℕ
bytes_sent m = if m.cut then 12 else mac_length_of m.algorithm

-- the recipe of a segment by these choices (RFC 5925, sections 5.1 and 5.2)
abbrev pub recipe_by : MacChoices → Segment → Ao → Recipe
recipe_by m d ao = record {
  algorithm = m.algorithm;
  master = m.master;
  derivation = derivation_input (context m.source m.destination m.source_isn m.destination_isn)
      m.output_length;
  input = input_made m d ao;
  part = m.part;
  taken = bytes_sent m;
}

-- the right recipe of a segment (RFC 5925, sections 5.1 and 5.2)
abbrev pub recipe_of : Suspect → Recipe
recipe_of s = recipe_by (right_choices s.row s) s.segment s.ao
