-- What the MAC of a segment is computed over: `mac_input` is the file's top.
use Rattle.std.specs.Prelude.{ℕ, ◌+◌, ◌/◌, Bool, true, false}
use Rattle.std.specs.Prelude.{List, ◌∷◌, ◌++◌, length, take, drop, replicate}
use Rattle.book_segments.specs.Bytes.{put4, ring}
use Rattle.book_segments.specs.Options.{Ao, ao_kind, ao_head_length}
use Rattle.book_segments.specs.Segments.{Segment, pseudo, header}

-- the options that the MAC covers: the whole option area with the MAC zero, or the TCP-AO option
-- alone with the MAC zero (RFC 5925, section 5.1)
abbrev pub covered : Bool → List ℕ → Ao → List ℕ
covered true area ao =
    take (ao.place + ao_head_length) area
    ++ (replicate (length ao.mac) 0 ++ drop (ao.place + ao_head_length + length ao.mac) area)
covered false area ao =
    ao_kind ∷ (ao_head_length + length ao.mac) ∷ ao.key_id ∷ ao.rnext_key_id
    ∷ replicate (length ao.mac) 0

-- the input of the MAC: the sequence number extension, the pseudo-header, the TCP header with
-- checksum zero, the options that are covered, and the payload (RFC 5925, section 5.1)
unfoldable pub mac_input : ℕ → Segment → Ao → Bool → List ℕ
mac_input number d ao with_options =
    put4 (number / ring) (pseudo d (header d 0 (covered with_options d.area ao ++ d.payload)))
