-- TCP options (RFC 9293, section 3.2), and the TCP-AO option among them (RFC 5925, section 2.2):
-- `options_of` and `find_ao` are the file's tops.
use Rattle.std.specs.Prelude.{ℕ, zero, suc, ◌+◌, ◌-◌, ◌*◌, ◌==◌, nat_lt, ◌&&◌, if◌then◌else◌}
use Rattle.std.specs.Prelude.{List, [], ◌∷◌, length, take, drop, slice_index, Option, Some, None}
use Rattle.book_base.specs.Fronts.{Front, Ends, Faulted, Leads, fronted}
use Rattle.book_segments.specs.declared.fault.OptionFault.{OptionFault}
use Rattle.book_segments.specs.declared.fault.OptionFault.TheVariants.{ShortLength, PastEnd}

-- an option, with the place of its kind byte in the area (RFC 9293, section 3.2)
pub record Opt : Type 0 where
  pub kind : ℕ
  pub body : List ℕ
  pub place : ℕ

-- the options of an area, or the fault of the first option that has one (RFC 9293, section 3.2)
pub data Options : Type 0 where
  Listed : (list : List Opt) → Options
  Faulty : (fault : OptionFault) → Options

-- an option in front of those that follow it, which may have a fault (RFC 9293, section 3.2)
abbrev pub and_then : Opt → Options → Options
and_then o (Listed list) = Listed (o ∷ list)
and_then o (Faulty fault) = Faulty fault

-- the option kind of the maximum segment size (RFC 9293, section 3.2)
abbrev pub mss_kind : ℕ
mss_kind = 2

-- the option kind of TCP MD5 (RFC 2385, section 3.0)
abbrev pub md5_kind : ℕ
md5_kind = 19

-- the option kind of TCP-AO (RFC 5925, section 2.2)
abbrev pub ao_kind : ℕ
ao_kind = 29

-- the length of a TCP-AO option less its MAC: kind, length, KeyID and RNextKeyID (RFC 5925,
-- section 2.2)
abbrev pub ao_head_length : ℕ
ao_head_length = 4

-- the least length that an option of this kind may give (RFC 9293, section 3.2; RFC 5925, section
-- 2.2)
abbrev pub least : ℕ → ℕ
least kind = if kind == ao_kind then ao_head_length else 2

-- an option as it stands in an area: kind, body, and how many bytes it takes (RFC 9293, section
-- 3.2)
pub record Sized : Type 0 where
  pub kind : ℕ
  pub body : List ℕ
  pub size : ℕ

-- what may be wrong with the length of an option (RFC 9293, section 3.2)
pub data LengthFault : Type 0 where
  TooShort TooLong : LengthFault

-- what stands at the front of an area: kinds 0 and 1 are one byte, and behind kind 0 no option
-- stands; every other option has kind, length and body (RFC 9293, section 3.2)
abbrev pub option_front : List ℕ → Front Sized LengthFault
option_front [] = Ends
option_front (zero ∷ rest) = Leads (record { kind = 0; body = []; size = 1 }) []
option_front (suc zero ∷ rest) = Leads (record { kind = 1; body = []; size = 1 }) rest
option_front (suc (suc k) ∷ []) = Faulted TooLong
option_front (suc (suc k) ∷ size ∷ rest) =
    if nat_lt size (least (suc (suc k))) then Faulted TooShort
    else if nat_lt (length rest + 2) size then Faulted TooLong
    else Leads (record { kind = suc (suc k); body = take (size - 2) rest; size = size })
    (drop (size - 2) rest)

-- options one after another from a place on, and the fault behind them (RFC 9293, section 3.2)
abbrev pub placed_from : ℕ → List Sized → Option LengthFault → Options
placed_from p [] None = Listed []
placed_from p [] (Some TooShort) = Faulty (ShortLength p)
placed_from p [] (Some TooLong) = Faulty (PastEnd p)
placed_from p (o ∷ os) fault =
    and_then (record { kind = o.kind; body = o.body; place = p })
    (placed_from (p + o.size) os fault)

-- the options of an area that begins at a place (RFC 9293, section 3.2)
abbrev pub options_at : ℕ → List ℕ → Options
options_at p area =
    let found = fronted option_front area in placed_from p found.items found.fault

-- the options of an area up to and with kind 0 (RFC 9293, section 3.2)
unfoldable pub options_of : List ℕ → Options
options_of area = options_at 0 area

-- the options of this kind (own)
abbrev pub of_kind : ℕ → List Opt → List Opt
of_kind kind [] = []
of_kind kind (o ∷ os) = if o.kind == kind then o ∷ of_kind kind os else of_kind kind os

-- the options of an area where there is no fault, and none where there is one (own)
abbrev pub listed : Options → List Opt
listed (Listed list) = list
listed (Faulty fault) = []

-- an option without its place (RFC 9293, section 3.2)
pub record Plain : Type 0 where
  pub kind : ℕ
  pub body : List ℕ

-- options without their places (RFC 9293, section 3.2)
abbrev pub plains : List Opt → List Plain
plains [] = []
plains (o ∷ os) = record { kind = o.kind; body = o.body } ∷ plains os

-- an area has no option with a fault (RFC 9293, section 3.2)
abbrev pub AreListed : Options → Type 0
AreListed (Listed list) = Unit {0}
AreListed (Faulty fault) = ⊥

-- the maximum segment size, which its first option with a body of two bytes gives (RFC
-- 9293, section 3.2)
abbrev pub mss_among : List Opt → Option ℕ
mss_among [] = None
mss_among (o ∷ os) =
    if (o.kind == mss_kind) && (length o.body == 2)
    then Some (slice_index o.body 0 * 256 + slice_index o.body 1)
    else mss_among os

-- the TCP-AO option of a segment, with the place of its kind byte in the area (RFC 5925, section
-- 2.2)
pub record Ao : Type 0 where
  pub key_id : ℕ
  pub rnext_key_id : ℕ
  pub mac : List ℕ
  pub place : ℕ

-- what was found of TCP-AO: no option, one, two or more, or one beside TCP MD5 (RFC 5925, section
-- 2.2)
pub data AoFound : Type 0 where
  Absent : AoFound
  One : (ao : Ao) → AoFound
  Two WithMd5 : AoFound

-- the fields of a TCP-AO option (RFC 5925, section 2.2)
abbrev pub ao_of : Opt → Ao
ao_of o = record {
  key_id = slice_index o.body 0;
  rnext_key_id = slice_index o.body 1;
  mac = drop 2 o.body;
  place = o.place;
}

-- what the options of TCP-AO and those of TCP MD5 say together (RFC 5925, section 2.2)
abbrev pub found : (ao md5 : List Opt) → AoFound
found [] md5 = Absent
found (o ∷ p ∷ os) md5 = Two
found (o ∷ []) [] = One (ao_of o)
found (o ∷ []) (m ∷ ms) = WithMd5

-- what an option area holds of TCP-AO: none, one option without TCP MD5 beside it, or a fault (RFC
-- 5925, section 2.2)
unfoldable pub find_ao : List ℕ → AoFound
find_ao area =
    let list = listed (options_of area) in
    found (of_kind ao_kind list) (of_kind md5_kind list)
