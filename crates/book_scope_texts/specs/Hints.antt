-- What is added of a value that isn't wanted: why it is none. Our own format.
use Rattle.std.specs.Prelude.{ℕ, ◌+◌, ◌*◌, ◌%◌, ◌==◌, nat_le, nat_lt, not, ◌&&◌, ◌||◌, ◌++◌, Bool}
use Rattle.std.specs.Prelude.{true, false, List, [], ◌∷◌, length, codes, decimal}
use Rattle.std.specs.Prelude.{slice_index, unwrap_or, is_some, if◌then◌else◌}
use Rattle.std.specs.Prelude.{Option, Some, None}
use Rattle.std.specs.List.{list_all, list_any}
use Rattle.book_base.specs.declared.address.Address.{Address}
use Rattle.book_base.specs.declared.address.Address.TheVariants.{V6}
use Rattle.book_base.specs.Hexadecimal.{hex_of}
use Rattle.book_scope_texts.specs.Addresses.{usual_address_of}
use Rattle.std.specs.Str.{bytes_eq}
use Rattle.toml_datetime.specs.Parse.{parse_datetime}
use Rattle.toml_datetime.specs.declared.datetime.Datetime.{Datetime}
use Rattle.book_base.specs.Lines.{is_blank}
use Rattle.book_keys.specs.Times.{two_digits_at}
use Rattle.book_scope_texts.specs.declared.finding.SecretFault.{SecretFault}
use Rattle.book_scope_texts.specs.declared.finding.SecretFault.TheVariants as fault
use Rattle.book_scope_texts.specs.Moments.{moment_hint}

-- the byte is a hexadecimal digit of either case (own)
abbrev pub is_hex_digit : ℕ → Bool
is_hex_digit byte =
    (nat_le 0x30 byte && nat_le byte 0x39)
    || ((nat_le 0x41 byte && nat_le byte 0x46) || (nat_le 0x61 byte && nat_le byte 0x66))

-- the byte is a hexadecimal digit or a colon (own)
abbrev pub is_digit_or_colon : ℕ → Bool
is_digit_or_colon byte = is_hex_digit byte || byte == 0x3a

-- the byte is a hexadecimal digit, a colon, or a space, a tab or the end of a line (own)
abbrev pub is_digit_or_gap : ℕ → Bool
is_digit_or_gap byte = is_digit_or_colon byte || (is_blank byte || byte == 0x0a)

-- a text is digits behind 0x (own)
abbrev pub is_prefixed : List ℕ → Bool
is_prefixed (a ∷ (b ∷ text)) =
    (a == 0x30 && (b == 0x78 || b == 0x58)) && list_all is_digit_or_gap text
is_prefixed _ = false

-- why digits are no master key: one is missing (own)
abbrev pub digits_fault : List ℕ → Option SecretFault
digits_fault text = if length text % 2 == 1 then Some fault.OddLength else None

-- why a text that isn't all digits is no master key (own)
unfoldable pub writing_fault : List ℕ → SecretFault
writing_fault text =
    if is_prefixed text then fault.Prefixed
    else if list_all is_digit_or_colon text then fault.WithColons
    else if list_all is_digit_or_gap text then fault.WithBlanks
    else fault.NotHex

-- why a text is no master key, apart from how long it is (RFC 7210, section 2, Key, and own)
unfoldable pub secret_fault : List ℕ → Option SecretFault
secret_fault text =
    if list_all is_hex_digit text then digits_fault text else Some (writing_fault text)

-- what is said of why a text is no master key, and how it would be one (own)
abbrev pub fault_hint : Option SecretFault → List ℕ
fault_hint None = []
fault_hint (Some fault.Prefixed) = codes ", hexadecimal behind 0x: leave the 0x out"
fault_hint (Some fault.WithColons) = codes ", hexadecimal with colons: leave the colons out"
fault_hint (Some fault.WithBlanks) = codes ", hexadecimal with blanks: leave the blanks out"
fault_hint (Some fault.NotHex) =
    codes ", not all hexadecimal (which is printf %s SECRET | xxd -p -c 256)"
fault_hint (Some fault.OddLength) = codes ", an odd number of digits"

-- what is shown of a key: how long it is, since it is a secret (own)
unfoldable pub shown_secret : List ℕ → List ℕ
shown_secret text =
    codes "a text of "
    ++ (decimal (length text) ++ (codes " bytes" ++ fault_hint (secret_fault text)))

-- the number that two digits from an index on write, and 0 where they are none (own)
abbrev pub digits_at : List ℕ → ℕ → ℕ
digits_at text i = unwrap_or (two_digits_at text i) 0

-- two digits stand at an index (own)
abbrev pub has_digits_at : List ℕ → ℕ → Bool
has_digits_at text i = is_some (two_digits_at text i)

-- a text has the form of a time: 14 digits and Z (own)
unfoldable pub has_time_form : List ℕ → Bool
has_time_form text =
    (length text == 15 && slice_index text 14 == 0x5a)
    && ((has_digits_at text 0 && (has_digits_at text 2 && has_digits_at text 4))
    && ((has_digits_at text 6 && has_digits_at text 8)
    && (has_digits_at text 10 && has_digits_at text 12)))

-- a part of a time that is out of its range (own)
unfoldable pub part_hint : (part : List ℕ) → ℕ → List ℕ
part_hint part number = codes ", " ++ (part ++ (32 ∷ decimal number))

-- why a year and a month are none, or else the day (own)
unfoldable pub date_hint : (year month day : ℕ) → List ℕ
date_hint y m d =
    if nat_lt y 1970 then part_hint (codes "year") y
    else if nat_le 1 m && nat_le m 12 then part_hint (codes "day") d
    else part_hint (codes "month") m

-- why a time of the day is none, or else the date (own)
unfoldable pub clock_hint : (hour minute second : ℕ) → (of_date : List ℕ) → List ℕ
clock_hint h m s of_date =
    if nat_lt 23 h then part_hint (codes "hour") h
    else if nat_lt 59 m then part_hint (codes "minute") m
    else if nat_lt 59 s then part_hint (codes "second") s
    else of_date

-- what is said of 14 digits that are no time: one of its parts that is out of its range (own)
unfoldable pub range_hint : List ℕ → List ℕ
range_hint text =
    clock_hint (digits_at text 8) (digits_at text 10) (digits_at text 12)
    (date_hint (100 * digits_at text 0 + digits_at text 2) (digits_at text 4) (digits_at text 6))

-- what is said of a text that may be another form of a time (RFC 3339, section 5.6, and own)
abbrev pub form_hint : Option Datetime → List ℕ
form_hint None = []
form_hint (Some dt) = moment_hint dt

-- why a text is no time: a part of it is out of its range, it says that there is no end, or it is
-- of another form (own)
unfoldable pub time_hint : List ℕ → List ℕ
time_hint text =
    if has_time_form text then range_hint text
    else if bytes_eq text (codes "infinite") then codes ", without an end: leave the field out"
    else form_hint (parse_datetime text)

-- how a key file writes an address of IPv6 (own)
abbrev pub written_address_hint : Option Address → List ℕ
written_address_hint (Some (V6 bytes)) =
    codes ", which is written \"" ++ (hex_of bytes ++ codes "\"")
written_address_hint _ = []

-- why a text is no address: a prefix stands for many, and IPv6 is written otherwise (own)
unfoldable pub address_hint : List ℕ → List ℕ
address_hint text =
    if list_any (λ b. b == 0x2f) text then codes ", a prefix: each address stands for itself"
    else written_address_hint (usual_address_of text)
