-- What is found wrong with a row of a key file (RFC 7210, section 2, in this profile): a field is
-- found exactly where the reading of that field refuses it. Its top is `row_findings`.
use Rattle.std.specs.Prelude.{◌≡◌, ℕ, ◌==◌, nat_le, nat_lt, not, ◌&&◌, ◌++◌, Bool, true, false}
use Rattle.std.specs.Prelude.{List, [], ◌∷◌, length, codes}
use Rattle.std.specs.Prelude.{decimal, Option, Some, None, is_some, option_and_then, flat_map}
use Rattle.std.specs.Prelude.{is_ok, if◌then◌else◌}
use Rattle.std.specs.List.{list_any}
use Rattle.std.specs.Str.{bytes_eq}
use Rattle.toml.specs.Data.{Data, string, datetime, array, table, Items, no_items, item}
use Rattle.toml.specs.Data.{Members, no_members, member, get_member}
use Rattle.book_base.specs.declared.algorithm.Algorithm.{Algorithm}
use Rattle.book_base.specs.Algorithms.{name_of, algorithm_of}
use Rattle.book_keys.specs.Columns.{text_of, is_word, row_keys, is_admin, id_of_text, peer_of}
use Rattle.book_keys.specs.Columns.{is_absent_or, options_flag_of, kdf_of, master_of, direction_of}
use Rattle.book_keys.specs.Columns.{count, time_or, port_of}
use Rattle.book_keys.specs.Lifetimes.{greatest_time}
use Rattle.book_keys.specs.Rows.{peer_limit}
use Rattle.book_scope_texts.specs.declared.finding.KeyFinding.{KeyFinding}
use Rattle.book_scope_texts.specs.declared.finding.KeyPlace.{KeyPlace}
use Rattle.book_scope_texts.specs.declared.finding.SecretFault.{SecretFault}
use Rattle.book_scope_texts.specs.FieldTexts.{field_said, finding_at, finding_unless, hidden_said}
use Rattle.book_scope_texts.specs.FieldTexts.{text_shown, type_shown}
use Rattle.book_scope_texts.specs.Hints.{address_hint, secret_fault, shown_secret, time_hint}
use Rattle.book_scope_texts.specs.Moments.{moment_hint}
use Rattle.book_scope_texts.specs.Suggestions.{meant_word}

-- the keys of a table, in their order (own)
abbrev pub keys_in : Members → List (List ℕ)
keys_in no_members = []
keys_in (member key d ms) = key ∷ keys_in ms

-- which known key is meant, or that none is like it (own)
abbrev pub meant_text : Option (List ℕ) → List ℕ
meant_text None = codes "no such field"
meant_text (Some word) = codes "no such field; did you mean " ++ (word ++ codes "?")

-- which known key is meant at a place: rows that stand in no node are those of one (own)
abbrev pub meant_at : KeyPlace → (known : List (List ℕ)) → (key : List ℕ) → Option (List ℕ)
meant_at p known key =
    if p.node == 0 && bytes_eq key (codes "key") then Some (codes "[[node.key]]")
    else meant_word known key

-- what is found of a key by the known ones (own)
unfoldable pub key_finding : (known : List (List ℕ)) → KeyPlace → (key : List ℕ) → List KeyFinding
key_finding known p key =
    finding_unless (list_any (bytes_eq key) known) p (text_shown key)
    (meant_text (meant_at p known key))

-- the keys of a table that are none of the known ones (own)
abbrev pub unknown_findings :
    (known : List (List ℕ)) → KeyPlace → (keys : List (List ℕ)) → List KeyFinding
unknown_findings known p keys = flat_map (key_finding known p) keys

-- a field of a table: the table's place, and its key and value, if it has one (own)
pub record KeyField : Type 0 where
  pub place : KeyPlace
  pub key : List ℕ
  pub value : Option Data

-- the field at a key of a table (own)
abbrev pub field_at : KeyPlace → (key : List ℕ) → Members → KeyField
field_at p key ms = record { place = p; key = key; value = get_member key ms }

-- nothing is found at a field that is as it should be, and else its value, a hint and what is
-- wanted (own)
unfoldable pub field_unless : Bool → KeyField → (hint wanted : List ℕ) → List KeyFinding
field_unless good f hint wanted =
    finding_unless good f.place f.key (field_said f.value hint wanted)

-- what is wanted of a KeyID (RFC 5925, section 3.1)
abbrev pub id_wanted : List ℕ
id_wanted = codes "a KeyID, a text from \"0\" to \"255\""

-- a KeyID of a row: LocalKeyName or PeerKeyName (RFC 7210, section 2)
unfoldable pub id_findings : KeyPlace → (key : List ℕ) → Members → List KeyFinding
id_findings p key ms =
    field_unless (is_some (option_and_then id_of_text (text_of key ms))) (field_at p key ms) []
    id_wanted

-- AdminKeyName, LocalKeyName and PeerKeyName (RFC 7210, section 2)
unfoldable pub name_findings : KeyPlace → Members → List KeyFinding
name_findings p ms =
    field_unless (is_admin (text_of (codes "AdminKeyName") ms))
    (field_at p (codes "AdminKeyName") ms) [] (codes "a text of 1 to 255 bytes")
    ++ (id_findings p (codes "LocalKeyName") ms ++ id_findings p (codes "PeerKeyName") ms)

-- what is wanted of Peers (RFC 7210, section 2; the limit is own)
abbrev pub peers_wanted : List ℕ
peers_wanted =
    codes "an array of 1 to 16 texts: \"any\", or an address, 192.0.2.1 or 32 hexadecimal digits"

-- why a value is no address (own)
abbrev pub address_hint_of : Option Data → List ℕ
address_hint_of (Some (string s)) = address_hint s
address_hint_of _ = []

-- what is found of a peer (RFC 7210, section 2)
unfoldable pub peer_finding : KeyPlace → Data → List KeyFinding
peer_finding p d =
    finding_unless (is_some (peer_of d)) p (codes "Peers")
    (field_said (Some d) (address_hint_of (Some d)) peers_wanted)

-- the peers that are none (RFC 7210, section 2)
abbrev pub each_peer_finding : KeyPlace → Items → List KeyFinding
each_peer_finding p no_items = []
each_peer_finding p (item d ds) = peer_finding p d ++ each_peer_finding p ds

-- an array of too few or too many items (own)
unfoldable pub count_said : ℕ → (wanted : List ℕ) → List ℕ
count_said n wanted = codes "an array of " ++ (decimal n ++ (codes "; wanted: " ++ wanted))

-- Peers (RFC 7210, section 2)
unfoldable pub peers_findings : KeyPlace → Option Data → List KeyFinding
peers_findings p (Some (array ds)) =
    if nat_le 1 (count ds) && nat_le (count ds) peer_limit then each_peer_finding p ds
    else finding_at p (codes "Peers") (count_said (count ds) peers_wanted) ∷ []
peers_findings p d = finding_at p (codes "Peers") (field_said d [] peers_wanted) ∷ []

-- Interfaces, Protocol and ProtocolSpecificInfo (RFC 7210, section 2)
unfoldable pub protocol_findings : KeyPlace → Members → List KeyFinding
protocol_findings p ms =
    field_unless (is_absent_or (codes "all") (get_member (codes "Interfaces") ms))
    (field_at p (codes "Interfaces") ms) [] (codes "\"all\", or no such field")
    ++ (field_unless (is_word (codes "TCP-AO") (text_of (codes "Protocol") ms))
    (field_at p (codes "Protocol") ms) [] (codes "\"TCP-AO\"")
    ++ field_unless
    (is_some (option_and_then options_flag_of (text_of (codes "ProtocolSpecificInfo") ms)))
    (field_at p (codes "ProtocolSpecificInfo") ms) [] (codes "\"options\" or \"no-options\""))

-- AlgID names the algorithm to which the key derivation function belongs, or any where that isn't
-- known (RFC 7210, section 2)
abbrev pub is_algorithm_with : Option Algorithm → Option (List ℕ) → Bool
is_algorithm_with None text = is_some (option_and_then algorithm_of text)
is_algorithm_with (Some kdf) text = is_word (name_of kdf) text

-- what is wanted of AlgID (RFC 7210, section 2)
unfoldable pub algorithm_wanted : Option Algorithm → List ℕ
algorithm_wanted None = codes "\"HMAC-SHA-1-96\", \"AES-128-CMAC-96\" or \"HMAC-SHA-256-128\""
algorithm_wanted (Some kdf) = codes "\"" ++ (name_of kdf ++ codes "\", which goes with this KDF")

-- AlgID, by what KDF names (RFC 7210, section 2)
unfoldable pub alg_id_findings : KeyPlace → Option Algorithm → Members → List KeyFinding
alg_id_findings p kdf ms =
    field_unless (is_algorithm_with kdf (text_of (codes "AlgID") ms))
    (field_at p (codes "AlgID") ms) [] (algorithm_wanted kdf)

-- KDF and AlgID (RFC 7210, section 2)
unfoldable pub algorithm_findings : KeyPlace → Members → List KeyFinding
algorithm_findings p ms =
    field_unless (is_some (option_and_then kdf_of (text_of (codes "KDF") ms)))
    (field_at p (codes "KDF") ms) [] (codes "\"HMAC-SHA-1\", \"AES-128-CMAC\" or \"HMAC-SHA-256\"")
    ++ alg_id_findings p (option_and_then kdf_of (text_of (codes "KDF") ms)) ms

-- what is wanted of Key (RFC 7210, section 2; the bounds are own)
abbrev pub secret_wanted : List ℕ
secret_wanted = codes "a text of hexadecimal digits, two for each of 1 to 255 bytes"

-- what is said of a key, which isn't shown (own)
unfoldable pub secret_said : List ℕ → List ℕ
secret_said text = shown_secret text ++ (codes "; wanted: " ++ secret_wanted)

-- Key: of a text its length and why it is none, of any other value its type (RFC 7210, section 2)
unfoldable pub secret_findings : KeyPlace → Option Data → List KeyFinding
secret_findings p (Some (string s)) =
    finding_unless (is_ok (master_of 0 0 (Some s))) p (codes "Key") (secret_said s)
secret_findings p d = finding_at p (codes "Key") (hidden_said d secret_wanted) ∷ []

-- all that a Key shows: whether it is there, the type of a value that is no text, and of a text how
-- many bytes it has, whether it is a key, and why it is none (own)
pub record SecretLook : Type 0 where
  pub is_there : Bool
  pub type_text : List ℕ
  pub size : ℕ
  pub is_good : Bool
  pub fault : Option SecretFault

-- how a Key looks (own)
unfoldable pub secret_look : Option Data → SecretLook
secret_look None = record {
  is_there = false;
  type_text = [];
  size = 0;
  is_good = false;
  fault = None;
}
secret_look (Some (string s)) = record {
  is_there = true;
  type_text = type_shown (string s);
  size = length s;
  is_good = is_ok (master_of 0 0 (Some s));
  fault = secret_fault s;
}
secret_look (Some d) = record {
  is_there = true;
  type_text = type_shown d;
  size = 0;
  is_good = false;
  fault = None;
}

-- why a value is no time (own)
abbrev pub time_hint_of : Option Data → List ℕ
time_hint_of (Some (string s)) = time_hint s
time_hint_of (Some (datetime dt)) = moment_hint dt
time_hint_of _ = []

-- a time of a row, by what stands for an absent one (RFC 7210, section 2)
unfoldable pub time_findings : KeyPlace → (absent : ℕ) → (key : List ℕ) → Members → List KeyFinding
time_findings p absent key ms =
    field_unless (is_some (time_or absent (get_member key ms))) (field_at p key ms)
    (time_hint_of (get_member key ms))
    (codes "a time from 1970 on, \"YYYYMMDDhhmmssZ\", or no such field")

-- an end of a lifetime before its start, by the field of the end and the key of the start (RFC
-- 7210, section 2)
unfoldable pub order_findings :
    (end : KeyField) → (start : List ℕ) → (first last : Option ℕ) → List KeyFinding
order_findings end start (Some first) (Some last) =
    field_unless (not (nat_lt last first)) end (codes ", before " ++ start)
    (codes "a time that isn't before " ++ start)
order_findings end start _ _ = []

-- a lifetime of a row, by the keys of its start and end (RFC 7210, section 2)
unfoldable pub lifetime_findings : KeyPlace → (start end : List ℕ) → Members → List KeyFinding
lifetime_findings p start end ms =
    time_findings p 0 start ms
    ++ (time_findings p greatest_time end ms
    ++ order_findings (field_at p end ms) start (time_or 0 (get_member start ms))
    (time_or greatest_time (get_member end ms)))

-- Direction and the two lifetimes (RFC 7210, section 2)
unfoldable pub term_findings : KeyPlace → Members → List KeyFinding
term_findings p ms =
    field_unless (is_some (option_and_then direction_of (text_of (codes "Direction") ms)))
    (field_at p (codes "Direction") ms) [] (codes "\"in\", \"out\", \"both\" or \"disabled\"")
    ++ (lifetime_findings p (codes "SendLifetimeStart") (codes "SendLifetimeEnd") ms
    ++ lifetime_findings p (codes "AcceptLifetimeStart") (codes "AcceptLifetimeEnd") ms)

-- a port of a row (own)
unfoldable pub port_findings : KeyPlace → (key : List ℕ) → Members → List KeyFinding
port_findings p key ms =
    field_unless (is_some (port_of (get_member key ms))) (field_at p key ms) []
    (codes "a text from \"0\" to \"65535\", or no such field")

-- what is found in the columns of a row, in their order (RFC 7210, section 2, in this profile)
unfoldable pub column_findings : KeyPlace → Members → List KeyFinding
column_findings p ms =
    name_findings p ms
    ++ (peers_findings p (get_member (codes "Peers") ms)
    ++ (protocol_findings p ms
    ++ (algorithm_findings p ms
    ++ (secret_findings p (get_member (codes "Key") ms)
    ++ (term_findings p ms
    ++ (port_findings p (codes "LocalPort") ms ++ port_findings p (codes "PeerPort") ms))))))

-- what is found in a row: keys that are unknown, and then the columns (own)
unfoldable pub row_findings : KeyPlace → Data → List KeyFinding
row_findings p (table ms) =
    unknown_findings row_keys p (keys_in ms) ++ column_findings p ms
row_findings p d = finding_at p (codes "key") (hidden_said (Some d) (codes "a table")) ∷ []

-- two rows have the same keys and the same values but for Key, and their Keys look alike (own)
pub record AlikeButKey (one other : Members) : Type 0 where
  pub keys : keys_in one ≡ keys_in other
  pub values :
      (key : List ℕ) → bytes_eq key (codes "Key") ≡ false →
      get_member key one ≡ get_member key other
  pub looks :
      secret_look (get_member (codes "Key") one) ≡ secret_look (get_member (codes "Key") other)
