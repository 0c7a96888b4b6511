-- The messages of a stream are the greatest list of messages that stand one after another from its front.
use Rattle.std.proofs.Common.{◌≡◌, ℕ, zero, suc, ◌+◌, ◌-◌, ◌/◌, ◌%◌, ◌<◌, ◌≤◌, List, [], ◌∷◌, ◌++◌, length, take, drop, refl, sym, ap, ◌∙◌, append_assoc, arith}
use Rattle.std.proofs.lemmas.List.{length-append, take-append-drop, drop-drop, take-take, take_at, drop_at, get_or-take, drop_more}
use Rattle.std.proofs.lemmas.List.Elements.{All-nil, All-cons, All-head, All-tail, All-drop}
use Rattle.std.specs.Prelude.{slice_range, slice_index}
use Rattle.std.specs.List.{All}
use Rattle.book_base.specs.Hexadecimal.{IsByte}
use Rattle.book_bgp.specs.declared.bgp_fault.BgpFault.{BgpFault}
use Rattle.book_base.specs.Fronts.{Front, Ends, Faulted, Leads}
use Rattle.book_bgp.specs.Messages.{Message, IsMessage, message_front, marker, length_in, is_kind, message_length, spell_message, spell_messages, messages, behind}
use Rattle.book_bgp.proofs.Headers.{IsSound, sound, sound_none}
use Rattle.book_bgp.proofs.Fronts.{front_short, front_whole, leading}
use Rattle.book_bgp.proofs.Streams.{leading_length, leading_rest, none_before, none_after, one_before, behind_none, behind_before}

-- the header of a message
abbrev header_of : Message → List ℕ
header_of m = marker ++ (message_length m / 256 ∷ message_length m % 256 ∷ m.kind ∷ [])

header_length_in : (m : Message) → length_in (header_of m) ≡ message_length m
header_length_in m = omega arith

header_sound : (m : Message) → IsMessage m → IsSound (header_of m)
header_sound m is =
    let len = header_length_in m in
    let most = is.most in
    record { marked = refl; least = omega arith; most = omega arith; known = is.known; fits = rw len is.fits }

header_front : (m : Message) (rest : List ℕ) → take 19 (spell_message m ++ rest) ≡ header_of m
header_front m rest = refl

-- a message that is spelled at the front is the front
pub front_spelled : (m : Message) (rest : List ℕ) → IsMessage m → message_front (spell_message m ++ rest) ≡ Leads m rest
front_spelled m rest is =
    let len = header_length_in m in
    let size = length-append m.body rest in
    let whole : length (spell_message m ++ rest) ≡ 19 + (length m.body + length rest) = omega arith in
    let body : slice_range (spell_message m ++ rest) 19 (message_length m) ≡ m.body = take_at m.body rest (message_length m - 19) (omega arith) in
    let after : drop (message_length m) (spell_message m ++ rest) ≡ rest = drop_at (spell_message m) rest (message_length m) (omega arith) in
    front_whole (spell_message m ++ rest) (omega arith) (sound_none (header_of m) (header_sound m is)) (omega arith)
    ∙ rw (len, body, after) refl

-- messages that are spelled from the front are the first messages
pub messages_spelled : (list : List Message) (rest : List ℕ) → All IsMessage list → messages (spell_messages list ++ rest) ≡ list ++ messages rest
messages_spelled [] rest are = refl
messages_spelled (m ∷ ms) rest are =
    rw append_assoc (
    one_before (spell_message m ++ (spell_messages ms ++ rest)) m (spell_messages ms ++ rest) (front_spelled m (spell_messages ms ++ rest) (All-head IsMessage m ms are))
    ∙ ap (λ xs. m ∷ xs) (messages_spelled ms rest (All-tail IsMessage m ms are)))

-- bytes from the 17th on
tail_is : (bytes : List ℕ) → 19 ≤ length bytes → drop 16 bytes ≡ slice_index bytes 16 ∷ slice_index bytes 17 ∷ slice_index bytes 18 ∷ drop 19 bytes
tail_is bytes le =
    drop_more bytes 16 0 (omega arith)
    ∙ ap (λ xs. slice_index bytes 16 ∷ xs) (drop_more bytes 17 0 (omega arith)
    ∙ ap (λ xs. slice_index bytes 17 ∷ xs) (drop_more bytes 18 0 (omega arith)))

-- a message at the front is spelled there
record IsSpelled (bytes : List ℕ) (m : Message) (rest : List ℕ) : Type 0 where
  is : IsMessage m
  spelled : bytes ≡ spell_message m ++ rest

front_is_spelled : (bytes : List ℕ) (m : Message) (rest : List ℕ) → All IsByte bytes → message_front bytes ≡ Leads m rest → IsSpelled bytes m rest
front_is_spelled bytes m rest bytes_are is =
    let l = leading bytes m rest is in
    let s = sound (take 19 bytes) l.sound in
    let len : message_length m ≡ length_in (take 19 bytes) = leading_length bytes m rest is in
    let enough = l.enough in
    let high : slice_index (take 19 bytes) 16 ≡ slice_index bytes 16 = get_or-take 19 bytes 16 0 (omega arith) in
    let low : slice_index (take 19 bytes) 17 ≡ slice_index bytes 17 = get_or-take 19 bytes 17 0 (omega arith) in
    let kind : m.kind ≡ slice_index bytes 18 = ap (λ (n : Message). n.kind) l.is ∙ get_or-take 19 bytes 18 0 (omega arith) in
    let high_fits : slice_index bytes 16 < 256 = bytes_are 16 0 (omega arith) in
    let low_fits : slice_index bytes 17 < 256 = bytes_are 17 0 (omega arith) in
    let first : message_length m / 256 ≡ slice_index bytes 16 = omega arith in
    let second : message_length m % 256 ≡ slice_index bytes 17 = omega arith in
    let marked : take 16 bytes ≡ marker = sym (take-take 16 19 bytes (omega arith)) ∙ s.marked in
    let least = s.least in let most = s.most in
    let after : m.body ++ rest ≡ drop 19 bytes =
    rw (l.is, l.behind) (ap (λ xs. slice_range bytes 19 (length_in (take 19 bytes)) ++ xs)
    (let sum : length_in (take 19 bytes) ≡ 19 + (length_in (take 19 bytes) - 19) = omega arith in
    ap (λ n. drop n bytes) sum ∙ sym (drop-drop (length_in (take 19 bytes) - 19) 19 bytes))
    ∙ take-append-drop (length_in (take 19 bytes) - 19) (drop 19 bytes)) in
    record {
      is = record { known = ap is_kind (ap (λ (n : Message). n.kind) l.is) ∙ s.known; fits = rw (len, ap (λ (n : Message). n.kind) l.is) s.fits; most = omega arith };
      spelled = sym (take-append-drop 16 bytes) ∙ rw (marked, tail_is bytes enough, first, second, kind, ← after) refl;
    }

-- the messages of a stream stand at its front
pub record AreSpelled (bytes : List ℕ) : Type 0 where
  pub are : All IsMessage (messages bytes)
  pub spelled : bytes ≡ spell_messages (messages bytes) ++ behind bytes

spelled_none : (bytes : List ℕ) → messages bytes ≡ [] → AreSpelled bytes
spelled_none bytes none = record { are = rw none (All-nil IsMessage); spelled = rw (none, behind_none bytes none) refl }

spelled_by : (f : Front Message BgpFault) (bytes : List ℕ) → message_front bytes ≡ f → All IsByte bytes → ((rest : List ℕ) → length rest < length bytes → All IsByte rest → AreSpelled rest) → AreSpelled bytes
spelled_by Ends bytes is bytes_are rests = spelled_none bytes (none_before bytes is)
spelled_by (Faulted fault) bytes is bytes_are rests = spelled_none bytes (none_after bytes fault is)
spelled_by (Leads m rest) bytes is bytes_are rests =
    let first = front_is_spelled bytes m rest bytes_are is in
    let split = leading_rest bytes m rest is in
    let size = split.0 in
    let rest_are : All IsByte rest = rw split.1 (All-drop IsByte (message_length m) bytes bytes_are) in
    let others = rests rest (omega arith) rest_are in
    record {
      are = rw (one_before bytes m rest is) (All-cons IsMessage m (messages rest) first.is others.are);
      spelled = rw (one_before bytes m rest is, behind_before bytes m rest is)
          (first.spelled ∙ (ap (λ xs. spell_message m ++ xs) others.spelled ∙ sym (append_assoc (spell_message m) (spell_messages (messages rest)) (behind rest))));
    }

spelled_within : (n : ℕ) (bytes : List ℕ) → length bytes ≤ n → All IsByte bytes → AreSpelled bytes
spelled_within zero bytes le bytes_are = spelled_none bytes (none_before bytes (front_short bytes (omega arith)))
spelled_within (suc n) bytes le bytes_are = spelled_by (message_front bytes) bytes refl bytes_are (λ rest lt. spelled_within n rest (omega arith))

pub messages_are_spelled : (bytes : List ℕ) → All IsByte bytes → AreSpelled bytes
messages_are_spelled bytes bytes_are = spelled_within (length bytes) bytes (omega arith) bytes_are
