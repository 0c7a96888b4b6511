-- The messages of a stream of bytes.
use Rattle.std.proofs.Common.{◌≡◌, ℕ, zero, suc, ◌+◌, ◌-◌, ◌<◌, ◌≤◌, List, [], ◌∷◌, ◌++◌, length, take, drop, Option, Some, None, refl, sym, ap, ◌∙◌, append_assoc, arith}
use Rattle.std.proofs.lemmas.List.{length-append, length-drop, length-take, take-append-le, drop-append-le, drop-drop, append-nil, drop_all}
use Rattle.std.specs.Prelude.{slice_range}
use Rattle.book_bgp.specs.declared.bgp_fault.BgpFault.{BgpFault}
use Rattle.book_base.specs.Fronts.{Front, Ends, Faulted, Leads, Fronted, fronted_by, fronted}
use Rattle.book_base.proofs.FrontLaws.{Shrinks, fronted_step}
use Rattle.book_bgp.specs.Messages.{Message, message_front, length_in, message_length, spell_message, spell_messages, messages, place_of, behind, fault_in}
use Rattle.book_bgp.proofs.Headers.{sound}
use Rattle.book_bgp.proofs.Fronts.{front_short, front_whole, front_faulty, leading, faulty}

-- a message takes as many bytes as its header says
pub leading_length : (bytes : List ℕ) (m : Message) (rest : List ℕ) → message_front bytes ≡ Leads m rest → message_length m ≡ length_in (take 19 bytes)
leading_length bytes m rest is =
    let l = leading bytes m rest is in
    let least = (sound (take 19 bytes) l.sound).least in
    let body : length m.body ≡ length (slice_range bytes 19 (length_in (take 19 bytes))) = ap (λ (n : Message). length n.body) l.is in
    let size = length-take (length_in (take 19 bytes) - 19) (drop 19 bytes) in
    let after = length-drop 19 bytes in
    let whole = l.whole in
    omega arith

-- what follows a message is shorter by its length
pub leading_rest : (bytes : List ℕ) (m : Message) (rest : List ℕ) → message_front bytes ≡ Leads m rest → (length bytes ≡ message_length m + length rest) × (rest ≡ drop (message_length m) bytes)
leading_rest bytes m rest is =
    let l = leading bytes m rest is in
    let len = leading_length bytes m rest is in
    let after = length-drop (length_in (take 19 bytes)) bytes in
    let size : length rest ≡ length (drop (length_in (take 19 bytes)) bytes) = ap length l.behind in
    let whole = l.whole in
    (omega arith, rw len l.behind)

-- more bytes behind change nothing at the front
pub leading_more : (bytes more : List ℕ) (m : Message) (rest : List ℕ) → message_front bytes ≡ Leads m rest → message_front (bytes ++ more) ≡ Leads m (rest ++ more)
leading_more bytes more m rest is =
    let l = leading bytes m rest is in
    let size = length-append bytes more in
    let enough = l.enough in let whole = l.whole in
    let len = length_in (take 19 bytes) in
    let header : take 19 (bytes ++ more) ≡ take 19 bytes = take-append-le 19 bytes more enough in
    let after : length (drop 19 bytes) ≡ length bytes - 19 = length-drop 19 bytes in
    let body : slice_range (bytes ++ more) 19 len ≡ slice_range bytes 19 len = rw (drop-append-le 19 bytes more enough) (take-append-le (len - 19) (drop 19 bytes) more (omega arith)) in
    let behind : drop len (bytes ++ more) ≡ drop len bytes ++ more = drop-append-le len bytes more whole in
    front_whole (bytes ++ more) (omega arith) (rw header l.sound) (rw header (omega arith))
    ∙ rw (header, body, behind, l.is, l.behind) refl

pub faulty_more : (bytes more : List ℕ) (fault : BgpFault) → message_front bytes ≡ Faulted fault → message_front (bytes ++ more) ≡ Faulted fault
faulty_more bytes more fault is =
    let f = faulty bytes fault is in
    let size = length-append bytes more in
    let enough = f.enough in
    front_faulty (bytes ++ more) fault (omega arith) (rw (take-append-le 19 bytes more enough) f.bad)

-- the messages and the fault of a stream, by its front
shrinks : Shrinks message_front
shrinks = record { shorter = λ bytes m rest is. let l = leading_rest bytes m rest is in let size = l.0 in omega arith }

stream_step : (bytes : List ℕ) → fronted message_front bytes ≡ fronted_by (message_front bytes) (fronted message_front)
stream_step bytes = fronted_step message_front shrinks bytes

stream_by : (bytes : List ℕ) (f : Front Message BgpFault) → message_front bytes ≡ f → fronted message_front bytes ≡ fronted_by f (fronted message_front)
stream_by bytes f is = stream_step bytes ∙ ap (λ (g : Front Message BgpFault). fronted_by g (fronted message_front)) is

abbrev items_of : Fronted Message BgpFault → List Message
items_of x = x.items

-- no message at the front
pub none_before : (bytes : List ℕ) → message_front bytes ≡ Ends → messages bytes ≡ []
unfolding messages
none_before bytes is = ap items_of (stream_by bytes Ends is)

pub none_after : (bytes : List ℕ) (fault : BgpFault) → message_front bytes ≡ Faulted fault → messages bytes ≡ []
unfolding messages
none_after bytes fault is = ap items_of (stream_by bytes (Faulted fault) is)

-- a message at the front
pub one_before : (bytes : List ℕ) (m : Message) (rest : List ℕ) → message_front bytes ≡ Leads m rest → messages bytes ≡ m ∷ messages rest
unfolding messages
one_before bytes m rest is = ap items_of (stream_by bytes (Leads m rest) is)

pub place_before : (bytes : List ℕ) (m : Message) (rest : List ℕ) → message_front bytes ≡ Leads m rest → place_of bytes ≡ message_length m + place_of rest
unfolding place_of
place_before bytes m rest is =
    rw (one_before bytes m rest is) (let size = length-append (spell_message m) (spell_messages (messages rest)) in omega arith)

pub behind_before : (bytes : List ℕ) (m : Message) (rest : List ℕ) → message_front bytes ≡ Leads m rest → behind bytes ≡ behind rest
unfolding behind
behind_before bytes m rest is =
    let split = leading_rest bytes m rest is in
    rw (place_before bytes m rest is) (sym (drop-drop (place_of rest) (message_length m) bytes) ∙ ap (λ xs. drop (place_of rest) xs) (sym split.1))

pub place_none : (bytes : List ℕ) → messages bytes ≡ [] → place_of bytes ≡ 0
unfolding place_of
place_none bytes is = rw is refl

pub behind_none : (bytes : List ℕ) → messages bytes ≡ [] → behind bytes ≡ bytes
unfolding behind
behind_none bytes is = rw (place_none bytes is) refl

-- what the messages of a stream and of more of it have in common
pub record IsSplit (bytes : List ℕ) : Type 0 where
  pub within : place_of bytes ≤ length bytes
  pub messages_more : (more : List ℕ) → messages (bytes ++ more) ≡ messages bytes ++ messages (behind bytes ++ more)

split_none : (bytes : List ℕ) → messages bytes ≡ [] → IsSplit bytes
split_none bytes none =
    record {
      within = rw (place_none bytes none) (omega arith);
      messages_more = λ more. rw (none, behind_none bytes none) refl;
    }

split_by : (f : Front Message BgpFault) (bytes : List ℕ) → message_front bytes ≡ f → ((rest : List ℕ) → length rest < length bytes → IsSplit rest) → IsSplit bytes
split_by Ends bytes is rests = split_none bytes (none_before bytes is)
split_by (Faulted fault) bytes is rests = split_none bytes (none_after bytes fault is)
split_by (Leads m rest) bytes is rests =
    let split = leading_rest bytes m rest is in
    let size = split.0 in
    let others = rests rest (omega arith) in
    let inside = others.within in
    let place = place_before bytes m rest is in
    record {
      within = omega arith;
      messages_more = λ more. one_before (bytes ++ more) m (rest ++ more) (leading_more bytes more m rest is)
          ∙ rw (others.messages_more more, one_before bytes m rest is, behind_before bytes m rest is) refl;
    }

split_within : (n : ℕ) (bytes : List ℕ) → length bytes ≤ n → IsSplit bytes
split_within zero bytes le = split_none bytes (none_before bytes (front_short bytes (omega arith)))
split_within (suc n) bytes le = split_by (message_front bytes) bytes refl (λ rest lt. split_within n rest (omega arith))

pub split_of : (bytes : List ℕ) → IsSplit bytes
split_of bytes = split_within (length bytes) bytes (omega arith)

-- the messages of a stream are those of its beginning, and then those of what is behind them with the rest
pub messages_append : (bytes more : List ℕ) → messages (bytes ++ more) ≡ messages bytes ++ messages (behind bytes ++ more)
messages_append bytes more = (split_of bytes).messages_more more

spell_append : (one two : List Message) → spell_messages (one ++ two) ≡ spell_messages one ++ spell_messages two
spell_append [] two = refl
spell_append (m ∷ ms) two = ap (λ xs. spell_message m ++ xs) (spell_append ms two) ∙ sym (append_assoc (spell_message m) (spell_messages ms) (spell_messages two))

pub place_append : (bytes more : List ℕ) → place_of (bytes ++ more) ≡ place_of bytes + place_of (behind bytes ++ more)
unfolding place_of
place_append bytes more =
    rw (messages_append bytes more, spell_append (messages bytes) (messages (behind bytes ++ more)))
    (length-append (spell_messages (messages bytes)) (spell_messages (messages (behind bytes ++ more))))

pub behind_append : (bytes more : List ℕ) → behind (bytes ++ more) ≡ behind (behind bytes ++ more)
unfolding behind
behind_append bytes more =
    let s = split_of bytes in
    rw (place_append bytes more)
    (sym (drop-drop (place_of (behind bytes ++ more)) (place_of bytes) (bytes ++ more))
    ∙ ap (λ xs. drop (place_of (behind bytes ++ more)) xs) (drop-append-le (place_of bytes) bytes more s.within))

-- the fault of a front, where it is a faulty header
abbrev pub fault_of : Front Message BgpFault → Option BgpFault
fault_of Ends = None
fault_of (Faulted fault) = Some fault
fault_of (Leads m rest) = None

abbrev fault_found : Fronted Message BgpFault → Option BgpFault
fault_found x = x.fault

fault_none : (bytes : List ℕ) → message_front bytes ≡ Ends → fault_in bytes ≡ None
unfolding fault_in
fault_none bytes is = ap fault_found (stream_by bytes Ends is)

fault_here : (bytes : List ℕ) (fault : BgpFault) → message_front bytes ≡ Faulted fault → fault_in bytes ≡ Some fault
unfolding fault_in
fault_here bytes fault is = ap fault_found (stream_by bytes (Faulted fault) is)

fault_before : (bytes : List ℕ) (m : Message) (rest : List ℕ) → message_front bytes ≡ Leads m rest → fault_in bytes ≡ fault_in rest
unfolding fault_in
fault_before bytes m rest is = ap fault_found (stream_by bytes (Leads m rest) is)

behind_by : (f : Front Message BgpFault) (bytes : List ℕ) → message_front bytes ≡ f → ((rest : List ℕ) → length rest < length bytes → fault_in rest ≡ fault_of (message_front (behind rest)))
    → fault_in bytes ≡ fault_of (message_front (behind bytes))
behind_by Ends bytes is rests = rw (fault_none bytes is, behind_none bytes (none_before bytes is), is) refl
behind_by (Faulted fault) bytes is rests = rw (fault_here bytes fault is, behind_none bytes (none_after bytes fault is), is) refl
behind_by (Leads m rest) bytes is rests =
    let size = (leading_rest bytes m rest is).0 in
    rw (fault_before bytes m rest is, behind_before bytes m rest is) (rests rest (omega arith))

behind_within : (n : ℕ) (bytes : List ℕ) → length bytes ≤ n → fault_in bytes ≡ fault_of (message_front (behind bytes))
behind_within zero bytes le = behind_by (message_front bytes) bytes refl (λ rest lt. absurd (omega arith))
behind_within (suc n) bytes le = behind_by (message_front bytes) bytes refl (λ rest lt. behind_within n rest (omega arith))

-- the fault of a stream is that of the front behind its messages
pub fault_behind : (bytes : List ℕ) → fault_in bytes ≡ fault_of (message_front (behind bytes))
fault_behind bytes = behind_within (length bytes) bytes (omega arith)

-- streams of which the same is behind have the same fault
pub fault_same : (one two : List ℕ) → behind one ≡ behind two → fault_in one ≡ fault_in two
fault_same one two is = fault_behind one ∙ (ap (λ (xs : List ℕ). fault_of (message_front xs)) is ∙ sym (fault_behind two))

pub fault_front : (f : Front Message BgpFault) (fault : BgpFault) → fault_of f ≡ Some fault → f ≡ Faulted fault
fault_front Ends fault is = absurd (cc)
fault_front (Faulted one) fault is = cc
fault_front (Leads m rest) fault is = absurd (cc)

-- a faulty header is behind the messages
pub fault_ends : (bytes : List ℕ) (fault : BgpFault) → fault_in bytes ≡ Some fault → message_front (behind bytes) ≡ Faulted fault
fault_ends bytes fault is = fault_front (message_front (behind bytes)) fault (sym (fault_behind bytes) ∙ is)

-- a fault ends the messages, whatever follows
pub fault_messages : (bytes more : List ℕ) (fault : BgpFault) → fault_in bytes ≡ Some fault → messages (bytes ++ more) ≡ messages bytes
fault_messages bytes more fault is =
    let here = fault_ends bytes fault is in
    messages_append bytes more ∙ rw (none_after (behind bytes ++ more) fault (faulty_more (behind bytes) more fault here)) (append-nil (messages bytes))

pub fault_stays : (bytes more : List ℕ) (fault : BgpFault) → fault_in bytes ≡ Some fault → fault_in (bytes ++ more) ≡ Some fault
fault_stays bytes more fault is =
    let here = faulty_more (behind bytes) more fault (fault_ends bytes fault is) in
    fault_behind (bytes ++ more) ∙ rw (behind_append bytes more, behind_none (behind bytes ++ more) (none_after (behind bytes ++ more) fault here), here) refl

-- the bytes of the message at the front, alone
pub leading_alone : (bytes more : List ℕ) (m : Message) (rest : List ℕ) → message_front (bytes ++ more) ≡ Leads m rest → message_length m ≡ length bytes → message_front bytes ≡ Leads m []
leading_alone bytes more m rest is exact =
    let l = leading (bytes ++ more) m rest is in
    let len : message_length m ≡ length_in (take 19 (bytes ++ more)) = leading_length (bytes ++ more) m rest is in
    let header : take 19 (bytes ++ more) ≡ take 19 bytes = take-append-le 19 bytes more (omega arith) in
    let same : length_in (take 19 bytes) ≡ length bytes = rw (← header, ← len) exact in
    let size = length-drop 19 bytes in
    let count = length_in (take 19 bytes) in
    let body : slice_range (bytes ++ more) 19 count ≡ slice_range bytes 19 count =
    rw (drop-append-le 19 bytes more (omega arith)) (take-append-le (count - 19) (drop 19 bytes) more (omega arith)) in
    front_whole bytes (omega arith) (rw header at l.sound) (omega arith)
    ∙ rw (drop_all count bytes (omega arith), l.is, header, body) refl
