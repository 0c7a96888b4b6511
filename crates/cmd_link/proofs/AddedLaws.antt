-- What a take adds to what is told of a session.
use Rattle.std.proofs.Common.{◌≡◌, ℕ, ◌+◌, Bool, true, false, List, [], ◌∷◌, ◌++◌, length, drop, Option, Some, None, if◌then◌else◌, refl, sym, ap, ◌∙◌, arith, append_assoc, append-nil}
use Rattle.book_base.specs.declared.end.End.{End}
use Rattle.book_bgp.specs.declared.bgp_fault.BgpFault.{BgpFault}
use Rattle.book_bgp.specs.Messages.{Message, messages, place_of, fault_in}
use Rattle.book_bgp.proofs.Streams.{fault_messages, fault_stays}
use Rattle.book_cmd_link.specs.BgpRuns.{Place, message_line, message_lines, fault_line, taken_lines, is_faulty}
use Rattle.cmd_link.specs.Tellings.{What, Tells, Fails, Telling, line_of, lines_of, is_of, told_of, tells, fails, to_tell, is_fault, faults_told}
use Rattle.cmd_link.proofs.ReadLaws.{further, further_is, place_stays}

-- lines from a place
abbrev pub at : Place → List What → List Telling
at p [] = []
at p (w ∷ ws) = record { place = p; what = w } ∷ at p ws

-- a fault that wasn't there before
abbrev pub new_fault : List ℕ → Option BgpFault → Option BgpFault → List What
new_fault bytes None (Some f) = Fails f (place_of bytes) ∷ []
new_fault bytes None None = []
new_fault bytes (Some g) o = []

-- what a take adds: the messages that it completes, and the fault that it reaches
abbrev pub added : List ℕ → List ℕ → List What
added old new = tells (drop (length (messages old)) (messages new)) ++ new_fault new (fault_in old) (fault_in new)

-- ---- its text

at_append : (p : Place) (one two : List What) → lines_of (at p (one ++ two)) ≡ lines_of (at p one) ++ lines_of (at p two)
at_append p [] two = refl
at_append p (w ∷ ws) two = ap (λ l. line_of p w ++ l) (at_append p ws two) ∙ sym (append_assoc (line_of p w) (lines_of (at p ws)) (lines_of (at p two)))

tells_lines : (p : Place) (ms : List Message) → lines_of (at p (tells ms)) ≡ message_lines p ms
tells_lines p [] = refl
tells_lines p (m ∷ ms) = ap (λ l. message_line p m ++ l) (tells_lines p ms)

fault_lines : (p : Place) (bytes : List ℕ) (o n : Option BgpFault) → lines_of (at p (new_fault bytes o n)) ≡ fault_line p bytes o n
fault_lines p bytes None (Some f) = append-nil (line_of p (Fails f (place_of bytes)))
fault_lines p bytes None None = refl
fault_lines p bytes (Some g) None = refl
fault_lines p bytes (Some g) (Some f) = refl

pub added_lines : (p : Place) (old new : List ℕ) → lines_of (at p (added old new)) ≡ taken_lines p old new
added_lines p old new =
    let ms = drop (length (messages old)) (messages new) in
    let fault = new_fault new (fault_in old) (fault_in new) in
    at_append p (tells ms) fault ∙ ap (λ l. l ++ lines_of (at p fault)) (tells_lines p ms)
    ∙ ap (λ l. message_lines p ms ++ l) (fault_lines p new (fault_in old) (fault_in new))

-- ---- of which session it is

pub at_of : (e : End) (i : ℕ) (p : Place) (ws : List What) → is_of e i p ≡ true → told_of e i (at p ws) ≡ ws
at_of e i p [] is = refl
at_of e i p (w ∷ ws) is =
    ap (λ (b : Bool). (if b then w ∷ [] else []) ++ told_of e i (at p ws)) is ∙ ap (λ l. w ∷ l) (at_of e i p ws is)

pub at_none : (e : End) (i : ℕ) (p : Place) (ws : List What) → is_of e i p ≡ false → told_of e i (at p ws) ≡ []
at_none e i p [] is = refl
at_none e i p (w ∷ ws) is =
    ap (λ (b : Bool). (if b then w ∷ [] else []) ++ told_of e i (at p ws)) is ∙ at_none e i p ws is

-- ---- what it adds

tells_append : (one two : List Message) → tells (one ++ two) ≡ tells one ++ tells two
tells_append [] two = refl
tells_append (m ∷ ms) two = ap (λ l. Tells m ∷ l) (tells_append ms two)

drop_length : (ms : List Message) → drop (length ms) ms ≡ []
drop_length [] = refl
drop_length (m ∷ ms) = drop_length ms

first_fault : (bytes : List ℕ) (n : Option BgpFault) → fails n (place_of bytes) ≡ new_fault bytes None n
first_fault bytes None = refl
first_fault bytes (Some f) = refl

same_fault : (bytes : List ℕ) (o : Option BgpFault) → new_fault bytes o o ≡ []
same_fault bytes None = refl
same_fault bytes (Some f) = refl

-- no byte more adds nothing
pub none_added : (bytes : List ℕ) → added bytes bytes ≡ []
none_added bytes =
    ap (λ l. tells l ++ new_fault bytes (fault_in bytes) (fault_in bytes)) (drop_length (messages bytes)) ∙ same_fault bytes (fault_in bytes)

added_by : (old more : List ℕ) (o : Option BgpFault) → fault_in old ≡ o
    → to_tell (old ++ more) ≡ to_tell old ++ (tells (further old more) ++ new_fault (old ++ more) o (fault_in (old ++ more)))
added_by old more None is =
    let new : List ℕ = old ++ more in
    let before = tells (messages old) in
    let behind : List What = tells (further old more) in
    let end : List What = new_fault new None (fault_in new) in
    let sound : to_tell old ≡ before = ap (λ o. before ++ fails o (place_of old)) is ∙ append-nil before in
    ap (λ l. tells l ++ fails (fault_in new) (place_of new)) (further_is old more)
    ∙ ap (λ l. l ++ fails (fault_in new) (place_of new)) (tells_append (messages old) (further old more))
    ∙ append_assoc before behind (fails (fault_in new) (place_of new))
    ∙ ap (λ l. before ++ (behind ++ l)) (first_fault new (fault_in new))
    ∙ ap (λ l. l ++ (behind ++ end)) (sym sound)
added_by old more (Some f) is =
    let new : List ℕ = old ++ more in
    let ms : messages new ≡ messages old = fault_messages old more f is in
    let fault : fault_in new ≡ fault_in old = fault_stays old more f is ∙ sym is in
    let none : further old more ≡ [] = ap (λ l. drop (length (messages old)) l) ms ∙ drop_length (messages old) in
    ap (λ l. tells l ++ fails (fault_in new) (place_of new)) ms
    ∙ ap (λ o. tells (messages old) ++ fails o (place_of new)) fault
    ∙ ap (λ n. tells (messages old) ++ fails (fault_in old) n) (place_stays old more f is)
    ∙ sym (append-nil (to_tell old)) ∙ ap (λ l. to_tell old ++ (tells l ++ [])) (sym none)

pub added_is : (old more : List ℕ) → to_tell (old ++ more) ≡ to_tell old ++ added old (old ++ more)
added_is old more = added_by old more (fault_in old) refl

-- ---- how many faults it adds

tells_none : (p : Place) (ms : List Message) (ws : List What) → faults_told (at p (tells ms ++ ws)) ≡ faults_told (at p ws)
tells_none p [] ws = refl
tells_none p (m ∷ ms) ws = let more = tells_none p ms ws in omega (arith, more)

counted_by : (p : Place) (bytes : List ℕ) (o n : Option BgpFault) → ((f : BgpFault) → o ≡ Some f → n ≡ Some f)
    → faults_told (at p (new_fault bytes o n)) + is_faulty o ≡ is_faulty n
counted_by p bytes None None h = refl
counted_by p bytes None (Some f) h = refl
counted_by p bytes (Some f) n h = sym (ap is_faulty (h f refl))

pub added_faults : (p : Place) (old more : List ℕ) → faults_told (at p (added old (old ++ more))) + is_faulty (fault_in old) ≡ is_faulty (fault_in (old ++ more))
added_faults p old more =
    let new : List ℕ = old ++ more in
    ap (λ n. n + is_faulty (fault_in old)) (tells_none p (further old more) (new_fault new (fault_in old) (fault_in new)))
    ∙ counted_by p new (fault_in old) (fault_in new) (λ f is. fault_stays old more f is)

pub faults_append : (one two : List Telling) → faults_told (one ++ two) ≡ faults_told one + faults_told two
faults_append [] two = omega arith
faults_append (t ∷ ts) two = let more = faults_append ts two in omega (arith, more)
