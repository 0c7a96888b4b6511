-- An answer is of the packet that is asked for, and says what the check says.
use Rattle.std.proofs.Common.{◌≡◌, ℕ, zero, suc, ◌<◌, Bool, true, false, List, [], ◌∷◌, ◌++◌, length, Option, Some, None, Result, Ok, Err, refl, sym, ap, ◌∙◌, arith}
use Rattle.std.specs.Prelude.{if◌then◌else◌}
use Rattle.std.specs.List.{All, find}
use Rattle.book_keys.specs.Rows.{Table}
use Rattle.book_captures.specs.Captures.{CapturePacket}
use Rattle.book_cmd_check.specs.declared.given.GivenIsns.{GivenIsns}
use Rattle.book_cmd_check.specs.Captures.{Connection, Heard, Stored, hear, sayings_from}
use Rattle.book_cmd_check.specs.Connections.{connections_after}
use Rattle.book_cmd_check.specs.Handshakes.{given_after}
use Rattle.book_scope_plan.specs.AdminNames.{KeyFile}
use Rattle.book_sessions.specs.declared.outcome.PassedOver.{PassedOver}
use Rattle.book_sessions.specs.Sessions.{all_stored, captured_of_packet, stored_before, stored_of_packet}
use Rattle.book_why.specs.Answers.{WhyAsked, answer_behind, behind_stored, has_number, no_packet_line, packet_asked, packets_before, passes_behind, said_behind, why_passes, why_text}

chosen : {X : Type 0} → (b : Bool) (x y : X) → b ≡ true → (if b then x else y) ≡ x
chosen true x y e = refl
chosen false x y e = absurd (cc)

other : {X : Type 0} → (b : Bool) (x y : X) → b ≡ false → (if b then x else y) ≡ y
other false x y e = refl
other true x y e = absurd (cc)

-- none of these packets has this number
abbrev NoneHas : ℕ → List CapturePacket → Type 0
NoneHas n packets = All (λ q. has_number n q ≡ false) packets

head_of : (n : ℕ) (p : CapturePacket) (ps : List CapturePacket) → NoneHas n (p ∷ ps) → has_number n p ≡ false
head_of n p ps h = h zero p (omega arith)

tail_of : (n : ℕ) (p : CapturePacket) (ps : List CapturePacket) → NoneHas n (p ∷ ps) → NoneHas n ps
tail_of n p ps h k d low = h (suc k) d (omega (arith, low))

front_of : (n : ℕ) (before after : List CapturePacket) (p : CapturePacket) → NoneHas n before → has_number n p ≡ true → packets_before n (before ++ p ∷ after) ≡ before
front_of n [] after p free is = chosen (has_number n p) [] (p ∷ packets_before n after) is
front_of n (q ∷ qs) after p free is =
    other (has_number n q) [] (q ∷ packets_before n (qs ++ p ∷ after)) (head_of n q qs free)
    ∙ ap (λ (l : List CapturePacket). q ∷ l) (front_of n qs after p (tail_of n q qs free) is)

found_at : (n : ℕ) (before after : List CapturePacket) (p : CapturePacket) → NoneHas n before → has_number n p ≡ true → find (has_number n) (before ++ p ∷ after) ≡ Some p
found_at n [] after p free is = chosen (has_number n p) (Some p) (find (has_number n) after) is
found_at n (q ∷ qs) after p free is =
    other (has_number n q) (Some q) (find (has_number n) (qs ++ p ∷ after)) (head_of n q qs free)
    ∙ found_at n qs after p (tail_of n q qs free) is

missing_from : (n : ℕ) (packets : List CapturePacket) → NoneHas n packets → find (has_number n) packets ≡ None
missing_from n [] free = refl
missing_from n (q ∷ qs) free =
    other (has_number n q) (Some q) (find (has_number n) qs) (head_of n q qs free) ∙ missing_from n qs (tail_of n q qs free)

pub text_told : (keys : KeyFile) (asked : WhyAsked) (before after : List CapturePacket) (p : CapturePacket) → NoneHas asked.number before → has_number asked.number p ≡ true
    → why_text keys asked (before ++ p ∷ after) ≡ answer_behind keys (behind_stored keys.tables asked.given (all_stored before)) asked.with_key p.number (captured_of_packet p)
unfolding why_text
text_told keys asked before after p free is =
    rw (front_of asked.number before after p free is, found_at asked.number before after p free is) refl

pub pass_told : (tables : List Table) (asked : WhyAsked) (before after : List CapturePacket) (p : CapturePacket) → NoneHas asked.number before → has_number asked.number p ≡ true
    → why_passes tables asked (before ++ p ∷ after) ≡ passes_behind tables (behind_stored tables asked.given (all_stored before)) (stored_of_packet p)
unfolding why_passes
pass_told tables asked before after p free is =
    rw (front_of asked.number before after p free is, found_at asked.number before after p free is) refl

pub missing_told : (keys : KeyFile) (asked : WhyAsked) (packets : List CapturePacket) → NoneHas asked.number packets → why_text keys asked packets ≡ no_packet_line asked.number (length packets)
unfolding why_text
missing_told keys asked packets free = rw (missing_from asked.number packets free) refl

stored_append : (a b : List CapturePacket) → all_stored (a ++ b) ≡ all_stored a ++ all_stored b
stored_append [] b = refl
stored_append (p ∷ ps) b = at (stored_of_packet p) (stored_append ps b)
  where
    at : (r : Result Stored PassedOver) → all_stored (ps ++ b) ≡ all_stored ps ++ all_stored b → stored_before r (all_stored (ps ++ b)) ≡ stored_before r (all_stored ps) ++ all_stored b
    at (Ok s) e = ap (λ (l : List Stored). s ∷ l) e
    at (Err why) e = e

sayings_split : (tables : List Table) (held : List Connection) (before after : List Stored)
    → sayings_from tables held (before ++ after) ≡ sayings_from tables held before ++ sayings_from tables (connections_after tables held before) after
sayings_split tables held [] after = refl
sayings_split tables held (s ∷ rest) after =
    let h : Heard = hear tables held s.time s.bytes in ap (λ ws. h.saying ∷ ws) (sayings_split tables h.connections rest after)

pub verdict_told : (tables : List Table) (given : List GivenIsns) (before after : List CapturePacket) (p : CapturePacket) (s : Stored) → stored_of_packet p ≡ Ok s
    → sayings_from tables (given_after [] given) (all_stored (before ++ p ∷ after))
    ≡ sayings_from tables (given_after [] given) (all_stored before) ++ (said_behind tables (behind_stored tables given (all_stored before)) s
    ∷ sayings_from tables (hear tables (connections_after tables (given_after [] given) (all_stored before)) s.time s.bytes).connections (all_stored after))
verdict_told tables given before after p s is =
    let here : all_stored (p ∷ after) ≡ s ∷ all_stored after = ap (λ (r : Result Stored PassedOver). stored_before r (all_stored after)) is in
    let whole : all_stored (before ++ p ∷ after) ≡ all_stored before ++ (s ∷ all_stored after) = stored_append before (p ∷ after) ∙ ap (λ (l : List Stored). all_stored before ++ l) here in
    ap (sayings_from tables (given_after [] given)) whole ∙ sayings_split tables (given_after [] given) (all_stored before) (s ∷ all_stored after)
