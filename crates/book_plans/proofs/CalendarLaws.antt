-- Nothing turns in a second in which no lifetime of a row begins or ends.
use Rattle.std.proofs.Common.{◌≡◌, ℕ, zero, suc, ◌+◌, ◌-◌, ◌<◌, ◌≤◌, ◌==◌, Bool, true, false, ◌&&◌, List, [], ◌∷◌, ◌++◌, length, get_or, Option, Some, None, append_assoc, refl, sym, ap, ◌∙◌, arith, nat_le, if◌then◌else◌}
use Rattle.std.proofs.lemmas.List.{append-nil}
use Rattle.std.proofs.lemmas.Bool.Decides.{nat_tests}
use Rattle.std.specs.List.{All, AllByRecursion}
use Rattle.book_base.specs.declared.address.Pair.{Pair}
use Rattle.book_base.specs.declared.end.End.{End}
use Rattle.book_base.specs.declared.end.End.TheVariants.{A, B}
use Rattle.book_plans.specs.declared.turn.Role.{Role}
use Rattle.book_plans.specs.declared.turn.Role.TheVariants.{Acceptable, AskedFor, Sendable, SentWith}
use Rattle.book_plans.specs.declared.turn.Turn.{Turn}
use Rattle.book_plans.specs.Calendar.{PlannedEnd, planned, is_number, has_role, turn_at, turn_by, role_turn, row_turns, turns_from, turns_after, turns_in, Keeps}
use Rattle.book_keys.specs.declared.lifetime.Lifetime.{Lifetime}
use Rattle.book_keys.specs.Choices.{Numbered, later, qualified, latest, send_start, accept_start, send_row, next_row}
use Rattle.book_keys.specs.Lifetimes.{contains}
use Rattle.book_keys.specs.Lookups.{number_of}
use Rattle.book_keys.specs.Plans.{mirrored}
use Rattle.book_keys.specs.Rows.{Row, matches, receives, sends, sendable, acceptable}

abbrev Steady : ℕ → List Row → Type 0
Steady time rows = AllByRecursion (Keeps time) rows

pub by_places : (time : ℕ) (rows : List Row) → All (Keeps time) rows → Steady time rows
by_places time [] all = tt
by_places time (r ∷ rs) all = (all 0 r (omega arith), by_places time rs (λ k d low. all (suc k) d (omega arith)))

sendable_stays : (pair : Pair) (time : ℕ) (r : Row) → Keeps time r → sendable pair time r ≡ sendable pair (time + 1) r
sendable_stays pair time r keeps = ap (λ b. matches r pair && (sends r.direction && b)) keeps.sending

acceptable_stays : (pair : Pair) (time : ℕ) (r : Row) → Keeps time r → acceptable pair time r ≡ acceptable pair (time + 1) r
acceptable_stays pair time r keeps = ap (λ b. matches r pair && (receives r.direction && b)) keeps.accepting

-- two tests that agree on each row choose the same
same_latest : (one two : Row → Bool) (start : Row → ℕ) (n : ℕ) (rows : List Row) → AllByRecursion (λ r. one r ≡ two r) rows
    → latest one start n rows ≡ latest two start n rows
same_latest one two start n [] same = refl
same_latest one two start n (r ∷ rs) same =
    ap (λ b. later start (if b then Some (record { number = n; row = r }) else None) (latest one start (n + 1) rs)) same.0
    ∙ ap (λ more. later start (qualified two n r) more) (same_latest one two start (n + 1) rs same.1)

each_stays : (one two : Row → Bool) (time : ℕ) → ((r : Row) → Keeps time r → one r ≡ two r) → (rows : List Row) → Steady time rows → AllByRecursion (λ r. one r ≡ two r) rows
each_stays one two time stays [] steady = tt
each_stays one two time stays (r ∷ rs) steady = (stays r steady.0, each_stays one two time stays rs steady.1)

sent_stays : (rows : List Row) (pair : Pair) (time : ℕ) → Steady time rows → send_row rows pair time ≡ send_row rows pair (time + 1)
sent_stays rows pair time steady =
    same_latest (sendable pair time) (sendable pair (time + 1)) send_start 1 rows
    (each_stays (sendable pair time) (sendable pair (time + 1)) time (sendable_stays pair time) rows steady)

asked_stays : (rows : List Row) (pair : Pair) (time : ℕ) → Steady time rows → next_row rows pair time ≡ next_row rows pair (time + 1)
asked_stays rows pair time steady =
    same_latest (acceptable pair time) (acceptable pair (time + 1)) accept_start 1 rows
    (each_stays (acceptable pair time) (acceptable pair (time + 1)) time (acceptable_stays pair time) rows steady)

role_stays : (e : PlannedEnd) (n : ℕ) (r : Row) (role : Role) (time : ℕ) → Steady time e.rows → Keeps time r
    → has_role e n time r role ≡ has_role e n (time + 1) r role
role_stays e n r Acceptable time steady keeps = acceptable_stays e.pair time r keeps
role_stays e n r AskedFor time steady keeps = ap (λ o. is_number n (number_of o)) (asked_stays e.rows e.pair time steady)
role_stays e n r Sendable time steady keeps = sendable_stays e.pair time r keeps
role_stays e n r SentWith time steady keeps = ap (λ o. is_number n (number_of o)) (sent_stays e.rows e.pair time steady)

no_turn : (before now : Bool) (turn : Bool → Turn) → before ≡ now → turn_by before now turn ≡ []
no_turn true true turn same = refl
no_turn false false turn same = refl
no_turn true false turn same = absurd (cc)
no_turn false true turn same = absurd (cc)

no_role_turn : (e : PlannedEnd) (time n : ℕ) (r : Row) (role : Role) → Steady time e.rows → Keeps time r → role_turn e time n r role ≡ []
no_role_turn e time n r role steady keeps =
    no_turn (has_role e n time r role) (has_role e n (time + 1) r role) (turn_at e.end (time + 1) n role) (role_stays e n r role time steady keeps)

four_empty : (a b c d : List Turn) → a ≡ [] → b ≡ [] → c ≡ [] → d ≡ [] → (a ++ (b ++ (c ++ d))) ≡ []
four_empty a b c d e f g h = rw (e, f, g, h) refl

two_empty : (a b : List Turn) → a ≡ [] → b ≡ [] → (a ++ b) ≡ []
two_empty a b e f = rw (e, f) refl

none_turns : (e : PlannedEnd) (time n : ℕ) (rows : List Row) → Steady time e.rows → Steady time rows → turns_from e time n rows ≡ []
none_turns e time n [] steady here = refl
none_turns e time n (r ∷ rs) steady here =
    two_empty (row_turns e time n r) (turns_from e time (n + 1) rs)
    (four_empty (role_turn e time n r Acceptable) (role_turn e time n r AskedFor) (role_turn e time n r Sendable) (role_turn e time n r SentWith)
    (no_role_turn e time n r Acceptable steady here.0) (no_role_turn e time n r AskedFor steady here.0)
    (no_role_turn e time n r Sendable steady here.0) (no_role_turn e time n r SentWith steady here.0))
    (none_turns e time (n + 1) rs steady here.1)

pub nothing_turns : (a b : List Row) (pair : Pair) (time : ℕ) → All (Keeps time) a → All (Keeps time) b → turns_after a b pair time ≡ []
nothing_turns a b pair time at_a at_b =
    let sa = by_places time a at_a in
    let sb = by_places time b at_b in
    two_empty (turns_from (planned A a pair) time 1 a) (turns_from (planned B b (mirrored pair)) time 1 b)
    (none_turns (planned A a pair) time 1 a sa sa) (none_turns (planned B b (mirrored pair)) time 1 b sb sb)

-- seconds in which nothing turns are passed over
pub quiet_run : (a b : List Row) (pair : Pair) (k time next n m : ℕ) → next ≡ time + k → m ≡ k + n
    → ((t : ℕ) → time ≤ t → t < next → turns_after a b pair t ≡ []) → turns_in a b pair time m ≡ turns_in a b pair next n
quiet_run a b pair zero time next n m same count run = let at : next ≡ time = omega arith in let all : m ≡ n = omega arith in rw (at, all) refl
quiet_run a b pair (suc k) time next n zero same count run = absurd (omega arith)
quiet_run a b pair (suc k) time next n (suc m) same count run =
    let here = run time (omega arith) (omega arith) in
    ap (λ turns. turns ++ turns_in a b pair (time + 1) m) here
    ∙ quiet_run a b pair k (time + 1) next n m (omega arith) (omega arith) (λ t a b. run t (omega arith) b)

-- the turns of a time until which nothing turns, in front of those after it
pub next_turns : (a b : List Row) (pair : Pair) (time quiet to : ℕ) → time ≤ quiet → quiet < to
    → ((t : ℕ) → time ≤ t → t < quiet → turns_after a b pair t ≡ []) → turns_in a b pair time (to - time) ≡ turns_after a b pair quiet ++ turns_in a b pair (quiet + 1) (to - (quiet + 1))
next_turns a b pair time quiet to low high run =
    quiet_run a b pair (quiet - time) time quiet (to - quiet) (to - time) (omega arith) (omega arith) run
    ∙ one_more (to - quiet) (to - (quiet + 1)) (omega arith)
  where
    one_more : (m n : ℕ) → m ≡ n + 1 → turns_in a b pair quiet m ≡ turns_after a b pair quiet ++ turns_in a b pair (quiet + 1) n
    one_more zero n e = absurd (omega arith)
    one_more (suc m) n e = let same : m ≡ n = omega arith in rw same refl

-- no more turns
pub no_turns : (a b : List Row) (pair : Pair) (time to : ℕ) → ((t : ℕ) → time ≤ t → t < to → turns_after a b pair t ≡ []) → turns_in a b pair time (to - time) ≡ []
no_turns a b pair time to run =
    quiet_run a b pair (to - time) time (time + (to - time)) 0 (to - time) refl (omega arith) (λ t a b. run t a (omega arith))

-- ---- for code that goes from turn to turn

pub start_later : (first t : ℕ) → t + 1 < first → nat_le first t ≡ nat_le first (t + 1)
start_later first t low = grind (arith, nat_tests)

pub start_earlier : (first t : ℕ) → first ≤ t → nat_le first t ≡ nat_le first (t + 1)
start_earlier first t low = grind (arith, nat_tests)

pub end_later : (last t : ℕ) → t < last → nat_le t last ≡ nat_le (t + 1) last
end_later last t low = grind (arith, nat_tests)

pub end_earlier : (last t : ℕ) → last < t → nat_le t last ≡ nat_le (t + 1) last
end_earlier last t low = grind (arith, nat_tests)

pub lifetime_stays : (l : Lifetime) (t : ℕ) → nat_le l.first t ≡ nat_le l.first (t + 1) → nat_le t l.last ≡ nat_le (t + 1) l.last → contains l t ≡ contains l (t + 1)
lifetime_stays l t start end = rw (start, end) refl

-- no turn is left
pub all_told : (turns total : List Turn) (a b : List Row) (pair : Pair) (time to : ℕ) → turns ++ turns_in a b pair time (to - time) ≡ total
    → ((t : ℕ) → time ≤ t → t < to → turns_after a b pair t ≡ []) → turns ≡ total
all_told turns total a b pair time to so_far quiet = sym (append-nil turns) ∙ sym (ap (λ l. turns ++ l) (no_turns a b pair time to quiet)) ∙ so_far

-- the turns of one more second are told
pub more_told : (turns total now : List Turn) (a b : List Row) (pair : Pair) (time quiet to : ℕ) → turns ++ turns_in a b pair time (to - time) ≡ total
    → time ≤ quiet → quiet < to → ((t : ℕ) → time ≤ t → t < quiet → turns_after a b pair t ≡ []) → now ≡ turns ++ turns_after a b pair quiet
    → now ++ turns_in a b pair (quiet + 1) (to - (quiet + 1)) ≡ total
more_told turns total now a b pair time quiet to so_far low high none added =
    ap (λ l. l ++ turns_in a b pair (quiet + 1) (to - (quiet + 1))) added ∙ append_assoc turns (turns_after a b pair quiet) (turns_in a b pair (quiet + 1) (to - (quiet + 1)))
    ∙ sym (ap (λ l. turns ++ l) (next_turns a b pair time quiet to low high none)) ∙ so_far
