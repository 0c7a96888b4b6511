-- A search over laps, and what is heard by it.
use Rattle.std.proofs.Common.{◌≡◌, ◌+◌, ◌*◌, ◌-◌, ◌<◌, ◌≤◌, ◌^◌, ℕ, suc, zero, Bool, true, false, List, Option, Some, None, refl, sym, ap, ◌∙◌, subst, arith}
use Rattle.std.proofs.lemmas.Bool.Decides.{nat_tests}
use Rattle.std.specs.Prelude.{nat_le, if◌then◌else◌, Result, Ok, Err, OnErr}
use Rattle.std.specs.Option.{option_or}
use Rattle.book_base.specs.declared.address.Pair.{Pair}
use Rattle.book_segments.specs.Bytes.{ring}
use Rattle.book_segments.specs.Segments.{Segment, Read}
use Rattle.book_keys.specs.Rows.{Table}
use Rattle.book_endpoint.specs.States.{number_limit}
use Rattle.book_cmd_check.specs.Captures.{Connection, Heard, connection_between, hear_read, is_pass}
use Rattle.book_sessions.specs.Laps.{first_from, heard_ahead, heard_by, if_pass, with_expected}
use Rattle.capture_check.specs.declared.answer.CheckLine.{CheckLine}
use Rattle.capture_check.specs.declared.flows.Flows.{Flows}
use Rattle.capture_check.specs.Answers.{Says}
use Rattle.capture_check.specs.Checkers.{Hears, IsSound, StandsFor}
use Rattle.capture_check.specs.Expecting.{hear_as, hear_expecting, if_passing}
use Rattle.capture_listener.specs.Searches.{Finds}

-- ---- what is heard so many laps ahead

-- beyond the greatest number nothing is heard
pub none_beyond : (hear : List Connection → Heard) (held : List Connection) (c : Connection) (many k : ℕ) → number_limit < c.one.expected + k * ring → first_from (heard_ahead hear held c) many k ≡ None
none_beyond hear held c zero k far = refl
none_beyond hear held c (suc many) k far =
    let no : nat_le (c.one.expected + k * ring) number_limit ≡ false = grind (arith, nat_tests) in
    let next : number_limit < c.one.expected + suc k * ring = omega arith in
    rw no (none_beyond hear held c many (suc k) next)

-- within it, it is what is heard where this number is expected, if that passes
pub ahead_is : (hear : List Connection → Heard) (held : List Connection) (c : Connection) (k n : ℕ) → n ≡ c.one.expected + k * ring → n ≤ number_limit
    → heard_ahead hear held c k ≡ if_pass (hear (with_expected n c held))
ahead_is hear held c k n is low =
    let yes_it_is : nat_le n number_limit ≡ true = grind (arith, nat_tests) in
    rw (← is, yes_it_is) refl

-- one more of so many is tried
pub tried : (F : ℕ → Option Heard) (laps a : ℕ) → a < laps → first_from F (laps - a) (a + 1) ≡ option_or (F (a + 1)) (first_from F (laps - (a + 1)) (a + 1 + 1))
tried F laps a low = at (laps - a) (laps - (a + 1)) (omega arith)
  where
    at : (m n : ℕ) → m ≡ n + 1 → first_from F m (a + 1) ≡ option_or (F (a + 1)) (first_from F n (a + 1 + 1))
    at zero n e = absurd (omega arith)
    at (suc m) n e = let is : m ≡ n = omega arith in let next : suc (a + 1) ≡ a + 1 + 1 = omega arith in rw (is, next) refl

-- ---- a search

-- so many laps were tried, and none of them passed
pub record Searching (tables : List Table) (laps now expected : ℕ) (d : Segment) (before after : List (Pair × Flows)) (n ahead : ℕ) : Type 0 where
  pub sound : IsSound tables after
  pub number : n ≡ expected + ahead * ring
  pub limit : n ≤ 2 ^ 63
  pub within : ahead ≤ laps
  pub stands : (held : List Connection) (c : Connection) → StandsFor before held → connection_between d held ≡ Some c → StandsFor after held
  pub rest : (held : List Connection) (c : Connection) → StandsFor before held → connection_between d held ≡ Some c → c.one.expected ≡ expected
      → first_from (heard_ahead (heard_by (record { tables = tables; laps = laps }) now d) held c) laps 1
      ≡ first_from (heard_ahead (heard_by (record { tables = tables; laps = laps }) now d) held c) (laps - ahead) (ahead + 1)

pub begins : (tables : List Table) (laps now expected : ℕ) (d : Segment) (es : List (Pair × Flows)) → IsSound tables es → expected ≤ 2 ^ 63 → Searching tables laps now expected d es es expected 0
begins tables laps now expected d es sound low =
    let none : laps - 0 ≡ laps = omega arith in
    record { sound = sound; number = omega arith; limit = low; within = omega arith; stands = λ held c S is. S; rest = λ held c S is e. rw none refl }

pub record Found (tables : List Table) (laps now expected : ℕ) (d : Segment) (before after : List (Pair × Flows)) (found : Option CheckLine) : Type 0 where
  pub sound : IsSound tables after
  pub finds : (held : List Connection) (c : Connection) → StandsFor before held → connection_between d held ≡ Some c → c.one.expected ≡ expected
      → Finds after held found (first_from (heard_ahead (heard_by (record { tables = tables; laps = laps }) now d) held c) laps 1)

-- all laps were tried
pub none_left : (tables : List Table) (laps now expected : ℕ) (d : Segment) (before after : List (Pair × Flows)) (n ahead : ℕ) → Searching tables laps now expected d before after n ahead
    → laps ≤ ahead → Found tables laps now expected d before after None
none_left tables laps now expected d before after n ahead S all =
    record {
      sound = S.sound;
      finds = λ held c stands is e. (S.rest held c stands is e ∙ none (heard_ahead (heard_by (record { tables = tables; laps = laps }) now d) held c) (laps - ahead) (omega arith), S.stands held c stands is);
    }
  where
    none : (F : ℕ → Option Heard) (m : ℕ) → m ≡ 0 → first_from F m (ahead + 1) ≡ None
    none F zero e = refl
    none F (suc m) e = absurd (omega arith)

-- the next number is too great
pub none_further : (tables : List Table) (laps now expected : ℕ) (d : Segment) (before after : List (Pair × Flows)) (n ahead : ℕ) → Searching tables laps now expected d before after n ahead
    → 2 ^ 63 < n + ring → Found tables laps now expected d before after None
none_further tables laps now expected d before after n ahead S far =
    let number = S.number in
    record {
      sound = S.sound;
      finds = λ held c stands is e.
          (S.rest held c stands is e ∙ none_beyond (heard_by (record { tables = tables; laps = laps }) now d) held c (laps - ahead) (ahead + 1) (omega (arith, e, number)), S.stands held c stands is);
    }

-- what a try hears, by what is heard where this number is expected
heard_is : (tables : List Table) (held : List Connection) (now : ℕ) (d : Segment) (n : ℕ) (c : Connection) → connection_between d held ≡ Some c
    → hear_as tables held now d n ≡ if_passing held (hear_read tables (with_expected n c held) now (Read d))
heard_is tables held now d n c is = ap (hear_expecting tables held now d n) is

passes_by : (held : List Connection) (h : Heard) → is_pass (if_passing held h).saying ≡ is_pass h.saying
passes_by held h = at (is_pass h.saying) refl
  where
    at : (v : Bool) → is_pass h.saying ≡ v → is_pass (if v then h else record { connections = held; saying = h.saying }).saying ≡ is_pass h.saying
    at true e = refl
    at false e = refl

pass_is : (held : List Connection) (h : Heard) → is_pass h.saying ≡ true → if_passing held h ≡ h
pass_is held h e = rw e refl

pass_isnt : (held : List Connection) (h : Heard) → is_pass h.saying ≡ false → if_passing held h ≡ record { connections = held; saying = h.saying }
pass_isnt held h e = rw e refl

-- a try didn't pass
pub goes_on : (tables : List Table) (laps now expected : ℕ) (d : Segment) (before after next : List (Pair × Flows)) (n m ahead : ℕ) (l : CheckLine) (v : Bool)
    → Searching tables laps now expected d before after n ahead → ahead < laps → m ≡ n + ring → m ≤ 2 ^ 63 → IsSound tables next
    → ((held : List Connection) → StandsFor after held → Hears next l (hear_as tables held now d m)) → ((h : Heard) → Says l h.saying → v ≡ is_pass h.saying) → v ≡ false
    → Searching tables laps now expected d before next m (ahead + 1)
goes_on tables laps now expected d before after next n m ahead l v S low is_m limit sound heard told fails =
    let number = S.number in
    record {
      sound = sound;
      number = omega (arith, is_m, number);
      limit = limit;
      within = omega arith;
      stands = λ held c stands is. (at held c stands is).stands;
      rest = λ held c stands is e. rest held c stands is e;
    }
  where
    H : List Connection → Connection → Heard
    H held c = hear_read tables (with_expected m c held) now (Read d)

    refused : (held : List Connection) (c : Connection) → StandsFor before held → connection_between d held ≡ Some c → is_pass (H held c).saying ≡ false
    refused held c stands is =
        let h = heard held (S.stands held c stands is) in
        sym (told (hear_as tables held now d m) h.says ∙ (ap (λ (x : Heard). is_pass x.saying) (heard_is tables held now d m c is) ∙ passes_by held (H held c))) ∙ fails

    at : (held : List Connection) (c : Connection) → StandsFor before held → connection_between d held ≡ Some c → Hears next l (record { connections = held; saying = (H held c).saying })
    at held c stands is =
        subst (λ (x : Heard). Hears next l x) (heard_is tables held now d m c is ∙ pass_isnt held (H held c) (refused held c stands is)) (heard held (S.stands held c stands is))

    rest : (held : List Connection) (c : Connection) → StandsFor before held → connection_between d held ≡ Some c → c.one.expected ≡ expected
        → first_from (heard_ahead (heard_by (record { tables = tables; laps = laps }) now d) held c) laps 1
        ≡ first_from (heard_ahead (heard_by (record { tables = tables; laps = laps }) now d) held c) (laps - (ahead + 1)) (ahead + 1 + 1)
    rest held c stands is e =
        let F = heard_ahead (heard_by (record { tables = tables; laps = laps }) now d) held c in
        let number = S.number in
        let here : F (ahead + 1) ≡ None =
        ahead_is (heard_by (record { tables = tables; laps = laps }) now d) held c (ahead + 1) m (omega (arith, is_m, number, e)) limit
        ∙ ap (λ (b : Bool). if b then Some (H held c) else None) (refused held c stands is) in
        S.rest held c stands is e ∙ (tried F laps ahead low ∙ ap (λ (o : Option Heard). option_or o (first_from F (laps - (ahead + 1)) (ahead + 1 + 1))) here)

-- a try passed
pub is_found : (tables : List Table) (laps now expected : ℕ) (d : Segment) (before after next : List (Pair × Flows)) (n m ahead : ℕ) (l : CheckLine) (v : Bool)
    → Searching tables laps now expected d before after n ahead → ahead < laps → m ≡ n + ring → m ≤ 2 ^ 63 → IsSound tables next
    → ((held : List Connection) → StandsFor after held → Hears next l (hear_as tables held now d m)) → ((h : Heard) → Says l h.saying → v ≡ is_pass h.saying) → v ≡ true
    → Found tables laps now expected d before next (Some l)
is_found tables laps now expected d before after next n m ahead l v S low is_m limit sound heard told passed =
    record { sound = sound; finds = λ held c stands is e. (H held c, first held c stands is e, at held c stands is) }
  where
    H : List Connection → Connection → Heard
    H held c = hear_read tables (with_expected m c held) now (Read d)

    passes : (held : List Connection) (c : Connection) → StandsFor before held → connection_between d held ≡ Some c → is_pass (H held c).saying ≡ true
    passes held c stands is =
        let h = heard held (S.stands held c stands is) in
        sym (told (hear_as tables held now d m) h.says ∙ (ap (λ (x : Heard). is_pass x.saying) (heard_is tables held now d m c is) ∙ passes_by held (H held c))) ∙ passed

    at : (held : List Connection) (c : Connection) → StandsFor before held → connection_between d held ≡ Some c → Hears next l (H held c)
    at held c stands is =
        subst (λ (x : Heard). Hears next l x) (heard_is tables held now d m c is ∙ pass_is held (H held c) (passes held c stands is)) (heard held (S.stands held c stands is))

    first : (held : List Connection) (c : Connection) → StandsFor before held → connection_between d held ≡ Some c → c.one.expected ≡ expected
        → first_from (heard_ahead (heard_by (record { tables = tables; laps = laps }) now d) held c) laps 1 ≡ Some (H held c)
    first held c stands is e =
        let F = heard_ahead (heard_by (record { tables = tables; laps = laps }) now d) held c in
        let number = S.number in
        let here : F (ahead + 1) ≡ Some (H held c) =
        ahead_is (heard_by (record { tables = tables; laps = laps }) now d) held c (ahead + 1) m (omega (arith, is_m, number, e)) limit
        ∙ ap (λ (b : Bool). if b then Some (H held c) else None) (passes held c stands is) in
        S.rest held c stands is e ∙ (tried F laps ahead low ∙ ap (λ (o : Option Heard). option_or o (first_from F (laps - (ahead + 1)) (ahead + 1 + 1))) here)

-- what holds in any case holds after an error
pub on_err : {T E : Type 0} (r : Result T E) (P : Type 0) → P → OnErr r P
on_err (Ok v) P h = tt
on_err (Err e) P h = h
