-- A list of uses grown by one segment that shows nothing frees no row.
use Rattle.std.proofs.Common.{◌≡◌, ◌≤◌, ℕ, ◌+◌, ◌&&◌, ◌||◌, not, nat_lt, nat_le, Bool, true, false, List, [], ◌∷◌, Option, Some, None, refl, sym, ap, ◌∙◌, arith, if◌then◌else◌}
use Rattle.std.proofs.lemmas.Bool.Decides.{nat_tests}
use Rattle.std.specs.Prelude.{filter, cond}
use Rattle.std.specs.List.{list_all, list_any}
use Rattle.book_base.specs.declared.address.Address.{Address}
use Rattle.book_base.specs.declared.address.Pair.{Pair}
use Rattle.book_base.specs.declared.address.Socket.{Socket}
use Rattle.book_keys.specs.Rows.{Row, Table}
use Rattle.book_keys.specs.declared.lifetime.Lifetime.{Lifetime}
use Rattle.book_sessions.specs.declared.retiring.MayGo.TheVariants as go
use Rattle.book_sessions.specs.declared.uses.KeyUse.{KeyUse}
use Rattle.book_sessions.specs.declared.uses.SeenSegment.{SeenSegment}
use Rattle.book_sessions.specs.Counts.{no_signs}
use Rattle.book_sessions.specs.OutcomeTexts.{is_verified}
use Rattle.book_sessions.specs.declared.retiring.Ending.{Ending}
use Rattle.book_sessions.specs.declared.retiring.Wanting.{Wanting}
use Rattle.book_sessions.specs.Retiring.{Evidence, all_left, all_without, and_ending, asks_for_row, between, both_without, came_under, carries_row, does_without, ending_by, evidence_of, goes_from, is_at_row, is_counted, is_elsewhere, is_dispensable, is_followed, is_for, is_id, is_in_use, is_live, is_of_peer, is_onward, is_outlived, is_return, is_sent_anew, is_taken_anew, leaves_use, may_be_sent, may_be_taken, may_go, sees_peers, sent_by, sent_to, shows_peer, wanting_by, wants_row, with_mark}
use Rattle.book_sessions.specs.Sessions.{SessionTable, and_segment, first_use, is_use_of, signs_of, used_again, with_use}
use Rattle.law_sessions.specs.Old.{IsLast, evidence_at}

-- ---- tests

-- where the first holds the second does
abbrev Leads : Bool → Bool → Type 0
Leads a b = a ≡ true → b ≡ true

and_leads : (a b c d : Bool) → Leads a c → Leads b d → Leads (a && b) (c && d)
and_leads true true c d f g e = rw (f refl, g refl) refl
and_leads true false c d f g e = absurd (cc)
and_leads false b c d f g e = absurd (cc)

or_leads : (a b c d : Bool) → Leads a c → Leads b d → Leads (a || b) (c || d)
or_leads true b c d f g e = rw (f refl) refl
or_leads false b true d f g e = refl
or_leads false b false d f g e = g e

not_turned : (a b : Bool) → Leads a b → Leads (not b) (not a)
not_turned true true f e = absurd (cc)
not_turned true false f e = let bad : false ≡ true = f refl in absurd (cc)
not_turned false b f e = refl

false_and : (b : Bool) → (b && false) ≡ false
false_and true = refl
false_and false = refl

parts : (a b : Bool) → (a && b) ≡ true → (a ≡ true) × (b ≡ true)
parts true true e = (refl, refl)
parts true false e = absurd (cc)
parts false b e = absurd (cc)

-- ---- marks

mark_up : (c d : Bool) (m n x y : ℕ) → Leads c d → m ≤ n → x ≤ y → with_mark c m x ≤ with_mark d n y
mark_up true true m n x y f h i = omega arith
mark_up true false m n x y f h i = let bad : false ≡ true = f refl in absurd (cc)
mark_up false true m n x y f h i = omega arith
mark_up false false m n x y f h i = i

mark_none : (c : Bool) (x : ℕ) → with_mark c 0 x ≡ x
mark_none true x = omega arith
mark_none false x = refl

-- ---- uses of the same kind

-- the second is the first with further segments that show nothing
pub record Alike (u v : KeyUse) : Type 0 where
  pub source : v.source ≡ u.source
  pub destination : v.destination ≡ u.destination
  pub key_id : v.key_id ≡ u.key_id
  pub asked : v.asked ≡ u.asked
  pub outcome : v.outcome ≡ u.outcome
  pub row : v.row ≡ u.row
  pub isns : v.isns ≡ u.isns
  pub moved : v.moved ≡ u.moved
  pub reset : v.reset ≡ u.reset
  pub finished : v.finished ≡ u.finished
  pub first : v.first ≤ u.first
  pub last : u.last ≤ v.last
  pub packet : u.packet ≤ v.packet

same_alike : (u : KeyUse) → Alike u u
same_alike u = record {
  source = refl;
  destination = refl;
  key_id = refl;
  asked = refl;
  outcome = refl;
  row = refl;
  isns = refl;
  moved = refl;
  reset = refl;
  finished = refl;
  first = omega arith;
  last = omega arith;
  packet = omega arith;
}

-- it shows nothing
pub record IsQuiet (v : KeyUse) : Type 0 where
  pub moved : v.moved ≡ 0
  pub reset : v.reset ≡ 0
  pub finished : v.finished ≡ 0

-- the second are the first, each with further segments, and others behind them that show nothing
abbrev pub Grown : List KeyUse → List KeyUse → Type 0
Grown [] [] = Unit {0}
Grown [] (v ∷ vs) = IsQuiet v × Grown [] vs
Grown (u ∷ us) [] = ⊥
Grown (u ∷ us) (v ∷ vs) = Alike u v × Grown us vs

same_grown : (us : List KeyUse) → Grown us us
same_grown [] = tt
same_grown (u ∷ us) = (same_alike u, same_grown us)

module _ (s : SeenSegment) where
  first_quiet : (k : ℕ) → IsQuiet (first_use k no_signs s)
  first_quiet k = record { moved = refl; reset = refl; finished = refl }

  again_alike : (u : KeyUse) → u.packet ≤ s.packet → Alike u (used_again no_signs s u)
  again_alike u later = record {
    source = refl;
    destination = refl;
    key_id = refl;
    asked = refl;
    outcome = refl;
    row = refl;
    isns = refl;
    moved = refl;
    reset = refl;
    finished = refl;
    first = omega arith;
    last = omega arith;
    packet = later;
  }

  grown_by : (k : ℕ) (us : List KeyUse) → IsLast s us → Grown us (with_use k no_signs s us)
  grown_by k [] last = (first_quiet k, tt)
  grown_by k (u ∷ us) last = at (is_use_of s u) (grown_by k us last.1)
    where
      at : (b : Bool) → Grown us (with_use k no_signs s us) → Grown (u ∷ us) (if b then used_again no_signs s u ∷ us else u ∷ with_use k no_signs s us)
      at true others = (again_alike u last.0, same_grown us)
      at false others = (same_alike u, others)

-- ---- the row

module _ (t : Table) (n : ℕ) (r : Row) where
  outlived_less : (l : Lifetime) (u v : KeyUse) → Alike u v → Leads (is_outlived l v) (is_outlived l u)
  outlived_less l u v A e = below l.last v.first u.first A.first e
    where
      below : (a x y : ℕ) → x ≤ y → Leads (nat_lt a x) (nat_lt a y)
      below a x y h e = grind (arith, nat_tests)

  ends_less : (l : Lifetime) (u v : KeyUse) → Alike u v → Leads (nat_le v.last l.last) (nat_le u.last l.last)
  ends_less l u v A e = below l.last u.last v.last A.last e
    where
      below : (a x y : ℕ) → x ≤ y → Leads (nat_le y a) (nat_le x a)
      below a x y h e = grind (arith, nat_tests)

  rows_leads : (f g : Row → Bool) → ((q : Row) → Leads (g q) (f q)) → (qs : List Row) → Leads (list_any g qs) (list_any f qs)
  rows_leads f g h [] e = e
  rows_leads f g h (q ∷ qs) e = or_leads (g q) (list_any g qs) (f q) (list_any f qs) (h q) (rows_leads f g h qs) e

  anew_leads : (pair : Pair) (found : Option ℕ) (id : Row → ℕ) (life : Row → Lifetime) (u v : KeyUse) → Alike u v
      → Leads (list_any (λ q. is_for t q pair && (is_id found (id q) && nat_le v.last (life q).last)) t.rows) (list_any (λ q. is_for t q pair && (is_id found (id q) && nat_le u.last (life q).last)) t.rows)
  anew_leads pair found id life u v A =
      rows_leads (λ q. is_for t q pair && (is_id found (id q) && nat_le u.last (life q).last)) (λ q. is_for t q pair && (is_id found (id q) && nat_le v.last (life q).last))
      (λ q. and_leads (is_for t q pair) _ (is_for t q pair) _ (λ e. e) (and_leads (is_id found (id q)) _ (is_id found (id q)) _ (λ e. e) (ends_less (life q) u v A))) t.rows

  sent_anew_less : (pair : Pair) (found : Option ℕ) (u v : KeyUse) → Alike u v → Leads (not (is_sent_anew t r pair found u)) (not (is_sent_anew t r pair found v))
  sent_anew_less pair found u v A = not_turned (is_sent_anew t r pair found v) (is_sent_anew t r pair found u)
      (and_leads (is_outlived r.sending v) (may_be_sent t pair found v) (is_outlived r.sending u) (may_be_sent t pair found u)
      (outlived_less r.sending u v A) (anew_leads pair found (λ q. q.send_id) (λ q. q.sending) u v A))

  taken_anew_less : (pair : Pair) (found : Option ℕ) (u v : KeyUse) → Alike u v → Leads (not (is_taken_anew t r pair found u)) (not (is_taken_anew t r pair found v))
  taken_anew_less pair found u v A = not_turned (is_taken_anew t r pair found v) (is_taken_anew t r pair found u)
      (and_leads (is_outlived r.accepting v) (may_be_taken t pair found v) (is_outlived r.accepting u) (may_be_taken t pair found u)
      (outlived_less r.accepting u v A) (anew_leads pair found (λ q. q.recv_id) (λ q. q.accepting) u v A))

  sent_same : (u v : KeyUse) → Alike u v → sent_by t r v ≡ sent_by t r u
  sent_same u v A = rw (A.source, A.destination) refl

  sent_to_same : (u v : KeyUse) → Alike u v → sent_to t r v ≡ sent_to t r u
  sent_to_same u v A = rw (A.source, A.destination) refl

  under_leads : (row : Option ℕ) (u v : KeyUse) → Alike u v → Leads (came_under t n r u row) (came_under t n r v row)
  under_leads None u v A = rw (A.source, A.destination, A.key_id) (taken_anew_less (between u.destination u.source) u.key_id u v A)
  under_leads (Some m) u v A = λ e. e

  carries_leads : (u v : KeyUse) → Alike u v → Leads (carries_row t n r u) (carries_row t n r v)
  carries_leads u v A = or_leads (sent_by t r u && _) (sent_to t r u && _) (sent_by t r v && _) (sent_to t r v && _)
      (and_leads (sent_by t r u) _ (sent_by t r v) _ (λ e. sent_same u v A ∙ e) (and_leads (is_id u.key_id r.send_id) _ (is_id v.key_id r.send_id) _ (λ e. rw A.key_id e)
      (rw (A.source, A.destination, A.key_id) (sent_anew_less (between u.source u.destination) u.key_id u v A))))
      (and_leads (sent_to t r u) _ (sent_to t r v) _ (λ e. sent_to_same u v A ∙ e) (and_leads (is_id u.key_id r.recv_id) _ (is_id v.key_id r.recv_id) _ (λ e. rw A.key_id e)
      (rw A.row (under_leads u.row u v A))))

  asks_leads : (u v : KeyUse) → Alike u v → Leads (asks_for_row t r u) (asks_for_row t r v)
  asks_leads u v A = or_leads (sent_by t r u && _) (sent_to t r u && _) (sent_by t r v && _) (sent_to t r v && _)
      (and_leads (sent_by t r u) _ (sent_by t r v) _ (λ e. sent_same u v A ∙ e) (and_leads (is_id u.asked r.recv_id) _ (is_id v.asked r.recv_id) _ (λ e. rw A.asked e)
      (rw (A.source, A.destination, A.asked) (taken_anew_less (between u.source u.destination) u.asked u v A))))
      (and_leads (sent_to t r u) _ (sent_to t r v) _ (λ e. sent_to_same u v A ∙ e) (and_leads (is_id u.asked r.send_id) _ (is_id v.asked r.send_id) _ (λ e. rw A.asked e)
      (rw (A.source, A.destination, A.asked) (sent_anew_less (between u.destination u.source) u.asked u v A))))

  wants_leads : (u v : KeyUse) → Alike u v → Leads (wants_row t n r u) (wants_row t n r v)
  wants_leads u v A = or_leads (carries_row t n r u) _ (carries_row t n r v) _ (carries_leads u v A) (asks_leads u v A)

  -- ---- what goes one way

  abbrev wants : KeyUse → Bool
  wants u = wants_row t n r u

  counted_same : (u v : KeyUse) → Alike u v → is_counted v ≡ is_counted u
  counted_same u v A = rw (A.key_id, A.outcome) refl

  verified_same : (u v : KeyUse) → Alike u v → is_verified v.outcome ≡ is_verified u.outcome
  verified_same u v A = rw A.outcome refl

  -- more is wanted, and less moved on without the row
  record Less (w x : Wanting) : Type 0 where
    pub wanted : w.wanted ≤ x.wanted
    pub moved : x.moved ≤ w.moved

  from_same : (a b : Socket) (u v : KeyUse) → Alike u v → goes_from a b v ≡ goes_from a b u
  from_same a b u v A = rw (A.source, A.destination) refl

  less_of : (u v : KeyUse) (w x : Wanting) → Alike u v → Less w x
      → Less (record { wanted = with_mark (wants u && is_counted u) u.packet w.wanted; moved = with_mark (not (wants u) && is_verified u.outcome) u.moved w.moved })
      (record { wanted = with_mark (wants v && is_counted v) v.packet x.wanted; moved = with_mark (not (wants v) && is_verified v.outcome) v.moved x.moved })
  less_of u v w x A L =
      let counted = counted_same u v A in
      let verified = verified_same u v A in
      let moved : v.moved ≤ u.moved = (let m = A.moved in omega arith) in
      record {
        wanted = mark_up (wants u && is_counted u) (wants v && is_counted v) u.packet v.packet w.wanted x.wanted
            (and_leads (wants u) (is_counted u) (wants v) (is_counted v) (wants_leads u v A) (λ e. counted ∙ e)) A.packet L.wanted;
        moved = mark_up (not (wants v) && is_verified v.outcome) (not (wants u) && is_verified u.outcome) v.moved u.moved x.moved w.moved
            (and_leads (not (wants v)) (is_verified v.outcome) (not (wants u)) (is_verified u.outcome) (not_turned (wants u) (wants v) (wants_leads u v A)) (λ e. sym verified ∙ e)) moved L.moved;
      }

  -- what shows nothing moves nothing on
  quiet_moves : (a b : Socket) (vs : List KeyUse) → Grown [] vs → (wanting_by wants a b vs).moved ≡ 0
  quiet_moves a b [] G = refl
  quiet_moves a b (v ∷ vs) G = at (goes_from a b v) (not (wants v) && is_verified v.outcome) (quiet_moves a b vs G.1)
    where
      at : (g c : Bool) → (wanting_by wants a b vs).moved ≡ 0
          → (if g then record { wanted = with_mark (wants v && is_counted v) v.packet (wanting_by wants a b vs).wanted; moved = with_mark c v.moved (wanting_by wants a b vs).moved } else wanting_by wants a b vs).moved ≡ 0
      at true c others = rw (G.0.moved, others) (mark_none c 0)
      at false c others = others

  less_by : (a b : Socket) (us vs : List KeyUse) → Grown us vs → Less (wanting_by wants a b us) (wanting_by wants a b vs)
  less_by a b [] vs G = let none = quiet_moves a b vs G in record { wanted = omega arith; moved = omega arith }
  less_by a b (u ∷ us) [] G = absurd G
  less_by a b (u ∷ us) (v ∷ vs) G = rw (from_same a b u v G.0) (at (goes_from a b u) (less_by a b us vs G.1))
    where
      at : (g : Bool) → Less (wanting_by wants a b us) (wanting_by wants a b vs)
          → Less (if g then record { wanted = with_mark (wants u && is_counted u) u.packet (wanting_by wants a b us).wanted; moved = with_mark (not (wants u) && is_verified u.outcome) u.moved (wanting_by wants a b us).moved } else wanting_by wants a b us)
          (if g then record { wanted = with_mark (wants v && is_counted v) v.packet (wanting_by wants a b vs).wanted; moved = with_mark (not (wants v) && is_verified v.outcome) v.moved (wanting_by wants a b vs).moved } else wanting_by wants a b vs)
      at true L = less_of u v (wanting_by wants a b us) (wanting_by wants a b vs) G.0 L
      at false L = L

  without_leads : (a b : Socket) (us vs : List KeyUse) → Grown us vs → Leads (does_without wants a b vs) (does_without wants a b us)
  without_leads a b us vs G = at (wanting_by wants a b us) (wanting_by wants a b vs) (less_by a b us vs G)
    where
      at : (w x : Wanting) → Less w x → Leads (nat_lt x.wanted x.moved) (nat_lt w.wanted w.moved)
      at w x L e = let more = L.wanted in let less = L.moved in grind (arith, nat_tests)

  both_leads : (us vs : List KeyUse) → Grown us vs → (u v : KeyUse) → Alike u v → Leads (both_without wants vs v) (both_without wants us u)
  both_leads us vs G u v A = rw (A.source, A.destination)
      (and_leads (does_without wants u.source u.destination vs) (does_without wants u.destination u.source vs) (does_without wants u.source u.destination us) (does_without wants u.destination u.source us)
      (without_leads u.source u.destination us vs G) (without_leads u.destination u.source us vs G))

-- ---- what is live

end_same : (x y u v : KeyUse) → Alike x y → Alike u v → (e : Ending) → and_ending y v e ≡ and_ending x u e
end_same x y u v A B e = rw (A.source, A.destination, A.isns, B.source, B.destination, B.isns, B.moved, B.reset, B.finished) refl

quiet_end : (y v : KeyUse) (e : Ending) → IsQuiet v → and_ending y v e ≡ e
quiet_end y v e Q = rw (Q.moved, Q.reset, Q.finished) (at (is_onward y v) (is_return y v))
  where
    at : (b c : Bool) → record { reset = ((b || c) && nat_lt 0 0) || e.reset; onward = with_mark b 0 e.onward; back = with_mark c 0 e.back; moved = with_mark (b || c) 0 e.moved } ≡ e
    at b c = rw (false_and (b || c), mark_none b e.onward, mark_none c e.back, mark_none (b || c) e.moved) refl

quiet_ends : (y : KeyUse) (vs : List KeyUse) → Grown [] vs → ending_by y vs ≡ ending_by y []
quiet_ends y [] G = refl
quiet_ends y (v ∷ vs) G = quiet_end y v (ending_by y vs) G.0 ∙ quiet_ends y vs G.1

ends_same : (x y : KeyUse) → Alike x y → (us vs : List KeyUse) → Grown us vs → ending_by y vs ≡ ending_by x us
ends_same x y A [] vs G = quiet_ends y vs G
ends_same x y A (u ∷ us) [] G = absurd G
ends_same x y A (u ∷ us) (v ∷ vs) G = end_same x y u v A G.0 (ending_by y vs) ∙ ap (and_ending x u) (ends_same x y A us vs G.1)

live_same : (us vs : List KeyUse) → Grown us vs → (u v : KeyUse) → Alike u v → is_live vs v ≡ is_live us u
live_same us vs G u v A = rw (A.key_id, A.outcome, ends_same u v A us vs G) refl

module _ (p q : KeyUse → Bool) where
  quiet_filtered : (vs : List KeyUse) → Grown [] vs → Grown [] (filter q vs)
  quiet_filtered [] G = tt
  quiet_filtered (v ∷ vs) G = at (q v) (quiet_filtered vs G.1)
    where
      at : (b : Bool) → Grown [] (filter q vs) → Grown [] (cond b (v ∷ filter q vs) (filter q vs))
      at true others = (G.0, others)
      at false others = others

  filtered : (us vs : List KeyUse) → ((u v : KeyUse) → Alike u v → q v ≡ p u) → Grown us vs → Grown (filter p us) (filter q vs)
  filtered [] vs same G = quiet_filtered vs G
  filtered (u ∷ us) [] same G = absurd G
  filtered (u ∷ us) (v ∷ vs) same G = rw (same u v G.0) (at (p u) (filtered us vs same G.1))
    where
      at : (b : Bool) → Grown (filter p us) (filter q vs) → Grown (cond b (u ∷ filter p us) (filter p us)) (cond b (v ∷ filter q vs) (filter q vs))
      at true others = (G.0, others)
      at false others = others

-- ---- another connection

elsewhere_same : (u v x y : KeyUse) → Alike u v → Alike x y → is_elsewhere v y ≡ is_elsewhere u x
elsewhere_same u v x y A B = rw (A.source, A.destination, A.isns, B.source, B.destination, B.isns) refl

later_leads : (u v x y : KeyUse) → Alike u v → Alike x y → Leads (nat_lt u.moved x.packet) (nat_lt v.moved y.packet)
later_leads u v x y A B = at u.moved v.moved x.packet y.packet A.moved B.packet
  where
    at : (a b c d : ℕ) → b ≡ a → c ≤ d → Leads (nat_lt a c) (nat_lt b d)
    at a b c d same h e = grind (arith, nat_tests)

followed_leads : (u v : KeyUse) → Alike u v → (us vs : List KeyUse) → Grown us vs → Leads (is_followed us u) (is_followed vs v)
followed_leads u v A [] vs G e = absurd (cc)
followed_leads u v A (x ∷ us) [] G e = absurd G
followed_leads u v A (x ∷ us) (y ∷ vs) G e =
    or_leads (is_elsewhere u x && nat_lt u.moved x.packet) (is_followed us u) (is_elsewhere v y && nat_lt v.moved y.packet) (is_followed vs v)
    (and_leads (is_elsewhere u x) (nat_lt u.moved x.packet) (is_elsewhere v y) (nat_lt v.moved y.packet) (λ e. elsewhere_same u v x y A G.0 ∙ e) (later_leads u v x y A G.0))
    (followed_leads u v A us vs G.1) e

-- ---- all of them, and some of them

all_leads : (f g : KeyUse → Bool) → ((u v : KeyUse) → Alike u v → Leads (g v) (f u)) → (us vs : List KeyUse) → Grown us vs → Leads (list_all g vs) (list_all f us)
all_leads f g h [] vs G e = refl
all_leads f g h (u ∷ us) [] G e = absurd G
all_leads f g h (u ∷ us) (v ∷ vs) G e = and_leads (g v) (list_all g vs) (f u) (list_all f us) (h u v G.0) (all_leads f g h us vs G.1) e

none_quiet : (g : KeyUse → Bool) → ((v : KeyUse) → IsQuiet v → g v ≡ false) → (vs : List KeyUse) → Grown [] vs → list_any g vs ≡ false
none_quiet g h [] G = refl
none_quiet g h (v ∷ vs) G = rw (h v G.0) (none_quiet g h vs G.1)

any_leads : (f g : KeyUse → Bool) → ((u v : KeyUse) → Alike u v → Leads (g v) (f u)) → ((v : KeyUse) → IsQuiet v → g v ≡ false) → (us vs : List KeyUse) → Grown us vs → Leads (list_any g vs) (list_any f us)
any_leads f g h none [] vs G e = let bad : false ≡ true = sym (none_quiet g none vs G) ∙ e in absurd (cc)
any_leads f g h none (u ∷ us) [] G e = absurd G
any_leads f g h none (u ∷ us) (v ∷ vs) G e = or_leads (g v) (list_any g vs) (f u) (list_any f us) (h u v G.0) (any_leads f g h none us vs G.1) e

peers_leads : (f g : Option Address → Bool) → ((p : Option Address) → Leads (g p) (f p)) → (ps : List (Option Address)) → Leads (list_all g ps) (list_all f ps)
peers_leads f g h [] e = refl
peers_leads f g h (p ∷ ps) e = and_leads (g p) (list_all g ps) (f p) (list_all f ps) (h p) (peers_leads f g h ps) e

-- ---- the row is free

module _ (tables : List Table) (t : Table) (n : ℕ) (r : Row) (latest : ℕ) (doubt : Bool) (us vs : List KeyUse) (G : Grown us vs) where
  abbrev before : Evidence
  before = record { uses = us; live = filter (is_live us) us; doubt = doubt; latest = latest }

  abbrev after : Evidence
  after = record { uses = vs; live = filter (is_live vs) vs; doubt = doubt; latest = latest }

  live_grown : Grown (filter (is_live us) us) (filter (is_live vs) vs)
  live_grown = filtered (is_live us) (is_live vs) us vs (λ u v A. live_same us vs G u v A) G

  of_peer_same : (p : Option Address) (u v : KeyUse) → Alike u v → Leads (is_of_peer t r p v) (is_of_peer t r p u)
  of_peer_same p u v A e = rw (A.source, A.destination) at e

  moved_same : (u v : KeyUse) → Alike u v → Leads (nat_lt 0 v.moved) (nat_lt 0 u.moved)
  moved_same u v A e = rw A.moved at e

  shows_leads : (p : Option Address) (u v : KeyUse) → Alike u v → Leads (shows_peer vs t r p v) (shows_peer us t r p u)
  shows_leads p u v A = and_leads (nat_lt 0 v.moved && not (is_followed vs v)) (is_of_peer t r p v) (nat_lt 0 u.moved && not (is_followed us u)) (is_of_peer t r p u)
      (and_leads (nat_lt 0 v.moved) (not (is_followed vs v)) (nat_lt 0 u.moved) (not (is_followed us u)) (moved_same u v A)
      (not_turned (is_followed us u) (is_followed vs v) (followed_leads u v A us vs G))) (of_peer_same p u v A)

  shows_none : (p : Option Address) (v : KeyUse) → IsQuiet v → shows_peer vs t r p v ≡ false
  shows_none p v Q = rw Q.moved refl

  sees_leads : Leads (sees_peers vs after.live t r) (sees_peers us before.live t r)
  sees_leads = peers_leads (λ p. list_any (shows_peer us t r p) before.live) (λ p. list_any (shows_peer vs t r p) after.live)
      (λ p. any_leads (shows_peer us t r p) (shows_peer vs t r p) (shows_leads p) (shows_none p) before.live after.live live_grown) r.peers

  at_row_same : (u v : KeyUse) → Alike u v → is_at_row t r v ≡ is_at_row t r u
  at_row_same u v A = rw (A.source, A.destination) refl

  without_all : Leads (all_without after t n r) (all_without before t n r)
  without_all = all_leads (λ u. not (is_at_row t r u) || both_without (wants_row t n r) us u) (λ v. not (is_at_row t r v) || both_without (wants_row t n r) vs v)
      (λ u v A. or_leads (not (is_at_row t r v)) (both_without (wants_row t n r) vs v) (not (is_at_row t r u)) (both_without (wants_row t n r) us u)
      (λ e. ap not (sym (at_row_same u v A)) ∙ e) (both_leads t n r us vs G u v A)) before.live after.live live_grown

  left_leads : (u v : KeyUse) → Alike u v → Leads (leaves_use tables t r latest v) (leaves_use tables t r latest u)
  left_leads u v A e = rw (A.source, A.destination) at e

  left_all : Leads (all_left after tables t r) (all_left before tables t r)
  left_all = all_leads (leaves_use tables t r latest) (leaves_use tables t r latest) left_leads before.live after.live live_grown

  free_leads : Leads (is_dispensable after tables t n r) (is_dispensable before tables t n r)
  free_leads = and_leads (sees_peers vs after.live t r && all_without after t n r) (all_left after tables t r && not doubt)
      (sees_peers us before.live t r && all_without before t n r) (all_left before tables t r && not doubt)
      (and_leads (sees_peers vs after.live t r) (all_without after t n r) (sees_peers us before.live t r) (all_without before t n r) sees_leads without_all)
      (and_leads (all_left after tables t r) (not doubt) (all_left before tables t r) (not doubt) left_all (λ e. e))

free_if : (free used : Bool) → (if free then go.Yes else if used then go.No else go.Unknown) ≡ go.Yes → free ≡ true
free_if true used e = refl
free_if false true e = absurd (cc)
free_if false false e = absurd (cc)

yes_if : (free used : Bool) → free ≡ true → (if free then go.Yes else if used then go.No else go.Unknown) ≡ go.Yes
yes_if true used e = refl
yes_if false used e = absurd (cc)

yes_leads : (e f : Evidence) (tables : List Table) (t : Table) (n : ℕ) (r : Row) → Leads (is_dispensable f tables t n r) (is_dispensable e tables t n r) → may_go f tables t n r ≡ go.Yes → may_go e tables t n r ≡ go.Yes
unfolding may_go
yes_leads e f tables t n r leads told = yes_if (is_dispensable e tables t n r) (is_in_use e t n r) (leads (free_if (is_dispensable f tables t n r) (is_in_use f t n r) told))

pub frees_none : (tables : List Table) (t : Table) (n : ℕ) (r : Row) (latest : ℕ) (table : SessionTable) (s : SeenSegment) (found : Option ℕ) → IsLast s table.uses → signs_of s table.uses ≡ no_signs
    → may_go (evidence_at latest (and_segment found s table)) tables t n r ≡ go.Yes → may_go (evidence_at latest table) tables t n r ≡ go.Yes
frees_none tables t n r latest table s found last none = at found
  where
    by : (k : ℕ) → may_go (evidence_at latest (record { sessions = k; uses = with_use k (signs_of s table.uses) s table.uses; passed = table.passed; unset = table.unset })) tables t n r ≡ go.Yes → may_go (evidence_at latest table) tables t n r ≡ go.Yes
    by k = yes_leads _ _ tables t n r (free_leads tables t n r latest (evidence_of table).doubt table.uses (with_use k (signs_of s table.uses) s table.uses) (rw none (grown_by s k table.uses last)))

    at : (o : Option ℕ) → may_go (evidence_at latest (and_segment o s table)) tables t n r ≡ go.Yes → may_go (evidence_at latest table) tables t n r ≡ go.Yes
    at None told = by (table.sessions + 1) told
    at (Some k) told = by k told
