-- What is answered to a segment without SYN, by the number that is expected of its sender or by another.
use Rattle.std.proofs.Common.{◌≡◌, ◌+◌, ℕ, Bool, true, false, List, [], ◌∷◌, Option, Some, None, refl, subst, Ok, Err}
use Rattle.std.specs.Prelude.{max, not, if◌then◌else◌}
use Rattle.std.specs.List.{find}
use Rattle.book_base.specs.declared.address.Socket.{Socket}
use Rattle.book_base.specs.declared.address.Pair.{Pair}
use Rattle.book_base.specs.Orders.{sorted_pair}
use Rattle.book_segments.specs.Segments.{Segment, Read, has, segment_length, SYN, pair_reached}
use Rattle.book_segments.specs.Sockets.{same_socket}
use Rattle.book_segments.proofs.SocketLaws.{same_socket-refl}
use Rattle.book_keys.specs.Rows.{Row, Table, has_address}
use Rattle.ao_check.specs.Verdicts.{Verdict}
use Rattle.book_endpoint.specs.Verdicts.{Judgement}
use Rattle.book_cmd_check.specs.DatagramTexts.{checksum_in}
use Rattle.book_cmd_check.specs.Captures.{Connection, Heard, connection_between, expecting, hear_judged, hear_later, hear_read, joins, judge_stored, with_connection}
use Rattle.tcp_segment.specs.Counter.{number}
use Rattle.capture_check.specs.declared.answer.CheckLine.{CheckLine}
use Rattle.capture_check.specs.declared.answer.CheckLine.TheVariants as line
use Rattle.capture_check.specs.declared.flows.Flows.{Flows}
use Rattle.capture_check.specs.Answers.{IsJudged}
use Rattle.capture_check.specs.Expecting.{if_passing, hear_expecting, hear_given}
use Rattle.capture_check.specs.Flows.{flow_from, shown, judged_on, expected_after}
use Rattle.capture_check.specs.Checkers.{found, IsSound, StandsFor, Hears, KeepsKeys, Derives}
use Rattle.capture_check.specs.Judgements.{Puts, key_at, OfKnown, OfUnknown, HearsLater}
use Rattle.capture_check.proofs.HeldLaws.{joined-refl, find_put}
use Rattle.capture_check.proofs.PutLaws.{stands_put, stands_same}
use Rattle.capture_check.proofs.KeepLaws.{keys_same}
use Rattle.capture_check.proofs.StepLaws.{told_judged, met, judged_as, other_stays, shown_later, hears_known, hears_unknown, sound_known, keys_known, derives_known, derives_unknown, rows_found}

-- ---- the connections where another number is expected

-- of two connections between the same sockets, put one after the other, the second one stays
pub put_twice : (c : Connection) (n m : ℕ) (held : List Connection) → with_connection (expecting m c) (with_connection (expecting n c) held) ≡ with_connection (expecting m c) held
put_twice c n m [] = rw (joined-refl c.one.socket c.two.socket) refl
put_twice c n m (k ∷ ks) = at (put_twice c n m ks) (joins c.one.socket c.two.socket k) refl
  where
    at : with_connection (expecting m c) (with_connection (expecting n c) ks) ≡ with_connection (expecting m c) ks → (v : Bool) → joins c.one.socket c.two.socket k ≡ v
        → with_connection (expecting m c) (if v then expecting n c ∷ ks else k ∷ with_connection (expecting n c) ks) ≡ (if v then expecting m c ∷ ks else k ∷ with_connection (expecting m c) ks)
    at i true e = rw (joined-refl c.one.socket c.two.socket) refl
    at i false e = rw (e, i) refl

-- a segment's connection, once it is put
pub between_put : (d : Segment) (c : Connection) (held : List Connection) → c.one.socket ≡ d.source → c.two.socket ≡ d.destination → connection_between d (with_connection c held) ≡ Some c
between_put d c held e f =
    let j : joins d.source d.destination c ≡ true = rw (e, f) (joined-refl d.source d.destination) in
    rw (find_put d.source d.destination c held j, e, same_socket-refl d.source) refl

-- ---- a segment without SYN of a connection that is known

-- what is done without SYN
passing_later : (b : Bool) (held : List Connection) (after : List (Pair × Flows)) (l : CheckLine) (x y : Heard) → b ≡ false → Hears after l (if_passing held x) → Hears after l (if_passing held (if not b then x else y))
passing_later true held after l x y e h = absurd (cc)
passing_later false held after l x y e h = h

as_known : (before after : List (Pair × Flows)) (held : List Connection) (n : ℕ) (s t : Socket) (d : Segment) (h next : Flows) (v : Verdict) (j : Judgement)
    → StandsFor before held → same_socket s t ≡ false → found before (sorted_pair s t) ≡ Some h → Puts before after (sorted_pair s t) next → has SYN d ≡ false
    → (flow_from s t next).isn ≡ (flow_from s t h).isn → flow_from t s next ≡ flow_from t s h → IsJudged v j → number (flow_from s t next).expected ≡ expected_after (number (flow_from s t h).expected) n d j
    → Hears after (line.Verdict v (checksum_in d)) (if_passing held (hear_judged (with_connection (expecting n (shown s t h)) held) d (Some (expecting n (shown s t h))) j))
as_known before after held n s t d h next v (Err why) S ne f P syn i o is_told e =
    let is = shown_later s t h next (number (flow_from s t h).expected) i o e in
    record { says = (Err why, refl, is_told); stands = stands_same before after held s t h next S P ne f is }
as_known before after held n s t d h next v (Ok p) S ne f P syn i o is_told e =
    let is = shown_later s t h next (max n (p.number + segment_length d)) i o e in
    let stands : StandsFor after (with_connection (expecting (max n (p.number + segment_length d)) (shown s t h)) held) =
    subst (λ (c : Connection). StandsFor after (with_connection c held)) is (stands_put before after held s t next S P ne) in
    passing_later (has SYN d) held after (line.Verdict v (checksum_in d)) (hear_later (with_connection (expecting n (shown s t h)) held) d p.number (Ok p) (Some (expecting n (shown s t h)))) _ syn
    (record { says = (Ok p, refl, is_told); stands = rw (put_twice (shown s t h) n (max n (p.number + segment_length d)) held) stands })

hears_as : (tables : List Table) (t : Table) (before after : List (Pair × Flows)) (held : List Connection) (now n : ℕ) (d : Segment) (h : Flows) (v : Verdict) (old new : ℕ)
    → StandsFor before held → IsSound tables before → same_socket d.source d.destination ≡ false → find (has_address d.destination.address) tables ≡ Some t
    → found before (key_at d) ≡ Some h → OfKnown t.rows now (Some n) d before after h v old new → has SYN d ≡ false
    → Hears after (line.Verdict v (checksum_in d)) (hear_expecting tables held now d n (Some (shown d.source d.destination h)))
hears_as tables t before after held now n d h v old new S T ne e f K syn =
    let F = T d.source d.destination h ne f in
    let one = flow_from d.source d.destination h in
    let is = judged_as t.rows now d one n (pair_reached d) (flow_from d.destination d.source h).isn F.pair F.own F.peer in
    let H = K.hears.hears in
    let o = other_stays t.rows now (Some n) d h K.next v old new ne K.hears in
    let is_told = told_judged t.rows one.receiver.pair d v (judged_on t.rows now d one n) H.tells in
    let all = as_known before after held n d.source d.destination d h K.next v (judged_on t.rows now d one n) S ne f K.puts syn H.isn o is_told H.expected in
    let put = between_put d (expecting n (shown d.source d.destination h)) held refl refl in
    rw (e, ne, put, syn) (subst (λ (j : Judgement). Hears after (line.Verdict v (checksum_in d))
    (if_passing held (hear_judged (with_connection (expecting n (shown d.source d.destination h)) held) d (Some (expecting n (shown d.source d.destination h))) j))) is all)

-- ---- the answer to a segment without SYN

pub record Later (tables : List Table) (rows : List Row) (before after : List (Pair × Flows)) (now : ℕ) (given : Option ℕ) (d : Segment) (v : Verdict) (old new : ℕ) : Type 0 where
  pub heard : (held : List Connection) → StandsFor before held → Hears after (line.Verdict v (checksum_in d)) (hear_given tables held now d given)
  pub sound : IsSound tables after
  pub keys : KeepsKeys before after
  pub derives : Derives before after rows now d old new

pub later : (tables : List Table) (t : Table) (before after : List (Pair × Flows)) (now : ℕ) (given : Option ℕ) (d : Segment) (v : Verdict) (old new : ℕ) → IsSound tables before
    → same_socket d.source d.destination ≡ false → find (has_address d.destination.address) tables ≡ Some t → has SYN d ≡ false
    → HearsLater t.rows now given d before after (found before (key_at d)) v old new
    → Later tables t.rows before after now given d v old new
later tables t before after now given d v old new T ne e syn H = at (found before (key_at d)) refl H
  where
    -- as `check` hears it
    plain : (held : List Connection) → Hears after (line.Verdict v (checksum_in d)) (hear_judged held d (connection_between d held) (judge_stored t.rows (pair_reached d) now d (connection_between d held)))
        → Hears after (line.Verdict v (checksum_in d)) (hear_read tables held now (Read d))
    plain held all = rw (e, ne) all

    by_given : (given : Option ℕ) (h : Flows) → found before (key_at d) ≡ Some h → OfKnown t.rows now given d before after h v old new → (held : List Connection) → StandsFor before held
        → Hears after (line.Verdict v (checksum_in d)) (hear_given tables held now d given)
    by_given None h f K held S = plain held (hears_known tables t.rows before after held now d h v old new S T ne f K syn)
    by_given (Some n) h f K held S = rw (met before held d (Some h) S ne f) (hears_as tables t before after held now n d h v old new S T ne e f K syn)

    unknown : (given : Option ℕ) → found before (key_at d) ≡ None → OfUnknown t.rows now d before after v old new → (held : List Connection) → StandsFor before held
        → Hears after (line.Verdict v (checksum_in d)) (hear_given tables held now d given)
    unknown None f U held S = plain held (hears_unknown t.rows before after held now d v old new S ne f U syn)
    unknown (Some n) f U held S = rw (met before held d None S ne f) (plain held (hears_unknown t.rows before after held now d v old new S ne f U syn))

    at : (o : Option Flows) → found before (key_at d) ≡ o → HearsLater t.rows now given d before after o v old new → Later tables t.rows before after now given d v old new
    at (Some h) f K =
        record {
          heard = λ held S. by_given given h f K held S;
          sound = sound_known tables t.rows before after now given d h v old new T ne f (rows_found tables d.destination t e) K;
          keys = keys_known t.rows before after now given d h v old new ne f K;
          derives = derives_known tables t.rows before after now given d h v old new T ne f K;
        }
    at None f U =
        record {
          heard = λ held S. unknown given f U held S;
          sound = rw U.same T;
          keys = keys_same before after U.same;
          derives = derives_unknown t.rows before after now d v old new U;
        }
