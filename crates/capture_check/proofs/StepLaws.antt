-- What a checker answers to a segment, and what it knows afterwards, is what the definitions say.
use Rattle.std.proofs.Common.{◌≡◌, ◌+◌, ℕ, Bool, true, false, not, List, Option, Some, None, refl, sym, ap, ◌∙◌, subst, arith, Ok, Err}
use Rattle.std.specs.Prelude.{max, if◌then◌else◌}
use Rattle.book_base.specs.declared.address.Socket.{Socket}
use Rattle.book_base.specs.declared.address.Pair.{Pair}
use Rattle.book_base.specs.declared.address.Pair.{Pair}
use Rattle.book_base.specs.Orders.{sorted_pair}
use Rattle.book_base.proofs.OrderLaws.{sorted_turned}
use Rattle.book_segments.specs.Options.{find_ao}
use Rattle.book_segments.specs.Segments.{Segment, has, segment_length, SYN}
use Rattle.book_segments.specs.Sockets.{same_socket}
use Rattle.std.specs.List.{find}
use Rattle.book_segments.proofs.SocketLaws.{low_apart}
use Rattle.book_keys.specs.Rows.{Row, Table, has_address}
use Rattle.book_endpoint.specs.declared.refusal.Refusal.{Refusal}
use Rattle.book_endpoint.specs.Verdicts.{Finding, Judgement, judge}
use Rattle.book_cmd_check.specs.DatagramTexts.{checksum_in}
use Rattle.book_cmd_check.specs.Captures.{Connection, Heard, connection_between, hear_judged, hear_later, judge_stored, with_connection}
use Rattle.book_segments.specs.Segments.{pair_reached}
use Rattle.ao_kdf.specs.declared.way.Way.TheVariants.{Inbound}
use Rattle.ao_check.specs.Bonds.{Bond}
use Rattle.tcp_segment.specs.Counter.{number}
use Rattle.ao_check.specs.Verdicts.{Verdict, Tells, judging}
use Rattle.capture_check.specs.declared.answer.CheckLine.{CheckLine}
use Rattle.capture_check.specs.declared.answer.CheckLine.TheVariants as line
use Rattle.capture_check.specs.declared.flow.Flow.{Flow}
use Rattle.capture_check.specs.declared.flows.Flows.{Flows}
use Rattle.capture_check.specs.Answers.{IsJudged, is_pass}
use Rattle.capture_check.specs.Flows.{rows_in, rows_of, flow_from, IsFlow, side_of, shown, judged_on, expected_after, FlowHears}
use Rattle.capture_check.specs.Checkers.{found, IsSound, told, StandsFor, Hears, key_in, KeepsKeys, Derives}
use Rattle.capture_check.specs.Judgements.{Puts, key_at, from_low, FlowsHear, OfKnown, OfUnknown}
use Rattle.capture_check.proofs.PutLaws.{put_found, same_turned, stands_put, stands_same, sound_put}
use Rattle.capture_check.proofs.KeepLaws.{keys_heard}

-- ---- verdicts

pub told_judged : (rows : List Row) (pair : Pair) (d : Segment) (v : Verdict) (j : Judgement) → Tells rows pair d v j → IsJudged v j
told_judged rows pair d (Ok p) j (entry, e, n) =
    let is = n.entry_is in
    (entry, e, record { row = ap (λ (x : Finding). x.row) is; number = ap (λ (x : Finding). x.number) is; context = ap (λ (x : Finding). x.context) is })
told_judged rows pair d (Err why) j e = e

-- a verdict that isn't a pass is told of no segment that passes
pub not_admitted : (v : Verdict) (p : Finding) → IsJudged v (Ok p) → is_pass v ≡ false → ⊥
not_admitted (Ok x) p e f = absurd (cc)
not_admitted (Err why) p e f = absurd (cc)

pub not_refused : (v : Verdict) (why : Refusal) → IsJudged v (Err why) → is_pass v ≡ true → ⊥
not_refused (Ok x) why e f = let is = e.1 in absurd (cc)
not_refused (Err other) why e f = absurd (cc)

-- ---- what is known of the connection of a segment

-- the segment's connection is what the checker found
pub met : (es : List (Pair × Flows)) (held : List Connection) (d : Segment) (o : Option Flows) → StandsFor es held → same_socket d.source d.destination ≡ false → found es (key_at d) ≡ o
    → connection_between d held ≡ told d.source d.destination o
met es held d o S ne f = sym (S.same d.source d.destination ne) ∙ ap (told d.source d.destination) f

pub judged_as : (rows : List Row) (now : ℕ) (d : Segment) (f : Flow) (n : ℕ) (pair : Pair) (own : ℕ) → f.receiver.pair ≡ pair → f.receiver.own ≡ own → f.receiver.peer ≡ Some f.isn
    → judged_on rows now d f n ≡ judge rows pair (record { own_isn = own; peer_isn = Some f.isn; expected = Some n }) now d
judged_as rows now d f n pair own p o e = rw (p, o, e) refl

-- ---- a segment without SYN of a connection that is known

-- the other way stays
pub other_stays : (rows : List Row) (now : ℕ) (given : Option ℕ) (d : Segment) (h next : Flows) (v : Verdict) (old new : ℕ) → same_socket d.source d.destination ≡ false
    → FlowsHear rows now given d (from_low d) h next v old new → flow_from d.destination d.source next ≡ flow_from d.destination d.source h
other_stays rows now given d h next v old new ne H = rw (low_apart d.source d.destination ne) H.other

pub shown_later : (s t : Socket) (h next : Flows) (x : ℕ) → (flow_from s t next).isn ≡ (flow_from s t h).isn → flow_from t s next ≡ flow_from t s h → number (flow_from s t next).expected ≡ x
    → shown s t next ≡ record { one = record { socket = s; isn = (flow_from s t h).isn; expected = x }; two = side_of t (flow_from t s h) }
shown_later s t h next x i o e = rw (i, o, e) refl

-- what is done without SYN
not_first : (b : Bool) (after : List (Pair × Flows)) (l : CheckLine) (x y : Heard) → b ≡ false → Hears after l x → Hears after l (if not b then x else y)
not_first true after l x y e h = absurd (cc)
not_first false after l x y e h = h

heard_known : (before after : List (Pair × Flows)) (held : List Connection) (s t : Socket) (d : Segment) (h next : Flows) (v : Verdict) (j : Judgement)
    → StandsFor before held → same_socket s t ≡ false → found before (sorted_pair s t) ≡ Some h → Puts before after (sorted_pair s t) next → has SYN d ≡ false
    → (flow_from s t next).isn ≡ (flow_from s t h).isn → flow_from t s next ≡ flow_from t s h → IsJudged v j → number (flow_from s t next).expected ≡ expected_after (number (flow_from s t h).expected) (number (flow_from s t h).expected) d j
    → Hears after (line.Verdict v (checksum_in d)) (hear_judged held d (Some (shown s t h)) j)
heard_known before after held s t d h next v (Err why) S ne f P syn i o is_told e =
    let is = shown_later s t h next (number (flow_from s t h).expected) i o e in
    record { says = (Err why, refl, is_told); stands = stands_same before after held s t h next S P ne f is }
heard_known before after held s t d h next v (Ok p) S ne f P syn i o is_told e =
    let is = shown_later s t h next (max (number (flow_from s t h).expected) (p.number + segment_length d)) i o e in
    not_first (has SYN d) after (line.Verdict v (checksum_in d)) (hear_later held d p.number (Ok p) (Some (shown s t h))) _ syn
    (record { says = (Ok p, refl, is_told); stands = subst (λ (c : Connection). StandsFor after (with_connection c held)) is (stands_put before after held s t next S P ne) })

pub hears_known : (tables : List Table) (rows : List Row) (before after : List (Pair × Flows)) (held : List Connection) (now : ℕ) (d : Segment) (h : Flows) (v : Verdict) (old new : ℕ)
    → StandsFor before held → IsSound tables before → same_socket d.source d.destination ≡ false → found before (key_at d) ≡ Some h → OfKnown rows now None d before after h v old new → has SYN d ≡ false
    → Hears after (line.Verdict v (checksum_in d)) (hear_judged held d (connection_between d held) (judge_stored rows (pair_reached d) now d (connection_between d held)))
hears_known tables rows before after held now d h v old new S T ne f K syn =
    let F = T d.source d.destination h ne f in
    let one = flow_from d.source d.destination h in
    let is = judged_as rows now d one (number one.expected) (pair_reached d) (flow_from d.destination d.source h).isn F.pair F.own F.peer in
    let H = K.hears.hears in
    let o = other_stays rows now None d h K.next v old new ne K.hears in
    let is_told = told_judged rows one.receiver.pair d v (judged_on rows now d one (number one.expected)) H.tells in
    let all = heard_known before after held d.source d.destination d h K.next v (judged_on rows now d one (number one.expected)) S ne f K.puts syn H.isn o is_told H.expected in
    rw (met before held d (Some h) S ne f) (rw syn (subst (λ (j : Judgement). Hears after (line.Verdict v (checksum_in d)) (hear_judged held d (Some (shown d.source d.destination h)) j)) is all))

-- the checker stays sound
pub sound_known : (tables : List Table) (rows : List Row) (before after : List (Pair × Flows)) (now : ℕ) (given : Option ℕ) (d : Segment) (h : Flows) (v : Verdict) (old new : ℕ)
    → IsSound tables before → same_socket d.source d.destination ≡ false → found before (key_at d) ≡ Some h → rows_of tables d.destination ≡ rows → OfKnown rows now given d before after h v old new
    → IsSound tables after
sound_known tables rows before after now given d h v old new T ne f r K =
    let s = d.source in
    let t = d.destination in
    let F = T s t h ne f in
    let back = ap (found before) (sorted_turned s t) ∙ f in
    let G = T t s h (same_turned s t ne) back in
    let H = K.hears.hears in
    let o = other_stays rows now given d h K.next v old new ne K.hears in
    sound_put tables before after s t K.next T K.puts ne
    (heard_flow tables rows s t (flow_from s t h) (flow_from s t K.next) (flow_from t s h) (flow_from t s K.next) now given d v old new F o r H)
    (same_flow tables t s (flow_from t s h) (flow_from t s K.next) (flow_from s t h) (flow_from s t K.next) G o H.isn)
  where
    heard_flow : (tables : List Table) (rows : List Row) (a b : Socket) (f g f2 g2 : Flow) (now : ℕ) (given : Option ℕ) (d : Segment) (v : Verdict) (old new : ℕ) → IsFlow tables a b f f2 → g2 ≡ f2 → rows_of tables b ≡ rows
        → FlowHears rows now given d f g v old new → IsFlow tables a b g g2
    heard_flow tables rows a b f g f2 g2 now given d v old new F o r H =
        record {
          pair = ap (λ (x : Bond). x.pair) H.receiver ∙ F.pair;
          own = ap (λ (x : Bond). x.own) H.receiver ∙ (F.own ∙ ap (λ (x : Flow). x.isn) (sym o));
          peer = ap (λ (x : Bond). x.peer) H.receiver ∙ (F.peer ∙ ap Some (sym H.isn));
          expected = H.small;
          fits = rw r H.fits;
        }

    same_flow : (tables : List Table) (a b : Socket) (f g f2 g2 : Flow) → IsFlow tables a b f f2 → g ≡ f → g2.isn ≡ f2.isn → IsFlow tables a b g g2
    same_flow tables a b f g f2 g2 F o i =
        record {
          pair = ap (λ (x : Flow). x.receiver.pair) o ∙ F.pair;
          own = ap (λ (x : Flow). x.receiver.own) o ∙ (F.own ∙ sym i);
          peer = ap (λ (x : Flow). x.receiver.peer) o ∙ (F.peer ∙ ap (λ (x : Flow). Some x.isn) (sym o));
          expected = rw o F.expected;
          fits = rw o F.fits;
        }

pub keys_known : (rows : List Row) (before after : List (Pair × Flows)) (now : ℕ) (given : Option ℕ) (d : Segment) (h : Flows) (v : Verdict) (old new : ℕ)
    → same_socket d.source d.destination ≡ false → found before (key_at d) ≡ Some h → OfKnown rows now given d before after h v old new → KeepsKeys before after
keys_known rows before after now given d h v old new ne f K =
    let H = K.hears.hears in
    keys_heard before after d.source d.destination h K.next K.puts ne f
    (record { isn = H.isn; other = other_stays rows now given d h K.next v old new ne K.hears; keys = λ n k e. H.counted.stays n Inbound k e })

pub derives_known : (tables : List Table) (rows : List Row) (before after : List (Pair × Flows)) (now : ℕ) (given : Option ℕ) (d : Segment) (h : Flows) (v : Verdict) (old new : ℕ)
    → IsSound tables before → same_socket d.source d.destination ≡ false → found before (key_at d) ≡ Some h → OfKnown rows now given d before after h v old new → Derives before after rows now d old new
derives_known tables rows before after now given d h v old new T ne f K =
    let C = K.hears.hears.counted in
    let least = C.least in
    let most = C.most in
    record {
      least = least;
      most = most;
      none = λ n k syn row e. C.none n k syn (judged_by n row) (ap (key_in d.source d.destination n) (sym f) ∙ e);
      derived = λ n syn row more. let k = C.derived n syn (judged_by n row) more in
          (k.0, ap (key_in d.source d.destination n) (put_found before after (key_at d) (key_at d) K.next K.puts refl) ∙ k.1);
    }
  where
    F : IsFlow tables d.source d.destination (flow_from d.source d.destination h) (flow_from d.destination d.source h)
    F = T d.source d.destination h ne f

    judged_by : (n : ℕ) → judging rows (pair_reached d) now (find_ao d.area) ≡ Some n → judging rows (flow_from d.source d.destination h).receiver.pair now (find_ao d.area) ≡ Some n
    judged_by n e = rw F.pair e

-- ---- a segment without SYN of a connection that isn't known

heard_unknown : (after : List (Pair × Flows)) (held : List Connection) (d : Segment) (v : Verdict) (j : Judgement) → StandsFor after held → has SYN d ≡ false → IsJudged v j
    → Hears after (line.Verdict v (checksum_in d)) (hear_judged held d None j)
heard_unknown after held d v (Err why) S syn is_told = record { says = (Err why, refl, is_told); stands = S }
heard_unknown after held d v (Ok p) S syn is_told =
    not_first (has SYN d) after (line.Verdict v (checksum_in d)) (hear_later held d p.number (Ok p) None) _ syn (record { says = (Ok p, refl, is_told); stands = S })

pub hears_unknown : (rows : List Row) (before after : List (Pair × Flows)) (held : List Connection) (now : ℕ) (d : Segment) (v : Verdict) (old new : ℕ)
    → StandsFor before held → same_socket d.source d.destination ≡ false → found before (key_at d) ≡ None → OfUnknown rows now d before after v old new → has SYN d ≡ false
    → Hears after (line.Verdict v (checksum_in d)) (hear_judged held d (connection_between d held) (judge_stored rows (pair_reached d) now d (connection_between d held)))
hears_unknown rows before after held now d v old new S ne f U syn =
    let is_told = told_judged rows (pair_reached d) d v _ U.alone.tells in
    let stands : StandsFor after held = rw U.same S in
    rw (met before held d None S ne f) (rw syn (heard_unknown after held d v _ stands syn is_told))

pub derives_unknown : (rows : List Row) (before after : List (Pair × Flows)) (now : ℕ) (d : Segment) (v : Verdict) (old new : ℕ) → OfUnknown rows now d before after v old new → Derives before after rows now d old new
derives_unknown rows before after now d v old new U =
    let C = U.counts in
    let least = C.least in
    let most = C.most in
    record {
      least = least;
      most = most;
      none = λ n k syn row e. C.free n syn row;
      derived = λ n syn row more. let free = C.free n syn row in absurd (omega arith);
    }

-- the rows are those of the node that the segment goes to
pub rows_found : (tables : List Table) (s : Socket) (t : Table) → find (has_address s.address) tables ≡ Some t → rows_of tables s ≡ t.rows
rows_found tables s t e = ap rows_in e

-- what is said where the two sockets differ
pub differing : (b : Bool) (after : List (Pair × Flows)) (l : CheckLine) (x y : Heard) → b ≡ false → Hears after l y → Hears after l (if b then x else y)
differing true after l x y e h = absurd (cc)
differing false after l x y e h = h
