-- Over tables that are aligned there is a row to send with, and one to take what was sent.
use Rattle.std.proofs.Common.{◌≡◌, ◌≢◌, ℕ, ◌+◌, ◌-◌, ◌&&◌, ◌||◌, not, nat_le, Bool, true, false, List, [], ◌∷◌, ◌++◌, length, Option, Some, None, is_some, Result, Ok, Err, refl, ap, subst, ◌∙◌, if◌then◌else◌}
use Rattle.std.specs.Prelude.{◌==◌}
use Rattle.std.specs.List.{list_any}
use Rattle.std.specs.Option.{option_or}
use Rattle.book_base.specs.declared.address.Pair.{Pair}
use Rattle.book_base.specs.Algorithms.{mac_length_of}
use Rattle.book_base.specs.Results.{◌>>=◌, or_fault}
use Rattle.book_segments.specs.Bytes.{same_bytes}
use Rattle.book_segments.specs.Sockets.{same_socket}
use Rattle.book_segments.specs.Options.{Ao, One, find_ao, plains, listed, options_of}
use Rattle.book_segments.specs.Segments.{Segment, Reading, Bad as Unread, Read, reading, has, good, SYN, ACK, segment_length}
use Rattle.book_segments.specs.Spelling.{Fits}
use Rattle.book_segments.proofs.Fields.{and_tells}
use Rattle.book_macs.specs.Contexts.{context_of}
use Rattle.book_keys.specs.declared.plan.Plan.{Plan}
use Rattle.book_keys.specs.Choices.{Numbered, acceptable_as, accept_row, lowest}
use Rattle.book_keys.specs.Coordination.{Sending, choose}
use Rattle.book_keys.specs.Lifetimes.{contains}
use Rattle.book_keys.specs.Overlaps.{IsValid}
use Rattle.book_keys.specs.Plans.{mirrored, AlignedFrom, IsMet, IsGap, gap, has_sendable}
use Rattle.book_keys.specs.Rows.{Row, matches, sends, sendable, receives, acceptable}
use Rattle.book_keys.proofs.GapLaws.{gap_exactly, lint_aligned}
use Rattle.book_keys.proofs.PlanLaws.{same_key_tells, meets}
use Rattle.book_keys.proofs.SendingLaws.{choose_none, chosen, Chosen}
use Rattle.book_endpoint.specs.declared.refusal.Refusal.{Refusal}
use Rattle.book_endpoint.specs.declared.refusal.Refusal.TheVariants.{NoAo, TwoAo, WithMd5, NoContext as Nothing, MacLength, Range as Far, BadMac, Expired, NoTuple}
use Rattle.book_endpoint.specs.States.{number_limit}
use Rattle.book_endpoint.specs.Verdicts.{Judgement, Known, judge, require, segment_number, mac_of, found_with}
use Rattle.book_endpoint.specs.Emissions.{ao_length, written_ao, no_mac}
use Rattle.book_shim.specs.declared.kept.Kept.{Kept}
use Rattle.book_shim.specs.declared.refusal.Unsent.{Unsent}
use Rattle.book_shim.specs.declared.refusal.Unsent.TheVariants.{Foreign, Unkeyed, Signed, NoContext, Range, NoKey, NoRoom, TooLong}
use Rattle.book_shim.specs.declared.refusal.Untaken.{Untaken}
use Rattle.book_shim.specs.declared.refusal.Untaken.TheVariants.{Unkeyed as NoRow, Checksum, Refused}
use Rattle.book_shim.specs.Keeping.{Setting, demand, own_isn, peer_isn, is_keyed}
use Rattle.book_shim.specs.Relaying.{fitted, length_in_header}
use Rattle.book_shim.specs.Leaving.{Sealed, signs, entered, kept_for, send_within, send_sealed, send_read, with_ao, ao_last, code_for, input_for}
use Rattle.book_shim.specs.Arriving.{Opened, as_taken, judged_arrival, is_awaited, known_for, handed_on, take_in}
use Rattle.law_shim.proofs.Returning.{comes_out, fitted_found}
use Rattle.law_shim.proofs.Sealing.{is_fitted, relaid_keeps, sends as sent_so}
use Rattle.law_shim.specs.Rolling.{AreAligned, IsInTime, IsPlanned, lacks_row, lacks_key, IsTakenUnder, IsKeyed}

-- ---- a row for the pair

one_more : (rows : List Row) (pair : Pair) (a : Bool) → is_keyed rows pair ≡ true → (a || is_keyed rows pair) ≡ true
one_more rows pair true e = refl
one_more rows pair false e = e

one_first : (a b : Bool) → a ≡ true → (a || b) ≡ true
one_first true b e = refl
one_first false b e = absurd (cc)

-- where a row passes a test that only a row for the pair passes, the pair is keyed
keyed_by : (good : Row → Bool) (rows : List Row) (pair : Pair) → ((r : Row) → good r ≡ true → matches r pair ≡ true) → list_any good rows ≡ true → is_keyed rows pair ≡ true
keyed_by good [] pair f e = absurd (cc)
keyed_by good (r ∷ rs) pair f e = by_test (good r) refl e (λ h. keyed_by good rs pair f h)
  where
    by_test : (b : Bool) → good r ≡ b → (b || list_any good rs) ≡ true → (list_any good rs ≡ true → is_keyed rs pair ≡ true) → (matches r pair || is_keyed rs pair) ≡ true
    by_test true is e more = one_first (matches r pair) (is_keyed rs pair) (f r is)
    by_test false is e more = one_more rs pair (matches r pair) (more e)

lowest_any : (good : Row → Bool) (n : ℕ) (rows : List Row) (x : Numbered) → lowest good n rows ≡ Some x → list_any good rows ≡ true
lowest_any good n [] x e = absurd (cc)
lowest_any good n (r ∷ rs) x e = by_test (good r) refl e (λ h. lowest_any good (n + 1) rs x h)
  where
    by_test : (b : Bool) → good r ≡ b → option_or (if b then Some (record { number = n; row = r }) else None) (lowest good (n + 1) rs) ≡ Some x
        → (lowest good (n + 1) rs ≡ Some x → list_any good rs ≡ true) → (b || list_any good rs) ≡ true
    by_test true is e more = refl
    by_test false is e more = more e

accepts_matches : (pair : Pair) (id now : ℕ) (r : Row) → acceptable_as pair id now r ≡ true → matches r pair ≡ true
accepts_matches pair id now r e =
    (and_tells (matches r pair) (receives r.direction && contains r.accepting now) (and_tells (acceptable pair now r) (r.recv_id == id) e).0).0

accept_keyed : (rows : List Row) (pair : Pair) (id now : ℕ) (x : Numbered) → accept_row rows pair id now ≡ Some x → is_keyed rows pair ≡ true
accept_keyed rows pair id now x e =
    keyed_by (acceptable_as pair id now) rows pair (accepts_matches pair id now) (lowest_any (acceptable_as pair id now) 1 rows x e)

send_keyed : (rows : List Row) (pair : Pair) (now : ℕ) → has_sendable rows pair now ≡ true → is_keyed rows pair ≡ true
send_keyed rows pair now e =
    keyed_by (sendable pair now) rows pair (λ r h. (and_tells (matches r pair) (sends r.direction && contains r.sending now) h).0) e

-- ---- not for want of a row

-- the check doesn't refuse for want of a row
abbrev lacks : Judgement → Bool
lacks (Err NoTuple) = true
lacks (Err Expired) = true
lacks j = false

after_require : (b : Bool) (why : Refusal) (f : Unit {0} → Judgement) → lacks (Err why) ≡ false → ((u : Unit {0}) → lacks (f u) ≡ false) → lacks (require b why >>= f) ≡ false
after_require true why f e more = more tt
after_require false why f e more = e

after_fault : {A : Type 0} (o : Option A) (why : Refusal) (f : A → Judgement) → lacks (Err why) ≡ false → ((x : A) → lacks (f x) ≡ false) → lacks (or_fault o why >>= f) ≡ false
after_fault (Some x) why f e more = more x
after_fault None why f e more = e

judged_row : (rows : List Row) (pair : Pair) (known : Known) (now : ℕ) (d : Segment) (ao : Ao) (x : Numbered) → find_ao d.area ≡ One ao → accept_row rows pair ao.key_id now ≡ Some x
    → lacks (judge rows pair known now d) ≡ false
unfolding judge
judged_row rows pair known now d ao x one is =
    rw one (rw is (after_require (length ao.mac == mac_length_of x.row.algorithm) MacLength _ refl
    (λ u. after_fault (context_of d known.peer_isn (Some known.own_isn)) Nothing _ refl
    (λ c. after_require (has SYN d || is_some known.expected) Nothing _ refl
    (λ u. after_fault (segment_number d known.expected) Far _ refl
    (λ n. after_require (nat_le (n + segment_length d) number_limit) Far _ refl
    (λ u. after_require (same_bytes ao.mac (mac_of (found_with x d ao c n))) BadMac _ refl (λ u. refl))))))))

same_lack : (why : Refusal) → lacks_row (Err (Refused why)) ≡ lacks (Err why)
same_lack NoAo = refl
same_lack TwoAo = refl
same_lack WithMd5 = refl
same_lack NoTuple = refl
same_lack Expired = refl
same_lack MacLength = refl
same_lack Nothing = refl
same_lack Far = refl
same_lack BadMac = refl

handed : (here : Setting) (pair : Pair) (g : Kept) (d : Segment) (j : Judgement) → lacks j ≡ false → lacks_row (as_taken j >>= λ p. Ok (handed_on here pair g d p)) ≡ false
handed here pair g d (Ok p) e = refl
handed here pair g d (Err why) e = same_lack why ∙ e

arrived_row : (b : Bool) (j : Judgement) → lacks j ≡ false → lacks (if b then Err Nothing else j) ≡ false
arrived_row true j e = refl
arrived_row false j e = e

judged_lacks : (here : Setting) (pair : Pair) (g : Kept) (d : Segment) → lacks (judge here.rows pair (known_for g d) here.now d) ≡ false → lacks (judged_arrival here pair g d) ≡ false
unfolding judged_arrival
judged_lacks here pair g d e = arrived_row (has SYN d && has ACK d && not (is_awaited g d)) (judge here.rows pair (known_for g d) here.now d) e

after_keyed : (b : Bool) (f : Unit {0} → Result Opened Untaken) → b ≡ true → lacks_row (f tt) ≡ false → lacks_row (demand b NoRow >>= f) ≡ false
after_keyed true f is e = e
after_keyed false f is e = absurd (cc)

after_good : (b : Bool) (f : Unit {0} → Result Opened Untaken) → lacks_row (f tt) ≡ false → lacks_row (demand b Checksum >>= f) ≡ false
after_good true f e = e
after_good false f e = refl

-- where a row takes the KeyID now, the datagram isn't refused for want of a row
taken_row : (here : Setting) (pair : Pair) (g : Kept) (d : Segment) (ao : Ao) (x : Numbered) → find_ao d.area ≡ One ao → accept_row here.rows pair ao.key_id here.now ≡ Some x
    → lacks_row (take_in here pair g d) ≡ false
unfolding take_in
taken_row here pair g d ao x one is =
    let j = judged_lacks here pair g d (judged_row here.rows pair (known_for g d) here.now d ao x one is) in
    after_keyed (is_keyed here.rows pair) _ (accept_keyed here.rows pair ao.key_id here.now x is)
    (after_good (good d) _ (handed here pair g d (judged_arrival here pair g d) j))

-- ---- the law of what is sealed

-- the TCP-AO option of what was sealed has its KeyID
ao_in : (here : Setting) (pair : Pair) (g : Kept) (d : Segment) (m : Sealed) → send_sealed here pair g d ≡ Ok m → Fits d → (ao : Ao) × (find_ao m.segment.area ≡ One ao) × (ao.key_id ≡ m.sending.key_id)
ao_in here pair g d m h fits =
    let z = sent_so here pair g d m h in
    let s = m.sending in
    let code = code_for s m.context (input_for d z.area s m.number) in
    let k = relaid_keeps d (z.area ++ written_ao s code) in
    let area_is : m.segment.area ≡ z.area ++ written_ao s code = ap (λ (x : Sealed). x.segment.area) z.sent_is ∙ k.area_is in
    (ao_last z.area s code, ap find_ao area_is ∙ fitted_found d z.area s code fits z.plain (is_fitted (40 - ao_length s) d.area z.area z.fits), refl)

taken_under : (plan : Plan) (pair : Pair) (sending here : Setting) (kept : Kept) (d : Segment) (m : Sealed) → AlignedFrom sending.rows here.rows pair plan.lead plan.lag → IsValid here.rows
    → IsInTime plan sending.now here.now → send_sealed sending pair kept d ≡ Ok m → IsTakenUnder here (mirrored pair) m
taken_under plan pair sending here kept d m aligned valid time h =
    let s = sent_so sending pair kept d m h in
    let c : Chosen (IsMet here.rows pair plan.lead plan.lag) pair sending.now m.sending =
    chosen (IsMet here.rows pair plan.lead plan.lag) (entered kept d).current sending.rows pair sending.now m.sending aligned s.chosen in
    let w = meets here.rows pair plan.lead plan.lag m.sending.row sending.now here.now c.of c.may valid time.early time.late time.readable in
    let key = same_key_tells w.numbered.row m.sending.row w.key in
    let given : m.given ≡ d = ap (λ (x : Sealed). x.given) s.sent_is in
    let found : accept_row here.rows (mirrored pair) m.sending.key_id here.now ≡ Some w.numbered = ap (λ id. accept_row here.rows (mirrored pair) id here.now) c.key_id ∙ w.accepts in
    record {
      row = w.numbered;
      accepted = found;
      algorithm = key.algorithm;
      master = key.master;
      with_options = key.flag;
      met = λ g e ao one id. taken_row here (mirrored pair) g e ao w.numbered one (ap (λ n. accept_row here.rows (mirrored pair) n here.now) id ∙ found);
      met_itself = λ fits g.
          let o = ao_in sending pair kept d m h (subst Fits given fits) in
          taken_row here (mirrored pair) g m.segment o.0 w.numbered o.1 (ap (λ n. accept_row here.rows (mirrored pair) n here.now) o.2 ∙ found);
      comes_out = λ fits g ready. comes_out sending here pair (mirrored pair) kept g d m (subst Fits given fits) h (record {
        row = w.numbered;
        accepted = found;
        algorithm = key.algorithm;
        master = key.master;
        with_options = key.flag;
        awaited = ready.awaited;
        context = ready.context;
        near = ready.near;
      });
    }

pub to_b : (plan : Plan) (pair : Pair) (a b : Setting) (kept : Kept) (d : Segment) (m : Sealed) → AreAligned plan pair a b → IsValid b.rows → IsInTime plan a.now b.now
    → send_sealed a pair kept d ≡ Ok m → IsTakenUnder b (mirrored pair) m
to_b plan pair a b kept d m aligned valid time h = taken_under plan pair a b kept d m ((lint_aligned a.rows b.rows pair plan).0 aligned).0.0 valid time h

pub to_a : (plan : Plan) (pair : Pair) (a b : Setting) (kept : Kept) (d : Segment) (m : Sealed) → AreAligned plan pair a b → IsValid a.rows → IsInTime plan b.now a.now
    → send_sealed b (mirrored pair) kept d ≡ Ok m → IsTakenUnder a pair m
to_a plan pair a b kept d m aligned valid time h = taken_under plan (mirrored pair) b a kept d m ((lint_aligned a.rows b.rows pair plan).0 aligned).0.1 valid time h

-- ---- there is a row to send with

after_demand : (b : Bool) (why : Unsent) (f : Unit {0} → Result Sealed Unsent) → lacks_key (Err why) ≡ false → ((u : Unit {0}) → lacks_key (f u) ≡ false) → lacks_key (demand b why >>= f) ≡ false
after_demand true why f e more = more tt
after_demand false why f e more = e

after_option : {A : Type 0} (o : Option A) (why : Unsent) (f : A → Result Sealed Unsent) → lacks_key (Err why) ≡ false → ((x : A) → lacks_key (f x) ≡ false) → lacks_key (or_fault o why >>= f) ≡ false
after_option (Some x) why f e more = more x
after_option None why f e more = e

after_row : (b : Bool) (f : Unit {0} → Result Sealed Unsent) → b ≡ true → lacks_key (f tt) ≡ false → lacks_key (demand b Unkeyed >>= f) ≡ false
after_row true f is e = e
after_row false f is e = absurd (cc)

after_choice : (o : Option Sending) (f : Sending → Result Sealed Unsent) → o ≢ None → ((x : Sending) → lacks_key (f x) ≡ false) → lacks_key (or_fault o NoKey >>= f) ≡ false
after_choice (Some x) f some more = more x
after_choice None f some more = absurd (some refl)

sealed_key : (here : Setting) (pair : Pair) (e : Kept) (d : Segment) → has_sendable here.rows pair here.now ≡ true → lacks_key (send_within here pair e d) ≡ false
unfolding send_within
sealed_key here pair e d may =
    let k = kept_for e d in
    let some : choose e.current here.rows pair here.now ≢ None = λ none. let no = choose_none e.current here.rows pair here.now none in absurd (cc) in
    after_row (is_keyed here.rows pair) _ (send_keyed here.rows pair here.now may)
    (after_demand (not (list_any signs (plains (listed (options_of d.area))))) Signed _ refl
    (λ u. after_option (context_of d (own_isn k) (peer_isn k)) NoContext _ refl
    (λ c. after_option (segment_number d (Some k.sent)) Range _ refl
    (λ n. after_demand (nat_le (n + segment_length d) number_limit) Range _ refl
    (λ u. after_choice (choose e.current here.rows pair here.now) _ some
    (λ s. after_option (fitted (40 - ao_length s) d.area) NoRoom _ refl
    (λ area. after_demand (nat_le (length_in_header d.ip (with_ao d area s (no_mac s))) 65535) TooLong _ refl (λ u. refl))))))))

ours_if : (b : Bool) (r : Result Sealed Unsent) → lacks_key r ≡ false → lacks_key (if b then r else Err Foreign) ≡ false
ours_if true r e = e
ours_if false r e = refl

read_key : (here : Setting) (pair : Pair) (g : Kept) (r : Reading) → has_sendable here.rows pair here.now ≡ true → lacks_key (send_read here pair g r) ≡ false
read_key here pair g (Unread fault) may = refl
read_key here pair g (Read d) may = ours_if (same_socket d.source pair.local && same_socket d.destination pair.remote) (send_sealed here pair g d) (sealed_key here pair (entered g d) d may)

keyed : (plan : Plan) (pair : Pair) (here : Setting) → gap here.rows pair plan.from plan.to ≡ None → IsPlanned plan here.now → IsKeyed here pair
keyed plan pair here none now g bytes =
    let covered : IsGap here.rows pair plan.from plan.to None = (gap_exactly here.rows pair plan.from plan.to None).0 none in
    read_key here pair g (reading bytes) (covered here.now now.after now.before)

pub at_a : (plan : Plan) (pair : Pair) (a b : Setting) → AreAligned plan pair a b → IsPlanned plan a.now → IsKeyed a pair
at_a plan pair a b aligned now = keyed plan pair a ((lint_aligned a.rows b.rows pair plan).0 aligned).1 now

pub at_b : (plan : Plan) (pair : Pair) (a b : Setting) → AreAligned plan pair a b → IsPlanned plan b.now → IsKeyed b (mirrored pair)
at_b plan pair a b aligned now = keyed plan (mirrored pair) b ((lint_aligned a.rows b.rows pair plan).0 aligned).2 now
