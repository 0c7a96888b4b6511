-- What is known of a segment whose MAC is left to judge.
use Rattle.std.proofs.Common.{◌≡◌, ◌<◌, ◌≤◌, ℕ, ◌+◌, ◌-◌, Bool, true, false, List, length, Option, Some, None, refl, sym, ap, ◌∙◌, subst, arith, get_or, Ok, Err}
use Rattle.std.specs.Prelude.{slice_get}
use Rattle.book_base.specs.Algorithms.{mac_length_of}
use Rattle.book_segments.specs.Bytes.{same_bytes}
use Rattle.book_segments.specs.Options.{Ao, AoFound, One, find_ao}
use Rattle.book_segments.specs.Segments.{Segment, has, SYN}
use Rattle.book_macs.specs.Keys.{mac, traffic_key}
use Rattle.book_macs.specs.MacInput.{mac_input}
use Rattle.book_keys.specs.Rows.{Row}
use Rattle.book_keys.specs.Choices.{Numbered, accept_row}
use Rattle.book_endpoint.specs.Verdicts as book
use Rattle.book_macs.specs.Contexts.{bytes_of}
use Rattle.book_macs.specs.Contexts.{context_of}
use Rattle.ao_kdf.specs.Cache.{Cache, kept, IsRight}
use Rattle.ao_kdf.specs.declared.way.Way.{Way}
use Rattle.ao_kdf.specs.declared.way.Way.TheVariants.{Inbound, Outbound}
use Rattle.book_keys.specs.Lookups.{number_of}
use Rattle.book_base.specs.declared.address.Pair.{Pair}
use Rattle.tcp_segment.specs.Views.{view_ao}
use Rattle.ao_check.specs.declared.screen.Screened.{Screened}
use Rattle.book_endpoint.specs.declared.passed.Passed.{Passed}
use Rattle.book_endpoint.specs.declared.refusal.Refusal.TheVariants.{BadMac}
use Rattle.ao_check.specs.Bonds.{Bond, key_for, Fits, keys_after, steps_of, Counted}
use Rattle.ao_check.specs.Verdicts.{Names, Awaits, by_mac, judging}
use Rattle.ao_check.proofs.KeyLaws.{AtPlace, accepted_at, same_row, got, inbound_key, outbound_key, kept_right, fits_after, counted_after}

pub record Ready (rows : List Row) (a : Bond) (now : ℕ) (d : Segment) (s : Screened) : Type 0 where
  pub low : 1 ≤ s.row
  pub high : s.row ≤ length rows
  pub room : s.row ≤ a.keys.rows
  pub judged : judging rows a.pair now (find_ao d.area) ≡ Some s.row

judged_one : (rows : List Row) (pair : Pair) (now : ℕ) (f : AoFound) (ao : Ao) (n : Numbered) → f ≡ One ao → accept_row rows pair ao.key_id now ≡ Some n → judging rows pair now f ≡ Some n.number
judged_one rows pair now f ao n e h = ap (judging rows pair now) e ∙ ap number_of h

pub ready : (rows : List Row) (a : Bond) (now : ℕ) (d : Segment) (s : Screened) (v : book.Judgement) → Fits rows a → Awaits rows a.pair a.own a.peer now d s v → Ready rows a now d s
ready rows a now d s v f A =
    let p = accepted_at rows a.pair s.option.key_id now s.row A.row A.accepted in
    let high = p.high in
    let fits = f.room in
    record {
      low = p.low;
      high = high;
      room = omega arith;
      judged = judged_one rows a.pair now (find_ao d.area) (view_ao s.option) (record { number = s.row; row = A.row }) A.found A.accepted;
    }

-- the row at that place, and its key
pub record Keyed (rows : List Row) (a : Bond) (d : Segment) (s : Screened) (x : Row) : Type 0 where
  pub key : has SYN d ≡ false → key_for (slice_get rows (s.row - 1)) Inbound a.pair a.own a.peer ≡ Some (traffic_key x.algorithm x.master (bytes_of s.context))
  pub right : has SYN d ≡ false → IsRight (kept a.keys s.row Inbound) (traffic_key x.algorithm x.master (bytes_of s.context))

pub keyed : (rows : List Row) (a : Bond) (now : ℕ) (d : Segment) (s : Screened) (v : book.Judgement) (x : Row) → Fits rows a → Awaits rows a.pair a.own a.peer now d s v → d.source ≡ a.pair.remote → d.destination ≡ a.pair.local
    → ((e : Row) → x ≡ get_or rows (s.row - 1) e) → Keyed rows a d s x
keyed rows a now d s v x f A from to at =
    let p = accepted_at rows a.pair s.option.key_id now s.row A.row A.accepted in
    let same = same_row rows s.row A.row x p at in
    let here : slice_get rows (s.row - 1) ≡ Some x = p.here ∙ ap Some (sym same) in
    let one = λ (syn : has SYN d ≡ false). inbound_key d a.pair a.own a.peer x (bytes_of s.context) syn from to A.context in
    record {
      key = λ syn. ap (λ (o : Option Row). key_for o Inbound a.pair a.own a.peer) here ∙ one syn;
      right = λ syn. kept_right rows a s.row Inbound x (traffic_key x.algorithm x.master (bytes_of s.context)) f here (one syn);
    }

-- the test of the MAC, in the words of the verdict
tested : (ao : Ao) (x r : Row) (n number : ℕ) (d : Segment) (c key : List ℕ) (b : Bool) → x ≡ r → key ≡ traffic_key x.algorithm x.master c
    → b ≡ same_bytes ao.mac (mac x.algorithm key (mac_input n d ao x.with_options)) → b ≡ same_bytes ao.mac (book.mac_of (book.found_with (record { number = number; row = r }) d ao c n))
tested ao x r n number d c key b e k h = h ∙ rw (← e, k) refl

pub record Judges (rows : List Row) (pair : Pair) (d : Segment) (s : Screened) (v : book.Judgement) (b : Bool) : Type 0 where
  pub wrong : b ≡ false → v ≡ Err BadMac
  pub right : b ≡ true → (entry : book.Finding) × (v ≡ Ok entry) × Names rows pair d (record { row = s.row; number = s.number; context = s.context }) entry

mac_wrong : (ao : Ao) (p : book.Finding) → same_bytes ao.mac (book.mac_of p) ≡ false → by_mac ao p ≡ Err BadMac
mac_wrong ao p e = rw e refl

mac_right : (ao : Ao) (p : book.Finding) → same_bytes ao.mac (book.mac_of p) ≡ true → by_mac ao p ≡ Ok p
mac_right ao p e = rw e refl

pub judges : (rows : List Row) (a : Bond) (now : ℕ) (d : Segment) (s : Screened) (v : book.Judgement) (x : Row) (key : List ℕ) (b : Bool) → Awaits rows a.pair a.own a.peer now d s v
    → d.source ≡ a.pair.remote → d.destination ≡ a.pair.local → ((e : Row) → x ≡ get_or rows (s.row - 1) e) → key ≡ traffic_key x.algorithm x.master (bytes_of s.context)
    → b ≡ same_bytes s.option.mac.now (mac x.algorithm key (mac_input s.number d (view_ao s.option) x.with_options)) → Judges rows a.pair d s v b
judges rows a now d s v x key b A from to at k test =
    let p = accepted_at rows a.pair s.option.key_id now s.row A.row A.accepted in
    let same = same_row rows s.row A.row x p at in
    let entry = book.found_with (record { number = s.row; row = A.row }) d (view_ao s.option) (bytes_of s.context) s.number in
    let t = tested (view_ao s.option) x A.row s.number s.row d (bytes_of s.context) key b same k test in
    record {
      wrong = λ e. A.judgement ∙ mac_wrong (view_ao s.option) entry (sym t ∙ e);
      right = λ e. (
        entry,
        A.judgement ∙ mac_right (view_ao s.option) entry (sym t ∙ e),
        record { row = A.row; here = p.here; ao = view_ao s.option; found = A.found; entry_is = refl; source = A.source ∙ from; destination = A.destination ∙ to; end = A.end },
      );
    }

pub field_long : (rows : List Row) (a : Bond) (now : ℕ) (d : Segment) (s : Screened) (v : book.Judgement) (x : Row) → Awaits rows a.pair a.own a.peer now d s v → ((e : Row) → x ≡ get_or rows (s.row - 1) e)
    → length s.option.mac.now ≡ mac_length_of x.algorithm
field_long rows a now d s v x A at =
    let p = accepted_at rows a.pair s.option.key_id now s.row A.row A.accepted in
    let same = same_row rows s.row A.row x p at in
    A.length_is ∙ ap (λ (r : Row). mac_length_of r.algorithm) (sym same)

-- ---- what a call leaves

-- the table still fits, and the steps are counted
pub record Left (rows : List Row) (a : Bond) (row : Option ℕ) (way : Way) (flag : Bool) (keys : Cache) (old new : ℕ) : Type 0 where
  pub fits : Fits rows (record { pair = a.pair; own = a.own; peer = a.peer; current = a.current; keys = keys })
  pub counted : Counted a.keys keys row true way flag old new

pub left_by_check : (rows : List Row) (a : Bond) (now : ℕ) (d : Segment) (s : Screened) (v : book.Judgement) (x : Row) (key : List ℕ) (keys : Cache) (syn : Bool) (old new : ℕ)
    → Fits rows a → Awaits rows a.pair a.own a.peer now d s v → d.source ≡ a.pair.remote → d.destination ≡ a.pair.local → ((e : Row) → x ≡ get_or rows (s.row - 1) e)
    → key ≡ traffic_key x.algorithm x.master (bytes_of s.context) → keys ≡ keys_after syn a.keys s.row Inbound key → syn ≡ has SYN d
    → (syn ≡ false → kept keys s.row Inbound ≡ Some key) → new ≡ old + steps_of syn (kept a.keys s.row Inbound)
    → Left rows a (judging rows a.pair now (find_ao d.area)) Inbound (has SYN d) keys old new
left_by_check rows a now d s v x key keys syn old new f A from to at k e g is count =
    let q = keyed rows a now d s v x f A from to at in
    let r = ready rows a now d s v f A in
    record {
      fits = fits_after syn rows a s.row Inbound key keys e (λ z. q.key (sym g ∙ z) ∙ ap Some (sym k)) f;
      counted = counted_after syn a.keys s.row Inbound key keys old new _ (has SYN d) e g r.judged (λ z. λ y h. q.right (sym g ∙ z) y h ∙ sym k) is count;
    }

-- ---- signing

-- the row to sign with, and its key
pub record Signs (rows : List Row) (a : Bond) (d : Segment) (n : ℕ) (x : Row) (c : List ℕ) : Type 0 where
  pub room : n ≤ a.keys.rows
  pub here : slice_get rows (n - 1) ≡ Some x
  pub key : has SYN d ≡ false → key_for (slice_get rows (n - 1)) Outbound a.pair a.own a.peer ≡ Some (traffic_key x.algorithm x.master c)
  pub right : has SYN d ≡ false → IsRight (kept a.keys n Outbound) (traffic_key x.algorithm x.master c)

pub signs : (rows : List Row) (a : Bond) (d : Segment) (n : ℕ) (x : Row) (c : List ℕ) → Fits rows a → 1 ≤ n → n ≤ length rows → ((e : Row) → x ≡ get_or rows (n - 1) e)
    → d.source ≡ a.pair.local → d.destination ≡ a.pair.remote → context_of d (Some a.own) a.peer ≡ Some c → Signs rows a d n x c
signs rows a d n x c f low high at from to e =
    let room = f.room in
    let here = got rows (n - 1) x (omega arith) at in
    let one = λ (syn : has SYN d ≡ false). outbound_key d a.pair a.own a.peer x c syn from to e in
    record {
      room = omega arith;
      here = here;
      key = λ syn. ap (λ (o : Option Row). key_for o Outbound a.pair a.own a.peer) here ∙ one syn;
      right = λ syn. kept_right rows a n Outbound x (traffic_key x.algorithm x.master c) f here (one syn);
    }

pub left_by_sign : (rows : List Row) (a : Bond) (d : Segment) (n : ℕ) (x : Row) (c key : List ℕ) (keys : Cache) (syn : Bool) (old new : ℕ)
    → Fits rows a → Signs rows a d n x c → key ≡ traffic_key x.algorithm x.master c → keys ≡ keys_after syn a.keys n Outbound key → syn ≡ has SYN d
    → (syn ≡ false → kept keys n Outbound ≡ Some key) → new ≡ old + steps_of syn (kept a.keys n Outbound)
    → Left rows a (Some n) Outbound (has SYN d) keys old new
left_by_sign rows a d n x c key keys syn old new f q k e g is count =
    record {
      fits = fits_after syn rows a n Outbound key keys e (λ z. q.key (sym g ∙ z) ∙ ap Some (sym k)) f;
      counted = counted_after syn a.keys n Outbound key keys old new (Some n) (has SYN d) e g refl (λ z. λ y h. q.right (sym g ∙ z) y h ∙ sym k) is count;
    }

pub same_at : (rows : List Row) (n : ℕ) (x r : Row) → 1 ≤ n → n ≤ length rows → ((e : Row) → x ≡ get_or rows (n - 1) e) → slice_get rows (n - 1) ≡ Some r → x ≡ r
same_at rows n x r low high at here =
    let mine = got rows (n - 1) x (omega arith) at in cc
