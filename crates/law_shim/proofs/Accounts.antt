-- What passes and is no forgery was given at the other side.
use Rattle.std.proofs.Common.{◌≡◌, ℕ, ◌&&◌, ◌||◌, Bool, true, false, List, [], ◌∷◌, ◌++◌, Option, Some, None, Ok, refl, sym, ap, subst, ◌∙◌, inl, inr, ◌⊎◌}
use Rattle.std.specs.List.{list_any, AllByRecursion}
use Rattle.book_base.specs.declared.address.Pair.{Pair}
use Rattle.book_segments.specs.Bytes.{same_bytes}
use Rattle.book_segments.specs.Options.{Ao}
use Rattle.book_segments.specs.Segments.{Segment, reading}
use Rattle.book_segments.specs.Spelling.{AreBytes}
use Rattle.book_segments.proofs.Fields.{and_tells, same_bytes_tells, some_is}
use Rattle.book_macs.specs.MacInput.{mac_input}
use Rattle.book_macs.specs.Contexts.{context_of}
use Rattle.book_segments.specs.Bytes.{ring}
use Rattle.std.specs.Prelude.{◌/◌, ◌%◌, ◌==◌, IsSomeAnd}
use Rattle.book_segments.specs.Segments.{has, SYN}
use Rattle.book_shim.specs.declared.kept.Isns.{Isns}
use Rattle.book_shim.specs.Keeping.{own_isn, peer_isn}
use Rattle.book_shim.specs.Leaving.{entered, kept_for}
use Rattle.book_shim.specs.Arriving.{known_in}
use Rattle.book_endpoint.specs.Verdicts.{Known}
use Rattle.book_keys.specs.Plans.{mirrored}
use Rattle.book_keys.specs.Rows.{Row}
use Rattle.book_endpoint.specs.Arrivals.{heard, numbers_known, arrive}
use Rattle.book_endpoint.specs.Emissions.{Emission, blank, own_ao, no_mac, sealed, written_ao}
use Rattle.book_endpoint.specs.States.{EndState}
use Rattle.book_endpoint.specs.Verdicts.{Finding, key_of, same_master_key}
use Rattle.book_endpoint.proofs.Passing.{meets}
use Rattle.book_shim.specs.declared.kept.Kept.{Kept}
use Rattle.book_shim.specs.Keeping.{Setting}
use Rattle.book_shim.specs.Relaying.{coming_area, most_mss}
use Rattle.book_shim.specs.Leaving.{Sealed, ao_last, with_ao}
use Rattle.book_shim.specs.Arriving.{Opened, known_for, inbound}
use Rattle.law_shim.specs.Origins.{AgreesWith}
use Rattle.law_shim.proofs.Meanings.{same_inputs, same_family, fits_sized}
use Rattle.law_shim.proofs.Sealing.{blank_sized as sealed_sized, fitted_words, Keeps, relaid_keeps, relaid_family}
use Rattle.law_shim.proofs.Numbers.{Shims, from_end, from_shim, without_source}
use Rattle.law_shim.proofs.Emissions.{IsEmission, blank_sized, written_family}
use Rattle.law_shim.specs.Beside.{Event, run, is_made_as, is_sealed_as, was_made, was_sealed, IsAmong, IsBytewise}
use Rattle.law_shim.specs.EndOrigins.{IsAcross, IsOfEnd, IsOfKernel}
use Rattle.law_shim.proofs.Runs.{was_taken, has_passed, read_fits, IsSealing, all_sealed, all_made}

-- ---- what accounts for it

or_tells : (a b : Bool) → (a || b) ≡ true → (a ≡ true) ⊎ (b ≡ true)
or_tells true b e = inl refl
or_tells false b e = inr e

-- one of them that passes the test
record Found {A : Type 0} (P : A → Type 0) (test : A → Bool) (xs : List A) : Type 0 where
  one : A
  among : IsAmong one xs
  holds : P one
  passes : test one ≡ true

found_in : {A : Type 0} (P : A → Type 0) (test : A → Bool) (xs : List A) → AllByRecursion P xs → list_any test xs ≡ true → Found P test xs
found_in P test [] h e = absurd (cc)
found_in P test (x ∷ xs) h e = elim (or_tells (test x) (list_any test xs) e) [
  | inl here ↦ record { one = x; among = inl refl; holds = h.0; passes = here }
  | inr later ↦ let f = found_in P test xs h.1 later in record { one = f.one; among = inr f.among; holds = f.holds; passes = f.passes }
]

-- two that agree with a third
through : (one two three : Segment) → AgreesWith one two → AgreesWith two three → AgreesWith one three
through one two three a b = record {
  source = a.source ∙ b.source;
  destination = a.destination ∙ b.destination;
  sequence = a.sequence ∙ b.sequence;
  acknowledgement = a.acknowledgement ∙ b.acknowledgement;
  reserved = a.reserved ∙ b.reserved;
  flags = a.flags ∙ b.flags;
  window = a.window ∙ b.window;
  urgent = a.urgent ∙ b.urgent;
  payload = a.payload ∙ b.payload;
}

kept_agrees : (d e : Segment) (area : List ℕ) → Keeps d e area → AgreesWith d e
kept_agrees d e area k = record {
  source = sym k.source;
  destination = sym k.destination;
  sequence = sym k.sequence;
  acknowledgement = sym k.acknowledgement;
  reserved = sym k.reserved;
  flags = sym k.flags;
  window = sym k.window;
  urgent = sym k.urgent;
  payload = sym k.payload;
}

-- ---- one connection

known_plain : (g : Kept) (d : Segment) → has SYN d ≡ false → known_for g d ≡ known_in g.isns g.heard
known_plain g d plain = rw plain refl

none_in_use : (d : Segment) (c : List ℕ) → has SYN d ≡ false → context_of d None (Some 0) ≡ Some c → ⊥
none_in_use d c bare e = let none : None ≡ Some c = sym (without_source d (Some 0) bare) ∙ e in cc

-- the connection in use is that of the end which made what was taken
in_use : (i : Option Isns) (heard : ℕ) (s : EndState) (one two : Segment) (c : List ℕ) → one.source ≡ two.source → one.destination ≡ two.destination → has SYN one ≡ false → has SYN two ≡ false
    → context_of one (Some s.isn) s.peer_isn ≡ Some c → context_of two (known_in i heard).peer_isn (Some (known_in i heard).own_isn) ≡ Some c → IsAcross i s
in_use None heard s one two c source destination plain bare made taken = absurd (none_in_use two c bare taken)
in_use (Some k) heard s one two c source destination plain bare made taken =
    from_end (Some k) s (Some k.own) (Some k.peer) one two c (record { none = λ e. absurd (cc); some = λ x e. (ap (λ (y : Isns). Some y.own) (some_is k x e), ap (λ (y : Isns). Some y.peer) (some_is k x e)) })
    source destination plain bare made taken

in_state : (i : Option Isns) (s t : EndState) → s.isn ≡ t.isn → s.peer_isn ≡ t.peer_isn → IsAcross i s → IsAcross i t
in_state None s t own peer h = h
in_state (Some c) s t own peer h = (ap (λ n. n % ring) (sym own) ∙ h.0, subst (λ (o : Option ℕ). IsSomeAnd o (λ n. n % ring ≡ c.own % ring)) peer h.1)

shims_own : (k : Kept) → Shims k.isns (own_isn k) (peer_isn k)
shims_own k = by_isns k.isns
  where
    by_isns : (i : Option Isns) → Shims i (own_isn (record k { isns = i })) (peer_isn (record k { isns = i }))
    by_isns None = record { none = λ e. refl; some = λ c e. absurd (cc) }
    by_isns (Some x) = record { none = λ e. absurd (cc); some = λ c e. (ap (λ (y : Isns). Some y.own) (some_is x c e), ap (λ (y : Isns). Some y.peer) (some_is x c e)) }

not_entered : (g : Kept) (d : Segment) → has SYN d ≡ false → entered g d ≡ g
not_entered g d plain = rw plain refl

-- ---- the laws

pub to_the_kernel : (pair : Pair) (events : List Event) (here : Setting) (bytes : List ℕ) (t : Opened) → AreBytes bytes → inbound here pair (run pair events).kept bytes ≡ Ok t
    → was_made t.passed (run pair events).made ≡ true → IsOfEnd pair events t
to_the_kernel pair events here bytes t b e made =
    let g = (run pair events).kept in
    let far = mirrored pair in
    let w = was_taken here pair g (reading bytes) t e in
    let d = w.segment in
    let fd = read_fits bytes d b w.read in
    let p = t.passed in
    let passes = meets here.rows pair (known_for g d) here.now d p w.opened_so.judgement in
    let f = found_in (IsEmission far) (is_made_as p) (run pair events).made (all_made pair events) made in
    let out = f.one in
    let o = f.holds in
    let one = and_tells (same_master_key (key_of out.sending.row) p.key) (same_bytes out.context p.context && same_bytes out.input p.input) f.passes in
    let two = and_tells (same_bytes out.context p.context) (same_bytes out.input p.input) one.1 in
    let spare = blank far o.state o.draft o.sending in
    let ao : Ao = own_ao o.draft o.sending (no_mac o.sending) in
    let input : mac_input o.draft.number spare ao o.sending.row.with_options ≡ mac_input p.number d passes.ao passes.row.row.with_options =
    sym (ap (λ (x : Emission). x.input) o.is) ∙ same_bytes_tells out.input p.input two.1 ∙ ap (λ (x : Finding). x.input) passes.finding in
    let same = same_inputs o.draft.number p.number spare d ao passes.ao o.sending.row.with_options passes.row.row.with_options
    (written_family far o.state o.draft o.sending d w.source fd.ip) (sym w.source) (sym w.destination) (blank_sized far o.state o.draft o.sending o.fine.short) (fits_sized d fd) input in
    let area = coming_area (most_mss here.mtu d) d.area in
    let sent_is : AgreesWith (sealed far o.state o.draft o.sending o.context).segment spare =
    record { source = refl; destination = refl; sequence = refl; acknowledgement = refl; reserved = refl; flags = refl; window = refl; urgent = refl; payload = refl } in
    record {
      sent = out;
      made = f.among;
      agrees = through out.segment spare t.segment (subst (λ (x : Emission). AgreesWith x.segment spare) (sym o.is) sent_is)
          (through spare d t.segment same.agrees (subst (λ (x : Opened). AgreesWith d x.segment) (sym w.opened_so.taken_is) (kept_agrees d _ area (relaid_keeps d area))));
      context = same_bytes_tells out.context p.context two.0;
      numbers = λ no_syn.
          let out_is : t.segment.flags ≡ d.flags = ap (λ (x : Opened). x.segment.flags) w.opened_so.taken_is ∙ (relaid_keeps d area).flags in
          let bare : has SYN d ≡ false = ap (λ n. (n / 2) % 2 == 1) (sym out_is) ∙ no_syn in
          let plain : has SYN spare ≡ false = ap (λ n. (n / 2) % 2 == 1) same.agrees.flags ∙ bare in
          let made_in : context_of spare (Some o.state.isn) o.state.peer_isn ≡ Some p.context = o.known ∙ (ap (λ (x : Emission). Some x.context) (sym o.is) ∙ ap (λ (c : List ℕ). Some c) (same_bytes_tells out.context p.context two.0)) in
          let taken_in = ap (λ (k : Known). context_of d k.peer_isn (Some k.own_isn)) (sym (known_plain g d bare)) ∙ passes.known_context in
          in_state g.isns o.state out.state (sym (ap (λ (x : Emission). x.state.isn) o.is ∙ o.fine.own)) (sym (ap (λ (x : Emission). x.state.peer_isn) o.is ∙ o.fine.peer))
          (in_use g.isns g.heard o.state spare d p.context (sym w.source) (sym w.destination) plain bare made_in taken_in);
    }

pub to_the_end : (pair : Pair) (events : List Event) (rows : List Row) (now : ℕ) (s : EndState) (bytes : List ℕ) (p : Finding) → IsBytewise events → AreBytes bytes
    → (arrive rows (mirrored pair) now s (reading bytes)).passed ≡ Some p → was_sealed p (run pair events).sealed ≡ true → IsOfKernel pair events s bytes p
to_the_end pair events rows now s bytes p all b e sealed_so =
    let far = mirrored pair in
    let w = has_passed rows far now s (reading bytes) p e in
    let d = w.segment in
    let fd = read_fits bytes d b w.read in
    let passes = meets rows far (numbers_known s) now d p w.judged in
    let f = found_in (IsSealing pair events) (is_sealed_as p) (run pair events).sealed (all_sealed pair events all) sealed_so in
    let m = f.one in
    let o = f.holds in
    let one = and_tells (same_master_key (key_of m.sending.row) p.key) (same_bytes m.context p.context && same_bytes m.input p.input) f.passes in
    let two = and_tells (same_bytes m.context p.context) (same_bytes m.input p.input) one.1 in
    let z = o.sealed_so in
    let given = m.given in
    let sending = m.sending in
    let area = z.area in
    let spare = with_ao given area sending (no_mac sending) in
    let tail = written_ao sending (no_mac sending) in
    let source : given.source ≡ d.source = o.source ∙ sym w.source in
    let destination : given.destination ≡ d.destination = o.destination ∙ sym w.destination in
    let k = relaid_keeps given (area ++ tail) in
    let family = relaid_family given d (area ++ tail) (same_family given.ip d.ip given d source o.fits.ip fd.ip) in
    let input : mac_input m.number spare (ao_last area sending (no_mac sending)) sending.row.with_options ≡ mac_input p.number d passes.ao passes.row.row.with_options =
    sym (ap (λ (x : Sealed). x.input) z.sent_is) ∙ same_bytes_tells m.input p.input two.1 ∙ ap (λ (x : Finding). x.input) passes.finding in
    let same = same_inputs m.number p.number spare d (ao_last area sending (no_mac sending)) passes.ao sending.row.with_options passes.row.row.with_options
    family (k.source ∙ source) (k.destination ∙ destination) (sealed_sized given area sending o.fits (fitted_words _ given.area area z.fits) z.whole) (fits_sized d fd) input in
    record {
      segment = d;
      came = w.read;
      sent = m;
      made = f.among;
      bytes = o.bytes;
      given = o.gave;
      read = o.read;
      agrees = through given spare d (kept_agrees given spare (area ++ tail) k) same.agrees;
      context = same_bytes_tells m.context p.context two.0;
      here = o.here;
      kept = o.kept;
      sealed_so = o.gives;
      numbers = λ bare.
          let plain : has SYN given ≡ false = ap (λ n. (n / 2) % 2 == 1) ((kept_agrees given spare (area ++ tail) k).flags ∙ same.agrees.flags) ∙ bare in
          let by = kept_for o.kept given in
          let made_in : context_of given (own_isn by) (peer_isn by) ≡ Some p.context =
          ap (λ (x : Kept). context_of given (own_isn (kept_for x given)) (peer_isn (kept_for x given))) (sym (not_entered o.kept given plain)) ∙ (z.context_is ∙ ap (λ (c : List ℕ). Some c) (same_bytes_tells m.context p.context two.0)) in
          from_shim by.isns s (own_isn by) (peer_isn by) given d p.context (shims_own by) source destination plain bare made_in passes.known_context;
    }
