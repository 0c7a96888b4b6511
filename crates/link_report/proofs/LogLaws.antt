-- What a log says of the history that it stands for.
use Rattle.std.proofs.Common.{◌≡◌, ◌≢◌, ℕ, zero, suc, ◌+◌, ◌-◌, ◌*◌, ◌/◌, ◌<◌, ◌≤◌, ◌==◌, Bor, Bool, true, false, ◌||◌, List, [], ◌∷◌, ◌++◌, length, slice_get, Option, Some, None, Result, Ok, Err, IsOk, is_ok, ◌^◌, if◌then◌else◌, refl, sym, ap, ◌∙◌, subst, subst₂, arith, length-append}
use Rattle.std.proofs.lemmas.Bool.Decides.{nat_tests}
use Rattle.std.specs.Slice.{IsItemAt}
use Rattle.std.proofs.lemmas.Option.{slice_get_read}
use Rattle.book_base.specs.declared.end.End.{End}
use Rattle.book_base.specs.declared.algorithm.Algorithm.{Algorithm}
use Rattle.book_segments.specs.Segments.{Segment, Read, reading}
use Rattle.book_segments.specs.Spelling.{AreBytes, Fits}
use Rattle.book_segments.proofs.SpellLaws.{read_stands}
use Rattle.book_macs.specs.declared.context.Context.{Context}
use Rattle.book_keys.specs.Rows.{Row}
use Rattle.book_endpoint.specs.Verdicts.{Finding}
use Rattle.book_link.specs.Worlds.{Made, Happening, Making, Coming, accounts_for, was_made, segments, segment_named}
use Rattle.link_report.specs.declared.kept.Kept.{Kept}
use Rattle.link_report.specs.Entries.{IsEntry, IsMade, PassesUnder}
use Rattle.link_report.specs.Logs.{Keeps, MadeBy}
use Rattle.link_report.specs.Numbers.{past}
use Rattle.link_report.proofs.AccountLaws.{by_number}

-- as many are kept as were made
pub segments_kept : (kept : List Kept) (history : List Happening) → Keeps kept history → segments history ≡ length kept
segments_kept kept [] h = rw h refl
segments_kept kept (Coming r ∷ past) h = segments_kept kept past h
segments_kept kept (Making m ∷ past) (front, last, e, name, is, front_keeps) =
    let before = segments_kept front past front_keeps in
    let size = length-append front (last ∷ []) in
    rw e (omega arith)

-- the element at a place of a list with one more at its end
get_end : (xs : List Kept) (x : Kept) (i : ℕ) → slice_get (xs ++ x ∷ []) i ≡ (if suc (length xs) == suc i then Some x else slice_get xs i)
get_end [] x zero = refl
get_end [] x (suc i) = let t : (suc 0 == suc (suc i)) ≡ false = grind (arith, nat_tests) in rw t refl
get_end (y ∷ xs) x zero = let t : (suc (suc (length xs)) == suc 0) ≡ false = grind (arith, nat_tests) in rw t refl
get_end (y ∷ xs) x (suc i) =
    let t : (suc (suc (length xs)) == suc (suc i)) ≡ (suc (length xs) == suc i) = grind (arith, nat_tests) in rw t (get_end xs x i)

-- what is kept at a place is the entry of the book
abbrev pub NamedAs : Option Kept → Option Made → Type 0
NamedAs None e = e ≡ None
NamedAs (Some k) e = (m : Made) × (e ≡ Some m) × IsEntry k.entry m

named_if : (b : Bool) (k : Kept) (m : Made) (o : Option Kept) (e : Option Made) → IsEntry k.entry m → NamedAs o e
    → NamedAs (if b then Some k else o) (if b then Some m else e)
named_if true k m o e is h = (m, refl, is)
named_if false k m o e is h = h

pub named_kept : (kept : List Kept) (history : List Happening) (i : ℕ) → Keeps kept history → NamedAs (slice_get kept i) (segment_named (suc i) history)
named_kept kept [] i h = rw h refl
named_kept kept (Coming r ∷ past) i h = named_kept kept past i h
named_kept kept (Making m ∷ past) i (front, last, e, name, is, front_keeps) =
    let entry : (if suc (length front) == suc i then Some m else segment_named (suc i) past) ≡ (if m.name == suc i then Some m else segment_named (suc i) past) =
    ap (λ n. if n == suc i then Some m else segment_named (suc i) past) (sym name) in
    let item : (if suc (length front) == suc i then Some last else slice_get front i) ≡ slice_get kept i = sym (ap (λ xs. slice_get xs i) e ∙ get_end front last i) in
    subst₂ NamedAs item entry
    (named_if (suc (length front) == suc i) last m (slice_get front i) (segment_named (suc i) past) is (named_kept front past i front_keeps))

-- no name is 0
pub named_zero : (kept : List Kept) (history : List Happening) → Keeps kept history → segment_named 0 history ≡ None
named_zero kept [] h = refl
named_zero kept (Coming r ∷ past) h = named_zero kept past h
named_zero kept (Making m ∷ past) (front, last, e, name, is, front_keeps) =
    let t : (m.name == 0) ≡ false = grind (arith, nat_tests) in rw t (named_zero front past front_keeps)

get_past : (xs : List Kept) (i : ℕ) → length xs ≤ i → slice_get xs i ≡ None
get_past [] i h = refl
get_past (x ∷ xs) zero h = absurd (omega arith)
get_past (x ∷ xs) (suc i) h = get_past xs i (omega arith)

-- past the last one no segment has the name
pub named_past : (kept : List Kept) (history : List Happening) (name : ℕ) → name ≢ 0 → length kept ≤ name - 1 → Keeps kept history → segment_named name history ≡ None
named_past kept history zero ne far h = absurd (ne refl)
named_past kept history (suc i) ne far h =
    subst (λ o. NamedAs o (segment_named (suc i) history)) (get_past kept i (omega (arith, far))) (named_kept kept history i h)

-- the entry at the place before a name
pub named_there : (kept : List Kept) (history : List Happening) (name : ℕ) (k : Kept) → name ≢ 0 → slice_get kept (name - 1) ≡ Some k → Keeps kept history
    → (m : Made) × (segment_named name history ≡ Some m) × IsEntry k.entry m
named_there kept history zero k ne at h = absurd (ne refl)
named_there kept history (suc i) k ne at h =
    let e : suc i - 1 ≡ i = omega arith in
    subst (λ o. NamedAs o (segment_named (suc i) history)) (rw e at at) (named_kept kept history i h)

made_as : (e : Option Made) (k : Kept) → NamedAs (Some k) e → MadeBy k.entry.maker e
made_as e k h = subst (MadeBy k.entry.maker) (sym h.1) h.2.maker

-- the maker of the entry at the place before a name
pub made_by_at : (kept : List Kept) (history : List Happening) (name : ℕ) (k : Kept) → 1 ≤ name → slice_get kept (name - 1) ≡ Some k → Keeps kept history
    → MadeBy k.entry.maker (segment_named name history)
made_by_at kept history name k low at h = made_as (segment_named name history) k (named_there kept history name k (λ e. absurd (omega (arith, low, e))) at h)

-- ---- what was made

get_front : (xs : List Kept) (x k : Kept) (i : ℕ) → slice_get xs i ≡ Some k → slice_get (xs ++ x ∷ []) i ≡ Some k
get_front [] x k i h = absurd (cc)
get_front (y ∷ xs) x k zero h = h
get_front (y ∷ xs) x k (suc i) h = get_front xs x k i h

get_last : (xs : List Kept) (x : Kept) → slice_get (xs ++ x ∷ []) (length xs) ≡ Some x
get_last [] x = refl
get_last (y ∷ xs) x = get_last xs x

or_true : (b : Bool) → (b || true) ≡ true
or_true true = refl
or_true false = refl

made_if : (at : End) (p : Finding) (b : Bool) (x m : Made) (others : Option Made) (later : Bool) → (if b then Some x else others) ≡ Some m
    → true ≡ accounts_for at p m → (others ≡ Some m → true ≡ later) → true ≡ (accounts_for at p x || later)
made_if at p true x m others later e h f =
    let same : m ≡ x = cc in
    let here : true ≡ accounts_for at p x = h ∙ ap (accounts_for at p) same in ap (λ b. b || later) here
made_if at p false x m others later e h f = sym (or_true (accounts_for at p x)) ∙ ap (λ b. accounts_for at p x || b) (f e)

-- a segment of this name accounts for it
pub named_made : (at : End) (p : Finding) (n : ℕ) (m : Made) (history : List Happening) → segment_named n history ≡ Some m → true ≡ accounts_for at p m
    → true ≡ was_made at p history
named_made at p n m [] e h = absurd (cc)
named_made at p n m (Coming r ∷ past) e h = named_made at p n m past e h
named_made at p n m (Making x ∷ past) e h =
    made_if at p (x.name == n) x m (segment_named n past) (was_made at p past) e h (λ later. named_made at p n m past later h)

-- an entry that is kept accounts for it
pub made_by : (kept : List Kept) (history : List Happening) (at : End) (f : Finding) (i : ℕ) (k : Kept) → Keeps kept history → slice_get kept i ≡ Some k
    → ((m : Made) → IsEntry k.entry m → true ≡ accounts_for at f m) → true ≡ was_made at f history
made_by kept history at f i k h here tells =
    let named = subst (λ o. NamedAs o (segment_named (suc i) history)) here (named_kept kept history i h) in
    named_made at f (suc i) named.0 history named.1 (tells named.0 named.2)

-- no entry that is kept accounts for it
pub none_made : (kept : List Kept) (history : List Happening) (at : End) (f : Finding) → Keeps kept history
    → ((i : ℕ) (k : Kept) (m : Made) → slice_get kept i ≡ Some k → IsEntry k.entry m → false ≡ accounts_for at f m) → false ≡ was_made at f history
none_made kept [] at f h none = refl
none_made kept (Coming r ∷ past) at f h none = none_made kept past at f h none
none_made kept (Making m ∷ past) at f (front, last, e, name, is, front_keeps) none =
    let here : false ≡ accounts_for at f m = none (length front) last m (ap (λ xs. slice_get xs (length front)) e ∙ get_last front last) is in
    let before : false ≡ was_made at f past =
    none_made front past at f front_keeps (λ i k x g. none i k x (ap (λ xs. slice_get xs i) e ∙ get_front front last k i g)) in
    before ∙ ap (λ b. b || was_made at f past) here

-- ---- one more entry

-- an entry of what is told of a segment that was made
pub entry_of : (m : Made) (maker : End) (number : ℕ) (row : Row) (c : Context) (bytes master : List ℕ) (a : Algorithm) (w : Bool) → IsMade maker number row c bytes m
    → a ≡ row.algorithm → master ≡ row.master → w ≡ row.with_options → number < 2 ^ 64 → AreBytes bytes
    → IsEntry (record { maker = maker; number = number; algorithm = a; master = master; with_options = w; context = c; bytes = bytes }) m
entry_of m maker number row c bytes master a w h ea em ew small are =
    let read : reading bytes ≡ Read m.emission.segment = ap reading (sym h.bytes_are) ∙ h.whole.reads in
    let told = h.number_is in
    record {
      maker = h.maker_is;
      number = h.number_is;
      key = rw (h.row_is, ea, em) refl;
      with_options = ap (λ (r : Row). r.with_options) h.row_is ∙ sym ew;
      context = h.context_is;
      bytes = h.bytes_are;
      small = omega (arith, told, small);
      fits = (read_stands bytes m.emission.segment are read).1;
      whole = h.whole;
    }

-- what an operation that can't fail leaves
pub only_ok : {T E X : Type 0} (r : Result T E) (a b c : X) → IsOk r → c ≡ (if is_ok r then a else b) → c ≡ a
only_ok (Ok v) a b c ok h = h
only_ok (Err e) a b c ok h = absurd (cc ok)

-- what stands at a place of a list
pub item_there : (kept : List Kept) (i : ℕ) (b : Bor Kept) → IsItemAt kept i (Some b) → slice_get kept i ≡ Some b.now
item_there kept i b item = slice_get_read kept (length kept) i b.now refl item.3.0 (item.3.1 b.now)

pub item_past : (kept : List Kept) (i : ℕ) → IsItemAt kept i None → length kept ≤ i
item_past kept i item = item.3

-- ---- a search

-- the entry doesn't account for what passed
abbrev pub Rejected : End → Row → Segment → ℕ → Context → Kept → Type 0
Rejected at row d number c k = (f : Finding) (m : Made) → IsEntry k.entry m → PassesUnder row d number c f → false ≡ accounts_for at f m

-- entries with another number than the sought one are rejected
pub others_rejected : (at : End) (row : Row) (d : Segment) (number sought : ℕ) (c : Context) → Fits d → number < 2 ^ 64
    → sought ≡ number / 4294967296 * 4294967296 + d.sequence → (k : Kept) → k.entry.number ≢ sought → Rejected at row d number c k
others_rejected at row d number sought c fits small e k ne = λ f m is passes.
    by_number at k.entry m row d number c f is passes fits small (λ same. ne (same ∙ sym e))

-- where none is left, no place is past
pub none_past : (o : Option ℕ) → ((i : ℕ) → o ≡ Some i → ⊥) → past o ≡ 0
none_past None h = refl
none_past (Some i) h = absurd (h i refl)
