-- A reading and its findings agree: nothing is found where it goes on, and else the first finding is of its fault.
use Rattle.std.proofs.Common.{◌≡◌, ℕ, ◌&&◌, cond, Bool, true, false, List, [], ◌∷◌, ◌++◌, Option, Some, None, Result, Ok, Err, refl, ap, sym, subst}
use Rattle.std.specs.Prelude.{is_some}
use Rattle.std.specs.List.{list_any}
use Rattle.std.specs.Str.{bytes_eq}
use Rattle.toml.specs.Data.{Data, Members, no_members, member}
use Rattle.book_base.specs.Results.{◌>>=◌, or_fault}
use Rattle.book_keys.specs.declared.fault.Column.{Column}
use Rattle.book_keys.specs.declared.fault.TableFault.{TableFault}
use Rattle.book_keys.specs.declared.fault.TableFault.TheVariants as fault
use Rattle.book_keys.specs.Reading.{must}
use Rattle.book_keys.specs.Columns.{only}
use Rattle.book_scope_texts.specs.declared.finding.KeyFinding.{KeyFinding}
use Rattle.book_scope_texts.specs.declared.finding.KeyPlace.{KeyPlace}
use Rattle.book_scope_texts.specs.FieldTexts.{finding_at, finding_unless, text_shown}
use Rattle.book_scope_texts.specs.RowFindings.{key_finding, keys_in, unknown_findings}
use Rattle.law_keys.specs.FirstFindings.{BeginsWith, IsOfField, column_field, other_field}

-- what a fault says of a finding
abbrev pub Telling : Type 1
Telling = TableFault → KeyFinding → Type 0

pub record Agrees {A : Type 0} (P : Telling) (r : Result A TableFault) (fs : List KeyFinding) : Type 0 where
  pub good : (x : A) → r ≡ Ok x → fs ≡ []
  pub bad : (e : TableFault) → r ≡ Err e → BeginsWith (P e) fs

-- ---- findings in a row

pub begins_and : (P : KeyFinding → Type 0) (fs gs : List KeyFinding) → BeginsWith P fs → BeginsWith P (fs ++ gs)
begins_and P [] gs h = absurd h
begins_and P (f ∷ fs) gs h = h

pub begins_more : (P Q : KeyFinding → Type 0) (fs : List KeyFinding) → ((f : KeyFinding) → P f → Q f) → BeginsWith P fs → BeginsWith Q fs
begins_more P Q [] more h = h
begins_more P Q (f ∷ fs) more h = more f h

begins_after : (P : KeyFinding → Type 0) (fs gs : List KeyFinding) → fs ≡ [] → BeginsWith P gs → BeginsWith P (fs ++ gs)
begins_after P fs gs e h = rw e h

none_and : (fs gs : List KeyFinding) → fs ≡ [] → gs ≡ [] → fs ++ gs ≡ []
none_and fs gs e f = rw (e, f) refl

pub same_fault : {A : Type 0} (d e : TableFault) → ◌≡◌ {A = Result A TableFault} (Err d) (Err e) → d ≡ e
same_fault d e h = cc

-- ---- readings in a row

pub bind : {A B : Type 0} (P : Telling) (r : Result A TableFault) (k : A → Result B TableFault) (fs gs : List KeyFinding) →
    Agrees P r fs → ((x : A) → r ≡ Ok x → Agrees P (k x) gs) → Agrees P (r >>= k) (fs ++ gs)
bind P (Ok x) k fs gs a more =
    let none : fs ≡ [] = a.good x refl in
    record {
      good = λ y e. none_and fs gs none ((more x refl).good y e);
      bad = λ d e. begins_after (P d) fs gs none ((more x refl).bad d e);
    }
bind P (Err d) k fs gs a more = record {
  good = λ y e. absurd (cc);
  bad = λ c e. begins_and (P c) fs gs (a.bad c (ap Err (same_fault d c e)));
}

-- the last reading of several, after which all is told
pub last : {A B : Type 0} (P : Telling) (r : Result A TableFault) (k : A → Result B TableFault) (fs : List KeyFinding) →
    Agrees P r fs → ((x : A) → (y : B) × (k x ≡ Ok y)) → Agrees P (r >>= k) fs
last P (Ok x) k fs a more = record {
  good = λ y e. a.good x refl;
  bad = λ d e. absurd (cc (e, (more x).1));
}
last P (Err d) k fs a more = record {
  good = λ y e. absurd (cc);
  bad = λ c e. a.bad c (ap Err (same_fault d c e));
}

pub weaker : {A : Type 0} (P Q : Telling) (r : Result A TableFault) (fs : List KeyFinding) →
    ((e : TableFault) (f : KeyFinding) → P e f → Q e f) → Agrees P r fs → Agrees Q r fs
weaker P Q r fs more a = record {
  good = a.good;
  bad = λ e h. begins_more (P e) (Q e) fs (more e) (a.bad e h);
}

-- a reading that is refused, and the findings of it
pub refused : {A : Type 0} (P : Telling) (d : TableFault) (f : KeyFinding) (fs : List KeyFinding) → P d f → Agrees {A = A} P (Err d) (f ∷ fs)
refused P d f fs h = record {
  good = λ x e. absurd (cc);
  bad = λ c e. subst (λ (z : TableFault). P z f) (same_fault d c e) h;
}

pub read : {A : Type 0} (P : Telling) (x : A) → Agrees P (Ok x) []
read P x = record {
  good = λ y e. refl;
  bad = λ d e. absurd (cc);
}

pub tested : {A : Type 0} (P : Telling) (good : Bool) (r : Result A TableFault) (d : TableFault) (fs : List KeyFinding) (f : KeyFinding) →
    Agrees P r fs → P d f → Agrees P (cond good r (Err d)) (cond good fs (f ∷ []))
tested P true r d fs f a h = a
tested P false r d fs f a h = refused P d f [] h

-- ---- a field of a place

-- a fault of a column at a place; the field of Other is given
pub record TellsField (n r : ℕ) (other : List ℕ) (e : TableFault) (f : KeyFinding) : Type 0 where
  pub column : Column
  pub fault : e ≡ fault.Field n r column
  pub is : IsOfField f n r (column_field other column)

pub found_at : (p : KeyPlace) (name said : List ℕ) → IsOfField (finding_at p name said) p.node p.row name
unfolding finding_at
found_at p name said = record { node = refl; row = refl; field = refl }

pub must_agree : (P : Telling) (good : Bool) (e : TableFault) (p : KeyPlace) (name said : List ℕ) →
    P e (finding_at p name said) → Agrees P (must good e) (finding_unless good p name said)
must_agree P true e p name said h = read P tt
must_agree P false e p name said h = refused P e _ [] h

pub some_agree : {A : Type 0} (P : Telling) (o : Option A) (e : TableFault) (p : KeyPlace) (name said : List ℕ) →
    P e (finding_at p name said) → Agrees P (or_fault o e) (finding_unless (is_some o) p name said)
some_agree P (Some x) e p name said h = read P x
some_agree P None e p name said h = refused P e _ [] h

-- ---- the keys of a table

other_by : (known : List (List ℕ)) (own key : List ℕ) (d : Data) (ms : Members) (b : Bool) → list_any (bytes_eq key) known ≡ b → (b && only known ms) ≡ true →
    (only known ms ≡ true → other_field known own (keys_in ms) ≡ own) → other_field known own (keys_in (member key d ms)) ≡ own
other_by known own key d ms true e h more = rw e (more h)
other_by known own key d ms false e h more = absurd (cc)

pub other_known : (known : List (List ℕ)) (own : List ℕ) (ms : Members) → only known ms ≡ true → other_field known own (keys_in ms) ≡ own
other_known known own no_members h = refl
other_known known own (member key d ms) h = other_by known own key d ms (list_any (bytes_eq key) known) refl h (other_known known own ms)

clean_by : (known : List (List ℕ)) (p : KeyPlace) (key : List ℕ) (d : Data) (ms : Members) (b : Bool) → list_any (bytes_eq key) known ≡ b → (b && only known ms) ≡ true →
    (only known ms ≡ true → unknown_findings known p (keys_in ms) ≡ []) → unknown_findings known p (keys_in (member key d ms)) ≡ []
unfolding key_finding
clean_by known p key d ms true e h more = rw e (more h)
clean_by known p key d ms false e h more = absurd (cc)

pub keys_clean : (known : List (List ℕ)) (p : KeyPlace) (ms : Members) → only known ms ≡ true → unknown_findings known p (keys_in ms) ≡ []
keys_clean known p no_members h = refl
keys_clean known p (member key d ms) h = clean_by known p key d ms (list_any (bytes_eq key) known) refl h (keys_clean known p ms)

-- the first of these keys that isn't known is found first
abbrev IsFirst : (known : List (List ℕ)) → (own : List ℕ) → KeyPlace → (keys : List (List ℕ)) → Type 0
IsFirst known own p keys = BeginsWith (λ f. IsOfField f p.node p.row (other_field known own keys)) (unknown_findings known p keys)

begins_by : (known : List (List ℕ)) (own : List ℕ) (p : KeyPlace) (key : List ℕ) (d : Data) (ms : Members) (b : Bool) → list_any (bytes_eq key) known ≡ b → (b && only known ms) ≡ false →
    (only known ms ≡ false → IsFirst known own p (keys_in ms)) → IsFirst known own p (keys_in (member key d ms))
unfolding key_finding
begins_by known own p key d ms true e h more = rw e (more h)
begins_by known own p key d ms false e h more = rw e (found_at p (text_shown key) _)

pub unknown_begins : (known : List (List ℕ)) (own : List ℕ) (p : KeyPlace) (ms : Members) → only known ms ≡ false → IsFirst known own p (keys_in ms)
unknown_begins known own p no_members h = absurd (cc)
unknown_begins known own p (member key d ms) h = begins_by known own p key d ms (list_any (bytes_eq key) known) refl h (unknown_begins known own p ms)

-- a table without another key, and then what is read of it
pub keys_agree : {A : Type 0} (P : Telling) (known : List (List ℕ)) (own : List ℕ) (p : KeyPlace) (ms : Members) (r : Result A TableFault) (e : TableFault) (fs : List KeyFinding) →
    ((f : KeyFinding) → IsOfField f p.node p.row (other_field known own (keys_in ms)) → P e f) → (only known ms ≡ true → Agrees P r fs) →
    Agrees P (cond (only known ms) r (Err e)) (unknown_findings known p (keys_in ms) ++ fs)
keys_agree {A} P known own p ms r e fs tells more = by_only (only known ms) refl
  where
    by_only : (b : Bool) → only known ms ≡ b → Agrees P (cond b r (Err e)) (unknown_findings known p (keys_in ms) ++ fs)
    by_only true is = subst (λ (xs : List KeyFinding). Agrees P r (xs ++ fs)) (sym (keys_clean known p ms is)) (more is)
    by_only false is =
        let first = begins_more _ (P e) _ tells (unknown_begins known own p ms is) in
        record {
          good = λ x h. absurd (cc);
          bad = λ c h. subst (λ (z : TableFault). BeginsWith (P z) (unknown_findings known p (keys_in ms) ++ fs)) (same_fault e c h) (begins_and (P e) _ fs first);
        }
