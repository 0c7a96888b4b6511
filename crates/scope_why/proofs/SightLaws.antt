-- What is found of a value through several steps.
use Rattle.std.proofs.Common.{◌≡◌, ℕ, ◌≤◌, ◌^◌, Bool, true, false, List, ◌++◌, Option, Some, None, refl, sym, Result, Ok, Err, IfSome, OnOk}
use Rattle.std.proofs.lemmas.List.{append-nil}
use Rattle.book_base.specs.Results.{◌>>=◌, or_fault}
use Rattle.book_segments.specs.Meant.{meant}
use Rattle.book_segments.specs.Segments.{has, SYN}
use Rattle.book_why.specs.Inquiries.{if_found}
use Rattle.book_why.specs.declared.change.IsnPair.{IsnPair}
use Rattle.book_keys.specs.Choices.{Numbered}
use Rattle.book_segments.specs.Options.{Ao}
use Rattle.book_endpoint.specs.declared.refusal.Refusal.TheVariants.{NoContext, Range}
use Rattle.book_why.specs.Sights.{Sight, ao_at, isns_at, known_at, number_at, row_at, suspect_at}
use Rattle.scope_why.specs.Finding.{Finds, Lacking}

pub lacking_first : {A B F : Type 0} (r : Result A F) (f : A → Result B F) → Lacking r → Lacking (r >>= f)
lacking_first (Ok v) f none = absurd none
lacking_first (Err e) f none = tt

pub lacking_later : {A B F : Type 0} (r : Result A F) (f : A → Result B F) (v : A) → r ≡ Ok v → Lacking (f v) → Lacking (r >>= f)
lacking_later r f v is none = rw is none

pub found_later : {A B F : Type 0} (r : Result A F) (f : A → Result B F) (v : A) (w : B) → r ≡ Ok v → f v ≡ Ok w → (r >>= f) ≡ Ok w
found_later r f v w is next = rw is next

pub lacking_option : {A F : Type 0} (o : Option A) (why : F) → o ≡ None → Lacking (or_fault o why)
lacking_option o why is = rw is tt

pub found_option : {A F : Type 0} (o : Option A) (why : F) (v : A) → o ≡ Some v → or_fault o why ≡ Ok v
found_option o why v is = rw is refl

-- nothing is written where nothing was found
nothing : {V F : Type 0} (text : V → List ℕ) (r : Result V F) (out : List ℕ) → Lacking r → out ≡ out ++ if_found text r
nothing text (Ok v) out none = absurd none
nothing text (Err why) out none = sym (append-nil out)

pub none_found : {X V F : Type 0} (view : X → V) (text : V → List ℕ) (o : Option X) (r : Result V F) (out : List ℕ) → o ≡ None → Finds view o r → out ≡ out ++ if_found text r
none_found view text o r out is finds = nothing text r out (rw is at finds)

pub some_found : {E X V F : Type 0} (view : X → V) (text : V → List ℕ) (o : Option X) (x : X) (r : Result V F) (out new : List ℕ) (done : Result (Unit {0}) E) → o ≡ Some x → Finds view o r
    → OnOk done (new ≡ out ++ text (view x)) → OnOk done (new ≡ out ++ if_found text r)
some_found view text o x r out new done is finds wrote =
    let f : r ≡ Ok (view x) = rw is at finds in
    rw f wrote

-- the number of a segment of which a number is expected
later_at : (s : Sight) (b : Bool) (x : ℕ) → has SYN s.segment ≡ b → Some x ≡ (known_at s).expected → number_at s ≡ meant s.segment.sequence x
later_at s true x syn e = let none : Some x ≡ None = rw syn at e in absurd (cc)
later_at s false x syn e = rw (sym e) (rw syn refl)

pub later_number : (s : Sight) (x : ℕ) → Some x ≡ (known_at s).expected → number_at s ≡ meant s.segment.sequence x
later_number s x e = later_at s (has SYN s.segment) x refl e

pub first_number : (s : Sight) → None ≡ (known_at s).expected → number_at s ≡ Some s.segment.sequence
first_number s e = rw (sym e) refl

pub at_most : (o : Option ℕ) (x : ℕ) → o ≡ Some x → IfSome o (λ n. n ≤ 2 ^ 63) → x ≤ 2 ^ 63
at_most o x is most = rw is at most

-- the steps to a suspect
pub suspect_no_ao : (s : Sight) → Lacking (ao_at s) → Lacking (suspect_at s)
unfolding suspect_at
suspect_no_ao s none = lacking_first (ao_at s) _ none

pub suspect_no_row : (s : Sight) (ao : Ao) → ao_at s ≡ Ok ao → Lacking (row_at s) → Lacking (suspect_at s)
unfolding suspect_at
suspect_no_row s ao is none = lacking_later (ao_at s) _ ao is (lacking_first (row_at s) _ none)

pub suspect_no_isns : (s : Sight) (ao : Ao) (row : Numbered) → ao_at s ≡ Ok ao → row_at s ≡ Ok row → isns_at s ≡ None → Lacking (suspect_at s)
unfolding suspect_at
suspect_no_isns s ao row is also none =
    lacking_later (ao_at s) _ ao is (lacking_later (row_at s) _ row also (lacking_first (or_fault (isns_at s) NoContext) _ (lacking_option (isns_at s) NoContext none)))

pub suspect_no_number : (s : Sight) (ao : Ao) (row : Numbered) (isns : IsnPair) → ao_at s ≡ Ok ao → row_at s ≡ Ok row → isns_at s ≡ Some isns → number_at s ≡ None → Lacking (suspect_at s)
unfolding suspect_at
suspect_no_number s ao row isns is also those none =
    lacking_later (ao_at s) _ ao is (lacking_later (row_at s) _ row also (lacking_later (or_fault (isns_at s) NoContext) _ isns (found_option (isns_at s) NoContext isns those)
    (lacking_first (or_fault (number_at s) Range) _ (lacking_option (number_at s) Range none))))

pub suspect_found : (s : Sight) (ao : Ao) (row : Numbered) (isns : IsnPair) (number : ℕ) → ao_at s ≡ Ok ao → row_at s ≡ Ok row → isns_at s ≡ Some isns → number_at s ≡ Some number
    → suspect_at s ≡ Ok (record { segment = s.segment; ao = ao; number = number; source_isn = isns.source_isn; destination_isn = isns.destination_isn; row = row.row })
unfolding suspect_at
suspect_found s ao row isns number is also those n =
    found_later (ao_at s) _ ao _ is (found_later (row_at s) _ row _ also (found_later (or_fault (isns_at s) NoContext) _ isns _ (found_option (isns_at s) NoContext isns those)
    (found_later (or_fault (number_at s) Range) _ number _ (found_option (number_at s) Range number n) refl)))
