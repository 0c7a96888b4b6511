-- A value has one spelling, no two share one, and none is a proper prefix of another.
use Rattle.std.proofs.Common.{◌≡◌, ℕ, List, [], ◌++◌, length, Option, Some, None, refl, sym, ap, ◌∙◌, arith, subst}
use Rattle.std.proofs.lemmas.List.{append-nil, length-append, nil_from_length}
use Rattle.book_segments.specs.declared.fault.DatagramFault.{DatagramFault}
use Rattle.book_segments.specs.Segments.{Segment, first_fault, fields, spell, reading, Read, read_unless}
use Rattle.book_segments.specs.Spelling.{AreBytes, Fits, Spells, Good, finished}
use Rattle.book_segments.proofs.Read.{spelled_by}
use Rattle.book_segments.proofs.Again.{read_again}
use Rattle.book_segments.proofs.SumLaws.{finished_fits, finished_good}

read_same : (d e : Segment) → Read d ≡ Read e → d ≡ e
read_same d e h = cc

pub one_spelling : (d : Segment) (b c : List ℕ) → Spells d b → Spells d c → b ≡ c
one_spelling d b c s t = s.spelled ∙ sym t.spelled

pub no_prefix : (d e : Segment) (b rest : List ℕ) → Spells d b → Spells e (b ++ rest) → (d ≡ e) × (rest ≡ [])
no_prefix d e b rest s t =
    let one : reading (b ++ rest) ≡ Read d = ap (λ (l : List ℕ). reading (l ++ rest)) s.spelled ∙ read_again d rest s.fits in
    let two : reading (b ++ rest) ≡ Read e = ap reading (t.spelled ∙ sym (append-nil (spell e))) ∙ read_again e [] t.fits in
    let same : d ≡ e = read_same d e (sym one ∙ two) in
    let long : b ++ rest ≡ b = t.spelled ∙ (ap spell (sym same) ∙ sym s.spelled) in
    (same, nil_from_length rest (omega (arith, ap length long, length-append b rest)))

pub one_value : (d e : Segment) (b : List ℕ) → Spells d b → Spells e b → d ≡ e
one_value d e b s t = (no_prefix d e b [] s (record { fits = t.fits; spelled = append-nil b ∙ t.spelled })).0

unless_read : (o : Option DatagramFault) (x d : Segment) → read_unless o x ≡ Read d → (o ≡ None) × (x ≡ d)
unless_read None x d e = (refl, read_same x d e)
unless_read (Some fault) x d e = absurd (cc)

-- what is read stands in front
pub read_stands : (b : List ℕ) (d : Segment) → AreBytes b → reading b ≡ Read d → (rest : List ℕ) × Fits d × (b ≡ spell d ++ rest)
unfolding reading
read_stands b d h e =
    let u = unless_read (first_fault b) (fields b) d e in
    let s = spelled_by b h u.0 in
    let P : Segment → Type 0 = λ x. (rest : List ℕ) × Fits x × (b ≡ spell x ++ rest) in
    subst P u.1 (_, s.fits, s.bytes)

pub read_front : (b rest : List ℕ) (d : Segment) → Fits d → b ≡ spell d ++ rest → reading b ≡ Read d
read_front b rest d f e = ap reading e ∙ read_again d rest f

pub finished_again : (d : Segment) (rest : List ℕ) → Fits d → reading (spell (finished d) ++ rest) ≡ Read (finished d)
finished_again d rest f = read_again (finished d) rest (finished_fits d f)

pub finished_is_good : (d : Segment) → Fits d → Good (finished d)
finished_is_good d f = finished_good d f.ip
