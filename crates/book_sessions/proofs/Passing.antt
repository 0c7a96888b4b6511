-- Where nothing is amiss all segments pass.
use Rattle.std.proofs.Common.{◌≡◌, ◌||◌, Bool, true, false, not, List, [], ◌∷◌, map, refl, sym, ap, ◌∙◌}
use Rattle.std.proofs.lemmas.List.Elements.{All-from_recursion, All-weaker}
use Rattle.std.proofs.lemmas.List.Folds.{Any-from_list_any}
use Rattle.std.specs.List.{All, AllByRecursion, Any, list_any}
use Rattle.book_keys.specs.Rows.{Table}
use Rattle.book_captures.specs.Captures.{CapturePacket}
use Rattle.book_cmd_check.specs.declared.given.GivenIsns.{GivenIsns}
use Rattle.book_cmd_check.specs.Captures.{is_pass}
use Rattle.book_sessions.specs.declared.outcome.PassedOver.{PassedOver}
use Rattle.book_sessions.specs.declared.outcome.PassedOver.TheVariants.{Faulty}
use Rattle.book_sessions.specs.OutcomeTexts.{is_doubtful}
use Rattle.book_sessions.specs.CheckedLines.{are_amiss, is_amiss, is_amiss_class, is_passing_class}
use Rattle.book_sessions.specs.CheckedPackets.{CheckedContent, CheckedPacket, OfSegment, OfBytes, OfNothing, checked_packets, class_by, class_of, class_without, classes_of, is_foreign_segment}
use Rattle.book_sessions.specs.Outcomes.{AllPass, HasPassing, PassesUnlessForeign}

any_map : {X Y : Type 0} (test : Y → Bool) (f : X → Y) (xs : List X) → list_any test (map f xs) ≡ list_any (λ x. test (f x)) xs
any_map test f [] = refl
any_map test f (x ∷ xs) = ap (λ (b : Bool). test (f x) || b) (any_map test f xs)

none_does : {X : Type 0} (test : X → Bool) (xs : List X) → list_any test xs ≡ false → AllByRecursion (λ x. test x ≡ false) xs
none_does test [] none = tt
none_does test (x ∷ xs) none = by (test x) refl none (none_does test xs)
  where
    by : (b : Bool) → test x ≡ b → (b || list_any test xs) ≡ false → (list_any test xs ≡ false → AllByRecursion (λ y. test y ≡ false) xs) → AllByRecursion (λ y. test y ≡ false) (x ∷ xs)
    by true is none others = absurd (cc)
    by false is none others = (is, others none)

-- neither, where one or not the other is none
record Neither (a b : Bool) : Type 0 where
  one : a ≡ false
  other : b ≡ true

neither : (a b : Bool) → (a || not b) ≡ false → Neither a b
neither true b none = absurd (cc)
neither false true none = record { one = refl; other = refl }
neither false false none = absurd (cc)

segment_passes : (passes : Bool) → is_amiss_class (class_by false passes) ≡ false → passes ≡ true
segment_passes true none = refl
segment_passes false none = absurd (cc)

passes_unless : (tables : List Table) (content : CheckedContent) → is_amiss_class (class_of tables content) ≡ false → PassesUnlessForeign tables content
passes_unless tables content none = λ d said is own.
    segment_passes (is_pass said) (sym (ap is_amiss_class (ap (class_of tables) is ∙ ap (λ (f : Bool). class_by f (is_pass said)) own)) ∙ none)

record OwnPass (foreign passes : Bool) : Type 0 where
  own : foreign ≡ false
  passes_is : passes ≡ true

own_pass : (foreign passes : Bool) → is_passing_class (class_by foreign passes) ≡ true → OwnPass foreign passes
own_pass true passes is = absurd (cc)
own_pass false true is = record { own = refl; passes_is = refl }
own_pass false false is = absurd (cc)

without_pass : (doubtful : Bool) (why : PassedOver) → is_doubtful why ≡ doubtful → is_passing_class (class_without why) ≡ false
without_pass true why is = rw is refl
without_pass false why is = rw is refl

has_passing : (tables : List Table) (content : CheckedContent) → is_passing_class (class_of tables content) ≡ true → HasPassing tables content
has_passing tables (OfSegment d said) is =
    let both = own_pass (is_foreign_segment tables d) (is_pass said) is in
    record { segment = d; saying = said; has = refl; own = both.own; passes = both.passes_is }
has_passing tables (OfBytes fault told) is = let none = without_pass (is_doubtful (Faulty told)) (Faulty told) refl in absurd (cc)
has_passing tables (OfNothing why) is = let none = without_pass (is_doubtful why) why refl in absurd (cc)

some_passes : (tables : List Table) (packets : List CheckedPacket) → Any (λ p. is_passing_class (class_of tables p.content) ≡ true) packets → Any (λ p. HasPassing tables p.content) packets
some_passes tables packets (k, p, within, at, is) = (k, p, within, at, has_passing tables p.content is)

all_pass : (tables : List Table) (packets : List CheckedPacket) → are_amiss (classes_of tables packets) ≡ false → AllPass tables packets
all_pass tables packets none =
    let both = neither (list_any is_amiss_class (classes_of tables packets)) (list_any is_passing_class (classes_of tables packets)) none in
    let any_amiss = any_map is_amiss_class (λ (p : CheckedPacket). class_of tables p.content) packets in
    let any_pass = any_map is_passing_class (λ (p : CheckedPacket). class_of tables p.content) packets in
    let each : All (λ p. is_amiss_class (class_of tables p.content) ≡ false) packets =
    All-from_recursion (λ (p : CheckedPacket). is_amiss_class (class_of tables p.content) ≡ false) packets
    (none_does (λ (p : CheckedPacket). is_amiss_class (class_of tables p.content)) packets (sym any_amiss ∙ both.one)) in
    record {
      each = All-weaker (λ (p : CheckedPacket). is_amiss_class (class_of tables p.content) ≡ false) (λ (p : CheckedPacket). PassesUnlessForeign tables p.content) (λ p is. passes_unless tables p.content is) packets each;
      some = some_passes tables packets (Any-from_list_any (λ (p : CheckedPacket). is_passing_class (class_of tables p.content)) packets (sym any_pass ∙ both.other));
      none = each;
    }

pub nothing_amiss : (tables : List Table) (given : List GivenIsns) (packets : List CapturePacket) → is_amiss tables given packets ≡ false → AllPass tables (checked_packets tables given packets)
unfolding is_amiss
nothing_amiss tables given packets none = all_pass tables (checked_packets tables given packets) none
