-- The tally of packets, and its last line.
use Rattle.std.proofs.Common.{◌≡◌, ℕ, suc, ◌+◌, ◌||◌, ◌==◌, Bool, true, false, not, List, [], ◌∷◌, ◌++◌, append_assoc, codes, decimal, length, if◌then◌else◌, OnOk, Result, Ok, Err, refl, sym, ap, ◌∙◌, arith}
use Rattle.std.proofs.lemmas.Bool.Decides.{nat_tests}
use Rattle.std.proofs.lemmas.List.{append-nil, length-append}
use Rattle.std.proofs.lemmas.List.Elements.{filter-append}
use Rattle.std.proofs.lemmas.List.Folds.{list_any-append}
use Rattle.std.specs.List.{filter, list_any}
use Rattle.book_sessions.specs.declared.class.PacketClass.{PacketClass}
use Rattle.book_lines.specs.Texts.{line_text, spaced}
use Rattle.book_sessions.proofs.Totals.{numbers_counted}
use Rattle.book_sessions.specs.CheckedLines.{are_amiss, class_count, is_amiss_class, is_foreign_class, is_other_class, is_passing_class, is_refused_class, total_line}
use Rattle.packet_check.specs.declared.tally.Tally.{Tally}
use Rattle.packet_check.specs.Tallies.{Tallies}
use Rattle.packet_check.proofs.ContentLaws.{spaced_append}

one_counted : (chosen : PacketClass → Bool) (c : PacketClass) (b : Bool) → chosen c ≡ b → length (filter chosen (c ∷ [])) ≡ (if b then 1 else 0)
one_counted chosen c true is = rw is refl
one_counted chosen c false is = rw is refl

added : (b : Bool) (n : ℕ) → n + (if b then 1 else 0) ≡ (if b then n + 1 else n)
added true n = refl
added false n = omega arith

-- the count with one more, if it counts
pub count_more : (chosen : PacketClass → Bool) (classes : List PacketClass) (c : PacketClass) (before now : ℕ) (b : Bool) → before ≡ class_count chosen classes → b ≡ chosen c → now ≡ (if b then before + 1 else before) → now ≡ class_count chosen (classes ++ c ∷ [])
count_more chosen classes c before now b is chosen_is now_is =
    let both : length (filter chosen (classes ++ c ∷ [])) ≡ length (filter chosen classes) + length (filter chosen (c ∷ [])) =
    ap length (filter-append chosen classes (c ∷ [])) ∙ length-append (filter chosen classes) (filter chosen (c ∷ [])) in
    now_is ∙ (sym (added b before) ∙ (ap (λ (n : ℕ). n + (if b then 1 else 0)) is ∙ (ap (λ (n : ℕ). class_count chosen classes + n) (sym (one_counted chosen c b (sym chosen_is))) ∙ sym both)))

or_false : (b : Bool) → (b || false) ≡ b
or_false true = refl
or_false false = refl

pub amiss_more : (classes : List PacketClass) (c : PacketClass) (before now : Bool) → before ≡ list_any is_amiss_class classes → now ≡ (before || is_amiss_class c) → now ≡ list_any is_amiss_class (classes ++ c ∷ [])
amiss_more classes c before now is now_is =
    now_is ∙ (ap (λ (b : Bool). b || is_amiss_class c) is ∙ sym (list_any-append is_amiss_class classes (c ∷ []) ∙ ap (λ (b : Bool). list_any is_amiss_class classes || b) (or_false (is_amiss_class c))))

some_is_not_none : (n : ℕ) → (suc n == 0) ≡ false
some_is_not_none n = grind (arith, nat_tests)

-- none passes exactly where none is counted
none_counted : (classes : List PacketClass) → (class_count is_passing_class classes == 0) ≡ not (list_any is_passing_class classes)
none_counted [] = refl
none_counted (c ∷ cs) = by (is_passing_class c) refl (none_counted cs)
  where
    by : (b : Bool) → is_passing_class c ≡ b → (class_count is_passing_class cs == 0) ≡ not (list_any is_passing_class cs) → (class_count is_passing_class (c ∷ cs) == 0) ≡ not (list_any is_passing_class (c ∷ cs))
    by true is others = rw is (some_is_not_none (class_count is_passing_class cs))
    by false is others = rw is others

pub amiss_told : (t : Tally) (classes : List PacketClass) (none : Bool) → Tallies t classes → none ≡ (t.passing == 0) → (t.amiss || none) ≡ are_amiss classes
amiss_told t classes none tallies is =
    ap (λ (b : Bool). b || none) tallies.amiss ∙ ap (λ (b : Bool). list_any is_amiss_class classes || b) (is ∙ (ap (λ (n : ℕ). n == 0) tallies.passing ∙ none_counted classes))

-- the tally with one more packet
pub tallies_more : (t now : Tally) (classes : List PacketClass) (c : PacketClass) (p r f o a : Bool) → Tallies t classes → p ≡ is_passing_class c → r ≡ is_refused_class c → f ≡ is_foreign_class c → o ≡ is_other_class c → a ≡ is_amiss_class c
    → now.passing ≡ (if p then t.passing + 1 else t.passing) → now.refused ≡ (if r then t.refused + 1 else t.refused) → now.foreign ≡ (if f then t.foreign + 1 else t.foreign) → now.others ≡ (if o then t.others + 1 else t.others)
    → now.amiss ≡ (t.amiss || a) → Tallies now (classes ++ c ∷ [])
tallies_more t now classes c p r f o a tallies p_is r_is f_is o_is a_is passing refused foreign others amiss = record {
  passing = count_more is_passing_class classes c t.passing now.passing p tallies.passing p_is passing;
  refused = count_more is_refused_class classes c t.refused now.refused r tallies.refused r_is refused;
  foreign = count_more is_foreign_class classes c t.foreign now.foreign f tallies.foreign f_is foreign;
  others = count_more is_other_class classes c t.others now.others o tallies.others o_is others;
  amiss = amiss_more classes c t.amiss now.amiss tallies.amiss (amiss ∙ ap (λ (b : Bool). t.amiss || b) a_is);
}

-- ---- the last line

begun : (o a b : List ℕ) (n : ℕ) → a ≡ o ++ codes "packets " → b ≡ a ++ decimal n → b ≡ o ++ (codes "packets" ++ spaced (decimal n ∷ []))
begun o a b n a_is b_is =
    b_is ∙ (ap (λ (l : List ℕ). l ++ decimal n) a_is ∙ (append_assoc o (codes "packets ") (decimal n) ∙ ap (λ (l : List ℕ). o ++ (codes "packets " ++ l)) (sym (append-nil (decimal n)))))

further : (o w x y : List ℕ) (ws us : List (List ℕ)) → x ≡ o ++ (w ++ spaced ws) → y ≡ x ++ spaced us → y ≡ o ++ (w ++ spaced (ws ++ us))
further o w x y ws us x_is y_is =
    y_is ∙ (ap (λ (l : List ℕ). l ++ spaced us) x_is ∙ (append_assoc o (w ++ spaced ws) (spaced us)
    ∙ ap (λ (l : List ℕ). o ++ l) (append_assoc w (spaced ws) (spaced us) ∙ ap (λ (l : List ℕ). w ++ l) (sym (spaced_append ws us)))))

ended : (o w x y : List ℕ) (ws : List (List ℕ)) → x ≡ o ++ (w ++ spaced ws) → y ≡ x ++ 10 ∷ [] → y ≡ o ++ line_text (w ∷ ws)
ended o w x y ws x_is y_is =
    y_is ∙ (ap (λ (l : List ℕ). l ++ 10 ∷ []) x_is ∙ (append_assoc o (w ++ spaced ws) (10 ∷ []) ∙ ap (λ (l : List ℕ). o ++ l) (append_assoc w (spaced ws) (10 ∷ []))))

all_counted : (t : Tally) (classes : List PacketClass) (n : ℕ) → Tallies t classes → n ≡ t.passing + t.refused + t.foreign + t.others → n ≡ length classes
all_counted t classes n tallies is =
    let counts : n ≡ class_count is_passing_class classes + class_count is_refused_class classes + class_count is_foreign_class classes + class_count is_other_class classes =
    omega (arith, is, tallies.passing, tallies.refused, tallies.foreign, tallies.others) in
    counts ∙ numbers_counted classes

field : (name : List ℕ) (x y : List ℕ) (n m : ℕ) → n ≡ m → y ≡ x ++ spaced (name ∷ decimal n ∷ []) → y ≡ x ++ spaced (name ∷ decimal m ∷ [])
field name x y n m is y_is = y_is ∙ ap (λ (k : ℕ). x ++ spaced (name ∷ decimal k ∷ [])) is

total_is : (t : Tally) (classes : List PacketClass) (n : ℕ) (o a b p r f x now : List ℕ) → Tallies t classes → n ≡ t.passing + t.refused + t.foreign + t.others → a ≡ o ++ codes "packets " → b ≡ a ++ decimal n
    → p ≡ b ++ spaced (codes "pass" ∷ decimal t.passing ∷ []) → r ≡ p ++ spaced (codes "refused" ∷ decimal t.refused ∷ []) → f ≡ r ++ spaced (codes "foreign" ∷ decimal t.foreign ∷ [])
    → x ≡ f ++ spaced (codes "other" ∷ decimal t.others ∷ []) → now ≡ x ++ 10 ∷ [] → now ≡ o ++ total_line classes
total_is t classes n o a b p r f x now tallies n_is a_is b_is p_is r_is f_is x_is now_is =
    let w = codes "packets" in
    let passing = class_count is_passing_class classes in
    let refused = class_count is_refused_class classes in
    let foreign = class_count is_foreign_class classes in
    let others = class_count is_other_class classes in
    let one = begun o a b (length classes) a_is (b_is ∙ ap (λ (k : ℕ). a ++ decimal k) (all_counted t classes n tallies n_is)) in
    let two = further o w b p (decimal (length classes) ∷ []) (codes "pass" ∷ decimal passing ∷ []) one (field (codes "pass") b p t.passing passing tallies.passing p_is) in
    let three = further o w p r (decimal (length classes) ∷ codes "pass" ∷ decimal passing ∷ []) (codes "refused" ∷ decimal refused ∷ []) two (field (codes "refused") p r t.refused refused tallies.refused r_is) in
    let four = further o w r f (decimal (length classes) ∷ codes "pass" ∷ decimal passing ∷ codes "refused" ∷ decimal refused ∷ []) (codes "foreign" ∷ decimal foreign ∷ []) three (field (codes "foreign") r f t.foreign foreign tallies.foreign f_is) in
    let five = further o w f x (decimal (length classes) ∷ codes "pass" ∷ decimal passing ∷ codes "refused" ∷ decimal refused ∷ codes "foreign" ∷ decimal foreign ∷ []) (codes "other" ∷ decimal others ∷ []) four (field (codes "other") f x t.others others tallies.others x_is) in
    ended o w x now (decimal (length classes) ∷ codes "pass" ∷ decimal passing ∷ codes "refused" ∷ decimal refused ∷ codes "foreign" ∷ decimal foreign ∷ codes "other" ∷ decimal others ∷ []) five now_is

-- the last line was put behind a text
pub total_put : {A E : Type 0} (result : Result A E) (t : Tally) (classes : List PacketClass) (n : ℕ) (o a b p r f x now : List ℕ) → Tallies t classes → n ≡ t.passing + t.refused + t.foreign + t.others → a ≡ o ++ codes "packets " → b ≡ a ++ decimal n
    → p ≡ b ++ spaced (codes "pass" ∷ decimal t.passing ∷ []) → r ≡ p ++ spaced (codes "refused" ∷ decimal t.refused ∷ []) → f ≡ r ++ spaced (codes "foreign" ∷ decimal t.foreign ∷ [])
    → x ≡ f ++ spaced (codes "other" ∷ decimal t.others ∷ []) → OnOk result (now ≡ x ++ 10 ∷ []) → OnOk result (now ≡ o ++ total_line classes)
total_put (Ok done) t classes n o a b p r f x now tallies n_is a_is b_is p_is r_is f_is x_is now_is = total_is t classes n o a b p r f x now tallies n_is a_is b_is p_is r_is f_is x_is now_is
total_put (Err e) t classes n o a b p r f x now tallies n_is a_is b_is p_is r_is f_is x_is now_is = tt
