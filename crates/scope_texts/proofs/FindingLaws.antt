-- Findings put behind others, part by part.
use Rattle.std.proofs.Common.{◌≡◌, Bool, true, false, List, [], ◌∷◌, ◌++◌, Option, Some, Result, Ok, Err, ap, ◌∙◌, append_assoc, length, ◌&&◌}
use Rattle.std.specs.Prelude.{OnOk, nat_le, codes}
use Rattle.toml.specs.Data.{Data, array}
use Rattle.toml.specs.View.{items_view}
use Rattle.toml.specs.declared.value.Value.{Value}
use Rattle.key_table.proofs.ItemLaws.{count_view}
use Rattle.book_scope_texts.specs.declared.finding.KeyFinding.{KeyFinding}
use Rattle.book_scope_texts.specs.declared.finding.KeyPlace.{KeyPlace}
use Rattle.book_scope_texts.specs.FieldTexts.{finding_at}
use Rattle.book_scope_texts.specs.RowFindings.{count_said, each_peer_finding, peers_findings, peers_wanted}

-- what is found in a value that is this one
pub found_in : (find : Option Data → List KeyFinding) (value same : Option Data) (before after : List KeyFinding) → value ≡ same → after ≡ before ++ find value → after ≡ before ++ find same
found_in find value same before after is h = h ∙ ap (λ (d : Option Data). before ++ find d) is

-- two parts, unless memory ran out for the last
pub two_found : {A B X : Type 0} (r : Result A B) (old first after x y : List X) → first ≡ old ++ x → OnOk r (after ≡ first ++ y) → OnOk r (after ≡ old ++ (x ++ y))
two_found (Ok u) old first after x y one two = two ∙ (rw one (append_assoc old x y))
two_found (Err e) old first after x y one two = tt

-- three parts, unless memory ran out for the last
pub three_found : {A B X : Type 0} (r : Result A B) (old first second after x y z : List X) → first ≡ old ++ x → second ≡ first ++ y → OnOk r (after ≡ second ++ z) → OnOk r (after ≡ old ++ (x ++ (y ++ z)))
three_found (Ok u) old first second after x y z one two three = three ∙ (rw (two, one) (simp append_assoc))
three_found (Err e) old first second after x y z one two three = tt

-- eight parts
pub eight_found : {X : Type 0} (old a b c d e f g after s t u v w x y z : List X) → a ≡ old ++ s → b ≡ a ++ t → c ≡ b ++ u → d ≡ c ++ v → e ≡ d ++ w → f ≡ e ++ x → g ≡ f ++ y → after ≡ g ++ z →
    after ≡ old ++ (s ++ (t ++ (u ++ (v ++ (w ++ (x ++ (y ++ z)))))))
eight_found old a b c d e f g after s t u v w x y z one two three four five six seven eight =
    eight ∙ (rw (seven, six, five, four, three, two, one) (simp append_assoc))

-- an array of a number of peers that may be
pub few_found : {A B : Type 0} (r : Result A B) (p : KeyPlace) (vs : List Value) (old after : List KeyFinding) (few : Bool) → few ≡ (nat_le 1 (length vs) && nat_le (length vs) 16) → few ≡ true →
    OnOk r (after ≡ old ++ each_peer_finding p (items_view vs)) → OnOk r (after ≡ old ++ peers_findings p (Some (array (items_view vs))))
unfolding peers_findings
few_found r p vs old after few is small h = let counted : (nat_le 1 (length vs) && nat_le (length vs) 16) ≡ true = rw is at small in rw (count_view vs, counted) h

-- and of another number
pub many_found : {A B : Type 0} (r : Result A B) (p : KeyPlace) (vs : List Value) (old after : List KeyFinding) (few : Bool) → few ≡ (nat_le 1 (length vs) && nat_le (length vs) 16) → few ≡ false →
    OnOk r (after ≡ old ++ finding_at p (codes "Peers") (count_said (length vs) peers_wanted) ∷ []) → OnOk r (after ≡ old ++ peers_findings p (Some (array (items_view vs))))
unfolding peers_findings
many_found r p vs old after few is other h = let counted : (nat_le 1 (length vs) && nat_le (length vs) 16) ≡ false = rw is at other in rw (count_view vs, counted) h
