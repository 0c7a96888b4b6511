-- The lines that a reader has shown so far.
use Rattle.std.proofs.Common.{◌≡◌, ℕ, ◌+◌, ◌<◌, ◌≤◌, Bool, true, false, List, [], ◌∷◌, ◌++◌, length, refl, sym, ap, ◌∙◌, append_assoc, arith}
use Rattle.std.proofs.lemmas.List.{append-nil, length-append}
use Rattle.book_base.specs.Lines.{lines_of}
use Rattle.ao_base.specs.Outside.{Side}
use Rattle.ao_base.specs.declared.reader.LineStep.{LineStep}
use Rattle.ao_base.specs.declared.reader.LineStep.TheVariants.{Line, End}
use Rattle.ao_base.specs.Reads.{Reading, Advances, IsCut, IsPlain, Shows, Stops}
use Rattle.ao_base.proofs.Newlines.{line_alone, line_first}

-- the reader took these bytes in all and showed these lines: they are the lines of the bytes in front of those that it keeps, whatever follows, unless the last one has no newline
pub record HasShown (reading : Reading) (given : List ℕ) (shown : List (List ℕ)) : Type 0 where
  pub front : List ℕ
  pub split : given ≡ front ++ reading.kept
  pub lines : lines_of front ≡ shown
  pub behind : reading.lacks_newline ≡ false → (more : List ℕ) → lines_of (front ++ more) ≡ shown ++ lines_of more
  pub few : length shown ≤ length front
  pub taken : reading.taken ≡ length given
  pub last : reading.lacks_newline ≡ true → reading.kept ≡ []

-- a new reader has shown none
pub shown_none : (reading : Reading) → reading.kept ≡ [] → reading.taken ≡ 0 → HasShown reading [] []
unfolding lines_of
shown_none reading kept taken = record {
  front = [];
  split = sym kept;
  lines = refl;
  behind = λ going more. refl;
  few = omega arith;
  taken = taken;
  last = λ ended. kept;
}

not_both : {P : Type 0} (b : Bool) → b ≡ false → b ≡ true → P
not_both b f t = absurd (cc)

-- the bytes in front of those that are kept
regroup : (front kept more line rest : List ℕ) → kept ++ more ≡ line ++ 10 ∷ rest → (front ++ kept) ++ more ≡ ((front ++ line) ++ (10 ∷ [])) ++ rest
regroup front kept more line rest e =
    append_assoc front kept more ∙ (ap (λ (xs : List ℕ). front ++ xs) e ∙ (sym (append_assoc front line (10 ∷ rest)) ∙ sym (append_assoc (front ++ line) (10 ∷ []) rest)))

whole : (front : List ℕ) (shown : List (List ℕ)) → lines_of (front ++ []) ≡ shown ++ lines_of [] → lines_of front ≡ shown
unfolding lines_of
whole front shown e = ap lines_of (sym (append-nil front)) ∙ (e ∙ append-nil shown)

module _ (before now : Reading) (a b : Side) (given so_far line : List ℕ) (shown : List (List ℕ)) (has : HasShown before so_far shown)
    (going : before.lacks_newline ≡ false) (taken : now.taken ≡ before.taken + length given) (plain : IsPlain line) where
  total : now.taken ≡ length (so_far ++ given)
  total = let size = length-append so_far given in let old = has.taken in omega arith

  -- with its newline
  with_newline : now.lacks_newline ≡ false → before.kept ++ given ≡ line ++ 10 ∷ now.kept → HasShown now (so_far ++ given) (shown ++ line ∷ [])
  with_newline open_still cut =
      let front : List ℕ = (has.front ++ line) ++ (10 ∷ []) in
      let lines_then : (more : List ℕ) → lines_of (front ++ more) ≡ (shown ++ line ∷ []) ++ lines_of more =
      λ more. ap lines_of (append_assoc (has.front ++ line) (10 ∷ []) more ∙ append_assoc has.front line (10 ∷ more))
      ∙ (has.behind going (line ++ 10 ∷ more) ∙ (ap (λ xs. shown ++ xs) (line_first line more plain) ∙ sym (append_assoc shown (line ∷ []) (lines_of more)))) in
      let sizes = length-append (has.front ++ line) (10 ∷ []) in
      let sizes2 = length-append has.front line in
      let counts = length-append shown (line ∷ []) in
      let few = has.few in
      record {
        front = front;
        split = ap (λ xs. xs ++ given) has.split ∙ regroup has.front before.kept given line now.kept cut;
        lines = whole front (shown ++ line ∷ []) (lines_then []);
        behind = λ still more. lines_then more;
        few = omega arith;
        taken = total;
        last = λ done. not_both now.lacks_newline open_still done;
      }

  -- without it
  without : now.lacks_newline ≡ true → before.kept ++ given ≡ line → now.kept ≡ [] → 0 < length line → HasShown now (so_far ++ given) (shown ++ line ∷ [])
  without done cut none some =
      let front : List ℕ = has.front ++ line in
      let sizes = length-append has.front line in
      let counts = length-append shown (line ∷ []) in
      let few = has.few in
      record {
        front = front;
        split = ap (λ xs. xs ++ given) has.split ∙ (append_assoc has.front before.kept given ∙ (ap (λ xs. has.front ++ xs) cut ∙ rw none (sym (append-nil front))));
        lines = has.behind going line ∙ ap (λ xs. shown ++ xs) (line_alone line plain some);
        behind = λ still. not_both now.lacks_newline still done;
        few = omega arith;
        taken = total;
        last = λ _. none;
      }

  by_cut : (ended : Bool) → now.lacks_newline ≡ ended → IsCut (before.kept ++ given) line now.kept ended b → HasShown now (so_far ++ given) (shown ++ line ∷ [])
  by_cut false is cut = with_newline is cut
  by_cut true is cut = without is cut.0 cut.1 cut.2

-- one more line is shown behind lines with newlines
pub shown_more : (before now : Reading) (a b : Side) (given so_far line : List ℕ) (shown : List (List ℕ)) → HasShown before so_far shown → before.lacks_newline ≡ false →
    Advances before now a b given Line → Shows before now b given line → HasShown now (so_far ++ given) (shown ++ line ∷ [])
shown_more before now a b given so_far line shown has going advances shows =
    by_cut before now a b given so_far line shown has going advances.taken shows.plain now.lacks_newline refl shows.cut

-- no more are
pub shown_still : (before now : Reading) (a b : Side) (given so_far : List ℕ) (shown : List (List ℕ)) (step : LineStep) → HasShown before so_far shown → before.lacks_newline ≡ false →
    Advances before now a b given step → Stops before now given → HasShown now (so_far ++ given) shown
shown_still before now a b given so_far shown step has going advances stops =
    let size = length-append so_far given in
    let old = has.taken in
    let new = advances.taken in
    record {
      front = has.front;
      split = ap (λ (xs : List ℕ). xs ++ given) has.split ∙ (append_assoc has.front before.kept given ∙ ap (λ (xs : List ℕ). has.front ++ xs) (sym stops.kept));
      lines = has.lines;
      behind = λ still. has.behind going;
      few = has.few;
      taken = omega arith;
      last = λ done. not_both before.lacks_newline going (sym stops.lacks_newline ∙ done);
    }
