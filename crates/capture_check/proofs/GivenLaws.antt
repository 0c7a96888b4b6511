-- Given connections held one after another, as a loop holds them.
use Rattle.std.proofs.Common.{◌≡◌, ℕ, ◌+◌, ◌<◌, List, [], ◌∷◌, length, drop, get_or, suc, add-one, refl, sym, ap, ◌∙◌, subst}
use Rattle.std.proofs.Math.Seq.{drop-cons}
use Rattle.book_cmd_check.specs.declared.given.GivenIsns.{GivenIsns}
use Rattle.book_cmd_check.specs.Captures.{Connection}
use Rattle.book_cmd_check.specs.Handshakes.{and_given, given_after}

-- it holds of the connections behind which those that are left give all
pub record HoldsBut (P : List Connection → Type 0) (isns left : List GivenIsns) : Type 0 where
  pub held : List Connection
  pub holds : P held
  pub rest : given_after held left ≡ given_after [] isns

pub holds_none : (P : List Connection → Type 0) (isns : List GivenIsns) → P [] → HoldsBut P isns isns
holds_none P isns holds = record { held = []; holds = holds; rest = refl }

pub holds_one : (P Q : List Connection → Type 0) (isns : List GivenIsns) (i : ℕ) (g d : GivenIsns) → i < length isns → g ≡ get_or isns i d
    → HoldsBut P isns (drop i isns) → ((held : List Connection) → P held → Q (and_given g held)) → HoldsBut Q isns (drop (i + 1) isns)
holds_one P Q isns i g d low here h put =
    let cut : drop i isns ≡ g ∷ drop (i + 1) isns = rw (add-one i) (drop-cons isns i d low ∙ ap (λ x. x ∷ drop (suc i) isns) (sym here)) in
    record {
      held = and_given g h.held;
      holds = put h.held h.holds;
      rest = sym (ap (given_after h.held) cut) ∙ h.rest;
    }

pub holds_all : (P : List Connection → Type 0) (isns : List GivenIsns) (i : ℕ) → drop i isns ≡ [] → HoldsBut P isns (drop i isns) → P (given_after [] isns)
holds_all P isns i none h = subst P (ap (given_after h.held) (sym none) ∙ h.rest) h.holds
