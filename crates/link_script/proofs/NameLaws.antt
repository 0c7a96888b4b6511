-- The word of an event's line that is a name, and one that is none.
use Rattle.std.proofs.Common.{◌≡◌, ℕ, true, false, List, [], ◌∷◌, Option, Some, None, MatchOption, Err, refl, ap, lit<, All}
use Rattle.std.specs.Str.{bytes_eq}
use Rattle.std.proofs.lemmas.Slice.Eq.{bytes_eq-Decides}
use Rattle.book_lines.specs.declared.line_kind.LineKind.TheVariants.{Word}
use Rattle.book_cmd_link.specs.LinkEvents.{event_named}
use Rattle.link_script.specs.declared.name.Name.{Name}
use Rattle.link_script.specs.declared.name.Name.TheVariants as name
use Rattle.link_script.specs.Names.{name_text}

-- a word that is a name begins its event
pub by_name : (w : List ℕ) (n : Name) (ws : List (List ℕ)) → bytes_eq w (name_text n) ≡ true → event_named w ws ≡ event_named (name_text n) ws
by_name w n ws same = ap (λ v. event_named v ws) ((bytes_eq-Decides w (name_text n)).0 same)

-- a word that is no name begins no event
pub unnamed : (w : List ℕ) (ws : List (List ℕ)) → ((n : Name) → bytes_eq w (name_text n) ≡ false) → event_named w ws ≡ Err Word
unfolding event_named
unnamed w ws other = rw (
  other name.Clock,
  other name.Open,
  other name.Listen,
  other name.Start,
  other name.Give,
  other name.Fill,
  other name.Send,
  other name.Resend,
  other name.Deliver,
  other name.Inject,
  other name.Alter,
  other name.Take,
  other name.Close,
  other name.Abort,
  other name.Add,
  other name.Withdraw,
  other name.Dump,
) refl

pub ruleset named_or_not = (by_name, unnamed)

-- the names, in the order in which they are tried
abbrev pub names : List Name
names =
    name.Clock
    ∷ name.Open
    ∷ name.Listen
    ∷ name.Start
    ∷ name.Give
    ∷ name.Fill
    ∷ name.Send
    ∷ name.Resend
    ∷ name.Deliver
    ∷ name.Inject
    ∷ name.Alter
    ∷ name.Take
    ∷ name.Close
    ∷ name.Abort
    ∷ name.Add
    ∷ name.Withdraw
    ∷ name.Dump
    ∷ []

-- what holds of those names holds of every name
pub of_every_name : (P : Name → Type 0) → All P names → (n : Name) → P n
of_every_name P h name.Clock = h 0 name.Clock (lit< tt)
of_every_name P h name.Open = h 1 name.Open (lit< tt)
of_every_name P h name.Listen = h 2 name.Listen (lit< tt)
of_every_name P h name.Start = h 3 name.Start (lit< tt)
of_every_name P h name.Give = h 4 name.Give (lit< tt)
of_every_name P h name.Fill = h 5 name.Fill (lit< tt)
of_every_name P h name.Send = h 6 name.Send (lit< tt)
of_every_name P h name.Resend = h 7 name.Resend (lit< tt)
of_every_name P h name.Deliver = h 8 name.Deliver (lit< tt)
of_every_name P h name.Inject = h 9 name.Inject (lit< tt)
of_every_name P h name.Alter = h 10 name.Alter (lit< tt)
of_every_name P h name.Take = h 11 name.Take (lit< tt)
of_every_name P h name.Close = h 12 name.Close (lit< tt)
of_every_name P h name.Abort = h 13 name.Abort (lit< tt)
of_every_name P h name.Add = h 14 name.Add (lit< tt)
of_every_name P h name.Withdraw = h 15 name.Withdraw (lit< tt)
of_every_name P h name.Dump = h 16 name.Dump (lit< tt)

-- a word is one of those names, or no name
pub named_by : (w : List ℕ) (r : Option Name) → MatchOption r (All (λ n. bytes_eq w (name_text n) ≡ false) names) (λ n. bytes_eq w (name_text n) ≡ true) →
    MatchOption r ((n : Name) → bytes_eq w (name_text n) ≡ false) (λ n. bytes_eq w (name_text n) ≡ true)
named_by w (Some n) h = h
named_by w None h = of_every_name (λ n. bytes_eq w (name_text n) ≡ false) h
