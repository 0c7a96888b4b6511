-- The word of an event's line that is a name, and one that is none.
use Rattle.std.proofs.Common.{◌≡◌, ℕ, true, false, List, [], ◌∷◌, Option, Some, None, MatchOption, Err, refl, ap, lit<, All}
use Rattle.std.specs.Str.{bytes_eq}
use Rattle.std.proofs.lemmas.Slice.Eq.{bytes_eq-Decides}
use Rattle.book_base.specs.declared.address.Address.{Address}
use Rattle.book_lines.specs.declared.line_kind.LineKind.TheVariants.{Word}
use Rattle.book_cmd_node.specs.NodeRuns.{node_event_named}
use Rattle.cmd_node.specs.declared.name.Name.{Name}
use Rattle.cmd_node.specs.declared.name.Name.TheVariants as name
use Rattle.cmd_node.specs.Names.{name_text}

-- a word that is a name begins its event
pub by_name : (own : Address) (w : List ℕ) (n : Name) (ws : List (List ℕ)) → bytes_eq w (name_text n) ≡ true → node_event_named own w ws ≡ node_event_named own (name_text n) ws
by_name own w n ws same = ap (λ v. node_event_named own v ws) ((bytes_eq-Decides w (name_text n)).0 same)

-- a word that is no name begins no event
pub unnamed : (own : Address) (w : List ℕ) (ws : List (List ℕ)) → ((n : Name) → bytes_eq w (name_text n) ≡ false) → node_event_named own w ws ≡ Err Word
unfolding node_event_named
unnamed own w ws other = rw (
  other name.Clock,
  other name.Inject,
  other name.Open,
  other name.Listen,
  other name.Start,
  other name.Give,
  other name.Take,
  other name.Send,
  other name.Resend,
  other name.Close,
  other name.Abort,
  other name.Remove,
) refl

pub ruleset named_or_not = (by_name, unnamed)

-- the names, in the order in which they are tried
abbrev pub names : List Name
names =
    name.Clock
    ∷ name.Inject
    ∷ name.Open
    ∷ name.Listen
    ∷ name.Start
    ∷ name.Give
    ∷ name.Take
    ∷ name.Send
    ∷ name.Resend
    ∷ name.Close
    ∷ name.Abort
    ∷ name.Remove
    ∷ []

-- what holds of those names holds of every name
pub of_every_name : (P : Name → Type 0) → All P names → (n : Name) → P n
of_every_name P h name.Clock = h 0 name.Clock (lit< tt)
of_every_name P h name.Inject = h 1 name.Inject (lit< tt)
of_every_name P h name.Open = h 2 name.Open (lit< tt)
of_every_name P h name.Listen = h 3 name.Listen (lit< tt)
of_every_name P h name.Start = h 4 name.Start (lit< tt)
of_every_name P h name.Give = h 5 name.Give (lit< tt)
of_every_name P h name.Take = h 6 name.Take (lit< tt)
of_every_name P h name.Send = h 7 name.Send (lit< tt)
of_every_name P h name.Resend = h 8 name.Resend (lit< tt)
of_every_name P h name.Close = h 9 name.Close (lit< tt)
of_every_name P h name.Abort = h 10 name.Abort (lit< tt)
of_every_name P h name.Remove = h 11 name.Remove (lit< tt)

-- a word is one of those names, or no name
pub named_by : (w : List ℕ) (r : Option Name) → MatchOption r (All (λ n. bytes_eq w (name_text n) ≡ false) names) (λ n. bytes_eq w (name_text n) ≡ true) →
    MatchOption r ((n : Name) → bytes_eq w (name_text n) ≡ false) (λ n. bytes_eq w (name_text n) ≡ true)
named_by w (Some n) h = h
named_by w None h = of_every_name (λ n. bytes_eq w (name_text n) ≡ false) h
