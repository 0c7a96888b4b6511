-- Calls by which two stacks hear each other and deliver: that the premises are met. Our own.
use Rattle.std.specs.Prelude.{◌≡◌, ℕ, false, List, [], ◌∷◌, ◌++◌, if◌then◌else◌}
use Rattle.std.specs.List.{AllByRecursion}
use Rattle.book_base.specs.declared.end.End.{End}
use Rattle.book_base.specs.declared.end.End.TheVariants.{A, B}
use Rattle.book_segments.specs.Segments.{spell}
use Rattle.book_endpoint.specs.States.{EndState}
use Rattle.book_link.specs.Worlds.{other, same_end, Setup}
use Rattle.book_stack.specs.Calls.{Call, CallAnswer, Hands, Input, call}
use Rattle.book_stack.specs.Stacks.{handed}
use Rattle.law_link.specs.Headline.{ArePartners}
use Rattle.law_link.specs.Laws.{SetupFits}
use Rattle.law_ends.specs.Doings.{Doing, DoingFits, Twins, after_doing, new_twins, stack_of}
use Rattle.law_ends.specs.Users.{FreshIsns, UserSession, user_sessions}
use Rattle.law_ends.specs.Ends.{IsHeld, IsUnforged}

-- the datagram that an answer hands out, if it does (own)
abbrev pub handed_by : CallAnswer → List (List ℕ)
handed_by (Hands x) = spell (handed x.segment) ∷ []
handed_by _ = []

-- the datagrams that the stack of an end hands out in these calls, in their order (own)
abbrev pub handed_from : Twins → End → List Doing → List (List ℕ)
handed_from t e [] = []
handed_from t e (d ∷ doings) =
    (if same_end e d.end then handed_by (call d.what (stack_of t d.end)).answer else []) ++ handed_from (after_doing t d) e doings

-- the bytes that a call hears, if it does (own)
abbrev pub heard_by : Call → List (List ℕ)
heard_by (Input coming) = coming.bytes ∷ []
heard_by _ = []

-- the bytes that come to an end in these calls, in their order (own)
abbrev pub heard_in : End → List Doing → List (List ℕ)
heard_in e [] = []
heard_in e (d ∷ doings) = (if same_end e d.end then heard_by d.what else []) ++ heard_in e doings

-- a session of a user that gave and took these bytes (own)
abbrev pub talked : (isn : ℕ) (gave took : List ℕ) → UserSession
talked isn gave took = record { isn = isn; gave = gave; took = took; ended = false; closed = false; aborted = false }

-- calls that fit and count no forgery, by which both stacks hear in order all that the other hands out, and hold the two
-- ends of one connection, in which a byte that was given at a was taken at b (own)
pub record Delivers (setup : Setup) (most : End → ℕ) (doings : List Doing) : Type 0 where
  pub fits : SetupFits setup
  pub all : AllByRecursion DoingFits doings
  pub fresh : FreshIsns setup most doings
  pub unforged : IsUnforged setup most doings
  pub path : (e : End) → heard_in e doings ≡ handed_from (new_twins setup most) (other e) doings
  pub one : EndState
  pub two : EndState
  pub holds_one : IsHeld setup most doings A one
  pub holds_two : IsHeld setup most doings B two
  pub partners : ArePartners one two
  pub gave : user_sessions setup most doings A ≡ talked 1000 (1 ∷ []) [] ∷ []
  pub took : user_sessions setup most doings B ≡ talked 2000 [] (1 ∷ []) ∷ []
