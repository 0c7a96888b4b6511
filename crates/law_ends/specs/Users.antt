-- The sessions of a pair as the user of a stack knows them: by what he did, and by the answers alone. Our own.
use Rattle.std.specs.Prelude.{◌≡◌, ℕ, Bool, true, false, ◌||◌, List, [], ◌∷◌, ◌++◌, ◌==◌, if◌then◌else◌}
use Rattle.book_base.specs.declared.address.Pair.{Pair}
use Rattle.book_base.specs.declared.end.End.{End}
use Rattle.book_link.specs.Worlds.{Setup, pair_of, same_end, Session}
use Rattle.book_cmd_node.specs.declared.node.Act.{Act}
use Rattle.book_cmd_node.specs.declared.node.Act.TheVariants as act
use Rattle.book_cmd_node.specs.NodeRuns.{NodeOutcome, Performed, Delivered, same_pair}
use Rattle.book_stack.specs.Calls.{Call, At, CallAnswer, Told, call}
use Rattle.law_ends.specs.Doings.{Doing, Twins, stack_of, after_doing, new_twins}

-- a session as its user knows it: its initial sequence number, all bytes that were given and that takes delivered, whether
-- a take told the end of the stream, and whether close and abort were called (own)
pub record UserSession : Type 0 where
  pub isn : ℕ
  pub gave : List ℕ
  pub took : List ℕ
  pub ended : Bool
  pub closed : Bool
  pub aborted : Bool

-- a session that begins (own)
abbrev pub new_session : ℕ → UserSession
new_session isn = record { isn = isn; gave = []; took = []; ended = false; closed = false; aborted = false }

-- the newest session becomes another (own)
abbrev pub at_newest : (UserSession → UserSession) → List UserSession → List UserSession
at_newest change [] = []
at_newest change (u ∷ older) = change u ∷ older

-- the answer is that it was done (own)
abbrev pub was_performed : NodeOutcome → Bool
was_performed Performed = true
was_performed _ = false

-- after an act that was done, or wasn't (own)
abbrev pub if_performed : NodeOutcome → (done undone : List UserSession) → List UserSession
if_performed o done undone = if was_performed o then done else undone

-- after a take: what it delivered, and whether it told the end (own)
abbrev pub after_take : NodeOutcome → List UserSession → List UserSession
after_take (Delivered bytes shown) us = at_newest (λ u. record u { took = u.took ++ bytes; ended = u.ended || shown }) us
after_take _ us = us

-- the sessions, the newest first, after an act at their pair and its answer (own)
abbrev pub after_act : Act → NodeOutcome → List UserSession → List UserSession
after_act (act.Open isn) o us = if_performed o (new_session isn ∷ us) us
after_act (act.Listen isn) o us = if_performed o (new_session isn ∷ us) us
after_act (act.Start isn peer) o us = if_performed o (new_session isn ∷ us) us
after_act (act.Give piece) o us = if_performed o (at_newest (λ u. record u { gave = u.gave ++ piece }) us) us
after_act (act.Take count) o us = after_take o us
after_act act.Close o us = if_performed o (at_newest (λ u. record u { closed = true }) us) us
after_act act.Abort o us = if_performed o (at_newest (λ u. record u { aborted = true }) us) us
after_act _ o us = us

-- the sessions of a pair after a call and its answer (own)
abbrev pub after_call_told : Pair → Call → CallAnswer → List UserSession → List UserSession
after_call_told pair (At other a) (Told o) us = if same_pair other pair then after_act a o us else us
after_call_told pair _ _ us = us

-- the sessions of an end after a call at this or the other end (own)
abbrev pub after_doing_told : Setup → Twins → End → Doing → List UserSession → List UserSession
after_doing_told setup t e d us = if same_end e d.end
    then after_call_told (pair_of setup e) d.what (call d.what (stack_of t d.end)).answer us else us

-- the sessions of an end after calls that begin at these stacks (own)
abbrev pub sessions_from : Setup → Twins → End → List Doing → List UserSession → List UserSession
sessions_from setup t e [] us = us
sessions_from setup t e (d ∷ doings) us =
    sessions_from setup (after_doing t d) e doings (after_doing_told setup t e d us)

-- the sessions of an end on the link's pair, the newest first, as the answers to these calls tell (own)
abbrev pub user_sessions : Setup → (End → ℕ) → List Doing → End → List UserSession
user_sessions setup most doings e = sessions_from setup (new_twins setup most) e doings []

-- one of the sessions has this initial sequence number (own)
abbrev pub has_isn : ℕ → List UserSession → Bool
has_isn isn [] = false
has_isn isn (u ∷ older) = (u.isn == isn) || has_isn isn older

-- no two of the sessions have one initial sequence number (RFC 9293, section 3.4.1)
abbrev pub AreFresh : List UserSession → Type 0
AreFresh [] = Unit {0}
AreFresh (u ∷ older) = (has_isn u.isn older ≡ false) × AreFresh older

-- no end begins two sessions of the link's pair with one initial sequence number (RFC 9293, section 3.4.1)
abbrev pub FreshIsns : Setup → (End → ℕ) → List Doing → Type 0
FreshIsns setup most doings = (e : End) → AreFresh (user_sessions setup most doings e)

-- a session of a link is this session of a user (own)
pub record IsTold (s : Session) (u : UserSession) : Type 0 where
  pub isn : s.state.isn ≡ u.isn
  pub gave : s.state.given ≡ u.gave
  pub took : s.state.taken ≡ u.took
  pub ended : s.end_shown ≡ u.ended
  pub closed : s.state.closing ≡ true → u.closed ≡ true
  pub aborted : s.state.aborted ≡ u.aborted

-- the sessions of a link's end are these sessions of its user, one by one (own)
abbrev pub AreTold : List Session → List UserSession → Type 0
AreTold [] [] = Unit {0}
AreTold (s ∷ ss) (u ∷ us) = IsTold s u × AreTold ss us
AreTold _ _ = ⊥
