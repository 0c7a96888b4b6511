-- How far the ends of a link have sent (RFC 9293, section 3.3.1). Its top is `front_at`.
use Rattle.std.specs.Prelude.{ℕ, Option, Some, None, if◌then◌else◌}
use Rattle.book_base.specs.declared.end.End.{End}
use Rattle.book_endpoint.specs.States.{is_closed}
use Rattle.book_link.specs.Worlds.{Session, World, side, live}

-- how far an end has sent: the oldest number that isn't acknowledged, and the one to send next
-- (RFC 9293, section 3.3.1: SND.UNA and SND.NXT)
pub record SendFront : Type 0 where
  pub una : ℕ
  pub next : ℕ

-- the front of a session that isn't closed (own)
abbrev pub front_of : Option Session → Option SendFront
front_of None = None
front_of (Some s) =
    if is_closed s.state.phase then None
    else Some (record { una = s.state.una; next = s.state.next })

-- the front of an end's live session (own)
abbrev pub front_at : World → End → Option SendFront
front_at w e = front_of (live (side w e).sessions)
