-- Which sessions of a capture are none of a key file's: between no address of a node of it, and
-- under no key. Its tops are `own_sessions` and `foreign_sessions`.
use Rattle.std.specs.Prelude.{ℕ, zero, suc, ◌&&◌, ◌||◌, Bool, true, false, not, List, [], ◌∷◌}
use Rattle.std.specs.Prelude.{◌++◌, filter, is_some, if◌then◌else◌}
use Rattle.std.specs.List.{find, list_all, sum_by}
use Rattle.book_base.specs.declared.address.Address.{Address}
use Rattle.book_keys.specs.Rows.{Table, has_address}
use Rattle.book_sessions.specs.declared.uses.KeyUse.{KeyUse}
use Rattle.book_sessions.specs.declared.uses.Protection.{Protection}
use Rattle.book_sessions.specs.declared.uses.Protection.TheVariants as protection
use Rattle.book_sessions.specs.Counts.{all_counted}
use Rattle.book_sessions.specs.SessionTexts.{is_of_session}
use Rattle.book_sessions.specs.Sessions.{SessionTable}

-- the address is that of a node of the key file (own)
abbrev pub is_of_node : List Table → Address → Bool
is_of_node tables address = is_some (find (has_address address) tables)

-- segments that are protected so carry no TCP-AO option (RFC 5925, section 2.2)
abbrev pub is_without_key : Protection → Bool
is_without_key protection.Plain = true
is_without_key protection.Md5 = true
is_without_key protection.Ao = false
is_without_key protection.Unclear = false

-- these are neither from nor to a node of the key file, and carry no TCP-AO option (own)
abbrev pub is_of_others : List Table → KeyUse → Bool
is_of_others tables u = is_without_key u.protection
    && not (is_of_node tables u.source.address || is_of_node tables u.destination.address)

-- the segments of the session of this number (own)
abbrev pub uses_of : List KeyUse → (session : ℕ) → List KeyUse
uses_of uses n = filter (is_of_session n) uses

-- all segments of the session of this number are neither from nor to a node of the key file, and
-- carry no TCP-AO option (own)
abbrev pub is_foreign : List Table → List KeyUse → (session : ℕ) → Bool
is_foreign tables uses n = list_all (is_of_others tables) (uses_of uses n)

-- the chosen ones of the numbers of sessions from 1 to this one (own)
abbrev pub numbers_where : (chosen : ℕ → Bool) → (last : ℕ) → List ℕ
numbers_where chosen zero = []
numbers_where chosen (suc n) = if chosen (suc n)
    then numbers_where chosen n ++ suc n ∷ [] else numbers_where chosen n

-- the numbers of the sessions that are foreign (own)
abbrev pub foreign_sessions : List Table → SessionTable → List ℕ
foreign_sessions tables t = numbers_where (is_foreign tables t.uses) t.sessions

-- the numbers of those that aren't (own)
abbrev pub own_sessions : List Table → SessionTable → List ℕ
own_sessions tables t = numbers_where (λ n. not (is_foreign tables t.uses n)) t.sessions

-- the numbers of the sessions that are listed: all, or those that aren't foreign (own)
abbrev pub listed_sessions : (all : Bool) → List Table → SessionTable → List ℕ
listed_sessions all tables t =
    numbers_where (λ n. all || not (is_foreign tables t.uses n)) t.sessions

-- how many segments the sessions of these numbers have (own)
abbrev pub segments_of : List KeyUse → (numbers : List ℕ) → ℕ
segments_of uses numbers = sum_by (λ n. all_counted (uses_of uses n)) numbers
