-- A table of sessions as text, and whether anything in it is amiss. Our own format. Its tops are
-- `sessions_text` and `has_amiss`.
use Rattle.std.specs.Prelude.{ℕ, zero, suc, ◌||◌, Bool, true, false, not, List, [], ◌∷◌, ◌++◌}
use Rattle.std.specs.Prelude.{codes, decimal, length}
use Rattle.std.specs.List.{flat_map, list_any}
use Rattle.book_keys.specs.Rows.{Table}
use Rattle.book_lines.specs.Texts.{line_text}
use Rattle.book_scope_plan.specs.AdminNames.{KeyFile}
use Rattle.book_sessions.specs.declared.uses.KeyUse.{KeyUse}
use Rattle.book_sessions.specs.Counts.{all_counted, all_passed}
use Rattle.book_sessions.specs.Foreign.{foreign_sessions, listed_sessions, own_sessions}
use Rattle.book_sessions.specs.Foreign.{segments_of, uses_of}
use Rattle.book_sessions.specs.KeyLines.{keys_lines}
use Rattle.book_sessions.specs.OutcomeTexts.{is_doubtful, is_verified}
use Rattle.book_sessions.specs.Retiring.{evidence_of}
use Rattle.book_sessions.specs.SessionTexts.{capture_line, lines_of_session, passed_line}
use Rattle.book_sessions.specs.SessionTexts.{unset_line}
use Rattle.book_sessions.specs.Sessions.{SessionTable}

-- the line that stands for foreign sessions, if there are some (own)
abbrev pub foreign_line : (sessions segments : ℕ) → List ℕ
foreign_line zero segments = []
foreign_line (suc n) segments = line_text (codes "foreign" ∷ codes "sessions" ∷ decimal (suc n)
    ∷ codes "segments" ∷ decimal segments ∷ [])

-- the line that says that there is none but foreign sessions (own)
abbrev pub none_line : (own : List ℕ) → List ℕ
none_line [] = line_text (codes "no session of the key file" ∷ [])
none_line (n ∷ ns) = []

-- what is told of foreign sessions, and whether there are others (own)
abbrev pub foreign_lines : List KeyUse → (foreign own : List ℕ) → List ℕ
foreign_lines uses foreign own =
    foreign_line (length foreign) (segments_of uses foreign) ++ none_line own

-- the text of a table: the capture, why packets are no segments, how many segments have no header
-- checksum, how many sessions are foreign, each session that is listed, and each key of the key
-- file (own)
unfoldable pub sessions_text : (all : Bool) → KeyFile → SessionTable → List ℕ
sessions_text all keys t =
    capture_line (all_counted t.uses) (all_passed t.passed) t.uses
    ++ (flat_map passed_line t.passed ++ (unset_line t.unset
    ++ (foreign_lines t.uses (foreign_sessions keys.tables t) (own_sessions keys.tables t)
    ++ (flat_map (lines_of_session t.uses) (listed_sessions all keys.tables t)
    ++ keys_lines keys (evidence_of t)))))

-- a segment of the session of this number isn't verified (own)
abbrev pub has_unverified : List KeyUse → (session : ℕ) → Bool
has_unverified uses n = list_any (λ u. not (is_verified u.outcome)) (uses_of uses n)

-- there is none (own)
abbrev pub is_none : (own : List ℕ) → Bool
is_none [] = true
is_none (n ∷ ns) = false

-- of the sessions that aren't foreign a segment isn't verified, or there is no such session; or a
-- packet that is passed over may be a segment (own)
unfoldable pub has_amiss : List Table → SessionTable → Bool
has_amiss tables t = (list_any (has_unverified t.uses) (own_sessions tables t)
    || list_any (λ c. is_doubtful c.why) t.passed) || is_none (own_sessions tables t)
