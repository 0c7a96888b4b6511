-- The lines of the rows of a key file: who used each last, who asks for it, whether it may go, and
-- what stands in the way. Our own format. Its top is `keys_lines`.
use Rattle.std.specs.Prelude.{ℕ, suc, ◌==◌, ◌&&◌, nat_lt, Bool, not, true, false, List, [], ◌∷◌}
use Rattle.std.specs.Prelude.{◌++◌, codes, decimal, Option, Some, None, if◌then◌else◌}
use Rattle.std.specs.List.{find, flat_map, list_any}
use Rattle.toml.specs.Data.{Members}
use Rattle.book_base.specs.declared.address.Address.{Address}
use Rattle.book_keys.specs.Rows.{Row, Table}
use Rattle.book_lines.specs.Texts.{line_text}
use Rattle.book_scope_plan.specs.AdminNames.{KeyFile, admin_name}
use Rattle.book_scope_plan.specs.FindingTexts.{admin_text}
use Rattle.book_scope_texts.specs.Addresses.{usual_address_text}
use Rattle.book_scope_texts.specs.Instants.{instant_text}
use Rattle.book_sessions.specs.declared.retiring.MayGo.{MayGo}
use Rattle.book_sessions.specs.declared.retiring.MayGo.TheVariants as go
use Rattle.book_sessions.specs.declared.outcome.SegmentOutcome.{SegmentOutcome}
use Rattle.book_sessions.specs.declared.outcome.SegmentOutcome.TheVariants as outcome
use Rattle.book_sessions.specs.declared.uses.KeyUse.{KeyUse}
use Rattle.book_sessions.specs.Peers.{peers_told}
use Rattle.book_sessions.specs.Retiring.{Evidence, all_without, asks_for_row, carries_row}
use Rattle.book_sessions.specs.Retiring.{goes_from, goes_without, does_without}
use Rattle.book_sessions.specs.Retiring.{is_at_row, is_of_peer, leaves_use, may_go}
use Rattle.book_sessions.specs.Retiring.{shows_peer, wants_row}

-- of these and others, if there are some, those with the later packet (own)
abbrev pub later_of : KeyUse → Option KeyUse → KeyUse
later_of u None = u
later_of u (Some v) = if nat_lt v.packet u.packet then u else v

-- those of these segments that were seen last (own)
abbrev pub last_of : (KeyUse → Bool) → List KeyUse → Option KeyUse
last_of chosen [] = None
last_of chosen (u ∷ us) =
    if chosen u then Some (later_of u (last_of chosen us)) else last_of chosen us

-- who sent the last of the segments that carry a row's KeyID (own)
abbrev pub last_texts : Option KeyUse → List (List ℕ) → List (List ℕ)
last_texts None others = codes "never used" ∷ others
last_texts (Some u) others = codes "last used" ∷ instant_text u.last
    ∷ codes "packet" ∷ decimal u.packet ∷ codes "session" ∷ decimal u.session
    ∷ codes "from" ∷ usual_address_text u.source.address ∷ others

-- these ask for the row, and what goes their way doesn't do without it (own)
abbrev pub asks_still : Evidence → Table → (n : ℕ) → Row → KeyUse → Bool
asks_still e t n r u = asks_for_row t r u && not (goes_without (wants_row t n r) e.uses u)

-- who asks for a row (own)
abbrev pub asking_texts : Option KeyUse → List (List ℕ) → List (List ℕ)
asking_texts None others = codes "asked for by nobody" ∷ others
asking_texts (Some u) others = codes "asked for by" ∷ usual_address_text u.source.address
    ∷ codes "session" ∷ decimal u.session ∷ others

-- whether a row may go (own)
abbrev pub may_go_text : MayGo → List ℕ
may_go_text go.Yes = codes "may go yes"
may_go_text go.No = codes "may go no"
may_go_text go.Unknown = codes "may go unknown"

-- one peer, or not one (own)
abbrev pub peers_word : ℕ → List ℕ
peers_word n = if n == 1 then codes "peer seen" else codes "peers seen"

-- of a row that is for any peer, how many were seen: of these holds what is said of it (own)
abbrev pub seen_peers_text : Option ℕ → List (List ℕ)
seen_peers_text None = []
seen_peers_text (Some n) = codes "of the" ∷ decimal n ∷ peers_word n ∷ []

-- ---- what stands in the way

-- a line of what stands in the way of a row (own)
abbrev pub obstacle_line : List (List ℕ) → List ℕ
obstacle_line texts = line_text (codes " " ∷ texts)

-- what an address does, by the last packet of these (own)
abbrev pub obstacle_by : KeyUse → List ℕ → List ℕ
obstacle_by u does = obstacle_line (usual_address_text u.source.address ∷ does
    ∷ codes "packet" ∷ decimal u.packet ∷ codes "at" ∷ instant_text u.last ∷ [])

-- why what goes the way of these doesn't do without the row (own)
abbrev pub held_text : SegmentOutcome → (carries asks : Bool) → List ℕ
held_text outcome.Verified true asks = codes "still sends with it"
held_text outcome.Verified false true = codes "asks for it"
held_text outcome.Verified false false = codes "has not moved on"
held_text outcome.CutOff carries asks = codes "cut off"
held_text said carries asks = codes "not verified"

-- an address wasn't seen (own)
abbrev pub unseen_line : Address → List ℕ
unseen_line address = obstacle_line (usual_address_text address ∷ codes "not seen" ∷ [])

-- where nothing was seen that goes the other way, that (own)
abbrev pub unanswered_line : Evidence → KeyUse → List ℕ
unanswered_line e u = if list_any (goes_from u.destination u.source) e.live
    then [] else unseen_line u.destination.address

-- what stands in the way, of segments at the row (own)
abbrev pub held_line : Evidence → Table → (n : ℕ) → Row → KeyUse → List ℕ
held_line e t n r u = if not (goes_without (wants_row t n r) e.uses u)
    then obstacle_by u
    (held_text u.outcome (carries_row t n r u) (asks_for_row t r u))
    else if does_without (wants_row t n r) u.destination u.source e.uses then []
    else unanswered_line e u

-- the same, if they are at the row (own)
abbrev pub held_line_at : Evidence → Table → (n : ℕ) → Row → KeyUse → List ℕ
held_line_at e t n r u = if is_at_row t r u then held_line e t n r u else []

-- a peer of the row wasn't seen (own)
abbrev pub absent_text : Option Address → List ℕ
absent_text None = obstacle_line (codes "no peer seen" ∷ [])
absent_text (Some address) = unseen_line address

-- the peer was seen; once all at the row does without it, by what shows it (own)
abbrev pub is_peer_told : Evidence → Table → Row → (without : Bool) → Option Address → Bool
is_peer_told e t r without p = if without
    then list_any (shows_peer e.uses t r p) e.live else list_any (is_of_peer t r p) e.live

-- the same, if it wasn't (own)
abbrev pub absent_line : Evidence → Table → Row → (without : Bool) → Option Address → List ℕ
absent_line e t r without p = if is_peer_told e t r without p then [] else absent_text p

-- where the row goes, the two ends of these lack a row to send with (own)
abbrev pub lacking_line : Evidence → List Table → Table → Row → KeyUse → List ℕ
lacking_line e tables t r u = if leaves_use tables t r e.latest u then []
    else obstacle_line (codes "without it no row to send with later"
    ∷ usual_address_text u.source.address ∷ usual_address_text u.destination.address ∷ [])

-- the same of all that goes on at a row, once all of it does without the row (own)
abbrev pub lines_without : Evidence → List Table → Table → Row → (without : Bool) → List ℕ
lines_without e tables t r without =
    if without then flat_map (lacking_line e tables t r) e.live else []

-- packets were passed over that may be segments (own)
abbrev pub doubt_line : Bool → List ℕ
doubt_line doubt =
    if doubt then obstacle_line (codes "packets passed over that may be segments" ∷ []) else []

-- all that stands in the way of a row (own)
abbrev pub obstacle_lines : Evidence → List Table → Table → (n : ℕ) → Row → List ℕ
obstacle_lines e tables t n r =
    flat_map (held_line_at e t n r) e.live
    ++ (flat_map (absent_line e t r (all_without e t n r)) r.peers
    ++ (lines_without e tables t r (all_without e t n r) ++ doubt_line e.doubt))

-- ---- a row

-- the name of a node, and what the document calls its row of this number (own)
abbrev pub called_row : Members → Table → (n : ℕ) → List ℕ
called_row document t n = t.name ++ admin_text (admin_name document t.name n)

-- the line of the row of this number of a node (own)
abbrev pub key_line : KeyFile → Evidence → Table → (n : ℕ) → Row → List ℕ
key_line keys e t n r =
    line_text (codes "key" ∷ decimal n ∷ codes "of" ∷ called_row keys.document t n
    ∷ codes "send-id" ∷ decimal r.send_id ∷ codes "recv-id" ∷ decimal r.recv_id
    ∷ last_texts (last_of (carries_row t n r) e.uses)
    (asking_texts (find (asks_still e t n r) e.live)
    (may_go_text (may_go e keys.tables t n r) ∷ seen_peers_text (peers_told e t r))))
    ++ obstacle_lines e keys.tables t n r

-- the lines of rows of a node, the first one having number n (own)
abbrev pub key_lines : KeyFile → Evidence → Table → (n : ℕ) → List Row → List ℕ
key_lines keys e t n [] = []
key_lines keys e t n (r ∷ rs) = key_line keys e t n r ++ key_lines keys e t (suc n) rs

-- the lines of the rows of all nodes (own)
abbrev pub keys_lines : KeyFile → Evidence → List ℕ
keys_lines keys e = flat_map (λ t. key_lines keys e t 1 t.rows) keys.tables
