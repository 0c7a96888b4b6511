-- What is written of the planned rollover of each connection of an input. Our own format. Its tops
-- are `plans_text` and `has_wrong_plan`.
use Rattle.std.specs.Prelude.{◌≡◌, ◌⊎◌, ℕ, not, ◌&&◌, Bool, true, false, List, [], ◌∷◌, ◌++◌, codes}
use Rattle.std.specs.Prelude.{decimal, flat_map, Option, Some, None, is_some}
use Rattle.std.specs.List.{list_any, find}
use Rattle.book_base.specs.declared.address.Address.{Address}
use Rattle.book_base.specs.declared.address.Pair.{Pair}
use Rattle.book_base.specs.declared.address.Socket.{Socket}
use Rattle.book_keys.specs.declared.plan.Plan.{Plan}
use Rattle.book_keys.specs.Choices.{send_row}
use Rattle.book_keys.specs.Lookups.{number_of}
use Rattle.book_keys.specs.Rows.{Row, Table, has_address}
use Rattle.book_lines.specs.Said.{Said}
use Rattle.book_plans.specs.declared.finding.Finding.{Finding}
use Rattle.book_plans.specs.declared.turn.Role.{Role}
use Rattle.book_plans.specs.declared.turn.Role.TheVariants.{SentWith}
use Rattle.book_plans.specs.declared.turn.Turn.{Turn}
use Rattle.book_plans.specs.declared.margin.Margin.{Margin}
use Rattle.book_plans.specs.declared.margin.Margin.TheVariants.{UpTo, Any}
use Rattle.book_plans.specs.Calendar.{calendar_of}
use Rattle.book_plans.specs.Findings.{findings_of}
use Rattle.book_plans.specs.Margins.{lead_margin_of, lag_margin_of}
use Rattle.book_scope_texts.specs.Addresses.{usual_address_text}
use Rattle.book_scope_plan.specs.AdminNames.{KeyFile}
use Rattle.book_scope_plan.specs.CalendarTexts.{calendar_text}
use Rattle.book_scope_plan.specs.FindingTexts.{Facing, text_if, times_text}
use Rattle.book_scope_plan.specs.Notes.{notes_text}
use Rattle.book_scope_plan.specs.Reconfiguring.{reconfiguring_text}
use Rattle.book_scope_plan.specs.WayTexts.{finding_text}

-- an address and a port (own)
unfoldable pub usual_socket_text : Socket → List ℕ
usual_socket_text s = usual_address_text s.address ++ (32 ∷ decimal s.port)

-- the words that name a connection (own)
unfoldable pub pair_words : Pair → List ℕ
pair_words pair =
    codes "connection " ++ (usual_socket_text pair.local
    ++ (32 ∷ usual_socket_text pair.remote))

-- the line that names a connection (own)
abbrev pub connection_line : Pair → List ℕ
connection_line pair = pair_words pair ++ 10 ∷ []

-- how many seconds the plan leaves: up to a greatest number, any, or none (own)
unfoldable pub margin_text : (name : List ℕ) → Option Margin → List ℕ
margin_text name None = codes "no " ++ name
margin_text name (Some Any) = codes "any " ++ name
margin_text name (Some (UpTo most)) = name ++ (codes " to " ++ decimal most)

-- the line of a plan of which all holds, with the leads and the lags for which it does (own)
unfoldable pub aligned_line : (lead lag : Option Margin) → List ℕ
aligned_line lead lag =
    codes "  aligned; the plan holds for " ++ (margin_text (codes "LEAD") lead
    ++ (codes " and " ++ (margin_text (codes "LAG") lag ++ 10 ∷ [])))

-- what is said of all findings on a connection, as end a sees it, or that there is none (own)
abbrev pub findings_text : Facing → List Table → List Finding → List ℕ
findings_text ends tables [] =
    aligned_line (lead_margin_of tables ends.pair ends.plan.lag)
    (lag_margin_of tables ends.pair ends.plan.lead)
findings_text ends tables (f ∷ fs) =
    flat_map (finding_text ends) (f ∷ fs) ++ reconfiguring_text ends (f ∷ fs)

-- all findings on a connection (own)
abbrev pub plan_findings : List Table → Plan → Pair → List Finding
plan_findings tables plan pair = findings_of tables pair plan

-- a row is sent with from now on (own)
abbrev pub begins_sending : Turn → Bool
begins_sending t = by_role t.role t.begins
  where
    by_role : Role → Bool → Bool
    by_role SentWith begins = begins
    by_role role begins = false

-- after FROM and until TO some end of the connection begins to send with another row (RFC 7210,
-- section 3, and own)
unfoldable pub changes_key : List Table → Plan → Pair → Bool
changes_key tables plan pair =
    list_any begins_sending (calendar_of tables pair plan.from plan.to)

-- the number of the row that an end sends with at a time (RFC 7210, section 3, and own)
abbrev pub sent_at : List Row → Pair → ℕ → Option ℕ
sent_at rows pair time = number_of (send_row rows pair time)

-- of two rows that an end sends with the later one is the earlier one, or there is none (own)
abbrev pub IsNoOther : (before now : Option ℕ) → Type 0
IsNoOther before now = (now ≡ None) ⊎ (now ≡ before)

-- the line of a plan in which no end does (own)
unfoldable pub unchanged_line : Plan → List ℕ
unchanged_line plan =
    codes "  WRONG no key changes from " ++ (times_text plan.from plan.to
    ++ codes ": neither end begins to send with another row\n")

-- a connection between nodes of these tables, as end a sees it (own)
abbrev pub facing : KeyFile → (a b : Table) → Plan → Pair → Facing
facing keys a b plan pair = record {
  document = keys.document;
  node = a;
  other = b;
  pair = pair;
  plan = plan;
}

-- what is said of a connection whose ends have tables, as end a sees it (own)
abbrev pub both_text : Facing → List Table → List ℕ
both_text ends tables =
    calendar_text ends.node ends.other
    (calendar_of tables ends.pair ends.plan.from ends.plan.to)
    ++ (text_if (not (changes_key tables ends.plan ends.pair)) (unchanged_line ends.plan)
    ++ (findings_text ends tables (plan_findings tables ends.plan ends.pair) ++ notes_text ends))

-- that no node has the address (own)
unfoldable pub missing_words : Address → List ℕ
missing_words address = codes "no node of the key file has " ++ usual_address_text address

-- that no node has the address, where none has (own)
abbrev pub missing_text : Option Table → Address → List ℕ
missing_text (Some t) address = []
missing_text None address = codes "  " ++ (missing_words address ++ 10 ∷ [])

-- the node of an address (own)
abbrev pub node_with : List Table → Address → Option Table
node_with tables address = find (has_address address) tables

-- what is said of a connection by the nodes of its ends (own)
abbrev pub nodes_text : (a b : Option Table) → KeyFile → Plan → Pair → List ℕ
nodes_text (Some a) (Some b) keys plan pair = both_text (facing keys a b plan pair) keys.tables
nodes_text a b keys plan pair =
    missing_text a pair.local.address ++ missing_text b pair.remote.address

-- what is said of a connection (own)
unfoldable pub connection_text : KeyFile → Plan → Pair → List ℕ
connection_text keys plan pair =
    connection_line pair
    ++ nodes_text (node_with keys.tables pair.local.address)
    (node_with keys.tables pair.remote.address) keys plan pair

-- there are none (own)
abbrev pub has_none : List Finding → Bool
has_none [] = true
has_none (f ∷ fs) = false

-- nothing is wrong with the plan of a connection: both its ends have nodes, and there is no finding
-- (own)
unfoldable pub is_good_plan : List Table → Plan → Pair → Bool
is_good_plan tables plan pair =
    (is_some (node_with tables pair.local.address)
    && is_some (node_with tables pair.remote.address))
    && has_none (plan_findings tables plan pair)

-- so it is, and a key changes (own)
abbrev pub is_right_plan : List Table → Plan → Pair → Bool
is_right_plan tables plan pair = is_good_plan tables plan pair && changes_key tables plan pair

-- what is said of the connections, one after another (own)
unfoldable pub plans_text : KeyFile → Plan → List (Said Pair) → List ℕ
plans_text keys plan said = flat_map (λ s. connection_text keys plan s.value) said

-- something is wrong with the plan of some connection (own)
abbrev pub has_wrong_plan : List Table → Plan → List (Said Pair) → Bool
has_wrong_plan tables plan said = list_any (λ s. not (is_right_plan tables plan s.value)) said
