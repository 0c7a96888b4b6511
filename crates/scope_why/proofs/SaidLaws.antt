-- What decided what is said of a segment, as the definitions have it.
use Rattle.std.proofs.Common.{◌≡◌, ℕ, Bool, true, false, List, ◌∷◌, ◌++◌, Option, Some, None, Result, Ok, Err, OnOk, refl, sym, ap, ◌∙◌}
use Rattle.std.specs.Prelude.{codes, decimal, option_map, if◌then◌else◌}
use Rattle.std.specs.List.{find}
use Rattle.toml.specs.Data.{Members}
use Rattle.toml.specs.View.{table_view}
use Rattle.book_cmd_check.specs.declared.checksum.Checksum.{Checksum}
use Rattle.book_cmd_check.specs.declared.given.GivenIsns.{GivenIsns}
use Rattle.book_cmd_check.specs.Captures.{Connection, Heard, most_connections, Saying, Judged, TooManyConnections, Unreadable, UnknownNode, connection_between, hear_at, hear_read, is_pass, saying_texts}
use Rattle.book_endpoint.specs.declared.refusal.Refusal.{Refusal}
use Rattle.ao_check.specs.Verdicts.{Verdict}
use Rattle.book_endpoint.specs.declared.refusal.Refusal.TheVariants as refusal
use Rattle.book_endpoint.specs.Verdicts.{Judgement}
use Rattle.book_keys.specs.Choices.{Numbered}
use Rattle.book_keys.specs.Rows.{Table, has_address}
use Rattle.book_lines.specs.Texts.{line_text}
use Rattle.book_scope_plan.specs.AdminNames.{KeyFile}
use Rattle.book_segments.specs.Options.{Ao}
use Rattle.book_segments.specs.Segments.{Segment, Read, reading}
use Rattle.book_segments.specs.Sockets.{same_socket}
use Rattle.book_base.specs.declared.address.Socket.{Socket}
use Rattle.book_why.specs.declared.change.IsnPair.{IsnPair}
use Rattle.book_why.specs.Recipes.{Suspect}
use Rattle.book_why.specs.Answers.{Behind, inquiry_of, reason_lines, said_and_why, said_behind, sight_behind}
use Rattle.book_why.specs.Inquiries.{Inquiry, changes_lines, if_found, length_line, no_handshake_line, passing_values, range_line, refusal_lines, row_taking_line, values_lines, why_lines, isns_line, number_line, wrong_mac_lines}
use Rattle.book_why.specs.Lacks.{row_shown_line}
use Rattle.book_why.specs.MacTexts.{mac_lines}
use Rattle.book_why.specs.OtherIsns.{other_isns}
use Rattle.book_why.specs.Sights.{Sight, ao_at, isns_at, number_at, row_at, suspect_at}
use Rattle.capture_check.specs.declared.answer.CheckLine.{CheckLine}
use Rattle.capture_check.specs.declared.answer.CheckLine.TheVariants as line
use Rattle.capture_check.specs.declared.known.KnownConnection.{KnownConnection}
use Rattle.capture_check.specs.Answers.{IsJudged, Says}
use Rattle.capture_check.specs.Expecting.{known_numbers, numbers_of}
use Rattle.capture_check.proofs.HearLaws.{readable}
use Rattle.scope_why.specs.declared.facts.Facts.{Facts}
use Rattle.scope_why.specs.Facts.{inquiry_by, reason_by, sight_by, with_others}
use Rattle.scope_why.specs.Finding.{lines_of_said, lines_of_verdict}
use Rattle.scope_why.specs.Views.{connection_of}
use Rattle.scope_why.proofs.Parts.{on_two, on_same}

-- ---- what was answered is what is said

judged_is : (q : Inquiry) (v : Verdict) (j : Judgement) (checksum : Checksum) → IsJudged v j → lines_of_verdict q v ≡ why_lines q (Judged j checksum)
judged_is q (Ok p) j checksum judged = rw (judged.1) refl
judged_is q (Err refusal.NoAo) j checksum is = rw is refl
judged_is q (Err refusal.TwoAo) j checksum is = rw is refl
judged_is q (Err refusal.WithMd5) j checksum is = rw is refl
judged_is q (Err refusal.NoTuple) j checksum is = rw is refl
judged_is q (Err refusal.Expired) j checksum is = rw is refl
judged_is q (Err refusal.MacLength) j checksum is = rw is refl
judged_is q (Err refusal.NoContext) j checksum is = rw is refl
judged_is q (Err refusal.Range) j checksum is = rw is refl
judged_is q (Err refusal.BadMac) j checksum is = rw is refl

said_is : (q : Inquiry) (l : CheckLine) (s : Saying) → Says l s → lines_of_said q l ≡ why_lines q s
said_is q (line.Bad fault) s says = rw says refl
said_is q line.UnknownNode s says = rw says refl
said_is q (line.Verdict v checksum) s says = rw (says.1) (judged_is q v (says.0) checksum (says.2))
said_is q (line.Full checksum) s says = rw says refl

-- ---- of the connection that is held only three numbers matter

-- what an answer speaks of, where this connection is held
abbrev inquiry_at : Members → List Table → List GivenIsns → Bool → ℕ → Segment → Table → Option Connection → Inquiry
inquiry_at document tables told with_key now d t h =
    let s : Sight = record { table = t; held = h; now = now; segment = d } in
    record { sight = s; sender = find (has_address d.source.address) tables; others = other_isns d (isns_at s) told; document = document; with_key = with_key }

module _ (document : Members) (tables : List Table) (told : List GivenIsns) (with_key : Bool) (now : ℕ) (d : Segment) (t : Table) (c : Connection) where
  abbrev one : Inquiry
  one = inquiry_at document tables told with_key now d t (Some (connection_of d (numbers_of c)))

  abbrev two : Inquiry
  two = inquiry_at document tables told with_key now d t (Some c)

  rows : row_at one.sight ≡ row_at two.sight
  unfolding row_at
  rows = refl

  suspects : suspect_at one.sight ≡ suspect_at two.sight
  unfolding suspect_at row_at
  suspects = refl

  taking : row_taking_line one ≡ row_taking_line two
  taking = ap (if_found (row_shown_line document t)) rows

  values : values_lines one ≡ values_lines two
  values = ap (λ (x : List ℕ). isns_line (isns_at two.sight) ++ (number_line two.sight ++ x)) taking

  passing : passing_values one ≡ passing_values two
  passing =
      ap (λ (x : List ℕ). x ++ if_found (mac_lines with_key) (suspect_at one.sight)) values
      ∙ ap (λ (r : Result Suspect Refusal). values_lines two ++ if_found (mac_lines with_key) r) suspects

  changes : if_found (changes_lines one) (suspect_at one.sight) ≡ if_found (changes_lines two) (suspect_at two.sight)
  changes = ap (if_found (changes_lines two)) suspects

  wrong_length : refusal_lines one refusal.MacLength ≡ refusal_lines two refusal.MacLength
  wrong_length =
      ap (λ (r : Result Numbered Refusal). if_found (row_shown_line document t) r
      ++ (if_found (λ (ao : Ao). if_found (length_line ao) r) (ao_at two.sight) ++ if_found (changes_lines one) (suspect_at one.sight))) rows
      ∙ ap (λ (x : List ℕ). row_taking_line two ++ (if_found (λ (ao : Ao). if_found (length_line ao) (row_at two.sight)) (ao_at two.sight) ++ x)) changes

  wrong_mac : refusal_lines one refusal.BadMac ≡ refusal_lines two refusal.BadMac
  wrong_mac =
      ap (λ (x : List ℕ). x ++ if_found (wrong_mac_lines one) (suspect_at one.sight)) values
      ∙ ap (λ (r : Result Suspect Refusal). values_lines two ++ if_found (wrong_mac_lines two) r) suspects

  refused : (v : Refusal) → refusal_lines one v ≡ refusal_lines two v
  refused refusal.NoAo = refl
  refused refusal.TwoAo = refl
  refused refusal.WithMd5 = refl
  refused refusal.NoTuple = refl
  refused refusal.Expired = refl
  refused refusal.MacLength = wrong_length
  refused refusal.NoContext = ap (λ (x : List ℕ). x ++ no_handshake_line) taking
  refused refusal.Range = ap (λ (x : List ℕ). x ++ range_line (number_at two.sight)) values
  refused refusal.BadMac = wrong_mac

  same_known : (s : Saying) → why_lines one s ≡ why_lines two s
  same_known (Unreadable fault) = refl
  same_known UnknownNode = refl
  same_known (Judged (Ok p) checksum) = passing
  same_known (Judged (Err why) checksum) = refused why
  same_known (TooManyConnections checksum) = ap (λ (x : List ℕ). codes "connections held " ++ (decimal most_connections ++ (10 ∷ x))) passing

same_held : (document : Members) (tables : List Table) (told : List GivenIsns) (with_key : Bool) (now : ℕ) (d : Segment) (t : Table) (h : Option Connection) (s : Saying)
    → why_lines (inquiry_at document tables told with_key now d t (option_map (connection_of d) (option_map numbers_of h))) s ≡ why_lines (inquiry_at document tables told with_key now d t h) s
same_held document tables told with_key now d t None s = refl
same_held document tables told with_key now d t (Some c) s = same_known document tables told with_key now d t c s

unknown_if : (b : Bool) (x y : Heard) → b ≡ true → x.saying ≡ UnknownNode → (if b then x else y).saying ≡ UnknownNode
unknown_if true x y e is = is
unknown_if false x y e is = absurd (cc)

unknown_of : (o : Option Table) (t : Table) (held : List Connection) (now : ℕ) (d : Segment) → o ≡ Some t → same_socket d.source d.destination ≡ true → (hear_at o held now d).saying ≡ UnknownNode
unknown_of None t held now d here same = absurd (cc)
unknown_of (Some u) t held now d here same = unknown_if (same_socket d.source d.destination) (record { connections = held; saying = UnknownNode }) _ same refl

module _ (f : Facts) (tables : List Table) (b : Behind) (l : CheckLine) (told_is : f.told.now ≡ b.told)
    (known_is : same_socket f.datagram.now.source f.datagram.now.destination ≡ false → f.known ≡ known_numbers f.datagram.now.source f.datagram.now.destination b.held)
    (says : Says l (hear_read tables b.held f.time (Read f.datagram.now)).saying) where
  abbrev d : Segment
  d = f.datagram.now

  abbrev keys : KeyFile
  keys = record { document = table_view f.document.now; tables = tables }

  abbrev said : Saying
  said = (hear_read tables b.held f.time (Read d)).saying

  abbrev asked : Table → Inquiry
  asked t = inquiry_of keys b f.with_key (sight_behind b f.time d t)

  differing : (t : Table) (k : Option KnownConnection) (told : List GivenIsns) → told ≡ b.told → k ≡ option_map numbers_of (connection_between d b.held)
      → why_lines (inquiry_at (table_view f.document.now) tables told f.with_key f.time d t (option_map (connection_of d) k)) said ≡ why_lines (asked t) said
  differing t k told is e = rw (e, is) (same_held (table_view f.document.now) tables b.told f.with_key f.time d t (connection_between d b.held) said)

  -- both sockets are one
  unknown : (t : Table) → find (has_address d.destination.address) tables ≡ Some t → same_socket d.source d.destination ≡ true → said ≡ UnknownNode
  unknown t here same = unknown_of (find (has_address d.destination.address) tables) t b.held f.time d here same

  at_table : (t : Table) (same : Bool) → same_socket d.source d.destination ≡ same → find (has_address d.destination.address) tables ≡ Some t
      → lines_of_said (inquiry_by f tables t) l ≡ why_lines (asked t) said
  at_table t true one here =
      let u = unknown t here one in
      said_is (inquiry_by f tables t) l said says ∙ (ap (why_lines (inquiry_by f tables t)) u ∙ ap (why_lines (asked t)) (sym u))
  at_table t false two here = said_is (inquiry_by f tables t) l said says ∙ differing t f.known f.told.now told_is (known_is two)

  reason : (o : Option Table) → find (has_address d.destination.address) tables ≡ o → reason_by f tables o l ≡ reason_lines o asked d said
  reason None none = refl
  reason (Some t) here = at_table t (same_socket d.source d.destination) refl here

  pub said_why : {E : Type 0} (r : Result (Unit {0}) E) (number : ℕ) (bytes before mid after : List ℕ) → reading bytes ≡ Read d → mid ≡ before ++ line_text (saying_texts said)
      → OnOk r (after ≡ mid ++ reason_by f tables (find (has_address d.destination.address) tables) l)
      → OnOk r (after ≡ before ++ said_and_why keys b f.with_key (record { number = number; time = f.time; bytes = bytes }) d)
  said_why r number bytes before mid after read first second =
      let all = ap (λ (x : List ℕ). line_text (saying_texts said) ++ x) (reason (find (has_address d.destination.address) tables) refl) in
      let is = ap (λ (h : Heard). h.saying) (readable tables b.held f.time bytes d read) in
      on_same r before _ _ after (all ∙ ap (λ (s : Saying). line_text (saying_texts s) ++ reason_lines (find (has_address d.destination.address) tables) asked d s) is)
      (on_two r before (line_text (saying_texts said)) (reason_by f tables (find (has_address d.destination.address) tables) l) mid after first second)

  pub said_passes : (bytes : List ℕ) (number : ℕ) (passes : Bool) → reading bytes ≡ Read d → passes ≡ is_pass said
      → passes ≡ is_pass (said_behind tables b (record { number = number; time = f.time; bytes = bytes }))
  said_passes bytes number passes read is = is ∙ ap (λ (h : Heard). is_pass h.saying) (readable tables b.held f.time bytes d read)

-- what an answer speaks of, its other connections found
pub asked_by : (f : Facts) (tables : List Table) (t : Table) (first last : Inquiry) (own : Option IsnPair) (none others : List IsnPair) → first ≡ with_others none (inquiry_by f tables t) → own ≡ isns_at first.sight
    → others ≡ other_isns f.datagram.now own f.told.now → last ≡ with_others others (inquiry_by f tables t) → last ≡ inquiry_by f tables t
asked_by f tables t first last own none others z o w e =
    let own_is : own ≡ isns_at (sight_by f t) = o ∙ ap (λ (q : Inquiry). isns_at q.sight) z in
    e ∙ ap (λ (x : List IsnPair). with_others x (inquiry_by f tables t)) (w ∙ ap (λ (x : Option IsnPair). other_isns f.datagram.now x f.told.now) own_is)

-- the same numbers between sockets that are the same
pub known_between : (k : Option KnownConnection) (held : List Connection) (s t a b : Socket) → s ≡ a → t ≡ b → (same_socket s t ≡ false → k ≡ known_numbers s t held) → same_socket a b ≡ false → k ≡ known_numbers a b held
known_between k held s t a b p q h = rw (p, q) at h
