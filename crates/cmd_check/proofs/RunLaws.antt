-- The stored segments of lines, and what is written of them, with one more behind.
use Rattle.std.proofs.Common.{◌≡◌, ℕ, ◌+◌, ◌≤◌, Bool, true, false, not, ◌||◌, List, [], ◌∷◌, ◌++◌, length, Option, Some, None, Result, Ok, Err, refl, sym, ap, ◌∙◌, append_assoc, arith}
use Rattle.std.proofs.lemmas.List.{append-nil, length-append}
use Rattle.std.proofs.lemmas.List.Folds.{list_any-append}
use Rattle.std.specs.List.{list_any}
use Rattle.book_lines.specs.declared.line_kind.LineKind.{LineKind}
use Rattle.book_base.specs.Lines.{lines_of}
use Rattle.book_keys.specs.Rows.{Table}
use Rattle.book_lines.specs.Texts.{numbered_text}
use Rattle.book_cmd_check.specs.Captures.{Connection, Saying, Stored, capture_run, has_refusal, hear, is_pass, lines_of_sayings, saying_texts, sayings_from}
use Rattle.book_cmd_check.specs.StoredLines.{StoredInput, with_stored, by_line, stored_from, stored_input, stored_line}
use Rattle.cmd_check.specs.CheckedLines.{segments_of}
use Rattle.cmd_check.specs.Judges.{held_after, line_after}

-- what is said of a segment behind these
abbrev pub saying_after : List Table → List Connection → List Stored → Stored → Saying
saying_after tables held stored s = (hear tables (held_after tables held stored) s.time s.bytes).saying

pub held_more : (tables : List Table) (held : List Connection) (stored : List Stored) (s : Stored) →
    held_after tables held (stored ++ s ∷ []) ≡ (hear tables (held_after tables held stored) s.time s.bytes).connections
held_more tables held [] s = refl
held_more tables held (x ∷ stored) s = held_more tables (hear tables held x.time x.bytes).connections stored s

sayings_more : (tables : List Table) (held : List Connection) (stored : List Stored) (s : Stored) →
    sayings_from tables held (stored ++ s ∷ []) ≡ sayings_from tables held stored ++ saying_after tables held stored s ∷ []
sayings_more tables held [] s = refl
sayings_more tables held (x ∷ stored) s =
    ap (λ (ws : List Saying). (hear tables held x.time x.bytes).saying ∷ ws) (sayings_more tables (hear tables held x.time x.bytes).connections stored s)

texts_more : (tables : List Table) (held : List Connection) (stored : List Stored) (s : Stored) →
    lines_of_sayings (stored ++ s ∷ []) (sayings_from tables held (stored ++ s ∷ []))
    ≡ lines_of_sayings stored (sayings_from tables held stored) ++ numbered_text s.number (saying_texts (saying_after tables held stored s))
texts_more tables held [] s = append-nil (numbered_text s.number (saying_texts (hear tables held s.time s.bytes).saying))
texts_more tables held (x ∷ stored) s =
    ap (λ (ys : List ℕ). numbered_text x.number (saying_texts (hear tables held x.time x.bytes).saying) ++ ys) (texts_more tables (hear tables held x.time x.bytes).connections stored s)
    ∙ sym (append_assoc (numbered_text x.number (saying_texts (hear tables held x.time x.bytes).saying)) (lines_of_sayings stored (sayings_from tables (hear tables held x.time x.bytes).connections stored))
    (numbered_text s.number (saying_texts (saying_after tables (hear tables held x.time x.bytes).connections stored s))))

pub run_none : (tables : List Table) → capture_run tables [] ≡ []
unfolding capture_run
run_none tables = refl

pub run_more : (tables : List Table) (stored : List Stored) (s : Stored) → capture_run tables (stored ++ s ∷ []) ≡ capture_run tables stored ++ line_after tables stored s
unfolding capture_run
run_more tables stored s = texts_more tables [] stored s

or_false : (b : Bool) → (b || false) ≡ b
or_false true = refl
or_false false = refl

pub refusal_more : (tables : List Table) (stored : List Stored) (s : Stored) →
    has_refusal tables (stored ++ s ∷ []) ≡ (has_refusal tables stored || not (is_pass (saying_after tables [] stored s)))
refusal_more tables stored s =
    ap (λ (ws : List Saying). list_any (λ w. not (is_pass w)) ws) (sayings_more tables [] stored s)
    ∙ (list_any-append (λ w. not (is_pass w)) (sayings_from tables [] stored) (saying_after tables [] stored s ∷ [])
    ∙ ap (λ (b : Bool). has_refusal tables stored || b) (or_false (not (is_pass (saying_after tables [] stored s)))))

append_case : (n : ℕ) (v : Result (Option Stored) LineKind) (front behind whole : StoredInput) → (by_line n v front).fault ≡ None →
    (front.fault ≡ None → whole ≡ record { stored = front.stored ++ behind.stored; fault = behind.fault }) →
    by_line n v whole ≡ record { stored = (by_line n v front).stored ++ behind.stored; fault = behind.fault }
append_case n (Err kind) front behind whole none more = absurd (cc)
append_case n (Ok None) front behind whole none more = more none
append_case n (Ok (Some s)) front behind whole none more = ap (λ (i : StoredInput). with_stored (Some s) i) (more none)

-- lines behind lines of which none is faulty
pub stored_append : (n m : ℕ) (lines others : List (List ℕ)) → m ≡ n + length lines → (stored_from n lines).fault ≡ None →
    stored_from n (lines ++ others) ≡ record { stored = (stored_from n lines).stored ++ (stored_from m others).stored; fault = (stored_from m others).fault }
stored_append n m [] others at none = let same : m ≡ n = omega arith in rw same refl
stored_append n m (line ∷ lines) others at none =
    append_case n (stored_line n line) (stored_from (n + 1) lines) (stored_from m others) (stored_from (n + 1) (lines ++ others)) none
    (λ still. stored_append (n + 1) m lines others (omega arith) still)

-- the segment of a line, if it has one
abbrev pub listed : Option Stored → List Stored
listed None = []
listed (Some s) = s ∷ []

pub record Added (lines : List (List ℕ)) (line : List ℕ) (s : Option Stored) : Type 0 where
  pub faultless : (stored_from 1 (lines ++ line ∷ [])).fault ≡ None
  pub segments : segments_of (lines ++ line ∷ []) ≡ segments_of lines ++ listed s

alone : (n : ℕ) (line : List ℕ) (s : Option Stored) → stored_line n line ≡ Ok s → stored_from n (line ∷ []) ≡ record { stored = listed s; fault = None }
alone n line None is = rw is refl
alone n line (Some s) is = rw is refl

-- one more line that isn't faulty
pub line_added : (n : ℕ) (lines : List (List ℕ)) (line : List ℕ) (s : Option Stored) → n ≡ length lines + 1 → stored_line n line ≡ Ok s → (stored_from 1 lines).fault ≡ None → Added lines line s
line_added n lines line s at is none =
    let more = stored_append 1 n lines (line ∷ []) (omega arith) none in
    let one = alone n line s is in
    record {
      faultless = ap (λ (i : StoredInput). i.fault) more ∙ ap (λ (i : StoredInput). i.fault) one;
      segments = ap (λ (i : StoredInput). i.stored) more ∙ ap (λ (i : StoredInput). segments_of lines ++ i.stored) one;
    }

refused : (n : ℕ) (line : List ℕ) (others : List (List ℕ)) (kind : LineKind) → stored_line n line ≡ Err kind →
    stored_from n (line ∷ others) ≡ record { stored = []; fault = Some (record { number = n; kind = kind }) }
refused n line others kind is = rw is refl

-- a faulty line, whatever lines stand behind it
pub line_refused : (n : ℕ) (lines others : List (List ℕ)) (line : List ℕ) (kind : LineKind) → n ≡ length lines + 1 → stored_line n line ≡ Err kind → (stored_from 1 lines).fault ≡ None →
    stored_from 1 (lines ++ line ∷ others) ≡ record { stored = segments_of lines; fault = Some (record { number = n; kind = kind }) }
line_refused n lines others line kind at is none =
    let more = stored_append 1 n lines (line ∷ others) (omega arith) none in
    let one = refused n line others kind is in
    more ∙ (ap (λ (i : StoredInput). record { stored = segments_of lines ++ i.stored; fault = i.fault }) one
    ∙ ap (λ (xs : List Stored). record { stored = xs; fault = Some (record { number = n; kind = kind }) }) (append-nil (segments_of lines)))

-- the input of a text with these lines
pub input_is : (text : List ℕ) (lines : List (List ℕ)) → lines_of text ≡ lines → stored_input text ≡ stored_from 1 lines
unfolding stored_input
input_is text lines is = ap (λ (ls : List (List ℕ)). stored_from 1 ls) is

-- more segments write no less
pub run_longer : (tables : List Table) (stored others : List Stored) → length (capture_run tables stored) ≤ length (capture_run tables (stored ++ others))
run_longer tables stored [] = let same : stored ++ [] ≡ stored = append-nil stored in rw same (omega arith)
run_longer tables stored (s ∷ others) =
    let one : length (capture_run tables (stored ++ s ∷ [])) ≡ length (capture_run tables stored) + length (line_after tables stored s) =
    ap length (run_more tables stored s) ∙ length-append (capture_run tables stored) (line_after tables stored s) in
    let more = run_longer tables (stored ++ s ∷ []) others in
    let same : (stored ++ s ∷ []) ++ others ≡ stored ++ s ∷ others = append_assoc stored (s ∷ []) others in
    let all : length (capture_run tables ((stored ++ s ∷ []) ++ others)) ≡ length (capture_run tables (stored ++ s ∷ others)) = ap (λ (xs : List Stored). length (capture_run tables xs)) same in
    omega arith
