-- What is written of a row that isn't met at the other end: its line, and how long a row there
-- accepts what it sends. Its tops are `unmet_line` and `lifetime_lines`.
use Rattle.std.specs.Prelude.{ℕ, ◌+◌, ◌-◌, min, nat_lt, Bool, true, false, List, [], ◌∷◌}
use Rattle.std.specs.Prelude.{◌++◌, codes, decimal, Option, Some, None}
use Rattle.book_base.specs.declared.address.Pair.{Pair}
use Rattle.book_base.specs.declared.end.End.{End}
use Rattle.book_base.specs.declared.end.End.TheVariants.{A, B}
use Rattle.book_keys.specs.declared.lifetime.Lifetime.{Lifetime}
use Rattle.book_keys.specs.Plans.{mirrored}
use Rattle.book_keys.specs.Rows.{Row, Table}
use Rattle.book_plans.specs.declared.differences.Differences.{Differences}
use Rattle.book_plans.specs.Differences.{differences}
use Rattle.book_plans.specs.Findings.{wanted_accepting}
use Rattle.book_keys.specs.declared.plan.Plan.{Plan}
use Rattle.book_scope_texts.specs.FieldTexts.{text_shown}
use Rattle.book_scope_texts.specs.Instants.{instant_text}
use Rattle.book_scope_plan.specs.AdminNames.{admin_name}
use Rattle.toml.specs.Data.{Members}

-- a connection as one of its ends sees it: the document that the key file is, the table of its
-- node, that of the other end's, the pair, and what is asked of the plan (own)
pub record Facing : Type 0 where
  pub document : Members
  pub node : Table
  pub other : Table
  pub pair : Pair
  pub plan : Plan

-- a connection as this end sees it, which is given as end a does (own)
abbrev pub facing_at : End → Facing → Facing
facing_at A f = f
facing_at B f = record {
  document = f.document;
  node = f.other;
  other = f.node;
  pair = mirrored f.pair;
  plan = f.plan;
}

-- one for what holds, and none for what doesn't (own)
abbrev pub one_if : Bool → ℕ
one_if true = 1
one_if false = 0

-- in how many columns rows differ (own)
abbrev pub difference_count : Differences → ℕ
difference_count d =
    one_if d.connection + (one_if d.direction + (one_if d.key_id + (one_if d.master
    + (one_if d.algorithm + one_if d.options))))

-- the fewest columns in which one of the other end's rows differs, where others differ in so many
-- (own)
abbrev pub fewest : Pair → Row → (so_far : ℕ) → List Row → ℕ
fewest pair r so_far [] = so_far
fewest pair r so_far (o ∷ os) =
    fewest pair r (min so_far (difference_count (differences pair r o))) os

-- a text, where it is to be written (own)
abbrev pub text_if : Bool → List ℕ → List ℕ
text_if true text = text
text_if false text = []

-- the AdminKeyName of a row as it is shown (RFC 7210, section 2, and own)
unfoldable pub admin_text : Option (List ℕ) → List ℕ
admin_text None = []
admin_text (Some text) = codes " (" ++ (text_shown text ++ codes ")")

-- the name of a node, the number of a row, and what the document calls it (own)
unfoldable pub row_name : Members → (name : List ℕ) → ℕ → List ℕ
row_name document name n =
    name ++ (codes " row " ++ (decimal n ++ admin_text (admin_name document name n)))

-- that a row is taken, but not for long enough (own)
unfoldable pub short_words : List ℕ
short_words = codes " takes it for long enough\n"

-- a row of a node accepts (own)
unfoldable pub accepting_row : (name : List ℕ) → ℕ → List ℕ
accepting_row name n = codes "    " ++ (name ++ (codes " accepts its row " ++ decimal n))

-- from when, or until when, a row of a node accepts (own)
unfoldable pub accepts_text : (name : List ℕ) → ℕ → (word : List ℕ) → (time : ℕ) → List ℕ
accepts_text name n word time =
    accepting_row name n ++ (word ++ instant_text time)

-- from when, or until when, a node may send (own)
unfoldable pub sends_text : (name word : List ℕ) → ℕ → List ℕ
sends_text name word time =
    codes ", " ++ (name ++ (codes " may send" ++ (word ++ (instant_text time ++ codes ": "))))

-- how many seconds are left, and how many are wanted (own)
unfoldable pub wanted_text : (left : ℕ) → (word : List ℕ) → (wanted : ℕ) → List ℕ
wanted_text left word wanted = decimal left ++ (word ++ (decimal wanted ++ codes " wanted\n"))

-- when a row of the other end is to accept what a row sends (own)
abbrev pub planned_accepting : Plan → Row → Lifetime
planned_accepting plan r = wanted_accepting plan.lead plan.lag r

-- the line of a row of the other end, of this number, that begins to accept too late (own)
unfoldable pub early_line : Facing → ℕ → (sending other : Row) → List ℕ
early_line f n r o =
    accepts_text f.other.name n (codes " from ") o.accepting.first
    ++ (sends_text f.node.name (codes " from ") r.sending.first
    ++ wanted_text (r.sending.first - o.accepting.first) (codes " s before, ") f.plan.lead)

-- the line of a row of the other end, of this number, that ends to accept too early (own)
unfoldable pub late_line : Facing → ℕ → (sending other : Row) → List ℕ
late_line f n r o =
    accepts_text f.other.name n (codes " until ") o.accepting.last
    ++ (sends_text f.node.name (codes " until ") r.sending.last
    ++ wanted_text (o.accepting.last - r.sending.last) (codes " s after, ") f.plan.lag)

-- what a row of the other end that accepts what a row sends lacks of the lifetime that is wanted
-- (RFC 7210, section 2, and own)
unfoldable pub lifetime_lines : Facing → ℕ → (sending other : Row) → List ℕ
lifetime_lines f n r o =
    text_if (nat_lt (planned_accepting f.plan r).first o.accepting.first) (early_line f n r o)
    ++ text_if (nat_lt o.accepting.last (planned_accepting f.plan r).last) (late_line f n r o)

-- with which id a row sends (RFC 5925, section 3.1)
unfoldable pub sent_id_text : Row → List ℕ
sent_id_text r = codes " (sends KeyID " ++ (decimal r.send_id ++ codes "): no row of ")

-- the line of a row, of this number, that isn't met at the other end (own)
unfoldable pub unmet_line : Facing → ℕ → Row → (words : List ℕ) → List ℕ
unmet_line f n r words =
    codes "  WRONG "
    ++ (row_name f.document f.node.name n ++ (sent_id_text r ++ (f.other.name ++ words)))

-- the seconds from one to another, both included; 2^64 - 1 of them stand for more (own)
abbrev pub seconds_between : (first last : ℕ) → ℕ
seconds_between first last = min 18446744073709551615 (last + 1 - first)

-- a time and a later one (own)
unfoldable pub times_text : (first last : ℕ) → List ℕ
times_text first last = instant_text first ++ (codes " to " ++ instant_text last)

-- how many seconds they are (own)
unfoldable pub seconds_text : (first last : ℕ) → List ℕ
seconds_text first last = codes ", " ++ (decimal (seconds_between first last) ++ codes " s\n")
