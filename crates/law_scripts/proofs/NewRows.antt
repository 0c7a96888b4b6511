-- A row that a link file says is one that a table's calls take.
use Rattle.book_keys.specs.declared.new_row.NewRow.{NewRow}
use Rattle.book_keys.specs.Tables.{IsNewRow}
use Rattle.law_scripts.specs.Scripts.{IsRow}

pub new_row : (r : NewRow) → IsRow r → IsNewRow r
new_row r h = record {
  master = (h.master.least, h.master.most);
  sending = h.sending.last.least;
  sent = h.sending.last.most;
  accepting = h.accepting.last.least;
  accepted = h.accepting.last.most;
}
