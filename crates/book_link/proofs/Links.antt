-- The links of worked reports, and texts in lines.
use Rattle.std.proofs.Common.{ℕ, true, List, [], ◌∷◌, ◌++◌, replicate, None}
use Rattle.book_base.specs.declared.address.Address.TheVariants.{V4}
use Rattle.book_base.specs.declared.algorithm.Algorithm.{Algorithm}
use Rattle.book_base.specs.declared.algorithm.Algorithm.TheVariants.{HmacSha1}
use Rattle.book_keys.specs.declared.direction.Direction.TheVariants.{Both}
use Rattle.book_keys.specs.Rows.{Row}
use Rattle.book_keys.specs.Shared.{shared_row}
use Rattle.book_keys.specs.declared.new_row.NewRow.{NewRow}
use Rattle.book_link.specs.Worlds.{Setup}

abbrev pub row_of : ℕ → List ℕ → Algorithm → ℕ → ℕ → ℕ → ℕ → Row
row_of id master algorithm first last accept_first accept_last = record {
  recv_id = id;
  send_id = id;
  peers = None ∷ [];
  local_port = None;
  peer_port = None;
  algorithm = algorithm;
  master = master;
  with_options = true;
  direction = Both;
  sending = record { first = first; last = last };
  accepting = record { first = accept_first; last = accept_last };
}

abbrev pub latest_time : ℕ
latest_time = 253402300799

abbrev pub setup_of : List Row → Setup
setup_of rows =
    record { a = record { address = V4 (10 ∷ 0 ∷ 0 ∷ 1 ∷ []); port = 1000 }; b = record { address = V4 (10 ∷ 0 ∷ 0 ∷ 2 ∷ []); port = 2000 }; a_rows = rows; b_rows = rows }

abbrev pub shared_link : Setup
shared_link = setup_of (shared_row HmacSha1 (replicate 20 11) ∷ [])

abbrev pub one_key : Setup
one_key = setup_of (row_of 1 (replicate 20 11) HmacSha1 0 3600 0 3660 ∷ [])

abbrev pub two_keys : Setup
two_keys = setup_of (row_of 1 (replicate 20 11) HmacSha1 0 7200 0 10800 ∷ row_of 2 (replicate 20 12) HmacSha1 3600 latest_time 3000 latest_time ∷ [])

abbrev pub later_row : NewRow
later_row = record {
  recv_id = 2;
  send_id = 2;
  algorithm = HmacSha1;
  master = replicate 20 12;
  with_options = true;
  direction = Both;
  sending = record { first = 3600; last = latest_time };
  accepting = record { first = 3600; last = latest_time };
}

abbrev pub lines : List (List ℕ) → List ℕ
lines [] = []
lines (l ∷ ls) = l ++ 10 ∷ lines ls
