-- The two tables of one shared key (own): `shared_tables` is the file's top.
use Rattle.std.specs.Prelude.{ℕ, true, List, [], ◌∷◌, codes, None}
use Rattle.book_base.specs.declared.address.Address.{Address}
use Rattle.book_base.specs.declared.algorithm.Algorithm.{Algorithm}
use Rattle.book_keys.specs.declared.direction.Direction.TheVariants.{Both}
use Rattle.book_keys.specs.declared.lifetime.Lifetime.{Lifetime}
use Rattle.book_keys.specs.Lifetimes.{greatest_time}
use Rattle.book_keys.specs.Rows.{Row, Table}

-- the lifetime of all times that a key file can write (own)
abbrev pub always : Lifetime
always = record { first = 0; last = greatest_time }

-- the row of a shared key: ids 0, any peer, any port, options included, both directions, all times
-- (own)
abbrev pub shared_row : Algorithm → List ℕ → Row
shared_row algorithm master = record {
  recv_id = 0;
  send_id = 0;
  peers = None ∷ [];
  local_port = None;
  peer_port = None;
  algorithm = algorithm;
  master = master;
  with_options = true;
  direction = Both;
  sending = always;
  accepting = always;
}

-- the tables of the nodes `a` and `b`, each with the row of one shared key (own)
abbrev pub shared_tables : (a b : Address) → Algorithm → List ℕ → List Table
shared_tables a b algorithm master =
    record { name = codes "a"; address = a; rows = shared_row algorithm master ∷ [] }
    ∷ record { name = codes "b"; address = b; rows = shared_row algorithm master ∷ [] }
    ∷ []
