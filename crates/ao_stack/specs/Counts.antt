-- What happens to the counters of a node and the tally of a connection (own).
use Rattle.book_stack.specs.declared.counters.Counters.{Counters}
use Rattle.book_stack.specs.declared.tally.Tally.{Tally}
use Rattle.book_stack.specs.Counters.{arrival_counted, sending_counted, tallied}
use Rattle.book_stack.specs.KeyIds.{key_ids_heard, key_ids_sent}
use Rattle.ao_stack.specs.Turns.{act_of}
use Rattle.ao_stack.specs.declared.counts.Happened.{Happened}
use Rattle.ao_stack.specs.declared.counts.Happened.TheVariants as happened

-- the counters of the node once this happened at a connection (own)
abbrev pub counted_by : Happened → Counters → Counters
counted_by (happened.Heard moved answer ids) k = arrival_counted answer k
counted_by (happened.Sent kind ids) k = sending_counted (act_of kind) k
counted_by (happened.Become other) k = k

-- the tally of a connection once this happened at it (own)
abbrev pub changed_by : Happened → Tally → Tally
changed_by (happened.Heard moved answer ids) t =
    tallied (arrival_counted answer) (key_ids_heard moved answer ids) t
changed_by (happened.Sent kind ids) t =
    tallied (sending_counted (act_of kind)) (key_ids_sent ids) t
changed_by (happened.Become other) t = other
