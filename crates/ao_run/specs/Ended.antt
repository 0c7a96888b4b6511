-- What a call for a command has read and written before its text is told (own).
use Rattle.std.specs.Prelude.{ℕ, List, Option, Some, Result, Ok, Err}
use Rattle.ao_base.specs.Outside.{Side}
use Rattle.book_keys.specs.Rows.{Table}
use Rattle.book_answer.specs.declared.command.Command.{Command}
use Rattle.ao_run.specs.declared.stop.Stop.{Stop}
use Rattle.ao_run.specs.Gathered.{KeysGathered, Sources}
use Rattle.ao_run.specs.Obeys.{ObeysAs, Offers, Sides}
use Rattle.ao_run.specs.Stops.{status_of, text_of}

-- these sources, the output and standard error (own)
abbrev pub with_ends : Sources → Side → Side → Sides
with_ends sources out err = record {
  keys = sources.keys;
  input = sources.input;
  out = out;
  err = err;
}

-- it ended with a status, and standard error is left alone; or with a stop, whose text is to be
-- offered to standard error (own)
abbrev pub Ended : Option Command → (keys input : List ℕ) → (before now : Sources) →
    (out_before out_now : Side) → Result ℕ Stop → Type 0
Ended command keys input before now out_before out_now (Ok status) =
    (err : Side)
    → ObeysAs command keys input (with_ends before out_before err) (with_ends now out_now err)
    status
Ended command keys input before now out_before out_now (Err stop) =
    (err_before err_now : Side) → Offers (text_of stop) err_before err_now
    → ObeysAs command keys input (with_ends before out_before err_before)
    (with_ends now out_now err_now) (status_of stop)

-- behind a key file that gave a command its tables, whatever it gave, the command so ended (own)
pub record EndedBehind (c : Command) (tables : Option (List Table)) (input : List ℕ)
    (before now out_before out_now : Side) (result : Result ℕ Stop) : Type 0 where
  pub behind : (keys : List ℕ) (keys_before keys_now : Side) →
      KeysGathered c keys keys_before keys_now (Ok tables) →
      Ended (Some c) keys input (record { keys = keys_before; input = before })
      (record { keys = keys_now; input = now }) out_before out_now result
