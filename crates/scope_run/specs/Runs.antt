-- The contract of the top call. Its top is `Runs` (own).
use Rattle.std.specs.Prelude.{◌≡◌, ◌⊎◌, ℕ, Bool, List, Result, Ok, Err}
use Rattle.ao_base.specs.Outside.{Side}
use Rattle.book_scope_run.specs.declared.halt.Halt.{Halt}
use Rattle.book_scope_run.specs.declared.halt.Halt.TheVariants as halt
use Rattle.book_scope_run.specs.Endings.{halt_text, status_at}
use Rattle.scope_run.specs.declared.asked.Asked.{Asked}
use Rattle.scope_run.specs.Acts.{Acts}
use Rattle.scope_run.specs.Requests.{retired_word}
use Rattle.scope_run.specs.Sides.{Given, Offers, Sides}

-- what is told on standard error: nothing where the run is done; where it ended early why, or that
-- memory ran out where there was none for that text (own)
abbrev pub Tells : (word : List ℕ) → Result Bool Halt → (before now : Side) → Type 0
Tells word (Ok amiss) before now = now ≡ before
Tells word (Err why) before now =
    Offers (halt_text word why) before now ⊎ Offers (halt_text word halt.Memory) before now

-- in a run that the words ask for the sources gave these bytes, and it ended with this status (own)
pub record Runs (asked : Asked) (given : Given) (before now : Sides) (err_before err_now : Side)
    (status : ℕ) : Type 0 where
  -- done, with something amiss or not; or why it ended early
  pub end : Result Bool Halt
  -- what was read, in which order, and written until then
  pub acts : Acts asked given before now end
  pub status_is : status ≡ status_at end
  pub tells : Tells (retired_word asked) end err_before err_now
