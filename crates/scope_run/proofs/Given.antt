-- What the words ask for, case by case.
use Rattle.std.proofs.Common.{◌≡◌, Bool, true, false, not, Option, Some, refl, sym}
use Rattle.std.specs.Prelude.{option_map, ℕ, List, [], Result}
use Rattle.book_scope_run.specs.declared.halt.Halt.{Halt}
use Rattle.page_draw_svg.specs.declared.placed.Form.{Form}
use Rattle.scope_run.specs.Acts.{Draws, EchoesBy}
use Rattle.scope_run.specs.Sides.{Given, Sides}

pub not_asked : (b : Bool) → not b ≡ true → b ≡ false
not_asked true is = sym is
not_asked false is = refl

pub is_asked : (b : Bool) → not b ≡ false → b ≡ true
is_asked true is = refl
is_asked false is = sym is

-- what holds of a text that is there
pub of_some : {A B : Type 0} (P : Option B → Type 0) (f : A → B) (o : Option A) (a : A) → o ≡ Some a → P (Some (f a)) → P (option_map f o)
of_some P f o a is holds = rw is holds

-- nothing is said of the file of initial sequence numbers
abbrev pub without_isns : Given → Given
without_isns g = record { keys = g.keys; isns = []; input = g.input }

pub draws_without : (has_keys : Bool) (form : Form) (g : Given) (b n : Sides) (end : Result Bool Halt) → Draws has_keys form g b n end → Draws has_keys form (without_isns g) b n end
draws_without true form g b n end draws = draws
draws_without false form g b n end draws = draws

pub echoes_without : (has_keys : Bool) (g : Given) (b n : Sides) (end : Result Bool Halt) → EchoesBy has_keys g b n end → EchoesBy has_keys (without_isns g) b n end
echoes_without true g b n end echoes = echoes
echoes_without false g b n end echoes = echoes
