-- What is so of each script of the grammar, as a run needs it.
use Rattle.std.proofs.Common.{◌≡◌, suc, ◌+◌, ◌≤◌, Bool, false, List, [], ◌∷◌, ◌++◌, length, map, Option, Some, None, subst, refl, arith, length-append}
use Rattle.std.proofs.lemmas.List.{length-map}
use Rattle.std.specs.List.{All}
use Rattle.book_link.specs.declared.event.Event.{Event}
use Rattle.book_link.specs.declared.event.Event.TheVariants.{At, Dump}
use Rattle.book_link.specs.declared.event.Action.TheVariants.{Clock, Connect, Listen, Start, Give, Fill, Send, Resend, Deliver, Inject, Alter, Take, Close, Abort, AddRow, Withdraw}
use Rattle.book_cmd_link.specs.declared.script.KeysFrom.TheVariants.{LinkFile}
use Rattle.book_cmd_link.specs.declared.script.Script.{Script}
use Rattle.book_cmd_link.specs.declared.script.SharedKey.{SharedKey}
use Rattle.book_cmd_link.specs.LinkFiles.{keys_by}
use Rattle.law_scripts.specs.Printed.{event_words, key_lines, script_lines}
use Rattle.law_scripts.specs.Scripts.{IsEvent, IsKey, IsScript}
use Rattle.law_scripts.proofs.NewRows.{new_row}
use Rattle.link_world.specs.Events.{CanHappen}

-- a file that is read without a key file names its key
pub names_key : (shared : Option SharedKey) → keys_by shared ≡ LinkFile → shared ≡ None → ⊥
names_key None h e = cc
names_key (Some k) h e = cc

-- the length of the key that the script names
pub key_lengths : (shared : Option SharedKey) (k : SharedKey) → IsKey shared → shared ≡ Some k → (1 ≤ length k.master) × (length k.master ≤ 255)
key_lengths None k x h = absurd (cc)
key_lengths (Some j) k x h =
    let same : j ≡ k = cc in
    let P : SharedKey → Type 0 = λ (y : SharedKey). (1 ≤ length y.master) × (length y.master ≤ 255) in
    subst P same (x.least, x.most)

can_happen : (e : Event) → IsEvent e → CanHappen e
can_happen (At e (Clock seconds)) r = r
can_happen (At e (AddRow row)) r = new_row row r
can_happen (At e (Connect isn)) r = tt
can_happen (At e (Listen isn)) r = tt
can_happen (At e (Start isn peer)) r = tt
can_happen (At e (Give bytes)) r = tt
can_happen (At e (Fill count byte)) r = tt
can_happen (At e Send) r = tt
can_happen (At e Resend) r = tt
can_happen (At e (Deliver name)) r = tt
can_happen (At e (Inject bytes)) r = tt
can_happen (At e (Alter name place mask fixing)) r = tt
can_happen (At e (Take count)) r = tt
can_happen (At e Close) r = tt
can_happen (At e Abort) r = tt
can_happen (At e (Withdraw number)) r = tt
can_happen (Dump name) r = tt

-- each event of a script can happen
pub all_can_happen : (es : List Event) → All IsEvent es → All CanHappen es
all_can_happen es all k d h = can_happen _ (all k d h)
