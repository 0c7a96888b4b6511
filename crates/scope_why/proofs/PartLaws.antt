-- A single change is what it does to each part of the choices.
use Rattle.std.proofs.Common.{◌≡◌, refl}
use Rattle.book_why.specs.declared.change.Change.{Change}
use Rattle.book_why.specs.declared.change.Change.TheVariants as change
use Rattle.book_why.specs.Changes.{BothTables, changed_choices}
use Rattle.book_why.specs.Recipes.{MacChoices, Suspect, right_choices}
use Rattle.scope_why.specs.Parts.{choices_under, derived_under, input_under, master_under}

-- the choices with the master key changed
abbrev pub keyed : Change → MacChoices → MacChoices
keyed c m = record m { master = master_under c m.master }

pub parts_are : (c : Change) (both : BothTables) (s : Suspect)
    → input_under c s (derived_under c (keyed c (choices_under c both s))) ≡ changed_choices c both s (right_choices s.row s)
parts_are (change.AnotherRow node n) both s = refl
parts_are change.OtherFlag both s = refl
parts_are (change.OtherAlgorithm algorithm) both s = refl
parts_are change.CutSha256 both s = refl
parts_are change.KeyAsText both s = refl
parts_are change.KeyAsUpperText both s = refl
parts_are change.KeyWithNewline both s = refl
parts_are change.KeyAsTextWithNewline both s = refl
parts_are (change.KeyPadded n) both s = refl
parts_are change.KeyTrimmed both s = refl
parts_are change.LengthInBytes both s = refl
parts_are change.OtherDirection both s = refl
parts_are change.SocketsExchanged both s = refl
parts_are change.IsnsExchanged both s = refl
parts_are change.NoDestinationIsn both s = refl
parts_are (change.OtherConnection isns) both s = refl
parts_are change.LapMore both s = refl
parts_are change.LapLess both s = refl
parts_are change.ChecksumKept both s = refl
parts_are change.MacKept both s = refl
parts_are change.LastBytes both s = refl
parts_are change.NoPseudoHeader both s = refl
