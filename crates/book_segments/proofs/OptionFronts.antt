-- The options of an area by the front of the area.
use Rattle.std.proofs.Common.{ℕ, List, []}
use Rattle.book_base.specs.Fronts.{Front, Leads, Fronted, fronted_by, fronted_within}
use Rattle.book_segments.specs.Options.{Sized, LengthFault, Options, option_front, placed_from}

-- an option at the front, and the bytes behind it
abbrev pub Leading : (kind : ℕ) (body : List ℕ) (size : ℕ) (rest : List ℕ) → Front Sized LengthFault
Leading kind body size rest = Leads (record { kind = kind; body = body; size = size }) rest

-- kind 0 at the front: no option stands behind it
abbrev pub Ending : Front Sized LengthFault
Ending = Leading 0 [] 1 []

-- the options from a place on, where this stands there, and what stands behind an option is handed in
abbrev pub by_front : Front Sized LengthFault → ℕ → (List ℕ → Fronted Sized LengthFault) → Options
by_front f p others = placed_from p (fronted_by f others).items (fronted_by f others).fault

-- what stands one after another in an area, of which so many fronts are looked at
abbrev pub walked : ℕ → List ℕ → Fronted Sized LengthFault
walked k area = fronted_within option_front k area

-- the options of an area from a place on, of which so many fronts are looked at
abbrev pub options_from : (most place : ℕ) → List ℕ → Options
options_from k p area = placed_from p (walked k area).items (walked k area).fault
