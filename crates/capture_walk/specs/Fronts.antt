-- What reading a front and a part does to a buffer (own).
use Rattle.std.specs.Prelude.{◌≡◌, ℕ, ◌+◌, ◌<◌, ◌≤◌, List, [], ◌++◌, length, drop, Option, Some, None, Result, Ok, Err}
use Rattle.std.specs.List.{All}
use Rattle.book_base.specs.Hexadecimal.{IsByte}
use Rattle.ao_base.specs.Buffered.{Buffered}
use Rattle.ao_base.specs.Outside.{Side, Gave, Rose, IsAtEnd, told}
use Rattle.book_captures.specs.declared.block_parts.Interface.{Interface}
use Rattle.book_captures.specs.declared.capture_parts.Cause.{Cause}
use Rattle.book_captures.specs.declared.capture_parts.Format.{Format}
use Rattle.book_captures.specs.Parts.{FilePlace, OpenedFile, capture_opened, part_by}
use Rattle.capture_reader.specs.declared.sizes.FileFront.{FileFront}
use Rattle.capture_reader.specs.FoundParts.{seen_part, IsPartWithin}
use Rattle.capture_reader.specs.Sizes.{seen_front, needed}
use Rattle.capture_walk.specs.declared.fronts.Opened.{Opened}
use Rattle.capture_walk.specs.declared.fronts.Opened.TheVariants as opening
use Rattle.capture_walk.specs.declared.fronts.Found.{Found}
use Rattle.capture_walk.specs.declared.fronts.Found.TheVariants as found

-- where a reader stands in this format, if behind the front, and with these interfaces
abbrev pub place_of : Option Format → List Interface → Option FilePlace
place_of None interfaces = None
place_of (Some format) interfaces =
    Some (record { format = format; interfaces = interfaces })

-- how a file goes on: as it began, where the reader stands there, or behind its front
abbrev pub opened_from : Option FilePlace → List ℕ → Result OpenedFile Cause
opened_from (Some place) text = Ok (record { place = place; size = 0 })
opened_from None text = capture_opened text

-- so many of these bytes show how a file goes on
abbrev pub IsShown : Option Format → Format → List ℕ → Type 0
IsShown (Some had) format text = Unit {0}
IsShown None format text = needed format ≤ length text

-- what reading the front gives, by what was kept and given
abbrev pub IsOpened : Option Format → List Interface → List ℕ → Buffered → Side → Side → Opened → Type 0
IsOpened had interfaces text now source_before source_now (opening.At front) =
    (opened_from (place_of had interfaces) text ≡ Ok (record { place = record { format = front.format; interfaces = interfaces }; size = front.size }))
    × IsShown had front.format text × (now.kept ≡ drop front.size text) × (front.size ≤ length text)
IsOpened had interfaces text now source_before source_now (opening.Bad why) =
    (had ≡ None) × (capture_opened text ≡ Err why) × (capture_opened (text ++ told source_now.bytes) ≡ Err why)
IsOpened had interfaces text now source_before source_now opening.Fault = Rose source_before source_now

-- reading the front
pub record Opens (had : Option Format) (interfaces : List Interface) (before now : Buffered) (source_before source_now : Side) (given : List ℕ) (result : Opened) : Type 0 where
  pub gave : Gave given source_before source_now
  pub bytes : All IsByte given
  pub size : now.size ≡ before.size
  pub fits : length now.kept ≤ now.size
  pub few : length (before.kept ++ given) ≤ now.size
  pub is : IsOpened had interfaces (before.kept ++ given) now source_before source_now result

-- what reading the front of what is kept gives
abbrev pub IsOpenedHere : Buffered → Buffered → Opened → Type 0
IsOpenedHere before now (opening.At front) = (capture_opened before.kept ≡ Ok (seen_front front))
    × (needed front.format ≤ length before.kept) × (front.size ≤ length before.kept)
    × (now.kept ≡ drop front.size before.kept) × (now.size ≡ before.size)
IsOpenedHere before now (opening.Bad why) = (capture_opened before.kept ≡ Err why) × (now ≡ before)
IsOpenedHere before now opening.Fault = ⊥

-- what reading a part gives, by what is kept
abbrev pub IsFound : Format → List Interface → List ℕ → Side → Side → Found → Type 0
IsFound format interfaces kept source_before source_now (found.Whole part) =
    (part_by format interfaces kept ≡ Ok (seen_part interfaces kept part)) × IsPartWithin part (length interfaces) (length kept)
IsFound format interfaces kept source_before source_now found.Done =
    (kept ≡ []) × IsAtEnd source_now
IsFound format interfaces kept source_before source_now (found.Broken why) =
    (0 < length kept) × (part_by format interfaces kept ≡ Err why)
    × (part_by format interfaces (kept ++ told source_now.bytes) ≡ Err why)
IsFound format interfaces kept source_before source_now found.Fault = Rose source_before source_now

-- reading a part
pub record Finds (format : Format) (interfaces : List Interface) (before now : Buffered) (source_before source_now : Side) (given : List ℕ) (result : Found) : Type 0 where
  pub gave : Gave given source_before source_now
  pub bytes : All IsByte given
  pub kept : now.kept ≡ before.kept ++ given
  pub size : now.size ≡ before.size
  pub fits : length now.kept ≤ now.size
  pub is : IsFound format interfaces now.kept source_before source_now result
