-- The values of this crate as those of the definitions.
use Rattle.std.specs.Prelude.{◌≡◌, ℕ, List, [], ◌∷◌, length, Option, Some, None, ◌==◌, ◌&&◌, slice_index, ◌+◌, ◌*◌, ◌≤◌, if◌then◌else◌}
use Rattle.book_base.specs.Fronts.{Front, Ends, Faulted, Leads}
use Rattle.book_segments.specs.Options.{Plain, Sized, LengthFault, TooShort, TooLong}
use Rattle.book_segments.specs.declared.fault.OptionFault.{OptionFault}
use Rattle.book_segments.specs.Options as book
use Rattle.tcp_segment.specs.declared.iter.Opt.{Opt}
use Rattle.tcp_segment.specs.declared.iter.Cut.{Cut}
use Rattle.tcp_segment.specs.declared.iter.Cut.TheVariants as cuts
use Rattle.tcp_segment.specs.declared.ao.AoOption.{AoOption}
use Rattle.tcp_segment.specs.declared.ao.Hit.{Hit}
use Rattle.tcp_segment.specs.declared.ao.AoFound.{AoFound}
use Rattle.tcp_segment.specs.declared.ao.AoFound.TheVariants as founds

-- an option without where it lies
abbrev pub view_opt : Opt → Plain
view_opt o = record { kind = o.kind; body = o.body.now }

-- what was cut off
abbrev pub view_cut : Cut → Front Sized LengthFault
view_cut cuts.NoMore = Ends
view_cut cuts.Ending = Leads (record { kind = 0; body = []; size = 1 }) []
view_cut cuts.TooShort = Faulted TooShort
view_cut cuts.TooLong = Faulted TooLong
view_cut (cuts.Leading o size rest) = Leads (record { kind = o.kind; body = o.body.now; size = size }) rest.now

-- a fault, or none
abbrev pub FaultIs : Option OptionFault → book.Options → Type 0
FaultIs None options = book.AreListed options
FaultIs (Some fault) options = options ≡ book.Faulty fault

-- the TCP-AO option
abbrev pub view_ao : AoOption → book.Ao
view_ao o = record { key_id = o.key_id; rnext_key_id = o.rnext; mac = o.mac.now; place = o.place }

-- what was found of TCP-AO
abbrev pub view_found : AoFound → book.AoFound
view_found founds.Absent = book.Absent
view_found (founds.One o) = book.One (view_ao o)
view_found founds.Two = book.Two
view_found founds.WithMd5 = book.WithMd5

-- the maximum segment size of an option, or else of those behind it (RFC 9293, section 3.2)
abbrev pub mss_or : Plain → Option ℕ → Option ℕ
mss_or o others =
    if (o.kind == 2) && (length o.body == 2) then Some (slice_index o.body 0 * 256 + slice_index o.body 1) else others

-- an option that was looked for, with its place
abbrev pub hit_option : Hit → book.Opt
hit_option h = record { kind = h.option.kind; body = h.option.body.now; place = h.place }

-- the first option of a kind, and the area behind it
pub record IsFirst (kind place : ℕ) (area : List ℕ) (h : Hit) : Type 0 where
  pub options : book.of_kind kind (book.listed (book.options_at place area)) ≡ hit_option h ∷ book.of_kind kind (book.listed (book.options_at h.behind_place h.behind.now))
  pub behind : book.AreListed (book.options_at h.behind_place h.behind.now)
  pub room : h.behind_place + length h.behind.now ≤ place + length area
  pub ao : kind ≡ 29 → 2 ≤ length h.option.body.now

-- the first option of a kind was found, or there is none of that kind
abbrev pub HitIs : ℕ → ℕ → List ℕ → Option Hit → Type 0
HitIs kind place area None = book.of_kind kind (book.listed (book.options_at place area)) ≡ []
HitIs kind place area (Some h) = IsFirst kind place area h

-- the fields of a TCP-AO option (RFC 5925, section 2.2)
abbrev pub IsAo : Hit → AoOption → Type 0
IsAo h a = view_ao a ≡ book.ao_of (hit_option h)
