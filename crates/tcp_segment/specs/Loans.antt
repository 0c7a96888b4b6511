-- The payload and the MAC of a draft are lent, and written.
use Rattle.std.specs.Prelude.{List, ℕ, ◌≤◌}
use Rattle.std.proofs.Common.{sym, subst}
use Rattle.std.proofs.Math.Nat.{le_refl, le_trans}
use Rattle.std.specs.Borrow.{Lends, MutBor, Fml, u8, Array, RattleType}
use Rattle.lent_bytes.specs.Part.{with_part}
use Rattle.lent_bytes.specs.declared.Room.{Ghosts}
use Rattle.lent_bytes.proofs.PutLaws.{length-put, take-put}
use Rattle.tcp_segment.specs.declared.draft.Draft.{Draft}
use Rattle.tcp_segment.specs.contracts.draft.Draft.{the_row}
use Rattle.tcp_segment.specs.Layout.{IsFront}

module _ {B : Type 0} {g : Ghosts B} (d : Draft B g) (w : List ℕ) where
  -- the draft with these bytes in place of its payload
  abbrev pub with_payload : Draft B g
  with_payload = record d {
    out = g.put d.out (with_part (g.bytes d.out) d.payload d.len w);
    room = subst (λ (n : ℕ). d.len ≤ n) (sym (length-put g d.out d.payload d.len w d.ends d.room)) d.room;
    headed = subst (λ (front : List ℕ). ∥ IsFront front d.header d.mac d.payload d.len ∥₁) (sym (take-put g d.out d.payload d.len w d.ends d.room d.mac d.order)) d.headed;
  }

  -- the draft with these bytes in place of its MAC
  abbrev pub with_mac : Draft B g
  with_mac = record d {
    out = g.put d.out (with_part (g.bytes d.out) d.mac d.payload w);
    room = subst (λ (n : ℕ). d.len ≤ n) (sym (length-put g d.out d.mac d.payload w d.order (le_trans d.ends d.room))) d.room;
    headed = subst (λ (front : List ℕ). ∥ IsFront front d.header d.mac d.payload d.len ∥₁) (sym (take-put g d.out d.mac d.payload w d.order (le_trans d.ends d.room) d.mac (le_refl d.mac))) d.headed;
  }

module _ (S : RattleType) (g : Ghosts S.Denot) (d : MutBor (Draft S.Denot g)) (r : MutBor (List ℕ)) where
  -- what is written to the payload comes in its place, and all else stays
  abbrev pub LendsPayload : Fml
  LendsPayload = Lends (the_row S g) (Array u8 0) d r (with_payload d.now)

  -- what is written to the MAC comes in its place, and all else stays
  abbrev pub LendsMac : Fml
  LendsMac = Lends (the_row S g) (Array u8 0) d r (with_mac d.now)
