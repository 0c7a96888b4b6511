-- Drafts with the same parts are the same.
use Rattle.std.proofs.Common.{◌≡◌, ℕ, ◌≤◌, length, take}
use Rattle.std.specs.Coded.{le_prop}
use mathlib.Core.Logic.{∥∥₁_prop}
use Rattle.lent_bytes.specs.declared.Room.{Ghosts}
use Rattle.tcp_segment.specs.declared.draft.Draft.{Draft}
use Rattle.tcp_segment.specs.Layout.{IsFront}

pub same_draft : {B : Type 0} (g : Ghosts B) (out : B) (header mac payload len : ℕ) (o p : mac ≤ payload) (e f : payload ≤ len) (r s : len ≤ length (g.bytes out))
    (t u : ∥ IsFront (take mac (g.bytes out)) header mac payload len ∥₁)
    → ◌≡◌ {A = Draft B g} (record { out = out; header = header; mac = mac; payload = payload; len = len; order = o; ends = e; room = r; headed = t })
    (record { out = out; header = header; mac = mac; payload = payload; len = len; order = p; ends = f; room = s; headed = u })
same_draft g out header mac payload len o p e f r s t u = λ i. record {
  out = out;
  header = header;
  mac = mac;
  payload = payload;
  len = len;
  order = le_prop o p i;
  ends = le_prop e f i;
  room = le_prop r s i;
  headed = ∥∥₁_prop t u i;
}
