-- What uses at places show, found from the back.
use Rattle.std.proofs.Common.{◌≡◌, ℕ, ◌+◌, ◌<◌, Bool, List, ◌∷◌, length, drop, get_or, Option, Some, None, refl, sym, ap, ◌∙◌, add-one, suc}
use Rattle.std.proofs.Math.Seq.{drop-cons}
use Rattle.std.specs.Prelude.{filter}
use Rattle.std.specs.List.{slice_get}
use Rattle.book_base.specs.declared.address.Socket.{Socket}
use Rattle.book_sessions.specs.declared.retiring.Ending.{Ending}
use Rattle.book_sessions.specs.declared.retiring.Wanting.{Wanting}
use Rattle.book_sessions.specs.declared.uses.KeyUse.{KeyUse}
use Rattle.book_sessions.specs.Retiring.{ending_by, is_followed, wanting_by}
use Rattle.book_sessions.specs.SessionTexts.{is_of_session}
use Rattle.capture_listener.specs.Places.{and_found, number_between, places_of, uses_at}
use Rattle.capture_listener.proofs.PlaceLaws.{picked}
use Rattle.capture_listener.specs.AtPlaces.{ending_found, followed_found, wanting_found}
use Rattle.capture_listener.specs.Known.{HaveSessions}
use Rattle.capture_listener.proofs.OwnUses.{own_ending, own_followed, own_wanting}

cut : (places : List ℕ) (left p : ℕ) → left < length places → p ≡ get_or places left p → drop left places ≡ p ∷ drop (left + 1) places
cut places left p low here = rw (add-one left) (drop-cons places left p low ∙ ap (λ x. x ∷ drop (suc left) places) (sym here))

ending_first : (u : KeyUse) (o : Option KeyUse) (us : List KeyUse) → ending_found o u (ending_by u us) ≡ ending_by u (and_found o us)
ending_first u None us = refl
ending_first u (Some v) us = refl

wanting_first : (wants : KeyUse → Bool) (a b : Socket) (o : Option KeyUse) (us : List KeyUse) → wanting_found wants a b o (wanting_by wants a b us) ≡ wanting_by wants a b (and_found o us)
wanting_first wants a b None us = refl
wanting_first wants a b (Some v) us = refl

followed_first : (u : KeyUse) (o : Option KeyUse) (us : List KeyUse) → followed_found o u (is_followed us u) ≡ is_followed (and_found o us) u
followed_first u None us = refl
followed_first u (Some v) us = refl

-- one place more
pub ending_more : (u : KeyUse) (uses : List KeyUse) (places : List ℕ) (left p : ℕ) (ending now : Ending) → left < length places → p ≡ get_or places left p
    → ending ≡ ending_by u (uses_at uses (drop (left + 1) places)) → now ≡ ending_found (slice_get uses p) u ending → now ≡ ending_by u (uses_at uses (drop left places))
ending_more u uses places left p ending now low here so_far more =
    more ∙ (ap (ending_found (slice_get uses p) u) so_far ∙ (ending_first u (slice_get uses p) (uses_at uses (drop (left + 1) places))
    ∙ ap (λ (ps : List ℕ). ending_by u (uses_at uses ps)) (sym (cut places left p low here))))

pub wanting_more : (wants : KeyUse → Bool) (a b : Socket) (uses : List KeyUse) (places : List ℕ) (left p : ℕ) (wanting now : Wanting) → left < length places → p ≡ get_or places left p
    → wanting ≡ wanting_by wants a b (uses_at uses (drop (left + 1) places)) → now ≡ wanting_found wants a b (slice_get uses p) wanting → now ≡ wanting_by wants a b (uses_at uses (drop left places))
wanting_more wants a b uses places left p wanting now low here so_far more =
    more ∙ (ap (wanting_found wants a b (slice_get uses p)) so_far ∙ (wanting_first wants a b (slice_get uses p) (uses_at uses (drop (left + 1) places))
    ∙ ap (λ (ps : List ℕ). wanting_by wants a b (uses_at uses ps)) (sym (cut places left p low here))))

pub followed_more : (u : KeyUse) (uses : List KeyUse) (places : List ℕ) (left p : ℕ) (followed now : Bool) → left < length places → p ≡ get_or places left p
    → followed ≡ is_followed (uses_at uses (drop (left + 1) places)) u → now ≡ followed_found (slice_get uses p) u followed → now ≡ is_followed (uses_at uses (drop left places)) u
followed_more u uses places left p followed now low here so_far more =
    more ∙ (ap (followed_found (slice_get uses p) u) so_far ∙ (followed_first u (slice_get uses p) (uses_at uses (drop (left + 1) places))
    ∙ ap (λ (ps : List ℕ). is_followed (uses_at uses ps) u) (sym (cut places left p low here))))

-- by the places of a session, what all show
pub ending_at : (u : KeyUse) (uses shown : List KeyUse) (places : List ℕ) (ending : Ending) → number_between u.source u.destination uses ≡ Some u.session → HaveSessions uses uses
    → shown ≡ uses → places ≡ places_of u.session uses → ending ≡ ending_by u (uses_at shown places) → ending ≡ ending_by u uses
ending_at u uses shown places ending known all is also by =
    by ∙ (rw (is, also) (ap (ending_by u) (picked u.session uses)) ∙ own_ending uses u known uses all)

pub wanting_at : (wants : KeyUse → Bool) (a b : Socket) (n : ℕ) (uses shown : List KeyUse) (places : List ℕ) (wanting : Wanting) → number_between a b uses ≡ Some n → HaveSessions uses uses
    → shown ≡ uses → places ≡ places_of n uses → wanting ≡ wanting_by wants a b (uses_at shown places) → wanting ≡ wanting_by wants a b uses
wanting_at wants a b n uses shown places wanting known all is also by =
    by ∙ (rw (is, also) (ap (wanting_by wants a b) (picked n uses)) ∙ own_wanting uses a b n known wants uses all)

pub followed_at : (u : KeyUse) (uses shown : List KeyUse) (places : List ℕ) (followed : Bool) → number_between u.source u.destination uses ≡ Some u.session → HaveSessions uses uses
    → shown ≡ uses → places ≡ places_of u.session uses → followed ≡ is_followed (uses_at shown places) u → followed ≡ is_followed uses u
followed_at u uses shown places followed known all is also by =
    by ∙ (rw (is, also) (ap (λ (us : List KeyUse). is_followed us u) (picked u.session uses)) ∙ own_followed uses u known uses all)
