-- Where no table is asked for in front of a packet, none is written there.
use Rattle.std.proofs.Common.{◌≡◌, List, [], ◌∷◌, ◌++◌, ℕ, Bool, Option, None, Some, refl}
use Rattle.book_captures.specs.Captures.{CapturePacket}
use Rattle.page_sessions_json.specs.TableSeries.{Series, counted_since, due_texts, early_text, second_seen}

none_due : (s : Series) (before packets : List CapturePacket) (since : Option ℕ) → s.request.every ≡ None → due_texts s before since packets ≡ []
none_due s before [] since is = refl
none_due s before (p ∷ ps) since is =
    let others = none_due s (before ++ p ∷ []) ps (counted_since s.request.every since (second_seen p)) is in
    rw (others, is) refl

pub none_early : (s : Series) (packets : List CapturePacket) → s.request.every ≡ None → early_text s packets ≡ []
unfolding early_text
none_early s packets is = none_due s [] packets None is
