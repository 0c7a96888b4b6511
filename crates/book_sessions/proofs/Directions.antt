-- Segments of one direction and KeyID, of which the same is said, are a kind of segments; so are those with one outcome.
use Rattle.std.proofs.Common.{◌≡◌, ℕ, ◌==◌, ◌&&◌, Bool, true, false, List, ◌∷◌, Option, Some, None, if◌then◌else◌, refl, sym, ap, ◌∙◌}
use Rattle.std.proofs.lemmas.Bool.{eqb-true, and_parts}
use Rattle.std.specs.Prelude.{codes}
use Rattle.std.specs.Str.{bytes_eq}
use Rattle.std.proofs.lemmas.Slice.Eq.{bytes_eq-Decides}
use Rattle.book_base.specs.declared.address.Socket.{Socket}
use Rattle.book_segments.specs.Sockets.{same_address, same_socket}
use Rattle.book_keys.proofs.OverlapLaws.{same_address-true}
use Rattle.book_endpoint.specs.declared.refusal.Refusal.TheVariants.{NoAo, TwoAo, WithMd5, NoTuple, Expired, MacLength, NoContext, Range, BadMac}
use Rattle.book_sessions.specs.declared.outcome.SegmentOutcome.{SegmentOutcome}
use Rattle.book_sessions.specs.declared.outcome.SegmentOutcome.TheVariants as outcome
use Rattle.book_sessions.specs.declared.uses.FlowIsns.{FlowIsns}
use Rattle.book_sessions.specs.declared.uses.SeenSegment.{SeenSegment}
use Rattle.book_sessions.specs.declared.uses.KeyUse.{KeyUse}
use Rattle.book_sessions.specs.declared.uses.Protection.{Protection}
use Rattle.book_sessions.specs.declared.uses.Protection.TheVariants as protection
use Rattle.book_sessions.specs.OutcomeTexts.{outcome_text}
use Rattle.book_sessions.specs.Sessions.{asked_by, carries_ids_of, goes_as, isns_of, key_id_of, passed_as, passed_row, same_flow, same_id, same_outcome, same_protection, is_use_of}
use Rattle.book_sessions.specs.Counts.{as_checked, is_like, use_as_checked}
use Rattle.book_sessions.proofs.Hearing.{seen_as_checked}
use Rattle.book_sessions.proofs.Sums.{IsKind}

socket_is : (a b : Socket) → same_socket a b ≡ true → a ≡ b
socket_is a b e =
    let both = and_parts (same_address a.address b.address) (a.port == b.port) e in
    let addresses = same_address-true a.address b.address both.0 in
    let ports = eqb-true a.port b.port both.1 in
    ap (λ x. record { address = x; port = a.port }) addresses ∙ ap (λ (n : ℕ). record { address = b.address; port = n }) ports

id_is : (a b : Option ℕ) → same_id a b ≡ true → a ≡ b
id_is None None e = refl
id_is None (Some b) e = absurd (cc)
id_is (Some a) None e = absurd (cc)
id_is (Some a) (Some b) e = ap (λ (n : ℕ). Some n) (eqb-true a b e)

flow_is : (a b : Option FlowIsns) → same_flow a b ≡ true → a ≡ b
flow_is None None e = refl
flow_is None (Some b) e = absurd (cc)
flow_is (Some a) None e = absurd (cc)
flow_is (Some a) (Some b) e =
    let both = and_parts (a.own == b.own) (same_id a.peer b.peer) e in
    let own = eqb-true a.own b.own both.0 in
    let peer = id_is a.peer b.peer both.1 in
    ap (λ (n : ℕ). Some (record { own = n; peer = a.peer })) own ∙ ap (λ (p : Option ℕ). Some (record { own = b.own; peer = p })) peer

protection_is : (a b : Protection) → same_protection a b ≡ true → a ≡ b
protection_is protection.Ao protection.Ao e = refl
protection_is protection.Ao protection.Md5 e = absurd (cc)
protection_is protection.Ao protection.Plain e = absurd (cc)
protection_is protection.Ao protection.Unclear e = absurd (cc)
protection_is protection.Md5 protection.Ao e = absurd (cc)
protection_is protection.Md5 protection.Md5 e = refl
protection_is protection.Md5 protection.Plain e = absurd (cc)
protection_is protection.Md5 protection.Unclear e = absurd (cc)
protection_is protection.Plain protection.Ao e = absurd (cc)
protection_is protection.Plain protection.Md5 e = absurd (cc)
protection_is protection.Plain protection.Plain e = refl
protection_is protection.Plain protection.Unclear e = absurd (cc)
protection_is protection.Unclear protection.Ao e = absurd (cc)
protection_is protection.Unclear protection.Md5 e = absurd (cc)
protection_is protection.Unclear protection.Plain e = absurd (cc)
protection_is protection.Unclear protection.Unclear e = refl

text_is : (one two : SegmentOutcome) → same_outcome one two ≡ true → outcome_text one ≡ outcome_text two
text_is one two e = (bytes_eq-Decides (outcome_text one) (outcome_text two)).0 e

-- ---- what `check` says, by the word for what comes of a segment

-- the word goes on with nc behind its first letter, as that of what isn't confirmed does
abbrev is_unsure : List ℕ → Bool
is_unsure (a ∷ b ∷ c ∷ cs) = b == 110 && c == 99
is_unsure _ = false

-- `check`'s word in the place of this one
abbrev checked_text : List ℕ → List ℕ
checked_text text = if is_unsure text then codes "no-context" else text

checked_word : (o : SegmentOutcome) → outcome_text (as_checked o) ≡ checked_text (outcome_text o)
checked_word outcome.Verified = refl
checked_word outcome.NoNode = refl
checked_word outcome.TooMany = refl
checked_word outcome.CutOff = refl
checked_word outcome.Unconfirmed = refl
checked_word (outcome.UnconfirmedRefused why) = refl
checked_word (outcome.Refused NoAo) = refl
checked_word (outcome.Refused TwoAo) = refl
checked_word (outcome.Refused WithMd5) = refl
checked_word (outcome.Refused NoTuple) = refl
checked_word (outcome.Refused Expired) = refl
checked_word (outcome.Refused MacLength) = refl
checked_word (outcome.Refused NoContext) = refl
checked_word (outcome.Refused Range) = refl
checked_word (outcome.Refused BadMac) = refl

checked_alike : (one two : SegmentOutcome) → same_outcome one two ≡ true → outcome_text (as_checked one) ≡ outcome_text (as_checked two)
checked_alike one two e = checked_word one ∙ (ap checked_text (text_is one two e) ∙ sym (checked_word two))

-- ---- what is_use_of says

pub record SameKind (s : SeenSegment) (u : KeyUse) : Type 0 where
  pub source : s.source ≡ u.source
  pub destination : s.destination ≡ u.destination
  pub key_id : key_id_of s ≡ u.key_id
  pub asked : asked_by s ≡ u.asked
  pub protection : s.protection ≡ u.protection
  pub row : passed_row s ≡ u.row
  pub isns : isns_of s ≡ u.isns
  pub said : same_outcome s.outcome u.outcome ≡ true

kind_parts : (s : SeenSegment) (u : KeyUse) → is_use_of s u ≡ true → SameKind s u
kind_parts s u e =
    let halves = and_parts (goes_as s u) (carries_ids_of s u && (same_outcome s.outcome u.outcome && passed_as s u)) e in
    let sockets = and_parts (same_socket s.source u.source) (same_socket s.destination u.destination) halves.0 in
    let others = and_parts (carries_ids_of s u) (same_outcome s.outcome u.outcome && passed_as s u) halves.1 in
    let carried = and_parts (same_id (key_id_of s) u.key_id && same_id (asked_by s) u.asked) (same_protection s.protection u.protection) others.0 in
    let ids = and_parts (same_id (key_id_of s) u.key_id) (same_id (asked_by s) u.asked) carried.0 in
    let ends = and_parts (same_outcome s.outcome u.outcome) (passed_as s u) others.1 in
    let pass = and_parts (same_id (passed_row s) u.row) (same_flow (isns_of s) u.isns) ends.1 in
    record {
      source = socket_is s.source u.source sockets.0;
      destination = socket_is s.destination u.destination sockets.1;
      key_id = id_is (key_id_of s) u.key_id ids.0;
      asked = id_is (asked_by s) u.asked ids.1;
      protection = protection_is s.protection u.protection carried.1;
      row = id_is (passed_row s) u.row pass.0;
      isns = flow_is (isns_of s) u.isns pass.1;
      said = ends.0;
    }

-- ---- the kinds

pub outcome_kind : (o : SegmentOutcome) → IsKind (λ u. same_outcome o u.outcome) (λ s. same_outcome o s.outcome)
outcome_kind o = record {
  first = λ number g s. refl;
  again = λ g s u. refl;
  same = λ s u is. ap (bytes_eq (outcome_text o)) (sym (text_is s.outcome u.outcome (kind_parts s u is).said));
}

pub checked_kind : (o : SegmentOutcome) → IsKind (λ u. same_outcome o (use_as_checked u).outcome) (λ s. same_outcome o (seen_as_checked s).outcome)
checked_kind o = record {
  first = λ number g s. refl;
  again = λ g s u. refl;
  same = λ s u is. ap (bytes_eq (outcome_text o)) (sym (checked_alike s.outcome u.outcome (kind_parts s u is).said));
}

module _ (k : SeenSegment) where
  -- the segment goes between these sockets
  abbrev fits_way : (source destination : Socket) → Bool
  fits_way a b = same_socket k.source a && same_socket k.destination b

  -- the segment carries these ids, this is said of it, and it passed so
  abbrev fits_rest : (id asked : Option ℕ) → Protection → List ℕ → Option ℕ → Option FlowIsns → Bool
  fits_rest id asked protection text row isns = ((same_id (key_id_of k) id && same_id (asked_by k) asked) && same_protection k.protection protection)
      && (bytes_eq (outcome_text k.outcome) text && (same_id (passed_row k) row && same_flow (isns_of k) isns))

  same_kind : (s : SeenSegment) (u : KeyUse) (one two : List ℕ) → SameKind s u → one ≡ two
      → (fits_way u.source u.destination && fits_rest u.key_id u.asked u.protection two u.row u.isns)
      ≡ (fits_way s.source s.destination && fits_rest (key_id_of s) (asked_by s) s.protection one (passed_row s) (isns_of s))
  same_kind s u one two same d =
      rw (same.source, same.destination, same.key_id, same.asked, same.protection, same.row, same.isns, d) refl

  same_way : (s : SeenSegment) (u : KeyUse) → is_use_of s u ≡ true → is_use_of k u ≡ is_like k s
  same_way s u is = let same = kind_parts s u is in same_kind s u (outcome_text s.outcome) (outcome_text u.outcome) same (text_is s.outcome u.outcome same.said)

  same_checked_way : (s : SeenSegment) (u : KeyUse) → is_use_of s u ≡ true → is_use_of k (use_as_checked u) ≡ is_like k (seen_as_checked s)
  same_checked_way s u is = let same = kind_parts s u is in same_kind s u (outcome_text (as_checked s.outcome)) (outcome_text (as_checked u.outcome)) same (checked_alike s.outcome u.outcome same.said)

pub way_kind : (k : SeenSegment) → IsKind (λ u. is_use_of k u) (λ s. is_like k s)
way_kind k = record { first = λ number g s. refl; again = λ g s u. refl; same = λ s u is. same_way k s u is }

pub checked_way_kind : (k : SeenSegment) → IsKind (λ u. is_use_of k (use_as_checked u)) (λ s. is_like k (seen_as_checked s))
checked_way_kind k = record { first = λ number g s. refl; again = λ g s u. refl; same = λ s u is. same_checked_way k s u is }
