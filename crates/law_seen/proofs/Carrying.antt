-- Tables that are aligned carry each run over them.
use Rattle.std.proofs.Common.{◌≡◌, ℕ, ◌+◌, ◌≤◌, Bool, true, false, ◌&&◌, List, [], ◌∷◌, length, Some, ⊎_elim, if◌then◌else◌, sym, ap, ◌∙◌, subst, arith, None}
use Rattle.std.specs.List.{AllByRecursion}
use Rattle.book_base.specs.declared.end.End.{End}
use Rattle.book_base.specs.declared.end.End.TheVariants.{A, B}
use Rattle.book_segments.proofs.Fields.{and_tells, some_is}
use Rattle.book_segments.specs.Segments.{Segment, has, ACK, SYN}
use Rattle.book_endpoint.specs.States.{EndState}
use Rattle.book_keys.proofs.GapLaws.{gap_exactly, lint_aligned}
use Rattle.book_keys.specs.declared.plan.Plan.{Plan}
use Rattle.book_keys.specs.Plans.{AlignedFrom, IsGap, mirrored}
use Rattle.book_keys.specs.Rows.{Row}
use Rattle.book_link.specs.declared.event.Event.{Event}
use Rattle.book_link.specs.Runs.{run}
use Rattle.book_link.specs.Worlds.{Made, Session, Setup, World, find, first_rows, is_known, live, other, pair_of, side}
use Rattle.law_seen.proofs.Near.{expected_high, expected_low, of_found}
use Rattle.law_seen.proofs.Tables.{named_under, run_steady}
use Rattle.law_seen.specs.Carried.{Carries, CarriesEveryRun, ComesAsMade, IsAligned, IsPlanned, KeepsTables}
use Rattle.law_seen.proofs.Keeping.{AllKept, Kept, run_apart}
use Rattle.law_seen.specs.Apart.{forgeries_in}
use Rattle.law_link.proofs.Gaps.{never_keyless}
use Rattle.law_link.proofs.Giving.{gives_at_most}
use Rattle.law_link.proofs.Invariant.{MadeBy, live_whole}
use Rattle.law_link.proofs.Rollover.{rolls_over}
use Rattle.law_link.proofs.Running.{named_ok, run_inv}
use Rattle.law_link.proofs.Sessions.{both, find_isn, known_is}
use Rattle.law_link.proofs.Sound.{Sound}
use Rattle.law_link.specs.Headline.{few_events}
use Rattle.law_link.specs.Laws.{EventFits, IsCovered, IsNear, RollsOver, SetupFits, TablesFit}

-- what the judgement says of one end
record OneEnd (plan : Plan) (setup : Setup) (e : End) : Type 0 where
  taken : AlignedFrom (first_rows setup (other e)) (first_rows setup e) (pair_of setup (other e)) plan.lead plan.lag
  keyed : IsGap (first_rows setup e) (pair_of setup e) plan.from plan.to None

each_end : (plan : Plan) (setup : Setup) → IsAligned plan setup → (e : End) → OneEnd plan setup e
each_end plan setup aligned =
    let a = first_rows setup A in
    let b = first_rows setup B in
    let pair = pair_of setup A in
    let t = (lint_aligned a b pair plan).0 aligned in
    both (OneEnd plan setup)
    (record { taken = t.0.1; keyed = (gap_exactly a pair plan.from plan.to None).0 t.1 })
    (record { taken = t.0.0; keyed = (gap_exactly b (mirrored pair) plan.from plan.to None).0 t.2 })

live_kept : (e : End) (w : World) (others sessions : List Session) (r : Session) → live sessions ≡ Some r → AllKept e w.history others sessions → forgeries_in e r.state.isn w.history ≡ 0 → Kept others r.state
live_kept e w others [] r lives h none = absurd (cc)
live_kept e w others (s ∷ rest) r lives h none =
    let same = some_is s r lives in
    subst (λ (x : Session). Kept others x.state) same (h.0 (subst (λ (x : Session). forgeries_in e x.state.isn w.history ≡ 0) (sym same) none))

plain_known : (d : Segment) (s r : EndState) (b : Bool) → (if b then (if has ACK d then is_known s.peer_isn r.isn else true) else is_known s.peer_isn r.isn && is_known r.peer_isn s.isn) ≡ true → b ≡ false → r.peer_isn ≡ Some s.isn
plain_known d s r true e f = absurd (cc)
plain_known d s r false e f = known_is r.peer_isn s.isn (and_tells (is_known s.peer_isn r.isn) (is_known r.peer_isn s.isn) e).1

near_if : (n x isn next given : ℕ) → isn ≤ n → n ≤ next → next ≤ isn + 2 + given → given ≤ 2147450880 → isn + 1 ≤ x → x ≤ isn + 2 + given → IsNear n x
near_if n x isn next given low high top few begun below = record { ahead = omega arith; behind = omega arith }

module _ (setup : Setup) (fits : SetupFits setup) (events : List Event) (f : AllByRecursion EventFits events) (short : length events ≤ few_events) where
  near : (e : End) (name : ℕ) (m : Made) (c : ComesAsMade (run setup events) e name m) → forgeries_in e c.receiver.state.isn (run setup events).history ≡ 0 → has SYN m.emission.segment ≡ false
      → IsNear m.emission.number c.receiver.state.expected
  near e name m c none plain =
      let w = run setup events in
      let inv = run_inv setup fits events f in
      let others = (side w (other e)).sessions in
      let ok = named_ok setup fits w name w.history m inv.made c.made in
      let sender : ok.session ≡ c.sender = some_is ok.session c.sender (sym ok.found ∙ ap (λ (g : End). find (side w g).sessions m.isn) c.maker ∙ c.sent) in
      let h : MadeBy setup c.sender.state m = subst (λ (x : Session). MadeBy setup x.state m) sender ok.by in
      let s = c.sender.state in
      let r = c.receiver.state in
      let sound : Sound s = of_found (λ x. Sound x.state) others m.isn c.sender c.sent (inv.sound (other e)) in
      let given : length s.given ≤ 2147450880 = of_found (λ x. length x.state.given ≤ 2147450880) others m.isn c.sender c.sent (gives_at_most setup events short (other e)) in
      let kept = live_kept e w others (side w e).sessions c.receiver c.lives ((run_apart setup fits events f).kept e) none in
      let whole = live_whole (side w e).sessions c.receiver c.lives (inv.whole e) in
      let known : r.peer_isn ≡ Some s.isn = plain_known m.emission.segment s r (has SYN m.emission.segment) c.addressed plain in
      let found : find others s.isn ≡ Some c.sender = ap (find others) (find_isn others m.isn c.sender c.sent) ∙ c.sent in
      let number : m.emission.number ≡ h.draft.number = ap (λ x. x.number) h.emission in
      let isn : s.isn ≡ h.state.isn = h.later.same_isn in
      let low = h.carries.low in
      let sent = h.sent in
      let top = sound.next_high in
      near_if m.emission.number r.expected s.isn s.next (length s.given) (omega arith) (omega arith) top given (expected_low r s.isn whole known)
      (⊎_elim (λ (x : r.expected ≤ s.isn + 1). let y : r.expected ≤ s.isn + 2 + length s.given = omega arith in y) (λ (x : r.expected ≤ s.next). let y : r.expected ≤ s.isn + 2 + length s.given = omega arith in y)
      (expected_high others r s.isn c.sender whole kept.received known found))

  carried : (plan : Plan) → TablesFit setup → AllByRecursion KeepsTables events → (e : End) → OneEnd plan setup e → Carries plan setup (run setup events) e
  carried plan tables keeps e one =
      let w = run setup events in
      let inv = run_inv setup fits events f in
      let steady = run_steady setup events keeps in
      let covered : IsPlanned plan (side w e).clock → IsCovered setup w e =
      λ now. record { low = plan.from; high = plan.to; no_gap = subst (λ (rows : List Row). IsGap rows (pair_of setup e) plan.from plan.to None) (sym (steady.rows e)) one.keyed; after = now.after; before = now.before } in
      record {
        admits = λ name m c time none.
            let rows : m.rows ≡ first_rows setup (other e) = named_under setup name w.history m steady.made c.made ∙ ap (first_rows setup) c.maker in
            let aligned : AlignedFrom m.rows (side w e).rows (pair_of setup (other e)) plan.lead plan.lag =
            subst (λ (x : List Row). AlignedFrom x (side w e).rows (pair_of setup (other e)) plan.lead plan.lag) (sym rows)
            (subst (λ (x : List Row). AlignedFrom (first_rows setup (other e)) x (pair_of setup (other e)) plan.lead plan.lag) (sym (steady.rows e)) one.taken) in
            let turns : RollsOver setup w e name m = record {
              made = c.made;
              maker = c.maker;
              lead = plan.lead;
              lag = plan.lag;
              early = time.early;
              late = time.late;
              aligned = aligned;
              sender = c.sender;
              sent = c.sent;
              receiver = c.receiver;
              lives = c.lives;
              awake = c.awake;
              addressed = c.addressed;
              near = λ plain. near e name m c none plain;
            } in
            rolls_over setup fits tables w e name m inv turns;
        sends = λ now. (never_keyless setup w e (covered now)).0;
        resends = λ now. (never_keyless setup w e (covered now)).1;
      }

pub aligned_carries : (plan : Plan) (setup : Setup) → SetupFits setup → TablesFit setup → IsAligned plan setup → CarriesEveryRun plan setup
aligned_carries plan setup fits tables aligned events f keeps short e = carried setup fits events f short plan tables keeps e (each_end plan setup aligned e)
