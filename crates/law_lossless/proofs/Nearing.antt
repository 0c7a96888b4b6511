-- What the near end of a turn knows of the far one's window afterwards.
use Rattle.std.proofs.Common.{◌≡◌, ℕ, [], ◌∷◌, Option, Some, sym, ap, ◌∙◌, subst, if◌then◌else◌}
use Rattle.book_base.specs.declared.end.End.{End}
use Rattle.book_segments.specs.Segments.{Reading, Read, reading, RST, ACK}
use Rattle.book_segments.proofs.Fields.{some_is}
use Rattle.book_endpoint.specs.States.{EndState, window}
use Rattle.book_endpoint.specs.Arrivals.{arrive}
use Rattle.book_endpoint.specs.Emissions.{Emitted, Quiet, Emits, sets, told_window, sealed}
use Rattle.book_link.specs.declared.event.Event.{Event}
use Rattle.book_link.specs.declared.event.Event.TheVariants.{At}
use Rattle.book_link.specs.declared.event.Action.TheVariants.{Deliver}
use Rattle.book_link.specs.Outcomes.{Outcome, Sent}
use Rattle.book_link.specs.Worlds.{other, Setup, pair_of, Session, Made, Making, World, side, live, segment_named}
use Rattle.book_link.specs.Steps.{Stepped, Act, add, acted, on_live, quietly, made_of, sent, come, deliver, step, view_of}
use Rattle.book_link.specs.Runs.{run_from}
use Rattle.law_link.specs.Laws.{SetupFits, EventFits}
use Rattle.law_link.proofs.Invariant.{wired}
use Rattle.law_link.proofs.Running.{named_ok}
use Rattle.law_progress.specs.Progress.{delivering}
use Rattle.law_progress.proofs.Acting.{instead, instead_here, instead_other, act_live}
use Rattle.law_progress.proofs.Facts.{Facts}
use Rattle.law_progress.proofs.Finishing.{named_last}
use Rattle.law_progress.proofs.Kept.{facts_step}
use Rattle.law_progress.proofs.Making.{PlainFlags, if_on, if_off, Makes}
use Rattle.law_progress.proofs.Turning.{Two, far_lives}
use Rattle.law_lossless.proofs.Windows.{IsTold, arrive_told}

-- a segment with ACK and without RST tells the window
tells_window : (s : EndState) (flags : ℕ) → PlainFlags flags → told_window s flags ≡ window s
tells_window s flags plain = if_off (sets flags RST) 0 (if sets flags ACK then window s else 65535) plain.rst ∙ if_on (sets flags ACK) (window s) 65535 plain.ack

module _ (setup : Setup) (fits : SetupFits setup) (w : World) (lead lag : ℕ) (y : End) (a b : Session) (two : Two setup w lead lag y a b) where
  -- a call on the far end leaves the near one
  near_stays : (call : EndState → Act) → live (side (on_live w (other y) call).world y).sessions ≡ Some b
  near_stays call =
      let x = other y in
      let acts = (act_live w x call a (far_lives setup w lead lag y a b two)).0 in
      acts.lives two.up.session two.up.lives y ∙ ap (λ (s : Session). Some s) (instead_other y (acted a (call a.state)) two.up.session ∙ two.near)

  pub near_quiet : (ev : Event) (without : Outcome) (f : EndState → Emitted) → delivering y without ≡ [] → step setup w ev ≡ on_live w (other y) (λ (s : EndState). sent (view_of setup w (other y)) s without (f s)) → f a.state ≡ Quiet
      → (k : Session) → live (side (run_from setup w (ev ∷ delivering y (step setup w ev).outcome)) y).sessions ≡ Some k → k ≡ b
  near_quiet ev without f nothing is quiet k lives =
      let x = other y in
      let call = λ (s : EndState). sent (view_of setup w x) s without (f s) in
      let act_is : call a.state ≡ quietly a.state without = ap (sent (view_of setup w x) a.state without) quiet in
      let w2 = (on_live w x call).world in
      let outcome : (on_live w x call).outcome ≡ without = (act_live w x call a (far_lives setup w lead lag y a b two)).1 ∙ ap (λ (m : Act). m.outcome) act_is in
      let v_is : w2 ≡ run_from setup w (ev ∷ delivering y (step setup w ev).outcome) =
      ap (run_from setup w2) (sym (ap (delivering y) outcome ∙ nothing)) ∙ ap (λ (m : Stepped). run_from setup m.world (delivering y m.outcome)) (sym is) in
      let old : live (side (run_from setup w (ev ∷ delivering y (step setup w ev).outcome)) y).sessions ≡ Some b = subst (λ (m : World). live (side m y).sessions ≡ Some b) v_is (near_stays call) in
      some_is k b (sym lives ∙ old)

  pub near_made : (ev : Event) (without : Outcome) (f : EndState → Emitted) → EventFits ev → step setup w ev ≡ on_live w (other y) (λ (s : EndState). sent (view_of setup w (other y)) s without (f s)) → (m : Makes (pair_of setup (other y)) a.state (f a.state))
      → (k : Session) → live (side (run_from setup w (ev ∷ delivering y (step setup w ev).outcome)) y).sessions ≡ Some k → IsTold b.state k.state (window a.state)
  near_made ev without f ev_fits is m k lives =
      let x = other y in
      let em = sealed (pair_of setup x) a.state m.out m.sending m.context in
      let act = sent (view_of setup w x) a.state without (Emits em) in
      let made = made_of (view_of setup w x) a.state em in
      let call = λ (s : EndState). sent (view_of setup w x) s without (f s) in
      let act_is : call a.state ≡ act = ap (sent (view_of setup w x) a.state without) m.is in
      let w2 = (on_live w x call).world in
      let live_act = act_live w x call a (far_lives setup w lead lag y a b two) in
      let outcome : (on_live w x call).outcome ≡ Sent made = live_act.1 ∙ ap (λ (k : Act). k.outcome) act_is in
      let history : w2.history ≡ Making made ∷ w.history = live_act.0.history ∙ ap (λ (k : Act). add k.happened w.history) act_is in
      let named : segment_named made.name w2.history ≡ Some made = ap (segment_named made.name) history ∙ named_last made w.history in
      let facts2 : Facts setup w2 = subst (λ (k : Stepped). Facts setup k.world) is (facts_step setup fits w ev ev_fits two.facts) in
      let ok = named_ok setup fits w2 made.name w2.history made facts2.inv.made named in
      let reads : reading made.bytes ≡ Read em.segment = (wired setup ok.session.state made ok.by fits).reads in
      let v = (step setup w2 (At y (Deliver made.name))).world in
      let v_is : v ≡ run_from setup w (ev ∷ delivering y (step setup w ev).outcome) =
      ap (λ (o : Outcome). run_from setup w2 (delivering y o)) (sym outcome) ∙ ap (λ (k : Stepped). run_from setup k.world (delivering y k.outcome)) (sym is) in
      let hear = come made.bytes (view_of setup w2 y) in
      let come_is : (on_live w2 y hear).world ≡ v = ap (λ (o : Option Made). (deliver setup w2 y o).world) (sym named) in
      let u = acted b (hear b.state) in
      let sessions = instead x (acted a (call a.state)) two.up.session in
      let heard = (act_live w2 y hear b (near_stays call)).0 in
      let now : live (side (on_live w2 y hear).world y).sessions ≡ Some u =
      heard.lives sessions (live_act.0.lives two.up.session two.up.lives) y ∙ ap (λ (s : Session). Some s) (instead_here y u sessions) in
      let old : live (side (run_from setup w (ev ∷ delivering y (step setup w ev).outcome)) y).sessions ≡ Some u =
      subst (λ (k : World). live (side k y).sessions ≡ Some u) (come_is ∙ v_is) now in
      let same : u ≡ k = some_is u k (sym old ∙ lives) in
      let rows = (side w2 y).rows in
      let pair = pair_of setup y in
      let clock = (side w2 y).clock in
      let told : IsTold b.state (arrive rows pair clock b.state (Read em.segment)).state em.segment.window = arrive_told rows pair clock b.state em.segment in
      let came : IsTold b.state u.state em.segment.window = subst (λ (r : Reading). IsTold b.state (arrive rows pair clock b.state r).state em.segment.window) (sym reads) told in
      let tells : em.segment.window ≡ window a.state = tells_window a.state m.out.flags m.flags in
      subst (λ (s : Session). IsTold b.state s.state (window a.state)) same (subst (IsTold b.state u.state) tells came)
