use Rattle.std.proofs.Common.{refl, sym, ◌∙◌}
use Rattle.scope_ladder.proofs.Drawn.{cut_told, one_read, rung_is}
use Rattle.scope_ladder.proofs.drawer.Drawer.draw_whole.Goals as goal

pub returns-in-Err : goal.returns-in-Err
returns-in-Err c q rungs k s fault d follows read cut = let impossible = sym c.in-Err.ensures.refused ∙ read in absurd (cc)

pub returns-in_ok-push_shown-in-Ok : goal.returns-in_ok-push_shown-in-Ok
returns-in_ok-push_shown-in-Ok c q rungs k s fault d follows read cut =
    let same = one_read c.in-Ok.datagram d (sym c.in-Ok.ensures.read ∙ read) in
    let before = c.args.self.now in
    cut_told c.keep_shown.result q before
    (record { alloc = before.alloc; form = before.form; within = before.within; listener = before.listener; search = c.place.new.self; left = c.left_with-self.result; text = c.push_shown.new.out; kept = c.keep_shown.new.kept }) rungs k follows
    s c.args.time fault d c.session_rung-rung.result c.in_ok-shown-in-Ok.shown cut.bad cut.cut
    (record {
      empty = c.requires;
      form = refl;
      within = refl;
      number = c.in_ok-shown-in-Ok.ensures.number;
      seeks = c.in_ok-shown-in-Ok.ensures.seeks;
      text = c.in_ok-shown-in-Ok.ensures.shown;
      rungs = c.in_ok-shown-in-Ok.ensures.rungs;
      left = c.left_with-self.ensures;
      pushed = c.in_ok-push_shown-in-Ok.ensures;
    }) refl (rung_is s c.args.packet c.args.time c.in-Ok.datagram d c.session_rung-rung.result cut.number same c.session_rung-rung.ensures) c.keep_shown.ensures
