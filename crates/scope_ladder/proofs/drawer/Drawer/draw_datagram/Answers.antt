use Rattle.std.proofs.Common.{refl}
use Rattle.scope_ladder.proofs.Drawn.{adds_told}
use Rattle.scope_ladder.proofs.drawer.Drawer.draw_datagram.Goals as goal

pub returns : goal.returns
returns g c q rungs k follows =
    let before = c.args.self.now in
    adds_told c.keep_shown.result q before
    (record { alloc = before.alloc; form = before.form; within = before.within; listener = c.hear.new.self; search = c.place.new.self; left = c.left_with-self.result; text = c.push_shown.new.out; kept = c.keep_shown.new.kept }) rungs k follows
    c.args.packet c.args.time c.args.datagram.now c.in_ok-heard.heard c.session_rung-rung.result c.in_ok-shown.shown
    (record {
      empty = c.requires;
      form = refl;
      within = refl;
      number = c.in_ok-shown.ensures.number;
      seeks = c.in_ok-shown.ensures.seeks;
      text = c.in_ok-shown.ensures.shown;
      rungs = c.in_ok-shown.ensures.rungs;
      left = c.left_with-self.ensures;
      pushed = c.in_ok-push_shown.ensures;
    }) c.in_ok-heard.ensures.heard c.in_ok-heard.ensures.judging c.session_rung-rung.ensures c.keep_shown.ensures
