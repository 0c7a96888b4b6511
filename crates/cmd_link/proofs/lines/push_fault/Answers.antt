use Rattle.std.proofs.Common.{codes, decimal, ◌∷◌, []}
use Rattle.book_lines.specs.Texts.{end_text}
use Rattle.book_cmd_link.specs.BgpRuns.{bgp_fault_text}
use Rattle.cmd_link.proofs.LineLaws.{in_turn}
use Rattle.cmd_link.proofs.lines.push_fault.Goals as goal

pub returns : goal.returns
returns c =
    let p = c.args.place.now in
    let first = rw c.from.ensures at c.in_ok-push_decimal.ensures in
    in_turn c.push_newline.result c.args.out.now.items _ _ _ _ (decimal p.number) (codes "bgp-fault" ∷ end_text p.end ∷ decimal p.session ∷ [])
    (bgp_fault_text c.args.fault ∷ codes "at" ∷ decimal c.args.at ∷ []) first c.in_ok-push_place.ensures c.in_ok-push_reason.ensures
    c.push_newline.ensures
