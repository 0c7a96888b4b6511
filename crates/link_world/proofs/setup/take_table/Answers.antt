use Rattle.std.proofs.Common.{◌≡◌, ap, ◌∙◌}
use Rattle.book_keys.specs.Rows.{Table}
use Rattle.link_world.proofs.SetupLaws.{others_kept}
use Rattle.link_world.proofs.setup.take_table.Goals as goal

pub returns-in-Some-clause-others : goal.returns-in-Some-clause-others
returns-in-Some-clause-others c = λ other differ.
    let here : c.replace.new.dest.address ≡ c.args.address = ap (λ (t : Table). t.address) (c.replace.ensures.after ∙ c.empty.ensures) in
    others_kept c.args.address other c.replace.new.dest here differ c.args.tables.now
