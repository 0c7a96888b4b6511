use Rattle.packet_check.proofs.TallyLaws.{tallies_more}
use Rattle.packet_check.proofs.tally.Tally.with.Goals as goal

pub returns : goal.returns
returns c = λ classes tallies.
    tallies_more c.args.self _ classes c.args.class c.is_passing.result c.is_refused.result c.is_foreign.result c.is_other.result c.is_amiss_class.result tallies c.is_passing.ensures c.is_refused.ensures c.is_foreign.ensures c.is_other.ensures
    c.is_amiss_class.ensures c.in_ok-passing.ensures c.in_ok-refused.ensures c.in_ok-foreign.ensures c.in_ok-others.ensures c.is_either-amiss.ensures
