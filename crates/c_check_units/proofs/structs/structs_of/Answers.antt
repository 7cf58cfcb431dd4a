use Rattle.std.proofs.Common.{rules, sym, ◌∙◌}
use Rattle.c_check_values.specs.View.{env_of}
use Rattle.c_check_units.proofs.StructLemmas.{structs_more, structs_all}
use Rattle.c_check_units.proofs.structs.structs_of.Goals as goal

pub loop-s-preserved : goal.loop-s-preserved
loop-s-preserved c =
    structs_more (env_of c.args.env.now).structs c.len-count.result c.loop-s.s c.in_ok-members.members c.loop-s.structs.items c.push.new.self.items c.loop-s-test.true c.in_ok-members.ensures c.loop-s.invariant (search rules)

pub returns : goal.returns
returns c size = structs_all (env_of c.args.env.now).structs c.len-count.result c.loop-s.s c.loop-s.structs.items c.loop-s-test.false c.loop-s.invariant (size ∙ sym c.len-count.ensures.is)
