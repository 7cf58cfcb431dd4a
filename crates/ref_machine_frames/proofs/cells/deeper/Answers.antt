use Rattle.std.proofs.Common.{rules}
use Rattle.ref_machine_frames.proofs.CellLemmas.{struct_step, structs_done}
use Rattle.ref_machine_frames.proofs.cells.deeper.Goals as goal

pub loop-members-preserved : goal.loop-members-preserved
loop-members-preserved c = record {
  many = search rules;
  counted = struct_step c.args.structs.now c.args.counts.now c.loop-members.next.items c.push.new.self.items c.loop-members.members-index c.members-item.result c.cells_of_struct.result c.loop-members-test.true c.members-item.is c.loop-members.invariant.many c.loop-members.invariant.counted c.cells_of_struct.ensures (search rules);
}

pub returns : goal.returns
returns c depth h = structs_done c.args.structs.now c.loop-members.next.items c.loop-members.members-index depth c.loop-members.invariant.many c.loop-members-test.false (search rules) (c.loop-members.invariant.counted depth h)
