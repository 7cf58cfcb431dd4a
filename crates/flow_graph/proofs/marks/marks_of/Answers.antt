use Rattle.std.proofs.Common.{◌≤◌, arith}
use Rattle.c_tree.specs.View.{program_of}
use Rattle.c_meaning.specs.CallGraph.{marked}
use Rattle.flow_graph.proofs.ProgramLemmas.{mark_more, all_marked}
use Rattle.flow_graph.proofs.marks.marks_of.Goals as goal

pub loop-site-preserved : goal.loop-site-preserved
loop-site-preserved c =
    let p = program_of c.args.program.now in
    mark_more (λ s. marked p s) c.loop-site.site c.loop-site.marks.items c.add.new.into.items c.marked.result c.loop-site.invariant c.in_ok-add.ensures (c.marked.ensures p c.requires)

pub returns : goal.returns
returns c = all_marked (program_of c.args.program.now) c.sites-site-end.result c.sites-site-end.ensures.typed c.loop-site.site c.loop-site.marks.items c.loop-site-test.false c.loop-site.auto.site-end c.loop-site.invariant
