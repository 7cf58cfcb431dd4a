use Rattle.std.proofs.Common.{arith}
use Rattle.c_meaning.specs.CallGraph.{marked}
use Rattle.c_tree.specs.View.{program_of}
use Rattle.tool_audit.proofs.SummaryLemmas.{at_most_one, counted_more, counted_all}
use Rattle.tool_audit.proofs.summary.marked_count.Goals as goal

pub overflow_add-count : goal.overflow_add-count
overflow_add-count c =
    let one = at_most_one c.marked-is_marked.result c.one_if-count.result c.one_if-count.ensures in
    let most = (c.sites-sites.ensures.typed).few_sites in
    omega (arith, one, most, c.loop-site.invariant.few, c.loop-site-test.true)

pub loop-site-preserved : goal.loop-site-preserved
loop-site-preserved c =
    let p = program_of c.args.program.now in
    let one = at_most_one c.marked-is_marked.result c.one_if-count.result c.one_if-count.ensures in
    record {
      count = counted_more (marked p) c.loop-site.site c.loop-site.count c.one_if-count.result c.marked-is_marked.result c.loop-site.invariant.count (c.marked-is_marked.ensures p c.in_ok-calls.ensures) c.one_if-count.ensures;
      few = omega (arith, one, c.loop-site.invariant.few);
    }

pub returns : goal.returns
returns c =
    counted_all (program_of c.args.program.now) c.sites-sites.result c.loop-site.site c.loop-site.count c.sites-sites.ensures.typed c.loop-site-test.false c.loop-site.auto.site-end c.loop-site.invariant.count
