use Rattle.std.proofs.Common.{◌≤◌, length, ap, ◌∙◌, arith}
use Rattle.std.specs.Prelude.{slice_range}
use Rattle.callgraph_monitor.proofs.LaidLemmas.{next_known, part_rises, part_within, part_read}
use Rattle.callgraph_monitor.proofs.quiet.QuietEdges.from.Goals as goal
use Rattle.callgraph_monitor.proofs.quiet.QuietEdges.from.Goals.{After-deref}

pub index-from-requires : goal.index-from-requires
index-from-requires c = omega (arith, next_known c.self.inside.starts.items c.self.inside.ends.items c.args.self.now c.self.invariant c.self.view_is c.args.node c.requires)

pub index-to-requires : goal.index-to-requires
index-to-requires c = omega (arith, next_known c.self.inside.starts.items c.self.inside.ends.items c.args.self.now c.self.invariant c.self.view_is c.args.node c.requires)

rises : (c : After-deref) → c.index-from.result.now ≤ c.index-to.result.now
rises c = part_rises c.self.inside.starts.items c.self.inside.ends.items c.args.self.now c.self.invariant c.self.view_is c.args.node c.requires c.index-from.result.now c.index-to.result.now c.index-from.ensures c.index-to.ensures

within : (c : After-deref) → c.index-to.result.now ≤ length c.deref.result.now
within c = omega (arith, part_within c.self.inside.starts.items c.self.inside.ends.items c.args.self.now c.self.invariant c.self.view_is c.args.node c.requires c.index-from.result.now c.index-to.result.now c.index-from.ensures c.index-to.ensures, ap length c.deref.ensures.value)

pub offset_bounds-deref-from : goal.offset_bounds-deref-from
offset_bounds-deref-from c = omega (arith, rises c, within c, c.deref.type_inv.1)

pub slice_bounds-result-count : goal.slice_bounds-result-count
slice_bounds-result-count c = rises c

pub slice_bounds-result-start : goal.slice_bounds-result-start
slice_bounds-result-start c = omega (arith, rises c)

pub slice_bounds-result-end : goal.slice_bounds-result-end
slice_bounds-result-end c = omega (arith, within c)

pub returns : goal.returns
returns c =
    ap (λ xs. slice_range xs c.index-from.result.now c.index-to.result.now) c.deref.ensures.value
    ∙ part_read c.self.inside.starts.items c.self.inside.ends.items c.args.self.now c.self.invariant c.self.view_is c.args.node c.requires c.index-from.result.now c.index-to.result.now c.index-from.ensures c.index-to.ensures
