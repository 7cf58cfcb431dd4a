use Rattle.std.proofs.Common.{arith}
use Rattle.inline_model.proofs.RangeLemmas.{functions_rise, in_turn, range_has, range_rises}
use Rattle.inline_model.proofs.table.entries_of.Goals as goal

pub count_below-from-requires : goal.count_below-from-requires
count_below-from-requires c = functions_rise c.args.entries.now c.requires

pub count_through-to-requires : goal.count_through-to-requires
count_through-to-requires c = functions_rise c.args.entries.now c.requires

pub slice_bounds-result-count : goal.slice_bounds-result-count
slice_bounds-result-count c = omega (arith, in_turn c.args.entries.now c.args.function c.count_below-from.result c.count_through-to.result c.requires c.count_below-from.ensures.within c.count_through-to.ensures.within c.count_below-from.ensures.before c.count_below-from.ensures.after c.count_through-to.ensures.before c.count_through-to.ensures.after)

pub slice_bounds-result-start : goal.slice_bounds-result-start
slice_bounds-result-start c = omega (arith, in_turn c.args.entries.now c.args.function c.count_below-from.result c.count_through-to.result c.requires c.count_below-from.ensures.within c.count_through-to.ensures.within c.count_below-from.ensures.before c.count_below-from.ensures.after c.count_through-to.ensures.before c.count_through-to.ensures.after)

pub returns-clause-has : goal.returns-clause-has
returns-clause-has c = range_has c.args.entries.now c.args.function c.count_below-from.result c.count_through-to.result c.requires c.count_below-from.ensures.within c.count_through-to.ensures.within c.count_below-from.ensures.before c.count_below-from.ensures.after c.count_through-to.ensures.before c.count_through-to.ensures.after

pub returns-clause-rise : goal.returns-clause-rise
returns-clause-rise c = range_rises c.args.entries.now c.args.function c.count_below-from.result c.count_through-to.result c.requires c.count_below-from.ensures.within c.count_through-to.ensures.within c.count_below-from.ensures.before c.count_below-from.ensures.after c.count_through-to.ensures.before c.count_through-to.ensures.after
