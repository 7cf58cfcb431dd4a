use Rattle.std.proofs.Common.{◌≤◌, length, arith}
use Rattle.inline_model.specs.declared.table.Entry.{Entry}
use Rattle.inline_model.proofs.RangeLemmas.{places_rise, next_found, next_missing}
use Rattle.inline_model.proofs.table.next_place.Goals as goal

pub count_before-at-requires : goal.count_before-at-requires
count_before-at-requires c = places_rise c.args.function c.entries_of-own.result.now c.entries_of-own.ensures.rise (λ e has. ((c.entries_of-own.ensures.has e).0 has).1)

pub returns-then-at-own-clause-some : goal.returns-then-at-own-clause-some
returns-then-at-own-clause-some c = next_found c.args.entries.now c.entries_of-own.result.now c.args.function c.args.from c.count_before-at.result c.entries_of-own.ensures.has c.entries_of-own.ensures.rise c.count_before-at.ensures.before c.count_before-at.ensures.after (record { function = 0; place = 0; candidate = 0 }) c.if-at-own.true

pub returns-clause-none : goal.returns-clause-none
returns-clause-none c = next_missing c.args.entries.now c.entries_of-own.result.now c.args.function c.args.from c.count_before-at.result c.entries_of-own.ensures.has c.entries_of-own.ensures.rise c.count_before-at.ensures.before c.count_before-at.ensures.after c.if-at-own.false
