use Rattle.std.proofs.Common.{get_or, max, ap, ◌∙◌}
use Rattle.std.proofs.lemmas.List.{get_or_default}
use Rattle.std.proofs.lemmas.List.Elements.{Contains-get_or}
use Rattle.inline_model.specs.declared.table.Entry.{Entry}
use Rattle.inline_model.proofs.HeightLemmas.{greatest_more}
use Rattle.inline_model.proofs.reading.height_of.Goals as goal

pub height_above-requires-clause-known : goal.height_above-requires-clause-known
height_above-requires-clause-known c =
    let d : Entry = record { function = 0; place = 0; candidate = 0 } in
    let k = c.loop-entry.entry-index in
    c.requires.known (get_or c.args.entries.now k d) (Contains-get_or c.args.entries.now k d c.loop-entry-test.true)

pub loop-entry-preserved : goal.loop-entry-preserved
loop-entry-preserved c =
    let d : Entry = record { function = 0; place = 0; candidate = 0 } in
    let k = c.loop-entry.entry-index in
    let e = get_or c.args.entries.now k d in
    let known = c.height_above.ensures in
    greatest_more c.args.entries.now c.args.heights.now k c.loop-entry.greatest known.0 e c.max-greatest.result c.loop-entry-test.true (get_or_default c.args.entries.now k d e c.loop-entry-test.true) c.loop-entry.invariant known.1
    (c.max-greatest.ensures ∙ ap (max c.loop-entry.greatest) known.2)
