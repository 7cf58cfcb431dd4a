use Rattle.std.proofs.Common.{refl, sym, ◌∙◌}
use Rattle.std.proofs.lemmas.Bool.{false≢true}
use Rattle.inline_model.proofs.HeightLemmas.{completes_known, completes_one, height_from, height_next, stays_one, stays_same}
use Rattle.inline_model.proofs.reading.complete_one.Goals as goal

pub height_of-height-requires-clause-known : goal.height_of-height-requires-clause-known
height_of-height-requires-clause-known c = λ e has. let both = (c.entries_of.ensures.has e).0 has in c.requires.ready.candidates e both.0 both.1

pub returns-then-is_known-clause-completes : goal.returns-then-is_known-clause-completes
returns-then-is_known-clause-completes c = λ g are right. completes_known g c.args.heights.now c.args.function right (c.is_known.ensures.0 c.if-is_known.true)

pub returns-then-is_known-clause-stays : goal.returns-then-is_known-clause-stays
returns-then-is_known-clause-stays c = stays_same c.args.heights.now c.requires.low

pub returns-clause-completes : goal.returns-clause-completes
returns-clause-completes c = λ g are right.
    completes_one g c.args.heights.now _ c.args.function c.height_of-height.result right c.requires.ready.within refl
    (height_from g c.args.entries.now c.entries_of.result.now c.args.function are c.entries_of.ensures.has c.args.heights.now right c.height_of-height.result c.height_of-height.ensures)

pub returns-clause-stays : goal.returns-clause-stays
returns-clause-stays c =
    let next = height_next c.entries_of.result.now c.args.heights.now c.height_of-height.result c.requires.low c.height_of-height.ensures in
    stays_one c.args.heights.now _ c.args.function c.height_of-height.result c.requires.low c.requires.ready.within (λ known. false≢true (sym c.if-is_known.false ∙ c.is_known.ensures.1 known)) next refl
