use Rattle.std.proofs.Common.{arith}
use Rattle.inline_model.proofs.HeightLemmas.{height_few}
use Rattle.inline_model.proofs.reading.height_above.Goals as goal

pub overflow_add-result : goal.overflow_add-result
overflow_add-result c = omega (arith, height_few c.args.heights.now c.requires.low c.args.function c.height_at.result c.height_at.ensures)
