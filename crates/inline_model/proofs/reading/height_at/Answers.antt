use Rattle.std.proofs.lemmas.Option.{slice_get_within}
use Rattle.std.proofs.Common.{Some}
use Rattle.inline_model.proofs.reading.height_at.Goals as goal

pub bounds-heights-function : goal.bounds-heights-function
bounds-heights-function c = slice_get_within c.args.heights.now c.args.function (Some c.requires.0) c.requires.1
