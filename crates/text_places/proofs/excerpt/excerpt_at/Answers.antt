use Rattle.std.proofs.Common.{◌∙◌}
use Rattle.text_places.proofs.LineLemmas.{part_from_cut}
use Rattle.text_places.proofs.excerpt.excerpt_at.Goals as goal

pub returns-clause-from : goal.returns-clause-from
returns-clause-from c =
    c.first_line.ensures ∙ part_from_cut c.args.text.now c.split_at.result.1.now c.args.place c.min.result c.min-2.result c.min.ensures c.split_at.ensures.back c.min-2.ensures
