use Rattle.std.proofs.Common.{get_or}
use Rattle.std.proofs.lemmas.List.Elements.{Contains-get_or}
use Rattle.inline_model.proofs.answer.sites_at.Goals as goal

pub site_of-requires : goal.site_of-requires
site_of-requires c = c.requires (get_or c.args.places.now c.loop-place.place-index 0) (Contains-get_or c.args.places.now c.loop-place.place-index 0 c.loop-place-test.true)
