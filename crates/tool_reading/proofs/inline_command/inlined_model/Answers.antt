use Rattle.std.proofs.Common.{refl}
use Rattle.tool_reading.proofs.InlineLemmas.{inlines, stops_inlining}
use Rattle.tool_reading.proofs.inline_command.inlined_model.Goals as goal

pub returns-in-Ok-clause-made : goal.returns-in-Ok-clause-made
returns-in-Ok-clause-made g c = (refl, inlines (g.S.Store.files c.args.store.now) c.args.name.now c.in-Ok.text.items c.in_ok-model.model c.in_ok-model.ensures.model c.in-Ok.ensures.text)

pub returns-clause-stop : goal.returns-clause-stop
returns-clause-stop g c = stops_inlining (g.S.Store.files c.args.store.now) c.args.name.now c.in_ok-model.model c.in-Err.stop _ _ c.in_ok-model.ensures.model c.in-Err.ensures.stop
