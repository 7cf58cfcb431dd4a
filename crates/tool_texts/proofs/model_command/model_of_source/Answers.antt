use Rattle.std.proofs.Common.{refl}
use Rattle.tool_texts.proofs.TextFiles.{models, stops_modelling, stops_reading}
use Rattle.tool_texts.proofs.model_command.model_of_source.Goals as goal

pub returns-in-Ok-clause-made : goal.returns-in-Ok-clause-made
returns-in-Ok-clause-made g c = (refl, models (g.S.Store.files c.args.store.now) c.args.name.now c.in-Ok.text.items c.in_ok-source.source c.in_ok-source.ensures.read c.in-Ok.ensures.made)

pub returns-clause-stop : goal.returns-clause-stop
returns-clause-stop g c = stops_modelling (g.S.Store.files c.args.store.now) c.args.name.now c.in_ok-source.source c.in-Err.stop _ _ c.in_ok-source.ensures.read c.in-Err.ensures.stop
