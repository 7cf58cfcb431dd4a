use Rattle.std.proofs.Common.{refl}
use Rattle.tool_texts.proofs.TextFiles.{checks}
use Rattle.tool_texts.proofs.check_command.check_source.Goals as goal

pub returns-clause-made : goal.returns-clause-made
returns-clause-made g c = (refl, checks (g.S.Store.files c.args.store.now) c.args.name.now c.in_ok-text.text.items c.in_ok-source.source c.in_ok-source.ensures.read c.in_ok-text.ensures)
