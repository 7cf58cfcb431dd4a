use Rattle.tool_reading.proofs.PictureLemmas.{is_too_long}
use Rattle.tool_reading.proofs.picture_command.picture_of_model.Goals as goal

pub returns-in-Ok-too_long_line-clause-stop : goal.returns-in-Ok-too_long_line-clause-stop
returns-in-Ok-too_long_line-clause-stop g c =
    is_too_long (g.S.Store.files c.args.store.now) c.args.name.now c.in-Ok-too_long_line.line.items c.in_ok-model.model c.in_ok-model.ensures.model (c.in-Err-TooLarge.ensures.long c.in-Err-TooLarge.field-0-is) c.in-Ok-too_long_line.ensures
