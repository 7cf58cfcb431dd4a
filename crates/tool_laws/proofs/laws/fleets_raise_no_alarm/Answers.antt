use Rattle.tool_laws.proofs.FleetRuns.{fleets_quiet}
use Rattle.tool_laws.proofs.laws.fleets_raise_no_alarm.Goals as goal

pub returns : goal.returns
returns c = fleets_quiet c.a_text_has_one_model.ensures.one c.texts_raise_no_alarm.ensures c.texts_keep_the_headline.ensures
