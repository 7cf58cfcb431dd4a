use Rattle.tool_laws.proofs.Judged.{judged_accepted}
use Rattle.tool_laws.proofs.laws.judged_runs_are_accepted.Goals as goal

pub returns : goal.returns
returns c = judged_accepted c.a_text_is_accepted_as_one_program.ensures c.a_plain_text_is_accepted_in_both_modes.ensures c.a_text_has_one_model.ensures.one c.texts_raise_no_alarm.ensures
