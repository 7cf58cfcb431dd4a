use Rattle.std.proofs.Common.{◌∙◌, sym, ap}
use Rattle.null_calls_temporaries.specs.Sited.{called_where}
use Rattle.null_calls_temporaries.proofs.SiteLemmas.{call_there, no_call_there, past_table}
use Rattle.null_calls_temporaries.proofs.marked_sites.MarkedSites.after.Goals as goal

pub returns-in_default : goal.returns-in_default
returns-in_default c = past_table c.args.self.now c.args.before.now c.in_default.ensures.none

pub returns-in-Some-called : goal.returns-in-Some-called
returns-in-Some-called c = call_there c.args.self.now c.in-Some.site c.args.before.now c.in-Some-called.called c.in-Some.ensures.some (sym (ap called_where c.in-Some-called.is) ∙ c.called.ensures)

pub returns-in-None : goal.returns-in-None
returns-in-None c = no_call_there c.args.self.now c.in-Some.site c.args.before.now c.in-Some.ensures.some (sym (ap called_where c.in-None.is) ∙ c.called.ensures)
