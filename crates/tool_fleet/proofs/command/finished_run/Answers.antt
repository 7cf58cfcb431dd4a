use Rattle.std.proofs.Common.{◌∙◌, ap, subst, sym, All}
use Rattle.tool_fleet.specs.Fleet.{fleet_text, status_of_all}
use Rattle.tool_fleet.specs.Inputs.{IsTellableReport}
use Rattle.tool_fleet.proofs.command.finished_run.Goals as goal

pub conclude-requires : goal.conclude-requires
conclude-requires c = subst (All IsTellableReport) (sym c.deref.ensures.value) c.in_ok-reports.ensures.tellable

pub returns-clause-run : goal.returns-clause-run
returns-clause-run c = record {
  reports = c.in_ok-reports.reports.items;
  reported = c.in_ok-reports.ensures.reported;
  ends = c.in_ok-finished.ensures.status ∙ ap status_of_all c.deref.ensures.value;
  writes = c.in_ok-finished.ensures.text ∙ ap fleet_text c.deref.ensures.value;
}
