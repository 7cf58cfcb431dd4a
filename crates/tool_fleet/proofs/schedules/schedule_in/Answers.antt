use Rattle.std.proofs.Common.{ℕ, List, subst}
use Rattle.dm_io.specs.Store.{IsMissing}
use Rattle.fleet_schedule.specs.ScheduleText.{IsScheduleRefusal, IsScheduleWithin}
use Rattle.tool_fleet.proofs.ScheduleFiles.{schedule_of_file, stops_schedule}
use Rattle.tool_fleet.proofs.schedules.schedule_in.Goals as goal

pub returns-in-Ok-clause-read : goal.returns-in-Ok-clause-read
returns-in-Ok-clause-read g c =
    schedule_of_file (g.S.Store.files c.args.store.now) c.args.name.now c.in_ok-text.text.items c.in-Ok.schedule c.in_ok-text.ensures.whole
    (subst (λ (w : List ℕ). IsScheduleWithin w c.in-Ok.schedule) c.deref.ensures.value c.in-Ok.ensures.read)

pub returns-clause-stop : goal.returns-clause-stop
returns-clause-stop g c =
    let told = g.S.Store.files c.args.store.now in
    stops_schedule told c.args.name.now c.in_ok-text.text.items c.in-Err.error c.refused_with.result (IsMissing told c.args.name.now) _ _ c.in_ok-text.ensures.whole
    (subst (IsScheduleRefusal c.in-Err.error) c.deref.ensures.value c.in-Err.ensures.refused) c.refused_with.ensures
