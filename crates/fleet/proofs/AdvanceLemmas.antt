-- The clauses of a step.
use Rattle.std.proofs.Common.{◌≡◌, ◌≢◌, ℕ, ◌+◌, ◌-◌, ◌<◌, ◌^◌, true, List, ◌++◌, length, get_or, Result, Ok, Err, Some, refl, sym, ◌∙◌, ap, subst, arith, length-append, Contains}
use Rattle.std.specs.Prelude.{IsErr, slice_get}
use Rattle.std.proofs.Math.ListN.{set}
use Rattle.std.proofs.lemmas.Bool.{false≢true}
use Rattle.std.proofs.lemmas.List.Elements.{All-append}
use Rattle.std.proofs.lemmas.Option.{get_or_from_slice_get, slice_get_within}
use Rattle.dm_base.specs.declared.memory.OutOfMemory.{OutOfMemory}
use Rattle.flow_model.specs.declared.monitor.Monitor as monitor
use Rattle.flow_model.specs.Graph.{Graph}
use Rattle.trace_file.specs.declared.record.Record.{Record}
use Rattle.trace_file.specs.declared.version.TracesVersion.{TracesVersion}
use Rattle.trace_file.specs.declared.version.TracesVersion.TheVariants.{One}
use Rattle.watch.specs.declared.watch.Watch.{Watch}
use Rattle.watch.specs.Own.{own}
use Rattle.watch.specs.Watching.{StandsFor as WatchStandsFor}
use Rattle.fleet.specs.declared.advance.Advance.{Advance}
use Rattle.fleet.specs.declared.fleet.Fleet.{Fleet}
use Rattle.fleet.specs.declared.process.Process.{Process}
use Rattle.fleet.specs.declared.process.Stage.TheVariants as stages
use Rattle.fleet.specs.declared.standing.Standing.{Standing}
use Rattle.fleet.specs.Alone.{IsAlone, IsAnswer, IsTellable}
use Rattle.fleet.specs.Fleets.{Judged, StandsFor, added, advanced, failed, pids, watch_of}
use Rattle.fleet.specs.Going.{HasAdvanced, IsAt, IsReady, added_at, numbers}
use Rattle.fleet.specs.Members.{Group, Member, one_more, refused_to, run_of}
use Rattle.fleet.proofs.StepLemmas.{failed_at}
use Rattle.fleet.proofs.TellingLemmas.{failed_stage, tellable}
use Rattle.fleet.proofs.ZipLemmas.{some_same, map_at}
use Rattle.fleet.proofs.FleetLemmas.{added_few, added_known, among, change, find, found_group, found_pid, found_ready, one_member, own_added, stage_added, stands_after, watch_elsewhere, watch_here}

-- the place that was found
pub here_is : (ps qs : List Process) (place pid : ℕ) → ps ≡ qs → slice_get (numbers ps) place ≡ Some pid → slice_get (numbers qs) place ≡ Some pid
here_is ps qs place pid same here = ap (λ (l : List Process). slice_get (numbers l) place) (sym same) ∙ here

-- what an advance tells, where the lists are those of a fleet
pub moved_in : {M P : Type 0} (laws : monitor.Ghosts M P) (new : Fleet M P) (ps ps' : List Process) (ws ws' : List (Watch M P)) (place : ℕ) (answer : Result Advance OutOfMemory) → new.processes.items ≡ ps' → new.watches.items ≡ ws' → ((d : Process) (e : Watch M P) → (q : Process) × (v : Watch M P) × (ps' ≡ set ps place q) × (ws' ≡ set ws (get_or ps place d).group v) × HasAdvanced laws (get_or ps place d) q (get_or ws (get_or ps place d).group e) v answer) → (d : Process) (e : Watch M P) → (q : Process) × (v : Watch M P) × (new.processes.items ≡ set ps place q) × (new.watches.items ≡ set ws (get_or ps place d).group v) × HasAdvanced laws (get_or ps place d) q (get_or ws (get_or ps place d).group e) v answer
moved_in laws new ps ps' ws ws' place answer processes watches moved d e = let m = moved d e in (m.0, m.1, processes ∙ m.2, watches ∙ m.3, m.4)

module _ {M P : Type 0} (laws : monitor.Ghosts M P) (old : Fleet M P) (pid place : ℕ) (ps : List Process) (ws : List (Watch M P)) (ps_are : ps ≡ old.processes.items) (ws_are : ws ≡ old.watches.items) where
  module _ (groups : List Group) (members : List Member) (s : StandsFor laws old groups members) (here : slice_get (numbers old.processes.items) place ≡ Some pid) where
    process_is : (d : Process) → get_or ps place d ≡ (find laws old groups members pid place s here).process
    process_is d = ap (λ (l : List Process). get_or l place d) ps_are ∙ get_or_from_slice_get old.processes.items place (find laws old groups members pid place s here).process d (find laws old groups members pid place s here).here

    watch_is : (e : Watch M P) → get_or ws (find laws old groups members pid place s here).process.group e ≡ (find laws old groups members pid place s here).watch
    watch_is e =
        let found = find laws old groups members pid place s here in
        ap (λ (l : List (Watch M P)). get_or l found.process.group e) ws_are
        ∙ get_or_from_slice_get old.watches.items found.process.group found.watch e (ap (slice_get old.watches.items) (found_group laws old groups members pid place s found) ∙ found.watching)

    pub requires_group : (d : Process) → (get_or ps place d).group < length ws
    requires_group d =
        let found = find laws old groups members pid place s here in
        let within = slice_get_within old.watches.items found.member.group found.watch found.watching in
        let same : (get_or ps place d).group ≡ found.member.group = ap (λ (p : Process). p.group) (process_is d) ∙ found_group laws old groups members pid place s found in
        let long : length ws ≡ length old.watches.items = ap length ws_are in
        omega arith

    pub requires_ready : old.taken < 2 ^ 64 - 1 → (d : Process) (e : Watch M P) → (g : Group) × (records : List Record) × (m : Member) × IsReady laws g records (get_or ws (get_or ps place d).group e) (get_or ps place d).stage (get_or ps place d) m
    requires_ready less d e =
        let found = find laws old groups members pid place s here in (
          found.judged.group,
          found.judged.records,
          found.member,
          subst (λ (p : Process). IsReady laws found.judged.group found.judged.records (get_or ws p.group e) p.stage p found.member) (sym (process_is d))
              (subst (λ (w : Watch M P). IsReady laws found.judged.group found.judged.records w found.process.stage found.process found.member) (sym (watch_is e)) (found_ready laws old groups members pid place s found less)),
        )

    pub requires_judged : (d : Process) (e : Watch M P) → (g : Group) × (records : List Record) × (m : Member) × WatchStandsFor laws g.model g.bound One (get_or ws (get_or ps place d).group e) records × IsAt laws.WHICH g records (get_or ps place d) m
    requires_judged d e =
        let found = find laws old groups members pid place s here in (
          found.judged.group,
          found.judged.records,
          found.member,
          subst (λ (p : Process). WatchStandsFor laws found.judged.group.model found.judged.group.bound One (get_or ws p.group e) found.judged.records) (sym (process_is d))
              (subst (λ (w : Watch M P). WatchStandsFor laws found.judged.group.model found.judged.group.bound One w found.judged.records) (sym (watch_is e)) found.watches.stands),
          subst (λ (p : Process). IsAt laws.WHICH found.judged.group found.judged.records p found.member) (sym (process_is d)) found.at,
        )

    pub watch_follows : (m : Member) → Contains members m → m.pid ≡ pid → m ≡ (find laws old groups members pid place s here).member
    watch_follows m has is =
        let found = find laws old groups members pid place s here in
        one_member members place pid found.member m s.differ found.there found.number has is

    pub group_is : (m : Member) (g : Group) → m ≡ (find laws old groups members pid place s here).member → slice_get groups m.group ≡ Some g → (find laws old groups members pid place s here).judged.group ≡ g
    group_is m g same there =
        let found = find laws old groups members pid place s here in
        let at = map_at (λ (j : Judged). j.group) s.judged m.group g (ap (λ (gs : List Group). slice_get gs m.group) s.groups_are ∙ there) in
        let judged : found.judged ≡ at.0 = some_same found.judged at.0 (sym found.by ∙ ap (λ (n : Member). slice_get s.judged n.group) (sym same) ∙ at.1) in
        ap (λ (j : Judged). j.group) judged ∙ at.2

    -- what is told of the process at the place
    module _ (standing : Standing) (told : (d : Process) (e : Watch M P) (g : Group) (records : List Record) (m : Member) → WatchStandsFor laws g.model g.bound One (get_or ws (get_or ps place d).group e) records → IsAt laws.WHICH g records (get_or ps place d) m → IsAlone laws.WHICH g.model g.bound (run_of m) m.advances standing) where
      pub stands_found : IsAlone laws.WHICH (find laws old groups members pid place s here).judged.group.model (find laws old groups members pid place s here).judged.group.bound (run_of (find laws old groups members pid place s here).member) (find laws old groups members pid place s here).member.advances standing
      stands_found =
          let found = find laws old groups members pid place s here in
          let same : get_or ws (get_or ps place found.process).group found.watch ≡ found.watch = ap (λ (p : Process). get_or ws p.group found.watch) (process_is found.process) ∙ watch_is found.watch in
          told found.process found.watch found.judged.group found.judged.records found.member
          (subst (λ (w : Watch M P). WatchStandsFor laws found.judged.group.model found.judged.group.bound One w found.judged.records) (sym same) found.watches.stands)
          (subst (λ (p : Process). IsAt laws.WHICH found.judged.group found.judged.records p found.member) (sym (process_is found.process)) found.at)

      pub stands_so : (m : Member) (g : Group) → Contains members m → m.pid ≡ pid → slice_get groups m.group ≡ Some g → IsAlone laws.WHICH g.model g.bound (run_of m) m.advances standing
      stands_so m g has_m is_m there =
          let found = find laws old groups members pid place s here in
          let same : m ≡ found.member = watch_follows m has_m is_m in
          subst (λ (x : Group). IsAlone laws.WHICH x.model x.bound (run_of m) m.advances standing) (group_is m g same there)
          (subst (λ (n : Member). IsAlone laws.WHICH found.judged.group.model found.judged.group.bound (run_of n) n.advances standing) (sym same) stands_found)

      pub stands_tellable : IsTellable standing
      stands_tellable =
          let found = find laws old groups members pid place s here in
          tellable laws.WHICH found.judged.group.model found.judged.group.bound (run_of found.member) found.member.advances standing found.at.typed stands_found

    pub stands_failed : (answer : Result Standing OutOfMemory) → ((d : Process) → (get_or ps place d).stage ≡ stages.Failed → IsErr answer) → (m : Member) → Contains members m → m.pid ≡ pid → m.failed ≡ true → IsErr answer
    stands_failed answer fails m has_m is_m failed =
        let found = find laws old groups members pid place s here in
        let same : m ≡ found.member = watch_follows m has_m is_m in
        let lost : found.member.failed ≡ true = ap (λ (n : Member). n.failed) (sym same) ∙ failed in
        fails found.process (ap (λ (p : Process). p.stage) (process_is found.process) ∙ failed_stage laws.WHICH found.judged.group found.process.stage found.process found.member (own One found.member.pid found.judged.records) found.at.come lost)

    module _ (new : Fleet M P) (answer : Result Advance OutOfMemory) (less : old.taken < 2 ^ 64 - 1) (moved : (d : Process) (e : Watch M P) → (q : Process) × (v : Watch M P) × (new.processes.items ≡ set ps place q) × (new.watches.items ≡ set ws (get_or ps place d).group v) × HasAdvanced laws (get_or ps place d) q (get_or ws (get_or ps place d).group e) v answer) where
      Moved : Process → Watch M P → Type 0
      Moved p w = (q : Process) × (v : Watch M P) × (new.processes.items ≡ set ps place q) × (new.watches.items ≡ set ws p.group v) × HasAdvanced laws p q w v answer

      moved_here : (q : Process) × (v : Watch M P) × (new.processes.items ≡ set old.processes.items place q) × (new.watches.items ≡ set old.watches.items (find laws old groups members pid place s here).process.group v) × HasAdvanced laws (find laws old groups members pid place s here).process q (find laws old groups members pid place s here).watch v answer
      unfolding Moved
      moved_here =
          let found = find laws old groups members pid place s here in
          let one : Moved found.process (get_or ws found.process.group found.watch) = subst (λ (p : Process). Moved p (get_or ws p.group found.watch)) (process_is found.process) (moved found.process found.watch) in
          let two : Moved found.process found.watch = subst (Moved found.process) (watch_is found.watch) one in
          (two.0, two.1, two.2 ∙ ap (λ (l : List Process). set l place two.0) ps_are, two.3 ∙ ap (λ (l : List (Watch M P)). set l found.process.group two.1) ws_are, two.4)

      pub step_others : (m : Member) (i : ℕ) → Contains members m → m.pid ≡ pid → i ≢ m.group → watch_of new i ≡ watch_of old i
      step_others m i has is other =
          let found = find laws old groups members pid place s here in
          let q = moved_here in
          watch_elsewhere laws old groups members pid place s found new q.0 q.1 q.2 q.3 i (λ same. other (same ∙ ap (λ (n : Member). n.group) (sym (watch_follows m has is))))

      -- where the answer is an error

      pub step_refused : (error : OutOfMemory) → answer ≡ Err error → new.taken ≡ old.taken → StandsFor laws new groups (failed pid members)
      unfolding change
      step_refused error is taken =
          let found = find laws old groups members pid place s here in
          let q = moved_here in
          let has = subst (HasAdvanced laws found.process q.0 found.watch q.1) is q.4 in
          let j = found.judged in
          stands_after laws old groups members pid place s found new q.0 q.1 q.2 q.3 j.records refused_to old.taken (λ m. refl) (has.same j.group.model j.group.bound One j.records found.watches.stands) found.watches.known (omega arith) found.watches.few
          (failed_at laws.WHICH j.group found.process.stage j.records found.process q.0 found.member found.at has.kept has.failed) (λ m. refl) (λ n other. refl) taken

      pub step_unfollowed : (error : OutOfMemory) → answer ≡ Err error → (m : Member) (w : Watch M P) → Contains members m → m.pid ≡ pid → watch_of old m.group ≡ Some w → (v : Watch M P) × (watch_of new m.group ≡ Some v) × ((h : Graph) (k : ℕ) (version : TracesVersion) (records : List Record) → WatchStandsFor laws h k version w records → WatchStandsFor laws h k version v records)
      step_unfollowed error is m w has_m is_m there =
          let found = find laws old groups members pid place s here in
          let q = moved_here in
          let has = subst (HasAdvanced laws found.process q.0 found.watch q.1) is q.4 in
          let same : m ≡ found.member = watch_follows m has_m is_m in
          let watch_same : found.watch ≡ w = some_same found.watch w (sym found.watching ∙ ap (λ (n : Member). watch_of old n.group) (sym same) ∙ there) in (
            q.1,
            ap (λ (n : Member). watch_of new n.group) same ∙ watch_here laws old groups members pid place s found new q.0 q.1 q.2 q.3,
            λ h k version records stands. has.same h k version records (subst (λ (x : Watch M P). WatchStandsFor laws h k version x records) (sym watch_same) stands),
          )

      -- where it is none

      pub step_progress : (a : Advance) → answer ≡ Ok a → new.taken ≡ old.taken + 1 → StandsFor laws new groups (advanced pid members)
      unfolding change
      step_progress a is taken =
          let found = find laws old groups members pid place s here in
          let q = moved_here in
          let has = subst (HasAdvanced laws found.process q.0 found.watch q.1) is q.4 in
          let j = found.judged in
          let few = found.watches.few in
          let one = added_few found.process.pid found.process.stage a in
          stands_after laws old groups members pid place s found new q.0 q.1 q.2 q.3 (j.records ++ added_at found.process.pid found.process.stage a) one_more (old.taken + 1) (λ m. refl) (has.records j.group.model j.group.bound One j.records found.watches.stands)
          (All-append (λ (r : Record). Contains (pids members) r.pid) j.records (added_at found.process.pid found.process.stage a) found.watches.known (added_known (pids members) found.process.pid found.process.stage a (among laws old groups members pid place s found)))
          (omega arith) (omega (arith, length-append j.records (added_at found.process.pid found.process.stage a)))
          (has.at j.group j.records found.member (found_ready laws old groups members pid place s found less)) (λ m. refl) (λ n other. own_added n found.process.pid j.records found.process.stage a other) taken

      pub step_exact : (a : Advance) → answer ≡ Ok a → (m : Member) (g : Group) → Contains members m → m.pid ≡ pid → slice_get groups m.group ≡ Some g → IsAnswer laws.WHICH g.model g.bound (run_of m) (m.advances + 1) a
      step_exact a is m g has_m is_m there =
          let found = find laws old groups members pid place s here in
          let q = moved_here in
          let has = subst (HasAdvanced laws found.process q.0 found.watch q.1) is q.4 in
          let same : m ≡ found.member = watch_follows m has_m is_m in
          subst (λ (x : Group). IsAnswer laws.WHICH x.model x.bound (run_of m) (m.advances + 1) a) (group_is m g same there)
          (subst (λ (n : Member). IsAnswer laws.WHICH found.judged.group.model found.judged.group.bound (run_of n) (n.advances + 1) a) (sym same) (has.exact found.judged.group found.judged.records found.member (found_ready laws old groups members pid place s found less)))

      pub step_followed : (a : Advance) → answer ≡ Ok a → (m : Member) (g : Group) (r : Standing) (w : Watch M P) → Contains members m → m.pid ≡ pid → slice_get groups m.group ≡ Some g → IsAlone laws.WHICH g.model g.bound (run_of m) m.advances r → watch_of old m.group ≡ Some w → (v : Watch M P) × (watch_of new m.group ≡ Some v) × ((h : Graph) (k : ℕ) (version : TracesVersion) (records : List Record) → WatchStandsFor laws h k version w records → WatchStandsFor laws h k version v (records ++ added pid r a))
      step_followed a is m g r w has_m is_m there alone watched =
          let found = find laws old groups members pid place s here in
          let q = moved_here in
          let has = subst (HasAdvanced laws found.process q.0 found.watch q.1) is q.4 in
          let same : m ≡ found.member = watch_follows m has_m is_m in
          let watch_same : found.watch ≡ w = some_same found.watch w (sym found.watching ∙ ap (λ (n : Member). watch_of old n.group) (sym same) ∙ watched) in
          let group_same = group_is m g same there in
          let alone' : IsAlone laws.WHICH found.judged.group.model found.judged.group.bound (run_of found.member) found.member.advances r =
          subst (λ (n : Member). IsAlone laws.WHICH found.judged.group.model found.judged.group.bound (run_of n) n.advances r) same (subst (λ (x : Group). IsAlone laws.WHICH x.model x.bound (run_of m) m.advances r) (sym group_same) alone) in
          let number : found.process.pid ≡ pid = found_pid laws old groups members pid place s found ∙ found.number in
          let records_same : added_at found.process.pid found.process.stage a ≡ added pid r a =
          ap (λ (n : ℕ). added_at n found.process.stage a) number ∙ sym (stage_added laws.WHICH found.judged.group found.process.stage found.process found.member (own One found.member.pid found.judged.records) pid r a (λ lost. false≢true (has.fails lost)) found.at.come alone') in (
            q.1,
            ap (λ (n : Member). watch_of new n.group) same ∙ watch_here laws old groups members pid place s found new q.0 q.1 q.2 q.3,
            λ h k version records stands.
                subst (λ (rs : List Record). WatchStandsFor laws h k version q.1 (records ++ rs)) records_same (has.records h k version records (subst (λ (x : Watch M P). WatchStandsFor laws h k version x records) (sym watch_same) stands)),
          )

      pub step_fails : (m : Member) → Contains members m → m.pid ≡ pid → m.failed ≡ true → IsErr answer
      step_fails m has_m is_m failed =
          let found = find laws old groups members pid place s here in
          let q = moved_here in
          let same : m ≡ found.member = watch_follows m has_m is_m in
          let lost : found.member.failed ≡ true = ap (λ (n : Member). n.failed) (sym same) ∙ failed in
          q.4.fails (failed_stage laws.WHICH found.judged.group found.process.stage found.process found.member (own One found.member.pid found.judged.records) found.at.come lost)
