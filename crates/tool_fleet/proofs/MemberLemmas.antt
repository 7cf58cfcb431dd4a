-- The groups and processes of a fleet that is made of what was read.
use Rattle.std.proofs.Common.{◌≡◌, ◌≢◌, ℕ, zero, suc, ◌+◌, ◌<◌, ◌≤◌, Bool, true, false, cond, nat_eq, List, [], ◌∷◌, ◌++◌, length, take, map, get_or, Option, Some, None, IfSome, refl, sym, ◌∙◌, ap, subst, inl, inr, arith, length-append, All, Contains}
use Rattle.std.specs.Prelude.{AllPairs, filter, slice_get, if◌then◌else◌}
use Rattle.std.specs.List.{AllZip}
use Rattle.std.specs.Option.{option_map}
use Rattle.std.proofs.lemmas.List.{length-take, map-append, take_more}
use Rattle.std.proofs.lemmas.List.Elements.{All-contains, All-get_or, filter-append}
use Rattle.std.proofs.lemmas.Option.{get_or_from_slice_get, slice_get-map, slice_get_read, slice_get_within}
use Rattle.dm_base.specs.declared.verdict.Status.{Status}
use Rattle.dm_io.specs.Store.{Files, file_at, IsMissing}
use Rattle.c_meaning.specs.Runs.{run}
use Rattle.c_tree.specs.View.{program_of}
use Rattle.fleet.specs.declared.fleet.Fleet.{Fleet}
use Rattle.fleet.specs.declared.standing.Standing.{Standing}
use Rattle.fleet.specs.Alone.{IsAlone}
use Rattle.fleet.specs.Fleets.{StandsFor, advanced, pids}
use Rattle.fleet.specs.Members.{Group, Member, new_member, one_more, run_of}
use Rattle.fleet.proofs.ZipLemmas.{map_length, zip_length, zip_push, zip_right}
use Rattle.fleet_schedule.specs.declared.line.Line.{Line}
use Rattle.fleet_schedule.specs.Plan.{Plan}
use Rattle.fleet_schedule.specs.ScheduleText.{IsScheduleWithin, pids as line_pids}
use Rattle.flow_model.specs.declared.monitor.Monitor as monitor
use Rattle.flow_model.specs.declared.which.Which.{Which}
use Rattle.flow_model.specs.Graph.{Graph}
use Rattle.sys_table.specs.declared.sys_result.SysResult.{SysResult}
use Rattle.tool_fleet.specs.declared.inputs.GroupModel.{GroupModel}
use Rattle.tool_fleet.specs.declared.inputs.ProcessInput.{ProcessInput}
use Rattle.tool_fleet.specs.declared.reports.ProcessReport.{ProcessReport}
use Rattle.tool_fleet.specs.Fleet.{IsReportOf, LacksForFleet, LacksForProcesses, RefusesFleet, RefusesProcesses, RefusesSchedule, RunsFleet, advances_of}
use Rattle.tool_fleet.specs.Inputs.{AreRead, IsFinishedRun, IsGroupModel, IsRead, IsReported, MayRun, group_of, member_after, numbers}
use Rattle.tool_fleet.proofs.StopLemmas.{stops_weaker}
use Rattle.tool_frame.specs.declared.stop.Stop.{Stop}
use Rattle.tool_frame.specs.Stop.{Stops}

-- what stands at a place
pub at_place : {X : Type 0} (xs : List X) (i : ℕ) (x : X) → i < length xs → x ≡ get_or xs i x → slice_get xs i ≡ Some x
at_place xs i x less is = slice_get_read xs (length xs) i x refl less is

mapped_there : {X Y : Type 0} (f : X → Y) (xs : List X) (i : ℕ) (x : X) → slice_get xs i ≡ Some x → slice_get (map f xs) i ≡ Some (f x)
mapped_there f xs i x there = slice_get-map f xs i ∙ ap (option_map f) there

mapped_has : {X Y : Type 0} (f : X → Y) (xs : List X) (i : ℕ) (x : X) → slice_get xs i ≡ Some x → Contains (map f xs) (f x)
mapped_has f xs i x there =
    let here = mapped_there f xs i x there in
    (i, slice_get_within (map f xs) i (f x) here, get_or_from_slice_get (map f xs) i (f x) (f x) here)

mapped_more : {X Y : Type 0} (f : X → Y) (xs : List X) (i : ℕ) (x : X) → i < length xs → x ≡ get_or xs i x → map f (take (i + 1) xs) ≡ map f (take i xs) ++ f x ∷ []
mapped_more f xs i x less is = ap (map f) (take_more xs i x less ∙ ap (λ (y : _). take i xs ++ y ∷ []) (sym is)) ∙ map-append f (take i xs) (x ∷ [])

pub few_taken : {X Y : Type 0} (f : X → Y) (xs : List X) (i : ℕ) → i < length xs → length xs ≤ 64 → length (map f (take i xs)) < 64
few_taken f xs i less few = omega (arith, map_length f (take i xs), length-take i xs)

-- the numbers of the processes

pub pids_are : (order : List ℕ) (ps : List ProcessInput) → pids (map (member_after order) ps) ≡ numbers ps
pids_are order [] = refl
pids_are order (p ∷ ps) = ap (λ (ns : List ℕ). p.pid ∷ ns) (pids_are order ps)

pub has_pid : (order : List ℕ) (ps : List ProcessInput) (pid : ℕ) → Contains (numbers ps) pid → Contains (pids (map (member_after order) ps)) pid
has_pid order ps pid has = subst (λ (ns : List ℕ). Contains ns pid) (sym (pids_are order ps)) has

pub own_pid : (order : List ℕ) (ps : List ProcessInput) (i : ℕ) (p : ProcessInput) → i < length ps → p ≡ get_or ps i p → Contains (pids (map (member_after order) ps)) p.pid
own_pid order ps i p less is = has_pid order ps p.pid (mapped_has (λ (q : ProcessInput). q.pid) ps i p (at_place ps i p less is))

number_at : (ps : List ProcessInput) (i k q : ℕ) → k < length (numbers (take i ps)) → (k < i) × (get_or (numbers ps) k q ≡ get_or (numbers (take i ps)) k q)
number_at ps zero k q within = absurd (omega arith)
number_at [] (suc i) k q within = absurd (omega arith)
number_at (p ∷ ps) (suc i) zero q within = (omega arith, refl)
number_at (p ∷ ps) (suc i) (suc k) q within = let more = number_at ps i k q (omega arith) in (omega (arith, more.0), more.1)

-- the number of the next process is new
pub fresh_pid : (ps : List ProcessInput) (i : ℕ) (p : ProcessInput) → AllPairs (λ a b. a ≢ b) (numbers ps) → i < length ps → p ≡ get_or ps i p → Contains (pids (map (member_after []) (take i ps))) p.pid → ⊥
fresh_pid ps i p differ less is has =
    let (k, within, here) = subst (λ (ns : List ℕ). Contains ns p.pid) (pids_are [] (take i ps)) has in
    let at = number_at ps i k p.pid within in
    let own : get_or (numbers ps) i p.pid ≡ p.pid = get_or_from_slice_get (numbers ps) i p.pid p.pid (mapped_there (λ (q : ProcessInput). q.pid) ps i p (at_place ps i p less is)) in
    differ k i p.pid at.0 (omega (arith, map_length (λ (q : ProcessInput). q.pid) ps)) (at.1 ∙ here ∙ sym own)

-- one group more, one process more

pub group_more : {M P : Type 0} (laws : monitor.Ghosts M P) (fleet : Fleet M P) (groups : List GroupModel) (i : ℕ) (g : GroupModel) (model : Graph) → i < length groups → g ≡ get_or groups i g → model ≡ g.model → StandsFor laws fleet (map group_of (take i groups) ++ record { model = model; bound = g.bound } ∷ []) [] → StandsFor laws fleet (map group_of (take (i + 1) groups)) []
group_more laws fleet groups i g model less is same stands =
    let one : map group_of (take i groups) ++ record { model = model; bound = g.bound } ∷ [] ≡ map group_of (take i groups) ++ group_of g ∷ [] = ap (λ (m : Graph). let x : Group = record { model = m; bound = g.bound } in map group_of (take i groups) ++ x ∷ []) same in
    subst (λ (gs : List Group). StandsFor laws fleet gs []) (one ∙ sym (mapped_more group_of groups i g less is)) stands

pub process_more : {M P : Type 0} (laws : monitor.Ghosts M P) (fleet : Fleet M P) (groups : List Group) (ps : List ProcessInput) (i : ℕ) (p : ProcessInput) (results : List SysResult) → i < length ps → p ≡ get_or ps i p → results ≡ p.results.items → StandsFor laws fleet groups (map (member_after []) (take i ps) ++ new_member p.pid p.group (program_of p.program) results p.turns ∷ []) → StandsFor laws fleet groups (map (member_after []) (take (i + 1) ps))
process_more laws fleet groups ps i p results less is same stands =
    let one : map (member_after []) (take i ps) ++ new_member p.pid p.group (program_of p.program) results p.turns ∷ [] ≡ map (member_after []) (take i ps) ++ member_after [] p ∷ [] = ap (λ (rs : List SysResult). map (member_after []) (take i ps) ++ new_member p.pid p.group (program_of p.program) rs p.turns ∷ []) same in
    subst (StandsFor laws fleet groups) (one ∙ sym (mapped_more (member_after []) ps i p less is)) stands

-- one advance more

abbrev with_advances : ProcessInput → ℕ → Member
with_advances p n = record { pid = p.pid; group = p.group; program = program_of p.program; results = p.results.items; turns = p.turns; advances = n; failed = false }

by_test : (p : ProcessInput) (pid n : ℕ) (t : Bool) → (if t then one_more (with_advances p n) else with_advances p n) ≡ with_advances p (n + length (cond t (pid ∷ []) []))
by_test p pid n true = refl
by_test p pid n false = let same : n ≡ n + 0 = omega arith in ap (with_advances p) same

advances_more : (order : List ℕ) (pid q : ℕ) → advances_of order q + length (cond (nat_eq q pid) (pid ∷ []) []) ≡ advances_of (order ++ pid ∷ []) q
advances_more order pid q = sym (ap length (filter-append (nat_eq q) order (pid ∷ [])) ∙ length-append (filter (nat_eq q) order) (filter (nat_eq q) (pid ∷ [])))

advanced_once : (order : List ℕ) (pid : ℕ) (ps : List ProcessInput) → advanced pid (map (member_after order) ps) ≡ map (member_after (order ++ pid ∷ [])) ps
advanced_once order pid [] = refl
advanced_once order pid (p ∷ ps) =
    ap (λ (m : Member). m ∷ advanced pid (map (member_after order) ps)) (by_test p pid (advances_of order p.pid) (nat_eq p.pid pid) ∙ ap (with_advances p) (advances_more order pid p.pid))
    ∙ ap (λ (ms : List Member). member_after (order ++ pid ∷ []) p ∷ ms) (advanced_once order pid ps)

pub advance_more : {M P : Type 0} (laws : monitor.Ghosts M P) (fleet : Fleet M P) (groups : List Group) (ps : List ProcessInput) (order : List ℕ) (i : ℕ) → i < length order → StandsFor laws fleet groups (advanced (get_or order i 0) (map (member_after (take i order)) ps)) → StandsFor laws fleet groups (map (member_after (take (i + 1) order)) ps)
advance_more laws fleet groups ps order i less stands =
    subst (StandsFor laws fleet groups) (advanced_once (take i order) (get_or order i 0) ps ∙ ap (λ (os : List ℕ). map (member_after os) ps) (sym (take_more order i 0 less))) stands

pub named_pid : (order : List ℕ) (done : List ℕ) (ps : List ProcessInput) (i : ℕ) → All (Contains (numbers ps)) order → i < length order → Contains (pids (map (member_after done) ps)) (get_or order i 0)
named_pid order done ps i named less = has_pid done ps (get_or order i 0) (All-get_or (Contains (numbers ps)) order i 0 less named)

-- one report more

pub reported_so : {M P : Type 0} (laws : monitor.Ghosts M P) (fleet : Fleet M P) (groups : List GroupModel) (order : List ℕ) (ps : List ProcessInput) (i : ℕ) (p : ProcessInput) (standing : Standing) → i < length ps → p ≡ get_or ps i p → StandsFor laws fleet (map group_of groups) (map (member_after order) ps) → ((gs : List Group) (members : List Member) (m : Member) (g : Group) → StandsFor laws fleet gs members → Contains members m → m.pid ≡ p.pid → slice_get gs m.group ≡ Some g → IsAlone laws.WHICH g.model g.bound (run_of m) m.advances standing) → IsReported laws.WHICH groups order p (record { pid = p.pid; standing = standing })
reported_so laws fleet groups order ps i p standing less is stands exact = record {
  pid = refl;
  alone = λ g there. exact (map group_of groups) (map (member_after order) ps) (member_after order p) (group_of g) stands (mapped_has (member_after order) ps i p (at_place ps i p less is)) refl (mapped_there group_of groups p.group g there);
}

pub report_more : (which : Which) (groups : List GroupModel) (order : List ℕ) (ps : List ProcessInput) (i : ℕ) (p : ProcessInput) (old new : List ProcessReport) (report : ProcessReport) → i < length ps → p ≡ get_or ps i p → new ≡ old ++ report ∷ [] → AllZip (IsReported which groups order) (take i ps) old → IsReported which groups order p report → AllZip (IsReported which groups order) (take (i + 1) ps) new
report_more which groups order ps i p old new report less is grown so_far one =
    let line : take (i + 1) ps ≡ take i ps ++ p ∷ [] = take_more ps i p less ∙ ap (λ (q : ProcessInput). take i ps ++ q ∷ []) (sym is) in
    subst (λ (qs : List ProcessInput). AllZip (IsReported which groups order) qs new) (sym line)
    (subst (AllZip (IsReported which groups order) (take i ps ++ p ∷ [])) (sym grown) (zip_push (IsReported which groups order) (take i ps) old p report so_far one))

-- what was read may run

numbers_read : (told : Option Files) (groups : List GroupModel) (lines : List Line) (ps : List ProcessInput) → AllZip (IsRead told groups) lines ps → line_pids lines ≡ numbers ps
numbers_read told groups [] [] each = refl
numbers_read told groups [] (p ∷ ps) each = absurd each
numbers_read told groups (l ∷ lines) [] each = absurd each
numbers_read told groups (l ∷ lines) (p ∷ ps) each =
    ap (λ (n : ℕ). n ∷ line_pids lines) (sym (each.0).pid) ∙ ap (λ (ns : List ℕ). p.pid ∷ ns) (numbers_read told groups lines ps each.1)

pub may_run : (told : Option Files) (text : List ℕ) (plan : Plan) (lines : List Line) (order : List ℕ) (groups : List GroupModel) (ps : List ProcessInput) → lines ≡ plan.processes → order ≡ plan.order → IsScheduleWithin text plan → AreRead told lines groups ps → MayRun groups ps order
may_run told text plan lines order groups ps lines_are order_is is read_lines =
    let read : AreRead told plan.processes groups ps = subst (λ (ls : List Line). AreRead told ls groups ps) lines_are read_lines in
    let same = numbers_read told groups plan.processes ps read.each in
    let few_lines = is.few.processes in
    let few_groups = read.few in
    let long = zip_length (IsRead told groups) plan.processes ps read.each in
    subst (MayRun groups ps) (sym order_is) (record {
      bounds = λ k g there. let one = All-contains (IsGroupModel told) groups g read.models (k, slice_get_within groups k g there, get_or_from_slice_get groups k g g there) in (one.least, one.greatest);
      few_groups = omega arith;
      few = omega arith;
      within = λ k p there. let line = zip_right (IsRead told groups) plan.processes ps k p read.each there in slice_get_within groups p.group (line.2).group (line.2).there;
      differ = subst (AllPairs (λ (a b : ℕ). a ≢ b)) same is.is.right.differ;
      named = subst (λ (ns : List ℕ). All (Contains ns) plan.order) same is.is.right.named;
      short = is.few.order;
    })

-- what is made of the files

reports_are : (files : Files) (which : Which) (order : List ℕ) (groups : List GroupModel) (lines : List Line) (ps : List ProcessInput) (reports : List ProcessReport) → AllZip (IsRead (Some files) groups) lines ps → AllZip (IsReported which groups order) ps reports → AllZip (IsReportOf files which order) lines reports
reports_are files which order groups [] [] [] read reported = tt
reports_are files which order groups [] [] (r ∷ reports) read reported = absurd reported
reports_are files which order groups [] (p ∷ ps) reports read reported = absurd read
reports_are files which order groups (l ∷ lines) [] reports read reported = absurd read
reports_are files which order groups (l ∷ lines) (p ∷ ps) [] read reported = absurd reported
reports_are files which order groups (l ∷ lines) (p ∷ ps) (r ∷ reports) read reported =
    (one l p r read.0 reported.0, reports_are files which order groups lines ps reports read.1 reported.1)
  where
    one : (l : Line) (p : ProcessInput) (r : ProcessReport) → IsRead (Some files) groups l p → IsReported which groups order p r → IsReportOf files which order l r
    one l p r is told =
        record {
          process = record { program = program_of p.program; graph = is.group.model; records = p.results.items; accepted = is.accepted; is_model = is.is_model; recorded = is.recorded };
          pid = told.pid ∙ is.pid;
          alone =
              subst (λ (b : ℕ). IsAlone which is.group.model b (run (program_of p.program) p.results.items l.turns) (advances_of order l.pid) r.standing) is.bound
              (subst (λ (n : ℕ). IsAlone which is.group.model is.group.bound (run (program_of p.program) p.results.items n) (advances_of order l.pid) r.standing) is.turns
              (subst (λ (n : ℕ). IsAlone which is.group.model is.group.bound (run (program_of p.program) p.results.items p.turns) (advances_of order n) r.standing) is.pid (told.alone is.group is.there)));
        }

pub runs_fleet : (told mid : Option Files) (name : List ℕ) (which : Which) (plan : Plan) (lines : List Line) (order : List ℕ) (groups : List GroupModel) (ps : List ProcessInput) (status : Status) (text : List ℕ) → mid ≡ told → lines ≡ plan.processes → order ≡ plan.order → IfSome told (λ files. IsScheduleWithin (file_at files name) plan) → AreRead mid lines groups ps → IsFinishedRun which groups ps order status text → IfSome told (λ files. RunsFleet files name which status text)
runs_fleet None mid name which plan lines order groups ps status text same lines_are order_is is read run = tt
runs_fleet (Some files) mid name which plan lines order groups ps status text same lines_are order_is is read run =
    let here : AreRead (Some files) plan.processes groups ps = subst (λ (t : Option Files). AreRead t plan.processes groups ps) same (subst (λ (ls : List Line). AreRead mid ls groups ps) lines_are read) in
    record {
      plan = plan;
      reports = run.reports;
      is_schedule = is;
      reported = reports_are files which plan.order groups plan.processes ps run.reports here.each (subst (λ (os : List ℕ). AllZip (IsReported which groups os) ps run.reports) order_is run.reported);
      ends = run.ends;
      writes = run.writes;
    }

-- why nothing is made of them

pub stops_at_schedule : (told : Option Files) (name : List ℕ) (stop : Stop) (before after : ℕ) → Stops stop (RefusesSchedule told name) (IsMissing told name) before after → Stops stop (RefusesFleet told name) (LacksForFleet told name) before after
stops_at_schedule told name stop before after why =
    stops_weaker stop (RefusesSchedule told name) (RefusesFleet told name) (IsMissing told name) (LacksForFleet told name) before before after (omega arith) (λ status line refuses. inl refuses) (λ lacking. inl lacking) why

pub stops_at_inputs : (told mid : Option Files) (name : List ℕ) (plan : Plan) (lines : List Line) (stop : Stop) (before between after : ℕ) → mid ≡ told → lines ≡ plan.processes → IfSome told (λ files. IsScheduleWithin (file_at files name) plan) → before ≤ between → Stops stop (RefusesProcesses mid lines) (LacksForProcesses mid lines) between after → Stops stop (RefusesFleet told name) (LacksForFleet told name) before after
stops_at_inputs told mid name plan lines stop before between after same lines_are is less why =
    stops_weaker stop (RefusesProcesses told plan.processes) (RefusesFleet told name) (LacksForProcesses told plan.processes) (LacksForFleet told name) before between after less
    (λ status line refuses. inr (plan, is, refuses))
    (λ lacking. inr (plan, is, lacking))
    (subst (λ (ls : List Line). Stops stop (RefusesProcesses told ls) (LacksForProcesses told ls) between after) lines_are
    (subst (λ (t : Option Files). Stops stop (RefusesProcesses t lines) (LacksForProcesses t lines) between after) same why))
