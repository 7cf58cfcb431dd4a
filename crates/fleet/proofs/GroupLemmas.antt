-- What a fleet with one group more, or one process more, stands for.
use Rattle.std.proofs.Common.{◌≡◌, ◌≢◌, ℕ, zero, suc, ◌<◌, Bool, true, nat_eq, List, [], ◌∷◌, ◌++◌, length, map, drop, Result, Ok, Err, Some, refl, sym, ◌∙◌, ap, subst, arith, length-append, All, Contains}
use Rattle.std.specs.Prelude.{AllPairs, OnErr, IsTrue, ◌↔◌, filter, slice_get, if◌then◌else◌}
use Rattle.std.specs.List.{AllZip}
use Rattle.std.proofs.lemmas.Bool.{eqb-true, false_from_ne_true}
use Rattle.std.proofs.lemmas.List.{get_or_default, map-append}
use Rattle.std.proofs.lemmas.List.Elements.{All-nil, All-head, All-tail, All-weaker, Contains-append_left}
use Rattle.std.proofs.lemmas.List.Quantifiers.{all_pairs_push}
use Rattle.std.proofs.lemmas.Option.{get_or_from_slice_get, slice_get_within}
use Rattle.sys_table.specs.declared.sys_result.SysResult.{SysResult}
use Rattle.c_tree.specs.Tree.{Program}
use Rattle.c_meaning.specs.Runs.{run}
use Rattle.c_meaning.specs.Laws.{IsTypedRun}
use Rattle.flow_model.specs.declared.monitor.Monitor as monitor
use Rattle.flow_model.specs.declared.which.Which.{Which}
use Rattle.flow_model.specs.Graph.{Graph}
use Rattle.flow_model.specs.Rules.{IsValid}
use Rattle.flow_model.specs.Verdict.{IsAccepted}
use Rattle.flow_model.proofs.Histories.{accepted_nothing}
use Rattle.ref_machine.specs.Futures.{future}
use Rattle.trace_file.specs.declared.record.Record.{Record}
use Rattle.trace_file.specs.declared.version.TracesVersion.TheVariants.{One}
use Rattle.watch.specs.declared.watch.Watch.{Watch}
use Rattle.watch.specs.Own.{own}
use Rattle.watch.specs.Watching.{StandsFor as WatchStandsFor}
use Rattle.fleet.specs.declared.fleet.Fleet.{Fleet}
use Rattle.fleet.specs.declared.process.Process.{Process}
use Rattle.fleet.specs.declared.process.Stage.{Stage}
use Rattle.fleet.specs.Fleets.{Judged, IsMember, StandsFor, Watches, pids}
use Rattle.fleet.specs.Going.{IsAtStage, IsOpen, IsStarted, numbers}
use Rattle.fleet.specs.Members.{Group, Member, new_member}
use Rattle.fleet.proofs.ZipLemmas.{some_same, map_length, zip_length, zip_push, zip_right, zip_weaker}
use Rattle.watch.proofs.NothingKept.{nothing_kept}

-- the empty history is accepted

-- what stands at a place of a list
some_there : {X : Type 0} (xs : List X) (i : ℕ) → i < length xs → (x : X) × (slice_get xs i ≡ Some x)
some_there [] i less = absurd (omega arith)
some_there (x ∷ xs) zero less = (x, refl)
some_there (x ∷ xs) (suc i) less = some_there xs i (omega arith)

nothing_accepted : (which : Which) (g : Graph) (bound : ℕ) → IsValid g → IsAccepted which g bound []
nothing_accepted which g bound valid =
    let start = some_there g.functions g.start valid.functions.start in
    accepted_nothing which g bound (nothing_kept which g bound start.0.entry start.0.exit (record { one = start.0; has = start.1; begins = refl; ends = refl }))

-- longer lists

pub there_left : {X : Type 0} (xs ys : List X) (i : ℕ) (x : X) → slice_get xs i ≡ Some x → slice_get (xs ++ ys) i ≡ Some x
there_left [] ys i x is = absurd (cc)
there_left (a ∷ xs) ys zero x is = is
there_left (a ∷ xs) ys (suc i) x is = there_left xs ys i x is

pub there_last : {X : Type 0} (xs : List X) (x : X) → slice_get (xs ++ x ∷ []) (length xs) ≡ Some x
there_last [] x = refl
there_last (a ∷ xs) x = there_last xs x

-- a process that is not among those that have records has none
own_none : (P : List ℕ) (records : List Record) (pid : ℕ) → All (λ r. Contains P r.pid) records → (Contains P pid → ⊥) → own One pid records ≡ []
own_none P [] pid all none = refl
own_none P (r ∷ records) pid all none =
    ap (λ (t : Bool). map (λ (s : Record). s.event) (if t then r ∷ filter (λ (s : Record). nat_eq s.pid pid) records else filter (λ (s : Record). nat_eq s.pid pid) records)) (false_from_ne_true (nat_eq r.pid pid) (λ same. none (subst (Contains P) (eqb-true r.pid pid same) (All-head (λ (s : Record). Contains P s.pid) r records all))))
    ∙ own_none P records pid (All-tail (λ (s : Record). Contains P s.pid) r records all) none

module _ {M P : Type 0} (laws : monitor.Ghosts M P) where
  module _ (old : Fleet M P) (groups : List Group) (members : List Member) (s : StandsFor laws old groups members) where
    pub groups_count : length old.watches.items ≡ length groups
    groups_count = zip_length (Watches laws (pids members) old.taken) old.watches.items s.judged s.watches ∙ sym (map_length (λ (j : Judged). j.group) s.judged) ∙ ap length s.groups_are

    judged_count : length s.judged ≡ length groups
    judged_count = sym (map_length (λ (j : Judged). j.group) s.judged) ∙ ap length s.groups_are

    pub members_count : length old.processes.items ≡ length members
    members_count = zip_length (IsMember laws s.judged) old.processes.items members s.members_are

    pub numbers_are : numbers old.processes.items ≡ pids members
    numbers_are = by old.processes.items members s.members_are where
      by : (ps : List Process) (ms : List Member) → AllZip (IsMember laws s.judged) ps ms → numbers ps ≡ pids ms
      by [] [] zip = refl
      by [] (m ∷ ms) zip = absurd zip
      by (p ∷ ps) [] zip = absurd zip
      by (p ∷ ps) (m ∷ ms) zip = ap (λ (n : ℕ). n ∷ numbers ps) zip.0.at.pid ∙ ap (λ (ns : List ℕ). m.pid ∷ ns) (by ps ms zip.1)

    pub has_some : (ps : List Process) (place pid : ℕ) → ps ≡ old.processes.items → slice_get (numbers ps) place ≡ Some pid → IsTrue true ↔ Contains (pids members) pid
    has_some ps place pid same here =
        let there : slice_get (pids members) place ≡ Some pid = ap (λ (ns : List ℕ). slice_get ns place) (sym (ap numbers same ∙ numbers_are)) ∙ here in
        (λ _. (place, slice_get_within (pids members) place pid there, get_or_from_slice_get (pids members) place pid pid there), λ _. refl)

    pub has_none : (ps : List Process) (pid : ℕ) → ps ≡ old.processes.items → (Contains (numbers ps) pid → ⊥) → Contains (pids members) pid → ⊥
    has_none ps pid same none has = none (subst (λ (ns : List ℕ). Contains ns pid) (sym (ap numbers same ∙ numbers_are)) has)

    -- the same groups and processes
    pub stands_same : (new : Fleet M P) → new.watches.items ≡ old.watches.items → new.processes.items ≡ old.processes.items → new.taken ≡ old.taken → StandsFor laws new groups members
    stands_same new watches processes taken = record {
      judged = s.judged;
      groups_are = s.groups_are;
      watches = subst (λ (t : ℕ). AllZip (Watches laws (pids members) t) new.watches.items s.judged) (sym taken) (subst (λ (ws : List (Watch M P)). AllZip (Watches laws (pids members) old.taken) ws s.judged) (sym watches) s.watches);
      members_are = subst (λ (ps : List Process). AllZip (IsMember laws s.judged) ps members) (sym processes) s.members_are;
      differ = s.differ;
      few = s.few;
      narrow = s.narrow;
    }

    -- one group more
    pub stands_group : (new : Fleet M P) (model : Graph) (bound : ℕ) (w : Watch M P) → length groups < 64 → IsValid model → WatchStandsFor laws model bound One w [] → new.watches.items ≡ old.watches.items ++ w ∷ [] → new.processes.items ≡ old.processes.items → new.taken ≡ old.taken → StandsFor laws new (groups ++ record { model = model; bound = bound } ∷ []) members
    stands_group new model bound w room valid stands watches processes taken =
        let j : Judged = record { group = record { model = model; bound = bound }; records = [] } in
        record {
          judged = s.judged ++ j ∷ [];
          groups_are = map-append (λ (i : Judged). i.group) s.judged (j ∷ []) ∙ ap (λ (gs : List Group). gs ++ j.group ∷ []) s.groups_are;
          watches =
              subst (λ (t : ℕ). AllZip (Watches laws (pids members) t) new.watches.items (s.judged ++ j ∷ [])) (sym taken)
              (subst (λ (ws : List (Watch M P)). AllZip (Watches laws (pids members) old.taken) ws (s.judged ++ j ∷ [])) (sym watches)
              (zip_push (Watches laws (pids members) old.taken) old.watches.items s.judged w j s.watches
              (record { valid = valid; stands = stands; known = All-nil (λ (r : Record). Contains (pids members) r.pid); few = omega arith })));
          members_are =
              subst (λ (ps : List Process). AllZip (IsMember laws (s.judged ++ j ∷ [])) ps members) (sym processes)
              (zip_weaker (IsMember laws s.judged) (IsMember laws (s.judged ++ j ∷ [])) old.processes.items members
              (λ p m one. record { by = one.by; there = there_left s.judged (j ∷ []) m.group one.by one.there; at = one.at }) s.members_are);
          differ = s.differ;
          few = s.few;
          narrow = omega (arith, length-append groups (j.group ∷ []));
        }

    -- one process more
    module _ (new : Fleet M P) (pid group : ℕ) (program : Program) (results : List SysResult) (turns : ℕ) (p : Process) (within : group < length groups) (room : length members < 64) (fresh : Contains (pids members) pid → ⊥) (started : IsStarted pid group program results turns p) (typed : IsTypedRun (run program results turns)) where
      pids_more : pids (members ++ new_member pid group program results turns ∷ []) ≡ pids members ++ pid ∷ []
      pids_more = map-append (λ (n : Member). n.pid) members (new_member pid group program results turns ∷ [])

      starts : (which : Which) (g : Group) → IsValid g.model → IsOpen which g p (new_member pid group program results turns) []
      starts which g valid = record {
        run = sym (started.machine results) ∙ ap (λ (rs : List SysResult). future p.machine rs) (sym started.given) ∙ ap (λ (n : ℕ). future p.machine (drop n p.results.now)) (sym started.none);
        taken = started.unused ∙ sym started.none;
        accepted = nothing_accepted which g.model g.bound valid;
        count = refl;
      }

      pub stands_process : new.processes.items ≡ old.processes.items ++ p ∷ [] → new.watches.items ≡ old.watches.items → new.taken ≡ old.taken → StandsFor laws new (groups) (members ++ new_member pid group program results turns ∷ [])
      stands_process processes watches taken =
          let by = some_there s.judged group (let same = judged_count in omega arith) in
          let w = zip_right (Watches laws (pids members) old.taken) old.watches.items s.judged group by.0 s.watches by.1 in
          let new_one : IsMember laws s.judged p (new_member pid group program results turns) = record {
            by = by.0;
            there = by.1;
            at = subst (λ (x : Stage). IsAtStage laws.WHICH by.0.group x by.0.records p (new_member pid group program results turns)) (sym started.stage) (record {
              pid = started.number;
              group = started.in_group;
              results = started.given;
              typed = typed;
              come = (refl, subst (IsOpen laws.WHICH by.0.group p (new_member pid group program results turns)) (sym (own_none (pids members) by.0.records pid w.2.known fresh)) (starts laws.WHICH by.0.group w.2.valid));
            });
          } in
          record {
            judged = s.judged;
            groups_are = s.groups_are;
            watches =
                subst (λ (t : ℕ). AllZip (Watches laws (pids (members ++ new_member pid group program results turns ∷ [])) t) new.watches.items s.judged) (sym taken)
                (subst (λ (ws : List (Watch M P)). AllZip (Watches laws (pids (members ++ new_member pid group program results turns ∷ [])) old.taken) ws s.judged) (sym watches)
                (zip_weaker (Watches laws (pids members) old.taken) (Watches laws (pids (members ++ new_member pid group program results turns ∷ [])) old.taken) old.watches.items s.judged
                (λ v j one. record {
                  valid = one.valid;
                  stands = one.stands;
                  known = All-weaker (λ (r : Record). Contains (pids members) r.pid) (λ (r : Record). Contains (pids (members ++ new_member pid group program results turns ∷ [])) r.pid) (λ r has. subst (λ (ns : List ℕ). Contains ns r.pid) (sym pids_more) (Contains-append_left (pids members) (pid ∷ []) r.pid has)) j.records one.known;
                  few = one.few;
                }) s.watches));
            members_are =
                subst (λ (ps : List Process). AllZip (IsMember laws s.judged) ps (members ++ new_member pid group program results turns ∷ [])) (sym processes)
                (zip_push (IsMember laws s.judged) old.processes.items members p (new_member pid group program results turns) s.members_are new_one);
            differ =
                subst (AllPairs (λ (a b : ℕ). a ≢ b)) (sym pids_more)
                (all_pairs_push (λ (a b : ℕ). a ≢ b) (pids members) pid s.differ (λ k d less same. fresh (k, less, get_or_default (pids members) k pid d less ∙ same)));
            few = omega (arith, length-append members (new_member pid group program results turns ∷ []));
            narrow = s.narrow;
          }

    -- a further watch
    pub watch_last : (news : List (Watch M P)) (w v : Watch M P) (number : ℕ) → news ≡ old.watches.items ++ w ∷ [] → number ≡ length old.watches.items → slice_get news number ≡ Some v → w ≡ v
    watch_last news w v number watches is here =
        some_same w v (sym (there_last old.watches.items w) ∙ ap (slice_get (old.watches.items ++ w ∷ [])) (sym is) ∙ ap (λ (ws : List (Watch M P)). slice_get ws number) (sym watches) ∙ here)

pub watch_stays : {X : Type 0} (olds news : List X) (w v : X) (i : ℕ) → news ≡ olds ++ w ∷ [] → slice_get olds i ≡ Some v → slice_get news i ≡ Some v
watch_stays {X} olds news w v i watches here = ap (λ (ws : List X). slice_get ws i) watches ∙ there_left olds (w ∷ []) i v here

-- what is known of the fleet by some lists is known by all
pub group_room : {M P : Type 0} (laws : monitor.Ghosts M P) (old : Fleet M P) (groups' : List Group) (members' : List Member) (s' : StandsFor laws old groups' members') (groups : List Group) (members : List Member) (s : StandsFor laws old groups members) → length groups' < 64 → length groups < 64
group_room laws old groups' members' s' groups members s room =
    let one = groups_count laws old groups' members' s' in
    let other = groups_count laws old groups members s in
    omega arith

pub process_room : {M P : Type 0} (laws : monitor.Ghosts M P) (old : Fleet M P) (groups' : List Group) (members' : List Member) (s' : StandsFor laws old groups' members') (groups : List Group) (members : List Member) (s : StandsFor laws old groups members) (group pid : ℕ) → group < length groups' → length members' < 64 → (Contains (pids members') pid → ⊥) → (group < length groups) × (length members < 64) × (Contains (pids members) pid → ⊥)
process_room laws old groups' members' s' groups members s group pid within room fresh =
    let one = groups_count laws old groups' members' s' in
    let other = groups_count laws old groups members s in
    let few = members_count laws old groups' members' s' in
    let same = members_count laws old groups members s in (
      omega arith,
      omega arith,
      λ has. fresh (subst (λ (ns : List ℕ). Contains ns pid) (sym (numbers_are laws old groups members s) ∙ numbers_are laws old groups' members' s') has),
    )

-- where nothing was added
pub err_stays : {M P T E : Type 0} (laws : monitor.Ghosts M P) (old new : Fleet M P) (r : Result T E) → new.watches.items ≡ old.watches.items → new.processes.items ≡ old.processes.items → new.taken ≡ old.taken → OnErr r ((groups : List Group) (members : List Member) → StandsFor laws old groups members → StandsFor laws new groups members)
err_stays laws old new (Ok x) watches processes taken = tt
err_stays laws old new (Err e) watches processes taken = λ groups members s. stands_same laws old groups members s new watches processes taken
