-- What an advance makes of a fleet.
use Rattle.std.proofs.Common.{◌≡◌, ◌≢◌, ℕ, ◌-◌, ◌<◌, ◌≤◌, ◌^◌, Bool, true, false, nat_eq, List, [], ◌∷◌, ◌++◌, length, map, get_or, Some, refl, sym, ◌∙◌, ap, subst, inl, inr, append-nil, arith, All, Contains}
use Rattle.std.specs.Prelude.{AllPairs, slice_get, if◌then◌else◌}
use Rattle.std.specs.List.{AllZip}
use Rattle.std.specs.Option.{option_map}
use Rattle.std.proofs.Math.ListN.{set}
use Rattle.std.proofs.lemmas.Bool.{cases_eq, cases_lt, eq-eqb, eqb-true, false_from_ne_true}
use Rattle.std.proofs.lemmas.List.Elements.{All-nil, All-cons, All-append}
use Rattle.std.proofs.lemmas.Option.{get_or_from_slice_get, slice_get-get_or, slice_get-map, slice_get_within}
use Rattle.dm_base.specs.declared.event.Event.{Event}
use Rattle.flow_model.specs.declared.monitor.Monitor as monitor
use Rattle.flow_model.specs.declared.which.Which.{Which}
use Rattle.trace_file.specs.declared.record.Record.{Record}
use Rattle.trace_file.specs.declared.version.TracesVersion.TheVariants.{One}
use Rattle.watch.specs.declared.watch.Watch.{Watch}
use Rattle.watch.specs.Own.{own, record_of}
use Rattle.watch.specs.Watching.{StandsFor as WatchStandsFor}
use Rattle.fleet.specs.declared.advance.Advance.{Advance}
use Rattle.fleet.specs.declared.advance.Advance.TheVariants.{Made, Rejected, Bound, Ended}
use Rattle.fleet.specs.declared.fleet.Fleet.{Fleet}
use Rattle.fleet.specs.declared.process.Process.{Process}
use Rattle.fleet.specs.declared.process.Stage.{Stage}
use Rattle.fleet.specs.declared.process.Stage.TheVariants as stages
use Rattle.fleet.specs.declared.standing.Standing.{Standing}
use Rattle.fleet.specs.declared.standing.Standing.TheVariants as standings
use Rattle.fleet.specs.Alone.{IsAlone}
use Rattle.fleet.specs.Fleets.{Judged, IsMember, StandsFor, Watches, added, pids, watch_of}
use Rattle.fleet.specs.Going.{HasCome, IsAt, IsReady, added_at, numbers}
use Rattle.fleet.specs.Members.{Group, Member, run_of}
use Rattle.fleet.proofs.AloneLemmas.{one_alone}
use Rattle.fleet.proofs.CountLemmas.{few_known}
use Rattle.fleet.proofs.StepLemmas.{last_of, own_same, open_alone, rejected_alone, bound_alone, ended_alone}
use Rattle.fleet.proofs.ZipLemmas.{some_same, map_at, map_length, set_here, set_elsewhere, map-set, zip_left, zip_right, zip_set, zip_one}

-- numbers of processes

pub pid_there : (members : List Member) (k : ℕ) (m : Member) → slice_get members k ≡ Some m → slice_get (pids members) k ≡ Some m.pid
pid_there members k m at = slice_get-map (λ (m : Member). m.pid) members k ∙ ap (option_map (λ (m : Member). m.pid)) at

-- two places of different numbers
apart_at : (members : List Member) (i j : ℕ) (a b : Member) → AllPairs (λ x y. x ≢ y) (pids members) → slice_get members i ≡ Some a → slice_get members j ≡ Some b → i ≢ j → a.pid ≢ b.pid
apart_at members i j a b differ at_i at_j other same = elim (cases_lt i j) [
  | inl less ↦ differ i j a.pid less (within j b at_j) (pid_is i a at_i ∙ same ∙ sym (pid_is j b at_j))
  | inr more ↦ elim (cases_lt j i) [
    | inl less ↦ differ j i a.pid less (within i a at_i) (pid_is j b at_j ∙ sym same ∙ sym (pid_is i a at_i))
    | inr equal ↦ other (omega arith)
  ]
] where
  within : (k : ℕ) (m : Member) → slice_get members k ≡ Some m → k < length (pids members)
  within k m at = let less = slice_get_within members k m at in let same : length (pids members) ≡ length members = map_length (λ (m : Member). m.pid) members in omega arith

  pid_is : (k : ℕ) (m : Member) → slice_get members k ≡ Some m → get_or (pids members) k a.pid ≡ m.pid
  pid_is k m at = get_or_from_slice_get (pids members) k m.pid a.pid (pid_there members k m at)

-- a member by its place
member_at : (members : List Member) (m : Member) → Contains members m → (k : ℕ) × (slice_get members k ≡ Some m)
member_at members m (k, within, is) = (k, slice_get-get_or members k m within ∙ ap Some is)

-- a member of this number is the one at this place
pub one_member : (members : List Member) (place pid : ℕ) (m n : Member) → AllPairs (λ x y. x ≢ y) (pids members) → slice_get members place ≡ Some m → m.pid ≡ pid → Contains members n → n.pid ≡ pid → n ≡ m
one_member members place pid m n differ here is has same =
    let found = member_at members n has in
    elim (cases_eq found.0 place) [
      | inl equal ↦ some_same n m (sym found.1 ∙ ap (slice_get members) equal ∙ here)
      | inr other ↦ absurd (apart_at members found.0 place n m differ found.1 here other (same ∙ sym is))
    ]

-- the numbers stay

unfoldable pub change : (Member → Member) → ℕ → Member → Member
change f pid m = if nat_eq m.pid pid then f m else m

pids-changed : (f : Member → Member) (pid : ℕ) (members : List Member) → ((m : Member) → (f m).pid ≡ m.pid) → pids (map (change f pid) members) ≡ pids members
unfolding change
pids-changed f pid [] same = refl
pids-changed f pid (m ∷ members) same =
    ap (λ (n : ℕ). n ∷ pids (map (change f pid) members)) (by_test (nat_eq m.pid pid)) ∙ ap (λ (ns : List ℕ). m.pid ∷ ns) (pids-changed f pid members same)
  where
    by_test : (t : Bool) → (if t then f m else m).pid ≡ m.pid
    by_test true = same m
    by_test false = refl

changed_here : (f : Member → Member) (pid : ℕ) (m : Member) → m.pid ≡ pid → f m ≡ change f pid m
unfolding change
changed_here f pid m is = ap (λ (t : Bool). if t then f m else m) (sym (eq-eqb m.pid pid is))

changed_elsewhere : (f : Member → Member) (pid : ℕ) (m : Member) → m.pid ≢ pid → m ≡ change f pid m
unfolding change
changed_elsewhere f pid m other = ap (λ (t : Bool). if t then f m else m) (sym (false_from_ne_true (nat_eq m.pid pid) (λ same. other (eqb-true m.pid pid same))))

-- the records that are added

pub added_known : (numbers : List ℕ) (pid : ℕ) (stage : Stage) (a : Advance) → Contains numbers pid → All (λ r. Contains numbers r.pid) (added_at pid stage a)
added_known numbers pid stages.Open (Made e) has = All-cons (λ (r : Record). Contains numbers r.pid) (record_of pid e) [] has (All-nil (λ (r : Record). Contains numbers r.pid))
added_known numbers pid stages.Open (Rejected e) has = All-cons (λ (r : Record). Contains numbers r.pid) (record_of pid e) [] has (All-nil (λ (r : Record). Contains numbers r.pid))
added_known numbers pid stages.Open (Bound e) has = All-cons (λ (r : Record). Contains numbers r.pid) (record_of pid e) [] has (All-nil (λ (r : Record). Contains numbers r.pid))
added_known numbers pid stages.Open (Ended o) has = All-nil (λ (r : Record). Contains numbers r.pid)
added_known numbers pid stages.Rejected a has = All-nil (λ (r : Record). Contains numbers r.pid)
added_known numbers pid stages.Bound a has = All-nil (λ (r : Record). Contains numbers r.pid)
added_known numbers pid (stages.Ended o) a has = All-nil (λ (r : Record). Contains numbers r.pid)
added_known numbers pid stages.Failed a has = All-nil (λ (r : Record). Contains numbers r.pid)

pub added_few : (pid : ℕ) (stage : Stage) (a : Advance) → length (added_at pid stage a) ≤ 1
added_few pid stages.Open (Made e) = omega arith
added_few pid stages.Open (Rejected e) = omega arith
added_few pid stages.Open (Bound e) = omega arith
added_few pid stages.Open (Ended o) = omega arith
added_few pid stages.Rejected a = omega arith
added_few pid stages.Bound a = omega arith
added_few pid (stages.Ended o) a = omega arith
added_few pid stages.Failed a = omega arith

nothing_added : (q : ℕ) (records : List Record) → own One q (records ++ []) ≡ own One q records
nothing_added q records = ap (own One q) (append-nil records)

-- they are of no other process
pub own_added : (q pid : ℕ) (records : List Record) (stage : Stage) (a : Advance) → pid ≢ q → own One q (records ++ added_at pid stage a) ≡ own One q records
own_added q pid records stages.Open (Made e) other = own_same q pid e records other
own_added q pid records stages.Open (Rejected e) other = own_same q pid e records other
own_added q pid records stages.Open (Bound e) other = own_same q pid e records other
own_added q pid records stages.Open (Ended o) other = nothing_added q records
own_added q pid records stages.Rejected a other = nothing_added q records
own_added q pid records stages.Bound a other = nothing_added q records
own_added q pid records (stages.Ended o) a other = nothing_added q records
own_added q pid records stages.Failed a other = nothing_added q records

-- what was added, by what the process had come to

added_open : (pid k : ℕ) (a : Advance) → added pid (standings.Open k) a ≡ added_at pid stages.Open a
added_open pid k (Made e) = refl
added_open pid k (Rejected e) = refl
added_open pid k (Bound e) = refl
added_open pid k (Ended o) = refl

module _ (which : Which) (g : Group) where
  pub stage_added : (stage : Stage) (p : Process) (m : Member) (made : List Event) (pid : ℕ) (s : Standing) (a : Advance) → (stage ≡ stages.Failed → ⊥) → HasCome which g stage p m made → IsAlone which g.model g.bound (run_of m) m.advances s → added pid s a ≡ added_at pid stage a
  stage_added stages.Open p m made pid s a sound come alone =
      ap (λ (x : Standing). added pid x a) (one_alone which g.model g.bound (run_of m) m.advances s (standings.Open m.advances) alone (open_alone which g p m made come.1)) ∙ added_open pid m.advances a
  stage_added stages.Rejected p m made pid s a sound come alone =
      let e = last_of made come.1.some in
      ap (λ (x : Standing). added pid x a) (one_alone which g.model g.bound (run_of m) m.advances s (standings.Rejected (length made) e.0) alone (rejected_alone which g m made e.0 come.1 e.1))
  stage_added stages.Bound p m made pid s a sound come alone =
      let e = last_of made come.1.some in
      ap (λ (x : Standing). added pid x a) (one_alone which g.model g.bound (run_of m) m.advances s (standings.Bound (length made) e.0) alone (bound_alone which g m made e.0 come.1 e.1))
  stage_added (stages.Ended o) p m made pid s a sound come alone =
      let ended = ended_alone which g o m made come.1 in
      ap (λ (x : Standing). added pid x a) (one_alone which g.model g.bound (run_of m) m.advances s (standings.Ended ended.0 o) alone ended.1)
  stage_added stages.Failed p m made pid s a sound come alone = absurd (sound refl)

-- the process, the member, the group and the watch that an advance is about

module _ {M P : Type 0} (laws : monitor.Ghosts M P) (old : Fleet M P) (groups : List Group) (members : List Member) (pid place : ℕ) (s : StandsFor laws old groups members) where
  pub record Found : Type 0 where
    pub process : Process
    pub here : slice_get old.processes.items place ≡ Some process
    pub member : Member
    pub there : slice_get members place ≡ Some member
    pub number : member.pid ≡ pid
    pub judged : Judged
    pub by : slice_get s.judged member.group ≡ Some judged
    pub at : IsAt laws.WHICH judged.group judged.records process member
    pub watch : Watch M P
    pub watching : slice_get old.watches.items member.group ≡ Some watch
    pub watches : Watches laws (pids members) old.taken watch judged

  pub find : slice_get (numbers old.processes.items) place ≡ Some pid → Found
  find is =
      let process = map_at (λ (p : Process). p.pid) old.processes.items place pid is in
      let member = zip_left (IsMember laws s.judged) old.processes.items members place process.0 s.members_are process.1 in
      let watch = zip_right (Watches laws (pids members) old.taken) old.watches.items s.judged member.0.group member.2.by s.watches member.2.there in
      record {
        process = process.0;
        here = process.1;
        member = member.0;
        there = member.1;
        number = sym member.2.at.pid ∙ process.2;
        judged = member.2.by;
        by = member.2.there;
        at = member.2.at;
        watch = watch.0;
        watching = watch.1;
        watches = watch.2;
      }

  module _ (f : Found) where
    pub found_group : f.process.group ≡ f.member.group
    found_group = f.at.group

    pub found_pid : f.process.pid ≡ f.member.pid
    found_pid = f.at.pid

    pub among : Contains (pids members) f.process.pid
    among =
        let within = slice_get_within members place f.member f.there in
        let same : length (pids members) ≡ length members = map_length (λ (m : Member). m.pid) members in
        (place, omega arith, get_or_from_slice_get (pids members) place f.process.pid f.process.pid (pid_there members place f.member f.there ∙ ap Some (sym found_pid)))

    pub found_ready : old.taken < 2 ^ 64 - 1 → IsReady laws f.judged.group f.judged.records f.watch f.process.stage f.process f.member
    found_ready less = record {
      watch = f.watches.stands;
      at = f.at;
      room = λ e.
          let all = All-append (λ (r : Record). Contains (pids members) r.pid) f.judged.records (record_of f.process.pid e ∷ []) f.watches.known (All-cons (λ (r : Record). Contains (pids members) r.pid) (record_of f.process.pid e) [] among (All-nil (λ (r : Record). Contains (pids members) r.pid))) in
          let count = few_known (pids members) (f.judged.records ++ record_of f.process.pid e ∷ []) all in
          let same : length (pids members) ≡ length members = map_length (λ (m : Member). m.pid) members in
          let few = s.few in
          omega arith;
      few = let few = f.watches.few in omega arith;
    }

    -- the other members

    other_pid : (j : ℕ) (b : Member) → j ≢ place → slice_get members j ≡ Some b → b.pid ≢ pid
    other_pid j b other is same = apart_at members j place b f.member s.differ is f.there other (same ∙ sym f.number)

    same_member : (b : Member) → slice_get members place ≡ Some b → f.member ≡ b
    same_member b is = some_same f.member b (sym f.there ∙ is)

    module _ (new : Fleet M P) (q : Process) (v : Watch M P) (processes_are : new.processes.items ≡ set old.processes.items place q) (watches_are : new.watches.items ≡ set old.watches.items f.process.group v) where
      pub watch_here : watch_of new f.member.group ≡ Some v
      watch_here = ap (λ (ws : List (Watch M P)). slice_get ws f.member.group) (watches_are ∙ ap (λ (i : ℕ). set old.watches.items i v) found_group) ∙ set_here old.watches.items f.member.group f.watch v f.watching

      pub watch_elsewhere : (i : ℕ) → i ≢ f.member.group → watch_of new i ≡ watch_of old i
      watch_elsewhere i other = ap (λ (ws : List (Watch M P)). slice_get ws i) (watches_are ∙ ap (λ (i : ℕ). set old.watches.items i v) found_group) ∙ set_elsewhere old.watches.items f.member.group i v other

      -- the same group with further records
      module _ (records : List Record) (f' : Member → Member) (most : ℕ) (same_pid : (m : Member) → (f' m).pid ≡ m.pid) (stands : WatchStandsFor laws f.judged.group.model f.judged.group.bound One v records) (known : All (λ r. Contains (pids members) r.pid) records) (more : old.taken ≤ most) (few : length records ≤ most) (at : IsAt laws.WHICH f.judged.group records q (f' f.member)) (same_group : (m : Member) → (f' m).group ≡ m.group) (own_stays : (n : ℕ) → f.process.pid ≢ n → own One n records ≡ own One n f.judged.records) (taken_is : new.taken ≡ most) where
        after : Judged
        after = record { group = f.judged.group; records = records }

        judged' : List Judged
        judged' = set s.judged f.member.group after

        others : (j : ℕ) (a : Process) (b : Member) → j ≢ place → slice_get members j ≡ Some b → IsMember laws s.judged a b → IsMember laws judged' a (change f' pid b)
        unfolding after judged'
        others j a b other is old_one =
            let apart = other_pid j b other is in
            subst (IsMember laws judged' a) (changed_elsewhere f' pid b apart) (elim (cases_eq b.group f.member.group) [
              | inl same ↦
                  let by : old_one.by ≡ f.judged = some_same old_one.by f.judged (sym old_one.there ∙ ap (slice_get s.judged) same ∙ f.by) in
                  let was : IsAt laws.WHICH f.judged.group f.judged.records a b = subst (λ (x : Judged). IsAt laws.WHICH x.group x.records a b) by old_one.at in
                  record {
                    by = after;
                    there = ap (slice_get judged') same ∙ set_here s.judged f.member.group f.judged after f.by;
                    at = record {
                      pid = was.pid;
                      group = was.group;
                      results = was.results;
                      typed = was.typed;
                      come = subst (HasCome laws.WHICH f.judged.group a.stage a b) (sym (own_stays b.pid (λ same_pid. apart (sym same_pid ∙ found_pid ∙ f.number)))) was.come;
                    };
                  }
              | inr different ↦ record { by = old_one.by; there = set_elsewhere s.judged f.member.group b.group after different ∙ old_one.there; at = old_one.at }
            ])

        here : (b : Member) → slice_get members place ≡ Some b → IsMember laws judged' q (change f' pid b)
        unfolding after judged'
        here b is =
            let same = same_member b is in
            subst (λ (m : Member). IsMember laws judged' q (change f' pid m)) same
            (subst (IsMember laws judged' q) (changed_here f' pid f.member f.number) (record {
              by = after;
              there = ap (slice_get judged') (same_group f.member) ∙ set_here s.judged f.member.group f.judged after f.by;
              at = at;
            }))

        pub stands_after : StandsFor laws new groups (map (change f' pid) members)
        unfolding after judged'
        stands_after =
            let numbers_are : pids (map (change f' pid) members) ≡ pids members = pids-changed f' pid members same_pid in
            record {
              judged = judged';
              groups_are = map-set (λ (j : Judged). j.group) s.judged f.member.group f.judged after f.by refl ∙ s.groups_are;
              watches =
                  subst (λ (ns : List ℕ). AllZip (Watches laws ns new.taken) new.watches.items judged') (sym numbers_are)
                  (subst (λ (t : ℕ). AllZip (Watches laws (pids members) t) new.watches.items judged') (sym taken_is)
                  (subst (λ (ws : List (Watch M P)). AllZip (Watches laws (pids members) most) ws judged') (sym (watches_are ∙ ap (λ (i : ℕ). set old.watches.items i v) found_group))
                  (zip_set (Watches laws (pids members) old.taken) (Watches laws (pids members) most) old.watches.items s.judged f.member.group v after
                  (λ w j one. record { valid = one.valid; stands = one.stands; known = one.known; few = let few = one.few in omega arith })
                  (record { valid = f.watches.valid; stands = stands; known = known; few = few })
                  s.watches)));
              members_are =
                  subst (λ (ps : List Process). AllZip (IsMember laws judged') ps (map (change f' pid) members)) (sym processes_are)
                  (zip_one (IsMember laws s.judged) (IsMember laws judged') (change f' pid) old.processes.items members place q s.members_are here others);
              differ = subst (AllPairs (λ (a b : ℕ). a ≢ b)) (sym numbers_are) s.differ;
              few = let few = s.few in omega (arith, map_length (change f' pid) members);
              narrow = s.narrow;
            }
