-- The next record, among the processes of a table.
use Rattle.std.proofs.Common.{◌≡◌, ◌||◌, ℕ, ◌+◌, ◌<◌, ◌^◌, true, false, nat_eq, List, [], ◌∷◌, ◌++◌, Option, Some, None, is_some, length, refl, sym, ◌∙◌, ap, subst, true≢false, arith, inl, inr}
use Rattle.std.specs.Prelude.{◌⊎◌, pos, negsuc, nat_lt, ◌&&◌, if◌then◌else◌, flat_map, Result, Ok, Err, OnErr}
use Rattle.std.specs.Cmp.{nat_eq_equiv}
use Rattle.std.proofs.lemmas.Bool.{cases_Bool, eqb-true, eq-eqb}
use Rattle.dm_base.specs.declared.event.Event.{Event}
use Rattle.dm_base.specs.declared.event.Event.TheVariants.{Sys, Pre, Post}
use Rattle.dm_base.specs.declared.verdict.Step.{Step}
use Rattle.flow_model.specs.declared.monitor.Monitor as monitor
use Rattle.flow_model.specs.Graph.{Graph}
use Rattle.flow_model.specs.Verdict.{IsStep}
use Rattle.indexmap.specs.IndexMap.{IndexMap, get, keys}
use Rattle.indexmap.specs.IndexSet.{insert_key}
use Rattle.trace_file.specs.declared.record.Record.{Record}
use Rattle.trace_file.specs.declared.version.TracesVersion.{TracesVersion}
use Rattle.trace_file.specs.declared.version.TracesVersion.TheVariants.{One, Two}
use Rattle.trace_file.specs.Known.{child_of, made_known}
use Rattle.trace_file.specs.Processes.{AreKnown}
use Rattle.trace_file.proofs.ProcessesLemmas.{one_known, two_known, made_push}
use Rattle.watch.specs.declared.process.Process.{Process}
use Rattle.watch.specs.declared.process.Setting.{Setting}
use Rattle.watch.specs.Own.{is_among, is_known, own, record_of}
use Rattle.watch.specs.Keeping.{KeepsPool, IsNewborn}
use Rattle.watch.specs.Standing.{IsAt, HasHistory, AreWatched}
use Rattle.watch.proofs.KeyLemmas.{keys_there, among_keys, among_self, among_kept, keys_known}
use Rattle.watch.proofs.OwnLemmas.{own_self, own_child, own_other, own_within}

-- an event makes one child at most
pub one_child : (e : Event) → (child_of e ≡ []) ⊎ ((c : ℕ) × (child_of e ≡ c ∷ []))
one_child (Sys name arguments (pos n)) = elim (nat_eq name 22 && nat_lt 0 n && nat_lt n 4294967296) as (λ b. ((if b then n ∷ [] else []) ≡ []) ⊎ ((c : ℕ) × ((if b then n ∷ [] else []) ≡ c ∷ []))) [ true ↦ inr (n, refl) | false ↦ inl refl ]
one_child (Sys name arguments (negsuc n)) = inl refl
one_child (Pre site) = inl refl
one_child (Post site) = inl refl

module _ {M P : Type 0} (laws : monitor.Ghosts M P) (g : Graph) (bound : ℕ) where
  -- a history outlives what happens to other processes
  pub history_kept : (old new : P) (h : List Event) (process : Option (Process M)) → KeepsPool laws g old new → HasHistory laws g bound old h process → HasHistory laws g bound new h process
  history_kept old new h None keeps has = has
  history_kept old new h (Some process) keeps has = record { stands = keeps.others process.monitor bound h has.stands; past = has.past }

  -- what holds of a history holds of it, however it is written
  pub history_is : (pool : P) (h k : List Event) (old new : Option (Process M)) → h ≡ k → old ≡ new → HasHistory laws g bound pool h old → HasHistory laws g bound pool k new
  history_is pool h k old new same is has = subst (λ (o : Option (Process M)). HasHistory laws g bound pool k o) is (subst (λ (w : List Event). HasHistory laws g bound pool w old) same has)

pub keeps_both : {M P : Type 0} (laws : monitor.Ghosts M P) (g : Graph) (old mid new : P) → KeepsPool laws g old mid → KeepsPool laws g mid new → KeepsPool laws g old new
keeps_both laws g old mid new first second = record {
  pool = λ is. second.pool (first.pool is);
  others = λ m k h stands. second.others m k h (first.others m k h stands);
  notes = λ noted. second.notes (first.notes noted);
}

-- a record that makes no process known beside its own
pub known_alone : (version : TracesVersion) (pid : ℕ) (e : Event) (old new numbers : List ℕ) → new ≡ insert_key nat_eq old pid → ((c : ℕ) → version ≡ Two → is_among (child_of e) c ≡ true → is_among new c ≡ true) → AreKnown old numbers → AreKnown new (numbers ++ made_known version (record_of pid e))
known_alone One pid e old new numbers is there are = one_known One (record_of pid e) old new refl is numbers are
known_alone Two pid e old new numbers is there are =
    elim (one_child e) as (λ _. AreKnown new (numbers ++ made_known Two (record_of pid e))) [
      | inl none ↦ one_known Two (record_of pid e) old new (ap (λ (cs : List ℕ). pid ∷ cs) none) is numbers are
      | inr one ↦
          let made : made_known Two (record_of pid e) ≡ pid ∷ one.0 ∷ [] = ap (λ (cs : List ℕ). pid ∷ cs) one.1 in
          let among : is_among (child_of e) one.0 ≡ true = ap (λ (cs : List ℕ). is_among cs one.0) one.1 ∙ (λ i. eq-eqb one.0 one.0 refl i || false) in
          two_known Two (record_of pid e) old new new one.0 made is (sym (keys_there new one.0 (there one.0 refl among))) numbers are
    ]

module _ {M P S : Type 0} (laws : monitor.Ghosts M P) (setting : Setting) (pid : ℕ) (e : Event) (records : List Record) where
  table_known : (table : IndexMap ℕ (Process M) S) (shared : P) (p : ℕ) → AreWatched laws setting table shared records → is_some (get nat_eq table p) ≡ is_known setting.version records p
  table_known table shared p are = sym (among_keys table p) ∙ keys_known setting.version (keys table) records p are.known

  -- what a process has come to is enough for its next event
  pub next_fits : (table : IndexMap ℕ (Process M) S) (shared : P) → AreWatched laws setting table shared records → length records + 1 < 2 ^ 64 → (h : List Event) × HasHistory laws setting.model setting.bound shared h (get nat_eq table pid) × (length h + 1 < 2 ^ 64)
  next_fits table shared are few = (own setting.version pid records, are.each pid, let le = own_within setting.version records pid in omega arith)

  module _ (t0 t1 : IndexMap ℕ (Process M) S) (old new : P) (keeps : KeepsPool laws setting.model old new) (others : (q : ℕ) → nat_eq pid q ≡ false → get nat_eq t1 q ≡ get nat_eq t0 q) where
    -- where the record was not taken
    pub watched_still : keys t1 ≡ keys t0 → ((h : List Event) → HasHistory laws setting.model setting.bound old h (get nat_eq t0 pid) → HasHistory laws setting.model setting.bound new h (get nat_eq t1 pid)) → AreWatched laws setting t0 old records → AreWatched laws setting t1 new records
    watched_still same history are = record {
      pool = keeps.pool are.pool;
      notes = keeps.notes are.notes;
      known = subst (λ (ks : List ℕ). AreKnown ks (flat_map (made_known setting.version) records)) (sym same) are.known;
      each = each;
    }
      where
        each : (p : ℕ) → HasHistory laws setting.model setting.bound new (own setting.version p records) (get nat_eq t1 p)
        each p = elim (cases_Bool (nat_eq pid p)) as (λ _. HasHistory laws setting.model setting.bound new (own setting.version p records) (get nat_eq t1 p)) [
          | inl is ↦ subst (λ (q : ℕ). HasHistory laws setting.model setting.bound new (own setting.version q records) (get nat_eq t1 q)) (eqb-true pid p is) (history (own setting.version pid records) (are.each pid))
          | inr other ↦ subst (λ (o : Option (Process M)). HasHistory laws setting.model setting.bound new (own setting.version p records) o) (sym (others p other)) (history_kept laws setting.model setting.bound old new (own setting.version p records) (get nat_eq t0 p) keeps (are.each p))
        ]

    module _ (history : (h : List Event) → HasHistory laws setting.model setting.bound old h (get nat_eq t0 pid) → HasHistory laws setting.model setting.bound new (h ++ e ∷ []) (get nat_eq t1 pid)) (are : AreWatched laws setting t0 old records) where
      -- the process of the record has the event more
      own_next : HasHistory laws setting.model setting.bound new (own setting.version pid (records ++ record_of pid e ∷ [])) (get nat_eq t1 pid)
      own_next = subst (λ (h : List Event). HasHistory laws setting.model setting.bound new h (get nat_eq t1 pid)) (sym (own_self records (record_of pid e) pid setting.version (eq-eqb pid pid refl))) (history (own setting.version pid records) (are.each pid))

      -- a process that is neither the record's nor its child
      other_next : (p : ℕ) → nat_eq pid p ≡ false → (setting.version ≡ Two → is_among (child_of e) p ≡ true → is_known Two records p ≡ true) → HasHistory laws setting.model setting.bound new (own setting.version p (records ++ record_of pid e ∷ [])) (get nat_eq t1 p)
      other_next p other known =
          history_is laws setting.model setting.bound new (own setting.version p records) (own setting.version p (records ++ record_of pid e ∷ [])) (get nat_eq t0 p) (get nat_eq t1 p)
          (sym (own_other records (record_of pid e) p setting.version other known)) (sym (others p other))
          (history_kept laws setting.model setting.bound old new (own setting.version p records) (get nat_eq t0 p) keeps (are.each p))

      each_or_old : (p : ℕ) → (setting.version ≡ Two → nat_eq pid p ≡ false → is_among (child_of e) p ≡ true → is_known Two records p ≡ true) → HasHistory laws setting.model setting.bound new (own setting.version p (records ++ record_of pid e ∷ [])) (get nat_eq t1 p)
      each_or_old p known = elim (cases_Bool (nat_eq pid p)) as (λ _. HasHistory laws setting.model setting.bound new (own setting.version p (records ++ record_of pid e ∷ [])) (get nat_eq t1 p)) [
        | inl is ↦ subst (λ (q : ℕ). HasHistory laws setting.model setting.bound new (own setting.version q (records ++ record_of pid e ∷ [])) (get nat_eq t1 q)) (eqb-true pid p is) own_next
        | inr other ↦ other_next p other (λ two. known two other)
      ]

      -- where the record makes no child
      pub watched_alone : keys t1 ≡ insert_key nat_eq (keys t0) pid → IsNewborn setting.version t0 pid e None → AreWatched laws setting t1 new (records ++ record_of pid e ∷ [])
      watched_alone inserted unborn = record {
        pool = keeps.pool are.pool;
        notes = keeps.notes are.notes;
        known = subst (AreKnown (keys t1)) (made_push setting.version records (record_of pid e)) (known_alone setting.version pid e (keys t0) (keys t1) (flat_map (made_known setting.version) records) inserted there are.known);
        each = λ p. each_or_old p (known p);
      }
        where
          there : (c : ℕ) → setting.version ≡ Two → is_among (child_of e) c ≡ true → is_among (keys t1) c ≡ true
          there c two among = ap (λ (ks : List ℕ). is_among ks c) inserted ∙ elim (unborn c two among) as (λ _. is_among (insert_key nat_eq (keys t0) pid) c ≡ true) [
            | inl is ↦ subst (λ (q : ℕ). is_among (insert_key nat_eq (keys t0) pid) q ≡ true) (eqb-true pid c is) (among_self (keys t0) pid)
            | inr was ↦ among_kept (keys t0) pid c (among_keys t0 c ∙ was)
          ]

          known : (p : ℕ) → setting.version ≡ Two → nat_eq pid p ≡ false → is_among (child_of e) p ≡ true → is_known Two records p ≡ true
          known p two other among = elim (unborn p two among) as (λ _. is_known Two records p ≡ true) [
            | inl is ↦ absurd (true≢false (sym is ∙ other))
            | inr was ↦ ap (λ (v : TracesVersion). is_known v records p) (sym two) ∙ sym (table_known t0 old p are) ∙ was
          ]

      -- where it makes one
      pub watched_both : (t2 : IndexMap ℕ (Process M) S) (c : ℕ) (process : Process M) → keys t1 ≡ insert_key nat_eq (keys t0) pid → IsNewborn setting.version t0 pid e (Some c) → IsAt laws setting.model setting.bound new (own setting.version pid records ++ e ∷ []) process
          → get nat_eq t2 c ≡ Some process → ((q : ℕ) → nat_eq c q ≡ false → get nat_eq t2 q ≡ get nat_eq t1 q) → keys t2 ≡ insert_key nat_eq (keys t1) c → AreWatched laws setting t2 new (records ++ record_of pid e ∷ [])
      watched_both t2 c process inserted born at added rest more = record {
        pool = keeps.pool are.pool;
        notes = keeps.notes are.notes;
        known = subst (AreKnown (keys t2)) (made_push setting.version records (record_of pid e)) (two_known setting.version (record_of pid e) (keys t0) (keys t1) (keys t2) c made inserted more (flat_map (made_known setting.version) records) are.known);
        each = each;
      }
        where
          made : made_known setting.version (record_of pid e) ≡ pid ∷ c ∷ []
          made = ap (λ (v : TracesVersion). made_known v (record_of pid e)) born.0 ∙ ap (λ (cs : List ℕ). pid ∷ cs) born.1

          among : is_among (child_of e) c ≡ true
          among = ap (λ (cs : List ℕ). is_among cs c) born.1 ∙ (λ i. eq-eqb c c refl i || false)

          new_one : is_known Two records c ≡ false
          new_one = ap (λ (v : TracesVersion). is_known v records c) (sym born.0) ∙ sym (table_known t0 old c are) ∙ ap is_some born.3

          of_child : own setting.version pid records ++ e ∷ [] ≡ own setting.version c (records ++ record_of pid e ∷ [])
          of_child =
              ap (λ (v : TracesVersion). own v pid records ++ e ∷ []) born.0
              ∙ sym (own_child records (record_of pid e) c born.2 among new_one)
              ∙ ap (λ (v : TracesVersion). own v c (records ++ record_of pid e ∷ [])) (sym born.0)

          not_child : (p : ℕ) → nat_eq c p ≡ false → is_among (child_of e) p ≡ true → is_known Two records p ≡ true
          not_child p other is = absurd (true≢false (sym is ∙ ap (λ (cs : List ℕ). is_among cs p) born.1 ∙ (λ i. (nat_eq_equiv.symm p c ∙ other) i || false)))

          each : (p : ℕ) → HasHistory laws setting.model setting.bound new (own setting.version p (records ++ record_of pid e ∷ [])) (get nat_eq t2 p)
          each p = elim (cases_Bool (nat_eq c p)) as (λ _. HasHistory laws setting.model setting.bound new (own setting.version p (records ++ record_of pid e ∷ [])) (get nat_eq t2 p)) [
            | inl is ↦ subst (λ (q : ℕ). HasHistory laws setting.model setting.bound new (own setting.version q (records ++ record_of pid e ∷ [])) (get nat_eq t2 q)) (eqb-true c p is)
                (history_is laws setting.model setting.bound new (own setting.version pid records ++ e ∷ []) (own setting.version c (records ++ record_of pid e ∷ [])) (Some process) (get nat_eq t2 c) of_child (sym added) at)
            | inr other ↦ subst (λ (o : Option (Process M)). HasHistory laws setting.model setting.bound new (own setting.version p (records ++ record_of pid e ∷ [])) o) (sym (rest p other)) (each_or_old p (λ two self. not_child p other))
          ]

      -- the answer is the one to the whole own history
      pub step_told : (step : Step) → ((h : List Event) → HasHistory laws setting.model setting.bound old h (get nat_eq t0 pid) → IsStep laws.WHICH setting.model setting.bound (h ++ e ∷ []) step) → IsStep laws.WHICH setting.model setting.bound (own setting.version pid (records ++ record_of pid e ∷ [])) step
      step_told step told = subst (λ (h : List Event). IsStep laws.WHICH setting.model setting.bound h step) (sym (own_self records (record_of pid e) pid setting.version (eq-eqb pid pid refl))) (told (own setting.version pid records) (are.each pid))

  -- a pool that only kept what it had
  pub watched_pool : (table : IndexMap ℕ (Process M) S) (old new : P) → KeepsPool laws setting.model old new → AreWatched laws setting table old records → AreWatched laws setting table new records
  watched_pool table old new keeps are = record {
    pool = keeps.pool are.pool;
    notes = keeps.notes are.notes;
    known = are.known;
    each = λ p. history_kept laws setting.model setting.bound old new (own setting.version p records) (get nat_eq table p) keeps (are.each p);
  }

-- what holds whatever was answered
pub on_err : {T E : Type 0} {Q : Type 0} (r : Result T E) → Q → OnErr r Q
on_err (Ok t) q = tt
on_err (Err e) q = q
