-- What a watch answers of the records that it stands for.
use Rattle.std.proofs.Common.{◌≡◌, ◌||◌, not, ℕ, ◌+◌, ◌<◌, ◌≤◌, Bool, true, false, nat_eq, List, [], ◌∷◌, ◌++◌, map, filter, Option, Some, None, is_some, Contains, length, Vec, Global, drop, get_or, append_assoc, refl, sym, ◌∙◌, ap, subst, true≢false, arith, length-append, append-nil, inl, inr}
use Rattle.std.specs.Prelude.{◌⊎◌, ◌↔◌, if◌then◌else◌, flat_map, All, IsSome, IsTrue, Result, Ok, Err, IfOk, IsOk}
use Rattle.std.specs.Cmp.{nat_eq_equiv}
use Rattle.std.specs.Map.{keys_of, lookup}
use Rattle.std.specs.Option.{option_map, option_map_or}
use Rattle.std.proofs.lemmas.Bool.{cases_Bool, eqb-true, eq-eqb, leb-true, le-leb}
use Rattle.std.proofs.Math.Dec.{leb}
use Rattle.std.proofs.lemmas.List.{drop_more, drop_all}
use Rattle.std.proofs.lemmas.List.Elements.{All-nil, All-cons, filter-append}
use Rattle.std.proofs.lemmas.List.Folds.{list_any-append}
use Rattle.std.proofs.lemmas.Map.Entries.{length-keys_of}
use Rattle.std.proofs.lemmas.Map.Views.{lookup-from_Contains}
use Rattle.dm_base.specs.declared.event.Event.{Event}
use Rattle.dm_base.specs.declared.verdict.Verdict.{Verdict}
use Rattle.flow_model.specs.declared.monitor.Monitor as monitor
use Rattle.flow_model.specs.Graph.{Graph}
use Rattle.flow_model.specs.Verdict.{IsAccepted, IsVerdict}
use Rattle.indexmap.specs.IndexMap.{IndexMap, get, keys, values, IsUnique}
use Rattle.indexmap.specs.IndexSet.{insert_key}
use Rattle.trace_file.specs.declared.record.Record.{Record}
use Rattle.trace_file.specs.declared.version.TracesVersion.{TracesVersion}
use Rattle.trace_file.specs.declared.version.TracesVersion.TheVariants.{One, Two}
use Rattle.trace_file.specs.Known.{child_of, made_known, known_count}
use Rattle.trace_file.specs.Processes.{AreKnown}
use Rattle.trace_file.specs.Traces.{most_processes}
use Rattle.trace_file.proofs.ProcessesLemmas.{two_known, known_length, made_push}
use Rattle.watch.specs.declared.process.Process.{Process}
use Rattle.watch.specs.declared.process.Setting.{Setting}
use Rattle.watch.specs.declared.watch.Watch.{Watch}
use Rattle.watch.specs.Keeping.{IsNewborn, accepted_of, verdicts_told, verdict_of}
use Rattle.watch.specs.Own.{is_among, is_known, has_record, own_forked, own, firsts, record_of}
use Rattle.watch.specs.Standing.{IsBound, IsAt, HasHistory, AreWatched}
use Rattle.watch.specs.Watching.{StandsFor, HoldsNeeded, monitor_of}
use Rattle.watch.proofs.KeyLemmas.{among_keys, among_self, among_kept, keys_known}
use Rattle.watch.proofs.MarkLemmas.{marked_there, marked_from, numbered}
use Rattle.watch.proofs.PastLemmas.{accepted_is_kept, kept_is_accepted, verdict_told}
use Rattle.watch.proofs.StepLemmas.{known_alone}
use Rattle.trace_file.proofs.TracesLemmas.{none_known}
use Rattle.flow_model.proofs.EdgeLemmas.{or_true}

-- what holds of the watch's own model, bound and version holds of those that it stands for
pub moved : (Q : Graph → ℕ → TracesVersion → Type 0) (setting : Setting) (g : Graph) (k : ℕ) (version : TracesVersion) → setting.model ≡ g → setting.bound ≡ k → setting.version ≡ version → Q setting.model setting.bound setting.version → Q g k version
moved Q setting g k version model limit form q =
    subst (λ (x : Graph). Q x k version) model (subst (λ (y : ℕ). Q setting.model y version) limit (subst (λ (z : TracesVersion). Q setting.model setting.bound z) form q))

-- the processes that have a record

any_filtered : (test : ℕ → Bool) (p : ℕ) (ks : List ℕ) → test p ≡ true → is_among (filter test ks) p ≡ is_among ks p
any_filtered test p [] passes = refl
any_filtered test p (k ∷ ks) passes = by (any_filtered test p ks passes) (test k) refl
  where
    apart : test k ≡ false → nat_eq p k ≡ false
    apart is = elim (cases_Bool (nat_eq p k)) as (λ _. nat_eq p k ≡ false) [
      | inl same ↦ absurd (true≢false (sym passes ∙ ap test (eqb-true p k same) ∙ is))
      | inr other ↦ other
    ]

    by : is_among (filter test ks) p ≡ is_among ks p → (b : Bool) → test k ≡ b → is_among (if b then k ∷ filter test ks else filter test ks) p ≡ (nat_eq p k || is_among ks p)
    by rest true is = ap (λ (b : Bool). nat_eq p k || b) rest
    by rest false is = rest ∙ ap (λ (b : Bool). b || is_among ks p) (sym (apart is))

pub firsts_has : (records : List Record) (p : ℕ) → is_among (firsts records) p ≡ has_record records p
firsts_has [] p = refl
firsts_has (r ∷ later) p = by (firsts_has later p) (nat_eq p r.pid) refl
  where
    by : is_among (firsts later) p ≡ has_record later p → (b : Bool) → nat_eq p r.pid ≡ b → (nat_eq p r.pid || is_among (filter (λ q. not (nat_eq r.pid q)) (firsts later)) p) ≡ (nat_eq p r.pid || has_record later p)
    by rest true is = (λ i. is i || is_among (filter (λ q. not (nat_eq r.pid q)) (firsts later)) p) ∙ (λ i. sym is i || has_record later p)
    by rest false is = ap (λ (b : Bool). nat_eq p r.pid || b) (any_filtered (λ q. not (nat_eq r.pid q)) p (firsts later) (ap not (nat_eq_equiv.symm r.pid p ∙ is)) ∙ rest)

-- one more number, in a list without another one
module _ (x y : ℕ) (F : List ℕ) where
  grown : is_among F y ≡ false → filter (λ q. not (nat_eq x q)) (insert_key nat_eq F y) ≡ filter (λ q. not (nat_eq x q)) F ++ (if not (nat_eq x y) then y ∷ [] else [])
  grown new = ap (λ (b : Bool). filter (λ q. not (nat_eq x q)) (if b then F else F ++ y ∷ [])) new ∙ filter-append (λ q. not (nat_eq x q)) F (y ∷ [])

  same : is_among F y ≡ true → filter (λ q. not (nat_eq x q)) (insert_key nat_eq F y) ≡ filter (λ q. not (nat_eq x q)) F
  same there = ap (λ (b : Bool). filter (λ q. not (nat_eq x q)) (if b then F else F ++ y ∷ [])) there

  put : (b : Bool) → (nat_eq y x || is_among (filter (λ q. not (nat_eq x q)) F) y) ≡ b → insert_key nat_eq (x ∷ filter (λ q. not (nat_eq x q)) F) y ≡ (if b then x ∷ filter (λ q. not (nat_eq x q)) F else x ∷ (filter (λ q. not (nat_eq x q)) F ++ y ∷ []))
  put b is = ap (λ (b : Bool). if b then x ∷ filter (λ q. not (nat_eq x q)) F else x ∷ (filter (λ q. not (nat_eq x q)) F ++ y ∷ [])) is

  insert_filtered : x ∷ filter (λ q. not (nat_eq x q)) (insert_key nat_eq F y) ≡ insert_key nat_eq (x ∷ filter (λ q. not (nat_eq x q)) F) y
  insert_filtered = by (nat_eq y x) (is_among F y) refl refl
    where
      by : (b a : Bool) → nat_eq y x ≡ b → is_among F y ≡ a → x ∷ filter (λ q. not (nat_eq x q)) (insert_key nat_eq F y) ≡ insert_key nat_eq (x ∷ filter (λ q. not (nat_eq x q)) F) y
      by true true is among = ap (λ (ks : List ℕ). x ∷ ks) (same among) ∙ sym (put true (λ i. is i || is_among (filter (λ q. not (nat_eq x q)) F) y))
      by true false is among =
          ap (λ (ks : List ℕ). x ∷ ks) (grown among ∙ ap (λ (b : Bool). filter (λ q. not (nat_eq x q)) F ++ (if not b then y ∷ [] else [])) (nat_eq_equiv.symm x y ∙ is) ∙ append-nil (filter (λ q. not (nat_eq x q)) F))
          ∙ sym (put true (λ i. is i || is_among (filter (λ q. not (nat_eq x q)) F) y))
      by false true is among =
          ap (λ (ks : List ℕ). x ∷ ks) (same among)
          ∙ sym (put true ((λ i. is i || is_among (filter (λ q. not (nat_eq x q)) F) y) ∙ any_filtered (λ q. not (nat_eq x q)) y F (ap not (nat_eq_equiv.symm x y ∙ is)) ∙ among))
      by false false is among =
          ap (λ (ks : List ℕ). x ∷ ks) (grown among ∙ ap (λ (b : Bool). filter (λ q. not (nat_eq x q)) F ++ (if not b then y ∷ [] else [])) (nat_eq_equiv.symm x y ∙ is))
          ∙ sym (put false ((λ i. is i || is_among (filter (λ q. not (nat_eq x q)) F) y) ∙ any_filtered (λ q. not (nat_eq x q)) y F (ap not (nat_eq_equiv.symm x y ∙ is)) ∙ among))

pub firsts_push : (records : List Record) (r : Record) → firsts (records ++ r ∷ []) ≡ insert_key nat_eq (firsts records) r.pid
firsts_push [] r = refl
firsts_push (s ∷ later) r = ap (λ (ks : List ℕ). s.pid ∷ filter (λ q. not (nat_eq s.pid q)) ks) (firsts_push later r) ∙ insert_filtered s.pid r.pid (firsts later)

-- a process with a record is known
pub known_of_record : (version : TracesVersion) (records : List Record) (p : ℕ) → has_record records p ≡ true → is_known version records p ≡ true
known_of_record version [] p has = absurd (true≢false (sym has))
known_of_record One (r ∷ later) p has = both (nat_eq p r.pid) (has_record later p) false (is_known One later p) (known_of_record One later p) has
  where
    both : (b c d e : Bool) → (c ≡ true → e ≡ true) → (b || c) ≡ true → ((b || d) || e) ≡ true
    both true c d e then' is = refl
    both false c true e then' is = refl
    both false c false e then' is = then' is
known_of_record Two (r ∷ later) p has = both (nat_eq p r.pid) (has_record later p) (is_among (child_of r.event) p) (is_known Two later p) (known_of_record Two later p) has
  where
    both : (b c d e : Bool) → (c ≡ true → e ≡ true) → (b || c) ≡ true → ((b || d) || e) ≡ true
    both true c d e then' is = refl
    both false c true e then' is = refl
    both false c false e then' is = then' is

-- no record

none_own : (version : TracesVersion) (p : ℕ) → own version p [] ≡ []
unfolding own_forked
none_own One p = refl
none_own Two p = refl

module _ {M P S : Type 0} (laws : monitor.Ghosts M P) (setting : Setting) where
  pub watched_nothing : (table : IndexMap ℕ (Process M) S) (pool : P) → table.entries ≡ [] → laws.is_pool pool setting.model → laws.noted pool setting.model [] → AreWatched laws setting table pool []
  watched_nothing table pool empty is notes = record {
    pool = is;
    notes = notes;
    known = subst (λ (ks : List ℕ). AreKnown ks []) (ap keys_of (sym empty)) none_known;
    each = λ p. subst (λ (es : List (ℕ × Process M)). HasHistory laws setting.model setting.bound pool (own setting.version p []) (lookup (nat_eq p) es)) (sym empty) (none_own setting.version p);
  }

  -- where the entries are the same
  pub watched_entries : (old new : IndexMap ℕ (Process M) S) (pool : P) (records : List Record) → new.entries ≡ old.entries → AreWatched laws setting old pool records → AreWatched laws setting new pool records
  watched_entries old new pool records same are = record {
    pool = are.pool;
    notes = are.notes;
    known = subst (λ (es : List (ℕ × Process M)). AreKnown (keys_of es) (flat_map (made_known setting.version) records)) (sym same) are.known;
    each = λ p. subst (λ (es : List (ℕ × Process M)). HasHistory laws setting.model setting.bound pool (own setting.version p records) (lookup (nat_eq p) es)) (sym same) (are.each p);
  }

-- one watch

mapped_some : {X Y : Type 0} (f : X → Y) (o : Option X) → is_some (option_map f o) ≡ is_some o
mapped_some f None = refl
mapped_some f (Some x) = refl

module _ {M P : Type 0} (laws : monitor.Ghosts M P) (g : Graph) (k : ℕ) (version : TracesVersion) (w : Watch M P) (records : List Record) (s : StandsFor laws g k version w records) where
  pub table_knows : (p : ℕ) → is_some (get nat_eq w.table p) ≡ is_known version records p
  table_knows p = sym (among_keys w.table p) ∙ keys_known w.setting.version (keys w.table) records p s.watched.known ∙ ap (λ (v : TracesVersion). is_known v records p) s.form

  pub monitors_known : (p : ℕ) → is_some (monitor_of w p) ≡ is_known version records p
  monitors_known p = mapped_some (λ process. process.monitor) (get nat_eq w.table p) ∙ table_knows p

  pub has_first : (p : ℕ) → is_among w.firsts.keys p ≡ has_record records p
  has_first p = ap (λ (ks : List ℕ). is_among ks p) s.order ∙ firsts_has records p

  -- what the process has come to
  pub history_of : (p : ℕ) (process : Process M) → Some process ≡ get nat_eq w.table p → IsAt laws g k w.pool (own version p records) process
  history_of p process there =
      moved (λ g k v. IsAt laws g k w.pool (own v p records) process) w.setting g k version s.model s.limit s.form
      (subst (λ (o : Option (Process M)). HasHistory laws w.setting.model w.setting.bound w.pool (own w.setting.version p records) o) (sym there) (s.watched.each p))

  -- a process with a record is in the table
  pub in_table : (p : ℕ) → is_among w.firsts.keys p ≡ true → is_some (get nat_eq w.table p) ≡ true
  in_table p first = table_knows p ∙ known_of_record version records p (sym (has_first p) ∙ first)

-- verdicts

module _ {M S : Type 0} (table : IndexMap ℕ (Process M) S) where
  one_told : (p : ℕ) (later : List (ℕ × Verdict)) (process : Process M) → get nat_eq table p ≡ Some process → option_map_or (λ process. (p, verdict_of process.past) ∷ later) (get nat_eq table p) later ≡ (p, verdict_of process.past) ∷ later
  one_told p later process there = ap (λ (o : Option (Process M)). option_map_or (λ process. (p, verdict_of process.past) ∷ later) o later) there

  -- one verdict for each process, in their order
  pub told_order : (ps : List ℕ) → ((p : ℕ) → is_among ps p ≡ true → is_some (get nat_eq table p) ≡ true) → map (λ v. v.0) (verdicts_told table ps) ≡ ps
  told_order [] there = refl
  told_order (p ∷ ps) there =
      by (get nat_eq table p) (there p (λ i. eq-eqb p p refl i || is_among ps p)) (told_order ps (λ q among. there q (ap (λ (b : Bool). nat_eq q p || b) among ∙ or_true (nat_eq q p))))
    where
      by : (o : Option (Process M)) → is_some o ≡ true → map (λ v. v.0) (verdicts_told table ps) ≡ ps → map (λ v. v.0) (option_map_or (λ process. (p, verdict_of process.past) ∷ verdicts_told table ps) o (verdicts_told table ps)) ≡ p ∷ ps
      by None is rest = absurd (true≢false (sym is))
      by (Some process) is rest = ap (λ (qs : List ℕ). p ∷ qs) rest

  -- each is the verdict on the process's own history
  pub told_exact : (Q : ℕ × Verdict → Type 0) (ps : List ℕ) → ((p : ℕ) (process : Process M) → Some process ≡ get nat_eq table p → Q (p, verdict_of process.past)) → All Q (verdicts_told table ps)
  told_exact Q [] each = All-nil Q
  told_exact Q (p ∷ ps) each = by (get nat_eq table p) refl (told_exact Q ps each)
    where
      by : (o : Option (Process M)) → o ≡ get nat_eq table p → All Q (verdicts_told table ps) → All Q (option_map_or (λ process. (p, verdict_of process.past) ∷ verdicts_told table ps) o (verdicts_told table ps))
      by None is rest = rest
      by (Some process) is rest = All-cons Q (p, verdict_of process.past) (verdicts_told table ps) (each p process is) rest

  -- a loop that tells them
  pub told_next : (pids : List ℕ) (i p : ℕ) (done : List (ℕ × Verdict)) (process : Process M) → i < length pids → p ≡ get_or pids i p → Some process ≡ get nat_eq table p → done ++ verdicts_told table (drop i pids) ≡ verdicts_told table pids → (done ++ (p, verdict_of process.past) ∷ []) ++ verdicts_told table (drop (i + 1) pids) ≡ verdicts_told table pids
  told_next pids i p done process lt next there is =
      append_assoc done ((p, verdict_of process.past) ∷ []) (verdicts_told table (drop (i + 1) pids))
      ∙ ap (λ (vs : List (ℕ × Verdict)). done ++ vs) (sym (ap (verdicts_told table) (drop_more pids i p lt ∙ ap (λ (q : ℕ). q ∷ drop (i + 1) pids) (sym next)) ∙ one_told p (verdicts_told table (drop (i + 1) pids)) process (sym there)))
      ∙ is

  pub told_past : (pids : List ℕ) (i p : ℕ) (done : List (ℕ × Verdict)) → i < length pids → p ≡ get_or pids i p → None ≡ get nat_eq table p → done ++ verdicts_told table (drop i pids) ≡ verdicts_told table pids → done ++ verdicts_told table (drop (i + 1) pids) ≡ verdicts_told table pids
  told_past pids i p done lt next there is =
      ap (λ (vs : List (ℕ × Verdict)). done ++ vs) (sym (ap (verdicts_told table) (drop_more pids i p lt ∙ ap (λ (q : ℕ). q ∷ drop (i + 1) pids) (sym next)) ∙ ap (λ (o : Option (Process M)). option_map_or (λ process. (p, verdict_of process.past) ∷ verdicts_told table (drop (i + 1) pids)) o (verdicts_told table (drop (i + 1) pids))) (sym there)))
      ∙ is

-- after the last one
pub told_whole : {M S : Type 0} (table : IndexMap ℕ (Process M) S) (pids : List ℕ) (i : ℕ) (done : List (ℕ × Verdict)) → length pids ≤ i → done ++ verdicts_told table (drop i pids) ≡ verdicts_told table pids → done ≡ verdicts_told table pids
told_whole table pids i done le is = sym (append-nil done) ∙ ap (λ (ps : List ℕ). done ++ verdicts_told table ps) (sym (drop_all i pids le)) ∙ is

module _ {M P E : Type 0} (laws : monitor.Ghosts M P) (w : Watch M P) (r : Result (Vec (ℕ × Verdict) Global) E) (told : IfOk r (λ list. list.items ≡ verdicts_told w.table w.firsts.keys)) where
  pub verdicts_order : IfOk r (λ list. (g : Graph) (k : ℕ) (version : TracesVersion) (records : List Record) → StandsFor laws g k version w records → map (λ v. v.0) list.items ≡ firsts records)
  verdicts_order = by r told
    where
      by : (r : Result (Vec (ℕ × Verdict) Global) E) → IfOk r (λ list. list.items ≡ verdicts_told w.table w.firsts.keys) → IfOk r (λ list. (g : Graph) (k : ℕ) (version : TracesVersion) (records : List Record) → StandsFor laws g k version w records → map (λ v. v.0) list.items ≡ firsts records)
      by (Ok list) is = λ g k version records s. ap (map (λ v. v.0)) is ∙ told_order w.table w.firsts.keys (in_table laws g k version w records s) ∙ s.order
      by (Err e) is = tt

  pub verdicts_exact : IfOk r (λ list. (g : Graph) (k : ℕ) (version : TracesVersion) (records : List Record) → StandsFor laws g k version w records → All (λ v. IsVerdict laws.WHICH g k (own version v.0 records) v.1) list.items)
  verdicts_exact = by r told
    where
      by : (r : Result (Vec (ℕ × Verdict) Global) E) → IfOk r (λ list. list.items ≡ verdicts_told w.table w.firsts.keys) → IfOk r (λ list. (g : Graph) (k : ℕ) (version : TracesVersion) (records : List Record) → StandsFor laws g k version w records → All (λ v. IsVerdict laws.WHICH g k (own version v.0 records) v.1) list.items)
      by (Ok list) is = λ g k version records s.
          let Q : ℕ × Verdict → Type 0 = λ v. IsVerdict laws.WHICH g k (own version v.0 records) v.1 in
          subst (λ (vs : List (ℕ × Verdict)). All Q vs) (sym is) (told_exact w.table Q w.firsts.keys (λ p process there. let at = history_of laws g k version w records s p process there in verdict_told laws.WHICH g k (own version p records) process.past at.past))
      by (Err e) is = tt

-- a sweep

module _ {M P : Type 0} (laws : monitor.Ghosts M P) (g : Graph) (k : ℕ) (version : TracesVersion) (w : Watch M P) (records : List Record) (s : StandsFor laws g k version w records) (unique : IsUnique nat_eq w.table) where
  sound : (m : M) → Contains (accepted_of (values w.table)) m → (p : ℕ) × (monitor_of w p ≡ Some m) × IsAccepted laws.WHICH g k (own version p records)
  sound m has =
      let found = marked_from (values w.table) m has in
      let at = numbered w.table.entries found.0 found.1 in
      let there : get nat_eq w.table at.0 ≡ Some found.0 = lookup-from_Contains nat_eq_equiv at.0 found.0 w.table.entries unique at.1 in
      let past = history_of laws g k version w records s at.0 found.0 (sym there) in
      (at.0, ap (option_map (λ process. process.monitor)) there ∙ ap (λ (n : M). Some n) found.3, kept_is_accepted laws.WHICH g k (own version at.0 records) found.0.past found.2 past.past)

  complete : (p : ℕ) (m : M) → monitor_of w p ≡ Some m → IsAccepted laws.WHICH g k (own version p records) → Contains (accepted_of (values w.table)) m
  complete p m is accepted = by (get nat_eq w.table p) refl is
    where
      by : (o : Option (Process M)) → get nat_eq w.table p ≡ o → option_map (λ process. process.monitor) o ≡ Some m → Contains (accepted_of (values w.table)) m
      by None there same = absurd (cc)
      by (Some process) there same =
          let this : process.monitor ≡ m = cc in
          let at = history_of laws g k version w records s p process (sym there) in
          subst (Contains (accepted_of (values w.table))) this (marked_there w.table.entries p process there (accepted_is_kept laws.WHICH g k (own version p records) process.past at.past accepted))

  pub holds_needed : laws.needed w.pool g (accepted_of (values w.table)) → HoldsNeeded laws g k version w records
  holds_needed needed = (accepted_of (values w.table), record { sound = sound; complete = complete }, needed)

-- one step

pub from_ok : {T E Q : Type 0} (r : Result T E) → IsOk r → IfOk r (λ _. Q) → Q
from_ok (Ok t) ok q = q
from_ok (Err e) ok q = absurd (true≢false (sym ok))

module _ {M P : Type 0} (laws : monitor.Ghosts M P) (g : Graph) (k : ℕ) (version : TracesVersion) (w : Watch M P) (records : List Record) (s : StandsFor laws g k version w records) where
  pub stepped : (next : Watch M P) (pid : ℕ) (e : Event) → next.setting ≡ w.setting → next.steps ≡ w.steps + 1 → next.firsts.keys ≡ insert_key nat_eq w.firsts.keys pid → AreWatched laws next.setting next.table next.pool (records ++ record_of pid e ∷ []) → StandsFor laws g k version next (records ++ record_of pid e ∷ [])
  stepped next pid e same steps first watched = record {
    model = ap (λ (t : Setting). t.model) same ∙ s.model;
    limit = ap (λ (t : Setting). t.bound) same ∙ s.limit;
    form = ap (λ (t : Setting). t.version) same ∙ s.form;
    within = subst (λ (t : Setting). IsBound t.bound) (sym same) s.within;
    watched = watched;
    order = first ∙ ap (λ (ks : List ℕ). insert_key nat_eq ks pid) s.order ∙ sym (firsts_push records (record_of pid e));
    count = steps ∙ ap (λ (n : ℕ). n + 1) s.count ∙ sym (length-append records (record_of pid e ∷ []));
  }

-- how many processes are known after one record more

length_inserted : (ks : List ℕ) (k : ℕ) (b : Bool) → is_among ks k ≡ b → length (insert_key nat_eq ks k) ≡ length ks + (if b then 0 else 1)
length_inserted ks k true is =
    let same : length (insert_key nat_eq ks k) ≡ length ks = ap (λ (b : Bool). length (if b then ks else ks ++ k ∷ [])) is in
    omega (arith, same)
length_inserted ks k false is =
    let grown : length (insert_key nat_eq ks k) ≡ length (ks ++ k ∷ []) = ap (λ (b : Bool). length (if b then ks else ks ++ k ∷ [])) is in
    omega (arith, grown, length-append ks (k ∷ []))

module _ {X S : Type 0} (version : TracesVersion) (table : IndexMap ℕ X S) (pid : ℕ) (e : Event) (records : List Record) (known : AreKnown (keys table) (flat_map (made_known version) records)) where
  own_keys : length (insert_key nat_eq (keys table) pid) ≡ length (keys table) + (if is_some (get nat_eq table pid) then 0 else 1)
  own_keys = length_inserted (keys table) pid (is_some (get nat_eq table pid)) (among_keys table pid)

  in_new : (c : ℕ) → (nat_eq pid c ≡ true) ⊎ IsSome (get nat_eq table c) → is_among (insert_key nat_eq (keys table) pid) c ≡ true
  in_new c (inl is) = subst (λ (q : ℕ). is_among (insert_key nat_eq (keys table) pid) q ≡ true) (eqb-true pid c is) (among_self (keys table) pid)
  in_new c (inr was) = among_kept (keys table) pid c (among_keys table c ∙ was)

  new_one : (c : ℕ) → nat_eq pid c ≡ false → get nat_eq table c ≡ None → is_among (insert_key nat_eq (keys table) pid) c ≡ false
  new_one c other none = by (is_among (keys table) pid) refl
    where
      absent : is_among (keys table) c ≡ false
      absent = among_keys table c ∙ ap is_some none

      by : (b : Bool) → is_among (keys table) pid ≡ b → is_among (insert_key nat_eq (keys table) pid) c ≡ false
      by true is = ap (λ (b : Bool). is_among (if b then keys table else keys table ++ pid ∷ []) c) is ∙ absent
      by false is = ap (λ (b : Bool). is_among (if b then keys table else keys table ++ pid ∷ []) c) is ∙ list_any-append (nat_eq c) (keys table) (pid ∷ []) ∙ (λ i. absent i || ((nat_eq_equiv.symm c pid ∙ other) i || false))

  count_alone : IsNewborn version table pid e None → known_count version (records ++ record_of pid e ∷ []) ≡ length (keys table) + (if is_some (get nat_eq table pid) then 0 else 1)
  count_alone unborn =
      known_length version (insert_key nat_eq (keys table) pid) (records ++ record_of pid e ∷ [])
      (subst (AreKnown (insert_key nat_eq (keys table) pid)) (made_push version records (record_of pid e))
      (known_alone version pid e (keys table) (insert_key nat_eq (keys table) pid) (flat_map (made_known version) records) refl (λ c two among. in_new c (unborn c two among)) known))
      ∙ own_keys

  count_both : (c : ℕ) → IsNewborn version table pid e (Some c) → known_count version (records ++ record_of pid e ∷ []) ≡ length (keys table) + (if is_some (get nat_eq table pid) then 0 else 1) + 1
  count_both c born =
      let ks : List ℕ = insert_key nat_eq (keys table) pid in
      let made : made_known version (record_of pid e) ≡ pid ∷ c ∷ [] = ap (λ (v : TracesVersion). made_known v (record_of pid e)) born.0 ∙ ap (λ (cs : List ℕ). pid ∷ cs) born.1 in
      known_length version (insert_key nat_eq ks c) (records ++ record_of pid e ∷ [])
      (subst (AreKnown (insert_key nat_eq ks c)) (made_push version records (record_of pid e))
      (two_known version (record_of pid e) (keys table) ks (insert_key nat_eq ks c) c made refl refl (flat_map (made_known version) records) known))
      ∙ length_inserted ks c false (new_one c born.2 born.3)
      ∙ ap (λ (n : ℕ). n + 1) own_keys

  record_count : (child : Option ℕ) → IsNewborn version table pid e child → known_count version (records ++ record_of pid e ∷ []) ≡ length (keys table) + (if is_some (get nat_eq table pid) then 0 else 1) + (if is_some child then 1 else 0)
  record_count None unborn = let alone = count_alone unborn in omega (arith, alone)
  record_count (Some c) born = count_both c born

-- there is room exactly where no more than the most are known
pub room_told : {M P : Type 0} (laws : monitor.Ghosts M P) (g : Graph) (k : ℕ) (version : TracesVersion) (w : Watch M P) (records : List Record) → StandsFor laws g k version w records → (pid : ℕ) (e : Event) (child : Option ℕ) → IsNewborn w.setting.version w.table pid e child
    → (n : ℕ) → n ≡ length w.table.entries + (if not (is_some (get nat_eq w.table pid)) then 1 else 0) + (if is_some child then 1 else 0) → IsTrue (leb n 4096) ↔ (known_count version (records ++ record_of pid e ∷ []) ≤ most_processes)
room_told laws g k version w records s pid e child newborn n is =
    (λ le. let few = leb-true n 4096 le in omega (arith, same, few), λ le. le-leb n 4096 (omega (arith, same, le)))
  where
    flip : (b : Bool) → ◌≡◌ {A = ℕ} (if b then 0 else 1) (if not b then 1 else 0)
    flip true = refl
    flip false = refl

    counted : known_count version (records ++ record_of pid e ∷ []) ≡ length (keys w.table) + (if is_some (get nat_eq w.table pid) then 0 else 1) + (if is_some child then 1 else 0)
    counted = ap (λ (v : TracesVersion). known_count v (records ++ record_of pid e ∷ [])) (sym s.form) ∙ record_count w.setting.version w.table pid e records s.watched.known child newborn

    same : known_count version (records ++ record_of pid e ∷ []) ≡ n
    same = counted ∙ (λ i. length-keys_of w.table.entries i + flip (is_some (get nat_eq w.table pid)) i + (if is_some child then 1 else 0)) ∙ sym is
