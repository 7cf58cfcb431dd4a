-- The monitors that are marked, and what a sweep leaves.
use Rattle.std.proofs.Common.{◌≡◌, ℕ, ◌+◌, Bool, true, false, cond, nat_eq, List, [], ◌∷◌, ◌++◌, Option, Some, None, is_none, Contains, refl, sym, ◌∙◌, ap, subst, true≢false, arith, inl, inr, append_assoc}
use Rattle.std.specs.Prelude.{IfSome, All}
use Rattle.std.specs.Cmp.{nat_eq_equiv}
use Rattle.std.specs.Map.{values_of, lookup}
use Rattle.std.proofs.lemmas.List.Elements.{All-head, All-same, All-rest, All-weaker, Contains-append_right, Contains-append_cases, Contains-push_cases}
use Rattle.std.proofs.lemmas.Map.Views.{All-values_from_lookup}
use Rattle.dm_base.specs.declared.event.Event.{Event}
use Rattle.flow_model.specs.declared.monitor.Monitor as monitor
use Rattle.flow_model.specs.Graph.{Graph}
use Rattle.flow_model.specs.Verdict.{IsAccepted}
use Rattle.indexmap.specs.IndexMap.{IndexMap, get, values, IsUnique}
use Rattle.trace_file.specs.declared.record.Record.{Record}
use Rattle.watch.specs.declared.process.Process.{Process}
use Rattle.watch.specs.declared.process.Setting.{Setting}
use Rattle.watch.specs.declared.past.Refusal.{Refusal}
use Rattle.watch.specs.Keeping.{accepted_of}
use Rattle.watch.specs.Own.{own}
use Rattle.watch.specs.Standing.{IsAt, HasHistory, AreWatched}
use Rattle.watch.proofs.PastLemmas.{refused_is_not}

-- the items of a list

Contains-head : {X : Type 0} (x : X) (xs : List X) → Contains (x ∷ xs) x
Contains-head x xs = (0, omega arith, refl)

none_is : {X : Type 0} (o : Option X) → is_none o ≡ true → o ≡ None
none_is None is = refl
none_is (Some x) is = absurd (true≢false (sym is))

module _ {M : Type 0} where
  -- marked monitors are those of accepted processes

  accepted_more : (b : Bool) (m : M) (process : Process M) (processes : List (Process M)) → Contains (accepted_of processes) m → Contains (cond b (process.monitor ∷ accepted_of processes) (accepted_of processes)) m
  accepted_more true m process processes has = Contains-append_right (process.monitor ∷ []) (accepted_of processes) m has
  accepted_more false m process processes has = has

  pub marked_there : (es : List (ℕ × Process M)) (p : ℕ) (process : Process M) → lookup (nat_eq p) es ≡ Some process → process.past.refusal ≡ None → Contains (accepted_of (values_of es)) process.monitor
  marked_there [] p process there none = absurd (cc)
  marked_there (e ∷ es) p process there none = by (λ later. marked_there es p process later none) (nat_eq p e.0) refl
    where
      by : (lookup (nat_eq p) es ≡ Some process → Contains (accepted_of (values_of es)) process.monitor) → (b : Bool) → nat_eq p e.0 ≡ b → Contains (accepted_of (values_of (e ∷ es))) process.monitor
      by later true is =
          let same : Some e.1 ≡ Some process = ap (λ b. cond b (Some e.1) (lookup (nat_eq p) es)) (sym is) ∙ there in
          let this : e.1 ≡ process = cc in
          let kept : is_none e.1.past.refusal ≡ true = ap (λ (q : Process M). is_none q.past.refusal) this ∙ ap is_none none in
          subst (λ (b : Bool). Contains (cond b (e.1.monitor ∷ accepted_of (values_of es)) (accepted_of (values_of es))) process.monitor) (sym kept)
          (subst (λ (q : Process M). Contains (q.monitor ∷ accepted_of (values_of es)) process.monitor) (sym this) (Contains-head process.monitor (accepted_of (values_of es))))
      by later false is = accepted_more (is_none e.1.past.refusal) process.monitor e.1 (values_of es) (later (ap (λ b. cond b (Some e.1) (lookup (nat_eq p) es)) (sym is) ∙ there))

  -- a marked monitor is that of a process that was not refused
  abbrev pub From : List (Process M) → M → Type 0
  From processes m = (process : Process M) × Contains processes process × (process.past.refusal ≡ None) × (process.monitor ≡ m)

  pub marked_from : (processes : List (Process M)) (m : M) → Contains (accepted_of processes) m → From processes m
  marked_from [] m has = absurd (omega (arith, has.1))
  marked_from (process ∷ processes) m has = by (marked_from processes m) (is_none process.past.refusal) refl
    where
      later : From processes m → From (process ∷ processes) m
      later found = (found.0, Contains-append_right (process ∷ []) processes found.0 found.1, found.2, found.3)

      by : (Contains (accepted_of processes) m → From processes m) → (b : Bool) → is_none process.past.refusal ≡ b → From (process ∷ processes) m
      by rest true is =
          let here : Contains ((process.monitor ∷ []) ++ accepted_of processes) m = subst (λ (b : Bool). Contains (cond b (process.monitor ∷ accepted_of processes) (accepted_of processes)) m) is has in
          elim (Contains-append_cases (process.monitor ∷ []) (accepted_of processes) m here) as (λ _. From (process ∷ processes) m) [
            | inl first ↦ elim (Contains-push_cases [] process.monitor m first) as (λ _. From (process ∷ processes) m) [
              | inl none ↦ absurd (omega (arith, none.1))
              | inr this ↦ (process, Contains-head process processes, none_is process.past.refusal is, this)
            ]
            | inr more ↦ later (rest more)
          ]
      by rest false is = later (rest (subst (λ (b : Bool). Contains (cond b (process.monitor ∷ accepted_of processes) (accepted_of processes)) m) is has))

  -- a process among the values has a number
  pub numbered : (es : List (ℕ × Process M)) (process : Process M) → Contains (values_of es) process → (p : ℕ) × Contains es (p, process)
  numbered [] process has = absurd (omega (arith, has.1))
  numbered (e ∷ es) process has = elim (Contains-append_cases (e.1 ∷ []) (values_of es) process has) as (λ _. (p : ℕ) × Contains (e ∷ es) (p, process)) [
    | inl first ↦ elim (Contains-push_cases [] e.1 process first) as (λ _. (p : ℕ) × Contains (e ∷ es) (p, process)) [
      | inl none ↦ absurd (omega (arith, none.1))
      | inr this ↦ (e.0, subst (λ (q : Process M). Contains (e ∷ es) (e.0, q)) this (Contains-head e es))
    ]
    | inr more ↦ let found = numbered es process more in (found.0, Contains-append_right (e ∷ []) es (found.0, process) found.1)
  ]

module _ {M P S : Type 0} (laws : monitor.Ghosts M P) (setting : Setting) (table : IndexMap ℕ (Process M) S) (old mid new : P) (records : List Record) where
  standing_of : (p : ℕ) (o : Option (Process M)) → HasHistory laws setting.model setting.bound old (own setting.version p records) o → IfSome o (λ process. (h : List Event) × laws.stands process.monitor old setting.model setting.bound h)
  standing_of p None has = tt
  standing_of p (Some process) has = (own setting.version p records, has.stands)

  -- the monitors of the table stand for some histories
  pub all_standing : IsUnique nat_eq table → AreWatched laws setting table old records → All (λ process. (h : List Event) × laws.stands process.monitor old setting.model setting.bound h) (values table)
  all_standing unique are = All-values_from_lookup nat_eq_equiv (λ process. (h : List Event) × laws.stands process.monitor old setting.model setting.bound h) table.entries unique (λ p. standing_of p (get nat_eq table p) (are.each p))

  -- after a sweep
  pub swept : (laws.is_pool old setting.model → laws.is_pool new setting.model) → laws.noted new setting.model []
      → ((m : M) (k : ℕ) (h : List Event) → laws.stands m old setting.model k h → laws.stands m mid setting.model k h)
      → ((m : M) (k : ℕ) (h : List Event) → (IsAccepted laws.WHICH setting.model k h → ⊥) → laws.stands m mid setting.model k h → laws.stands m new setting.model k h)
      → ((m : M) (k : ℕ) (h : List Event) → Contains (accepted_of (values table)) m → laws.stands m mid setting.model k h → laws.stands m new setting.model k h)
      → AreWatched laws setting table old records → AreWatched laws setting table new records
  swept pool notes marked over kept are = record {
    pool = pool are.pool;
    notes = notes;
    known = are.known;
    each = λ p. by p (get nat_eq table p) refl (are.each p);
  }
    where
      stands : (p : ℕ) (process : Process M) → get nat_eq table p ≡ Some process → IsAt laws setting.model setting.bound old (own setting.version p records) process → (r : Option Refusal) → process.past.refusal ≡ r → laws.stands process.monitor new setting.model setting.bound (own setting.version p records)
      stands p process there at None is = kept process.monitor setting.bound (own setting.version p records) (marked_there table.entries p process there is) (marked process.monitor setting.bound (own setting.version p records) at.stands)
      stands p process there at (Some r) is = over process.monitor setting.bound (own setting.version p records) (refused_is_not laws.WHICH setting.model setting.bound (own setting.version p records) process.past r is at.past) (marked process.monitor setting.bound (own setting.version p records) at.stands)

      by : (p : ℕ) (o : Option (Process M)) → get nat_eq table p ≡ o → HasHistory laws setting.model setting.bound old (own setting.version p records) o → HasHistory laws setting.model setting.bound new (own setting.version p records) o
      by p None is has = has
      by p (Some process) is at = record { stands = stands p process is at process.past.refusal refl; past = at.past }

-- the loop that marks

module _ {M P : Type 0} (laws : monitor.Ghosts M P) (g : Graph) (k : ℕ) where
  -- the process stands for some history in the pool
  abbrev pub StandsIn : P → Process M → Type 0
  StandsIn pool process = (h : List Event) × laws.stands process.monitor pool g k h

  pub stands_next : (pool : P) (process : Process M) (rest iterator : List (Process M)) → iterator ≡ process ∷ rest → All (StandsIn pool) iterator → StandsIn pool process
  stands_next pool process rest iterator steps all = All-head (StandsIn pool) process rest (All-same (StandsIn pool) (process ∷ rest) iterator (sym steps) all)

  pub stands_later : (old new : P) (process : Process M) (rest iterator : List (Process M)) → iterator ≡ process ∷ rest → ((m : M) (h : List Event) → laws.stands m old g k h → laws.stands m new g k h) → All (StandsIn old) iterator → All (StandsIn new) rest
  stands_later old new process rest iterator steps others all = All-weaker (StandsIn old) (StandsIn new) (λ q s. (s.0, others q.monitor s.0 s.1)) rest (All-rest (StandsIn old) process rest iterator steps all)

module _ {M : Type 0} (process : Process M) (rest iterator : List (Process M)) (ms all : List M) (steps : iterator ≡ process ∷ rest) (is : ms ++ accepted_of iterator ≡ all) where
  split : (b : Bool) → is_none process.past.refusal ≡ b → ms ++ cond b (process.monitor ∷ accepted_of rest) (accepted_of rest) ≡ all
  split b same = ap (λ (c : Bool). ms ++ cond c (process.monitor ∷ accepted_of rest) (accepted_of rest)) (sym same) ∙ ap (λ (qs : List (Process M)). ms ++ accepted_of qs) (sym steps) ∙ is

  pub notes_more : process.past.refusal ≡ None → (ms ++ process.monitor ∷ []) ++ accepted_of rest ≡ all
  notes_more none = append_assoc ms (process.monitor ∷ []) (accepted_of rest) ∙ split true (ap is_none none)

  pub notes_same : (r : Refusal) → process.past.refusal ≡ Some r → ms ++ accepted_of rest ≡ all
  notes_same r refused = split false (ap is_none refused)
