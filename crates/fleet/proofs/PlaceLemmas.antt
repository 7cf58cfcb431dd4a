-- The places of processes.
use Rattle.std.proofs.Common.{◌≡◌, ℕ, zero, suc, ◌<◌, List, [], ◌∷◌, length, get_or, Ok, Err, refl, sym, ◌∙◌, ap, subst, Contains, arith}
use Rattle.std.specs.Prelude.{Result, IfOk, IsErr}
use Rattle.std.proofs.Math.ListN.{set}
use Rattle.std.proofs.lemmas.List.{get_or_default}
use Rattle.dm_base.specs.declared.memory.OutOfMemory.{OutOfMemory}
use Rattle.flow_model.specs.declared.monitor.Monitor as monitor
use Rattle.trace_file.specs.declared.record.Record.{Record}
use Rattle.trace_file.specs.declared.version.TracesVersion.TheVariants.{One}
use Rattle.watch.specs.declared.watch.Watch.{Watch}
use Rattle.watch.specs.Watching.{StandsFor as WatchStandsFor}
use Rattle.fleet.specs.declared.advance.Advance.{Advance}
use Rattle.fleet.specs.declared.process.Process.{Process}
use Rattle.fleet.specs.declared.process.Stage.TheVariants as stages
use Rattle.fleet.specs.declared.standing.Standing.{Standing}
use Rattle.fleet.specs.Alone.{IsAlone}
use Rattle.fleet.specs.Going.{HasAdvanced, IsAt, numbers}
use Rattle.fleet.specs.Members.{Group, Member, run_of}

-- the place of a number
pub number_place : (ps : List Process) (n : ℕ) → Contains (numbers ps) n → (k : ℕ) × (k < length ps) × ((d : Process) → (get_or ps k d).pid ≡ n)
number_place [] n (k, within, is) = absurd (omega (arith, within))
number_place (p ∷ ps) n (zero, within, is) = (0, omega arith, λ d. is)
number_place (p ∷ ps) n (suc k, within, is) =
    let more = number_place ps n (k, omega (arith, within), is) in
    (suc more.0, omega (arith, more.1), more.2)

-- what an advance tells, by any defaults
pub at_defaults : {M P : Type 0} (laws : monitor.Ghosts M P) (ps : List Process) (ws : List (Watch M P)) (place : ℕ) (d item q : Process) (e watch v : Watch M P) (answer : Result Advance OutOfMemory) → place < length ps → (get_or ps place item).group < length ws → HasAdvanced laws (get_or ps place item) q (get_or ws (get_or ps place item).group watch) v answer → (x : Process) × (x' : Watch M P) × (set ps place q ≡ set ps place x) × (set ws (get_or ps place item).group v ≡ set ws (get_or ps place d).group x') × HasAdvanced laws (get_or ps place d) x (get_or ws (get_or ps place d).group e) x' answer
at_defaults {M} {P} laws ps ws place d item q e watch v answer within group has =
    let same : get_or ps place item ≡ get_or ps place d = get_or_default ps place item d within in (
      q,
      v,
      refl,
      ap (λ (p : Process). set ws p.group v) same,
      subst (λ (p : Process). HasAdvanced laws p q (get_or ws p.group e) v answer) same (subst (λ (w : Watch M P). HasAdvanced laws (get_or ps place item) q w v answer) (get_or_default ws (get_or ps place item).group watch e group) has),
    )

-- what is known of the process at a place, by any defaults
pub judged_at_defaults : {M P : Type 0} (laws : monitor.Ghosts M P) (ps : List Process) (ws : List (Watch M P)) (place : ℕ) (item : Process) (watch : Watch M P) → item ≡ get_or ps place item → watch ≡ get_or ws item.group watch → ((d : Process) (e : Watch M P) → (g : Group) × (records : List Record) × (m : Member) × WatchStandsFor laws g.model g.bound One (get_or ws (get_or ps place d).group e) records × IsAt laws.WHICH g records (get_or ps place d) m) → (g : Group) × (records : List Record) × (m : Member) × WatchStandsFor laws g.model g.bound One watch records × IsAt laws.WHICH g records item m
judged_at_defaults {M} {P} laws ps ws place item watch item_is watch_is judged =
    let one = judged item watch in (
      one.0,
      one.1,
      one.2,
      subst (λ (w : Watch M P). WatchStandsFor laws one.0.model one.0.bound One w one.1) (ap (λ (p : Process). get_or ws p.group watch) (sym item_is) ∙ sym watch_is) one.3,
      subst (λ (p : Process). IsAt laws.WHICH one.0 one.1 p one.2) (sym item_is) one.4,
    )

-- what is told of the process at a place, by any defaults

pub stands_at_defaults : {M P : Type 0} (laws : monitor.Ghosts M P) (ps : List Process) (ws : List (Watch M P)) (place : ℕ) (item : Process) (watch : Watch M P) (answer : Result Standing OutOfMemory) → place < length ps → item.group < length ws → item ≡ get_or ps place item → watch ≡ get_or ws item.group watch → IfOk answer (λ standing. (g : Group) (records : List Record) (m : Member) → WatchStandsFor laws g.model g.bound One watch records → IsAt laws.WHICH g records item m → IsAlone laws.WHICH g.model g.bound (run_of m) m.advances standing) → IfOk answer (λ standing. (d : Process) (e : Watch M P) (g : Group) (records : List Record) (m : Member) → WatchStandsFor laws g.model g.bound One (get_or ws (get_or ps place d).group e) records → IsAt laws.WHICH g records (get_or ps place d) m → IsAlone laws.WHICH g.model g.bound (run_of m) m.advances standing)
stands_at_defaults {M} {P} laws ps ws place item watch (Ok standing) within group item_is watch_is told = λ d e g records m stands at.
    let same : get_or ps place d ≡ item = get_or_default ps place d item within ∙ sym item_is in
    told g records m
    (subst (λ (w : Watch M P). WatchStandsFor laws g.model g.bound One w records) (ap (λ (p : Process). get_or ws p.group e) same ∙ get_or_default ws item.group e watch group ∙ sym watch_is) stands)
    (subst (λ (p : Process). IsAt laws.WHICH g records p m) same at)
stands_at_defaults {M} {P} laws ps ws place item watch (Err error) within group item_is watch_is told = tt

pub fails_at_defaults : (ps : List Process) (place : ℕ) (item : Process) (answer : Result Standing OutOfMemory) → place < length ps → item ≡ get_or ps place item → (item.stage ≡ stages.Failed → IsErr answer) → (d : Process) → (get_or ps place d).stage ≡ stages.Failed → IsErr answer
fails_at_defaults ps place item answer within item_is fails d failed = fails (ap (λ (p : Process). p.stage) (item_is ∙ get_or_default ps place item d within) ∙ failed)

-- some process stands at a place
pub item_of : (ps : List Process) (k : ℕ) → k < length ps → Process
item_of [] k within = absurd (omega arith)
item_of (p ∷ ps) k within = p
