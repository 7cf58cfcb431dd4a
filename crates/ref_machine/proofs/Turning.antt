-- Turns that are spent, functions that are entered, and ends.
use Rattle.std.proofs.Common.{◌≡◌, ℕ, zero, suc, ◌+◌, ◌-◌, ◌<◌, ◌≤◌, Bool, true, List, [], ◌∷◌, ◌++◌, length, Option, Some, sym, ap, ◌∙◌, refl, append-nil, arith}
use Rattle.std.specs.Prelude.{nat_eq, if◌then◌else◌, slice_get, map}
use Rattle.std.proofs.lemmas.Bool.{le-leb, lt-leb}
use Rattle.dm_base.specs.declared.event.Event.{Event}
use Rattle.dm_base.specs.declared.outcome.Outcome.TheVariants.{Turns, Undefined}
use Rattle.sys_table.specs.declared.sys_result.SysResult.{SysResult}
use Rattle.c_tree.specs.declared.value.Value.{Value}
use Rattle.c_tree.specs.declared.tree.Function.{Function as FunctionTree}
use Rattle.c_tree.specs.Tree.{Program, Function}
use Rattle.c_tree.specs.View.{Parts, program_of, function_of, ctypes_of, stmt_of}
use Rattle.c_values.specs.Memory.{Objects, ended}
use Rattle.c_meaning.specs.Meaning.{Frame as Place, Loop as Rounds, World, without}
use Rattle.c_meaning.specs.Results.{State, with_memory, Result, Go, Stop, after, then_do, Exit}
use Rattle.c_meaning.specs.Runs.{result_of, parameters, entered, with_parameters, ending, exit_of}
use Rattle.c_meaning.specs.TypedResults.{IsEnding}
use Rattle.ref_machine_frames.specs.Held.{condition, enter, exec, run_body, run_few, world}
use Rattle.ref_machine_frames.specs.declared.frames.After.{After}
use Rattle.ref_machine_frames.specs.declared.frames.After.TheVariants as afters
use Rattle.ref_machine_frames.specs.declared.frames.Call.{Call}
use Rattle.ref_machine_frames.specs.declared.frames.Frame.{Frame}
use Rattle.ref_machine_frames.specs.declared.frames.Frame.TheVariants as frames
use Rattle.ref_machine_frames.specs.Frames.{place_of, stack, numbers, going_round, after_value, after_exit, then_comes}
use Rattle.ref_machine_frames.proofs.Joining.{then_assoc, pushed}
use Rattle.ref_machine.specs.Standing.{EndsRightly, state}
use Rattle.ref_machine.specs.Futures.{event_first}
use Rattle.ref_machine_frames.proofs.HeldTurns.{enter_enough, again_enough}
use Rattle.ref_machine_frames.proofs.CellLemmas.{none_there}

pub parameters_are : (x : ℕ) (vs : List Value) → parameters x vs ≡ numbers x (length vs)
parameters_are x [] = refl
parameters_are x (v ∷ vs) = ap (λ xs. x ∷ xs) (parameters_are (suc x) vs)

-- a function was entered, and its body is done before its call goes on
pub enters : (p : Program) (w : World) (fr : Place) (call : Call) (found : Option Function) (g : Function) (vs : List Value) (st : State) (k : List Frame) → found ≡ Some g → fr ≡ record { activation = suc st.entries; types = g.variables } → call.parameters ≡ length vs →
    then_do (exec p w fr g.body (entered vs st)) (after_exit p w fr (frames.Call call ∷ k)) ≡ then_do (run_body p w call.is_main call.wanted found vs st) (after_value p w (place_of call.caller) k)
enters p w fr call found g vs st k is here many =
    let there : Place = record { activation = suc st.entries; types = g.variables } in
    let body = exec p w there g.body (entered vs st) in
    let leaves = λ (xs : List ℕ) (x : Exit) (s : State). result_of call.is_main call.wanted x (with_memory s (without (suc st.entries) xs s.memory)) in
    ap (λ fr. then_do (exec p w fr g.body (entered vs st)) (after_exit p w fr (frames.Call call ∷ k))) here
    ∙ (ap (λ xs. then_do body (λ x s. then_do (leaves xs x s) (after_value p w (place_of call.caller) k))) (ap (λ n. numbers 0 n) many ∙ sym (parameters_are 0 vs))
    ∙ (sym (then_assoc body (leaves (parameters 0 vs)) (after_value p w (place_of call.caller) k))
    ∙ ap (λ o. then_do (run_body p w call.is_main call.wanted o vs st) (after_value p w (place_of call.caller) k)) (sym is)))

found_in : (xs : List FunctionTree) (i : ℕ) (f : FunctionTree) → slice_get xs i ≡ Some f → slice_get (map function_of xs) i ≡ Some (function_of f)
found_in [] zero f e = cc
found_in [] (suc i) f e = cc
found_in (x ∷ xs) zero f e = let same : x ≡ f = cc in ap (λ x. Some (function_of x)) same
found_in (x ∷ xs) (suc i) f e = found_in xs i f e

entered_at : (p : Program) (w : World) (fr : Place) (call : Call) (found : Option Function) (g : Function) (vs : List Value) (old new : Objects) (e a : ℕ) (rs : List SysResult) (taken turns : ℕ) (k : List Frame) → found ≡ Some g → suc e ≡ a → new ≡ with_parameters a 0 vs old → fr ≡ record { activation = a; types = g.variables } → call.parameters ≡ length vs →
    then_do (exec p w fr g.body (state new a rs taken turns)) (after_exit p w fr (frames.Call call ∷ k)) ≡ then_do (run_body p w call.is_main call.wanted found vs (state old e rs taken turns)) (after_value p w (place_of call.caller) k)
entered_at p w fr call found g vs old new e a rs taken turns k is next made here many =
    let memory : new ≡ with_parameters (suc e) 0 vs old = made ∙ ap (λ a. with_parameters a 0 vs old) (sym next) in
    let there : fr ≡ record { activation = suc e; types = g.variables } = here ∙ ap (λ a. record { activation = a; types = g.variables }) (sym next) in
    ap (λ m. then_do (exec p w fr g.body (state m a rs taken turns)) (after_exit p w fr (frames.Call call ∷ k))) memory
    ∙ (ap (λ a. then_do (exec p w fr g.body (state (with_parameters (suc e) 0 vs old) a rs taken turns)) (after_exit p w fr (frames.Call call ∷ k))) (sym next)
    ∙ enters p w fr call found g vs (state old e rs taken turns) k is there many)

-- a function is entered, once its turn is spent
pub entered_by : (p : Parts) (w : World) (fr : Place) (call : Call) (f : ℕ) (g : FunctionTree) (vs : List Value) (old new : Objects) (e a : ℕ) (rs : List SysResult) (taken turns : ℕ) (before after : List Frame) (is_main wanted : Bool) (caller : Place) → slice_get p.functions f ≡ Some g → suc e ≡ a → new ≡ with_parameters a 0 vs old → fr ≡ record { activation = a; types = ctypes_of g.variables.items } → call.parameters ≡ length vs → call.is_main ≡ is_main → call.wanted ≡ wanted → place_of call.caller ≡ caller → after ≡ before ++ (frames.Call call ∷ []) →
    then_do (exec (program_of p) w fr (stmt_of g.body) (state new a rs taken turns)) (after_exit (program_of p) w fr (stack after)) ≡ then_do (run_body (program_of p) w is_main wanted (slice_get (program_of p).functions f) vs (state old e rs taken turns)) (after_value (program_of p) w caller (stack before))
entered_by p w fr call f g vs old new e a rs taken turns before after is_main wanted caller is next made here many main want from grown =
    ap (λ k. then_do (exec (program_of p) w fr (stmt_of g.body) (state new a rs taken turns)) (after_exit (program_of p) w fr k)) (pushed before after (frames.Call call) grown)
    ∙ (entered_at (program_of p) w fr call (slice_get (program_of p).functions f) (function_of g) vs old new e a rs taken turns (stack before) (found_in p.functions f g is) next made here many
    ∙ (ap (λ b. then_do (run_body (program_of p) w b call.wanted (slice_get (program_of p).functions f) vs (state old e rs taken turns)) (after_value (program_of p) w (place_of call.caller) (stack before))) main
    ∙ (ap (λ b. then_do (run_body (program_of p) w is_main b (slice_get (program_of p).functions f) vs (state old e rs taken turns)) (after_value (program_of p) w (place_of call.caller) (stack before))) want
    ∙ ap (λ fr. then_do (run_body (program_of p) w is_main wanted (slice_get (program_of p).functions f) vs (state old e rs taken turns)) (after_value (program_of p) w fr (stack before))) from)))

-- one parameter less is left to end
pub parameter_ended : (a v count : ℕ) (start m m' : Objects) → v < count → start ≡ without a (numbers v (count - v)) m → m' ≡ ended m (record { activation = a; variable = v }) → start ≡ without a (numbers (v + 1) (count - (v + 1))) m'
parameter_ended a v count start m m' lt before now =
    let left : count - v ≡ suc (count - (v + 1)) = omega (arith, lt) in
    let next : suc v ≡ v + 1 = omega arith in
    before
    ∙ (ap (λ n. without a (numbers v n) m) left
    ∙ (ap (λ m. without a (numbers (suc v) (count - (v + 1))) m) (sym now)
    ∙ ap (λ n. without a (numbers n (count - (v + 1))) m') next))

-- no parameter is left to end
pub parameters_ended : (a v count : ℕ) (start m : Objects) → count ≤ v → start ≡ without a (numbers v (count - v)) m → m ≡ start
parameters_ended a v count start m le before =
    let none : count - v ≡ 0 = omega (arith, le) in
    sym (before ∙ ap (λ n. without a (numbers v n) m) none)

-- a turn is spent, and a function is entered
pub enter_turn : (p : Program) (n : ℕ) (wanted : Bool) (f : ℕ) (vs : List Value) (m : Objects) (e : ℕ) (rs : List SysResult) (taken t : ℕ) (k : Value → State → Result Value) → suc t ≤ n →
    then_do (run_few p (world p n) (nat_eq f p.main) wanted (slice_get p.functions f) vs (state m e rs taken t)) k ≡ then_do ((world p n).enter wanted f vs (state m e rs taken (suc t))) k
enter_turn p n wanted f vs m e rs taken t k le =
    ap (λ r. then_do r k) (sym (enter_enough p n wanted f vs (state m e rs taken (suc t)) le))

-- a turn is spent, and a loop is tested
pub loop_turn : (p : Program) (n : ℕ) (fr : Place) (l : Rounds) (m : Objects) (e : ℕ) (rs : List SysResult) (taken t : ℕ) (k : Exit → State → Result Value) → suc t ≤ n →
    then_do (then_do (condition p (world p n) fr l.test (state m e rs taken t)) (going_round p (world p n) fr l)) k ≡ then_do ((world p n).again fr l (state m e rs taken (suc t))) k
loop_turn p n fr l m e rs taken t k le =
    ap (λ r. then_do r k) (sym (again_enough p n fr l (state m e rs taken (suc t)) le))

-- no turn is left to enter a function
pub no_turn_to_enter : (p : Program) (n : ℕ) (wanted : Bool) (f : ℕ) (vs : List Value) (m : Objects) (e : ℕ) (rs : List SysResult) (taken t : ℕ) (k : Value → State → Result Value) → t ≡ 0 → t ≤ n →
    Stop Turns [] ≡ then_do ((world p n).enter wanted f vs (state m e rs taken t)) k
no_turn_to_enter p n wanted f vs m e rs taken zero k is le =
    ap (λ r. then_do r k) (sym (enter_enough p n wanted f vs (state m e rs taken 0) le))
no_turn_to_enter p n wanted f vs m e rs taken (suc t) k is le = cc

-- no turn is left to test a loop
pub no_turn_to_test : (p : Program) (n : ℕ) (fr : Place) (l : Rounds) (m : Objects) (e : ℕ) (rs : List SysResult) (taken t : ℕ) (k : Exit → State → Result Value) → t ≡ 0 → t ≤ n →
    Stop Turns [] ≡ then_do ((world p n).again fr l (state m e rs taken t)) k
no_turn_to_test p n fr l m e rs taken zero k is le =
    ap (λ r. then_do r k) (sym (again_enough p n fr l (state m e rs taken 0) le))
no_turn_to_test p n fr l m e rs taken (suc t) k is le = cc

-- nothing is left to do after the whole run
ended_last : (p : Program) (w : World) (fr : Place) (r : Result Value) → ending (then_do r (after_value p w fr [])) ≡ ending r
ended_last p w fr (Go v st u) = ap (λ u. record { outcome = exit_of v; trace = u }) (append-nil u)
ended_last p w fr (Stop o u) = refl

-- a machine begins with the whole run before it
pub started : (p : Program) (n f : ℕ) (fr : Place) (vs : List Value) (todo : List Frame) (st : State) → f ≡ p.main → vs ≡ [] → todo ≡ [] → st.turns ≤ n →
    ending (then_do ((world p n).enter true f vs st) (after_value p (world p n) fr (stack todo))) ≡ ending (enter p (world p n) true p.main [] st)
started p n f fr vs todo st is none nothing le =
    ap (λ f. ending (then_do ((world p n).enter true f vs st) (after_value p (world p n) fr (stack todo)))) is
    ∙ (ap (λ vs. ending (then_do ((world p n).enter true p.main vs st) (after_value p (world p n) fr (stack todo)))) none
    ∙ (ap (λ todo. ending (then_do ((world p n).enter true p.main [] st) (after_value p (world p n) fr (stack todo)))) nothing
    ∙ (ended_last p (world p n) fr ((world p n).enter true p.main [] st)
    ∙ ap ending (enter_enough p n true p.main [] st le))))

-- an event comes before the rest
pub ended_after : (e : Event) (r : Result Value) → ending (after (e ∷ []) r) ≡ event_first e (ending r)
ended_after e (Go v st u) = refl
ended_after e (Stop o u) = refl

-- nothing is left to do
pub nothing_to_do : (todo : List Frame) (n : ℕ) → n ≡ 0 → n ≡ length todo → [] ≡ todo
nothing_to_do [] n none is = refl
nothing_to_do (f ∷ todo) n none is = absurd (omega (arith, none, is))

-- a function with at most 16 arguments, and one with more
pub few_enter : (p : Program) (w : World) (is_main wanted : Bool) (g : Option Function) (vs : List Value) (st : State) → length vs ≤ 16 → run_few p w is_main wanted g vs st ≡ run_body p w is_main wanted g vs st
few_enter p w is_main wanted g vs st le = ap (λ b. if b then run_body p w is_main wanted g vs st else Stop (Undefined 13) []) (le-leb (length vs) 16 le)

pub many_enter : (p : Program) (w : World) (is_main wanted : Bool) (g : Option Function) (vs : List Value) (st : State) (k : Value → State → Result Value) → 16 < length vs → Stop (Undefined 13) [] ≡ then_do (run_few p w is_main wanted g vs st) k
many_enter p w is_main wanted g vs st k lt =
    ap (λ b. then_do (if b then run_body p w is_main wanted g vs st else Stop (Undefined 13) []) k) (sym (lt-leb (length vs) 16 lt))

-- a function by a number that none has
pub no_function : (p : Program) (w : World) (is_main wanted : Bool) (f : ℕ) (vs : List Value) (st : State) (k : Value → State → Result Value) → length vs ≤ 16 → length p.functions ≤ f → Stop (Undefined 13) [] ≡ then_do (run_few p w is_main wanted (slice_get p.functions f) vs st) k
no_function p w is_main wanted f vs st k few le =
    ap (λ o. then_do (run_body p w is_main wanted o vs st) k) (sym (none_there p.functions f le)) ∙ ap (λ r. then_do r k) (sym (few_enter p w is_main wanted (slice_get p.functions f) vs st few))

-- the status with which a run ends is an int
pub exits_fit : (p : Program) (w : World) (fr : Place) (e : Event) (next : After) (k : List Frame) (st : State) → IsEnding (ending (after (e ∷ []) (then_comes p w fr next k st))).outcome → EndsRightly next
exits_fit p w fr e (afters.Have v) k st h = tt
exits_fit p w fr e (afters.Exited status) k st h = h
