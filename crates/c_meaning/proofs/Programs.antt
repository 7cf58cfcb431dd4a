-- What a whole run does is said by the shape of main: by recursion on the turns.
use Rattle.std.proofs.Common.{◌≡◌, ℕ, zero, suc, Bool, true, false, nat_eq, List, [], ◌++◌, Some, None, slice_get, sym, subst, append-nil}
use Rattle.std.proofs.lemmas.List.Elements.{All-contains}
use Rattle.dm_base.specs.declared.event.Event.{Event}
use Rattle.dm_base.specs.declared.outcome.Outcome.TheVariants.{Undefined}
use Rattle.c_meaning.specs.SysResult.{SysResult}
use Rattle.c_tree.specs.declared.value.Value.{Value}
use Rattle.c_tree.specs.declared.value.Value.TheVariants.{Indeterminate, Int}
use Rattle.c_tree.specs.Tree.{CType, function, CTypes, no_types, Function, Program}
use Rattle.c_tree.specs.Functions.{int}
use Rattle.c_tree.specs.Program.{IsProgram, IsFunction}
use Rattle.c_tree.specs.Typed.{IsTest, IsStep, IsStmt}
use Rattle.std.specs.Prelude.{pos}
use Rattle.c_meaning.specs.Answers.{U11, U13}
use Rattle.c_meaning.specs.Shape.{Shape, Loop, Shapes, Leave, goes_on, breaks, continues, returns, IsDone}
use Rattle.c_meaning.specs.Words.{Whole, Front}
use Rattle.c_meaning.specs.Words as F
use Rattle.c_meaning.specs.Languages as languages
use Rattle.c_meaning.specs.Mentions.{mentions_of_maybe, mentions_of_stmt}
use Rattle.c_meaning.specs.ShapeOf.{shape_of_maybe, shape_of_stmt, shape_of_function, shapes_of}
use Rattle.c_meaning.specs.Meaning.{Marks, Frame, Loop as LoopOf, condition, perhaps, exec, without}
use Rattle.c_meaning.specs.Results.{State, with_memory, Result, Go, Stop, after, then_do, Exit, on, broken, continued, returned}
use Rattle.c_meaning.specs.Runs.{entered, parameters, without_value, result_of, run_body, enter, loop, world, beginning, ending, run_with}
use Rattle.c_meaning.proofs.Standing.{body_stands}
use Rattle.c_meaning.specs.TypedResults.{StandsIn}
use Rattle.c_meaning.proofs.Lists.{got_in}
use Rattle.c_meaning.proofs.Says.{told, left_by, Straight, spend_tells, Says}
use Rattle.c_meaning.proofs.Loops.{round_says}
use Rattle.c_meaning.proofs.FunctionPlaces.{shape_at}
use Rattle.c_meaning.proofs.Guards.{with_turns, frame_of, IsGuarded, IsTied}
use Rattle.c_meaning.proofs.CallsSay.{Done, Entered}
use Rattle.c_meaning.proofs.ExpressionsSay.{IsFine}
use Rattle.c_meaning.proofs.StatementsSay.{condition_says, condition_kept, step_says, step_kept, stmt_says}

module _ (p : Program) (n : ℕ) (right : IsProgram p n) (marks : Marks) (m : F.Marks) (keep : Event → List Event) (ties : IsTied p marks m keep) where
  abbrev env : Shapes
  env = shapes_of p

  abbrev Enters : Shape → Result Value → Type 0
  Enters S r = Entered p n right marks m keep ties S r

  -- the end of a function's body
  abbrev Read : Shape → Leave → List Event → Type 0
  Read S x w = (u : List Event) → Whole env m S x (told keep w ++ u) u

  ends : (S : Shape) (w : List Event) (x : Leave) → IsDone x → Read S x w → (v : Value) (st : State) → Enters S (after w (Go v st []))
  ends S w x d h v st =
      λ u. subst (λ z. Done p n right marks m keep ties S (told keep z ++ u) u) (sym (append-nil w)) (x, d, h u)

  stops : (S : Shape) (w : List Event) (x : Leave) → Read S x w → (kind : ℕ) → Enters S (after w (Stop (Undefined kind) []))
  stops S w x h kind = λ u. subst (λ z. Front env m S (told keep z ++ u) u) (sym (append-nil w)) (F.all (h u))

  without_value_says : (S : Shape) (w : List Event) (x : Leave) → IsDone x → Read S x w → (is_main wanted : Bool) (st : State) → Enters S (after w (without_value is_main wanted st))
  without_value_says S w x d h true wanted st = ends S w x d h (Int (pos 0)) st
  without_value_says S w x d h false true st = stops S w x h U11
  without_value_says S w x d h false false st = ends S w x d h Indeterminate st

  leaves : (S : Shape) (is_main wanted : Bool) (g : State → State) (r : Result Exit) → Says env m keep {A = Exit} left_by S r → Enters S (then_do r (λ x st. result_of is_main wanted x (g st)))
  leaves S is_main wanted g (Go (returned (Some v)) st w) h = ends S w returns tt h v (g st)
  leaves S is_main wanted g (Go (returned None) st w) h = without_value_says S w returns tt h is_main wanted (g st)
  leaves S is_main wanted g (Go on st w) h = without_value_says S w goes_on tt h is_main wanted (g st)
  leaves S is_main wanted g (Go broken st w) h = stops S w breaks h U13
  leaves S is_main wanted g (Go continued st w) h = stops S w continues h U13
  leaves S is_main wanted g (Stop o w) h = h

  module _ (Good : Frame → State → Type 0) (Passed : CTypes → List Value → State → Type 0) (guard : IsGuarded p marks Good Passed) where
    abbrev Fine : ℕ → Type 0
    Fine k = IsFine p n right marks m keep ties Good Passed guard k

    enters : (k : ℕ) → Fine k → (wanted : Bool) (f : ℕ) (g : Function) (r : CType) (ts : CTypes) (vs : List Value) (st : State) → slice_get p.functions f ≡ Some g → g.ctype ≡ function r ts → Passed ts vs st → Enters (shape_of_function p g) (enter p (world p marks k) marks wanted f vs st)
    enters k goes wanted f g r ts vs st is type passed =
        spend_tells keep {A = Value} Straight (λ y t u. Done p n right marks m keep ties (shape_of_function p g) t u) (Front env m (shape_of_function p g)) st.turns st (λ st. run_body p (world p marks k) marks (nat_eq f p.main) wanted (slice_get p.functions f) vs st) (λ u. F.nothing) (λ j. subst (λ o. Enters (shape_of_function p g) (run_body p (world p marks k) marks (nat_eq f p.main) wanted o vs (with_turns st j))) (sym is) (leaves (shape_of_function p g) (nat_eq f p.main) wanted (λ after. with_memory after (without (suc st.entries) (parameters 0 vs) after.memory)) _ (body j)))
      where
        sound : IsFunction p g
        sound = All-contains (IsFunction p) p.functions g right.functions (got_in p.functions f g is)

        body : (j : ℕ) → Says env m keep {A = Exit} left_by (shape_of_function p g) (exec p (world p marks k) marks (frame_of g st) g.body (entered vs (with_turns st j)))
        body j =
            stmt_says p n right marks m keep ties Good Passed guard k goes (frame_of g st) sound.gives false false g.body sound.typed (body_stands p f g is) (entered vs (with_turns st j)) (guard.entering f g r ts vs st j is type passed)

    goes_round : (k : ℕ) → Fine k → (fr : Frame) (r : CType) (l : LoopOf) (st : State) → IsTest p fr.types l.test → IsStmt p fr.types r true true l.body → IsStep p fr.types l.step → StandsIn p (mentions_of_maybe l.test) → StandsIn p (mentions_of_stmt l.body) → StandsIn p (mentions_of_maybe l.step) → Good fr st → Says env m keep {A = Exit} left_by (Loop (shape_of_maybe p l.test) (shape_of_stmt p l.body) (shape_of_maybe p l.step)) (loop p (world p marks k) marks fr l st)
    goes_round k goes fr r l st ht hb hs mt mb ms g =
        spend_tells keep {A = Exit} left_by (Whole env m L) (Front env m L) st.turns st _ (λ u. F.nothing) (λ j. round_says env m keep (shape_of_maybe p l.test) (shape_of_stmt p l.body) (shape_of_maybe p l.step) (Good fr) (condition p (world p marks k) marks fr l.test (with_turns st j)) (exec p (world p marks k) marks fr l.body) (perhaps p (world p marks k) marks fr l.step) ((world p marks k).again fr l) (condition_says p n right marks m keep ties Good Passed guard k goes fr l.test ht mt (with_turns st j) (guard.turn fr st j g)) (condition_kept p n right marks m keep ties Good Passed guard k goes fr l.test ht mt (with_turns st j) (guard.turn fr st j g)) (λ st i. stmt_says p n right marks m keep ties Good Passed guard k goes fr r true true l.body hb mb st i) (λ st i. guard.statement k fr r true true l.body st hb mb i) (λ st i. step_says p n right marks m keep ties Good Passed guard k goes fr l.step hs ms st i) (λ st i. step_kept p n right marks m keep ties Good Passed guard k goes fr l.step hs ms st i) (λ st i. goes.again fr r l st ht hb hs mt mb ms i))
      where
        L : Shape
        L = Loop (shape_of_maybe p l.test) (shape_of_stmt p l.body) (shape_of_maybe p l.step)

    fine : (k : ℕ) → Fine k
    fine zero = record {
      enter = λ wanted f g r ts vs st is type passed u. F.nothing;
      again = λ fr r l st ht hb hs mt mb ms g u. F.nothing;
    }
    fine (suc k) = record {
      enter = λ wanted f g r ts vs st is type passed. enters k (fine k) wanted f g r ts vs st is type passed;
      again = λ fr r l st ht hb hs mt mb ms g. goes_round k (fine k) fr r l st ht hb hs mt mb ms g;
    }

    -- the whole run
    pub run_says : (records : List SysResult) (turns : ℕ) → languages.Words m env (told keep ((run_with p marks records turns).trace))
    run_says records turns =
        let main = right.main in
        at main.0 main.1 (enter p (world p marks turns) marks true p.main [] (beginning p records turns)) (enters turns (fine turns) true p.main main.0 int no_types [] (beginning p records turns) main.1 main.2 (guard.begins records turns))
      where
        word : (g : Function) → slice_get p.functions p.main ≡ Some g → (t : List Event) → Front env m (shape_of_function p g) (told keep t ++ []) [] → languages.Words m env (told keep t)
        word g is t h =
            subst (λ S. Front env m S (told keep t) []) (sym (shape_at p p.main g is)) (subst (λ z. Front env m (shape_of_function p g) z []) (append-nil (told keep t)) h)

        at : (g : Function) → slice_get p.functions p.main ≡ Some g → (r : Result Value) → Enters (shape_of_function p g) r → languages.Words m env (told keep ((ending r).trace))
        at g is (Go v st t) h = let d = h [] in word g is t (F.all d.2)
        at g is (Stop o t) h = word g is t (h [])
