-- What calls do, beside the shapes of calls.
use Rattle.std.proofs.Common.{◌≡◌, ℕ, ◌+◌, ◌-◌, ◌≤◌, Bool, true, false, ◌&&◌, nat_eq, nat_lt, if◌then◌else◌, List, [], ◌∷◌, ◌++◌, map, Contains, ℤ, pos, Option, Some, None, slice_get, refl, ap, sym, ◌∙◌, subst, arith}
use Rattle.std.proofs.lemmas.Bool.{false≢true}
use Rattle.dm_base.specs.declared.event.Arg.{Arg}
use Rattle.dm_base.specs.declared.event.Arg.TheVariants as args
use Rattle.dm_base.specs.declared.event.Event.{Event}
use Rattle.dm_base.specs.declared.event.Event.TheVariants.{Sys, Pre, Post}
use Rattle.dm_base.specs.Fits.{FitArguments}
use Rattle.c_meaning.specs.ArgKind.{ArgKind}
use Rattle.c_meaning.specs.SysResult.{SysResult}
use Rattle.c_meaning.specs.Table.{recorded_of}
use Rattle.c_tree.specs.declared.value.Value.{Value}
use Rattle.c_tree.specs.declared.value.Value.TheVariants.{Uint}
use Rattle.c_tree.specs.Tree.{CType, pointer, function, CTypes, Exprs, Function, Program}
use Rattle.c_tree.specs.Functions.{defined, called_type}
use Rattle.c_tree.specs.Constants.{pattern_of}
use Rattle.c_tree.specs.Program.{IsProgram}
use Rattle.c_tree.specs.Typed.{AreArguments}
use Rattle.dm_base.specs.declared.outcome.Outcome.TheVariants.{Undefined}
use Rattle.c_meaning.specs.Answers.{Answer, gives, undefined, U13}
use Rattle.c_meaning.specs.Memory.{Objects}
use Rattle.c_meaning.specs.Shape.{Shape, Skip, Sys as SysShape, Exit, Call, Shapes, shape_of, Leave, goes_on, IsDone}
use Rattle.c_meaning.specs.Words.{Whole, Front}
use Rattle.c_meaning.specs.Words as F
use Rattle.c_meaning.specs.Mentions.{Callee, Direct, Through, Calls, mentions_of_program}
use Rattle.c_meaning.specs.CallGraph.{callees, candidates, called_where, is_marked, marked, marked_where, reaches}
use Rattle.c_meaning.specs.ShapeOf.{system_call as system_shape, marked_call, direct_call, shape_of_function, place_of, candidate_places, shapes_of}
use Rattle.c_meaning.specs.Meaning.{Marks, World, with_marks, called, call_undefined, called_through, system_call_alone, null_call}
use Rattle.c_meaning.specs.Pointers.{callee}
use Rattle.c_meaning.specs.Results.{State, Result, Go, Stop, after, then_do, answered, remembered}
use Rattle.c_meaning.specs.SystemCalls.{Request, request, filled_where, result_value, does_answer, with_records, take_record, exit_call, exit_with, system_call}
use Rattle.c_meaning.specs.Table.{result_of}
use Rattle.c_meaning.proofs.Lists.{is_first, below, not_below, same_number, if_has, in_map, none_passes, one_passes}
use Rattle.c_meaning.proofs.SitesSaid.{callee_found}
use Rattle.c_meaning.proofs.Silent.{IsSilent, whole_quiet, front_quiet, silent_body, system_reaches}
use Rattle.c_meaning.proofs.Says.{told, split, Tells, Straight, after_none, Says}
use Rattle.c_meaning.proofs.FunctionPlaces.{shape_defined, shape_system, system_taken, through_type, value_defined, called_defined, called_system}
use Rattle.c_meaning.proofs.Constants.{AreConstants, request_fits}
use Rattle.c_meaning.proofs.Guards.{IsTied}

-- a pattern without numbers is fitted by any arguments
none_fits : (kinds : List ArgKind) (xs : List Arg) → FitArguments (map (λ kind. None) kinds) xs
none_fits (kind ∷ kinds) (x ∷ xs) = none_fits kinds xs
none_fits kinds xs = tt

module _ (p : Program) (n : ℕ) (right : IsProgram p n) (marks : Marks) (m : F.Marks) (keep : Event → List Event) (ties : IsTied p marks m keep) where
  abbrev env : Shapes
  env = shapes_of p

  -- a shape is left at its end or by a return
  abbrev pub Done : Shape → List Event → List Event → Type 0
  Done S t u = (x : Leave) × IsDone x × Whole env m S x t u

  -- what entering a function gives
  abbrev pub Entered : Shape → Result Value → Type 0
  Entered S r = Tells keep {A = Value} Straight (λ y t u. Done S t u) (Front env m S) r

  entered_from : (S : Shape) (r : Result Value) → Says env m keep {A = Value} Straight S r → Entered S r
  entered_from S (Go v st w) h = λ u. (goes_on, tt, h u)
  entered_from S (Stop o w) h = h

  -- a call at a marked site
  marked_says : (s f : ℕ) (S : Shape) (r : Result Value) → marked p s ≡ true → Contains (candidate_places p s) f → shape_of env f ≡ S → Entered S r → Says env m keep {A = Value} Straight (Call s) (with_marks marks s r)
  marked_says s f S (Go v st w) e among is h =
      λ u. let d = h (told keep ((marks s).1) ++ u) in
      F.call among (split keep ((marks s).0) (w ++ (marks s).1) u ∙ (ap (λ z. z ++ (told keep (w ++ (marks s).1) ++ u)) (ties.before s e) ∙ ap (λ z. m.pre s ++ z) (split keep w ((marks s).1) u))) (subst (λ T. Whole env m T d.0 (told keep w ++ (told keep ((marks s).1) ++ u)) (told keep ((marks s).1) ++ u)) (sym is) d.2) d.1 (ap (λ z. z ++ u) (ties.behind s e))
  marked_says s f S (Stop o w) e among is h =
      λ u. F.inside among (split keep ((marks s).0) w u ∙ ap (λ z. z ++ (told keep w ++ u)) (ties.before s e)) (subst (λ T. Front env m T (told keep w ++ u) u) (sym is) (h u))

  -- a call at another site
  plain_says : (s : ℕ) (S : Shape) (r : Result Value) → marked p s ≡ false → Says env m keep {A = Value} Straight S r → Says env m keep {A = Value} Straight S (with_marks marks s r)
  plain_says s S (Go v st w) e h =
      λ u. subst (λ z. Whole env m S goes_on z u) (sym (split keep ((marks s).0) (w ++ (marks s).1) u ∙ (ap (λ z. z ++ (told keep (w ++ (marks s).1) ++ u)) (ties.none_before s e) ∙ (split keep w ((marks s).1) u ∙ ap (λ z. told keep w ++ (z ++ u)) (ties.none_behind s e))))) (h u)
  plain_says s S (Stop o w) e h =
      λ u. subst (λ z. Front env m S z u) (sym (split keep ((marks s).0) w u ∙ ap (λ z. z ++ (told keep w ++ u)) (ties.none_before s e))) (h u)

  -- a function that comes to no system call
  silent_says : (S : Shape) (r : Result Value) → IsSilent S → Entered S r → Says env m keep {A = Value} Straight Skip r
  silent_says S (Go v st w) s h =
      λ u. let d = h u in subst (λ z. Whole env m Skip goes_on z u) (sym (whole_quiet env m d.2 s)) F.skip
  silent_says S (Stop o w) s h = λ u. subst (λ z. Front env m Skip z u) (sym (front_quiet env m (h u) s)) F.nothing

  -- one event
  one_event : (x : ℕ) (xs : List Arg) (r : ℤ) (u : List Event) → told keep (Sys x xs r ∷ []) ++ u ≡ Sys x xs r ∷ u
  one_event x xs r u = ap (λ z. (z ++ []) ++ u) (ties.system x xs r)

  exit_says : (q : List (Option ℤ)) (xs : List Arg) → FitArguments q xs → Says env m keep {A = Value} Straight (Exit q) (exit_with xs)
  exit_says q (args.Int z ∷ []) fits =
      λ u. subst (λ t. Front env m (Exit q) t u) (sym (one_event exit_call (args.Int z ∷ []) (pos 0) u)) (F.exits (refl, fits))
  exit_says q xs fits = λ u. F.nothing

  stored_says : (x : ℕ) (q : List (Option ℤ)) (xs : List Arg) (z : ℤ) (stored : Answer Objects) (v : Value) (st : State) → FitArguments q xs → Says env m keep {A = Value} Straight (SysShape x q) (after (Sys x xs z ∷ []) (remembered stored v st))
  stored_says x q xs z (gives o) v st fits =
      λ u. subst (λ t. Whole env m (SysShape x q) goes_on t u) (sym (one_event x xs z u)) (F.sys (refl, fits))
  stored_says x q xs z (undefined kind) v st fits =
      λ u. subst (λ t. Front env m (SysShape x q) t u) (sym (one_event x xs z u)) (F.all (F.sys (refl, fits)))

  take_says : (x : ℕ) (q : List (Option ℤ)) (r : Request) (rs : List SysResult) (st : State) → FitArguments q r.arguments → Says env m keep {A = Value} Straight (SysShape x q) (take_record x r rs st)
  take_says x q r [] st fits = λ u. F.nothing
  take_says x q r (s ∷ rs) st fits =
      if_has (λ z. Says env m keep {A = Value} Straight (SysShape x q) z) (does_answer x r.asked s) _ _ (λ e. stored_says x q r.arguments s.value (filled_where r.buffer s.bytes st.memory) (result_value (result_of x) s.value) (with_records st rs) fits) (λ e u. F.nothing)

  -- a system call whose arguments fit the pattern
  system_says : (x : ℕ) (q : List (Option ℤ)) (vs : List Value) (st : State) → ((r : Request) → request x st.memory vs ≡ gives r → FitArguments q r.arguments) → Says env m keep {A = Value} Straight (system_shape x q) (system_call x vs st)
  system_says x q vs st fits = at (request x st.memory vs) refl
    where
      by : (b : Bool) (r : Request) → FitArguments q r.arguments → Says env m keep {A = Value} Straight (if b then Exit q else SysShape x q) (after [] (if b then exit_with r.arguments else take_record x r st.records st))
      by true r h = after_none keep {A = Value} Straight (Whole env m (Exit q)) (Front env m (Exit q)) (exit_with r.arguments) (exit_says q r.arguments h)
      by false r h = after_none keep {A = Value} Straight (Whole env m (SysShape x q)) (Front env m (SysShape x q)) (take_record x r st.records st) (take_says x q r st.records st h)

      at : (a : Answer Request) → request x st.memory vs ≡ a → Says env m keep {A = Value} Straight (system_shape x q) (then_do (answered a st) (λ r st. if nat_eq x exit_call then exit_with r.arguments else take_record x r st.records st))
      at (gives r) e = by (nat_eq x exit_call) r (fits r e)
      at (undefined kind) e = λ u. F.nothing

  -- the call graph at a site
  mark_at : (s : ℕ) (c : Callee) → Contains (mentions_of_program p) (Calls s c) → marked p s ≡ is_marked p c
  mark_at s c k = ap (marked_where p) (callee_found p n right s c k)

  candidate : (s : ℕ) (c : Callee) (f : ℕ) → Contains (mentions_of_program p) (Calls s c) → is_marked p c ≡ true → Contains (callees p c) f → Contains (candidate_places p s) (place_of p f)
  candidate s c f k e among =
      let fs = in_map (place_of p) (candidates p s) f (subst (λ fs. Contains fs f) (sym (ap (called_where p) (callee_found p n right s c k))) among) in
      subst (λ b. Contains (if b then map (place_of p) (candidates p s) else []) (place_of p f)) (sym (mark_at s c k ∙ e)) fs

  -- null calls that the program makes itself are not read
  null_says : (event : ℕ → Event) → ((site : ℕ) → keep (event site) ≡ []) → (vs : List Value) (st : State) → Says env m keep {A = Value} Straight Skip (null_call event vs st)
  null_says event e (Uint site ∷ []) st = λ u. subst (λ z. Whole env m Skip goes_on ((z ++ []) ++ u) u) (sym (e site)) F.skip
  null_says event e vs st = λ u. F.nothing

  number_is : (f k : ℕ) → defined p ≤ f → nat_eq (f - defined p) k ≡ true → f ≡ defined p + k
  number_is f k le e = let d = same_number (f - defined p) k e in omega (arith, le, d)

  -- a call of a function by its name
  module _ (w : World) (wanted : Bool) where
    defined_says : (s f : ℕ) (vs : List Value) (st : State) (g : Function) → Contains (mentions_of_program p) (Calls s (Direct f)) → slice_get p.functions f ≡ Some g → Entered (shape_of_function p g) (w.enter wanted f vs st) → (b : Bool) → is_marked p (Direct f) ≡ b → nat_lt f (defined p) ≡ true → Says env m keep {A = Value} Straight (if b then Call s else Skip) (with_marks marks s (w.enter wanted f vs st))
    defined_says s f vs st g k is h true e lt =
        marked_says s (place_of p f) (shape_of_function p g) (w.enter wanted f vs st) (mark_at s (Direct f) k ∙ e) (candidate s (Direct f) f k e (is_first f [])) (shape_defined p f g is) h
    defined_says s f vs st g k is h false e lt =
        plain_says s Skip (w.enter wanted f vs st) (mark_at s (Direct f) k ∙ e) (silent_says (shape_of_function p g) (w.enter wanted f vs st) (silent_body p f g is (ap (λ b. b && reaches p f) (sym lt) ∙ e)) h)

    undefined_says : (s f : ℕ) (t : CType) (ts : CTypes) (vars : List CType) (es : Exprs) (vs : List Value) (st : State) → Contains (mentions_of_program p) (Calls s (Direct f)) → called_type p f ≡ Some (function t ts) → AreArguments p vars ts es → AreConstants es vs → nat_lt f (defined p) ≡ false → Says env m keep {A = Value} Straight (if nat_lt (f - defined p) 24 then system_shape (f - defined p) (pattern_of (f - defined p) es) else Skip) (call_undefined (f - defined p) vs st)
    undefined_says s f t ts vars es vs st k type args told_of ge = at (nat_lt (f - defined p) 24) refl
      where
        at : (b : Bool) → nat_lt (f - defined p) 24 ≡ b → Says env m keep {A = Value} Straight (if b then system_shape (f - defined p) (pattern_of (f - defined p) es) else Skip) (if b then system_call (f - defined p) vs st else (if nat_eq (f - defined p) 24 then null_call Pre vs st else (if nat_eq (f - defined p) 25 then null_call Post vs st else Stop (Undefined U13) [])))
        at true e =
            system_says (f - defined p) (pattern_of (f - defined p) es) vs st (request_fits p n right vars st.memory (f - defined p) t ts es vs (called_system p f (function t ts) type (not_below f (defined p) ge) (below (f - defined p) 24 e)) args told_of)
        at false e =
            if_has (Says env m keep {A = Value} Straight Skip) (nat_eq (f - defined p) 24) _ _ (λ e. null_says Pre (ties.null_pre s f k (number_is f 24 (not_below f (defined p) ge) e)) vs st) (λ e.
            if_has (Says env m keep {A = Value} Straight Skip) (nat_eq (f - defined p) 25) _ _ (λ e. null_says Post (ties.null_post s f k (number_is f 25 (not_below f (defined p) ge) e)) vs st) (λ e u. F.nothing))

    pub called_says : (s f : ℕ) (t : CType) (ts : CTypes) (vars : List CType) (es : Exprs) (vs : List Value) (st : State) → Contains (mentions_of_program p) (Calls s (Direct f)) → called_type p f ≡ Some (function t ts) → AreArguments p vars ts es → AreConstants es vs → ((g : Function) → slice_get p.functions f ≡ Some g → g.ctype ≡ function t ts → Entered (shape_of_function p g) (w.enter wanted f vs st)) → Says env m keep {A = Value} Straight (direct_call p s f es) (with_marks marks s (called p w wanted f vs st))
    called_says s f t ts vars es vs st k type args told_of enters = at (nat_lt f (defined p)) refl
      where
        at : (b : Bool) → nat_lt f (defined p) ≡ b → Says env m keep {A = Value} Straight (if b then marked_call p s (Direct f) else (if nat_lt (f - defined p) 24 then system_shape (f - defined p) (pattern_of (f - defined p) es) else Skip)) (with_marks marks s (if b then w.enter wanted f vs st else call_undefined (f - defined p) vs st))
        at true e =
            let r = called_defined p f (function t ts) type (below f (defined p) e) in
            defined_says s f vs st r.0 k r.1 (enters r.0 r.1 r.2) (is_marked p (Direct f)) refl e
        at false e =
            plain_says s _ (call_undefined (f - defined p) vs st) (mark_at s (Direct f) k ∙ ap (λ b. b && reaches p f) e) (undefined_says s f t ts vars es vs st k type args told_of e)

    -- a call through a pointer
    abbrev ThroughCall : List Value → Value → State → Result Value
    ThroughCall vs v st = then_do (answered (callee v) st) (λ f st. called_through p w wanted f vs st)

    module _ (s : ℕ) (t : CType) (vs : List Value) (st : State) (k : Contains (mentions_of_program p) (Calls s (Through (pointer t)))) (enters : (f : ℕ) (g : Function) → slice_get p.functions f ≡ Some g → g.ctype ≡ t → Entered (shape_of_function p g) (w.enter wanted f vs st)) where
      -- what a candidate does
      candidate_says : (f : ℕ) → Contains (callees p (Through (pointer t))) f → Entered (shape_of env (place_of p f)) (called_through p w wanted f vs st)
      candidate_says f among =
          if_has (Entered (shape_of env (place_of p f))) (nat_lt f (defined p)) (w.enter wanted f vs st) (system_call_alone (f - defined p) vs st) (λ e.
          let r = value_defined p f t (through_type p t f among) (below f (defined p) e) in
          subst (λ S. Entered S (w.enter wanted f vs st)) (sym (shape_defined p f r.0 r.1)) (enters f r.0 r.1 r.2)) (λ e. if_has (Entered (shape_of env (place_of p f))) (nat_lt (f - defined p) 24) (system_call (f - defined p) vs st) (Stop (Undefined U13) []) (λ l.
          let le = not_below f (defined p) e in
          entered_from (shape_of env (place_of p f)) (system_call (f - defined p) vs st) (subst (λ S. Says env m keep {A = Value} Straight S (system_call (f - defined p) vs st)) (sym (shape_system p f le ((system_taken p (pointer t) f among le).1))) (system_says (f - defined p) (map (λ kind. None) (recorded_of (f - defined p))) vs st (λ r e. none_fits (recorded_of (f - defined p)) r.arguments)))) (λ l u. F.nothing))

      -- what a function does that comes to no system call
      hushed_says : (f : ℕ) → Contains (callees p (Through (pointer t))) f → reaches p f ≡ false → Says env m keep {A = Value} Straight Skip (called_through p w wanted f vs st)
      hushed_says f among never =
          if_has (Says env m keep {A = Value} Straight Skip) (nat_lt f (defined p)) (w.enter wanted f vs st) (system_call_alone (f - defined p) vs st) (λ e.
          let r = value_defined p f t (through_type p t f among) (below f (defined p) e) in
          silent_says (shape_of_function p r.0) (w.enter wanted f vs st) (silent_body p f r.0 r.1 never) (enters f r.0 r.1 r.2)) (λ e.
          let le = not_below f (defined p) e in
          absurd (false≢true (sym never ∙ system_reaches p f le ((system_taken p (pointer t) f among le).0))))

      marked_through : (v : Value) (a : Answer ℕ) → callee v ≡ a → ((f : ℕ) → callee v ≡ gives f → Contains (callees p (Through (pointer t))) f) → is_marked p (Through (pointer t)) ≡ true → Says env m keep {A = Value} Straight (Call s) (with_marks marks s (then_do (answered a st) (λ f st. called_through p w wanted f vs st)))
      marked_through v (gives f) e among mark =
          marked_says s (place_of p f) (shape_of env (place_of p f)) (after [] (called_through p w wanted f vs st)) (mark_at s (Through (pointer t)) k ∙ mark) (candidate s (Through (pointer t)) f k mark (among f e)) refl (after_none keep {A = Value} Straight (λ y t u. Done (shape_of env (place_of p f)) t u) (Front env m (shape_of env (place_of p f))) (called_through p w wanted f vs st) (candidate_says f (among f e)))
      marked_through v (undefined kind) e among mark =
          let r = one_passes (λ f. reaches p f) (callees p (Through (pointer t))) mark in
          marked_says s (place_of p r.0) (shape_of env (place_of p r.0)) (Stop (Undefined kind) []) (mark_at s (Through (pointer t)) k ∙ mark) (candidate s (Through (pointer t)) r.0 k mark r.1) refl (λ u. F.nothing)

      hushed_through : (v : Value) (a : Answer ℕ) → callee v ≡ a → ((f : ℕ) → callee v ≡ gives f → Contains (callees p (Through (pointer t))) f) → is_marked p (Through (pointer t)) ≡ false → Says env m keep {A = Value} Straight Skip (then_do (answered a st) (λ f st. called_through p w wanted f vs st))
      hushed_through v (gives f) e among mark =
          after_none keep {A = Value} Straight (Whole env m Skip) (Front env m Skip) (called_through p w wanted f vs st) (hushed_says f (among f e) (none_passes (λ f. reaches p f) (callees p (Through (pointer t))) mark f (among f e)))
      hushed_through v (undefined kind) e among mark = λ u. F.nothing

      pub through_says : (v : Value) → ((f : ℕ) → callee v ≡ gives f → Contains (callees p (Through (pointer t))) f) → Says env m keep {A = Value} Straight (marked_call p s (Through (pointer t))) (with_marks marks s (ThroughCall vs v st))
      through_says v among =
          if_has (λ S. Says env m keep {A = Value} Straight S (with_marks marks s (ThroughCall vs v st))) (is_marked p (Through (pointer t))) (Call s) Skip (λ mark. marked_through v (callee v) refl among mark) (λ mark. plain_says s Skip (ThroughCall vs v st) (mark_at s (Through (pointer t)) k ∙ mark) (hushed_through v (callee v) refl among mark))

    -- the same for a type that is equal
    pub through_at : (ty : CType) (s : ℕ) (t : CType) (vs : List Value) (st : State) (v : Value) → ty ≡ pointer t → Contains (mentions_of_program p) (Calls s (Through ty)) → ((f : ℕ) (g : Function) → slice_get p.functions f ≡ Some g → g.ctype ≡ t → Entered (shape_of_function p g) (w.enter wanted f vs st)) → ((f : ℕ) → callee v ≡ gives f → Contains (callees p (Through ty)) f) → Says env m keep {A = Value} Straight (marked_call p s (Through ty)) (with_marks marks s (ThroughCall vs v st))
    through_at ty s t vs st v e =
        subst (λ ty. Contains (mentions_of_program p) (Calls s (Through ty)) → ((f : ℕ) (g : Function) → slice_get p.functions f ≡ Some g → g.ctype ≡ t → Entered (shape_of_function p g) (w.enter wanted f vs st)) → ((f : ℕ) → callee v ≡ gives f → Contains (callees p (Through ty)) f) → Says env m keep {A = Value} Straight (marked_call p s (Through ty)) (with_marks marks s (ThroughCall vs v st))) (sym e) (λ k enters among. through_says s t vs st k enters v among)
