-- What expressions do is said by their shapes: one line for each form.
use Rattle.std.proofs.Common.{◌≡◌, ℕ, Bool, true, false, List, [], ◌∷◌, ◌++◌, Contains, Option, Some, None, slice_get, refl, sym, ◌∙◌, subst}
use Rattle.dm_base.specs.declared.event.Event.{Event}
use Rattle.c_tree.specs.declared.value.Value.{Value}
use Rattle.c_tree.specs.Tree.{CType, function, CTypes, no_types, more_types, Function, Program, type_of}
use Rattle.c_tree.specs.Tree.{Expr, constant, function_name, string_place, variable, dereference, load, address_of, decay, discard, field, unary_operation, conversion, arithmetic, comparison, pointer_add, pointer_diff, and, or, assign, update, conditional, comma, call, call_through}
use Rattle.c_tree.specs.Tree.{Exprs, no_exprs, more_exprs}
use Rattle.c_tree.specs.Constants.{constant_value}
use Rattle.c_tree.specs.Layout.{cells}
use Rattle.c_tree.specs.Operators.{convert, binary}
use Rattle.c_tree.specs.Program.{IsProgram}
use Rattle.c_tree.specs.Typed.{IsValue, IsPlace, AreMembers, AreArguments, IsTest, IsStep, IsStmt}
use Rattle.c_meaning.specs.Answers.{Answer, gives}
use Rattle.c_meaning.specs.Shape.{Shape, Skip, Loop, Parts, End, Part, Shapes, Leave}
use Rattle.c_meaning.specs.Words.{Whole, Falls, Front}
use Rattle.c_meaning.specs.Words as F
use Rattle.c_meaning.specs.Mentions.{Mention, Direct, Through, Calls, mentions, mentions_of_all, mentions_of_maybe, mentions_of_stmt, mentions_of_program}
use Rattle.c_meaning.specs.CallGraph.{callees}
use Rattle.c_meaning.specs.ShapeOf.{seq_two, alt, direct_call, marked_call, shape, shapes_before, shape_of_maybe, shape_of_stmt, shape_of_function, shapes_of}
use Rattle.c_meaning.specs.Meaning.{Marks, Frame, Loop as LoopOf, either, tested, wants, eval, eval_each, eval_all, behind_of, decayed, operated, comparing, moving, updated}
use Rattle.c_meaning.specs.Pointers.{callee, truth_value, load_place, store_place, member, difference}
use Rattle.c_meaning.specs.Results.{State, Result, Go, Stop, then_do, answered, remembered, Exit}
use Rattle.c_meaning.specs.Runs.{world}
use Rattle.c_meaning.specs.TypedResults.{StandsIn}
use Rattle.c_meaning.proofs.Standing.{left_part, right_part}
use Rattle.c_meaning.proofs.Lists.{each_first, each_rest, same_some, no_some}
use Rattle.c_meaning.proofs.Words.{Stands, here, inside, beyond}
use Rattle.c_meaning.proofs.Says.{Gives, gives_any, gives_both, then_gives, Tells, left_by, Straight, after_tells, answered_then, remembered_tells, then_left, Says, SaysAll, seq_says, left_says, right_says, part_alone, part_then, part_last, then_quiet, none_quiet, tested_says, choice_says}
use Rattle.c_meaning.proofs.Constants.{AreConstants, constant_is}
use Rattle.c_meaning.proofs.Guards.{IsGuarded, IsTied}
use Rattle.c_meaning.proofs.CallsSay.{Entered, called_says, through_at}

module _ (p : Program) (n : ℕ) (right : IsProgram p n) (marks : Marks) (m : F.Marks) (keep : Event → List Event) (ties : IsTied p marks m keep) (Good : Frame → State → Type 0) (Passed : CTypes → List Value → State → Type 0) (guard : IsGuarded p marks Good Passed) where
  abbrev env : Shapes
  env = shapes_of p

  -- what so many turns are enough for is said by shapes
  pub record IsFine (k : ℕ) : Type 0 where
    pub enter : (wanted : Bool) (f : ℕ) (g : Function) (r : CType) (ts : CTypes) (vs : List Value) (st : State) → slice_get p.functions f ≡ Some g → g.ctype ≡ function r ts → Passed ts vs st → Entered p n right marks m keep ties (shape_of_function p g) ((world p marks k).enter wanted f vs st)
    pub again : (fr : Frame) (r : CType) (l : LoopOf) (st : State) → IsTest p fr.types l.test → IsStmt p fr.types r true true l.body → IsStep p fr.types l.step → StandsIn p (mentions_of_maybe l.test) → StandsIn p (mentions_of_stmt l.body) → StandsIn p (mentions_of_maybe l.step) → Good fr st → Says env m keep {A = Exit} left_by (Loop (shape_of_maybe p l.test) (shape_of_stmt p l.body) (shape_of_maybe p l.step)) ((world p marks k).again fr l st)

  module _ (k : ℕ) (goes : IsFine k) (fr : Frame) where
    abbrev E : Bool → Expr → State → Result Value
    E wanted e st = eval p (world p marks k) marks fr wanted e st

    abbrev Saying : Shape → Result Value → Type 0
    Saying S r = Says env m keep {A = Value} Straight S r

    abbrev Kept : Result Value → Type 0
    Kept r = Gives {A = Value} (λ v st. Good fr st) r

    -- one operand, and a step with its value
    one : (S : Shape) (r : Result Value) (f : State → Value → Answer Value) → Saying S r → Saying S (then_do r (λ x st. answered (f st x) st))
    one S r f h =
        then_quiet env m keep {A = Value} {B = Value} Straight S r _ h (λ x st. none_quiet env m keep {A = Value} (f st x) st)

    -- an operand, and a part after it
    then_part : (a : Expr) (T : Shape) (ms : List Mention) (st : State) (f : Value → State → Result Value) → StandsIn p (mentions a ++ ms) → (StandsIn p (mentions a) → Saying (shape p a) (E true a st) × Kept (E true a st)) → (StandsIn p ms → (v : Value) (st : State) → Good fr st → SaysAll env m keep {A = Value} Straight (Part T End) (f v st)) → Saying (seq_two (shape p a) T) (then_do (E true a st) f)
    then_part a T ms st f l h k =
        let (said, kept) = h (left_part p (mentions a) ms l) in
        seq_says env m keep {A = Value} Straight (Part (shape p a) (Part T End)) _ (part_then env m keep {A = Value} {B = Value} Straight (shape p a) (Part T End) (λ v st. Good fr st) (E true a st) f said kept (k (right_part p (mentions a) ms l)))

    -- two operands, and a step with their values
    two : (a b : Expr) (st : State) (f : State → Value → Value → Answer Value) → StandsIn p (mentions a ++ mentions b) → (StandsIn p (mentions a) → Saying (shape p a) (E true a st) × Kept (E true a st)) → (StandsIn p (mentions b) → (st : State) → Good fr st → Saying (shape p b) (E true b st)) → Saying (seq_two (shape p a) (shape p b)) (then_do (E true a st) (λ x st. then_do (E true b st) (λ y st. answered (f st x y) st)))
    two a b st f l h k =
        then_part a (shape p b) (mentions b) st _ l h (λ j x st i. part_last env m keep {A = Value} {B = Value} Straight (shape p b) (E true b st) _ (k j st i) (λ y st. none_quiet env m keep {A = Value} (f st x y) st))

    -- a test, and one of two values by it
    branch : (a : Expr) (T : Shape) (ms : List Mention) (st : State) (x y : State → Result Value) → StandsIn p (mentions a ++ ms) → (StandsIn p (mentions a) → Saying (shape p a) (E true a st) × Kept (E true a st)) → (StandsIn p ms → (st : State) → Good fr st → Saying T (x st) × Saying T (y st)) → Saying (seq_two (shape p a) T) (then_do (tested (E true a st)) (λ holds st. either holds (x st) (y st)))
    branch a T ms st x y l h k =
        let (said, kept) = h (left_part p (mentions a) ms l) in
        choice_says env m keep {A = Value} Straight (shape p a) T (Good fr) (E true a st) x y said kept (k (right_part p (mentions a) ms l))

    -- a test, and its truth value
    truth_says : (S : Shape) (r : Result Value) → Saying S r → Saying S (then_do (tested r) (λ holds st. Go (truth_value holds) st []))
    truth_says S r h =
        then_quiet env m keep {A = Bool} {B = Value} Straight S (tested r) _ (tested_says env m keep S r h) (λ holds st u. F.ended)

    assign_says : (a b : Expr) (st : State) → StandsIn p (mentions a ++ mentions b) → (StandsIn p (mentions a) → Saying (shape p a) (E true a st) × Kept (E true a st)) → (StandsIn p (mentions b) → (st : State) → Good fr st → Saying (shape p b) (E true b st)) → Saying (seq_two (shape p a) (shape p b)) (then_do (E true a st) (λ q st. then_do (E true b st) (λ v st. remembered (store_place st.memory q v) v st)))
    assign_says a b st l h k =
        then_part a (shape p b) (mentions b) st _ l h (λ j q st i. part_last env m keep {A = Value} {B = Value} Straight (shape p b) (E true b st) _ (k j st i) (λ v st. remembered_tells keep {A = Value} Straight (Falls env m End) (Stands env m End) (store_place st.memory q v) v st (λ u. F.ended) (λ u. here)))

    update_says : (a b : Expr) (st : State) (old : Bool) (f : State → Value → Value → Answer Value) → StandsIn p (mentions a ++ mentions b) → (StandsIn p (mentions a) → Saying (shape p a) (E true a st) × Kept (E true a st)) → (StandsIn p (mentions b) → (st : State) → Good fr st → Saying (shape p b) (E true b st)) → Saying (seq_two (shape p a) (shape p b)) (then_do (E true a st) (λ q st. then_do (answered (load_place st.memory q) st) (λ before st. then_do (E true b st) (λ v st. then_do (answered (f st before v) st) (λ new st. remembered (store_place st.memory q new) (either old before new) st)))))
    update_says a b st old f l h k =
        then_part a (shape p b) (mentions b) st _ l h (λ j q st i.
        answered_then keep {A = Value} {B = Value} Straight (Falls env m (Part (shape p b) End)) (Stands env m (Part (shape p b) End)) (load_place st.memory q) st _ (λ u. here) (λ before.
        part_last env m keep {A = Value} {B = Value} Straight (shape p b) (E true b st) _ (k j st i) (λ v st.
        answered_then keep {A = Value} {B = Value} Straight (Falls env m End) (Stands env m End) (f st before v) st _ (λ u. here) (λ new.
        remembered_tells keep {A = Value} Straight (Falls env m End) (Stands env m End) (store_place st.memory q new) (either old before new) st (λ u. F.ended) (λ u. here)))))

    -- the values of arguments, before other parts
    abbrev Passes : Exprs → Leave → List Event → List Event → Type 0
    Passes es x t u =
        (ps : Parts) → ((y : Leave) (v : List Event) → Falls env m ps y u v → Falls env m (shapes_before p es ps) y t v) × ((v : List Event) → Stands env m ps u v → Stands env m (shapes_before p es ps) t v)

    abbrev FrontPasses : Exprs → List Event → List Event → Type 0
    FrontPasses es t u = (ps : Parts) → Stands env m (shapes_before p es ps) t u

    abbrev Passing : Exprs → Result (List Value) → Type 0
    Passing es r = Tells keep {A = List Value} Straight (Passes es) (FrontPasses es) r

    more_pass : (e : Expr) (es : Exprs) (r : Result Value) (q : State → Result (List Value)) → Saying (shape p e) r → Kept r → ((st : State) → Good fr st → Passing es (q st)) → Passing (more_exprs e es) (then_do r (λ v st. then_do (q st) (λ vs st. Go (v ∷ vs) st [])))
    more_pass e es (Go v st w) q h g l =
        after_tells keep {A = List Value} Straight (Passes es) (Passes (more_exprs e es)) (FrontPasses es) (FrontPasses (more_exprs e es)) w (then_do (q st) (λ vs st. Go (v ∷ vs) st [])) (λ x t u z ps. ((λ y v f. F.falls_on (h t) ((z ps).0 y v f)), (λ v f. beyond (h t) ((z ps).1 v f)))) (λ t u z ps. beyond (h t) (z ps)) (then_left keep {A = List Value} {B = List Value} Straight Straight (Passes es) (Passes es) (FrontPasses es) (q st) (λ vs st. v ∷ vs) (λ vs st. st) (λ vs st t u z. z) (l st g))
    more_pass e es (Stop o w) q h g l = λ u ps. inside (h u)

    args_then : (es : Exprs) (ps : Parts) (P : List Value → State → Type 0) (r : Result (List Value)) (f : List Value → State → Result Value) → Passing es r → Gives {A = List Value} P r → ((vs : List Value) (st : State) → P vs st → SaysAll env m keep {A = Value} Straight ps (f vs st)) → SaysAll env m keep {A = Value} Straight (shapes_before p es ps) (then_do r f)
    args_then es ps P (Go vs st w) f h g l =
        after_tells keep {A = Value} Straight (Falls env m ps) (Falls env m (shapes_before p es ps)) (Stands env m ps) (Stands env m (shapes_before p es ps)) w (f vs st) (λ x t u q. (h t ps).0 x u q) (λ t u q. (h t ps).1 u q) (l vs st g)
    args_then es ps P (Stop o w) f h g l = λ u. h u ps

    -- constant arguments have their values
    constant_given : (e : Expr) (st : State) → Gives {A = Value} (λ v u. (y : Value) → constant_value e ≡ Some y → v ≡ y) (E true e st)
    constant_given e st = at (constant_value e) refl
      where
        at : (o : Option Value) → constant_value e ≡ o → Gives {A = Value} (λ v u. (y : Value) → constant_value e ≡ Some y → v ≡ y) (E true e st)
        at None is = gives_any {A = Value} (λ v u. (y : Value) → constant_value e ≡ Some y → v ≡ y) (E true e st) (λ v u y q. absurd (no_some y (sym is ∙ q)))
        at (Some z) is =
            subst (λ r. Gives {A = Value} (λ v u. (y : Value) → constant_value e ≡ Some y → v ≡ y) r) (sym (constant_is p (world p marks k) marks fr true e z st is)) (λ y q. same_some z y (sym is ∙ q))

    constants_given : (es : Exprs) (st : State) → Gives {A = List Value} (λ vs u. AreConstants es vs) (eval_all p (world p marks k) marks fr es st)
    constants_given no_exprs st = tt
    constants_given (more_exprs e es) st =
        then_gives {A = Value} {B = List Value} (λ v u. (y : Value) → constant_value e ≡ Some y → v ≡ y) (λ vs u. AreConstants (more_exprs e es) vs) (E true e st) _ (constant_given e st) (λ v st i. then_gives {A = List Value} {B = List Value} (λ vs u. AreConstants es vs) (λ vs u. AreConstants (more_exprs e es) vs) (eval_all p (world p marks k) marks fr es st) _ (constants_given es st) (λ vs st j. (i, j)))

    passed : (ts : CTypes) (es : Exprs) (st : State) → AreArguments p fr.types ts es → StandsIn p (mentions_of_all es) → Good fr st → Gives {A = List Value} (λ vs u. AreConstants es vs × Passed ts vs u) (eval_all p (world p marks k) marks fr es st)
    passed ts es st h l g =
        gives_both {A = List Value} (λ vs u. AreConstants es vs) (λ vs u. Passed ts vs u) (eval_all p (world p marks k) marks fr es st) (constants_given es st) (guard.arguments_kept k fr ts es st h l g)

    mutual
      pub value_says : (wanted : Bool) (e : Expr) → IsValue p fr.types e → StandsIn p (mentions e) → (st : State) → Good fr st → Saying (shape p e) (E wanted e st)
      value_says wanted (constant t v) h l st g = λ u. F.skip
      value_says wanted (load t a) h l st g = one (shape p a) (E true a st) (λ s x. load_place s.memory x) (place_says true a h.2 l st g)
      value_says wanted (address_of t a) h l st g = place_says true a h.1 l st g
      value_says wanted (decay t a) h l st g = one (shape p a) (E true a st) (λ s x. decayed p.structs (type_of a) x) (place_says true a h.1 l st g)
      value_says wanted (discard t a) h l st g = then_quiet env m keep {A = Value} {B = Value} Straight (shape p a) (E false a st) _ (value_says false a h.1 l st g) (λ x st u. F.ended)
      value_says wanted (unary_operation t op a) h l st g = one (shape p a) (E true a st) (λ s x. operated op s.memory x) (value_says true a h.1 l st g)
      value_says wanted (conversion t to a) h l st g = one (shape p a) (E true a st) (λ s x. convert to x) (value_says true a h.2 l st g)
      value_says wanted (arithmetic t op a b) h l st g = two a b st (λ s x y. binary op x y) l (λ i. (value_says true a h.1 i st g, guard.value k fr true a st h.1 i g)) (value_says true b h.2)
      value_says wanted (comparison t op a b) h l st g = two a b st (λ s x y. comparing op s.memory x y) l (λ i. (value_says true a h.1 i st g, guard.value k fr true a st h.1 i g)) (value_says true b h.2)
      value_says wanted (pointer_add t first subtracted a b) h l st g = two a b st (λ s x y. moving first subtracted s.memory x y) l (λ i. (value_says true a h.1 i st g, guard.value k fr true a st h.1 i g)) (value_says true b h.2)
      value_says wanted (pointer_diff t a b) h l st g = two a b st (λ s x y. difference s.memory x y) l (λ i. (value_says true a h.3 i st g, guard.value k fr true a st h.3 i g)) (value_says true b h.4)
      value_says wanted (and t a b) h l st g =
          branch a (alt (shape p b) Skip) (mentions b) st (λ st. then_do (tested (E true b st)) (λ holds st. Go (truth_value holds) st [])) (λ st. Go (truth_value false) st []) l (λ i. (value_says true a h.1.1 i st g, guard.value k fr true a st h.1.1 i g)) (λ j st q. (left_says env m keep {A = Value} Straight (shape p b) Skip _ (truth_says (shape p b) (E true b st) (value_says true b h.2.1 j st q)), right_says env m keep {A = Value} Straight (shape p b) Skip (Go (truth_value false) st []) (λ u. F.skip)))
      value_says wanted (or t a b) h l st g =
          branch a (alt (shape p b) Skip) (mentions b) st (λ st. Go (truth_value true) st []) (λ st. then_do (tested (E true b st)) (λ holds st. Go (truth_value holds) st [])) l (λ i. (value_says true a h.1.1 i st g, guard.value k fr true a st h.1.1 i g)) (λ j st q. (right_says env m keep {A = Value} Straight (shape p b) Skip (Go (truth_value true) st []) (λ u. F.skip), left_says env m keep {A = Value} Straight (shape p b) Skip _ (truth_says (shape p b) (E true b st) (value_says true b h.2.1 j st q))))
      value_says wanted (assign t a b) h l st g = assign_says a b st l (λ i. (place_says true a h.3 i st g, guard.place_kept k fr true a st h.3 i g)) (value_says true b h.4)
      value_says wanted (update t op old a b) h l st g = update_says a b st old (λ s x y. updated op t (type_of b) s.memory x y) l (λ i. (place_says true a h.2 i st g, guard.place_kept k fr true a st h.2 i g)) (value_says true b h.3)
      value_says wanted (conditional t c a b) h l st g =
          branch c (alt (shape p a) (shape p b)) (mentions a ++ mentions b) st (E true a) (E true b) l (λ i. (value_says true c h.0.1 i st g, guard.value k fr true c st h.0.1 i g)) (λ j st q. (left_says env m keep {A = Value} Straight (shape p a) (shape p b) _ (value_says true a h.3 (left_part p (mentions a) (mentions b) j) st q), right_says env m keep {A = Value} Straight (shape p a) (shape p b) _ (value_says true b h.4 (right_part p (mentions a) (mentions b) j) st q)))
      value_says wanted (comma t es) h l st g = seq_says env m keep {A = Value} Straight (shapes_before p es End) _ (members_say wanted t es h l st g)
      value_says wanted (call t s f es) h l st g =
          let i = each_rest (Contains (mentions_of_program p)) (Calls s (Direct f)) (mentions_of_all es) l in
          seq_says env m keep {A = Value} Straight (shapes_before p es (Part (direct_call p s f es) End)) _ (args_then es (Part (direct_call p s f es) End) (λ vs u. AreConstants es vs × Passed h.0 vs u) (eval_all p (world p marks k) marks fr es st) _ (arguments_say h.0 es h.2 i st g) (passed h.0 es st h.2 i g) (λ vs st j. part_alone env m keep {A = Value} Straight (direct_call p s f es) _ (called_says p n right marks m keep ties (world p marks k) (wants wanted t) s f t h.0 fr.types es vs st (each_first (Contains (mentions_of_program p)) (Calls s (Direct f)) (mentions_of_all es) l) h.1 h.2 j.0 (λ c is type. goes.enter (wants wanted t) f c t h.0 vs st is type j.1))))
      value_says wanted (call_through t s a es) h l st g =
          let c = Calls s (Through (type_of a)) in
          let i = left_part p (mentions a) (c ∷ mentions_of_all es) l in
          let j = right_part p (mentions a) (c ∷ mentions_of_all es) l in
          let o = each_first (Contains (mentions_of_program p)) c (mentions_of_all es) j in
          let d = marked_call p s (Through (type_of a)) in
          seq_says env m keep {A = Value} Straight (Part (shape p a) (shapes_before p es (Part d End))) _ (part_then env m keep {A = Value} {B = Value} Straight (shape p a) (shapes_before p es (Part d End)) (λ v u. Good fr u × ((f : ℕ) → callee v ≡ gives f → Contains (callees p (Through (type_of a))) f)) (E true a st) _ (value_says true a h.2 i st g) (gives_both {A = Value} (λ v u. Good fr u) (λ v u. (f : ℕ) → callee v ≡ gives f → Contains (callees p (Through (type_of a))) f) (E true a st) (guard.value k fr true a st h.2 i g) (guard.designator k fr s a t h.0 st h.1 h.2 i o g)) (λ v st q.
          args_then es (Part d End) (λ vs u. AreConstants es vs × Passed h.0 vs u) (eval_all p (world p marks k) marks fr es st) _ (arguments_say h.0 es h.3 (each_rest (Contains (mentions_of_program p)) c (mentions_of_all es) j) st q.0) (passed h.0 es st h.3 (each_rest (Contains (mentions_of_program p)) c (mentions_of_all es) j) q.0) (λ vs st r.
          part_alone env m keep {A = Value} Straight d _ (through_at p n right marks m keep ties (world p marks k) (wants wanted t) (type_of a) s (function t h.0) vs st v h.1 o (λ f b is type. goes.enter (wants wanted t) f b t h.0 vs st is type r.1) q.1))))
      value_says wanted _ h l st g = absurd h

      pub place_says : (wanted : Bool) (e : Expr) → IsPlace p fr.types e → StandsIn p (mentions e) → (st : State) → Good fr st → Saying (shape p e) (E wanted e st)
      place_says wanted (dereference t a) h l st g = one (shape p a) (E true a st) (λ s x. behind_of t s.memory x) (value_says true a h.2 l st g)
      place_says wanted (field t first a) h l st g = one (shape p a) (E true a st) (λ s x. member first (cells p.structs t) x) (place_says true a h.1 l st g)
      place_says wanted (function_name t f) h l st g = λ u. F.skip
      place_says wanted (string_place t i) h l st g = λ u. F.skip
      place_says wanted (variable t s i) h l st g = λ u. F.skip
      place_says wanted _ h l st g = absurd h

      members_say : (wanted : Bool) (t : CType) (es : Exprs) → AreMembers p fr.types t es → StandsIn p (mentions_of_all es) → (st : State) → Good fr st → SaysAll env m keep {A = Value} Straight (shapes_before p es End) (eval_each p (world p marks k) marks fr wanted es st)
      members_say wanted t no_exprs h l st g = absurd h
      members_say wanted t (more_exprs e no_exprs) h l st g = part_alone env m keep {A = Value} Straight (shape p e) (E wanted e st) (value_says wanted e h.0 (left_part p (mentions e) [] l) st g)
      members_say wanted t (more_exprs e (more_exprs f es)) h l st g =
          let i = left_part p (mentions e) (mentions_of_all (more_exprs f es)) l in
          part_then env m keep {A = Value} {B = Value} Straight (shape p e) (shapes_before p (more_exprs f es) End) (λ v u. Good fr u) (E false e st) _ (value_says false e h.0 i st g) (guard.value k fr false e st h.0 i g) (λ v st j. members_say wanted t (more_exprs f es) h.1 (right_part p (mentions e) (mentions_of_all (more_exprs f es)) l) st j)

      arguments_say : (ts : CTypes) (es : Exprs) → AreArguments p fr.types ts es → StandsIn p (mentions_of_all es) → (st : State) → Good fr st → Passing es (eval_all p (world p marks k) marks fr es st)
      arguments_say ts no_exprs h l st g = λ u ps. ((λ y v q. q), (λ v q. q))
      arguments_say no_types (more_exprs e es) h l st g = absurd h
      arguments_say (more_types t ts) (more_exprs e es) h l st g =
          let i = left_part p (mentions e) (mentions_of_all es) l in
          more_pass e es (E true e st) (eval_all p (world p marks k) marks fr es) (value_says true e h.1 i st g) (guard.value k fr true e st h.1 i g) (arguments_say ts es h.2 (right_part p (mentions e) (mentions_of_all es) l))
