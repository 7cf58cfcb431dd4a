-- What stands behind the kept arguments of a marked call: the null call before it, the call, and the null call after it.
use Rattle.std.proofs.Common.{◌≡◌, ℕ, ◌+◌, ◌≤◌, ◌<◌, Bool, true, false, List, [], ◌∷◌, length, Some, refl, ap, ap₂, ◌∙◌, arith}
use Rattle.std.proofs.lemmas.Bool.Decides.{Decides-eqb}
use Rattle.sys_table.specs.Table.{table}
use Rattle.dm_base.specs.declared.mode.Mode.TheVariants.{Instrumented}
use Rattle.c_tree.specs.declared.value.Value.TheVariants.{Uint}
use Rattle.c_tree.specs.Tree.{CType, void, integer, pointer, CTypes, list_of, Program}
use Rattle.c_tree.specs.Tree as typed
use Rattle.c_tree.specs.Functions.{unsigned_int}
use Rattle.c_tree.specs.Operands.{IsScalar, IsResult}
use Rattle.c_syntax.specs.Tree.{Expr, a_name, call, Exprs, more_exprs}
use Rattle.c_rules.specs.Checked.{Checked, fine, demand, on, both, all_three, met}
use Rattle.c_rules.specs.Types.{count}
use Rattle.c_rules.specs.Names.{number_among, given_names}
use Rattle.c_rules.specs.Scopes.{Env, Before}
use Rattle.c_rules.specs.Counts.{calls, after, after_designator}
use Rattle.c_rules.specs.TypedExpression.{not_constant, TypedExpression, typed_value, tree_of}
use Rattle.c_rules.specs.PostfixExpressions.{site_of, Designator, all_fit, passed, call_of, called}
use Rattle.c_rules.specs.Assignments.{trees_of, last_type}
use Rattle.c_rules.specs.Expressions.{value_at, callee, tree, trees, value}
use Rattle.null_calls_laws.specs.Temporaries.{pre_name, post_name, result_name, arguments_kept}
use Rattle.null_calls_laws.specs.InstrumentedExpressions.{kept_in, null_call, kept_arguments, call_and_post}
use Rattle.null_calls_laws.specs.InstrumentedPrograms as with_null_calls
use Rattle.null_calls_laws.specs.WithoutSites.{unsited, unsited_all}
use Rattle.c_rules_laws.specs.TypedAlike.{More, instrumented_scope}
use Rattle.null_calls_laws.specs.Tabled.{AreFound}
use Rattle.null_calls_laws.specs.AddedParts.{IsTemporary}
use Rattle.null_calls_laws.specs.KeptValues.{AreScalars, AreAsMany, temporary_values}
use Rattle.null_calls_laws.specs.InstrumentedCalls.{NullCallsStand}
use Rattle.null_calls_laws.proofs.AddedParts.{null_site, null_calls_are_made, temporaries_are_read, temporaries_are_set}
use Rattle.null_calls_laws.proofs.KeptValues.{kept_values_are_given}
use Rattle.null_calls_laws.proofs.OwnTypes.{values_fit}
use Rattle.null_calls_laws.proofs.ExpressionCounts.{names_calls}

pub result_value : (env : Env) (at : ℕ) (t : CType) (e : typed.Expr) → IsResult t → value_at env at (fine (typed_value t e not_constant)) ≡ fine (typed_value t e not_constant)
result_value env at void e h = refl
result_value env at (integer i) e h = refl
result_value env at (pointer t) e h = refl
result_value env at t e h = absurd h

pub pre_given : number_among (given_names Instrumented) pre_name ≡ Some 24
unfolding table
pre_given = refl

pub post_given : number_among (given_names Instrumented) post_name ≡ Some 25
unfolding table
post_given = refl

abbrev pub cons : TypedExpression → List TypedExpression → Checked (List TypedExpression)
cons g gs = fine (g ∷ gs)

three_same : {A B C : Type 0} (r r' : Checked A) (s s' : Checked B) (t t' : Checked C) (k : A → B → C → Checked TypedExpression) → r ≡ r' → s ≡ s' → t ≡ t' → all_three r s t k ≡ all_three r' s' t' k
three_same r r' s s' t t' k x y z = ap₂ (λ a b. all_three a b t k) x y ∙ ap (λ c. all_three r' s' c k) z

module _ (p : Program) (env : Env) (w : More) (stand : NullCallsStand p env w) (at m j : ℕ) (t : CType) (ps : CTypes) (designator : Designator) where
  abbrev R : Env
  R = instrumented_scope env w

  -- the null calls and what stands between them, from this place on
  pub record Behind (kept : Bool) (last : Before) (rest : Exprs) : Type 0 where
    pub first : TypedExpression
    pub more : List TypedExpression
    pub given : trees R last rest ≡ fine (first ∷ more)
    pub tree : unsited_all (trees_of (first ∷ more)) ≡ typed.more_exprs (with_null_calls.null_call (with_null_calls.pre_number p) m) (with_null_calls.call_and_post (with_null_calls.post_number p) m kept t (j + length (list_of ps)) (call_of designator t 0 (with_null_calls.kept_values j (list_of ps))))
    pub type : (u : CType) → last_type u more ≡ with_null_calls.marked_type kept t

  module _ (d : Expr) (es : Exprs) (result : IsResult t) (none : calls d ≡ 0) (callees : (c : Before) → callee R at d (value R c d) ≡ fine (record { designator = designator; returns = t; parameters = ps })) (unsite : (site : ℕ) (vs : typed.Exprs) → unsited (call_of designator t site vs) ≡ call_of designator t 0 (unsited_all vs)) (many : AreAsMany es ps) (scalars : AreScalars ps) (found : AreFound w.names j (arguments_kept m 0 ps)) where
    abbrev the_call : Expr
    the_call = call at d (kept_arguments at m 0 es)

    abbrev values : List TypedExpression
    values = temporary_values j ps

    abbrev given_call : ℕ → TypedExpression
    given_call site = typed_value t (call_of designator t site (passed ps values)) not_constant

    called_fine : (site : ℕ) → called at (record { designator = designator; returns = t; parameters = ps }) site values ≡ fine (given_call site)
    called_fine site =
        let k = kept_values_are_given env w es ps (record { sites = 0; strings = []; cells = 0 }) at m 0 j many scalars found in
        ap (λ b. on (demand b 5 at met) (λ _. demand (all_fit ps values) 3 at (given_call site))) ((Decides-eqb (length values) (count ps)).1 k.many) ∙ ap (λ b. demand b 3 at (given_call site)) k.fitting

    call_tree : (c : Before) → c.sites < 30000 → tree R c the_call ≡ fine (given_call c.sites)
    call_tree c l =
        let k = kept_values_are_given env w es ps (after_designator c d) at m 0 j many scalars found in
        let n : c.sites + calls d ≡ c.sites = omega (arith, none) in
        three_same (callee R at d (value R c d)) (fine (record { designator = designator; returns = t; parameters = ps })) (site_of R (c.sites + calls d) at) (fine c.sites) (trees R (after_designator c d) (kept_arguments at m 0 es)) (fine values) (called at) (callees c) (null_site env.context c.sites (c.sites + calls d) at stand.runs n l) k.given
        ∙ called_fine c.sites

    call_value : (c : Before) → c.sites < 30000 → value R c the_call ≡ fine (given_call c.sites)
    call_value c l = ap (value_at R at) (call_tree c l) ∙ result_value R at t (call_of designator t c.sites (passed ps values)) result

    unsited_call : (site : ℕ) → unsited (call_of designator t site (passed ps values)) ≡ call_of designator t 0 (with_null_calls.kept_values j (list_of ps))
    unsited_call site =
        let k = kept_values_are_given env w es ps (record { sites = 0; strings = []; cells = 0 }) at m 0 j many scalars found in
        unsite site (passed ps values) ∙ ap (λ vs. call_of designator t 0 vs) k.kept

    abbrev given_null : (site number : ℕ) → TypedExpression
    given_null site number = typed_value void (typed.call void site (length env.whole.functions + number) (typed.more_exprs (typed.constant unsigned_int (Uint m)) typed.no_exprs)) not_constant

    pre_value : (c : Before) → c.sites < 30000 → value R c (null_call at pre_name m) ≡ fine (given_null c.sites 24)
    pre_value c l = ap (value_at R at) (null_calls_are_made env w c at pre_name 24 m stand.runs stand.named.before stand.pre_free pre_given l)

    post_value : (c : Before) → c.sites < 30000 → value R c (null_call at post_name m) ≡ fine (given_null c.sites 25)
    post_value c l = ap (value_at R at) (null_calls_are_made env w c at post_name 25 m stand.runs stand.named.behind stand.post_free post_given l)

    pub behind : (kept : Bool) (last : Before) → (kept ≡ true → IsScalar t × IsTemporary w (result_name m) (j + length (list_of ps)) t) → last.sites + 3 ≤ 30000 → Behind kept last (more_exprs (null_call at pre_name m) (call_and_post at m kept the_call))
    behind false last h l =
        let names = names_calls at m 0 es in
        let c1 : Before = after last (null_call at pre_name m) in
        let c2 : Before = after c1 the_call in
        let l0 : last.sites < 30000 = omega (arith, l) in
        let l1 : c1.sites < 30000 = omega (arith, l) in
        let l2 : c2.sites < 30000 = omega (arith, l, names, none) in
        record {
          first = given_null last.sites 24;
          more = given_call c1.sites ∷ given_null c2.sites 25 ∷ [];
          given = ap₂ (λ v ws. both v ws cons) (pre_value last l0) (ap₂ (λ v ws. both v ws cons) (call_value c1 l1) (ap (λ v. both v (fine []) cons) (post_value c2 l2)));
          tree = ap₂ (λ n e. typed.more_exprs (with_null_calls.null_call (n + 24) m) (typed.more_exprs e (typed.more_exprs (with_null_calls.null_call (n + 25) m) typed.no_exprs))) stand.functions (unsited_call c1.sites);
          type = λ u. refl;
        }
    behind true last h l =
        let names = names_calls at m 0 es in
        let q = h refl in
        let scalar : IsScalar t = q.0 in
        let temporary : IsTemporary w (result_name m) (j + length (list_of ps)) t = q.1 in
        let x = result_name m in
        let k : ℕ = j + length (list_of ps) in
        let c1 : Before = after last (null_call at pre_name m) in
        let b1 : Before = after c1 (a_name at x) in
        let c2 : Before = after c1 (kept_in at x the_call) in
        let c3 : Before = after c2 (null_call at post_name m) in
        let l0 : last.sites < 30000 = omega (arith, l) in
        let l1 : b1.sites < 30000 = omega (arith, l) in
        let l2 : c2.sites < 30000 = omega (arith, l, names, none) in
        let e : typed.Expr = call_of designator t b1.sites (passed ps values) in
        let own = values_fit t e scalar in
        let set : tree R c1 (kept_in at x the_call) ≡ fine (typed_value t (typed.assign t (typed.variable t false k) e) not_constant) =
        temporaries_are_set env w c1 at x k t the_call (given_call b1.sites) scalar temporary (call_value b1 l1) own.fitting ∙ ap (λ g. fine (typed_value t (typed.assign t (typed.variable t false k) (tree_of g)) not_constant)) own.same in
        let set_value : value R c1 (kept_in at x the_call) ≡ fine (typed_value t (typed.assign t (typed.variable t false k) e) not_constant) =
        ap (value_at R at) set ∙ result_value R at t (typed.assign t (typed.variable t false k) e) result in
        record {
          first = given_null last.sites 24;
          more = typed_value t (typed.assign t (typed.variable t false k) e) not_constant ∷ given_null c2.sites 25 ∷ typed_value t (typed.load t (typed.variable t false k)) not_constant ∷ [];
          given = ap₂ (λ v ws. both v ws cons) (pre_value last l0) (ap₂ (λ v ws. both v ws cons) set_value (ap₂ (λ v ws. both v ws cons) (post_value c2 l2) (ap (λ v. both v (fine []) cons) (temporaries_are_read env w c3 at x k t scalar temporary))));
          tree = ap₂ (λ n e. typed.more_exprs (with_null_calls.null_call (n + 24) m) (typed.more_exprs (with_null_calls.keep t k e) (typed.more_exprs (with_null_calls.null_call (n + 25) m) (typed.more_exprs (with_null_calls.kept_value t k) typed.no_exprs)))) stand.functions (unsited_call b1.sites);
          type = λ u. refl;
        }
