-- Every call of an instrumented unit goes where its designator and its arguments do.
use Rattle.std.proofs.Common.{◌≡◌, ℕ, suc, ◌+◌, ◌≤◌, ◌<◌, Bool, true, false, List, [], ◌∷◌, ◌++◌, length, Option, None, Some, nat_lt, refl, ap, sym, subst, ◌∙◌, arith}
use Rattle.std.proofs.lemmas.Bool.Decides.{Decides-ltb, Decides-eqb}
use Rattle.c_tree.specs.Tree.{CType, void, integer, pointer, function, CTypes, type_of, Program}
use Rattle.c_tree.specs.Tree as typed
use Rattle.c_tree.specs.Functions.{called_type}
use Rattle.c_tree.specs.Operands.{IsResult}
use Rattle.c_meaning.specs.Mentions.{Direct, Through}
use Rattle.c_meaning.specs.CallGraph.{is_marked}
use Rattle.c_syntax.specs.Tree.{Expr, a_name, call, Exprs}
use Rattle.c_rules.specs.Checked.{Fault, Checked, fine, faulty, demand, on, all_three, met}
use Rattle.c_rules.specs.Types.{count}
use Rattle.c_rules.specs.Names.{Name}
use Rattle.c_rules.specs.Scopes.{Env, Binding, Meaning, a_function, evaluated, Before, binding_of}
use Rattle.c_rules.specs.Counts.{place_of, calls, calls_of_all, after_designator}
use Rattle.c_rules.specs.TypedExpression.{not_constant, TypedExpression, typed_value, tree_of}
use Rattle.c_rules.specs.PrimaryExpressions.{used, function_number}
use Rattle.c_rules.specs.PostfixExpressions.{site_in, site_of, Designator, direct, through, Callee, callee_of_type, callee_through, callee_by_value, all_fit, passed, call_of, as_many_as, called}
use Rattle.c_rules.specs.Expressions.{value_at, callee_meant, callee_bound, callee, tree, trees, value}
use Rattle.null_calls_laws.specs.MarkedCalls.{Called, Sites}
use Rattle.null_calls_laws.specs.Temporaries.{Temporary, designator_name, arguments_kept, result_kept, is_kept, temporaries_where}
use Rattle.null_calls_laws.specs.InstrumentedExpressions.{marked_call, call_where, expr, arguments, kept, kept_of_arguments}
use Rattle.null_calls_laws.specs.InstrumentedPrograms as with_null_calls
use Rattle.c_rules_laws.specs.TypedAlike.{More, plain_scope, instrumented_scope, AreUnreserved, MeanAlike}
use Rattle.null_calls_laws.specs.Remade.{Follows}
use Rattle.null_calls_laws.proofs.Unary.{value_at_follows}
use Rattle.null_calls_laws.specs.Counts.{IsName, IsDesignator, AreNamed, Near}
use Rattle.null_calls_laws.specs.Tabled.{called_by, HasTypes, AreTabled, AreFound}
use Rattle.null_calls_laws.specs.Follow.{types_of, UnusedFollows, ExprFollows, UnusedExprFollows, Goes, AllGo}
use Rattle.null_calls_laws.proofs.ExpressionsGo.{expressions_go}
use Rattle.c_rules_laws.proofs.Holding.{Holds, fine_same}
use Rattle.null_calls_laws.proofs.Solid.{SolidValue}
use Rattle.null_calls_laws.proofs.Given.{IsSolid}
use Rattle.null_calls_laws.proofs.Forms.{unused_same}
use Rattle.null_calls_laws.specs.InstrumentedCalls.{NullCallsStand, AllCallsGo, AllExpressionsGo}
use Rattle.null_calls_laws.proofs.BehindArguments.{result_value}
use Rattle.null_calls_laws.proofs.InstrumentedCalls.{if_true, if_false, MarkedGoes, direct_goes, through_goes}
use Rattle.null_calls_laws.proofs.MostCalls.{calls_are_within}
use Rattle.null_calls_laws.proofs.PlainCalls.{marks, no_entry, unmarked_calls_go}

-- ## What is called through a pointer

record IsPointer (r : Checked TypedExpression) (e : typed.Expr) (t : CType) (ps : CTypes) : Type 0 where
  pub given : TypedExpression
  pub value : r ≡ fine given
  pub tree : tree_of given ≡ e
  pub pointed : given.ctype ≡ pointer (function t ps)

same_through : (e f : typed.Expr) → through e ≡ through f → e ≡ f
same_through e f q = cc

module _ (at : ℕ) (e : typed.Expr) (t : CType) (ps : CTypes) where
  abbrev pointed_to : Callee
  pointed_to = record { designator = through e; returns = t; parameters = ps }

  by_type : (g : TypedExpression) (u : CType) → g.ctype ≡ u → callee_through at (tree_of g) u ≡ fine pointed_to → IsPointer (fine g) e t ps
  by_type g (pointer (function u us)) q h =
      let c = fine_same {A = Callee} (record { designator = through (tree_of g); returns = u; parameters = us }) pointed_to h in
      record { given = g; value = refl; tree = same_through (tree_of g) e (ap (λ f. f.designator) c); pointed = q ∙ ap (λ f. pointer (function f.returns f.parameters)) c }
  by_type g u q h = absurd (cc)

  by_value : (r : Checked TypedExpression) → on r (callee_by_value at) ≡ fine pointed_to → IsPointer r e t ps
  by_value (fine g) h = by_type g g.ctype refl h
  by_value (faulty f fs) h = absurd (cc)

  no_function : (place : ℕ) (u : CType) (n : ℕ) → callee_of_type place u n ≡ fine pointed_to → ⊥
  no_function place (function u us) n h = (let c : direct n ≡ through e = ap (λ f. f.designator) (fine_same {A = Callee} (record { designator = direct n; returns = u; parameters = us }) pointed_to h) in cc)
  no_function place u n h = cc

  no_use : (place : ℕ) (u : CType) (r : Checked ℕ) → on r (callee_of_type place u) ≡ fine pointed_to → ⊥
  no_use place u (fine n) h = no_function place u n h
  no_use place u (faulty f fs) h = cc

  by_meaning : (env : Env) (place : ℕ) (y : Name) (r : Checked TypedExpression) (m : Meaning) → callee_meant env at place y r m ≡ fine pointed_to → IsPointer r e t ps
  by_meaning env place y r (a_function u d) h = absurd (no_use place u (used env.context place (function_number env y)) h)
  by_meaning env place y r m h = by_value r h

  by_binding : (env : Env) (place : ℕ) (y : Name) (r : Checked TypedExpression) (o : Option Binding) → callee_bound env at place y r o ≡ fine pointed_to → IsPointer r e t ps
  by_binding env place y r None h = by_value r h
  by_binding env place y r (Some b) h = by_meaning env place y r b.means h

  through_value : (env : Env) (d : Expr) (r : Checked TypedExpression) → callee env at d r ≡ fine pointed_to → IsPointer r e t ps
  through_value env (a_name q y) r h = by_binding env q y r (binding_of env y) h
  through_value env d r h = by_value r h

-- ## What the plain call gives

abbrev given_by : Callee → ℕ → List TypedExpression → TypedExpression
given_by f site gs = typed_value f.returns (call_of f.designator f.returns site (passed f.parameters gs)) not_constant

module _ (P : Checked TypedExpression → Type 0) (at : ℕ) (faults : (f : Fault) (fs : List Fault) → P (faulty f fs)) where
  by_fitting : (b : Bool) (g : TypedExpression) → (b ≡ true → P (fine g)) → P (demand b 3 at g)
  by_fitting true g h = h refl
  by_fitting false g h = faults _ _

  by_number : (a b : Bool) (g : TypedExpression) → (a ≡ true → b ≡ true → P (fine g)) → P (on (demand a 5 at met) (λ _. demand b 3 at g))
  by_number true b g h = by_fitting b g (h refl)
  by_number false b g h = faults _ _

  by_parts : (r : Checked Callee) (s : Checked ℕ) (q : Checked (List TypedExpression)) → ((f : Callee) (site : ℕ) (gs : List TypedExpression) → r ≡ fine f → s ≡ fine site → q ≡ fine gs → length gs ≡ count f.parameters → all_fit f.parameters gs ≡ true → P (fine (given_by f site gs))) → P (all_three r s q (called at))
  by_parts (fine f) (fine site) (fine gs) h = by_number (as_many_as f.parameters gs) (all_fit f.parameters gs) (given_by f site gs) (λ a b. h f site gs refl refl refl ((Decides-eqb (length gs) (count f.parameters)).0 a) b)
  by_parts r s q h = faults _ _

record IsSite (m site : ℕ) : Type 0 where
  pub same : site ≡ m
  pub few : m < 10000

site_is : (m site at : ℕ) → site_in evaluated 10000 m at ≡ fine site → IsSite m site
site_is m site at h = by_test (nat_lt m 10000) refl h
  where
    by_test : (b : Bool) → nat_lt m 10000 ≡ b → demand b 13 at m ≡ fine site → IsSite m site
    by_test true q e = record { same = (let z : fine m ≡ fine site = e in cc); few = (Decides-ltb m 10000).0 q }
    by_test false q e = absurd (cc)

-- ## Calls that are not marked

module _ (p : Program) where
  call_solid : (d : Designator) (t : CType) (site : ℕ) (es : typed.Exprs) → marks p d ≡ false → IsSolid p (call_of d t site es)
  call_solid (direct f) t site es h = record {
    types = ap (λ ts. ts ++ with_null_calls.kept_of_all p es) (if_false (is_marked p (Direct f)) (with_null_calls.parameters_where (called_type p f) ++ with_null_calls.of_result false t) [] h ∙ sym (if_false (is_marked p (Direct f)) (with_null_calls.parameters_where (called_type p f) ++ with_null_calls.of_result true t) [] h));
    tree = λ k. if_false (is_marked p (Direct f)) (with_null_calls.marked_direct p site false t f k (with_null_calls.arguments p (k + length (with_null_calls.of_direct p false t f)) es)) (typed.call t 0 f (with_null_calls.arguments p k es)) h ∙ sym (if_false (is_marked p (Direct f)) (with_null_calls.marked_direct p site true t f k (with_null_calls.arguments p (k + length (with_null_calls.of_direct p true t f)) es)) (typed.call t 0 f (with_null_calls.arguments p k es)) h);
  }
  call_solid (through e) t site es h =
      let plain : ℕ → typed.Expr = (λ k. typed.call_through t 0 (with_null_calls.expr p k true e) (with_null_calls.arguments p (k + length (with_null_calls.kept p true e)) es)) in
      record {
        types = ap (λ ts. with_null_calls.kept p true e ++ (ts ++ with_null_calls.kept_of_all p es)) (if_false (is_marked p (Through (type_of e))) (type_of e ∷ (with_null_calls.parameters_behind (type_of e) ++ with_null_calls.of_result false t)) [] h ∙ sym (if_false (is_marked p (Through (type_of e))) (type_of e ∷ (with_null_calls.parameters_behind (type_of e) ++ with_null_calls.of_result true t)) [] h));
        tree = λ k. if_false (is_marked p (Through (type_of e))) (with_null_calls.marked_through p site false t (k + length (with_null_calls.kept p true e)) (with_null_calls.expr p k true e) (with_null_calls.arguments p (k + length (with_null_calls.kept p true e) + length (with_null_calls.of_through p false t (type_of e))) es)) (plain k) h ∙ sym (if_false (is_marked p (Through (type_of e))) (with_null_calls.marked_through p site true t (k + length (with_null_calls.kept p true e)) (with_null_calls.expr p k true e) (with_null_calls.arguments p (k + length (with_null_calls.kept p true e) + length (with_null_calls.of_through p true t (type_of e))) es)) (plain k) h);
      }

-- ## Types of results

marked_result : (t : CType) → IsResult t → with_null_calls.marked_type (is_kept true t) t ≡ t
marked_result void h = refl
marked_result (integer i) h = refl
marked_result (pointer t) h = refl
marked_result t h = absurd h

unused_result : (t : CType) → IsResult (with_null_calls.marked_type (is_kept false t) t)
unused_result void = tt
unused_result t = tt

module _ (p : Program) (sites : Sites) (env : Env) (w : More) (plain : AreUnreserved env.names) (alike : MeanAlike env.names w.names) (stand : NullCallsStand p env w) where
  abbrev L : Env
  L = plain_scope env

  abbrev R : Env
  R = instrumented_scope env w

  -- ## Marked calls

  marked_goes : (at : ℕ) (d : Expr) (es : Exprs) → Goes p sites env w d → AllGo p sites env w es → (b b' : Before) (k : ℕ) (wanted : Bool) (c : Called) → sites (b.sites + calls d) ≡ Some c → AreNamed sites b.sites (call at d es) → AreTabled p sites L b (call at d es) → AreFound w.names k (kept sites b.sites wanted (call at d es)) → Near b b'
      → (f : Designator) (t : CType) (ps : CTypes) (gs : List TypedExpression) → callee L at d (value L b d) ≡ fine (record { designator = f; returns = t; parameters = ps }) → sites (b.sites + calls d) ≡ called_by p f t ps → HasTypes p f t ps → IsResult t → trees L (after_designator b d) es ≡ fine gs → length gs ≡ count ps → all_fit ps gs ≡ true → (b.sites + calls d) + suc (calls_of_all es) ≤ 10000
      → MarkedGoes p env w b' k wanted (types_of (kept sites b.sites wanted (call at d es))) t (call_of f t (b.sites + calls d) (passed ps gs)) (expr sites b.sites wanted (call at d es))
  marked_goes at d es l la b b' k wanted c some n tabled found r (direct i) t ps gs called entry types result given long fit within = by_mark (is_marked p (Direct i)) refl
    where
      by_mark : (a : Bool) → is_marked p (Direct i) ≡ a → MarkedGoes p env w b' k wanted (types_of (kept sites b.sites wanted (call at d es))) t (typed.call t (b.sites + calls d) i (passed ps gs)) (expr sites b.sites wanted (call at d es))
      by_mark true q =
          let e : sites (b.sites + calls d) ≡ Some (record { pointer_type = None; returns = t; parameters = ps }) = entry ∙ if_true (is_marked p (Direct i)) _ _ q in
          let name : IsName d = (let k = subst (λ o. IsDesignator o d) e n.0 in k refl) in
          subst (λ o. MarkedGoes p env w b' k wanted (types_of (kept sites b.sites true d ++ (temporaries_where (b.sites + calls d) wanted o ++ kept_of_arguments sites (suc (b.sites + calls d)) es))) t (typed.call t (b.sites + calls d) i (passed ps gs)) (call_where at (b.sites + calls d) wanted o (expr sites b.sites true d) (arguments sites (suc (b.sites + calls d)) es))) (sym e)
          (direct_goes p sites env w stand plain alike d name at es la b b' k wanted i t ps gs n.2 tabled.2 (subst (λ o. AreFound w.names k (kept sites b.sites true d ++ (temporaries_where (b.sites + calls d) wanted o ++ kept_of_arguments sites (suc (b.sites + calls d)) es))) e found) r called q types result given long fit within)
      by_mark false q = absurd (let z : Some c ≡ None = sym some ∙ (entry ∙ if_false (is_marked p (Direct i)) _ _ q) in cc)
  marked_goes at d es l la b b' k wanted c some n tabled found r (through x) t ps gs called entry types result given long fit within = by_mark (is_marked p (Through (type_of x))) refl
    where
      by_mark : (a : Bool) → is_marked p (Through (type_of x)) ≡ a → MarkedGoes p env w b' k wanted (types_of (kept sites b.sites wanted (call at d es))) t (typed.call_through t (b.sites + calls d) x (passed ps gs)) (expr sites b.sites wanted (call at d es))
      by_mark true q =
          let e : sites (b.sites + calls d) ≡ Some (record { pointer_type = Some (type_of x); returns = t; parameters = ps }) = entry ∙ if_true (is_marked p (Through (type_of x))) _ _ q in
          let v = through_value at x t ps L d (value L b d) called in
          subst (λ o. MarkedGoes p env w b' k wanted (types_of (kept sites b.sites true d ++ (temporaries_where (b.sites + calls d) wanted o ++ kept_of_arguments sites (suc (b.sites + calls d)) es))) t (typed.call_through t (b.sites + calls d) x (passed ps gs)) (call_where at (b.sites + calls d) wanted o (expr sites b.sites true d) (arguments sites (suc (b.sites + calls d)) es))) (sym e)
          (subst (λ y. is_marked p (Through (type_of y)) ≡ true → type_of y ≡ pointer (function t ps) → AreFound w.names k (kept sites b.sites true d ++ ((record { name = designator_name (b.sites + calls d); ctype = type_of y } ∷ (arguments_kept (b.sites + calls d) 0 ps ++ result_kept (b.sites + calls d) wanted t)) ++ kept_of_arguments sites (suc (b.sites + calls d)) es))
          → MarkedGoes p env w b' k wanted (types_of (kept sites b.sites true d ++ ((record { name = designator_name (b.sites + calls d); ctype = type_of y } ∷ (arguments_kept (b.sites + calls d) 0 ps ++ result_kept (b.sites + calls d) wanted t)) ++ kept_of_arguments sites (suc (b.sites + calls d)) es))) t (typed.call_through t (b.sites + calls d) y (passed ps gs))
          (marked_call at (b.sites + calls d) wanted (record { pointer_type = Some (type_of y); returns = t; parameters = ps }) (expr sites b.sites true d) (arguments sites (suc (b.sites + calls d)) es))) v.tree
          (λ marked typ found. through_goes p sites env w stand plain alike at d es l la b b' k wanted v.given t ps gs n.1 n.2 tabled.1 tabled.2 found r v.value v.pointed marked typ result given long fit within) q types
          (subst (λ o. AreFound w.names k (kept sites b.sites true d ++ (temporaries_where (b.sites + calls d) wanted o ++ kept_of_arguments sites (suc (b.sites + calls d)) es))) e found))
      by_mark false q = absurd (let z : Some c ≡ None = sym some ∙ (entry ∙ if_false (is_marked p (Through (type_of x))) _ _ q) in cc)

  -- a marked call whose value is wanted, and one whose value isn't
  marked_follows : (b' : Before) (k : ℕ) (ts : List CType) (t : CType) (e : typed.Expr) (x : Expr) → IsResult t → MarkedGoes p env w b' k true ts t e x → Follows p k ts (fine (typed_value t e not_constant)) (tree R b' x)
  marked_follows b' k ts t e x result h = (h.made, h.tree ∙ ap (λ u. fine (typed_value u h.made not_constant)) (marked_result t result), record { types = h.types; tree = h.same; none = λ c. absurd c })

  marked_unused : (at : ℕ) (b' : Before) (k : ℕ) (ts : List CType) (t : CType) (e : typed.Expr) (x : Expr) → IsResult t → MarkedGoes p env w b' k false ts t e x → UnusedFollows p k ts (value_at L at (fine (typed_value t e not_constant))) (value R b' x)
  marked_unused at b' k ts t e x result h =
      let u : CType = with_null_calls.marked_type (is_kept false t) t in
      subst (λ z. UnusedFollows p k ts z (value R b' x)) (sym (result_value L at t e result)) (typed_value u h.made not_constant, ap (value_at R (place_of x)) h.tree ∙ result_value R (place_of x) u h.made (unused_result t), h.types, h.same)

  -- the site of the plain call, and what is within the limit
  record IsHere (b : Before) (at : ℕ) (d : Expr) (es : Exprs) (site : ℕ) : Type 0 where
    pub same : site ≡ b.sites + calls d
    pub within : (b.sites + calls d) + suc (calls_of_all es) ≤ 10000

  is_here : (b : Before) (at : ℕ) (d : Expr) (es : Exprs) (site : ℕ) (g : TypedExpression) → site_of L (b.sites + calls d) at ≡ fine site → tree L b (call at d es) ≡ fine g → IsHere b at d es site
  is_here b at d es site g h e =
      let s = site_is (b.sites + calls d) site at (subst (λ c. site_in c 10000 (b.sites + calls d) at ≡ fine site) stand.runs h) in
      let few = s.few in
      let least : b.sites ≤ 10000 = omega (arith, few) in
      let q : b.sites + calls (call at d es) ≤ 10000 = calls_are_within L b (call at d es) g stand.runs e least in
      record { same = s.same; within = omega (arith, q) }

  module _ (at : ℕ) (d : Expr) (es : Exprs) (l : Goes p sites env w d) (la : AllGo p sites env w es) where
    abbrev Types : Bool → Before → List CType
    Types wanted b = types_of (kept sites b.sites wanted (call at d es))

    marked_case : (wanted : Bool) (b b' : Before) (k : ℕ) (c : Called) → sites (b.sites + calls d) ≡ Some c → AreNamed sites b.sites (call at d es) → AreTabled p sites L b (call at d es) → AreFound w.names k (kept sites b.sites wanted (call at d es)) → Near b b' → (P : Checked TypedExpression → Type 0) → ((first : Fault) (others : List Fault) → P (faulty first others))
        → ((t : CType) (e : typed.Expr) → IsResult t → MarkedGoes p env w b' k wanted (Types wanted b) t e (expr sites b.sites wanted (call at d es)) → P (fine (typed_value t e not_constant))) → P (tree L b (call at d es))
    marked_case wanted b b' k c some n t f r P faults fines =
        by_parts (λ z. tree L b (call at d es) ≡ z → P z) at (λ first others e. faults first others) (callee L at d (value L b d)) (site_of L (b.sites + calls d) at) (trees L (after_designator b d) es)
        (λ g site gs c_fine s_fine g_fine long fit e.
        (let here = is_here b at d es site (given_by g site gs) s_fine e in
        let k0 = t.0 g c_fine in
        fines g.returns (call_of g.designator g.returns site (passed g.parameters gs)) k0.result
        (subst (λ i. MarkedGoes p env w b' k wanted (Types wanted b) g.returns (call_of g.designator g.returns i (passed g.parameters gs)) (expr sites b.sites wanted (call at d es))) (sym here.same)
        (marked_goes at d es l la b b' k wanted c some n t f r g.designator g.returns g.parameters gs c_fine k0.entry k0.types k0.result g_fine long fit here.within))))
        refl

    call_wanted : ExprFollows p sites env w (call at d es)
    call_wanted b b' k n t f r = by_entry (sites (b.sites + calls d)) refl
      where
        by_entry : (o : Option Called) → sites (b.sites + calls d) ≡ o → Follows p k (Types true b) (tree L b (call at d es)) (tree R b' (expr sites b.sites true (call at d es)))
        by_entry None q = unmarked_calls_go p sites env w plain alike at d es l la b b' k q n t f r
        by_entry (Some c) q =
            marked_case true b b' k c q n t f r (λ z. Follows p k (Types true b) z (tree R b' (expr sites b.sites true (call at d es)))) (λ _ _. tt)
            (λ u e result h. marked_follows b' k (Types true b) u e (expr sites b.sites true (call at d es)) result h)

    -- a call that isn't marked is the same whether its value is wanted or not
    plain_solid : (b : Before) → sites (b.sites + calls d) ≡ None → AreTabled p sites L b (call at d es) → Holds (SolidValue p) (value L b (call at d es))
    plain_solid b q t =
        by_parts (λ z. Holds (SolidValue p) (value_at L at z)) at (λ _ _. tt) (callee L at d (value L b d)) (site_of L (b.sites + calls d) at) (trees L (after_designator b d) es)
        (λ g site gs c_fine s_fine g_fine long fit.
        (let k0 = t.0 g c_fine in
        subst (Holds (SolidValue p)) (sym (result_value L at g.returns (call_of g.designator g.returns site (passed g.parameters gs)) k0.result)) (call_solid p g.designator g.returns site (passed g.parameters gs) (no_entry p g.designator g.returns g.parameters (sym k0.entry ∙ q)))))

    call_unused : UnusedExprFollows p sites env w (call at d es)
    call_unused b b' k n t f r = by_entry (sites (b.sites + calls d)) refl
      where
        by_entry : (o : Option Called) → sites (b.sites + calls d) ≡ o → UnusedFollows p k (Types false b) (value L b (call at d es)) (value R b' (expr sites b.sites false (call at d es)))
        by_entry None q =
            let m : ℕ = b.sites + calls d in
            let d1 : Expr = expr sites b.sites true d in
            let es1 : Exprs = arguments sites (suc m) es in
            let xs : List Temporary = kept sites b.sites true d in
            let ys : List Temporary = kept_of_arguments sites (suc m) es in
            let same_kept : kept sites b.sites false (call at d es) ≡ kept sites b.sites true (call at d es) = ap (λ o. xs ++ (temporaries_where m false o ++ ys)) q ∙ sym (ap (λ o. xs ++ (temporaries_where m true o ++ ys)) q) in
            let left : expr sites b.sites false (call at d es) ≡ call at d1 es1 = ap (λ o. call_where at m false o d1 es1) q in
            let right : expr sites b.sites true (call at d es) ≡ call at d1 es1 = ap (λ o. call_where at m true o d1 es1) q in
            let goes = unmarked_calls_go p sites env w plain alike at d es l la b b' k q n t (subst (AreFound w.names k) same_kept f) r in
            let goes_too : Follows p k (Types true b) (tree L b (call at d es)) (tree R b' (call at d1 es1)) = subst (λ x. Follows p k (Types true b) (tree L b (call at d es)) (tree R b' x)) right goes in
            subst (λ x. UnusedFollows p k (Types false b) (value L b (call at d es)) (value R b' x)) (sym left)
            (subst (λ ts. UnusedFollows p k (types_of ts) (value L b (call at d es)) (value R b' (call at d1 es1))) (sym same_kept)
            (unused_same p sites env w k (Types true b) (value L b (call at d es)) (value R b' (call at d1 es1)) (value_at_follows p k (Types true b) L at (tree L b (call at d es)) (tree R b' (call at d1 es1)) goes_too) (plain_solid b q t)))
        by_entry (Some c) q =
            marked_case false b b' k c q n t f r (λ z. UnusedFollows p k (Types false b) (value_at L at z) (value R b' (expr sites b.sites false (call at d es)))) (λ _ _. tt)
            (λ u e result h. marked_unused at b' k (Types false b) u e (expr sites b.sites false (call at d es)) result h)

pub all_calls_go : AllCallsGo
all_calls_go p sites env w plain alike stand at d es l la = record {
  wanted = call_wanted p sites env w plain alike stand at d es l la;
  unused = call_unused p sites env w plain alike stand at d es l la;
}

pub all_expressions_go : AllExpressionsGo
all_expressions_go p sites env w plain alike stand x = expressions_go p sites env w plain alike (all_calls_go p sites env w plain alike stand) x
