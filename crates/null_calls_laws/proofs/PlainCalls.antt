-- Calls that are not marked go where their designators and arguments do.
use Rattle.std.proofs.Common.{◌≡◌, ℕ, suc, ◌+◌, ◌*◌, ◌≤◌, ◌<◌, Bool, true, false, ◌&&◌, if◌then◌else◌, List, [], ◌∷◌, ◌++◌, length, Option, None, Some, nat_lt, nat_eq, refl, ap, ap₂, sym, subst, ◌∙◌, arith}
use Rattle.std.proofs.lemmas.Bool.Decides.{Decides-ltb, Decides-eqb}
use Rattle.c_tree.specs.Tree.{CType, pointer, function, CTypes, no_types, more_types, type_of, Program}
use Rattle.c_tree.specs.Tree as typed
use Rattle.c_tree.specs.Functions.{called_type}
use Rattle.c_meaning.specs.Mentions.{Direct, Through}
use Rattle.c_meaning.specs.CallGraph.{is_marked}
use Rattle.c_syntax.specs.Tree.{Expr, a_name, call, Exprs, no_exprs, more_exprs}
use Rattle.c_rules.specs.Checked.{Checked, fine, faulty, demand, on, both, all_three}
use Rattle.c_rules.specs.Types.{count}
use Rattle.c_rules.specs.Scopes.{Env, Context, evaluated, sized, folded, Before}
use Rattle.c_rules.specs.Counts.{calls, after, after_designator}
use Rattle.c_rules.specs.TypedExpression.{not_constant, TypedExpression, typed_value, tree_of}
use Rattle.c_rules.specs.Conversions.{kind_of}
use Rattle.c_rules.specs.PrimaryExpressions.{used, function_number, named_expression}
use Rattle.c_rules.specs.PostfixExpressions.{site_in, site_of, Designator, direct, through, Callee, callee_of_type, callee_through, callee_by_value, all_fit, passed, call_of, as_many_as, called}
use Rattle.c_rules.specs.Expressions.{callee, tree, trees, value}
use Rattle.null_calls_laws.specs.MarkedCalls.{Called, Sites}
use Rattle.null_calls_laws.specs.Temporaries.{Temporary, temporaries_where}
use Rattle.null_calls_laws.specs.InstrumentedExpressions.{call_where, expr, arguments, kept, kept_of_arguments}
use Rattle.null_calls_laws.specs.InstrumentedPrograms as with_null_calls
use Rattle.null_calls_laws.specs.WithoutSites.{unsited, unsited_all}
use Rattle.c_rules_laws.specs.TypedAlike.{More, plain_scope, instrumented_scope, AreUnreserved, MeanAlike}
use Rattle.c_rules_laws.proofs.Leads.{Leads, same_leads}
use Rattle.c_rules_laws.proofs.Names.{named_callee_leads}
use Rattle.null_calls_laws.specs.Remade.{remade, IsRemade, Follows}
use Rattle.null_calls_laws.proofs.Operands.{operand, value_remade, demand_follows, assigned_operand}
use Rattle.null_calls_laws.proofs.Unary.{behind_test, value_at_follows}
use Rattle.null_calls_laws.proofs.Binary.{fits_same}
use Rattle.null_calls_laws.specs.Counts.{AreNamed, AllNamed, Near}
use Rattle.null_calls_laws.proofs.ExpressionCounts.{places_near, counts_stay}
use Rattle.null_calls_laws.specs.Tabled.{called_by, AreTabled, AllTabled, AreFound}
use Rattle.null_calls_laws.specs.Follow.{types_of, ExprFollows, Goes, AllGo}
use Rattle.c_rules_laws.proofs.Holding.{Holds, after_part, fine_same}
use Rattle.c_rules_laws.proofs.Operators.{callee_holds}
use Rattle.null_calls_laws.proofs.Leaves.{leaf_follows, named_leaf}
use Rattle.null_calls_laws.proofs.Forms.{types_both, found_first, found_rest, value_goes}
use Rattle.null_calls_laws.specs.PlainCalls.{UnmarkedCallsGo}
use Rattle.null_calls_laws.proofs.BehindArguments.{cons}
use Rattle.null_calls_laws.proofs.InstrumentedCalls.{if_false}

-- ## Designators

abbrev IsNoName : Expr → Type 0
IsNoName (a_name at x) = ⊥
IsNoName e = Unit {0}

callee_other : (env : Env) (at : ℕ) (d : Expr) (r : Checked TypedExpression) → IsNoName d → callee env at d r ≡ on r (callee_by_value at)
callee_other env at (a_name place x) r h = absurd h
callee_other env at d r h = refl

call_no_name : (at site : ℕ) (wanted : Bool) (o : Option Called) (d : Expr) (es : Exprs) → IsNoName (call_where at site wanted o d es)
call_no_name at site wanted None d es = tt
call_no_name at site wanted (Some c) d es = tt

stays_no_name : (sites : Sites) (b : ℕ) (d : Expr) → IsNoName d → IsNoName (expr sites b true d)
stays_no_name sites b (a_name place x) h = absurd h
stays_no_name sites b (call place d es) h = call_no_name place (b + calls d) true (sites (b + calls d)) _ _
stays_no_name sites b d h = tt

entry_none : (b : Bool) (c : Called) → (if b then Some c else None) ≡ None → b ≡ false
entry_none true c e = absurd (let q : Some c ≡ None = e in cc)
entry_none false c e = refl

module _ (p : Program) where
  abbrev DesignatorGoes : ℕ → List CType → Designator → Designator → Type 0
  DesignatorGoes k ts (direct n) d' = (d' ≡ direct n) × (ts ≡ [])
  DesignatorGoes k ts (through e) d' = (e' : typed.Expr) × (d' ≡ through e') × (with_null_calls.kept p true e ≡ ts) × (unsited e' ≡ with_null_calls.expr p k true e)

  abbrev CalleeFollows : ℕ → List CType → Checked Callee → Checked Callee → Type 0
  CalleeFollows k ts (fine f) s = (d' : Designator) × (s ≡ fine (record f { designator = d' })) × DesignatorGoes k ts f.designator d'
  CalleeFollows k ts (faulty f fs) s = Unit {0}

  through_follows : (k : ℕ) (ts : List CType) (at : ℕ) (e e' : typed.Expr) (t : CType) → with_null_calls.kept p true e ≡ ts → unsited e' ≡ with_null_calls.expr p k true e → CalleeFollows k ts (callee_through at e t) (callee_through at e' t)
  through_follows k ts at e e' (pointer (function t us)) h l = (through e', refl, (e', refl, h, l))
  through_follows k ts at e e' t h l = tt

  by_value_follows : (k : ℕ) (ts : List CType) (at : ℕ) (r s : Checked TypedExpression) → Follows p k ts r s → CalleeFollows k ts (on r (callee_by_value at)) (on s (callee_by_value at))
  by_value_follows k ts at (fine g) s h =
      (let o = operand p k ts g h.0 h.2 in subst (λ z. CalleeFollows k ts (callee_by_value at g) (on z (callee_by_value at))) (sym h.1) (through_follows k ts at (tree_of g) (tree_of (remade g h.0)) g.ctype o.types o.tree))
  by_value_follows k ts at (faulty f fs) s h = tt

  -- a name
  abbrev CalleeLeaf : ℕ → Callee → Type 0
  CalleeLeaf k f = DesignatorGoes k [] f.designator f.designator

  type_leaf : (k at : ℕ) (t : CType) (n : ℕ) → Holds (CalleeLeaf k) (callee_of_type at t n)
  type_leaf k at (function t us) n = (refl, refl)
  type_leaf k at t n = tt

  through_leaf : (k at : ℕ) (e : typed.Expr) (t : CType) → with_null_calls.kept p true e ≡ [] → unsited e ≡ with_null_calls.expr p k true e → Holds (CalleeLeaf k) (callee_through at e t)
  through_leaf k at e (pointer (function t us)) h l = (e, refl, h, l)
  through_leaf k at e t h l = tt

  value_leaf : (k at : ℕ) (r : Checked TypedExpression) → Follows p k [] r r → Holds (CalleeLeaf k) (on r (callee_by_value at))
  value_leaf k at (fine g) h =
      (let o = operand p k [] g h.0 h.2 in let q = fine_same g (remade g h.0) h.1 in through_leaf k at (tree_of g) g.ctype o.types (subst (λ z. unsited (tree_of z) ≡ with_null_calls.expr p k true (tree_of g)) (sym q) o.tree))
  value_leaf k at (faulty f fs) h = tt

  callee_leaf : (env : Env) (k at : ℕ) (d : Expr) (r : Checked TypedExpression) → Follows p k [] r r → Holds (CalleeLeaf k) (callee env at d r)
  callee_leaf env k at d r h =
      callee_holds (λ _. CalleeLeaf k) env at d r (value_leaf k at r h) (λ place x b t defined _ _. after_part (CalleeLeaf k) (used env.context place (function_number env x)) (callee_of_type place t) (λ n. type_leaf k place t n))

  leaf_callee : (k : ℕ) (r s : Checked Callee) → Leads r s → Holds (CalleeLeaf k) r → CalleeFollows k [] r s
  leaf_callee k (fine f) s h l = (f.designator, h.0, l)
  leaf_callee k (faulty f fs) s h l = tt

  -- ## Arguments

  abbrev AllRemade : ℕ → List CType → List TypedExpression → List TypedExpression → Type 0
  AllRemade k ts [] hs = (hs ≡ []) × (ts ≡ [])
  AllRemade k ts (g ∷ gs) hs = (us : List CType) × (vs : List CType) × (x : typed.Expr) × (rest : List TypedExpression) × (hs ≡ remade g x ∷ rest) × IsRemade p k us g x × AllRemade (k + length us) vs gs rest × (ts ≡ us ++ vs)

  abbrev ArgsFollow : ℕ → List CType → Checked (List TypedExpression) → Checked (List TypedExpression) → Type 0
  ArgsFollow k ts (fine gs) s = (hs : List TypedExpression) × (s ≡ fine hs) × AllRemade k ts gs hs
  ArgsFollow k ts (faulty f fs) s = Unit {0}

  more_args : (k : ℕ) (us vs : List CType) (r s : Checked TypedExpression) (q v : Checked (List TypedExpression)) → Follows p k us r s → ArgsFollow (k + length us) vs q v → ArgsFollow k (us ++ vs) (both r q cons) (both s v cons)
  more_args k us vs (fine g) s (fine gs) v h l = (remade g h.0 ∷ l.0, ap (λ z. both z v cons) h.1 ∙ ap (λ z. both (fine (remade g h.0)) z cons) l.1, (us, vs, h.0, l.0, refl, h.2, l.2, refl))
  more_args k us vs r s q v h l = tt

  args_long : (k : ℕ) (ts : List CType) (gs hs : List TypedExpression) → AllRemade k ts gs hs → length hs ≡ length gs
  args_long k ts [] hs h = ap length h.0
  args_long k ts (g ∷ gs) hs h = ap length h.4 ∙ ap suc (args_long (k + length h.0) h.1 gs h.3 h.6)

  args_fit : (ps : CTypes) (k : ℕ) (ts : List CType) (gs hs : List TypedExpression) → AllRemade k ts gs hs → all_fit ps hs ≡ all_fit ps gs
  args_fit no_types k ts gs hs h = refl
  args_fit (more_types t ps) k ts [] hs h = ap (all_fit (more_types t ps)) h.0
  args_fit (more_types t ps) k ts (g ∷ gs) hs h = ap (all_fit (more_types t ps)) h.4 ∙ ap₂ (λ a b. a && b) (fits_same p k [] [] t (kind_of t) g h.2) (args_fit ps (k + length h.0) h.1 gs h.3 h.6)

  args_passed : (ps : CTypes) (k : ℕ) (ts : List CType) (gs hs : List TypedExpression) → length gs ≡ count ps → AllRemade k ts gs hs → (with_null_calls.kept_of_all p (passed ps gs) ≡ ts) × (unsited_all (passed ps hs) ≡ with_null_calls.arguments p k (passed ps gs))
  args_passed no_types k ts [] hs l h = (sym h.1, refl)
  args_passed (more_types t ps) k ts (g ∷ gs) hs l h =
      let o = assigned_operand p k h.0 t g h.2 h.5 in
      let r = args_passed ps (k + length h.0) h.1 gs h.3 (omega (arith, l)) h.6 in (
        ap₂ (λ xs ys. xs ++ ys) o.types r.0 ∙ sym h.7,
        ap (λ z. unsited_all (passed (more_types t ps) z)) h.4 ∙ ap₂ (λ e es. typed.more_exprs e es) o.tree (r.1 ∙ ap (λ vs. with_null_calls.arguments p (k + length vs) (passed ps gs)) (sym o.types)),
      )
  args_passed ps k ts gs hs l h = absurd (omega (arith, l))

  -- ## The call

  abbrev pub marks : Designator → Bool
  marks (direct n) = is_marked p (Direct n)
  marks (through e) = is_marked p (Through (type_of e))

  call_types : (k : ℕ) (ts us : List CType) (d d' : Designator) (r : CType) (site : ℕ) (es : typed.Exprs) → marks d ≡ false → DesignatorGoes k ts d d' → with_null_calls.kept_of_all p es ≡ us → with_null_calls.kept p true (call_of d r site es) ≡ ts ++ us
  call_types k ts us (direct n) d' r site es m h l = ap₂ (λ xs ys. xs ++ ys) (if_false (is_marked p (Direct n)) (with_null_calls.parameters_where (called_type p n) ++ with_null_calls.of_result true r) [] m) l ∙ ap (λ vs. vs ++ us) (sym h.1)
  call_types k ts us (through e) d' r site es m h l = ap₂ (λ xs ys. xs ++ ys) h.2 (ap₂ (λ xs ys. xs ++ ys) (if_false (is_marked p (Through (type_of e))) (type_of e ∷ (with_null_calls.parameters_behind (type_of e) ++ with_null_calls.of_result true r)) [] m) l)

  call_tree : (k : ℕ) (ts : List CType) (d d' : Designator) (r : CType) (site site' : ℕ) (es es' : typed.Exprs) → marks d ≡ false → DesignatorGoes k ts d d' → unsited_all es' ≡ with_null_calls.arguments p (k + length ts) es → unsited (call_of d' r site' es') ≡ with_null_calls.expr p k true (call_of d r site es)
  call_tree k ts (direct n) d' r site site' es es' m h l =
      let z : k + length ts ≡ k = (let q : length ts ≡ 0 = ap length h.1 in omega (arith, q)) in
      ap (λ d. unsited (call_of d r site' es')) h.0 ∙ (ap (typed.call r 0 n) (l ∙ ap (λ j. with_null_calls.arguments p j es) z) ∙ sym (if_false (is_marked p (Direct n)) (with_null_calls.marked_direct p site true r n k (with_null_calls.arguments p (k + length (with_null_calls.of_direct p true r n)) es)) (typed.call r 0 n (with_null_calls.arguments p k es)) m))
  call_tree k ts (through e) d' r site site' es es' m h l =
      ap (λ d. unsited (call_of d r site' es')) h.1
      ∙ (ap₂ (λ a b. typed.call_through r 0 a b) h.3 (l ∙ ap (λ vs. with_null_calls.arguments p (k + length vs) es) (sym h.2)) ∙ sym (if_false (is_marked p (Through (type_of e))) (with_null_calls.marked_through p site true r (k + length (with_null_calls.kept p true e)) (with_null_calls.expr p k true e) (with_null_calls.arguments p (k + length (with_null_calls.kept p true e) + length (with_null_calls.of_through p true r (type_of e))) es)) (typed.call_through r 0 (with_null_calls.expr p k true e) (with_null_calls.arguments p (k + length (with_null_calls.kept p true e)) es)) m))

  called_goes : (k : ℕ) (ts us : List CType) (at : ℕ) (f : Callee) (d' : Designator) (site site' : ℕ) (gs hs : List TypedExpression) → marks f.designator ≡ false → DesignatorGoes k ts f.designator d' → AllRemade (k + length ts) us gs hs
      → Follows p k (ts ++ us) (called at f site gs) (called at (record f { designator = d' }) site' hs)
  called_goes k ts us at f d' site site' gs hs m h l =
      let e : typed.Expr = call_of f.designator f.returns site (passed f.parameters gs) in
      let e' : typed.Expr = call_of d' f.returns site' (passed f.parameters hs) in
      let left : Checked TypedExpression = demand (all_fit f.parameters gs) 3 at (typed_value f.returns e not_constant) in
      behind_test p k (ts ++ us) (as_many_as f.parameters gs) (as_many_as f.parameters hs) (ap (λ n. nat_eq n (count f.parameters)) (args_long (k + length ts) us gs hs l)) 5 at left (demand (all_fit f.parameters hs) 3 at (typed_value f.returns e' not_constant))
      (λ q. (let a = args_passed f.parameters (k + length ts) us gs hs ((Decides-eqb (length gs) (count f.parameters)).0 q) l in
      subst (λ z. Follows p k (ts ++ us) left (demand z 3 at (typed_value f.returns e' not_constant))) (sym (args_fit f.parameters (k + length ts) us gs hs l))
      (demand_follows p k (ts ++ us) (all_fit f.parameters gs) 3 at (typed_value f.returns e not_constant) (typed_value f.returns e' not_constant)
      (value_remade p k (ts ++ us) f.returns e e' not_constant not_constant (call_types k ts us f.designator d' f.returns site (passed f.parameters gs) m h a.0) (call_tree k ts f.designator d' f.returns site site' (passed f.parameters gs) (passed f.parameters hs) m h a.1) (λ c. absurd c) refl))))

  abbrev SiteFollows : Checked ℕ → Checked ℕ → Type 0
  SiteFollows (fine n) s = (m : ℕ) × (s ≡ fine m)
  SiteFollows (faulty f fs) s = Unit {0}

  site_follows : (c : Context) (n m at : ℕ) → m ≤ 3 * n → SiteFollows (site_in c 10000 n at) (site_in c 30000 m at)
  site_follows evaluated n m at l = by_test (nat_lt n 10000) refl
    where
      by_test : (t : Bool) → nat_lt n 10000 ≡ t → SiteFollows (demand t 13 at n) (demand (nat_lt m 30000) 13 at m)
      by_test true q = (m, ap (λ b. demand b 13 at m) ((Decides-ltb m 30000).1 (let k : n < 10000 = (Decides-ltb n 10000).0 q in omega (arith, k, l))))
      by_test false q = tt
  site_follows sized n m at l = tt
  site_follows folded n m at l = (0, refl)

  combined : (k : ℕ) (ts us : List CType) (at : ℕ) (r r' : Checked Callee) (s s' : Checked ℕ) (q q' : Checked (List TypedExpression)) → CalleeFollows k ts r r' → SiteFollows s s' → ArgsFollow (k + length ts) us q q' → ((f : Callee) → r ≡ fine f → marks f.designator ≡ false)
      → Follows p k (ts ++ us) (all_three r s q (called at)) (all_three r' s' q' (called at))
  combined k ts us at (fine f) r' (fine n) s' (fine gs) q' h l a m =
      subst (λ z. Follows p k (ts ++ us) (called at f n gs) (all_three z s' q' (called at))) (sym h.1)
      (subst (λ z. Follows p k (ts ++ us) (called at f n gs) (all_three (fine (record f { designator = h.0 })) z q' (called at))) (sym l.1)
      (subst (λ z. Follows p k (ts ++ us) (called at f n gs) (all_three (fine (record f { designator = h.0 })) (fine l.0) z (called at))) (sym a.1) (called_goes k ts us at f h.0 n l.0 gs a.0 (m f refl) h.2 a.2)))
  combined k ts us at r r' s s' q q' h l a m = tt

  -- a site without an entry has no marked call
  pub no_entry : (d : Designator) (t : CType) (ts : CTypes) → called_by p d t ts ≡ None → marks d ≡ false
  no_entry (direct f) t ts h = entry_none (is_marked p (Direct f)) (record { pointer_type = None; returns = t; parameters = ts }) h
  no_entry (through a) t ts h = entry_none (is_marked p (Through (type_of a))) (record { pointer_type = Some (type_of a); returns = t; parameters = ts }) h

module _ (p : Program) (sites : Sites) (env : Env) (w : More) (plain : AreUnreserved env.names) (alike : MeanAlike env.names w.names) where
  abbrev L : Env
  L = plain_scope env

  abbrev R : Env
  R = instrumented_scope env w

  callee_goes : (at : ℕ) (d : Expr) → ExprFollows p sites env w d → (b b' : Before) (k : ℕ) → AreNamed sites b.sites d → AreTabled p sites L b d → AreFound w.names k (kept sites b.sites true d) → Near b b'
      → CalleeFollows p k (types_of (kept sites b.sites true d)) (callee L at d (value L b d)) (callee R at (expr sites b.sites true d) (value R b' (expr sites b.sites true d)))
  callee_goes at (a_name place y) h b b' k n t f r =
      leaf_callee p k (callee L at (a_name place y) (value L b (a_name place y))) (callee R at (a_name place y) (value R b' (a_name place y))) (named_callee_leads env w plain alike at place y)
      (callee_leaf p L k at (a_name place y) (value L b (a_name place y)) (value_at_follows p k [] L place (named_expression L place y) (named_expression L place y) (leaf_follows p k (named_expression L place y) (named_expression L place y) (same_leads (named_expression L place y)) (named_leaf p L place y))))
  callee_goes at d h b b' k n t f r = other d h b b' k n t f r tt
    where
      other : (d : Expr) → ExprFollows p sites env w d → (b b' : Before) (k : ℕ) → AreNamed sites b.sites d → AreTabled p sites L b d → AreFound w.names k (kept sites b.sites true d) → Near b b' → IsNoName d
          → CalleeFollows p k (types_of (kept sites b.sites true d)) (callee L at d (value L b d)) (callee R at (expr sites b.sites true d) (value R b' (expr sites b.sites true d)))
      other d h b b' k n t f r o =
          let ts : List CType = types_of (kept sites b.sites true d) in
          let e : Expr = expr sites b.sites true d in
          subst (λ z. CalleeFollows p k ts z (callee R at e (value R b' e))) (sym (callee_other L at d (value L b d) o)) (subst (λ z. CalleeFollows p k ts (on (value L b d) (callee_by_value at)) z) (sym (callee_other R at e (value R b' e) (stays_no_name sites b.sites d o)))
          (by_value_follows p k ts at (value L b d) (value R b' e) (value_goes p sites env w d h b b' k n t f r)))

  arguments_go : (es : Exprs) → AllGo p sites env w es → (b b' : Before) (k : ℕ) → AllNamed sites b.sites es → AllTabled p sites L b es → AreFound w.names k (kept_of_arguments sites b.sites es) → Near b b'
      → ArgsFollow p k (types_of (kept_of_arguments sites b.sites es)) (trees L b es) (trees R b' (arguments sites b.sites es))
  arguments_go no_exprs h b b' k n t f r = ([], refl, (refl, refl))
  arguments_go (more_exprs e es) h b b' k n t f r =
      let xs : List Temporary = kept sites b.sites true e in
      let ys : List Temporary = kept_of_arguments sites (b.sites + calls e) es in
      let e1 : Expr = expr sites b.sites true e in
      subst (λ ts. ArgsFollow p k ts (trees L b (more_exprs e es)) (trees R b' (arguments sites b.sites (more_exprs e es)))) (sym (types_both xs ys))
      (more_args p k (types_of xs) (types_of ys) (value L b e) (value R b' e1) (trees L (after b e) es) (trees R (after b' e1) (arguments sites (b.sites + calls e) es)) (value_goes p sites env w e h.0.wanted b b' k n.0 t.0 (found_first w.names k xs ys f) r)
      (arguments_go es h.1 (after b e) (after b' e1) (k + length (types_of xs)) n.1 t.1 (found_rest w.names k xs ys f) (places_near sites b b' true e n.0 r)))

  call_goes : (at : ℕ) (d : Expr) (es : Exprs) → Goes p sites env w d → AllGo p sites env w es → (b b' : Before) (k : ℕ) → sites (b.sites + calls d) ≡ None → AreNamed sites b.sites (call at d es) → AreTabled p sites L b (call at d es) → AreFound w.names k (kept sites b.sites true (call at d es)) → Near b b'
      → Follows p k (types_of (kept sites b.sites true (call at d es))) (tree L b (call at d es)) (tree R b' (expr sites b.sites true (call at d es)))
  call_goes at d es h l b b' k none n t f r =
      let m : ℕ = b.sites + calls d in
      let xs : List Temporary = kept sites b.sites true d in
      let ys : List Temporary = kept_of_arguments sites (suc m) es in
      let d1 : Expr = expr sites b.sites true d in
      let b2 : Before = after_designator b d in
      let c2 : Before = after_designator b' d1 in
      let e : b2.sites ≡ suc m = omega arith in
      let count = counts_stay sites b.sites true d n.1 in
      let near : Near b2 c2 = record { sites = (let x = r.sites in let y = count.calls_most in omega (arith, x, y)); strings = ap₂ (λ u v. u ++ v) r.strings count.strings_same; cells = (places_near sites b b' true d n.1 r).cells } in
      let found : AreFound w.names k (xs ++ ys) = subst (λ o. AreFound w.names k (xs ++ (temporaries_where m true o ++ ys))) none f in
      let rest : AreFound w.names (k + length (types_of xs)) ys = found_rest w.names k xs ys found in
      let args = arguments_go es l b2 c2 (k + length (types_of xs)) (subst (λ j. AllNamed sites j es) (sym e) n.2) t.2 (subst (λ j. AreFound w.names (k + length (types_of xs)) (kept_of_arguments sites j es)) (sym e) rest) near in
      let args2 : ArgsFollow p (k + length (types_of xs)) (types_of ys) (trees L b2 es) (trees R c2 (arguments sites (suc m) es)) = subst (λ j. ArgsFollow p (k + length (types_of xs)) (types_of (kept_of_arguments sites j es)) (trees L b2 es) (trees R c2 (arguments sites j es))) e args in
      let marked : (g : Callee) → callee L at d (value L b d) ≡ fine g → marks p g.designator ≡ false = λ g q. (let c = t.0 g q in no_entry p g.designator g.returns g.parameters (sym c.entry ∙ none)) in
      let site = site_follows p env.context m (b'.sites + calls d1) at (let x = r.sites in let y = count.calls_most in omega (arith, x, y)) in
      subst (λ o. Follows p k (types_of (xs ++ (temporaries_where m true o ++ ys))) (tree L b (call at d es)) (tree R b' (call_where at m true o d1 (arguments sites (suc m) es)))) (sym none)
      (subst (λ ts. Follows p k ts (tree L b (call at d es)) (tree R b' (call at d1 (arguments sites (suc m) es)))) (sym (types_both xs ys))
      (combined p k (types_of xs) (types_of ys) at (callee L at d (value L b d)) (callee R at d1 (value R b' d1)) (site_of L m at) (site_of R (b'.sites + calls d1) at) (trees L b2 es) (trees R c2 (arguments sites (suc m) es)) (callee_goes at d h.wanted b b' k n.1 t.1 (found_first w.names k xs ys found) r) site args2 marked))

pub unmarked_calls_go : UnmarkedCallsGo
unmarked_calls_go p sites env w plain alike at d es h l b b' k none n t f r = call_goes p sites env w plain alike at d es h l b b' k none n t f r
