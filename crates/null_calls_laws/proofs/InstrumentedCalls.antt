-- A marked call between its null calls.
use Rattle.std.proofs.Common.{◌≡◌, ℕ, suc, ◌+◌, ◌≤◌, Bool, true, false, if◌then◌else◌, List, [], ◌∷◌, ◌++◌, length, None, Some, refl, ap, ap₂, sym, subst, ◌∙◌, arith}
use Rattle.std.proofs.lemmas.List.{append-nil}
use Rattle.c_tree.specs.Tree.{CType, void, pointer, function, CTypes, no_types, more_types, list_of, type_of, Program}
use Rattle.c_tree.specs.Tree as typed
use Rattle.c_tree.specs.Functions.{called_type}
use Rattle.c_tree.specs.Operands.{IsResult}
use Rattle.c_meaning.specs.Mentions.{Direct, Through}
use Rattle.c_meaning.specs.CallGraph.{is_marked}
use Rattle.c_syntax.specs.Tree.{Expr, a_name, comma, call, Exprs, no_exprs, more_exprs}
use Rattle.c_rules.specs.Checked.{fine, on, both, gives}
use Rattle.c_rules.specs.Names.{Name}
use Rattle.c_rules.specs.Types.{count, same_type}
use Rattle.c_rules.specs.Scopes.{Env, Before}
use Rattle.c_rules.specs.Counts.{calls, calls_of_all, after, after_designator, string_cells}
use Rattle.c_rules.specs.TypedExpression.{not_constant, TypedExpression, typed_value, tree_of, is_null}
use Rattle.c_rules.specs.Conversions.{fits, assigned}
use Rattle.c_rules.specs.PostfixExpressions.{Designator, direct, through, all_fit, passed, call_of, callee_by_value}
use Rattle.c_rules.specs.Assignments.{trees_of, last_type, comma_of}
use Rattle.c_rules.specs.Expressions.{value_at, callee_meant, callee_bound, callee, tree, trees, value}
use Rattle.null_calls_laws.specs.MarkedCalls.{Sites}
use Rattle.null_calls_laws.specs.Temporaries.{Temporary, pre_name, designator_name, result_name, arguments_kept, is_kept, result_kept}
use Rattle.null_calls_laws.specs.InstrumentedExpressions.{kept_in, null_call, keep_arguments, kept_arguments, call_and_post, marked_call, expr, arguments, kept, kept_of_arguments}
use Rattle.null_calls_laws.specs.InstrumentedPrograms as with_null_calls
use Rattle.null_calls_laws.specs.WithoutSites.{unsited, unsited_all}
use Rattle.c_rules_laws.specs.TypedAlike.{More, plain_scope, instrumented_scope, AreUnreserved, MeanAlike}
use Rattle.c_rules_laws.proofs.Leads.{fine_leads}
use Rattle.c_rules_laws.proofs.Names.{named_callee_leads}
use Rattle.null_calls_laws.specs.Remade.{remade}
use Rattle.null_calls_laws.proofs.Operands.{operand}
use Rattle.null_calls_laws.specs.Counts.{IsName, AreNamed, AllNamed, Near}
use Rattle.null_calls_laws.proofs.ExpressionCounts.{counts_stay}
use Rattle.null_calls_laws.specs.Tabled.{AreTabled, AllTabled, AreFound}
use Rattle.null_calls_laws.specs.Follow.{types_of, Goes, AllGo}
use Rattle.null_calls_laws.proofs.Leaves.{Holds}
use Rattle.null_calls_laws.proofs.TreeTypes.{ValueTyped, value_typed, nulls_have_their_types}
use Rattle.null_calls_laws.proofs.Unsited.{type_same}
use Rattle.null_calls_laws.proofs.Forms.{types_both, found_first, found_rest, value_goes}
use Rattle.null_calls_laws.specs.AddedParts.{IsTemporary}
use Rattle.null_calls_laws.specs.KeptArguments.{NearBy, after_all}
use Rattle.null_calls_laws.specs.KeptValues.{AreScalars, AreAsMany}
use Rattle.null_calls_laws.specs.InstrumentedCalls.{NullCallsStand}
use Rattle.null_calls_laws.specs.NullTypes.{IsNullType}
use Rattle.null_calls_laws.proofs.AddedParts.{temporaries_are_read, temporaries_are_set}
use Rattle.null_calls_laws.proofs.BehindArguments.{behind}
use Rattle.null_calls_laws.proofs.KeptArguments.{fits_scalar, first_fine, and_left, and_right, fine_same, follows_fine, kept_arguments_go}
use Rattle.null_calls_laws.proofs.OwnTypes.{type_itself}
use Rattle.null_calls_laws.proofs.Scalars.{kept_scalar}
use Rattle.c_lexer.proofs.OneTokenTables.{or_right}

-- ## Lists

last_behind : (u : CType) (xs : List TypedExpression) (g : TypedExpression) (gs : List TypedExpression) → last_type u (xs ++ (g ∷ gs)) ≡ last_type g.ctype gs
last_behind u [] g gs = refl
last_behind u (x ∷ xs) g gs = last_behind x.ctype xs g gs

types_of_arguments : (site i : ℕ) (ps : CTypes) → types_of (arguments_kept site i ps) ≡ list_of ps
types_of_arguments site i no_types = refl
types_of_arguments site i (more_types t ps) = ap (λ ts. t ∷ ts) (types_of_arguments site (suc i) ps)

types_of_result : (site : ℕ) (wanted : Bool) (t : CType) → types_of (result_kept site wanted t) ≡ with_null_calls.of_result wanted t
types_of_result site wanted t = by_test (is_kept wanted t)
  where
    by_test : (b : Bool) → types_of (if b then record { name = result_name site; ctype = t } ∷ [] else []) ≡ (if b then t ∷ [] else [])
    by_test true = refl
    by_test false = refl

sites_behind : (es : Exprs) (b : Before) → (after_all b es).sites ≡ b.sites + calls_of_all es
sites_behind no_exprs b = omega arith
sites_behind (more_exprs e es) b = (let r = sites_behind es (after b e) in omega (arith, r))

scalars_of : (ps : CTypes) (gs : List TypedExpression) → all_fit ps gs ≡ true → length gs ≡ count ps → AreScalars ps
scalars_of no_types gs h l = tt
scalars_of (more_types t ps) [] h l = absurd (omega (arith, l))
scalars_of (more_types t ps) (g ∷ gs) h l = (fits_scalar t g (and_left (fits t g) (all_fit ps gs) h), scalars_of ps gs (and_right (fits t g) (all_fit ps gs) h) (omega (arith, l)))

pub many_of : (sites : Sites) (env : Env) (es : Exprs) (i : ℕ) (b : Before) (gs : List TypedExpression) (ps : CTypes) → trees env b es ≡ fine gs → length gs ≡ count ps → AreAsMany (arguments sites i es) ps
many_of sites env no_exprs i b gs no_types e l = tt
many_of sites env no_exprs i b gs (more_types t ps) e l = (let q : length gs ≡ 0 = ap length (fine_same gs [] (sym e)) in omega (arith, q, l))
many_of sites env (more_exprs a es) i b gs no_types e l =
    (let c = first_fine (value env b a) (trees env (after b a) es) (λ g gs. fine (g ∷ gs)) gs e in let q : length gs ≡ suc (length c.1) = ap length (fine_same gs (c.0 ∷ c.1) (sym c.4)) in omega (arith, q, l))
many_of sites env (more_exprs a es) i b gs (more_types t ps) e l =
    (let c = first_fine (value env b a) (trees env (after b a) es) (λ g gs. fine (g ∷ gs)) gs e in
    let q : length gs ≡ suc (length c.1) = ap length (fine_same gs (c.0 ∷ c.1) (sym c.4)) in
    many_of sites env es (i + calls a) (after b a) c.1 ps c.3 (omega (arith, q, l)))

-- ## Results

result_found : (w : More) (kept : Bool) (site j : ℕ) (t : CType) → AreFound w.names j (if kept then record { name = result_name site; ctype = t } ∷ [] else []) → kept ≡ true → IsTemporary w (result_name site) j t
result_found w true site j t f e = f.0
result_found w false site j t f e = absurd (let q : false ≡ true = e in cc)

pub if_true : {A : Type 0} (b : Bool) (x y : A) → b ≡ true → (if b then x else y) ≡ x
if_true b x y e = ap (λ c. if c then x else y) e

pub if_false : {A : Type 0} (b : Bool) (x y : A) → b ≡ false → (if b then x else y) ≡ y
if_false b x y e = ap (λ c. if c then x else y) e

-- a marked call as a comma expression beside the plain call
pub record MarkedGoes (p : Program) (env : Env) (w : More) (b' : Before) (k : ℕ) (wanted : Bool) (ts : List CType) (t : CType) (e : typed.Expr) (x : Expr) : Type 0 where
  pub made : typed.Expr
  pub tree : tree (instrumented_scope env w) b' x ≡ fine (typed_value (with_null_calls.marked_type (is_kept wanted t) t) made not_constant)
  pub types : with_null_calls.kept p wanted e ≡ ts
  pub same : unsited made ≡ with_null_calls.expr p k wanted e

comma_made : (env : Env) (b : Before) (at : ℕ) (es : Exprs) (gs : List TypedExpression) (t : CType) → trees env b es ≡ fine gs → last_type void gs ≡ t → tree env b (comma at es) ≡ fine (typed_value t (typed.comma t (trees_of gs)) not_constant)
comma_made env b at es gs t e q = ap (λ z. gives z comma_of) e ∙ ap (λ u. fine (typed_value u (typed.comma u (trees_of gs)) not_constant)) q

module _ (p : Program) (sites : Sites) (env : Env) (w : More) (stand : NullCallsStand p env w) where
  abbrev L : Env
  L = plain_scope env

  abbrev R : Env
  R = instrumented_scope env w

  -- the members of the comma expression from the first argument on
  record Joined (c : Before) (at m j k : ℕ) (wanted : Bool) (t : CType) (ps : CTypes) (es : Exprs) (gs : List TypedExpression) (d : Expr) (designator : Designator) : Type 0 where
    pub members : List TypedExpression
    pub given : trees R c (keep_arguments at m 0 (arguments sites (suc m) es) (more_exprs (null_call at pre_name m) (call_and_post at m (is_kept wanted t) (call at d (kept_arguments at m 0 (arguments sites (suc m) es)))))) ≡ fine members
    pub trees_same : unsited_all (trees_of members) ≡ with_null_calls.marked_members p m wanted t j (list_of ps) (with_null_calls.arguments p k (passed ps gs)) (λ vs. call_of designator t 0 vs)
    pub last : (u : CType) → last_type u members ≡ with_null_calls.marked_type (is_kept wanted t) t
    pub types : with_null_calls.kept_of_all p (passed ps gs) ≡ types_of (kept_of_arguments sites (suc m) es)

  join : (b c : Before) (at m j k : ℕ) (wanted : Bool) (t : CType) (ps : CTypes) (es : Exprs) (gs : List TypedExpression) (d : Expr) (designator : Designator) → AllGo p sites env w es → b.sites ≡ suc m → AllNamed sites (suc m) es → AllTabled p sites L b es
      → AreFound w.names j (arguments_kept m 0 ps) → AreFound w.names (j + length (list_of ps)) (result_kept m wanted t) → AreFound w.names k (kept_of_arguments sites (suc m) es) → NearBy 3 b c → trees L b es ≡ fine gs → all_fit ps gs ≡ true → length gs ≡ count ps → b.sites + calls_of_all es ≤ 10000
      → IsResult t → calls d ≡ 0 → ((c : Before) → callee R at d (value R c d) ≡ fine (record { designator = designator; returns = t; parameters = ps })) → ((site : ℕ) (vs : typed.Exprs) → unsited (call_of designator t site vs) ≡ call_of designator t 0 (unsited_all vs)) → Joined c at m j k wanted t ps es gs d designator
  join b c at m j k wanted t ps es gs d designator l e n tabled fa fr fo near given fit long within result none callees unsite =
      let K : Bool = is_kept wanted t in
      let es1 : Exprs = arguments sites (suc m) es in
      let rest : Exprs = more_exprs (null_call at pre_name m) (call_and_post at m K (call at d (kept_arguments at m 0 es1))) in
      let a = kept_arguments_go p sites env w es ps 3 l b c at m 0 j k rest gs (subst (λ i. AllNamed sites i es) (sym e) n) tabled fa (subst (λ i. AreFound w.names k (kept_of_arguments sites i es)) (sym e) fo) near given fit long in
      let s = sites_behind es b in
      let few : a.last.sites + 3 ≤ 30000 = (let q = a.near.sites in omega (arith, q, s, within)) in
      let h = behind p env w stand at m j t ps designator d es1 result none callees unsite (many_of sites L es (suc m) b gs ps given long) (scalars_of ps gs fit long) fa K a.last (λ q. (kept_scalar wanted t result q, result_found w K m (j + length (list_of ps)) t fr q)) few in
      record {
        members = a.given ++ (h.first ∷ h.more);
        given = subst (λ i. trees R c (keep_arguments at m 0 (arguments sites i es) rest) ≡ fine (a.given ++ (h.first ∷ h.more))) e (a.chain (h.first ∷ h.more) h.given);
        trees_same = a.trees_kept _ (h.first ∷ h.more) h.tree;
        last = λ u. last_behind u a.given h.first h.more ∙ h.type h.first.ctype;
        types = a.types ∙ ap (λ i. types_of (kept_of_arguments sites i es)) e;
      }

  -- ## Direct calls

  module _ (plain : AreUnreserved env.names) (alike : MeanAlike env.names w.names) where
    pub direct_goes : (d : Expr) → IsName d → (at : ℕ) (es : Exprs) → AllGo p sites env w es → (b b' : Before) (k : ℕ) (wanted : Bool) (f : ℕ) (t : CType) (ps : CTypes) (gs : List TypedExpression) → AllNamed sites (suc (b.sites + calls d)) es → AllTabled p sites L (after_designator b d) es
        → AreFound w.names k (kept sites b.sites true d ++ ((arguments_kept (b.sites + calls d) 0 ps ++ result_kept (b.sites + calls d) wanted t) ++ kept_of_arguments sites (suc (b.sites + calls d)) es)) → Near b b' → callee L at d (value L b d) ≡ fine (record { designator = direct f; returns = t; parameters = ps }) → is_marked p (Direct f) ≡ true
        → called_type p f ≡ Some (function t ps) → IsResult t → trees L (after_designator b d) es ≡ fine gs → length gs ≡ count ps → all_fit ps gs ≡ true → (b.sites + calls d) + suc (calls_of_all es) ≤ 10000
        → MarkedGoes p env w b' k wanted (types_of (kept sites b.sites true d ++ ((arguments_kept (b.sites + calls d) 0 ps ++ result_kept (b.sites + calls d) wanted t) ++ kept_of_arguments sites (suc (b.sites + calls d)) es))) t (typed.call t (b.sites + calls d) f (passed ps gs))
        (marked_call at (b.sites + calls d) wanted (record { pointer_type = None; returns = t; parameters = ps }) (expr sites b.sites true d) (arguments sites (suc (b.sites + calls d)) es))
    direct_goes (a_name place y) name at es l b b' k wanted f t ps gs n tabled found r callee_fine marked types result given long fit within =
        let m : ℕ = b.sites + 0 in
        let xs : List Temporary = arguments_kept m 0 ps in
        let rs : List Temporary = result_kept m wanted t in
        let ys : List Temporary = kept_of_arguments sites (suc m) es in
        let K : Bool = is_kept wanted t in
        let T : CType = with_null_calls.marked_type K t in
        let b2 : Before = after_designator b (a_name place y) in
        let first : AreFound w.names k (xs ++ rs) = found_first w.names k (xs ++ rs) ys found in
        let fr : AreFound w.names (k + length (list_of ps)) rs = subst (λ ts. AreFound w.names (k + length ts) rs) (types_of_arguments m 0 ps) (found_rest w.names k xs rs first) in
        let near : NearBy 3 b2 b' = record { sites = (let q = r.sites in omega (arith, q)); strings = r.strings ∙ sym (append-nil b.strings); cells = (let q = r.cells in omega (arith, q)) } in
        let e : b2.sites ≡ suc m = omega arith in
        let h = join b2 b' at m k (k + length (types_of (xs ++ rs))) wanted t ps es gs (a_name place y) (direct f) l e n tabled (found_first w.names k xs rs first) fr (found_rest w.names k (xs ++ rs) ys found) near given fit long (omega (arith, within)) result refl (λ c. fine_leads _ _ _ (named_callee_leads env w plain alike at place y) callee_fine) (λ site vs. refl) in
        let both_types : types_of (xs ++ rs) ≡ list_of ps ++ with_null_calls.of_result wanted t = types_both xs rs ∙ ap₂ (λ us vs. us ++ vs) (types_of_arguments m 0 ps) (types_of_result m wanted t) in
        let parameters : with_null_calls.parameters_where (called_type p f) ≡ list_of ps = ap with_null_calls.parameters_where types in
        let direct_types : with_null_calls.of_direct p wanted t f ≡ types_of (xs ++ rs) =
        if_true (is_marked p (Direct f)) (with_null_calls.parameters_where (called_type p f) ++ with_null_calls.of_result wanted t) [] marked ∙ (ap (λ us. us ++ with_null_calls.of_result wanted t) parameters ∙ sym both_types) in
        record {
          made = typed.comma T (trees_of h.members);
          tree = comma_made R b' at (keep_arguments at m 0 (arguments sites (suc m) es) (more_exprs (null_call at pre_name m) (call_and_post at m K (call at (a_name place y) (kept_arguments at m 0 (arguments sites (suc m) es)))))) h.members T h.given (h.last void);
          types = ap₂ (λ us vs. us ++ vs) direct_types h.types ∙ sym (types_both (xs ++ rs) ys);
          same =
              ap (typed.comma T) h.trees_same
              ∙ (ap₂ (λ us vs. typed.comma T (with_null_calls.marked_members p m wanted t k us (with_null_calls.arguments p (k + length vs) (passed ps gs)) (λ ws. typed.call t 0 f ws))) (sym parameters) (sym direct_types)
              ∙ sym (if_true (is_marked p (Direct f)) (with_null_calls.marked_direct p m wanted t f k (with_null_calls.arguments p (k + length (with_null_calls.of_direct p wanted t f)) (passed ps gs))) (typed.call t 0 f (with_null_calls.arguments p k (passed ps gs))) marked));
        }
    direct_goes d h at es l b b' k wanted f t ps gs n tabled found r callee_fine marked types result given long fit within = absurd h

    -- ## Calls through a pointer

    pub through_goes : (at : ℕ) (d : Expr) (es : Exprs) → Goes p sites env w d → AllGo p sites env w es → (b b' : Before) (k : ℕ) (wanted : Bool) (g : TypedExpression) (t : CType) (ps : CTypes) (gs : List TypedExpression) → AreNamed sites b.sites d → AllNamed sites (suc (b.sites + calls d)) es → AreTabled p sites L b d
        → AllTabled p sites L (after_designator b d) es → AreFound w.names k (kept sites b.sites true d ++ ((record { name = designator_name (b.sites + calls d); ctype = type_of (tree_of g) } ∷ (arguments_kept (b.sites + calls d) 0 ps ++ result_kept (b.sites + calls d) wanted t)) ++ kept_of_arguments sites (suc (b.sites + calls d)) es)) → Near b b'
        → value L b d ≡ fine g → g.ctype ≡ pointer (function t ps) → is_marked p (Through (type_of (tree_of g))) ≡ true → type_of (tree_of g) ≡ pointer (function t ps) → IsResult t → trees L (after_designator b d) es ≡ fine gs → length gs ≡ count ps → all_fit ps gs ≡ true → (b.sites + calls d) + suc (calls_of_all es) ≤ 10000
        → MarkedGoes p env w b' k wanted (types_of (kept sites b.sites true d ++ ((record { name = designator_name (b.sites + calls d); ctype = type_of (tree_of g) } ∷ (arguments_kept (b.sites + calls d) 0 ps ++ result_kept (b.sites + calls d) wanted t)) ++ kept_of_arguments sites (suc (b.sites + calls d)) es))) t
        (typed.call_through t (b.sites + calls d) (tree_of g) (passed ps gs)) (marked_call at (b.sites + calls d) wanted (record { pointer_type = Some (type_of (tree_of g)); returns = t; parameters = ps }) (expr sites b.sites true d) (arguments sites (suc (b.sites + calls d)) es))
    through_goes at d es l la b b' k wanted g t ps gs n na td ta found r v pointed marked typ result given long fit within =
        let m : ℕ = b.sites + calls d in
        let F : CType = pointer (function t ps) in
        let name : Name = designator_name m in
        let ds : List Temporary = kept sites b.sites true d in
        let xs : List Temporary = arguments_kept m 0 ps in
        let rs : List Temporary = result_kept m wanted t in
        let zs : List Temporary = record { name = name; ctype = type_of (tree_of g) } ∷ (xs ++ rs) in
        let ys : List Temporary = kept_of_arguments sites (suc m) es in
        let K : Bool = is_kept wanted t in
        let T : CType = with_null_calls.marked_type K t in
        let d1 : Expr = expr sites b.sites true d in
        let es1 : Exprs = arguments sites (suc m) es in
        let b1 : Before = after b' (a_name at name) in
        let b2 : Before = after_designator b d in
        let c : Before = after b' (kept_in at name d1) in
        let j : ℕ = k + length (types_of ds) in
        let fz : AreFound w.names j (zs ++ ys) = found_rest w.names k ds (zs ++ ys) found in
        let fzz : AreFound w.names j zs = found_first w.names j zs ys fz in
        let temporary : IsTemporary w name j F = subst (λ u. IsTemporary w name j u) typ fzz.0 in
        let fr : AreFound w.names (suc j + length (list_of ps)) rs = subst (λ ts. AreFound w.names (suc j + length ts) rs) (types_of_arguments m 0 ps) (found_rest w.names (suc j) xs rs fzz.1) in
        let near1 : Near b b1 = record { sites = (let q = r.sites in omega (arith, q)); strings = append-nil b'.strings ∙ r.strings; cells = (let q = r.cells in omega (arith, q)) } in
        let counted = counts_stay sites b.sites true d n in
        let near : NearBy 3 b2 c = record { sites = (let q = r.sites in let u = counted.calls_most in omega (arith, q, u)); strings = ap₂ (λ u v. u ++ v) r.strings counted.strings_same; cells = ap₂ (λ c ws. c + string_cells ws) r.cells counted.strings_same } in
        let f = follows_fine p k (types_of ds) (value L b d) (value R b1 d1) g (value_goes p sites env w d l.wanted b b1 k n td (found_first w.names k ds (zs ++ ys) found) near1) v in
        let x : typed.Expr = f.0 in
        let g1 : TypedExpression = remade g x in
        let o = operand p k (types_of ds) g x f.2 in
        let fitting : fits F g1 ≡ true = or_right (is_null g1) (same_type F g.ctype) (ap (same_type F) pointed ∙ type_itself F) in
        let itself : assigned F g1 ≡ g1 = not_null (is_null g) refl v pointed x in
        let kept_one : TypedExpression = typed_value F (typed.assign F (typed.variable F false j) (tree_of g1)) not_constant in
        let set : tree R b' (kept_in at name d1) ≡ fine kept_one = temporaries_are_set env w b' at name j F d1 g1 tt temporary f.1 fitting ∙ ap (λ z. fine (typed_value F (typed.assign F (typed.variable F false j) (tree_of z)) not_constant)) itself in
        let one : value R b' (kept_in at name d1) ≡ fine kept_one = ap (value_at R at) set in
        let e : b2.sites ≡ suc m = omega arith in
        let h = join b2 c at m (suc j) (j + length (types_of zs)) wanted t ps es gs (a_name at name) (through (typed.load F (typed.variable F false j))) la e na ta (found_first w.names (suc j) xs rs fzz.1) fr (found_rest w.names j zs ys fz) near given fit long (omega (arith, within)) result refl (λ c. kept_callee at name j t ps c temporary) (λ site vs. refl) in
        let both_types : types_of zs ≡ F ∷ (list_of ps ++ with_null_calls.of_result wanted t) = ap₂ (λ u us. u ∷ us) typ (types_both xs rs ∙ ap₂ (λ us vs. us ++ vs) (types_of_arguments m 0 ps) (types_of_result m wanted t)) in
        let through_types : with_null_calls.of_through p wanted t (type_of (tree_of g)) ≡ types_of zs =
        if_true (is_marked p (Through (type_of (tree_of g)))) (type_of (tree_of g) ∷ (with_null_calls.parameters_behind (type_of (tree_of g)) ++ with_null_calls.of_result wanted t)) [] marked ∙ (ap (λ u. u ∷ (with_null_calls.parameters_behind u ++ with_null_calls.of_result wanted t)) typ ∙ sym both_types) in
        let typed_one : type_of (tree_of g1) ≡ g1.ctype = subst (Holds ValueTyped) f.1 (value_typed d1 R b1) in
        let tree_type : type_of (with_null_calls.expr p k true (tree_of g)) ≡ F = ap type_of (sym o.tree) ∙ (type_same (tree_of g1) ∙ (typed_one ∙ pointed)) in
        let through_one : CType → typed.Expr → List CType → List CType → List CType → typed.Expr = (λ u a ts us vs. typed.comma T (typed.more_exprs (with_null_calls.keep u (k + length ts) a) (with_null_calls.marked_members p m wanted t (suc (k + length ts)) us (with_null_calls.arguments p (k + length ts + length vs) (passed ps gs)) (λ ws. typed.call_through t 0 (with_null_calls.kept_value u (k + length ts)) ws)))) in
        record {
          made = typed.comma T (trees_of (kept_one ∷ h.members));
          tree = comma_made R b' at (more_exprs (kept_in at name d1) (keep_arguments at m 0 es1 (more_exprs (null_call at pre_name m) (call_and_post at m K (call at (a_name at name) (kept_arguments at m 0 es1)))))) (kept_one ∷ h.members) T (ap₂ (λ v ws. both v ws (λ g gs. fine (g ∷ gs))) one h.given) (h.last F);
          types = ap₂ (λ us vs. us ++ vs) o.types (ap₂ (λ us vs. us ++ vs) through_types h.types ∙ sym (types_both zs ys)) ∙ sym (types_both ds (zs ++ ys));
          same =
              ap₂ (λ a es. typed.comma T (typed.more_exprs (with_null_calls.keep F j a) es)) o.tree h.trees_same
              ∙ (ap₂ (λ u vs. through_one u (with_null_calls.expr p k true (tree_of g)) (types_of ds) (with_null_calls.parameters_behind u) vs) (sym tree_type) (sym through_types)
              ∙ (ap (λ ts. through_one (type_of (with_null_calls.expr p k true (tree_of g))) (with_null_calls.expr p k true (tree_of g)) ts (with_null_calls.parameters_behind (type_of (with_null_calls.expr p k true (tree_of g)))) (with_null_calls.of_through p wanted t (type_of (tree_of g)))) (sym o.types)
              ∙ sym (if_true (is_marked p (Through (type_of (tree_of g)))) (with_null_calls.marked_through p m wanted t (k + length (with_null_calls.kept p true (tree_of g))) (with_null_calls.expr p k true (tree_of g)) (with_null_calls.arguments p (k + length (with_null_calls.kept p true (tree_of g)) + length (with_null_calls.of_through p wanted t (type_of (tree_of g)))) (passed ps gs))) (typed.call_through t 0 (with_null_calls.expr p k true (tree_of g)) (with_null_calls.arguments p (k + length (with_null_calls.kept p true (tree_of g))) (passed ps gs))) marked)));
        }
      where
        not_null : (z : Bool) → is_null g ≡ z → value L b d ≡ fine g → g.ctype ≡ pointer (function t ps) → (g1 : typed.Expr) → assigned (pointer (function t ps)) (remade g g1) ≡ remade g g1
        not_null true q v e y = absurd (subst IsNullType e (nulls_have_their_types L b d g v q))
        not_null false q v e y = if_false (is_null g) _ _ q

        kept_callee : (at : ℕ) (name : Name) (j : ℕ) (t : CType) (ps : CTypes) (c : Before) → IsTemporary w name j (pointer (function t ps)) → callee R at (a_name at name) (value R c (a_name at name)) ≡ fine (record { designator = through (typed.load (pointer (function t ps)) (typed.variable (pointer (function t ps)) false j)); returns = t; parameters = ps })
        kept_callee at name j t ps c h =
            ap (callee_bound R at at name (value R c (a_name at name))) h.1 ∙ (ap (callee_meant R at at name (value R c (a_name at name))) h.2 ∙ ap (λ z. on z (callee_by_value at)) (temporaries_are_read env w c at name j (pointer (function t ps)) tt h))
