-- The calls of declarations and statements that are fine stand at their sites.
use Rattle.std.proofs.Common.{unwrap_or, ◌≡◌, ℕ, ◌+◌, Bool, true, false, cond, List, [], ◌∷◌, ◌++◌, Option, Some, None, refl, ap, sym, subst, ◌∙◌}
use Rattle.std.proofs.lemmas.Bool.{cond_both}
use Rattle.std.specs.Prelude.{bytes_eq}
use Rattle.c_tree.specs.declared.value.IntType.{IntType}
use Rattle.c_tree.specs.Tree.{CType, Program}
use Rattle.c_tree.specs.Tree as typed
use Rattle.c_tree.specs.Functions.{called_type}
use Rattle.c_tree.specs.Operands.{promoted}
use Rattle.c_meaning.specs.Mentions.{Mention, mentions_of_program}
use Rattle.c_syntax.specs.Tree.{Ident, Spec, Declarator, MaybeInit, Parts, no_parts, more_parts, Decl, decl, Expr, Maybe, absent, there, First, first_absent, first_expr, first_decl}
use Rattle.c_syntax.specs.Tree.{Stmt, block, empty, evaluate, only_if, if_else, while_loop, do_loop, for_loop, switch_on, break_off, continue_on, return_from}
use Rattle.c_syntax.specs.Tree.{BlockItems, no_block_items, block_decl, block_stmt, Stmts, no_stmts, more_stmts, Groups, no_groups, more_groups}
use Rattle.c_rules.specs.Checked.{Checked, fine, faulty, on, both, beside, Met, gives}
use Rattle.c_rules.specs.Names.{Name, is_added}
use Rattle.c_rules.specs.Types.{is_scalar, is_void}
use Rattle.c_rules.specs.Scopes.{Env, Binding, Meaning, a_local, a_function, unknown, inside, with_name, lookup, meaning_or_unknown, Before}
use Rattle.c_rules.specs.Counts.{calls, calls_of_maybe, after, after_maybe}
use Rattle.c_rules.specs.Tags.{tags_of_spec, tags_of_expr, tags_of_maybe, tags_of_declarator, tags_of_parts, tags_of_decl, tags_of_first, tags_of_labels, tags_of_stmt, tags_of_block, tags_of_stmts, tags_of_groups}
use Rattle.c_rules.specs.TypedExpression.{TypedExpression, tree_of}
use Rattle.c_rules.specs.Conversions.{Kind, an_integer, kind_of, as_if_assigned, condition}
use Rattle.c_rules.specs.PrimaryExpressions.{function_number}
use Rattle.c_rules.specs.Declarators.{name_of, new_name, place_or}
use Rattle.c_rules.specs.Expressions.{value, type_declared}
use Rattle.c_rules.specs.Initialisers.{calls_of_maybe_init, initialised_local, stores_from}
use Rattle.c_rules.specs.Objects.{Object, object_declared}
use Rattle.c_rules.specs.Variables.{Next, number_in, past_names, names_of_decl, names_of_first, names_of_stmt, names_of_stmts, calls_of_parts, calls_of_decl, calls_of_first, calls_of_stmt, calls_of_block, calls_of_stmts, calls_of_groups}
use Rattle.c_rules.specs.Blocks.{within_local, behind_named, behind_part, past_part, behind_parts, behind_decl, behind_first, after_part, after_decl, after_first, after_stmt, after_stmts, StatementTree, bare, with_tree, joined, one_more, alone, some_more, laid_variable, local_of, local_named, local_part, local_parts, local_decl, is_given, local}
use Rattle.c_rules.specs.Statements.{Around, in_loop, in_switch, condition_at, test_of, step_of, first_of, for_of, switched_kind, switched, label_type, labels_of, Labelled, labelled, switch_of, returned, stmt, items_of_block, stmts, groups_of_switch}
use Rattle.null_calls_laws.specs.MarkedCalls.{sites_of}
use Rattle.null_calls_laws.specs.Temporaries.{Temporary}
use Rattle.null_calls_laws.specs.InstrumentedExpressions.{kept, kept_of_maybe}
use Rattle.null_calls_laws.specs.InstrumentedStatements.{kept_of_maybe_init, kept_of_parts, kept_of_decl, kept_of_first, kept_of_stmt, kept_of_block, kept_of_stmts, kept_of_groups}
use Rattle.null_calls_laws.specs.CountedStatements.{MaybeInitNamed, PartsNamed, DeclNamed, FirstNamed, MaybeNamed, StmtNamed, BlockNamed, StmtsNamed, GroupsNamed}
use Rattle.null_calls_laws.specs.Counts.{AreNamed}
use Rattle.null_calls_laws.specs.Tabled.{AreTabled}
use Rattle.null_calls_laws.specs.Initialisers.{MaybeInitTabled}
use Rattle.null_calls_laws.specs.DeclarationsBeside.{NamedTabled, PartsTabled, DeclTabled, FirstTabled}
use Rattle.null_calls_laws.specs.StatementsBeside.{MaybeTabled, StmtTabled, BlockTabled, StmtsTabled, GroupsTabled}
use Rattle.c_rules_laws.proofs.Holding.{fine_same, Holds, holds_map, on_holds, both_hold, all_three_hold, Any, anything, demand_holds, alone_holds, held}
use Rattle.null_calls_laws.specs.CallsIn.{calls_in_inits, calls_in, calls_in_maybe, calls_in_stmt, calls_in_stmts, calls_in_groups, all_calls}
use Rattle.c_rules_laws.specs.ClosedTypes.{MeaningHas}
use Rattle.null_calls_laws.specs.WrittenTypes.{Written}
use Rattle.null_calls_laws.specs.AbstractCasts.{MaybeInitNamesNoType, PartsNameNoType, DeclNamesNoType, FirstNamesNoType, MaybeNamesNoType, NamesNoType, StmtNamesNoType, BlockNamesNoType, StmtsNameNoType, GroupsNameNoType}
use Rattle.null_calls_laws.specs.Scopes.{IsWrittenScope, AreTemporaries}
use Rattle.null_calls_laws.proofs.FileWritten.{scope_named}
use Rattle.null_calls_laws.proofs.Declared.{part_tags, AreKnownTags, first_tags, rest_tags, HasTags, ObjectWritten, object_written}
use Rattle.null_calls_laws.proofs.Kept.{none_kept, good_both, kept_good}
use Rattle.null_calls_laws.proofs.Tables.{Table as CallTable, InTable, in_first, in_rest, body_in_table}
use Rattle.null_calls_laws.proofs.CallsOfExpressions.{Tells, Passes, T, value_passes}
use Rattle.null_calls_laws.proofs.CallsOfInitialisers.{CellsTell, MaybeInitPasses, local_passes}
use Rattle.c_rules_laws.proofs.GatheredOfTypedExpressions.{Gathers, stores_gathered, appended_gathered, as_if_gathered, converted_gathered}
use Rattle.c_meaning.specs.CallGraph.{callee_at}
use Rattle.null_calls_laws.specs.Bodies.{BodiesAreTabled}

-- ## Scopes

abbrev pub NoFunction : Meaning → Type 0
NoFunction (a_function t d) = ⊥
NoFunction m = Unit {0}

module _ (p : Program) (enums tags stood : List Name) where
  abbrev W : CType → Type 0
  W = Written enums tags stood

  abbrev Scope : Env → Type 0
  Scope = IsWrittenScope p enums tags stood

  -- behind a name that is no function's
  pub named_scope : (env : Env) (x : Name) (m : Meaning) → Scope env → MeaningHas W m → NoFunction m → Scope (with_name env x m)
  named_scope env x m w h n = record {
    plain = w.plain;
    runs = w.runs;
    enums_are = w.enums_are;
    tags_are = w.tags_are;
    has = scope_named W env x m w.has h;
    functions = λ y b t d f e q r. function_by (bytes_eq x y) y b t d f e q r;
  }
    where
      function_by : (k : Bool) (y : Name) (b : Binding) (t : CType) (d : Bool) (f : ℕ) → cond k (Some (record { name = x; depth = env.depth; means = m })) (lookup env.names y) ≡ Some b → b.means ≡ a_function t d → function_number env y ≡ Some f → called_type p f ≡ Some t
      function_by true y b t d f e q r = absurd (subst NoFunction (ap (λ o. (unwrap_or o b).means) e ∙ q) n)
      function_by false y b t d f e q r = w.functions y b t d f e q r

  pub inside_scope : (env : Env) → Scope env → Scope (inside env)
  inside_scope env w = record { plain = w.plain; runs = w.runs; enums_are = w.enums_are; tags_are = w.tags_are; has = record { names = w.has.names; members = w.has.members }; functions = w.functions }

  scope_tags : (env : Env) → Scope env → HasTags enums tags stood env
  scope_tags env w = record { enums_are = w.enums_are; tags_are = w.tags_are }

  abbrev ObjectGood : Object → Type 0
  ObjectGood = ObjectWritten enums tags stood

  object_good : (part : Object → CType) → ((o : Object) → ObjectGood o → W (part o)) → (env : Env) (k : ℕ) (x : Ident) (r : Checked Object) (n : Checked Met) → Scope env → Holds ObjectGood r → Scope (with_name env x.name (meaning_or_unknown (on r (λ o. gives n (λ _. a_local k (part o) o.whole)))))
  object_good part f env k x (fine o) (fine a) w h = named_scope env x.name (a_local k (part o) o.whole) w (f o h) tt
  object_good part f env k x (fine o) (faulty g gs) w h = named_scope env x.name (unknown g gs) w tt tt
  object_good part f env k x (faulty g gs) n w h = named_scope env x.name (unknown g gs) w tt tt

  named_behind : (env : Env) → Scope env → (next : Next) (at : ℕ) (s : Spec) (d : Declarator) (m : MaybeInit) (o : Option Ident) → AreKnownTags enums tags stood (tags_of_spec s ++ tags_of_declarator d) → Scope (behind_named env next at s d m o)
  named_behind env w next at s d m None k = w
  named_behind env w next at s d m (Some x) k = object_good (λ o. o.whole) (λ _ h. h.1) env (number_in next x.name) x (object_declared env at s d x m) (new_name env x) w (object_written enums tags stood env (scope_tags env w) at s d x m k)

  parts_behind : (ps : Parts) (env : Env) → Scope env → (next : Next) (at : ℕ) (s : Spec) → AreKnownTags enums tags stood (tags_of_spec s ++ tags_of_parts ps) → Scope (behind_parts env next at s ps)
  parts_behind no_parts env w next at s k = w
  parts_behind (more_parts d m ps) env w next at s k = parts_behind ps (behind_part env next at s d m) (named_behind env w next at s d m (name_of d) (part_tags enums tags stood s d m ps k).0) (past_part next d) at s (part_tags enums tags stood s d m ps k).1

  decl_behind : (d : Decl) (env : Env) → Scope env → (next : Next) → AreKnownTags enums tags stood (tags_of_decl false d) → Scope (behind_decl env next d)
  decl_behind (decl at class s ps) env w next k = parts_behind ps env w next at s k

  first_behind : (x : First) (env : Env) → Scope env → (next : Next) → AreKnownTags enums tags stood (tags_of_first false x) → Scope (behind_first env next x)
  first_behind (first_decl d) env w next k = decl_behind d env w next k
  first_behind x env w next k = w

  -- ## Declarations

  abbrev Table : CallTable
  Table = T p enums tags stood

  abbrev Good : (lo n : ℕ) → List Temporary → Type 0
  Good = AreTemporaries enums tags stood

  abbrev Known : List Name → Type 0
  Known = AreKnownTags enums tags stood

  -- what two parts pass, one behind the other
  two_pass : {A B C D : Type 0} {lo m n : ℕ} (xs ys : List Temporary) → A × B × Good lo m xs → C × D × Good (lo + m) n ys → (A × C) × (B × D) × Good lo (m + n) (xs ++ ys)
  two_pass xs ys h k = ((h.0, k.0), (h.1, k.1), good_both enums tags stood xs ys h.2 k.2)

  -- where the calls of two parts stand in the table, both facts hold
  two_told : {X Y Z : Type 0} (xs ys : List Mention) → (X → Y → Z) → (InTable Table xs → X) → (InTable Table ys → Y) → InTable Table (xs ++ ys) → Z
  two_told xs ys f h k t = f (h (in_first Table xs ys t)) (k (in_rest Table xs ys t))

  -- where the calls of a tree stand in the table, the fact holds
  abbrev StmtTells : Type 0 → StatementTree typed.Stmt → Type 0
  StmtTells X q = InTable Table (calls_in_stmt q.tree) → X

  abbrev StmtsTell : Type 0 → StatementTree typed.Stmts → Type 0
  StmtsTell X q = InTable Table (calls_in_stmts q.tree) → X

  abbrev NamedPasses : Env → Before → Next → (at : ℕ) → Spec → Declarator → MaybeInit → Option Ident → Type 0
  NamedPasses env b next at s d m o = NamedTabled p (sites_of p) env b next at s d m o × MaybeInitNamed (sites_of p) b.sites m × Good b.sites (calls_of_maybe_init m) (kept_of_maybe_init (sites_of p) b.sites m)

  abbrev PartsPass : Env → Before → Next → (at : ℕ) → Spec → Parts → Type 0
  PartsPass env b next at s ps = PartsTabled p (sites_of p) env b next at s ps × PartsNamed (sites_of p) b.sites ps × Good b.sites (calls_of_parts ps) (kept_of_parts (sites_of p) b.sites ps)

  laid_tells : (X : Type 0) (x : Name) (k : ℕ) (t : CType) (gs : List TypedExpression) → CellsTell p enums tags stood X gs → StmtTells X (laid_variable x k t gs)
  laid_tells X x k t gs h =
      let told : InTable Table (calls_in_inits (stores_from 0 gs)) → X = λ z. h.2 (subst (InTable Table) (stores_gathered all_calls 0 gs h.0 h.1) z) in
      cond_both {A = StatementTree typed.Stmt} (is_added x) (record { tree = typed.declare k (stores_from 0 gs); plain = []; added = t ∷ [] }) (record { tree = typed.declare k (stores_from 0 gs); plain = t ∷ []; added = [] }) (StmtTells X) (λ _. told) (λ _. told)

  named_passes : (env : Env) → Scope env → (b : Before) (next : Next) (at : ℕ) (s : Spec) (d : Declarator) (m : MaybeInit) (o : Option Ident) → Known (tags_of_spec s ++ tags_of_declarator d) → MaybeInitNamesNoType m → Holds (StmtTells (NamedPasses env b next at s d m o)) (local_named env b next at s d m o)
  named_passes env w b next at s d m None k l = tt
  named_passes env w b next at s d m (Some x) k l =
      alone_holds (StmtTells (NamedPasses env b next at s d m (Some x))) (is_given env x.name (type_declared env at s d)) 3 (place_or at d) (local env b next x m (object_declared env at s d x m))
      (by_object (object_declared env at s d x m) refl)
    where
      by_object : (q : Checked Object) → object_declared env at s d x m ≡ q → Holds (StmtTells (NamedPasses env b next at s d m (Some x))) (both (new_name env x) (on q (local_of (within_local env next x (object_declared env at s d x m)) b next x m)) (λ _ p. fine p))
      by_object (fine o) e =
          let inner : Env = within_local env next x (object_declared env at s d x m) in
          let z : Scope inner = object_good (λ o. o.seen) (λ _ h. h.0) env (number_in next x.name) x (object_declared env at s d x m) (new_name env x) w (object_written enums tags stood env (scope_tags env w) at s d x m k) in
          both_hold Any (StmtTells (NamedPasses env b next at s d m (Some x))) (StmtTells (NamedPasses env b next at s d m (Some x))) (new_name env x) (local_of inner b next x m o) (λ _ p. fine p) (anything (new_name env x))
          (on_holds (CellsTell p enums tags stood (MaybeInitPasses p enums tags stood inner b o.whole m)) (StmtTells (NamedPasses env b next at s d m (Some x))) (initialised_local inner b o.whole m) _ (local_passes p enums tags stood m inner z b o.whole l)
          (λ gs h. laid_tells (NamedPasses env b next at s d m (Some x)) x.name (number_in next x.name) o.whole gs
          (h.0, h.1, λ t. (let y = h.2 t in ((λ q f. subst (λ v. MaybeInitTabled p (sites_of p) inner b v.whole m) (fine_same o q (sym e ∙ f)) y.0), y.1, y.2)))))
          (λ _ c _ v. v)
      by_object (faulty f fs) e = both_hold Any (StmtTells (NamedPasses env b next at s d m (Some x))) (StmtTells (NamedPasses env b next at s d m (Some x))) (new_name env x) (faulty f fs) (λ _ p. fine p) (anything (new_name env x)) tt (λ _ c _ v. v)

  parts_pass : (ps : Parts) (env : Env) → Scope env → (b : Before) (next : Next) (at : ℕ) (s : Spec) → Known (tags_of_spec s ++ tags_of_parts ps) → PartsNameNoType ps → Holds (StmtsTell (PartsPass env b next at s ps)) (local_parts env b next at s ps)
  parts_pass no_parts env w b next at s k l = λ _. (tt, tt, none_kept enums tags stood)
  parts_pass (more_parts d m ps) env w b next at s k l =
      let inner : Env = behind_part env next at s d m in
      let b1 : Before = after_part env b at s d m in
      both_hold (StmtTells (NamedPasses env b next at s d m (name_of d))) (StmtsTell (PartsPass inner b1 (past_part next d) at s ps)) (StmtsTell (PartsPass env b next at s (more_parts d m ps))) (local_part env b next at s d m) (local_parts inner b1 (past_part next d) at s ps) (λ p q. fine (one_more p q))
      (named_passes env w b next at s d m (name_of d) (part_tags enums tags stood s d m ps k).0 l.0) (parts_pass ps inner (named_behind env w next at s d m (name_of d) (part_tags enums tags stood s d m ps k).0) b1 (past_part next d) at s (part_tags enums tags stood s d m ps k).1 l.1)
      (λ q r. two_told (calls_in_stmt q.tree) (calls_in_stmts r.tree) (two_pass (kept_of_maybe_init (sites_of p) b.sites m) (kept_of_parts (sites_of p) (b.sites + calls_of_maybe_init m) ps)))

  abbrev DeclPasses : Env → Before → Next → Decl → Type 0
  DeclPasses env b next d = DeclTabled p (sites_of p) env b next d × DeclNamed (sites_of p) b.sites d × Good b.sites (calls_of_decl d) (kept_of_decl (sites_of p) b.sites d)

  decl_passes : (d : Decl) (env : Env) → Scope env → (b : Before) (next : Next) → Known (tags_of_decl false d) → DeclNamesNoType d → Holds (StmtsTell (DeclPasses env b next d)) (local_decl env b next d)
  decl_passes (decl at class s ps) env w b next k l = parts_pass ps env w b next at s k l.1

  -- ## Expressions of statements

  abbrev ExprFits : Bool → Env → Before → Expr → Type 0
  ExprFits wanted env b x = AreTabled p (sites_of p) env b x × AreNamed (sites_of p) b.sites x × Good b.sites (calls x) (kept (sites_of p) b.sites wanted x)

  fits : (wanted : Bool) (env : Env) (b : Before) (x : Expr) → Passes p enums tags stood env b x → ExprFits wanted env b x
  fits wanted env b x h = (h.0, h.1, kept_good enums tags stood (sites_of p) x b.sites wanted h.2)

  abbrev TreeTells : Type 0 → typed.Expr → Type 0
  TreeTells X e = InTable Table (calls_in e) → X

  value_fits : (wanted : Bool) (env : Env) → Scope env → (b : Before) (x : Expr) → NamesNoType x → Holds (Tells Table (ExprFits wanted env b x)) (value env b x)
  value_fits wanted env w b x l = holds_map (Tells Table (Passes p enums tags stood env b x)) (Tells Table (ExprFits wanted env b x)) (λ g h. (h.0, λ t. fits wanted env b x (h.1 t))) (value env b x) (value_passes p enums tags stood x env w b l)

  condition_fits : (env : Env) → Scope env → (b : Before) (at : ℕ) (x : Expr) → NamesNoType x → Holds (TreeTells (ExprFits true env b x)) (condition_at at (value env b x))
  condition_fits env w b at x l = on_holds (Tells Table (ExprFits true env b x)) (TreeTells (ExprFits true env b x)) (value env b x) (condition at) (value_fits true env w b x l) (λ g h. demand_holds (TreeTells (ExprFits true env b x)) (is_scalar g.ctype) 3 at (tree_of g) (λ _. h.1))

  abbrev MaybeFits : Bool → Env → Before → Maybe → Type 0
  MaybeFits wanted env b m = MaybeTabled p (sites_of p) env b m × MaybeNamed (sites_of p) b.sites m × Good b.sites (calls_of_maybe m) (kept_of_maybe (sites_of p) b.sites wanted m)

  abbrev MaybeTells : Type 0 → typed.Maybe → Type 0
  MaybeTells X m = InTable Table (calls_in_maybe m) → X

  test_fits : (m : Maybe) (env : Env) → Scope env → (b : Before) (at : ℕ) → MaybeNamesNoType m → Holds (MaybeTells (MaybeFits true env b m)) (test_of env b at m)
  test_fits absent env w b at l = λ _. (tt, tt, none_kept enums tags stood)
  test_fits (there x) env w b at l = on_holds (TreeTells (ExprFits true env b x)) (MaybeTells (MaybeFits true env b (there x))) (condition_at at (value env b x)) (λ y. fine (typed.there y)) (condition_fits env w b at x l) (λ y h. h)

  step_fits : (m : Maybe) (env : Env) → Scope env → (b : Before) → MaybeNamesNoType m → Holds (MaybeTells (MaybeFits false env b m)) (step_of env b m)
  step_fits absent env w b l = λ _. (tt, tt, none_kept enums tags stood)
  step_fits (there x) env w b l = on_holds (Tells Table (ExprFits false env b x)) (MaybeTells (MaybeFits false env b (there x))) (value env b x) (λ g. fine (typed.there (tree_of g))) (value_fits false env w b x l) (λ g h. h.1)

  abbrev TypedTells : Type 0 → typed.Stmt → Type 0
  TypedTells X s = InTable Table (calls_in_stmt s) → X

  returned_fits : (m : Maybe) (env : Env) → Scope env → (b : Before) (at : ℕ) (t : CType) → MaybeNamesNoType m → Holds (TypedTells (MaybeFits true env b m)) (returned env b at t m)
  returned_fits absent env w b at t l = demand_holds (TypedTells (MaybeFits true env b absent)) (is_void t) 3 at typed.return_void (λ _ _. (tt, tt, none_kept enums tags stood))
  returned_fits (there x) env w b at t l =
      on_holds (Tells Table (ExprFits true env b x)) (TypedTells (MaybeFits true env b (there x))) (on (value env b x) (as_if_assigned at t)) (λ g. fine (typed.return_value (tree_of g)))
      (on_holds (Tells Table (ExprFits true env b x)) (Tells Table (ExprFits true env b x)) (value env b x) (as_if_assigned at t) (value_fits true env w b x l)
      (λ g h. holds_map (Gathers all_calls (calls_in (tree_of g))) (Tells Table (ExprFits true env b x)) (λ a s. ((λ c. s.0 ∙ s.1 c), λ z. h.1 (subst (InTable Table) s.0 z))) (as_if_assigned at t g) (as_if_gathered all_calls at (calls_in (tree_of g)) t g (refl, h.0))))
      (λ g h. h.1)

  abbrev FirstPasses : Env → Before → Next → First → Type 0
  FirstPasses env b next x = FirstTabled p (sites_of p) env b next x × FirstNamed (sites_of p) b.sites x × Good b.sites (calls_of_first x) (kept_of_first (sites_of p) b.sites x)

  first_passes : (x : First) (env : Env) → Scope env → (b : Before) (next : Next) → Known (tags_of_first false x) → FirstNamesNoType x → Holds (StmtsTell (FirstPasses env b next x)) (first_of env b next x)
  first_passes first_absent env w b next k l = λ _. (tt, tt, none_kept enums tags stood)
  first_passes (first_expr x) env w b next k l =
      on_holds (Tells Table (ExprFits false env b x)) (StmtsTell (FirstPasses env b next (first_expr x))) (value env b x) (λ g. fine (alone (bare (typed.evaluate (tree_of g))))) (value_fits false env w b x l) (λ g h t. h.1 (in_first Table (calls_in (tree_of g)) [] t))
  first_passes (first_decl d) env w b next k l = decl_passes d env w b next k l

  switched_fits : (X : Type 0) (at : ℕ) (g : TypedExpression) (k : Kind) → Tells Table X g → Holds (Tells Table X) (switched_kind at g k)
  switched_fits X at g (an_integer i) h = (let s = converted_gathered all_calls (calls_in (tree_of g)) (promoted i) g (refl, h.0) in ((λ c. s.0 ∙ s.1 c), λ z. h.1 (subst (InTable Table) s.0 z)))
  switched_fits X at g k h = tt

  -- ## Statements

  abbrev pub StmtPasses : Env → Before → Next → Stmt → Type 0
  StmtPasses env b next s = StmtTabled p (sites_of p) env b next s × StmtNamed (sites_of p) b.sites s × Good b.sites (calls_of_stmt s) (kept_of_stmt (sites_of p) b.sites s)

  abbrev pub BlockPasses : Env → Before → Next → BlockItems → Type 0
  BlockPasses env b next is = BlockTabled p (sites_of p) env b next is × BlockNamed (sites_of p) b.sites is × Good b.sites (calls_of_block is) (kept_of_block (sites_of p) b.sites is)

  abbrev StmtsPass : Env → Before → Next → Stmts → Type 0
  StmtsPass env b next ss = StmtsTabled p (sites_of p) env b next ss × StmtsNamed (sites_of p) b.sites ss × Good b.sites (calls_of_stmts ss) (kept_of_stmts (sites_of p) b.sites ss)

  abbrev GroupsPass : Env → Before → Next → Groups → Type 0
  GroupsPass env b next gs = GroupsTabled p (sites_of p) env b next gs × GroupsNamed (sites_of p) b.sites gs × Good b.sites (calls_of_groups gs) (kept_of_groups (sites_of p) b.sites gs)

  abbrev GroupsTell : Type 0 → Labelled → Type 0
  GroupsTell X l = InTable Table (calls_in_groups l.groups.tree) → X

  first_known : (xs ys : List Name) → Known (xs ++ ys) → Known xs
  first_known xs ys k = first_tags enums tags stood xs ys k

  rest_known : (xs ys : List Name) → Known (xs ++ ys) → Known ys
  rest_known xs ys k = rest_tags enums tags stood xs ys k

  mutual
    stmt_passes : (s : Stmt) (env : Env) → Scope env → (a : Around) (b : Before) (next : Next) → Known (tags_of_stmt false s) → StmtNamesNoType s → Holds (StmtTells (StmtPasses env b next s)) (stmt env a b next s)
    stmt_passes (block at is) env w a b next k l =
        on_holds (StmtsTell (BlockPasses (inside env) b next is)) (StmtTells (StmtPasses env b next (block at is))) (items_of_block (inside env) a b next is) (λ q. fine (with_tree q (typed.block q.tree))) (block_passes is (inside env) (inside_scope env w) a b next k l) (λ q h. h)
    stmt_passes (empty at) env w a b next k l = λ _. (tt, tt, none_kept enums tags stood)
    stmt_passes (evaluate at x) env w a b next k l = on_holds (Tells Table (ExprFits false env b x)) (StmtTells (StmtPasses env b next (evaluate at x))) (value env b x) (λ g. fine (bare (typed.evaluate (tree_of g)))) (value_fits false env w b x l) (λ g h. h.1)
    stmt_passes (only_if at x s) env w a b next k l =
        both_hold (TreeTells (ExprFits true env b x)) (StmtTells (StmtPasses env (after b x) next s)) (StmtTells (StmtPasses env b next (only_if at x s))) (condition_at at (value env b x)) (stmt env a (after b x) next s) (λ c q. fine (with_tree q (typed.if_else c q.tree typed.empty)))
        (condition_fits env w b at x l.0) (stmt_passes s env w a (after b x) next (rest_known (tags_of_expr x) (tags_of_stmt false s) k) l.1)
        (λ c q h g. two_told (calls_in c) (calls_in_stmt q.tree ++ []) (two_pass (kept (sites_of p) b.sites true x) (kept_of_stmt (sites_of p) (b.sites + calls x) s)) h (λ t. g (in_first Table (calls_in_stmt q.tree) [] t)))
    stmt_passes (if_else at x s u) env w a b next k l =
        let later : Next = past_names next (names_of_stmt s) in
        let b2 : Before = after_stmt env (after b x) next s in
        let k1 : Known (tags_of_stmt false s ++ tags_of_stmt false u) = rest_known (tags_of_expr x) (tags_of_stmt false s ++ tags_of_stmt false u) k in
        all_three_hold (TreeTells (ExprFits true env b x)) (StmtTells (StmtPasses env (after b x) next s)) (StmtTells (StmtPasses env b2 later u)) (StmtTells (StmtPasses env b next (if_else at x s u)))
        (condition_at at (value env b x)) (stmt env a (after b x) next s) (stmt env a b2 later u) (λ c q r. fine (joined q r (typed.if_else c q.tree r.tree)))
        (condition_fits env w b at x l.0) (stmt_passes s env w a (after b x) next (first_known (tags_of_stmt false s) (tags_of_stmt false u) k1) l.1) (stmt_passes u env w a b2 later (rest_known (tags_of_stmt false s) (tags_of_stmt false u) k1) l.2)
        (λ c q r h g i t.
        (let ys : List Mention = calls_in_stmt q.tree in
        let zs : List Mention = calls_in_stmt r.tree in
        let t1 : InTable Table (ys ++ zs) = in_rest Table (calls_in c) (ys ++ zs) t in
        let x1 = h (in_first Table (calls_in c) (ys ++ zs) t) in
        let y = g (in_first Table ys zs t1) in
        let z = i (in_rest Table ys zs t1) in
        ((x1.0, y.0, z.0), (x1.1, y.1, z.1), good_both enums tags stood (kept (sites_of p) b.sites true x) (kept_of_stmt (sites_of p) (b.sites + calls x) s ++ kept_of_stmt (sites_of p) (b.sites + calls x + calls_of_stmt s) u) x1.2 (good_both enums tags stood (kept_of_stmt (sites_of p) (b.sites + calls x) s) (kept_of_stmt (sites_of p) (b.sites + calls x + calls_of_stmt s) u) y.2 z.2))))
    stmt_passes (while_loop at x s) env w a b next k l =
        both_hold (TreeTells (ExprFits true env b x)) (StmtTells (StmtPasses env (after b x) next s)) (StmtTells (StmtPasses env b next (while_loop at x s))) (condition_at at (value env b x)) (stmt env (in_loop a) (after b x) next s) (λ c q. fine (with_tree q (typed.while_loop c q.tree)))
        (condition_fits env w b at x l.0) (stmt_passes s env w (in_loop a) (after b x) next (rest_known (tags_of_expr x) (tags_of_stmt false s) k) l.1)
        (λ c q. two_told (calls_in c) (calls_in_stmt q.tree) (two_pass (kept (sites_of p) b.sites true x) (kept_of_stmt (sites_of p) (b.sites + calls x) s)))
    stmt_passes (do_loop at s x) env w a b next k l =
        let b1 : Before = after_stmt env b next s in
        both_hold (StmtTells (StmtPasses env b next s)) (TreeTells (ExprFits true env b1 x)) (StmtTells (StmtPasses env b next (do_loop at s x))) (stmt env (in_loop a) b next s) (condition_at at (value env b1 x)) (λ q c. fine (with_tree q (typed.do_loop q.tree c)))
        (stmt_passes s env w (in_loop a) b next (first_known (tags_of_stmt false s) (tags_of_expr x) k) l.0) (condition_fits env w b1 at x l.1)
        (λ q c. two_told (calls_in_stmt q.tree) (calls_in c) (two_pass (kept_of_stmt (sites_of p) b.sites s) (kept (sites_of p) (b.sites + calls_of_stmt s) true x)))
    stmt_passes (for_loop at first test step s) env w a b next k l =
        let outer : Env = inside env in
        let inner : Env = behind_first outer next first in
        let b1 : Before = after_first outer b next first in
        let b2 : Before = after_maybe b1 test in
        let b3 : Before = after_maybe b2 step in
        let later : Next = past_names next (names_of_first first) in
        let kf : Known (tags_of_first false first) = first_known (tags_of_first false first) (tags_of_maybe test ++ (tags_of_maybe step ++ tags_of_stmt false s)) k in
        let ks : Known (tags_of_stmt false s) = rest_known (tags_of_maybe step) (tags_of_stmt false s) (rest_known (tags_of_maybe test) (tags_of_maybe step ++ tags_of_stmt false s) (rest_known (tags_of_first false first) (tags_of_maybe test ++ (tags_of_maybe step ++ tags_of_stmt false s)) k)) in
        let wi : Scope inner = first_behind first outer (inside_scope env w) next kf in
        all_three_hold (StmtsTell (FirstPasses outer b next first)) (λ t. MaybeTells (MaybeFits true inner b1 test) t.first × MaybeTells (MaybeFits false inner b2 step) t.second) (StmtTells (StmtPasses inner b3 later s)) (StmtTells (StmtPasses env b next (for_loop at first test step s)))
        (first_of outer b next first) (beside (test_of inner b1 at test) (step_of inner b2 step)) (stmt inner (in_loop a) b3 later s) (λ q tests r. fine (for_of q tests r))
        (first_passes first outer (inside_scope env w) b next kf l.0)
        (both_hold (MaybeTells (MaybeFits true inner b1 test)) (MaybeTells (MaybeFits false inner b2 step)) (λ t. MaybeTells (MaybeFits true inner b1 test) t.first × MaybeTells (MaybeFits false inner b2 step) t.second) (test_of inner b1 at test) (step_of inner b2 step) (λ x y. fine (record { first = x; second = y })) (test_fits test inner wi b1 at l.1) (step_fits step inner wi b2 l.2) (λ x y h g. (h, g)))
        (stmt_passes s inner wi (in_loop a) b3 later ks l.3)
        (λ q c r h g i t.
        (let ws : List Mention = calls_in_stmts q.tree in
        let xs : List Mention = calls_in_maybe c.first in
        let ys : List Mention = calls_in_maybe c.second in
        let zs : List Mention = calls_in_stmt r.tree in
        let t1 : InTable Table (xs ++ (ys ++ zs)) = in_rest Table ws (xs ++ (ys ++ zs)) t in
        let t2 : InTable Table (ys ++ zs) = in_rest Table xs (ys ++ zs) t1 in
        let u = h (in_first Table ws (xs ++ (ys ++ zs)) t) in
        let x = g.0 (in_first Table xs (ys ++ zs) t1) in
        let y = g.1 (in_first Table ys zs t2) in
        let z = i (in_rest Table ys zs t2) in (
          (u.0, x.0, y.0, z.0),
          (u.1, x.1, y.1, z.1),
          good_both enums tags stood (kept_of_first (sites_of p) b.sites first) (kept_of_maybe (sites_of p) (b.sites + calls_of_first first) true test ++ (kept_of_maybe (sites_of p) (b.sites + calls_of_first first + calls_of_maybe test) false step ++ kept_of_stmt (sites_of p) (b.sites + calls_of_first first + calls_of_maybe test + calls_of_maybe step) s)) u.2
              (good_both enums tags stood (kept_of_maybe (sites_of p) (b.sites + calls_of_first first) true test) (kept_of_maybe (sites_of p) (b.sites + calls_of_first first + calls_of_maybe test) false step ++ kept_of_stmt (sites_of p) (b.sites + calls_of_first first + calls_of_maybe test + calls_of_maybe step) s) x.2
              (good_both enums tags stood (kept_of_maybe (sites_of p) (b.sites + calls_of_first first + calls_of_maybe test) false step) (kept_of_stmt (sites_of p) (b.sites + calls_of_first first + calls_of_maybe test + calls_of_maybe step) s) y.2 z.2)),
        )))
    stmt_passes (switch_on at x gs) env w a b next k l =
        let r : Checked TypedExpression = switched at (value env b x) in
        both_hold (Tells Table (ExprFits true env b x)) (GroupsTell (GroupsPass env (after b x) next gs)) (StmtTells (StmtPasses env b next (switch_on at x gs))) r (groups_of_switch env (in_switch a) (after b x) next (label_type r) gs) (switch_of at)
        (on_holds (Tells Table (ExprFits true env b x)) (Tells Table (ExprFits true env b x)) (value env b x) (λ g. switched_kind at g (kind_of g.ctype)) (value_fits true env w b x l.0) (λ g h. switched_fits (ExprFits true env b x) at g (kind_of g.ctype) h))
        (groups_pass gs env w (in_switch a) (after b x) next (label_type r) (rest_known (tags_of_expr x) (tags_of_groups false gs) k) l.1)
        (λ g m h i. demand_holds (StmtTells (StmtPasses env b next (switch_on at x gs))) _ 7 at _
        (λ _. two_told (calls_in (tree_of g)) (calls_in_groups m.groups.tree) (two_pass (kept (sites_of p) b.sites true x) (kept_of_groups (sites_of p) (b.sites + calls x) gs)) h.1 i))
    stmt_passes (break_off at) env w a b next k l = demand_holds (StmtTells (StmtPasses env b next (break_off at))) a.breaks 8 at (bare typed.break_off) (λ _ _. (tt, tt, none_kept enums tags stood))
    stmt_passes (continue_on at) env w a b next k l = demand_holds (StmtTells (StmtPasses env b next (continue_on at))) a.continues 8 at (bare typed.continue_on) (λ _ _. (tt, tt, none_kept enums tags stood))
    stmt_passes (return_from at m) env w a b next k l = on_holds (TypedTells (MaybeFits true env b m)) (StmtTells (StmtPasses env b next (return_from at m))) (returned env b at a.returns m) (λ s. fine (bare s)) (returned_fits m env w b at a.returns l) (λ s h. h)

    pub block_passes : (is : BlockItems) (env : Env) → Scope env → (a : Around) (b : Before) (next : Next) → Known (tags_of_block false is) → BlockNamesNoType is → Holds (StmtsTell (BlockPasses env b next is)) (items_of_block env a b next is)
    block_passes no_block_items env w a b next k l = λ _. (tt, tt, none_kept enums tags stood)
    block_passes (block_decl d is) env w a b next k l =
        let later : Next = past_names next (names_of_decl d) in
        let inner : Env = behind_decl env next d in
        let b1 : Before = after_decl env b next d in
        let kd : Known (tags_of_decl false d) = first_known (tags_of_decl false d) (tags_of_block false is) k in
        both_hold (StmtsTell (DeclPasses env b next d)) (StmtsTell (BlockPasses inner b1 later is)) (StmtsTell (BlockPasses env b next (block_decl d is))) (local_decl env b next d) (items_of_block inner a b1 later is) (λ q r. fine (some_more q r))
        (decl_passes d env w b next kd l.0) (block_passes is inner (decl_behind d env w next kd) a b1 later (rest_known (tags_of_decl false d) (tags_of_block false is) k) l.1)
        (λ q r h g t. two_told (calls_in_stmts q.tree) (calls_in_stmts r.tree) (two_pass (kept_of_decl (sites_of p) b.sites d) (kept_of_block (sites_of p) (b.sites + calls_of_decl d) is)) h g (subst (InTable Table) (appended_gathered all_calls q.tree r.tree) t))
    block_passes (block_stmt s is) env w a b next k l =
        let later : Next = past_names next (names_of_stmt s) in
        let b1 : Before = after_stmt env b next s in
        both_hold (StmtTells (StmtPasses env b next s)) (StmtsTell (BlockPasses env b1 later is)) (StmtsTell (BlockPasses env b next (block_stmt s is))) (stmt env a b next s) (items_of_block env a b1 later is) (λ q r. fine (one_more q r))
        (stmt_passes s env w a b next (first_known (tags_of_stmt false s) (tags_of_block false is) k) l.0) (block_passes is env w a b1 later (rest_known (tags_of_stmt false s) (tags_of_block false is) k) l.1)
        (λ q r. two_told (calls_in_stmt q.tree) (calls_in_stmts r.tree) (two_pass (kept_of_stmt (sites_of p) b.sites s) (kept_of_block (sites_of p) (b.sites + calls_of_stmt s) is)))

    stmts_pass : (ss : Stmts) (env : Env) → Scope env → (a : Around) (b : Before) (next : Next) → Known (tags_of_stmts false ss) → StmtsNameNoType ss → Holds (StmtsTell (StmtsPass env b next ss)) (stmts env a b next ss)
    stmts_pass no_stmts env w a b next k l = λ _. (tt, tt, none_kept enums tags stood)
    stmts_pass (more_stmts s ss) env w a b next k l =
        let later : Next = past_names next (names_of_stmt s) in
        let b1 : Before = after_stmt env b next s in
        both_hold (StmtTells (StmtPasses env b next s)) (StmtsTell (StmtsPass env b1 later ss)) (StmtsTell (StmtsPass env b next (more_stmts s ss))) (stmt env a b next s) (stmts env a b1 later ss) (λ q r. fine (one_more q r))
        (stmt_passes s env w a b next (first_known (tags_of_stmt false s) (tags_of_stmts false ss) k) l.0) (stmts_pass ss env w a b1 later (rest_known (tags_of_stmt false s) (tags_of_stmts false ss) k) l.1)
        (λ q r. two_told (calls_in_stmt q.tree) (calls_in_stmts r.tree) (two_pass (kept_of_stmt (sites_of p) b.sites s) (kept_of_stmts (sites_of p) (b.sites + calls_of_stmt s) ss)))

    groups_pass : (gs : Groups) (env : Env) → Scope env → (a : Around) (b : Before) (next : Next) (i : IntType) → Known (tags_of_groups false gs) → GroupsNameNoType gs → Holds (GroupsTell (GroupsPass env b next gs)) (groups_of_switch env a b next i gs)
    groups_pass no_groups env w a b next i k l = λ _. (tt, tt, none_kept enums tags stood)
    groups_pass (more_groups ls ss gs) env w a b next i k l =
        let later : Next = past_names next (names_of_stmts ss) in
        let b1 : Before = after_stmts env b next ss in
        let k1 : Known (tags_of_stmts false ss ++ tags_of_groups false gs) = rest_known (tags_of_labels ls) (tags_of_stmts false ss ++ tags_of_groups false gs) k in
        all_three_hold Any (StmtsTell (StmtsPass env b next ss)) (GroupsTell (GroupsPass env b1 later gs)) (GroupsTell (GroupsPass env b next (more_groups ls ss gs))) (labels_of env i ls) (stmts env a b next ss) (groups_of_switch env a b1 later i gs) (λ vs q rest. fine (labelled vs q rest))
        (anything (labels_of env i ls)) (stmts_pass ss env w a b next (first_known (tags_of_stmts false ss) (tags_of_groups false gs) k1) l.0) (groups_pass gs env w a b1 later i (rest_known (tags_of_stmts false ss) (tags_of_groups false gs) k1) l.1)
        (λ vs q m _. two_told (calls_in_stmts q.tree) (calls_in_groups m.groups.tree) (two_pass (kept_of_stmts (sites_of p) b.sites ss) (kept_of_groups (sites_of p) (b.sites + calls_of_stmts ss) gs)))

pub bodies_are_tabled : BodiesAreTabled
bodies_are_tabled p n h enums tags stood env w a b next is among known names q e f in_p same =
    let Passes : Type 0 = BlockTabled p (sites_of p) env b next is × BlockNamed (sites_of p) b.sites is × AreTemporaries enums tags stood b.sites (calls_of_block is) (kept_of_block (sites_of p) b.sites is) in
    let passes : Passes =
    held (λ q. InTable (λ s. callee_at s (mentions_of_program p)) (calls_in_stmts q.tree) → Passes) (items_of_block env a b next is) q (block_passes p enums tags stood is env w a b next (record { numbered = among; stand = known }) names) e
    (subst (λ s. InTable (λ s. callee_at s (mentions_of_program p)) (calls_in_stmt s)) same (body_in_table p n h f in_p)) in
    record { tabled = passes.0; named = passes.1; temporaries = passes.2 }
