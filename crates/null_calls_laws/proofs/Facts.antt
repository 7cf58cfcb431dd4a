-- What is known of the bodies in a plain unit that is typed.
use Rattle.std.proofs.Common.{◌≡◌, ℕ, suc, ◌+◌, Bool, true, false, List, [], ◌∷◌, ◌++◌, Contains, Option, Some, None, refl, sym, subst, ◌∙◌, arith, ap, flat_map}
use Rattle.c_tree.specs.Tree.{CType, function, CTypes, more_types, Function, Program}
use Rattle.c_tree.specs.Tree as typed
use Rattle.c_meaning.specs.Mentions.{mentions_of_program}
use Rattle.c_meaning.specs.CallGraph.{callee_at}
use Rattle.c_syntax.specs.Tree.{Ident, Storage, Spec, Declarator, Decl, Params, more_params, Stmt, BlockItems, Item, decl_item, function_item, Items, no_items, more_items}
use Rattle.c_rules.specs.Checked.{fine, on, both, demand, met}
use Rattle.c_rules.specs.Names.{Name}
use Rattle.c_rules.specs.Scopes.{Env, a_local, inside, Before}
use Rattle.c_rules.specs.Declarators.{name_of, place_or}
use Rattle.c_rules.specs.Expressions.{type_declared}
use Rattle.c_rules.specs.Tags.{tags_of_spec, tags_of_declarator, tags_of_stmt, tags_of_block, tags_of_item, tags_of_items}
use Rattle.c_rules.specs.Variables.{Next, calls_of_block}
use Rattle.c_rules.specs.Blocks.{StatementTree}
use Rattle.c_rules.specs.Statements.{Around, items_of_block}
use Rattle.c_rules.specs.Functions.{declares_function, parameters_of, are_named, with_parameter, with_parameters, body_env, body_numbers, body_of, variables_of, function_laid, defined_as, function_declared, items_of_body, count_params}
use Rattle.c_rules.specs.Items.{Output, with_output, output_of_function, file_decl, behind_defined, function_named, behind_function_named, item, behind_item, behind_by_form, after_item, items, behind_items, no_output}
use Rattle.null_calls_laws.specs.MarkedCalls.{sites_of}
use Rattle.null_calls_laws.specs.Instrumented.{calls_of_item}
use Rattle.null_calls_laws.specs.InstrumentedStatements.{kept_of_block}
use Rattle.null_calls_laws.specs.Spelled.{AreAmong}
use Rattle.null_calls_laws.specs.CountedStatements.{BlockNamed}
use Rattle.null_calls_laws.specs.StatementsBeside.{BlockTabled}
use Rattle.c_rules_laws.specs.Lexical.{IsStmtLexical, IsItemLexical, IsUnitLexical}
use Rattle.c_rules_laws.specs.RightScopes.{MeaningRight}
use Rattle.c_rules_laws.proofs.Holding.{Each, held, first_fine, on_fine, demand_fine, fine_same}
use Rattle.c_rules_laws.proofs.FileScopes.{IsFileRight, Follows, follows_on}
use Rattle.c_rules_laws.proofs.FileItems.{definition_step, form_step, tags_step, items_step}
use Rattle.c_rules_laws.proofs.UnitScopes.{IsTable, scope_right}
use Rattle.c_rules_laws.proofs.UnitItems.{body_lexical}
use Rattle.c_rules_laws.proofs.Callers.{NoFunctions, decl_none}
use Rattle.c_rules_laws.proofs.Definitions.{definition_fine}
use Rattle.null_calls_laws.proofs.Lists.{is_later}
use Rattle.null_calls_laws.specs.CallsIn.{calls_in_stmt, calls_in_stmts}
use Rattle.null_calls_laws.specs.AbstractCasts.{StmtNamesNoType, ItemNamesNoType, UnitNamesNoType}
use Rattle.null_calls_laws.specs.WrittenTypes.{Written, AllWritten}
use Rattle.null_calls_laws.specs.Scopes.{IsWrittenScope, AreTemporaries}
use Rattle.null_calls_laws.proofs.Declared.{AreKnownTags, first_tags, rest_tags, both_tags, among_left, among_right, type_written}
use Rattle.null_calls_laws.proofs.Tables.{InTable}
use Rattle.null_calls_laws.proofs.CallsOfStatements.{named_scope, inside_scope, block_passes}
use Rattle.c_rules_laws.proofs.DistinctNames.{among_right as among_later}
use Rattle.null_calls_laws.proofs.FunctionTags.{body_tags, among_itself, among_front}
use Rattle.null_calls_laws.specs.Functions.{BodyFacts, NamedFacts, FunctionFacts}
use Rattle.null_calls_laws.proofs.FileWritten.{IsWrittenFile, more_stand, file_tags, function_file, item_file}
use Rattle.null_calls_laws.proofs.Aside.{names_in_body}
use Rattle.c_tree.specs.Sites.{sites_of_function}
use Rattle.c_rules_laws.proofs.Spans.{Spans, items_span, no_range}

-- ## Items that define no function

-- have no calls
decl_sites : (d : Decl) (at : ℕ) (e : Env) → IsFileRight e → (b : Before) (c : Output) → IsItemLexical (decl_item at d) → item e b (decl_item at d) ≡ fine c → (after_item e b (decl_item at d)).sites ≡ b.sites
decl_sites d at e w b c l h =
    let all : Spans b (after_item e b (decl_item at d)) (with_output c no_output) =
    items_span (more_items (decl_item at d) no_items) e w b (with_output c no_output) (l, tt) (ap (λ r. both r (fine no_output) (λ p q. fine (with_output p q))) h) in
    let none : c.functions ≡ [] = held NoFunctions (file_decl e b d) c (decl_none d e b) h in
    let counted = all.counted in
    let count : all.count ≡ 0 = no_range b.sites all.count (sym all.sites ∙ ap (λ fs. flat_map sites_of_function (fs ++ [])) none) in
    omega (arith, counted, count)

none_more : (n m : ℕ) → m ≡ n → m ≡ n + 0
none_more n m e = omega (arith, e)

item_sites : (i : Item) (e : Env) → IsFileRight e → (b : Before) (c : Output) → IsItemLexical i → item e b i ≡ fine c → (after_item e b i).sites ≡ b.sites + calls_of_item i
item_sites (decl_item at d) e w b c l h = none_more b.sites (after_item e b (decl_item at d)).sites (decl_sites d at e w b c l h)
item_sites (function_item at class s d body) e w b c l h = refl
item_sites i e w b c l h = none_more b.sites b.sites refl

-- ## Bodies

module _ (p : Program) where
  -- the calls of these functions stand in the table of the program
  abbrev pub AllIn : List Function → Type 0
  AllIn fs = Each (λ (f : Function). InTable (λ s. callee_at s (mentions_of_program p)) (calls_in_stmt f.body)) fs

  pub all_in : (fs : List Function) → ((f : Function) → Contains fs f → InTable (λ s. callee_at s (mentions_of_program p)) (calls_in_stmt f.body)) → AllIn fs
  all_in [] h = tt
  all_in (f ∷ fs) h = (h f (0, omega arith, refl), all_in fs (λ g k. h g (is_later f fs g k)))

  pub in_both : (fs gs : List Function) → AllIn (fs ++ gs) → AllIn fs × AllIn gs
  in_both [] gs h = (tt, h)
  in_both (f ∷ fs) gs h = (let k = in_both fs gs h.1 in ((h.0, k.0), k.1))

module _ (p : Program) (tags : List Name) where
  abbrev pub UnitFacts : Env → Before → Items → Type 0
  UnitFacts env b no_items = Unit {0}
  UnitFacts env b (more_items i is) = FunctionFacts p tags env b i × ((after_item env b i).sites ≡ b.sites + calls_of_item i) × UnitFacts (behind_item env b i) (after_item env b i) is

module _ (p : Program) (tags : List Name) (last : Env) (table : IsTable p last) where
  scope_written : (env : Env) (stood : List Name) → IsFileRight env → Follows env last → IsWrittenFile tags stood env → IsWrittenScope p env.enums tags stood env
  scope_written env stood w g v = record {
    plain = v.plain;
    runs = w.runs;
    enums_are = refl;
    tags_are = v.tags_are;
    has = v.has;
    functions = λ x b t d f e q r. (subst (MeaningRight p [] env x) q ((scope_right p [] env last w g table).meanings x b e)).1 f r;
  }

  parameter_written : (enums stood : List Name) (env : Env) (k : ℕ) (o : Option Ident) (t : CType) → IsWrittenScope p enums tags stood env → Written enums tags stood t → IsWrittenScope p enums tags stood (with_parameter env k o t)
  parameter_written enums stood env k None t w h = w
  parameter_written enums stood env k (Some x) t w h = named_scope p enums tags stood env x.name (a_local k t t) w h tt

  parameters_written : (enums stood : List Name) (ps : Params) (ts : CTypes) (env : Env) (k : ℕ) → IsWrittenScope p enums tags stood env → AllWritten enums tags stood ts → IsWrittenScope p enums tags stood (with_parameters env k ps ts)
  parameters_written enums stood (more_params at s d ps) (more_types t ts) env k w h = parameters_written enums stood ps ts (with_parameter env k (name_of d) t) (suc k) (parameter_written enums stood env k (name_of d) t w h.2) h.3
  parameters_written enums stood ps ts env k w h = w

  -- a body, in the scope behind its function's name
  body_known : (inner : Env) (stood : List Name) → IsFileRight inner → Follows inner last → IsWrittenFile tags stood inner → (b : Before) (place : ℕ) (d : Declarator) (x : Ident) (body : Stmt) → AreKnownTags inner.enums tags stood (tags_of_stmt false body) → StmtNamesNoType body → IsStmtLexical body
      → (t : CType) (ts : CTypes) → Written inner.enums tags stood (function t ts) → (f : Function) → defined_as inner b place d x (items_of_body body) (function t ts) ≡ fine f → InTable (λ s. callee_at s (mentions_of_program p)) (calls_in_stmt f.body)
      → BodyFacts p (sites_of p) inner.enums tags stood (body_env inner d ts) b (count_params (parameters_of d)) (items_of_body body)
  body_known inner stood w g v b place d x body known names lexical t ts written f h in_table =
      let is : BlockItems = items_of_body body in
      let around : Around = record { breaks = false; continues = false; returns = t } in
      let next : Next = body_numbers d is in
      let scope : IsWrittenScope p inner.enums tags stood (body_env inner d ts) = parameters_written inner.enums stood (parameters_of d) ts (inside inner) 0 (inside_scope p inner.enums tags stood inner (scope_written inner stood w g v)) written.4 in
      let k = first_fine (demand (are_named (parameters_of d)) 3 place met) (body_of inner b t d ts is) (λ _ q. function_laid inner x t ts q) f (definition_fine inner b place d x is t ts f h) in
      let q : StatementTree typed.Stmts = k.1 in
      let j = demand_fine _ 13 x.at (record { name = x.name; ctype = function t ts; variables = variables_of ts q; body = typed.block q.tree }) f k.4 in
      let own : AreKnownTags inner.enums tags stood (tags_of_block false is) = subst (AreKnownTags inner.enums tags stood) (sym (body_tags false body)) known in
      let Passes : Type 0 = BlockTabled p (sites_of p) (body_env inner d ts) b next is × BlockNamed (sites_of p) b.sites is × AreTemporaries inner.enums tags stood b.sites (calls_of_block is) (kept_of_block (sites_of p) b.sites is) in
      let passes : Passes =
      held (λ q. InTable (λ s. callee_at s (mentions_of_program p)) (calls_in_stmts q.tree) → Passes) (items_of_block (body_env inner d ts) around b next is) q (block_passes p inner.enums tags stood is (body_env inner d ts) scope around b next own (names_in_body body names)) k.3
      (subst (λ g. InTable (λ s. callee_at s (mentions_of_program p)) (calls_in_stmt g.body)) (sym j.1) in_table) in
      record {
        enums_are = scope.enums_are;
        tags_are = scope.tags_are;
        named = passes.1;
        tabled = passes.0;
        temporaries = passes.2;
        lexical = body_lexical body lexical;
      }

  known_here : (env : Env) (i : Item) → AreAmong tags (tags_of_item false i) → AreKnownTags env.enums tags (tags_of_item false i ++ env.tags) (tags_of_item false i)
  known_here env i h = record { numbered = h; stand = among_front (tags_of_item false i) env.tags (tags_of_item false i) (among_itself (tags_of_item false i)) }

  named_facts : (env : Env) → IsFileRight env → IsWrittenFile tags env.tags env → (b : Before) (at : ℕ) (class : Storage) (s : Spec) (d : Declarator) (body : Stmt) (k : Bool) (o : Option Ident) (out : Output) → declares_function d ≡ k
      → AreAmong tags (tags_of_item false (function_item at class s d body)) → StmtNamesNoType body → IsStmtLexical body → function_named env b at s d body k o ≡ fine out → Follows (behind_function_named env at s d o) last → AllIn p out.functions
      → NamedFacts p env.enums tags (tags_of_item false (function_item at class s d body) ++ env.tags) env b at s d body o
  named_facts env w v b at class s d body true (Some x) out n among names lexical e g all =
      let is : BlockItems = items_of_body body in
      let item_tags : List Name = tags_of_item false (function_item at class s d body) in
      let stood : List Name = item_tags ++ env.tags in
      let inner : Env = behind_defined env at s d x in
      let step = definition_step env b at s d body (Some x) out true n w e in
      let i = first_fine (function_declared env true at s d x) (on (type_declared env at s d) (defined_as inner b (place_or at d) d x is)) (λ _ f. fine (output_of_function f)) out e in
      let j = on_fine (type_declared env at s d) (defined_as inner b (place_or at d) d x is) i.1 i.3 in
      let known : AreKnownTags env.enums tags stood item_tags = known_here env (function_item at class s d body) among in
      let rest : AreKnownTags env.enums tags stood (tags_of_declarator d ++ tags_of_stmt false body) = rest_tags env.enums tags stood (tags_of_spec s) (tags_of_declarator d ++ tags_of_stmt false body) known in
      let declared : AreKnownTags env.enums tags stood (tags_of_spec s ++ tags_of_declarator d) =
      both_tags env.enums tags stood (tags_of_spec s) (tags_of_declarator d) (first_tags env.enums tags stood (tags_of_spec s) (tags_of_declarator d ++ tags_of_stmt false body) known) (first_tags env.enums tags stood (tags_of_declarator d) (tags_of_stmt false body) rest) in
      let more : IsWrittenFile tags stood env = more_stand tags env.tags stood env (λ y h. among_later item_tags env.tags y h) v in
      let file : IsWrittenFile tags stood inner = function_file tags stood env more true at s d x declared in
      let written : Written env.enums tags stood j.0 = held (Written env.enums tags stood) (type_declared env at s d) j.0 (type_written env.enums tags stood env (file_tags tags stood env more) at s d declared) j.1 in
      let output : output_of_function i.1 ≡ out = fine_same (output_of_function i.1) out i.4 in
      let own : AllIn p (i.1 ∷ []) = subst (λ o. AllIn p o.functions) (sym output) all in
      by_type inner step.0 file j.0 j.1 written i.1 j.2 own.0 (rest_tags env.enums tags stood (tags_of_declarator d) (tags_of_stmt false body) rest)
    where
      by_type : (inner : Env) → IsFileRight (behind_defined env at s d x) → IsWrittenFile tags (tags_of_item false (function_item at class s d body) ++ env.tags) (behind_defined env at s d x)
          → (u : CType) → type_declared env at s d ≡ fine u → Written env.enums tags (tags_of_item false (function_item at class s d body) ++ env.tags) u → (f : Function) → defined_as (behind_defined env at s d x) b (place_or at d) d x (items_of_body body) u ≡ fine f
          → InTable (λ s. callee_at s (mentions_of_program p)) (calls_in_stmt f.body) → AreKnownTags env.enums tags (tags_of_item false (function_item at class s d body) ++ env.tags) (tags_of_stmt false body)
          → NamedFacts p env.enums tags (tags_of_item false (function_item at class s d body) ++ env.tags) env b at s d body (Some x)
      by_type inner r file (function t ts) q written f h in_table known =
          (t, ts, q, body_known (behind_defined env at s d x) (tags_of_item false (function_item at class s d body) ++ env.tags) r g file b (place_or at d) d x body known names lexical t ts written f h in_table)
      by_type inner r file u q written f h in_table known = absurd (cc)
  named_facts env w v b at class s d body k o out n among names lexical e g all = absurd (cc)

  item_facts : (i : Item) (env : Env) → IsFileRight env → IsWrittenFile tags env.tags env → (b : Before) (out : Output) → AreAmong tags (tags_of_item false i) → ItemNamesNoType i → IsItemLexical i → item env b i ≡ fine out → Follows (behind_by_form env b i) last → AllIn p out.functions → FunctionFacts p tags env b i
  item_facts (function_item at class s d body) env w v b out among names lexical e g all = named_facts env w v b at class s d body (declares_function d) (name_of d) out refl among names lexical.1 e g all
  item_facts i env w v b out among names lexical e g all = tt

  -- ## Units

  pub unit_facts : (is : Items) (env : Env) → IsFileRight env → IsWrittenFile tags env.tags env → (b : Before) (out : Output) → AreAmong tags (tags_of_items false is) → UnitNamesNoType is → IsUnitLexical is → items env b is ≡ fine out → Follows (behind_items env b is) last → AllIn p out.functions → UnitFacts p tags env b is
  unit_facts no_items env w v b out among names lexical e g all = tt
  unit_facts (more_items i is) env w v b out among names lexical e g all =
      let inner : Env = behind_item env b i in
      let after : Before = after_item env b i in
      let f = first_fine (item env b i) (items inner after is) (λ p q. fine (with_output p q)) out e in
      let form = form_step i env b f.0 w lexical.0 f.2 in
      let step = tags_step (behind_by_form env b i) i form.0 in
      let rest = items_step is inner after f.1 step.0 lexical.1 f.3 in
      let here : Follows (behind_by_form env b i) last = follows_on (behind_by_form env b i) inner last step.1 (follows_on inner (behind_items inner after is) last rest.1 g) in
      let own : AreAmong tags (tags_of_item false i) = among_left tags (tags_of_item false i) (tags_of_items false is) among in
      let both = in_both p f.0.functions f.1.functions (subst (λ o. AllIn p o.functions) (sym (fine_same (with_output f.0 f.1) out f.4)) all) in (
        item_facts i env w v b f.0 own names.0 lexical.0 f.2 here both.0,
        item_sites i env w b f.0 lexical.0 f.2,
        unit_facts is inner step.0 (item_file tags i env b f.0 v (known_here env i own) f.2) after f.1 (among_right tags (tags_of_item false i) (tags_of_items false is) among) names.1 lexical.1 f.3 g both.1,
      )
