-- A definition of a function that is fine gives a function of the program.
use Rattle.std.proofs.Common.{◌≡◌, inl, ℕ, suc, ◌+◌, ◌≤◌, Bool, true, false, if◌then◌else◌, List, [], ◌∷◌, ◌++◌, All, length, Option, Some, None, slice_get, nat_le, refl, ap, sym, subst, ◌∙◌, arith}
use Rattle.std.proofs.lemmas.Bool.{leb-true}
use Rattle.std.proofs.lemmas.List.Elements.{All-cons, All-append}
use Rattle.dm_base.specs.declared.mode.Mode.{Mode}
use Rattle.dm_base.specs.declared.mode.Mode.TheVariants.{Plain, Instrumented}
use Rattle.c_tree.specs.Tree.{CType, integer, pointer, array, function, CTypes, no_types, more_types, list_of, Function, Program}
use Rattle.c_tree.specs.Tree as typed
use Rattle.c_tree.specs.Layout.{Structs, cells_of_all, flat_all}
use Rattle.c_tree.specs.Operands.{IsScalar, IsComplete, IsObject}
use Rattle.c_tree.specs.Kinds.{Lies}
use Rattle.c_tree.specs.Program.{IsFunction}
use Rattle.c_syntax.specs.Tree.{Ident, Spec, Declarator, Params, no_params, more_params, BlockItems}
use Rattle.c_syntax.specs.Tree as syntax
use Rattle.c_rules.specs.Checked.{Checked, fine, on, demand, met}
use Rattle.c_rules.specs.Limits.{most_local_cells}
use Rattle.c_rules.specs.Names.{Name, is_added}
use Rattle.c_rules.specs.Types.{count, is_result}
use Rattle.c_rules.specs.Scopes.{Env, inside, layout_of, Before}
use Rattle.c_rules.specs.Conversions.{few_parts}
use Rattle.c_rules.specs.PrimaryExpressions.{string_number}
use Rattle.c_rules.specs.Declarators.{name_of, place_or, type_of_spec, pointer_to, array_of, function_of, parameter_of, with_name_demands, behind_parameter}
use Rattle.c_rules.specs.Expressions.{declared, size_in, parameters, type_declared}
use Rattle.c_rules.specs.Variables.{Next, past_names, names_of_block}
use Rattle.c_rules.specs.Blocks.{held_by_block, StatementTree}
use Rattle.c_rules.specs.Statements.{Around, items_of_block}
use Rattle.c_rules.specs.Functions.{declares_function, parameters_of, are_named, count_params, with_parameter, with_parameters, variables_of, function_laid, body_env, body_numbers, body_of, held_by_type, defined_as}
use Rattle.c_meaning.proofs.Places.{get_left, get_right, scalar_object}
use Rattle.c_rules_laws.specs.Lexical.{AreItemsLexical}
use Rattle.c_rules_laws.specs.MadeTypes.{Made, AllMade, IsSized}
use Rattle.c_rules_laws.specs.RightScopes.{IsRight, StringsIn}
use Rattle.c_rules_laws.proofs.Holding.{Holds, held, on_holds, both_hold, Any, anything, demand_holds, behind_demand, after_part, first_fine, demand_fine, each_all}
use Rattle.c_rules_laws.proofs.Definitions.{definition_fine}
use Rattle.c_rules_laws.proofs.MadeTypes.{few_unless_array, scalar_not_array}
use Rattle.c_rules_laws.proofs.SoundStructs.{same_flat_all}
use Rattle.c_rules_laws.proofs.RightTypedExpressions.{scalar_thing}
use Rattle.c_rules_laws.proofs.RightDeclarations.{AreKnownSizes, right_inside, right_local}
use Rattle.c_rules_laws.proofs.RightStatements.{StmtsRight, block_right}
use Rattle.c_rules_laws.proofs.FileScopes.{IsFileRight, Follows}
use Rattle.c_rules_laws.proofs.UnitScopes.{IsTable, scope_right}
use Rattle.c_rules_laws.proofs.SitesOfStatements.{parameter_keeps, params_keep}

-- ## Parameters

-- a function type has as many parameters as stand behind its name
abbrev pub ParamsFit : Params → CType → Type 0
ParamsFit ps (function t ts) = length (list_of ts) ≡ count_params ps
ParamsFit ps t = Unit {0}

params_long : (ps : Params) (env : Env) (k : ℕ) → Holds (λ ts. length (list_of ts) ≡ count_params ps) (parameters env k ps)
params_long no_params env k = refl
params_long (more_params at s d ps) env k =
    let r : Checked CType = on (on (type_of_spec env at s) (λ t. declared env d t)) (parameter_of (place_or at d)) in
    both_hold Any (λ ts. length (list_of ts) ≡ count_params ps) (λ ts. length (list_of ts) ≡ suc (count_params ps)) (with_name_demands env (name_of d) r) (parameters (behind_parameter env k (name_of d) r) k ps) (λ t ts. fine (more_types t ts)) (anything _) (params_long ps (behind_parameter env k (name_of d) r) k) (λ t ts _ h. ap suc h)

function_fits : (ps : Params) (at : ℕ) (t : CType) (ts : CTypes) → length (list_of ts) ≡ count_params ps → Holds (ParamsFit ps) (function_of at t ts)
function_fits ps at t ts h = behind_demand (ParamsFit ps) (is_result t) 3 at _ (λ _. behind_demand (ParamsFit ps) (nat_le (count ts) 16) 13 at _ (λ _. demand_holds (ParamsFit ps) (few_parts (function t ts)) 13 at (function t ts) (λ _. h)))

declared_fits : (d : Declarator) (env : Env) (t : CType) → declares_function d ≡ true → Holds (ParamsFit (parameters_of d)) (declared env d t)
declared_fits (syntax.pointer at d) env t e = after_part (ParamsFit (parameters_of d)) (pointer_to at t) (λ u. declared env d u) (λ u. declared_fits d env u e)
declared_fits (syntax.array at d size) env t e = after_part (ParamsFit (parameters_of d)) (on (size_in env size) (array_of env at t)) (λ u. declared env d u) (λ u. declared_fits d env u e)
declared_fits (syntax.function at (syntax.named here x) ps) env t e =
    on_holds (ParamsFit ps) (ParamsFit ps) (on (parameters (inside env) 0 ps) (function_of at t)) (λ u. fine u) (on_holds (λ ts. length (list_of ts) ≡ count_params ps) (ParamsFit ps) (parameters (inside env) 0 ps) (function_of at t) (params_long ps (inside env) 0) (λ ts h. function_fits ps at t ts h)) (λ u h. h)
declared_fits (syntax.function at d ps) env t e = after_part (ParamsFit (parameters_of (syntax.function at d ps))) (on (parameters (inside env) 0 ps) (function_of at t)) (λ u. declared env d u) (λ u. declared_fits d env u e)
declared_fits d env t e = absurd (cc)

pub type_fits : (env : Env) (at : ℕ) (s : Spec) (d : Declarator) → declares_function d ≡ true → Holds (ParamsFit (parameters_of d)) (type_declared env at s d)
type_fits env at s d e = after_part (ParamsFit (parameters_of d)) (type_of_spec env at s) (declared env d) (λ t. declared_fits d env t e)

scalar_complete : (structs : Structs) (t : CType) → IsScalar t → IsComplete structs t
scalar_complete structs (integer i) h = tt
scalar_complete structs (pointer t) h = tt
scalar_complete structs t h = absurd h

module _ (p : Program) (vars : List CType) where
  parameter_right : (env : Env) (k : ℕ) (o : Option Ident) (t : CType) → IsRight p vars env → IsScalar t → Made (layout_of env) t → slice_get vars k ≡ Some t → IsRight p vars (with_parameter env k o t)
  parameter_right env k None t w s m e = w
  parameter_right env k (Some x) t w s m e =
      let z : IsSized (layout_of env) t = record { made = m; few = few_unless_array (layout_of env) t (scalar_not_array t s) } in
      right_local p vars env x.name k t t w z z (inl refl) (scalar_thing t s) e

  params_right : (ps : Params) (ts : CTypes) (env : Env) (k : ℕ) → IsRight p vars env → AllMade (layout_of env) ts → ((j : ℕ) (t : CType) → slice_get (list_of ts) j ≡ Some t → slice_get vars (k + j) ≡ Some t) → IsRight p vars (with_parameters env k ps ts)
  params_right (more_params at s d ps) (more_types t ts) env k w m h =
      let inner : Env = with_parameter env k (name_of d) t in
      let e : k + 0 ≡ k = omega arith in
      let got : slice_get vars k ≡ Some t = subst (λ n. slice_get vars n ≡ Some t) e (h 0 t refl) in
      params_right ps ts inner (suc k) (parameter_right env k (name_of d) t w m.0 m.1 got) (subst (λ z. AllMade z ts) (sym (parameter_keeps layout_of (λ _ _ _. refl) env k (name_of d) t)) m.2)
      (λ j u q. (let f : k + suc j ≡ suc k + j = omega arith in subst (λ n. slice_get vars n ≡ Some u) f (h (suc j) u q)))
  params_right ps ts env k w m h = w

-- ## Variables

plain_alone : (xs : List Name) (a b c : ℕ) → (past_names (record { plain = a; added = b }) xs).plain ≡ (past_names (record { plain = a; added = c }) xs).plain
plain_alone [] a b c = refl
plain_alone (x ∷ xs) a b c = by_test (is_added x) (plain_alone xs a (suc b) (suc c)) (plain_alone xs (suc a) b c)
  where
    by_test : (t : Bool)
        → (past_names (record { plain = a; added = suc b }) xs).plain ≡ (past_names (record { plain = a; added = suc c }) xs).plain
        → (past_names (record { plain = suc a; added = b }) xs).plain ≡ (past_names (record { plain = suc a; added = c }) xs).plain
        → (past_names (if t then record { plain = a; added = suc b } else record { plain = suc a; added = b }) xs).plain ≡ (past_names (if t then record { plain = a; added = suc c } else record { plain = suc a; added = c }) xs).plain
    by_test true h k = h
    by_test false h k = k

all_scalars : (structs : Structs) (ts : CTypes) → AllMade structs ts → All IsScalar (list_of ts)
all_scalars structs no_types h = λ k d l. absurd (omega (arith, l))
all_scalars structs (more_types t ts) h = All-cons IsScalar t (list_of ts) h.0 (all_scalars structs ts h.2)

counted : (ts : CTypes) → length (list_of ts) ≡ count ts
counted no_types = refl
counted (more_types t ts) = ap suc (counted ts)

few_local : (m : Mode) (n : ℕ) → nat_le n (most_local_cells m) ≡ true → n ≤ 262144
few_local Plain n e = (let l = leb-true n 65536 e in omega (arith, l))
few_local Instrumented n e = leb-true n 262144 e

-- ## Functions

module _ (p : Program) (last : Env) (table : IsTable p last) where
  made_function : (env : Env) → IsFileRight env → Follows env last → (b : Before) (d : Declarator) (x : Ident) (is : BlockItems) (t : CType) (ts : CTypes) (q : StatementTree typed.Stmts)
      → Made (layout_of env) (function t ts) → ParamsFit (parameters_of d) (function t ts) → AreItemsLexical is → StringsIn p [] (string_number env b) (held_by_block (body_env env d ts) (body_numbers d is) is)
      → body_of env b t d ts is ≡ fine q → nat_le (cells_of_all (layout_of env) (variables_of ts q)) (most_local_cells env.whole.mode) ≡ true
      → IsFunction p (record { name = x.name; ctype = function t ts; variables = variables_of ts q; body = typed.block q.tree })
  made_function env w g b d x is t ts q m fit l s e small =
      let vars : List CType = variables_of ts q in
      let inner : Env = body_env env d ts in
      let next : Next = body_numbers d is in
      let k : ℕ = count_params (parameters_of d) in
      let w0 : IsRight p vars env = scope_right p vars env last w g table in
      let w1 : IsRight p vars (inside env) = right_inside p vars env w0 in
      let w2 : IsRight p vars inner = params_right p vars (parameters_of d) ts (inside env) 0 w1 m.3 (λ j u c. (let z : j ≡ 0 + j = omega arith in subst (λ n. slice_get vars n ≡ Some u) z (get_left (list_of ts) (q.plain ++ q.added) j u c))) in
      let moved : StringsIn p vars (string_number inner b) (held_by_block inner next is) = subst (λ z. StringsIn p vars (length z.objects + length b.strings) (held_by_block inner next is)) (sym (params_keep (λ e. e.whole) (λ _ _ _. refl) (parameters_of d) ts (inside env) 0)) s in
      let around : Around = record { breaks = false; continues = false; returns = t } in
      let h : StmtsRight p vars inner around next (names_of_block is) q = held (StmtsRight p vars inner around next (names_of_block is)) (items_of_block inner around b next is) q (block_right p vars is inner around b next l moved) e in
      let start : next.added ≡ k + length q.plain = plain_alone (names_of_block is) k 0 next.added ∙ ap (λ n. n.plain) h.numbers in
      let lies : Lies vars next.plain q.plain = (λ j u c. ap (λ n. slice_get vars (n + j)) (sym fit) ∙ (get_right (list_of ts) (q.plain ++ q.added) j ∙ get_left q.plain q.added j u c)) in
      let lies_added : Lies vars next.added q.added = (λ j u c.
      (let z : next.added + j ≡ length (list_of ts) + (length q.plain + j) = omega (arith, start, fit) in
      ap (slice_get vars) z ∙ (get_right (list_of ts) (q.plain ++ q.added) (length q.plain + j) ∙ (get_right q.plain q.added j ∙ c)))) in
      let r = h.right w2 (lies, lies_added) in
      let same : layout_of inner ≡ layout_of env = params_keep layout_of (λ _ _ _. refl) (parameters_of d) ts (inside env) 0 in
      let scalars : All IsScalar (list_of ts) = all_scalars (layout_of env) ts m.3 in
      let known : All (IsComplete (layout_of env)) vars =
      All-append (IsComplete (layout_of env)) (list_of ts) (q.plain ++ q.added) (λ i c z. scalar_complete (layout_of env) _ (scalars i c z))
      (All-append (IsComplete (layout_of env)) q.plain q.added (each_all (IsComplete (layout_of env)) q.plain (subst (λ z. AreKnownSizes p vars z q.plain) same h.plain_sizes)) (each_all (IsComplete (layout_of env)) q.added (subst (λ z. AreKnownSizes p vars z q.added) same h.added_sizes))) in
      let cells_same : flat_all p.structs vars ≡ flat_all (layout_of env) vars = same_flat_all (layout_of env) p.structs w0.within.sound w0.within.grows vars known in
      record {
        gives = t;
        takes = ts;
        others = q.plain ++ q.added;
        type = refl;
        result_type = m.0;
        scalars = scalars;
        few_parameters = (let c = counted ts in let n = m.1 in omega (arith, c, n));
        parameters = refl;
        objects = All-append (IsObject p.structs) (list_of ts) (q.plain ++ q.added) (λ i c z. scalar_object p.structs _ (scalars i c z)) (All-append (IsObject p.structs) q.plain q.added (each_all (IsObject p.structs) q.plain r.1) (each_all (IsObject p.structs) q.added r.2));
        few = subst (λ xs. length xs ≤ 262144) (sym cells_same) (few_local env.whole.mode (cells_of_all (layout_of env) vars) small);
        body = tt;
        typed = r.0;
      }

  -- a definition that is fine
  pub function_right : (env : Env) → IsFileRight env → Follows env last → (b : Before) (place : ℕ) (d : Declarator) (x : Ident) (is : BlockItems) (u : CType) (f : Function) → Made (layout_of env) u → ParamsFit (parameters_of d) u → AreItemsLexical is
      → StringsIn p [] (string_number env b) (held_by_type env d is u) → defined_as env b place d x is u ≡ fine f → IsFunction p f × (f.name ≡ x.name) × (f.ctype ≡ u)
  function_right env w g b place d x is (function t ts) f m fit l s e =
      let i = first_fine (demand (are_named (parameters_of d)) 3 place met) (body_of env b t d ts is) (λ _ q. function_laid env x t ts q) f (definition_fine env b place d x is t ts f e) in
      let q : StatementTree typed.Stmts = i.1 in
      let j = demand_fine (nat_le (cells_of_all (layout_of env) (variables_of ts q)) (most_local_cells env.whole.mode)) 13 x.at (record { name = x.name; ctype = function t ts; variables = variables_of ts q; body = typed.block q.tree }) f i.4 in
      (subst (IsFunction p) j.1 (made_function env w g b d x is t ts q m fit l s i.3 j.0), ap (λ f. f.name) (sym j.1), ap (λ f. f.ctype) (sym j.1))
  function_right env w g b place d x is u f m fit l s e = absurd (cc)
