-- Parameters of Rust, one after another.
use Rattle.std.proofs.Common.{◌≡◌, ℕ, suc, ◌-◌, ◌<◌, ◌≤◌, Bool, true, false, List, [], ◌∷◌, length, take, drop, get_or, Bor, Option, Some, None, Vec, Global, Result, Ok, Err, IfOk, refl, sym, subst, ap, ◌∙◌, arith}
use Rattle.std.specs.Prelude.{Box, ◌&&◌, is_some, not}
use Rattle.std.proofs.lemmas.List.{take_all}
use Rattle.c_check_counts.specs.declared.numbers.Next.{Next as NextTree}
use Rattle.c_check_counts.specs.Numbered.{AreFirst}
use Rattle.c_syntax.specs.SeenNames.{ident_seen}
use Rattle.c_syntax.proofs.NodeRows.{function_is}
use Rattle.c_check_declarations.specs.Named.{name_of_param, stands_alone}
use Rattle.c_rules.specs.Functions.{parameters_of, is_named, are_named, count_params, with_parameters}
use Rattle.c_rules.specs.Scopes.{Env}
use Rattle.c_syntax.specs.declared.tree.Declarator.{Declarator as DeclaratorTree}
use Rattle.c_syntax.specs.declared.tree.DeclaratorKind.TheVariants.{Function}
use Rattle.c_syntax.specs.declared.tree.Ident.{Ident as Named}
use Rattle.c_syntax.specs.declared.tree.Param.{Param as ParamTree, Param', out-Param}
use Rattle.c_syntax.specs.declared.tree.TypeName.{Param-declarator-None', Param-declarator-Some'}
use Rattle.c_syntax.specs.Tree.{Ident, Declarator, nothing, named, pointer, array, function, Params, BlockItems}
use Rattle.c_syntax.specs.View.{declarator_at, declarator_of}
use Rattle.c_syntax.specs.Writes.{params_of, declarator_behind}
use Rattle.c_tree.specs.declared.tree.CType.{CType as TypeTree}
use Rattle.c_tree.specs.View.{types_of}
use Rattle.dm_base.specs.declared.mode.Mode.{Mode}
use Rattle.c_check_values.proofs.SameLemmas.{false_not_true}

-- ## Those of a declarator

alone : (at : ℕ) (e : Declarator) (ps : Params) → stands_alone e ≡ true → ps ≡ parameters_of (function at e ps)
alone at nothing ps h = false_not_true h
alone at (named here x) ps h = refl
alone at (pointer here d) ps h = false_not_true h
alone at (array here d size) ps h = false_not_true h
alone at (function here d qs) ps h = false_not_true h

pub own_parameters : (d : DeclaratorTree) (i : Option (Box DeclaratorTree Global)) (v : Vec ParamTree Global) (b : Bool) → d.kind ≡ Function i v → b ≡ stands_alone (declarator_behind i) → b ≡ true
    → params_of v.items ≡ parameters_of (declarator_of d)
own_parameters d i v b is told h =
    alone d.at (declarator_behind i) (params_of v.items) (sym told ∙ h)
    ∙ sym (ap (λ k. parameters_of (declarator_at d.at k)) is ∙ ap parameters_of (function_is d.at i v))

-- ## Names

named_more : (p : ParamTree) (ps : List ParamTree) → are_named (params_of (p ∷ ps)) ≡ (is_named (name_of_param p) && are_named (params_of ps))
unfolding out-Param denote.Hole.Carrier.out
named_more (Param' s Param-declarator-None' at) ps = refl
named_more (Param' s (Param-declarator-Some' here kind) at) ps = refl

named_there : (o : Option (Bor Named)) (n : Option Ident) (b : Bool) → ident_seen o ≡ n → is_some o ≡ not b → b ≡ false → is_named n ≡ true
named_there None n b seen some h = false_not_true (some ∙ ap not h)
named_there (Some x) n b seen some h = ap is_named (sym seen)

all_but_one : {A : Type 0} (x : A) (xs : List A) → take (length (x ∷ xs) - 1) (drop 1 (x ∷ xs)) ≡ xs
all_but_one x xs = take_all (length (x ∷ xs) - 1) xs (omega arith)

pub named_rest : (ps : List ParamTree) (p : ParamTree) (o : Option (Bor Named)) (b r : Bool) → 1 ≤ length ps → p ≡ get_or ps 0 p → ident_seen o ≡ name_of_param p → is_some o ≡ not b → b ≡ false
    → r ≡ are_named (params_of (take (length ps - 1) (drop 1 ps))) → r ≡ are_named (params_of ps)
named_rest [] p o b r lt is seen some h rest = absurd (omega (arith, lt))
named_rest (q ∷ qs) p o b r lt is seen some h rest =
    rest
    ∙ (ap (λ xs. are_named (params_of xs)) (all_but_one q qs)
    ∙ (ap (λ t. t && are_named (params_of qs)) (sym (ap (λ y. is_named (name_of_param y)) (sym is) ∙ named_there o (name_of_param p) b seen some h)) ∙ sym (named_more q qs)))

-- ## Numbers

params_count : (ps : List ParamTree) → count_params (params_of ps) ≡ length ps
params_count [] = refl
params_count (Param' s held at ∷ ps) = ap suc (params_count ps)

pub params_long : (ps : List ParamTree) (qs : Params) → params_of ps ≡ qs → length ps ≡ count_params qs
params_long ps qs seen = sym (params_count ps) ∙ ap count_params seen

-- the numbers behind these parameters
pub numbers_as : {X : Type 0} (r : Result (Option NextTree) X) (m : Mode) (ps : List ParamTree) (qs : Params) (body : BlockItems) → params_of ps ≡ qs → IfOk r (AreFirst m (length ps) body)
    → IfOk r (AreFirst m (count_params qs) body)
numbers_as (Ok x) m ps qs body seen h = subst (λ k. AreFirst m k body x) (params_long ps qs seen) h
numbers_as (Err e) m ps qs body seen h = h

-- ## Scopes

pub none_declared : (e : Env) (k : ℕ) (ps : List ParamTree) (ts : List TypeTree) → length ts < 1 → e ≡ with_parameters e k (params_of ps) (types_of ts)
none_declared e k [] ts lt = refl
none_declared e k (Param' s Param-declarator-None' at ∷ ps) [] lt = refl
none_declared e k (Param' s (Param-declarator-Some' here kind) at ∷ ps) [] lt = refl
none_declared e k ps (t ∷ ts) lt = absurd (omega (arith, lt))
