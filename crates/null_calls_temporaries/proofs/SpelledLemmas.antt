-- Types of functions as they are written.
use Rattle.std.proofs.Common.{◌≡◌, ℕ, List, [], ◌∷◌, map, Vec, Global, refl, ap, sym, ◌∙◌}
use Rattle.std.specs.Prelude.{Box}
use Rattle.c_tree.specs.declared.tree.CType.{CType as TypeTree}
use Rattle.c_tree.specs.declared.tree.CType.TheVariants.{Function}
use Rattle.c_tree.specs.View.{ctype_of, types_of}
use Rattle.c_tree.proofs.Rows.{function_is}
use Rattle.c_syntax.specs.declared.tree.Param.{Param as ParamTree}
use Rattle.c_syntax.specs.Tree.{Declarator, function, nothing, more_params}
use Rattle.c_syntax.specs.Writes.{params_of}
use Rattle.c_rules.specs.Names.{Name}
use Rattle.c_syntax_nodes.specs.Copied.{param_of}
use Rattle.c_syntax_nodes.proofs.CopyLemmas.{params_from, params_are}
use Rattle.null_calls_laws.specs.SpelledTypes as types
use Rattle.null_calls_temporaries.specs.Spelled.{spelled_param}

params_as : (tags : List Name) (at : ℕ) (ts : List TypeTree) → params_from (map (spelled_param tags at) ts) ≡ types.params_of tags at (types_of ts)
params_as tags at [] = refl
params_as tags at (t ∷ ts) = ap (more_params at (types.spec_of tags at (ctype_of t)) (types.declarator_of tags at (ctype_of t) nothing)) (params_as tags at ts)

params_spelled : (tags : List Name) (at : ℕ) (ps : List ParamTree) (ts : List TypeTree) → map param_of ps ≡ map (spelled_param tags at) ts → params_of ps ≡ types.params_of tags at (types_of ts)
params_spelled tags at ps ts q = sym (params_are ps) ∙ (ap params_from q ∙ params_as tags at ts)

-- the declarator of what has the type of a function
pub function_spelled : (tags : List Name) (at : ℕ) (t : TypeTree) (r : Box TypeTree Global) (v : Vec TypeTree Global) (ps : List ParamTree) (d made : Declarator) → t ≡ Function r v
    → map param_of ps ≡ map (spelled_param tags at) v.items → made ≡ types.declarator_of tags at (ctype_of r.value) (function at d (params_of ps)) → made ≡ types.declarator_of tags at (ctype_of t) d
function_spelled tags at t r v ps d made is q h =
    h ∙ (ap (λ x. types.declarator_of tags at (ctype_of r.value) (function at d x)) (params_spelled tags at ps v.items q)
    ∙ sym (ap (λ x. types.declarator_of tags at x d) (ap ctype_of is ∙ function_is r v)))

pub function_spec : (tags : List Name) (at : ℕ) (t : TypeTree) (r : Box TypeTree Global) (v : Vec TypeTree Global) → t ≡ Function r v → types.spec_of tags at (ctype_of r.value) ≡ types.spec_of tags at (ctype_of t)
function_spec tags at t r v is = sym (ap (types.spec_of tags at) (ap ctype_of is ∙ function_is r v))
