-- Names within others, and more tags.
use Rattle.std.proofs.Common.{◌≡◌, ℕ, suc, ◌<◌, ◌^◌, List, [], ◌∷◌, ◌++◌, Option, Some, None, refl, ap, ◌∙◌, arith}
use Rattle.std.specs.Prelude.{reverse}
use Rattle.c_check_units.specs.Scoped.{IsWithin}
use Rattle.c_rules.specs.Declarators.{name_of}
use Rattle.c_rules.specs.Functions.{parameters_of, count_params, with_parameter, with_parameters, body_env, body_numbers}
use Rattle.c_rules.specs.Names.{Name}
use Rattle.c_rules.specs.Scopes.{Env, Binding, a_local, inside}
use Rattle.c_check_statements.specs.Environment.{Environment}
use Rattle.c_check_statements.specs.View.{env_of}
use Rattle.c_rules.specs.Variables.{Next}
use Rattle.c_check_units.specs.Numbered.{HaveNumbers}
use Rattle.c_syntax.specs.Tree.{Ident, BlockItems, Declarator, Params, no_params, more_params}
use Rattle.c_tree.specs.Tree.{CType, CTypes, no_types, more_types}

-- one more name
pub within_more : (f e : Env) (b : Binding) (h : IsWithin f e) → record f { names = b ∷ f.names } ≡ record e { names = (b ∷ h.0) ++ e.names; depth = f.depth }
within_more f e b h =
    let same : f ≡ record e { names = h.0 ++ e.names; depth = h.1 } = h.2 in
    λ i. record {
      whole = (same i).whole;
      names = b ∷ (same i).names;
      depth = f.depth;
      structs = (same i).structs;
      enums = (same i).enums;
      functions = (same i).functions;
      tags = (same i).tags;
      context = (same i).context;
    }

parameter_within : (f e : Env) (k : ℕ) (x : Option Ident) (t : CType) → IsWithin f e → IsWithin (with_parameter f k x t) e
parameter_within f e k None t h = h
parameter_within f e k (Some x) t h =
    (record { name = x.name; depth = f.depth; means = a_local k t t } ∷ h.0, f.depth, within_more f e (record { name = x.name; depth = f.depth; means = a_local k t t }) h)

parameters_within : (f e : Env) (k : ℕ) (ps : Params) (ts : CTypes) → IsWithin f e → IsWithin (with_parameters f k ps ts) e
parameters_within f e k no_params ts h = h
parameters_within f e k (more_params at s d ps) no_types h = h
parameters_within f e k (more_params at s d ps) (more_types t ts) h = parameters_within (with_parameter f k (name_of d) t) e (suc k) ps ts (parameter_within f e k (name_of d) t h)

pub body_within : (e : Env) (d : Declarator) (ts : CTypes) → IsWithin (body_env e d ts) e
body_within e d ts = parameters_within (inside e) e 0 (parameters_of d) ts ([], suc e.depth, refl)

-- ## Few parameters

-- those before a body whose variables have numbers
pub few_parameters : (d : Declarator) (is : BlockItems) (next : Next) (names : List Name) → next ≡ body_numbers d is → HaveNumbers next names → count_params (parameters_of d) < 2 ^ 32
few_parameters d is next names numbered h =
    let first : next.plain ≡ count_params (parameters_of d) = ap (λ (n : Next). n.plain) numbered in
    omega (arith, first, h.plain)

-- ## More tags

pub tagged : (old : Environment) (e : Env) (ts added : List Name) → env_of old ≡ e → reverse ts ≡ added ++ reverse old.tags → env_of (record old { tags = ts }) ≡ record e { tags = added ++ e.tags }
tagged old e ts added h step =
    let tags : reverse ts ≡ added ++ e.tags = step ∙ ap (λ f. added ++ f.tags) h in
    λ i. record {
      whole = (h i).whole;
      names = (h i).names;
      depth = (h i).depth;
      structs = (h i).structs;
      enums = (h i).enums;
      functions = (h i).functions;
      tags = tags i;
      context = (h i).context;
    }
