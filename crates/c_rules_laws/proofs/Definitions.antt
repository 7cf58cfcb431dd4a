-- The parts of a definition of a function.
use Rattle.std.proofs.Common.{◌≡◌, ℕ}
use Rattle.c_tree.specs.Tree.{CType, function, CTypes, Function}
use Rattle.c_syntax.specs.Tree.{Ident, Declarator, BlockItems}
use Rattle.c_rules.specs.Checked.{Checked, fine, both, demand, met, parts_first}
use Rattle.c_rules.specs.Codes.{C3}
use Rattle.c_rules.specs.Scopes.{Env, Before}
use Rattle.c_rules.specs.Functions.{parameters_of, are_named, function_laid, body_of, few_variables, defined_as}
use Rattle.c_rules_laws.proofs.Holding.{on_fine, parts_first_fine}

-- its node, behind the limit on its variables
abbrev pub laid_body : Env → Before → (place : ℕ) → Declarator → Ident → BlockItems → CType → CTypes → Checked Function
laid_body env b place d x is t ts = both (demand (are_named (parameters_of d)) C3 place met) (body_of env b t d ts is) (λ _ p. function_laid env x t ts p)

-- the parts of one that is fine
pub definition_fine : (env : Env) (b : Before) (place : ℕ) (d : Declarator) (x : Ident) (is : BlockItems) (t : CType) (ts : CTypes) (f : Function) → defined_as env b place d x is (function t ts) ≡ fine f → laid_body env b place d x is t ts ≡ fine f
definition_fine env b place d x is t ts f e =
    let k = on_fine (few_variables env x d is) (λ _. parts_first (body_of env b t d ts is) (laid_body env b place d x is t ts)) f e in
    parts_first_fine (body_of env b t d ts is) (laid_body env b place d x is t ts) f k.2
