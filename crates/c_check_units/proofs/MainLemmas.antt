-- The type of `main`.
use Rattle.std.proofs.Common.{◌≡◌, ◌≤◌, Bool, true, false, List, [], ◌∷◌, length, Vec, Global, refl, sym, ap, ◌∙◌, arith}
use Rattle.std.specs.Prelude.{Box, ◌&&◌}
use Rattle.c_tree.proofs.Rows.{function_is}
use Rattle.c_tree.specs.declared.tree.CType.{CType as TypeTree}
use Rattle.c_tree.specs.declared.tree.CType.TheVariants.{Function}
use Rattle.c_tree.specs.Functions.{int, of_none}
use Rattle.c_tree.specs.Tree.{no_types}
use Rattle.c_tree.specs.View.{ctype_of, types_of}
use Rattle.c_rules.specs.Types.{same_type, same_types}

pub some_are : (ts : List TypeTree) → 1 ≤ length ts → false ≡ same_types (types_of ts) no_types
some_are [] h = absurd (omega (arith, h))
some_are (t ∷ ts) h = refl

-- a function that gives an int
pub for_main : (t u : TypeTree) (ts : List TypeTree) (r : Bool) (g : Box TypeTree Global) (v : Vec TypeTree Global) → t ≡ Function g v → u ≡ g.value → ts ≡ v.items → same_type (ctype_of u) int ≡ true
    → r ≡ same_types (types_of ts) no_types → r ≡ same_type (ctype_of t) (of_none int)
for_main t u ts r g v is gives takes fits rest =
    let whole : same_type (ctype_of t) (of_none int) ≡ (same_type (ctype_of g.value) int && same_types (types_of v.items) no_types) = ap (λ x. same_type (ctype_of x) (of_none int)) is ∙ ap (λ x. same_type x (of_none int)) (function_is g v) in
    let first : same_type (ctype_of g.value) int ≡ true = ap (λ x. same_type (ctype_of x) int) (sym gives) ∙ fits in
    rest ∙ (ap (λ xs. same_types (types_of xs) no_types) takes ∙ sym (whole ∙ ap (λ b. b && same_types (types_of v.items) no_types) first))
