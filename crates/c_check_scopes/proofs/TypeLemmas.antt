-- Types against prototypes.
use Rattle.std.proofs.Common.{◌≡◌, ◌<◌, Bool, true, ◌&&◌, List, [], ◌∷◌, length, Vec, Global, sym, ap, ◌∙◌, arith}
use Rattle.std.specs.Prelude.{Box, ◌==◌}
use Rattle.std.proofs.Math.Dec.{eqb-suc-zero}
use Rattle.c_tree.specs.declared.tree.CType.{CType as TypeTree}
use Rattle.c_tree.specs.declared.tree.CType.TheVariants.{Function}
use Rattle.c_tree.specs.View.{ctype_of, types_of}
use Rattle.c_tree.proofs.Rows.{function_is}
use Rattle.c_rules.specs.Types.{same_type, same_types}
use Rattle.c_tree.specs.declared.prototypes.PrototypeType.{PrototypeType}
use Rattle.c_tree.specs.declared.prototypes.Prototype.{Prototype}
use Rattle.c_tree.specs.Prototypes.{type_meant, types_meant, prototype_type}

-- no parameters
pub none_plain : (ts : List TypeTree) (ps : List PrototypeType) (r : Bool) → length ts < 1 → r ≡ (length ps == 0) → r ≡ same_types (types_of ts) (types_meant ps)
none_plain [] [] r lt is = is
none_plain [] (p ∷ ps) r lt is = is ∙ eqb-suc-zero (length ps)
none_plain (t ∷ ts) ps r lt is = absurd (omega (arith, lt))

-- a function whose result fits
pub by_parameters :
    (t u : TypeTree) (ts : List TypeTree) (p : Prototype) (r : Bool) (g : Box TypeTree Global) (v : Vec TypeTree Global) → t ≡ Function g v → u ≡ g.value → ts ≡ v.items
    → same_type (ctype_of u) (type_meant p.gives) ≡ true → r ≡ same_types (types_of ts) (types_meant p.takes.now) → r ≡ same_type (ctype_of t) (prototype_type p)
by_parameters t u ts p r g v is gives takes fits rest =
    let whole : same_type (ctype_of t) (prototype_type p) ≡ (same_type (ctype_of g.value) (type_meant p.gives) && same_types (types_of v.items) (types_meant p.takes.now)) =
    ap (λ x. same_type (ctype_of x) (prototype_type p)) is ∙ ap (λ x. same_type x (prototype_type p)) (function_is g v) in
    let first : same_type (ctype_of g.value) (type_meant p.gives) ≡ true = ap (λ x. same_type (ctype_of x) (type_meant p.gives)) (sym gives) ∙ fits in
    rest ∙ (ap (λ xs. same_types (types_of xs) (types_meant p.takes.now)) takes ∙ sym (whole ∙ ap (λ b. b && same_types (types_of v.items) (types_meant p.takes.now)) first))
