-- Copies of lists of types.
use Rattle.std.proofs.Common.{◌≡◌, List, [], ◌∷◌, map, Vec, Global, refl, ap, sym, ◌∙◌}
use Rattle.std.specs.Prelude.{Box}
use Rattle.c_tree.specs.declared.tree.CType.{CType as TypeTree}
use Rattle.c_tree.specs.declared.tree.CType.TheVariants.{Function}
use Rattle.c_tree.specs.Tree.{CType, function, CTypes, no_types, more_types}
use Rattle.c_tree.specs.View.{ctype_of, types_of}
use Rattle.c_tree.proofs.Rows.{function_is}

abbrev pub packed : List CType → CTypes
packed [] = no_types
packed (t ∷ ts) = more_types t (packed ts)

pub packed_types : (ts : List TypeTree) → packed (map ctype_of ts) ≡ types_of ts
packed_types [] = refl
packed_types (t ∷ ts) = ap (more_types (ctype_of t)) (packed_types ts)

pub same_types : (ts us : List TypeTree) → map ctype_of ts ≡ map ctype_of us → types_of ts ≡ types_of us
same_types ts us q = sym (packed_types ts) ∙ (ap packed q ∙ packed_types us)

-- a function whose parts were copied
pub copied_function : (a : TypeTree) (r s : Box TypeTree Global) (v w : Vec TypeTree Global) → a ≡ Function r v → ctype_of s.value ≡ ctype_of r.value → map ctype_of w.items ≡ map ctype_of v.items → ctype_of (Function s w) ≡ ctype_of a
copied_function a r s v w is same takes =
    function_is s w ∙ (ap (λ t. function t (types_of w.items)) same ∙ (ap (function (ctype_of r.value)) (same_types w.items v.items takes) ∙ (sym (function_is r v) ∙ sym (ap ctype_of is))))
