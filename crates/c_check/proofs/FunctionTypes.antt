-- The types of functions.
use Rattle.std.proofs.Common.{◌≡◌, List, [], ◌∷◌, refl, ap, sym, ◌∙◌, Vec, Global}
use Rattle.std.specs.Prelude.{Box}
use Rattle.c_tree.proofs.Rows.{function_is}
use Rattle.c_tree.specs.declared.tree.CType.{CType as TypeTree}
use Rattle.c_tree.specs.declared.tree.CType.TheVariants.{Function as FunctionVariant}
use Rattle.c_tree.specs.Tree.{function, more_types}
use Rattle.c_tree.specs.View.{ctype_of, ctypes_of, types_of}
use Rattle.c_tree.proofs.CopyLemmas.{packed}

packed_types : (ts : List TypeTree) → packed (ctypes_of ts) ≡ types_of ts
packed_types [] = refl
packed_types (t ∷ ts) = ap (more_types (ctype_of t)) (packed_types ts)

-- copied types
pub same_types : (ts us : List TypeTree) → ctypes_of ts ≡ ctypes_of us → types_of ts ≡ types_of us
same_types ts us same = sym (packed_types ts) ∙ (ap packed same ∙ packed_types us)

pub function_made_of : (b : Box TypeTree Global) (v : Vec TypeTree Global) (returns gives : TypeTree) (types : List TypeTree) → b.value ≡ gives → ctype_of gives ≡ ctype_of returns → ctypes_of v.items ≡ ctypes_of types
    → ctype_of (FunctionVariant b v) ≡ function (ctype_of returns) (types_of types)
function_made_of b v returns gives types is same all = function_is b v ∙ (λ i. function ((ap ctype_of is ∙ same) i) (same_types v.items types all i))

pub function_parts : (t : TypeTree) (b : Box TypeTree Global) (v : Vec TypeTree Global) (returns : TypeTree) (types : List TypeTree) → t ≡ FunctionVariant b v → returns ≡ b.value → types ≡ v.items → ctype_of t ≡ function (ctype_of returns) (types_of types)
function_parts t b v returns types is p q = ap ctype_of is ∙ (function_is b v ∙ (λ i. function (ctype_of (sym p i)) (types_of (sym q i))))
