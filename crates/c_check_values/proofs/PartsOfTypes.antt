-- The parts of types of Rust.
use Rattle.std.proofs.Common.{◌≡◌, ℕ, ◌+◌, ◌<◌, List, length, drop, get_or, Vec, Global, Option, Some, None, ap, ◌∙◌, arith}
use Rattle.std.specs.Prelude.{IfSome, IfNone, Box}
use Rattle.c_tree.specs.declared.tree.CType.{CType as TypeTree}
use Rattle.c_tree.specs.declared.tree.CType.TheVariants.{Function}
use Rattle.c_tree.specs.View.{ctype_of, types_of}
use Rattle.c_tree.proofs.Rows.{function_is}
use Rattle.c_check_scopes.specs.Types.{parts, parts_of_all}
pub use Rattle.c_check_scopes.proofs.TableLemmas.{at_place}

pub rest_parts : (ts : List TypeTree) (i : ℕ) (t : TypeTree) → i < length ts → t ≡ get_or ts i t → parts_of_all (types_of (drop i ts)) ≡ 1 + (parts (ctype_of t) + parts_of_all (types_of (drop (i + 1) ts)))
rest_parts ts i t h q = ap (λ l. parts_of_all (types_of l)) (at_place ts i t h q)

pub function_parts : (a : TypeTree) (r : Box TypeTree Global) (v : Vec TypeTree Global) → a ≡ Function r v → parts (ctype_of a) ≡ 1 + (parts (ctype_of r.value) + parts_of_all (types_of v.items))
function_parts a r v q = ap (λ x. parts (ctype_of x)) q ∙ ap parts (function_is r v)

pub some_left : (r : Option ℕ) (whole pall most left : ℕ) → left + whole ≡ most + pall → IfSome r (λ n. n + pall ≡ left) → IfSome r (λ n. n + whole ≡ most)
some_left None whole pall most left q h = tt
some_left (Some n) whole pall most left q h = omega (arith, q, h)

pub none_left : (r : Option ℕ) (whole pall most left : ℕ) → left + whole ≡ most + pall → IfNone r (left < pall) → IfNone r (most < whole)
none_left None whole pall most left q h = omega (arith, q, h)
none_left (Some n) whole pall most left q h = tt
