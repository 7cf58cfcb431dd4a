-- Entries of patterns fit their kinds.
use Rattle.std.proofs.Common.{ℕ, ◌<◌, pos, List, [], ◌∷◌, Option, Some, arith}
use Rattle.std.specs.List.{AllZip}
use Rattle.std.specs.Int.{w32, FitsUnsigned}
use Rattle.std.proofs.lemmas.Int.{ints, SFits-int_wrap}
use Rattle.sys_table.specs.declared.kinds.ArgKind.{ArgKind}
use Rattle.sys_table.specs.declared.kinds.ArgKind.TheVariants.{Signed, Unsigned, Bytes}
use Rattle.sys_table.specs.Table.{FitsEntry, IsRight, recorded_of}
use Rattle.c_tree.specs.declared.value.IntType.TheVariants.{Int, Uint}
use Rattle.c_tree.specs.declared.value.Value.{Value}
use Rattle.c_tree.specs.declared.value.Value.TheVariants as v
use Rattle.c_tree.specs.Tree.{Expr, Exprs, no_exprs, more_exprs}
use Rattle.c_tree.specs.Operators.{low_bits, convert}
use Rattle.c_tree.specs.Constants.{given_of, constant_value, number_in, entry, entries, recorded_arguments, pattern_of}
use Rattle.c_tree.proofs.OperatorLemmas.{below_32}

in_range : (n : ℕ) → n < 4294967296 → FitsUnsigned w32 (pos n)
in_range n h = grind (arith, ints, h)

signed_fits : (x : Option Value) → FitsEntry Signed (number_in (given_of x (convert Int)))
signed_fits (Some (v.Int z)) = SFits-int_wrap w32 z
signed_fits (Some (v.Uint n)) = SFits-int_wrap w32 (pos n)
signed_fits (Some (v.Char z)) = SFits-int_wrap w32 z
signed_fits (Some (v.Uchar n)) = SFits-int_wrap w32 (pos n)
signed_fits x = tt

unsigned_fits : (x : Option Value) → FitsEntry Unsigned (number_in (given_of x (convert Uint)))
unsigned_fits (Some (v.Int z)) = in_range (low_bits 32 z) (below_32 z)
unsigned_fits (Some (v.Uint n)) = in_range (low_bits 32 (pos n)) (below_32 (pos n))
unsigned_fits (Some (v.Char z)) = in_range (low_bits 32 z) (below_32 z)
unsigned_fits (Some (v.Uchar n)) = in_range (low_bits 32 (pos n)) (below_32 (pos n))
unsigned_fits x = tt

entry_fits : (kind : ArgKind) (e : Expr) → FitsEntry kind (entry kind e)
entry_fits Signed e = signed_fits (constant_value e)
entry_fits Unsigned e = unsigned_fits (constant_value e)
entry_fits Bytes e = tt

entries_fit : (kinds : List ArgKind) (es : Exprs) → AllZip FitsEntry kinds (entries kinds es)
entries_fit [] es = tt
entries_fit (kind ∷ kinds) no_exprs = (tt, entries_fit kinds no_exprs)
entries_fit (kind ∷ kinds) (more_exprs e es) = (entry_fits kind e, entries_fit kinds es)

pub patterns_right : (name : ℕ) (es : Exprs) → IsRight name (pattern_of name es)
patterns_right name es = entries_fit (recorded_of name) (recorded_arguments name es)
