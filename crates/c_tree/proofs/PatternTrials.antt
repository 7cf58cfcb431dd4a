-- Patterns of system calls with small arguments.
use Rattle.std.proofs.Common.{◌≡◌, ℤ, pos, negsuc, [], ◌∷◌, Some, None, refl}
use Rattle.std.specs.Int.{int_wrap}
use Rattle.sys_table.specs.Table.{table}
use Rattle.c_tree.specs.declared.value.IntType.TheVariants as t
use Rattle.c_tree.specs.declared.value.UnOp.TheVariants.{Minus, Not}
use Rattle.c_tree.specs.declared.value.BinOp.TheVariants.{Add, Div, Equal}
use Rattle.c_tree.specs.declared.value.Value.TheVariants.{Int, Uint}
use Rattle.c_tree.specs.Tree.{integer, Expr, constant, conversion, unary_operation, arithmetic, comparison, comma, decay, string_place, array, Exprs, no_exprs, more_exprs}
use Rattle.c_tree.specs.Functions.{int, unsigned_int, char_pointer}
use Rattle.c_tree.specs.Constants.{pattern_of}

abbrev number : ℤ → Expr
number z = constant int (Int z)

abbrev only : Expr → Exprs
only e = more_exprs e no_exprs

-- close(3)
a_number : pattern_of 3 (only (number (pos 3))) ≡ Some (pos 3) ∷ []
unfolding table int_wrap
a_number = refl

-- close(!0)
a_negation : pattern_of 3 (only (unary_operation int Not (number (pos 0)))) ≡ Some (pos 1) ∷ []
unfolding table int_wrap
a_negation = refl

-- close((char) 200), converted to int
a_char : pattern_of 3 (only (conversion int t.Int (conversion (integer t.Char) t.Char (number (pos 200))))) ≡ Some (negsuc 55) ∷ []
unfolding table int_wrap
a_char = refl

-- setuid(-1), converted to unsigned int
minus_one : pattern_of 19 (only (conversion unsigned_int t.Uint (unary_operation int Minus (number (pos 1))))) ≡ Some (pos 4294967295) ∷ []
unfolding table
minus_one = refl

-- close(1 == 1), close((1, 2)) and close(1 / 0)
no_comparison : pattern_of 3 (only (comparison int Equal (number (pos 1)) (number (pos 1)))) ≡ None ∷ []
unfolding table
no_comparison = refl

no_comma : pattern_of 3 (only (comma int (more_exprs (number (pos 1)) (only (number (pos 2)))))) ≡ None ∷ []
unfolding table
no_comma = refl

no_value : pattern_of 3 (only (arithmetic int Div (number (pos 1)) (number (pos 0)))) ≡ None ∷ []
unfolding table
no_value = refl

-- a string of six bytes and a zero
abbrev a_string : Expr
a_string = decay char_pointer (string_place (array (integer t.Char) 7) 0)

-- read(2 + 3, "...", 4u) and write(2, "...", 4u)
of_read : pattern_of 0 (more_exprs (arithmetic int Add (number (pos 2)) (number (pos 3))) (more_exprs a_string (only (constant unsigned_int (Uint 4))))) ≡ Some (pos 5) ∷ Some (pos 4) ∷ []
unfolding table int_wrap
of_read = refl

of_write : pattern_of 1 (more_exprs (number (pos 2)) (more_exprs a_string (only (constant unsigned_int (Uint 4))))) ≡ Some (pos 2) ∷ None ∷ []
unfolding table int_wrap
of_write = refl
