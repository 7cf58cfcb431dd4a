-- The definition of printed text tried on examples, whose texts are written out.
use Rattle.std.proofs.Common.{◌≡◌, [], ◌∷◌, ◌++◌, refl}
use Rattle.std.specs.Prelude.{codes, pos, negsuc}
use Rattle.c_lexer.specs.declared.token.TokenKind.TheVariants.{Char, Str}
use Rattle.c_lexer.specs.declared.punctuator.TheConstants as p
use Rattle.c_lexer.specs.Words.{keywords, punctuators}
use Rattle.c_syntax.specs.Tree.{operator, no_storage, char, int, a_name, binary, there, named, pointer, array, function, no_params, more_params}
use Rattle.c_syntax.specs.Tree.{no_init, no_parts, more_parts, decl, block, return_from, no_block_items, block_stmt, decl_item, function_item, no_items, more_items}
use Rattle.c_syntax.specs.Text.{kinds_text, unit_text}

-- int f(int x){return x*(y+x);}
a_function_prints :
    unit_text
    (more_items
    (function_item 0 no_storage int (function 4 (named 4 (record { name = codes "f"; at = 4 })) (more_params 6 int (named 10 (record { name = codes "x"; at = 10 })) no_params))
    (block 12 (block_stmt (return_from 13 (there (binary 20 (operator p.ASTERISK) (a_name 20 (codes "x")) (binary 23 (operator p.PLUS) (a_name 23 (codes "y")) (a_name 25 (codes "x")))))) no_block_items)))
    no_items)
    ≡ codes "int f ( int x ) {" ++ 10 ∷ codes "return x * ( y + x ) ;" ++ 10 ∷ codes "}" ++ 10 ∷ []
unfolding keywords punctuators
a_function_prints = refl

-- char *(*p[n])(void);
a_declarator_prints :
    unit_text
    (more_items
    (decl_item 0
    (decl 0 no_storage char (more_parts (pointer 5 (function 6 (pointer 7 (array 8 (named 8 (record { name = codes "p"; at = 8 })) (there (a_name 10 (codes "n"))))) no_params)) no_init no_parts)))
    no_items)
    ≡ codes "char * ( * p [ n ] ) ( void ) ;" ++ 10 ∷ []
unfolding keywords punctuators
a_declarator_prints = refl

-- the characters ', \ and 255, and a string with a quote of each kind, a line feed and a tilde
quoted_print :
    kinds_text (Char (pos 39) ∷ Char (pos 92) ∷ Char (negsuc 0) ∷ Str (39 ∷ 34 ∷ 10 ∷ 126 ∷ []) ∷ [])
    ≡ codes "'\\'' '\\\\' '\\377' \"'\\\"\\012~\" "
quoted_print = refl
