-- The two limits of nesting tried: blocks within each other, and a name in pairs of parentheses.
use Rattle.std.proofs.Common.{◌≡◌, ◌≤◌, ℕ, zero, suc, ◌+◌, List, [], ◌∷◌, refl, arith}
use Rattle.c_lexer.specs.Mode.TheVariants.{Plain, Instrumented}
use Rattle.c_lexer.specs.declared.token.Token.{Token}
use Rattle.c_lexer.specs.declared.punctuator.TheConstants as p
use Rattle.c_lexer.specs.declared.keyword.TheConstants as w
use Rattle.c_syntax.specs.Tree.{Expr, a_name, named, function, no_params, no_storage, int, Stmt, block, no_block_items, block_stmt, function_item, Items, no_items, more_items}
use Rattle.c_syntax.specs.Tokens.{Is, IsKeyword, IsNameToken}
use Rattle.c_syntax.specs.Specifiers.{no_const, no_storage_stands, is_int, is_void}
use Rattle.c_syntax.specs.Grammar.{Level, expression_level, Reads, is_name, is_int as int_stands, is_char, are_strings, in_parentheses, with_suffixes, no_prefix, a_prefix, a_unary, a_sizeof_type, no_cast, a_cast, no_chain, a_chain}
use Rattle.c_syntax.specs.Grammar.{no_choice, a_choice, no_assignment, an_assignment, no_comma, a_comma, a_direct, a_declared, no_more, a_function, are_none}
use Rattle.c_syntax.specs.Statements.{ReadsStmt, a_block, no_block_item, a_block_stmt, a_definition, last_item}
use Rattle.c_syntax.specs.Limits.{height_of_stmt, most_pairs}
use Rattle.c_syntax.specs.Spelling.{SpellsUnit}
use Rattle.c_syntax_printing.specs.Starts.{start}
use Rattle.c_syntax_printing.proofs.Ends.{started, started_word, started_name, started_int, started_char, started_unary, started_prefix}
use Rattle.c_syntax_printing.proofs.Begins.{strings_begin, type_begins}
use Rattle.c_syntax_printing.proofs.Trials.{whole}

-- a block with so many blocks within each other in it, all at one place
abbrev blocks : ℕ → ℕ → Stmt
blocks at zero = block at no_block_items
blocks at (suc n) = block at (block_stmt (blocks at n) no_block_items)

height_of_blocks : (at n : ℕ) → height_of_stmt (blocks at n) ≡ n + 1
height_of_blocks at zero = refl
height_of_blocks at (suc n) = omega (arith, height_of_blocks at n)

-- { { .. } }
abbrev braces : Token → Token → ℕ → List Token → List Token
braces o c zero k = o ∷ c ∷ k
braces o c (suc n) k = o ∷ braces o c n (c ∷ k)

blocks_read : {d : ℕ} {o c : Token} → Is p.LEFT_BRACE o → Is p.RIGHT_BRACE c → (n : ℕ) (k : List Token) → ReadsStmt d (blocks o.from n) (braces o c n k) k
blocks_read h g zero k = a_block h no_block_item g
blocks_read {c = c} h g (suc n) k = a_block h (a_block_stmt (blocks_read h g n (c ∷ k)) no_block_item) g

-- int main ( void ) and n + 1 blocks
abbrev main_function : (at : ℕ) (name : List ℕ) (name_at block_at n : ℕ) → Items
main_function at name name_at block_at n = more_items (function_item at no_storage int (function name_at (named name_at (record { name = name; at = name_at })) no_params) (blocks block_at n)) no_items

-- n + 2 blocks are spelled within each limit that is not below
within : {name : List ℕ} {t i l v r o c : Token} → IsKeyword w.INT t → IsNameToken name i → Is p.LEFT_PARENTHESIS l → IsKeyword w.VOID v → Is p.RIGHT_PARENTHESIS r → Is p.LEFT_BRACE o → Is p.RIGHT_BRACE c → (n : ℕ) → n + 2 ≤ 200 →
    SpellsUnit (main_function t.from name i.from o.from (suc n)) (t ∷ i ∷ l ∷ v ∷ r ∷ braces o c (suc n) []) Plain
within {o = o} {c = c} t i l v r h g n few = record {
  reads =
      last_item
      (a_definition refl no_storage_stands (is_int no_const t no_const)
      (a_direct refl (a_declared (record { name = i; at = refl })) (a_function l (are_none (is_void no_const v no_const)) r no_more))
      tt
      h
      (a_block_stmt (blocks_read h g n (c ∷ [])) no_block_item)
      g);
  nested = omega (arith, height_of_blocks o.from n);
}

-- 200 blocks are spelled in the mode Plain
two_hundred : {name : List ℕ} {t i l v r o c : Token} → IsKeyword w.INT t → IsNameToken name i → Is p.LEFT_PARENTHESIS l → IsKeyword w.VOID v → Is p.RIGHT_PARENTHESIS r → Is p.LEFT_BRACE o → Is p.RIGHT_BRACE c →
    SpellsUnit (main_function t.from name i.from o.from 199) (t ∷ i ∷ l ∷ v ∷ r ∷ braces o c 199 []) Plain
two_hundred t i l v r h g = within t i l v r h g 198 (omega arith)

-- 201 are not, by any tokens
no_more_in_plain : (at : ℕ) (name : List ℕ) (name_at block_at n : ℕ) (tokens : List Token) → 201 ≤ n + 1 → SpellsUnit (main_function at name name_at block_at n) tokens Plain → ⊥
no_more_in_plain at name name_at block_at n tokens many s = omega (arith, s.nested, height_of_blocks block_at n)

-- 501 are spelled in no mode
no_more_in_instrumented : (at : ℕ) (name : List ℕ) (name_at block_at n : ℕ) (tokens : List Token) → 501 ≤ n + 1 → SpellsUnit (main_function at name name_at block_at n) tokens Instrumented → ⊥
no_more_in_instrumented at name name_at block_at n tokens many s = omega (arith, s.nested, height_of_blocks block_at n)

-- ( ( .. a .. ) )
abbrev pairs : Token → Token → ℕ → Token → List Token → List Token
pairs o c zero t k = t ∷ k
pairs o c (suc n) t k = o ∷ pairs o c n t (c ∷ k)

-- n pairs are read where n may stand there
pairs_read : {name : List ℕ} {o c t : Token} → Is p.LEFT_PARENTHESIS o → Is p.RIGHT_PARENTHESIS c → IsNameToken name t → (n : ℕ) (k : List Token) → Reads n expression_level (a_name t.from name) (pairs o c n t k) k
pairs_read h g i zero k = whole (is_name i)
pairs_read {c = c} h g i (suc n) k = whole (in_parentheses h (pairs_read h g i n (c ∷ k)) g)

five_hundred : {name : List ℕ} {o c t : Token} → Is p.LEFT_PARENTHESIS o → Is p.RIGHT_PARENTHESIS c → IsNameToken name t → Reads most_pairs expression_level (a_name t.from name) (pairs o c 500 t []) []
five_hundred h g i = pairs_read h g i 500 []

-- an expression that begins with a parenthesis, which begins no cast, has an expression with a pair less in it
abbrev Inside : ℕ → List Token → Type 0
Inside d i = (x : ℕ) × (d ≡ suc x) × ((e : Expr) × (j : List Token) × Reads x expression_level e i j)

inside : {d : ℕ} {l : Level} {e : Expr} {o : Token} {i j : List Token} → Is p.LEFT_PARENTHESIS o → start i ≤ 5 → Reads d l e (o ∷ i) j → Inside d i
inside o s (is_name h) = absurd (omega (arith, started_name h, started o))
inside o s (int_stands h) = absurd (omega (arith, started_int h, started o))
inside o s (is_char h) = absurd (omega (arith, started_char h, started o))
inside o s (are_strings p r) = absurd (omega (arith, strings_begin r, started o))
inside o s (in_parentheses h r c) = (_, refl, (_, _, r))
inside o s (with_suffixes p r c) = inside o s r
inside o s (no_prefix r) = inside o s r
inside o s (a_prefix {p = p} h r) = absurd (omega (arith, started_prefix _ p h, started o))
inside o s (a_unary h u r) = absurd (omega (arith, (started_unary h u).1, started o))
inside o s (a_sizeof_type h q r c) = absurd (omega (arith, started_word h, started o))
inside o s (no_cast r) = inside o s r
inside o s (a_cast h n c r) = absurd (omega (arith, s, (type_begins n).0))
inside o s (no_chain r) = inside o s r
inside o s (a_chain p r c) = inside o s r
inside o s (no_choice r) = inside o s r
inside o s (a_choice p r q b c g) = inside o s r
inside o s (no_assignment r) = inside o s r
inside o s (an_assignment p r h u b) = inside o s r
inside o s (no_comma r) = inside o s r
inside o s (a_comma p r h b) = inside o s r

pairs_begin : {name : List ℕ} {o t : Token} (c : Token) → Is p.LEFT_PARENTHESIS o → IsNameToken name t → (n : ℕ) (k : List Token) → start (pairs o c n t k) ≤ 5
pairs_begin c h i zero k = omega (arith, started_name i)
pairs_begin c h i (suc n) k = omega (arith, started h)

-- n pairs are read only where n may stand there
pairs_needed : {name : List ℕ} {o t : Token} (c : Token) → Is p.LEFT_PARENTHESIS o → IsNameToken name t → (n : ℕ) {d : ℕ} {e : Expr} (k : List Token) {j : List Token} → Reads d expression_level e (pairs o c n t k) j → n ≤ d
pairs_needed c h i zero k r = omega arith
pairs_needed c h i (suc n) k r =
    let (x, is, (_, _, s)) = inside h (pairs_begin c h i n (c ∷ k)) r in
    omega (arith, is, pairs_needed c h i n (c ∷ k) s)

no_more_pairs : {name : List ℕ} {o t : Token} (c : Token) {e : Expr} {j : List Token} → Is p.LEFT_PARENTHESIS o → IsNameToken name t → Reads most_pairs expression_level e (pairs o c 501 t []) j → ⊥
no_more_pairs c h i r = omega (arith, pairs_needed c h i 501 [] r)
