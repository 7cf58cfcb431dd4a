-- The tokens that an expression, a declarator or the name of a type is printed with are read back as the same, apart from places.
use Rattle.std.proofs.Common.{◌≡◌, ℕ, zero, suc, ◌≤◌, Bool, true, false, List, ◌∷◌, refl, ap, ap₂, le_of_suc-le-suc, arith}
use Rattle.std.specs.Prelude.{max}
use Rattle.c_lexer.specs.declared.token.Token.{Token}
use Rattle.c_lexer.specs.declared.token.TokenKind.{TokenKind}
use Rattle.c_lexer.specs.declared.token.TokenKind.TheVariants.{Name, Keyword, Int, Char, Str, Punct}
use Rattle.c_lexer.specs.declared.punctuator.TheConstants as p
use Rattle.c_lexer.specs.declared.keyword.TheConstants as w
use Rattle.c_syntax.specs.Tree.{Spec, Postfix, post_increment, post_decrement, Prefix, pre_increment, Access, dot, arrow}
use Rattle.c_syntax.specs.Tree.{Expr, a_name, an_int, a_char, a_str, comma, sizeof_type, cast, call, member, postfix, prefix, unary, index, binary, assign, conditional}
use Rattle.c_syntax.specs.Tree.{Exprs, no_exprs, more_exprs, Maybe, absent, there, TypeName, type_name, Declarator, nothing, named, pointer, array, function, Params, no_params, more_params}
use Rattle.c_syntax.specs.Tokens.{IsPostfix, IsPrefix, IsAccess, place, code_of_infix}
use Rattle.c_syntax.specs.Specifiers.{no_const, ReadsSpec, is_void}
use Rattle.c_syntax.specs.Grammar.{Level, postfix_level, assignment_level, expression_level, last_string, IsThere}
use Rattle.c_syntax.specs.Grammar.{Reads, is_name, is_int, is_char, are_strings, in_parentheses, with_suffixes, no_prefix, a_prefix, a_unary, a_sizeof_type, no_cast, a_cast, a_chain, a_choice, no_assignment, an_assignment, no_comma, a_comma}
use Rattle.c_syntax.specs.Grammar.{ReadsList, last_expr, next_expr, no_suffix, an_index, an_empty_call, a_call, a_member, a_postfix, no_operator, an_operator}
use Rattle.c_syntax.specs.Grammar.{ReadsSize, no_size, a_size, ReadsType, a_type, Declares, a_pointer, a_declared, declarator_in_parentheses, no_core, no_more, an_array, a_function, ReadsParams, are_none, are_some, ReadsEach, last_param, next_param}
use Rattle.c_syntax.specs.Limits.{height, height_of_exprs, height_of_maybe, height_of_type, height_of_declarator, height_of_params}
use Rattle.c_syntax.specs.Same.{unplaced_exprs, unplaced_maybe, unplaced_type, unplaced_params}
use Rattle.c_syntax.specs.Print.{spec_kinds, prefix_kind, postfix_kind, access_kind, is_bare, wrapped, is_direct, expr_kinds, list_kinds, next_kinds, size_kinds, type_kinds, declarator_kinds, params_kinds, next_params}
use Rattle.c_syntax_printing.specs.Fine.{IsFine, AreFine, IsFineMaybe, IsFineType, IsFineDeclarator, AreFineParams, IsParameterList}
use Rattle.c_syntax.proofs.BackTokens.{kinds, headed, mark, word, ends, begins, BackOf, ends_at, begins_at, two, ap_three, as_casting, chained_up, from_level, as_choosing, as_assigning, as_expression, suffixed_by, begins_suffixes, begins_lengthens}
use Rattle.c_syntax_printing.proofs.Depths.{both, deeper}
use Rattle.c_syntax_printing.proofs.PrefixFails.{tall}
use Rattle.c_syntax_printing.proofs.BackParts.{back_name, back_spec, has_no_name, is_there, are_some_too, Back, Direct, BackDeclarator, declares_of, lengthened_by, there_if}

abbrev pub own : Bool → Level
own true = postfix_level
own false = expression_level

-- an expression of either kind is one of the weakest level
pub to_expression : (b : Bool) {d : ℕ} {e : Expr} {i j : List Token} → Reads d (own b) e i j → Reads d expression_level e i j
to_expression true r = as_expression (as_casting r)
to_expression false r = r

is_prefix : (o : Prefix) (t : Token) → t.kind ≡ prefix_kind o → IsPrefix o t
is_prefix pre_increment t q = record { kind = q }
is_prefix o t q = record { kind = q }

is_postfix : (o : Postfix) (t : Token) → t.kind ≡ postfix_kind o → IsPostfix o t
is_postfix post_increment t q = record { kind = q }
is_postfix post_decrement t q = record { kind = q }

is_access : (o : Access) (t : Token) → t.kind ≡ access_kind o → IsAccess o t
is_access dot t q = record { kind = q }
is_access arrow t q = record { kind = q }

some_declarator_height : (e : Declarator) → IsThere e → 1 ≤ height_of_declarator e
some_declarator_height nothing h = absurd h
some_declarator_height e h = omega arith

-- in parentheses where it isn't bare
pub operand_back : (b : Bool) (d : ℕ) (e : Expr) (f : List TokenKind → List TokenKind) → ((x : ℕ) → height e ≤ suc x → (ts : List Token) (k : List TokenKind) → kinds ts ≡ f k → Back (own b) x e ts k) → height e ≤ d →
    (ts : List Token) (k : List TokenKind) → kinds ts ≡ wrapped b f k → Back postfix_level d e ts k
operand_back true d e f rec v ts k q = rec d (omega arith) ts k q
operand_back false zero e f rec v ts k q = absurd (omega (arith, tall e))
operand_back false (suc d) e f rec v ts k q =
    let h = headed (Punct p.LEFT_PARENTHESIS) ts (f (Punct p.RIGHT_PARENTHESIS ∷ k)) q in
    let x = rec d v h.rest (Punct p.RIGHT_PARENTHESIS ∷ k) h.left in
    let c = headed (Punct p.RIGHT_PARENTHESIS) x.after k x.left in
    record {
      tree = x.tree;
      after = c.rest;
      same = x.same;
      left = c.left;
      reads = begins h.is (with_suffixes refl (in_parentheses (mark h) (ends c.is x.reads) (mark c)) no_suffix);
    }

-- a declarator in parentheses where it is a pointer
inner_back : (b : Bool) (d : ℕ) (e : Declarator) (f : List TokenKind → List TokenKind) → ((x : ℕ) → height_of_declarator e ≤ suc x → (ts : List Token) (k : List TokenKind) → kinds ts ≡ f k → BackDeclarator b x e ts k) → (b ≡ false → IsThere e) → height_of_declarator e ≤ d →
    (ts : List Token) (k : List TokenKind) → kinds ts ≡ wrapped b f k → BackDeclarator true d e ts k
inner_back true d e f rec g v ts k q = rec d (omega arith) ts k q
inner_back false zero e f rec g v ts k q = absurd (omega (arith, some_declarator_height e (g refl)))
inner_back false (suc d) e f rec g v ts k q =
    let h = headed (Punct p.LEFT_PARENTHESIS) ts (f (Punct p.RIGHT_PARENTHESIS ∷ k)) q in
    let x = rec d v h.rest (Punct p.RIGHT_PARENTHESIS ∷ k) h.left in
    let c = headed (Punct p.RIGHT_PARENTHESIS) x.after k x.left in
    record {
      tree = x.tree;
      after = c.rest;
      same = x.same;
      left = c.left;
      reads = begins_at (Direct (suc d) x.tree) h.is (record { at = _; core = x.tree; middle = c.rest; is = refl; reads = declarator_in_parentheses (mark h) (ends_at (Declares d x.tree) c.is x.reads) (is_there e x.tree x.same (g refl)) (mark c); longer = no_more });
    }

mutual
  pub back : (e : Expr) → IsFine e → (d : ℕ) → height e ≤ suc d → (ts : List Token) (k : List TokenKind) → kinds ts ≡ expr_kinds e k → Back (own (is_bare e)) d e ts k
  back (a_name at n) f d v ts k q =
      let h = headed (Name n) ts k q in record { tree = a_name h.token.from n; after = h.rest; reads = begins h.is (with_suffixes refl (is_name (record { kind = h.kind })) no_suffix); same = refl; left = h.left }
  back (an_int at n u) f d v ts k q =
      let h = headed (Int n u) ts k q in record { tree = an_int h.token.from n u; after = h.rest; reads = begins h.is (with_suffixes refl (is_int (record { kind = h.kind })) no_suffix); same = refl; left = h.left }
  back (a_char at c) f d v ts k q =
      let h = headed (Char c) ts k q in record { tree = a_char h.token.from c; after = h.rest; reads = begins h.is (with_suffixes refl (is_char (record { kind = h.kind })) no_suffix); same = refl; left = h.left }
  back (a_str at bytes) f d v ts k q =
      let h = headed (Str bytes) ts k q in
      record { tree = a_str h.token.from bytes; after = h.rest; reads = begins h.is (with_suffixes refl (are_strings refl (last_string (record { kind = h.kind }))) no_suffix); same = refl; left = h.left }
  back (comma at (more_exprs a (more_exprs b es))) f d v ts k q =
      let low = both (height a) (height_of_exprs (more_exprs b es)) (le_of_suc-le-suc v) in
      let lower = both (height b) (height_of_exprs es) low.1 in
      let x = operand_back (is_bare a) d a (expr_kinds a) (back a f.1.0) low.0 ts (next_kinds (more_exprs b es) k) q in
      let h = headed (Punct p.COMMA) x.after (wrapped (is_bare b) (expr_kinds b) (next_kinds es k)) x.left in
      let y = operand_back (is_bare b) d b (expr_kinds b) (back b f.1.1.0) lower.0 h.rest (next_kinds es k) h.left in
      let z = back_rest es f.1.1.1 d lower.1 y.tree h.rest y.after k (as_assigning y.reads) y.left in
      record {
        tree = comma _ (more_exprs x.tree (more_exprs y.tree z.tree));
        after = z.after;
        same = ap (comma 0) (ap₂ more_exprs x.same (ap₂ more_exprs y.same z.same));
        left = z.left;
        reads = a_comma refl (ends h.is (as_assigning x.reads)) (mark h) z.reads;
      }
  back (sizeof_type at n) f d v ts k q =
      let h = headed (Keyword w.SIZEOF) ts (Punct p.LEFT_PARENTHESIS ∷ type_kinds n (Punct p.RIGHT_PARENTHESIS ∷ k)) q in
      let o = headed (Punct p.LEFT_PARENTHESIS) h.rest (type_kinds n (Punct p.RIGHT_PARENTHESIS ∷ k)) h.left in
      let x = back_type n f d (le_of_suc-le-suc v) o.rest (Punct p.RIGHT_PARENTHESIS ∷ k) o.left in
      let c = headed (Punct p.RIGHT_PARENTHESIS) x.after k x.left in
      record {
        tree = sizeof_type h.token.from x.tree;
        after = c.rest;
        same = ap (sizeof_type 0) x.same;
        left = c.left;
        reads = as_expression (no_cast (begins (two h.is o.is) (a_sizeof_type (word h) (mark o) (ends_at (ReadsType d x.tree) c.is x.reads) (mark c))));
      }
  back (cast at n a) f d v ts k q =
      let low = both (height_of_type n) (height a) (le_of_suc-le-suc v) in
      let h = headed (Punct p.LEFT_PARENTHESIS) ts (type_kinds n (Punct p.RIGHT_PARENTHESIS ∷ wrapped (is_bare a) (expr_kinds a) k)) q in
      let x = back_type n f.0 d low.0 h.rest (Punct p.RIGHT_PARENTHESIS ∷ wrapped (is_bare a) (expr_kinds a) k) h.left in
      let c = headed (Punct p.RIGHT_PARENTHESIS) x.after (wrapped (is_bare a) (expr_kinds a) k) x.left in
      let y = operand_back (is_bare a) d a (expr_kinds a) (back a f.1) low.1 c.rest k c.left in
      record {
        tree = cast h.token.from x.tree y.tree;
        after = y.after;
        same = ap₂ (cast 0) x.same y.same;
        left = y.left;
        reads = as_expression (begins h.is (a_cast (mark h) (ends_at (ReadsType d x.tree) c.is x.reads) (mark c) (as_casting y.reads)));
      }
  back (call at a no_exprs) f d v ts k q =
      let x = operand_back (is_bare a) d a (expr_kinds a) (back a f.0) (both (height a) 0 (le_of_suc-le-suc v)).0 ts (Punct p.LEFT_PARENTHESIS ∷ Punct p.RIGHT_PARENTHESIS ∷ k) q in
      let h = headed (Punct p.LEFT_PARENTHESIS) x.after (Punct p.RIGHT_PARENTHESIS ∷ k) x.left in
      let c = headed (Punct p.RIGHT_PARENTHESIS) h.rest k h.left in
      let z = suffixed_by {F = λ at. call at x.tree no_exprs} x.reads (λ at. begins_suffixes (two h.is c.is) (an_empty_call (mark h) (mark c) no_suffix)) in
      record { tree = call z.0 x.tree no_exprs; after = c.rest; same = ap (λ (b : Expr). call 0 b no_exprs) x.same; left = c.left; reads = z.1 }
  back (call at a (more_exprs b es)) f d v ts k q =
      let low = both (height a) (height_of_exprs (more_exprs b es)) (le_of_suc-le-suc v) in
      let lower = both (height b) (height_of_exprs es) low.1 in
      let x = operand_back (is_bare a) d a (expr_kinds a) (back a f.0) low.0 ts (Punct p.LEFT_PARENTHESIS ∷ list_kinds (more_exprs b es) (Punct p.RIGHT_PARENTHESIS ∷ k)) q in
      let h = headed (Punct p.LEFT_PARENTHESIS) x.after (list_kinds (more_exprs b es) (Punct p.RIGHT_PARENTHESIS ∷ k)) x.left in
      let y = operand_back (is_bare b) d b (expr_kinds b) (back b f.1.0) lower.0 h.rest (next_kinds es (Punct p.RIGHT_PARENTHESIS ∷ k)) h.left in
      let u = back_rest es f.1.1 d lower.1 y.tree h.rest y.after (Punct p.RIGHT_PARENTHESIS ∷ k) (as_assigning y.reads) y.left in
      let c = headed (Punct p.RIGHT_PARENTHESIS) u.after k u.left in
      let z = suffixed_by {F = λ at. call at x.tree (more_exprs y.tree u.tree)} x.reads (λ at. begins_suffixes h.is (a_call (mark h) (ends_at (ReadsList d (more_exprs y.tree u.tree)) c.is u.reads) (mark c) no_suffix)) in
      record { tree = call z.0 x.tree (more_exprs y.tree u.tree); after = c.rest; same = ap₂ (call 0) x.same (ap₂ more_exprs y.same u.same); left = c.left; reads = z.1 }
  back (member at access a m) f d v ts k q =
      let x = operand_back (is_bare a) d a (expr_kinds a) (back a f) (le_of_suc-le-suc v) ts (access_kind access ∷ Name m.name ∷ k) q in
      let h = headed (access_kind access) x.after (Name m.name ∷ k) x.left in
      let g = back_name m h.rest k h.left in
      let z = suffixed_by {F = λ at. member at access x.tree g.ident} x.reads (λ at. begins_suffixes (two h.is g.heads.is) (a_member (is_access access h.token h.kind) g.names no_suffix)) in
      record { tree = member z.0 access x.tree g.ident; after = g.heads.rest; same = ap₂ (member 0 access) x.same g.same; left = g.heads.left; reads = z.1 }
  back (postfix at o a) f d v ts k q =
      let x = operand_back (is_bare a) d a (expr_kinds a) (back a f) (le_of_suc-le-suc v) ts (postfix_kind o ∷ k) q in
      let h = headed (postfix_kind o) x.after k x.left in
      let z = suffixed_by {F = λ at. postfix at o x.tree} x.reads (λ at. begins_suffixes h.is (a_postfix (is_postfix o h.token h.kind) no_suffix)) in
      record { tree = postfix z.0 o x.tree; after = h.rest; same = ap (postfix 0 o) x.same; left = h.left; reads = as_expression (as_casting z.1) }
  back (prefix at o a) f d v ts k q =
      let h = headed (prefix_kind o) ts (wrapped (is_bare a) (expr_kinds a) k) q in
      let x = operand_back (is_bare a) d a (expr_kinds a) (back a f) (le_of_suc-le-suc v) h.rest k h.left in
      record { tree = prefix h.token.from o x.tree; after = x.after; same = ap (prefix 0 o) x.same; left = x.left; reads = as_expression (no_cast (begins h.is (a_prefix (is_prefix o h.token h.kind) (no_prefix x.reads)))) }
  back (unary at op a) f d v ts k q =
      let h = headed (Punct op) ts (wrapped (is_bare a) (expr_kinds a) k) q in
      let x = operand_back (is_bare a) d a (expr_kinds a) (back a f.1) (le_of_suc-le-suc v) h.rest k h.left in
      record { tree = unary h.token.from op x.tree; after = x.after; same = ap (unary 0 op) x.same; left = x.left; reads = as_expression (no_cast (begins h.is (a_unary (mark h) f.0 (as_casting x.reads)))) }
  back (index at a b) f d v ts k q =
      let low = both (height a) (height b) (le_of_suc-le-suc v) in
      let x = operand_back (is_bare a) d a (expr_kinds a) (back a f.0) low.0 ts (Punct p.LEFT_BRACKET ∷ expr_kinds b (Punct p.RIGHT_BRACKET ∷ k)) q in
      let h = headed (Punct p.LEFT_BRACKET) x.after (expr_kinds b (Punct p.RIGHT_BRACKET ∷ k)) x.left in
      let y = back b f.1 d (deeper (height b) low.1) h.rest (Punct p.RIGHT_BRACKET ∷ k) h.left in
      let c = headed (Punct p.RIGHT_BRACKET) y.after k y.left in
      let z = suffixed_by {F = λ at. index at x.tree y.tree} x.reads (λ at. begins_suffixes h.is (an_index (mark h) (ends c.is (to_expression (is_bare b) y.reads)) (mark c) no_suffix)) in
      record { tree = index z.0 x.tree y.tree; after = c.rest; same = ap₂ (index 0) x.same y.same; left = c.left; reads = z.1 }
  back (binary at o a b) f d v ts k q =
      let low = both (height a) (height b) (le_of_suc-le-suc v) in
      let x = operand_back (is_bare a) d a (expr_kinds a) (back a f.1) low.0 ts (Punct (code_of_infix o) ∷ wrapped (is_bare b) (expr_kinds b) k) q in
      let h = headed (Punct (code_of_infix o)) x.after (wrapped (is_bare b) (expr_kinds b) k) x.left in
      let y = operand_back (is_bare b) d b (expr_kinds b) (back b f.2) low.1 h.rest k h.left in
      record {
        tree = binary _ o x.tree y.tree;
        after = y.after;
        same = ap₂ (binary 0 o) x.same y.same;
        left = y.left;
        reads = from_level f.0.level f.0.low (a_chain refl (chained_up f.0.level (as_casting (ends h.is x.reads))) (an_operator f.0.is (mark h) (chained_up f.0.level (as_casting y.reads)) no_operator));
      }
  back (assign at op a b) f d v ts k q =
      let low = both (height a) (height b) (le_of_suc-le-suc v) in
      let x = operand_back (is_bare a) d a (expr_kinds a) (back a f.1) low.0 ts (Punct op ∷ wrapped (is_bare b) (expr_kinds b) k) q in
      let h = headed (Punct op) x.after (wrapped (is_bare b) (expr_kinds b) k) x.left in
      let y = operand_back (is_bare b) d b (expr_kinds b) (back b f.2) low.1 h.rest k h.left in
      record {
        tree = assign _ op x.tree y.tree;
        after = y.after;
        same = ap₂ (assign 0 op) x.same y.same;
        left = y.left;
        reads = no_comma (an_assignment refl (no_prefix (ends h.is x.reads)) (mark h) f.0 (as_assigning y.reads));
      }
  back (conditional at a b c) f d v ts k q =
      let low = both (height a) (max (height b) (height c)) (le_of_suc-le-suc v) in
      let lower = both (height b) (height c) low.1 in
      let x = operand_back (is_bare a) d a (expr_kinds a) (back a f.0) low.0 ts (Punct p.QUESTION ∷ wrapped (is_bare b) (expr_kinds b) (Punct p.COLON ∷ wrapped (is_bare c) (expr_kinds c) k)) q in
      let h = headed (Punct p.QUESTION) x.after (wrapped (is_bare b) (expr_kinds b) (Punct p.COLON ∷ wrapped (is_bare c) (expr_kinds c) k)) x.left in
      let y = operand_back (is_bare b) d b (expr_kinds b) (back b f.1) lower.0 h.rest (Punct p.COLON ∷ wrapped (is_bare c) (expr_kinds c) k) h.left in
      let o = headed (Punct p.COLON) y.after (wrapped (is_bare c) (expr_kinds c) k) y.left in
      let z = operand_back (is_bare c) d c (expr_kinds c) (back c f.2) lower.1 o.rest k o.left in
      record {
        tree = conditional _ x.tree y.tree z.tree;
        after = z.after;
        same = ap_three (conditional 0) x.same y.same z.same;
        left = z.left;
        reads = no_comma (no_assignment (a_choice refl (chained_up 10 (as_casting (ends h.is x.reads))) (mark h) (ends o.is (as_expression (as_casting y.reads))) (mark o) (as_choosing (as_casting z.reads))));
      }
  back e f d v ts k q = absurd f.0

  back_rest : (es : Exprs) → AreFine es → (d : ℕ) → height_of_exprs es ≤ d → (a : Expr) (i after : List Token) (k : List TokenKind) → Reads d assignment_level a i after → kinds after ≡ next_kinds es k → BackOf (λ (fs : Exprs). ReadsList d (more_exprs a fs)) unplaced_exprs es i k
  back_rest no_exprs f d v a i after k r q = record { tree = no_exprs; after = after; reads = last_expr r; same = refl; left = q }
  back_rest (more_exprs b es) f d v a i after k r q =
      let low = both (height b) (height_of_exprs es) v in
      let h = headed (Punct p.COMMA) after (wrapped (is_bare b) (expr_kinds b) (next_kinds es k)) q in
      let y = operand_back (is_bare b) d b (expr_kinds b) (back b f.0) low.0 h.rest (next_kinds es k) h.left in
      let z = back_rest es f.1 d low.1 y.tree h.rest y.after k (as_assigning y.reads) y.left in
      record { tree = more_exprs y.tree z.tree; after = z.after; reads = next_expr (ends h.is r) (mark h) z.reads; same = ap₂ more_exprs y.same z.same; left = z.left }

  pub back_size : (e : Maybe) → IsFineMaybe e → (d : ℕ) → height_of_maybe e ≤ d → (ts : List Token) (k : List TokenKind) → kinds ts ≡ size_kinds e k → BackOf (ReadsSize d) unplaced_maybe e ts k
  back_size absent f d v ts k q = record { tree = absent; after = ts; reads = no_size; same = refl; left = q }
  back_size (there e) f d v ts k q =
      let x = operand_back (is_bare e) d e (expr_kinds e) (back e f) v ts k q in
      record { tree = there x.tree; after = x.after; reads = a_size (as_choosing (as_casting x.reads)); same = ap there x.same; left = x.left }

  pub back_type : (n : TypeName) → IsFineType n → (d : ℕ) → height_of_type n ≤ d → (ts : List Token) (k : List TokenKind) → kinds ts ≡ type_kinds n k → BackOf (ReadsType d) unplaced_type n ts k
  back_type (type_name at s e) f d v ts k q =
      let x = back_spec s ts (declarator_kinds e k) q in
      let y = back_declarator e f.1 d (deeper (height_of_declarator e) v) x.after k x.left in
      record {
        tree = type_name _ x.tree y.tree;
        after = y.after;
        reads = a_type refl x.reads (declares_of (is_direct e) y.reads) (has_no_name e y.tree y.same f.0);
        same = ap₂ (type_name 0) x.same y.same;
        left = y.left;
      }

  pub back_declarator : (e : Declarator) → IsFineDeclarator e → (d : ℕ) → height_of_declarator e ≤ suc d → (ts : List Token) (k : List TokenKind) → kinds ts ≡ declarator_kinds e k → BackDeclarator (is_direct e) d e ts k
  back_declarator nothing f d v ts k q =
      record { tree = nothing; after = ts; reads = record { at = _; core = nothing; middle = ts; is = refl; reads = no_core; longer = no_more }; same = refl; left = q }
  back_declarator (named at x) f d v ts k q =
      let g = back_name x ts k q in
      record {
        tree = named g.heads.token.from g.ident;
        after = g.heads.rest;
        reads = begins_at (Direct d (named g.heads.token.from g.ident)) g.heads.is (record { at = _; core = named g.heads.token.from g.ident; middle = g.heads.rest; is = refl; reads = a_declared g.names; longer = no_more });
        same = ap (named 0) g.same;
        left = g.heads.left;
      }
  back_declarator (pointer at e) f d v ts k q =
      let h = headed (Punct p.ASTERISK) ts (declarator_kinds e k) q in
      let y = back_declarator e f d (deeper (height_of_declarator e) (le_of_suc-le-suc v)) h.rest k h.left in
      record { tree = pointer h.token.from y.tree; after = y.after; reads = begins_at (Declares d (pointer h.token.from y.tree)) h.is (a_pointer (mark h) no_const (declares_of (is_direct e) y.reads)); same = ap (pointer 0) y.same; left = y.left }
  back_declarator (array at e size) f d v ts k q =
      let low = both (height_of_declarator e) (height_of_maybe size) (le_of_suc-le-suc v) in
      let x = inner_back (is_direct e) d e (declarator_kinds e) (back_declarator e f.0) (there_if e) low.0 ts (Punct p.LEFT_BRACKET ∷ size_kinds size (Punct p.RIGHT_BRACKET ∷ k)) q in
      let h = headed (Punct p.LEFT_BRACKET) x.after (size_kinds size (Punct p.RIGHT_BRACKET ∷ k)) x.left in
      let y = back_size size f.1 d low.1 h.rest (Punct p.RIGHT_BRACKET ∷ k) h.left in
      let c = headed (Punct p.RIGHT_BRACKET) y.after k y.left in
      let z = lengthened_by {F = λ at. array at x.tree y.tree} x.reads (λ at. begins_lengthens h.is (an_array (mark h) (ends_at (ReadsSize d y.tree) c.is y.reads) (mark c) no_more)) in
      record { tree = array z.0 x.tree y.tree; after = c.rest; reads = z.1; same = ap₂ (array 0) x.same y.same; left = c.left }
  back_declarator (function at e ps) f d v ts k q =
      let low = both (height_of_declarator e) (height_of_params ps) (le_of_suc-le-suc v) in
      let x = inner_back (is_direct e) d e (declarator_kinds e) (back_declarator e f.0) (there_if e) low.0 ts (Punct p.LEFT_PARENTHESIS ∷ params_kinds ps (Punct p.RIGHT_PARENTHESIS ∷ k)) q in
      let h = headed (Punct p.LEFT_PARENTHESIS) x.after (params_kinds ps (Punct p.RIGHT_PARENTHESIS ∷ k)) x.left in
      let y = back_params ps f.1 f.2 d low.1 h.rest (Punct p.RIGHT_PARENTHESIS ∷ k) h.left in
      let c = headed (Punct p.RIGHT_PARENTHESIS) y.after k y.left in
      let z = lengthened_by {F = λ at. function at x.tree y.tree} x.reads (λ at. begins_lengthens h.is (a_function (mark h) (ends_at (ReadsParams d y.tree) c.is y.reads) (mark c) no_more)) in
      record { tree = function z.0 x.tree y.tree; after = c.rest; reads = z.1; same = ap₂ (function 0) x.same y.same; left = c.left }

  back_params : (ps : Params) → IsParameterList ps → AreFineParams ps → (d : ℕ) → height_of_params ps ≤ d → (ts : List Token) (k : List TokenKind) → kinds ts ≡ params_kinds ps k → BackOf (ReadsParams d) unplaced_params ps ts k
  back_params no_params g f d v ts k q =
      let h = headed (Keyword w.VOID) ts k q in
      record { tree = no_params; after = h.rest; reads = begins_at (ReadsParams d no_params) h.is (are_none (is_void no_const (word h) no_const)); same = refl; left = h.left }
  back_params (more_params at s e ps) g f d v ts k q =
      let low = both (height_of_declarator e) (height_of_params ps) v in
      let x = back_spec s ts (declarator_kinds e (next_params ps k)) q in
      let y = back_declarator e f.0 d (deeper (height_of_declarator e) low.0) x.after (next_params ps k) x.left in
      let z = back_more ps f.1 d low.1 _ x.tree y.tree ts x.after y.after k refl x.reads (declares_of (is_direct e) y.reads) y.left in
      record {
        tree = more_params _ x.tree y.tree z.tree;
        after = z.after;
        reads = are_some z.reads (are_some_too (more_params at s e ps) (more_params (place ts) x.tree y.tree z.tree) (ap_three (more_params 0) x.same y.same z.same) g);
        same = ap_three (more_params 0) x.same y.same z.same;
        left = z.left;
      }

  back_more : (ps : Params) → AreFineParams ps → (d : ℕ) → height_of_params ps ≤ d → (at : ℕ) (s : Spec) (e : Declarator) (i j after : List Token) (k : List TokenKind) → at ≡ place i → ReadsSpec s i j → Declares d e j after → kinds after ≡ next_params ps k → BackOf (λ (qs : Params). ReadsEach d (more_params at s e qs)) unplaced_params ps i k
  back_more no_params f d v at s e i j after k g r x q = record { tree = no_params; after = after; reads = last_param g r x; same = refl; left = q }
  back_more (more_params at' s' e' ps) f d v at s e i j after k g r x q =
      let low = both (height_of_declarator e') (height_of_params ps) v in
      let h = headed (Punct p.COMMA) after (spec_kinds s' (declarator_kinds e' (next_params ps k))) q in
      let a = back_spec s' h.rest (declarator_kinds e' (next_params ps k)) h.left in
      let b = back_declarator e' f.0 d (deeper (height_of_declarator e') low.0) a.after (next_params ps k) a.left in
      let z = back_more ps f.1 d low.1 _ a.tree b.tree h.rest a.after b.after k refl a.reads (declares_of (is_direct e') b.reads) b.left in
      record { tree = more_params _ a.tree b.tree z.tree; after = z.after; reads = next_param g r (ends_at (Declares d e) h.is x) (mark h) z.reads; same = ap_three (more_params 0) a.same b.same z.same; left = z.left }
