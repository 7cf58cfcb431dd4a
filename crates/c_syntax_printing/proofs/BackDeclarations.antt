-- The tokens that initialisers and declarations are printed with are read back as the same, apart from places.
use Rattle.std.proofs.Common.{◌≡◌, ℕ, ◌≤◌, List, ◌∷◌, refl, ap, ap₂}
use Rattle.c_lexer.specs.declared.token.Token.{Token}
use Rattle.c_lexer.specs.declared.token.TokenKind.{TokenKind}
use Rattle.c_lexer.specs.declared.token.TokenKind.TheVariants.{Punct}
use Rattle.c_lexer.specs.declared.punctuator.TheConstants as p
use Rattle.c_syntax.specs.Tree.{Expr, Maybe, absent, there, Declarator}
use Rattle.c_syntax.specs.Tree.{Init, one, list, Inits, no_inits, more_inits, MaybeInit, no_init, an_init, Parts, no_parts, more_parts, Decl, decl}
use Rattle.c_syntax.specs.Tree.{First, first_absent, first_expr, first_decl}
use Rattle.c_syntax.specs.Tokens.{Is, place}
use Rattle.c_syntax.specs.Grammar.{postfix_level, expression_level, Reads, Declares, HasName}
use Rattle.c_syntax.specs.Statements.{place_of, IsPlainDecl}
use Rattle.c_syntax.specs.Statements.{ReadsInit, an_expression, a_list, ReadsInits, last_init, next_init, ReadsMaybeInit, no_initialiser, an_initialiser, ReadsParts, last_part, next_part, ReadsDecl, a_declaration}
use Rattle.c_syntax.specs.Statements.{ReadsMaybe, no_expression_stands, an_expression_stands, ReadsFirst, first_nothing, first_expression, first_declaration}
use Rattle.std.specs.Prelude.{max}
use Rattle.std.proofs.Math.Nat.{le_of_suc-le}
use Rattle.c_syntax.specs.Limits.{height, height_of_declarator, height_of_maybe, height_of_init, height_of_inits, height_of_maybe_init, height_of_parts, height_of_decl, height_of_first}
use Rattle.c_syntax.specs.Same.{unplaced, unplaced_maybe, unplaced_init, unplaced_inits, unplaced_maybe_init, unplaced_parts, unplaced_decl, unplaced_first}
use Rattle.c_syntax.specs.Print.{is_bare, is_direct, expr_kinds, spec_kinds, declarator_kinds, operand_kinds, maybe_kinds, init_kinds, inits_kinds, next_inits, maybe_init_kinds, next_parts, parts_kinds, decl_kinds, first_kinds, head_kinds}
use Rattle.c_syntax_printing.specs.Fine.{IsFine, IsFineMaybe}
use Rattle.c_syntax_printing.specs.FineUnits.{IsFineInit, AreFineInits, IsFineMaybeInit, AreFineParts, IsFineDecl, IsFineFirst}
use Rattle.c_syntax.proofs.BackTokens.{kinds, headed, mark, ends, BackOf, ends_at, begins_at, kept, ap_three, as_assigning}
use Rattle.c_syntax_printing.proofs.Depths.{both, deeper}
use Rattle.c_syntax_printing.proofs.BackParts.{Back, back_storage, back_spec, has_name, declares_of}
use Rattle.c_syntax_printing.proofs.BackExpressions.{back, operand_back, back_declarator, to_expression}

pub expr_back : (e : Expr) → IsFine e → (d : ℕ) → height e ≤ d → (ts : List Token) (k : List TokenKind) → kinds ts ≡ expr_kinds e k → Back expression_level d e ts k
expr_back e f d v ts k q = let x = back e f d (deeper (height e) v) ts k q in record { tree = x.tree; after = x.after; reads = to_expression (is_bare e) x.reads; same = x.same; left = x.left }

pub operand_of : (e : Expr) → IsFine e → (d : ℕ) → height e ≤ d → (ts : List Token) (k : List TokenKind) → kinds ts ≡ operand_kinds e k → Back postfix_level d e ts k
operand_of e f d v ts k q = operand_back (is_bare e) d e (expr_kinds e) (back e f) v ts k q

pub maybe_back : (e : Maybe) → IsFineMaybe e → (d : ℕ) → height_of_maybe e ≤ d → (ts : List Token) (k : List TokenKind) → kinds ts ≡ maybe_kinds e k → BackOf (ReadsMaybe d) unplaced_maybe e ts k
maybe_back absent f d v ts k q = record { tree = absent; after = ts; reads = no_expression_stands; same = refl; left = q }
maybe_back (there e) f d v ts k q = let x = expr_back e f d v ts k q in record { tree = there x.tree; after = x.after; reads = an_expression_stands x.reads; same = ap there x.same; left = x.left }

-- an expression in the head of a statement
pub record BackHead (d : ℕ) (e : Expr) (ts : List Token) (k : List TokenKind) : Type 0 where
  pub tree : Expr
  pub first : Token
  pub inner : List Token
  pub final : Token
  pub rest : List Token
  pub is : ts ≡ first ∷ inner
  pub opens : Is p.LEFT_PARENTHESIS first
  pub reads : Reads d expression_level tree inner (final ∷ rest)
  pub closes : Is p.RIGHT_PARENTHESIS final
  pub same : unplaced tree ≡ unplaced e
  pub left : kinds rest ≡ k

pub head_back : (e : Expr) → IsFine e → (d : ℕ) → height e ≤ d → (ts : List Token) (k : List TokenKind) → kinds ts ≡ head_kinds e k → BackHead d e ts k
head_back e f d v ts k q =
    let h = headed (Punct p.LEFT_PARENTHESIS) ts (expr_kinds e (Punct p.RIGHT_PARENTHESIS ∷ k)) q in
    let x = expr_back e f d v h.rest (Punct p.RIGHT_PARENTHESIS ∷ k) h.left in
    let c = headed (Punct p.RIGHT_PARENTHESIS) x.after k x.left in
    record { tree = x.tree; first = h.token; inner = h.rest; final = c.token; rest = c.rest; is = h.is; opens = mark h; reads = ends c.is x.reads; closes = mark c; same = x.same; left = c.left }

mutual
  back_init : (a : Init) → IsFineInit a → (d : ℕ) → height_of_init a ≤ d → (ts : List Token) (k : List TokenKind) → kinds ts ≡ init_kinds a k → BackOf (ReadsInit d) unplaced_init a ts k
  back_init (one at e) f d v ts k q =
      let x = operand_of e f d v ts k q in record { tree = one (place_of x.tree) x.tree; after = x.after; reads = an_expression (as_assigning x.reads) refl; same = ap (one 0) x.same; left = x.left }
  back_init (list at no_inits) f d v ts k q = absurd f
  back_init (list at (more_inits a is)) f d v ts k q =
      let low = both (height_of_init a) (height_of_inits is) (le_of_suc-le v) in
      let h = headed (Punct p.LEFT_BRACE) ts (inits_kinds (more_inits a is) (Punct p.RIGHT_BRACE ∷ k)) q in
      let x = back_init a f.0 d low.0 h.rest (next_inits is (Punct p.RIGHT_BRACE ∷ k)) h.left in
      let z = back_inits is f.1 d low.1 x.tree h.rest x.after (Punct p.RIGHT_BRACE ∷ k) x.reads x.left in
      let c = headed (Punct p.RIGHT_BRACE) z.after k z.left in
      let tree : Init = list h.token.from (more_inits x.tree z.tree) in
      record {
        tree = tree;
        after = c.rest;
        reads = begins_at (ReadsInit d tree) h.is (a_list (mark h) (ends_at (ReadsInits d (more_inits x.tree z.tree)) c.is z.reads) (mark c));
        same = ap (list 0) (ap₂ more_inits x.same z.same);
        left = c.left;
      }

  back_inits : (is : Inits) → AreFineInits is → (d : ℕ) → height_of_inits is ≤ d → (a : Init) (i after : List Token) (k : List TokenKind) → ReadsInit d a i after → kinds after ≡ next_inits is k → BackOf (λ (js : Inits). ReadsInits d (more_inits a js)) unplaced_inits is i k
  back_inits no_inits f d v a i after k r q = record { tree = no_inits; after = after; reads = last_init r; same = refl; left = q }
  back_inits (more_inits b is) f d v a i after k r q =
      let low = both (height_of_init b) (height_of_inits is) v in
      let h = headed (Punct p.COMMA) after (init_kinds b (next_inits is k)) q in
      let x = back_init b f.0 d low.0 h.rest (next_inits is k) h.left in
      let z = back_inits is f.1 d low.1 x.tree h.rest x.after k x.reads x.left in
      record { tree = more_inits x.tree z.tree; after = z.after; reads = next_init (ends_at (ReadsInit d a) h.is r) (mark h) z.reads; same = ap₂ more_inits x.same z.same; left = z.left }

back_maybe_init : (v : MaybeInit) → IsFineMaybeInit v → (d : ℕ) → height_of_maybe_init v ≤ d → (ts : List Token) (k : List TokenKind) → kinds ts ≡ maybe_init_kinds v k → BackOf (ReadsMaybeInit d) unplaced_maybe_init v ts k
back_maybe_init no_init f d v ts k q = record { tree = no_init; after = ts; reads = no_initialiser; same = refl; left = q }
back_maybe_init (an_init a) f d v ts k q =
    let h = headed (Punct p.ASSIGN) ts (init_kinds a k) q in
    let x = back_init a f d v h.rest k h.left in
    record { tree = an_init x.tree; after = x.after; reads = begins_at (ReadsMaybeInit d (an_init x.tree)) h.is (an_initialiser (mark h) x.reads); same = ap an_init x.same; left = x.left }

back_parts : (ps : Parts) → AreFineParts ps → (d : ℕ) → height_of_parts ps ≤ d → (e : Declarator) (x : MaybeInit) (i j after : List Token) (k : List TokenKind) → Declares d e i j → HasName e → ReadsMaybeInit d x j after → kinds after ≡ next_parts ps k → BackOf (λ (qs : Parts). ReadsParts d (more_parts e x qs)) unplaced_parts ps i k
back_parts no_parts f d v e x i j after k r h y q = record { tree = no_parts; after = after; reads = last_part r h y; same = refl; left = q }
back_parts (more_parts e' v' ps) f d v e x i j after k r h y q =
    let low = both (height_of_declarator e') (max (height_of_maybe_init v') (height_of_parts ps)) v in
    let lower = both (height_of_maybe_init v') (height_of_parts ps) low.1 in
    let c = headed (Punct p.COMMA) after (declarator_kinds e' (maybe_init_kinds v' (next_parts ps k))) q in
    let a = back_declarator e' f.0 d (deeper (height_of_declarator e') low.0) c.rest (maybe_init_kinds v' (next_parts ps k)) c.left in
    let b = back_maybe_init v' f.2 d lower.0 a.after (next_parts ps k) a.left in
    let z = back_parts ps f.3 d lower.1 a.tree b.tree c.rest a.after b.after k (declares_of (is_direct e') a.reads) (has_name e' a.tree a.same f.1) b.reads b.left in
    record {
      tree = more_parts a.tree b.tree z.tree;
      after = z.after;
      reads = next_part r h (ends_at (ReadsMaybeInit d x) c.is y) (mark c) z.reads;
      same = ap_three more_parts a.same b.same z.same;
      left = z.left;
    }

pub back_decl : (x : Decl) → IsFineDecl x → (d : ℕ) → height_of_decl x ≤ d → (ts : List Token) (k : List TokenKind) → kinds ts ≡ decl_kinds x k → BackOf (ReadsDecl d) unplaced_decl x ts k
back_decl (decl at st s no_parts) f d v ts k q = absurd f
back_decl (decl at st s (more_parts e x ps)) f d v ts k q =
    let low = both (height_of_declarator e) (max (height_of_maybe_init x) (height_of_parts ps)) v in
    let lower = both (height_of_maybe_init x) (height_of_parts ps) low.1 in
    let g = back_storage st ts (spec_kinds s (parts_kinds (more_parts e x ps) (Punct p.SEMICOLON ∷ k))) q in
    let b = back_spec s g.after (parts_kinds (more_parts e x ps) (Punct p.SEMICOLON ∷ k)) g.left in
    let y = back_declarator e f.0 d (deeper (height_of_declarator e) low.0) b.after (maybe_init_kinds x (next_parts ps (Punct p.SEMICOLON ∷ k))) b.left in
    let u = back_maybe_init x f.2 d lower.0 y.after (next_parts ps (Punct p.SEMICOLON ∷ k)) y.left in
    let z = back_parts ps f.3 d lower.1 y.tree u.tree b.after y.after u.after (Punct p.SEMICOLON ∷ k) (declares_of (is_direct e) y.reads) (has_name e y.tree y.same f.1) u.reads u.left in
    let c = headed (Punct p.SEMICOLON) z.after k z.left in
    record {
      tree = decl (place ts) st b.tree (more_parts y.tree u.tree z.tree);
      after = c.rest;
      reads = a_declaration refl g.reads b.reads (ends_at (ReadsParts d (more_parts y.tree u.tree z.tree)) c.is z.reads) (mark c);
      same = ap₂ (decl 0 st) b.same (ap_three more_parts y.same u.same z.same);
      left = c.left;
    }

plain_alike : (x : Decl) → IsPlainDecl (unplaced_decl x) ≡ IsPlainDecl x
plain_alike (decl at st s ps) = refl

pub is_plain : (x y : Decl) → unplaced_decl y ≡ unplaced_decl x → IsPlainDecl x → IsPlainDecl y
is_plain = kept IsPlainDecl unplaced_decl plain_alike

pub first_back : (x : First) → IsFineFirst x → (d : ℕ) → height_of_first x ≤ d → (ts : List Token) (k : List TokenKind) → kinds ts ≡ first_kinds x k → BackOf (ReadsFirst d) unplaced_first x ts k
first_back first_absent f d v ts k q =
    let h = headed (Punct p.SEMICOLON) ts k q in record { tree = first_absent; after = h.rest; reads = begins_at (ReadsFirst d first_absent) h.is (first_nothing (mark h)); same = refl; left = h.left }
first_back (first_expr e) f d v ts k q =
    let x = expr_back e f d v ts (Punct p.SEMICOLON ∷ k) q in
    let c = headed (Punct p.SEMICOLON) x.after k x.left in
    record { tree = first_expr x.tree; after = c.rest; reads = first_expression (ends c.is x.reads) (mark c); same = ap first_expr x.same; left = c.left }
first_back (first_decl x) f d v ts k q =
    let y = back_decl x f.0 d v ts k q in
    record { tree = first_decl y.tree; after = y.after; reads = first_declaration y.reads (is_plain x y.tree y.same f.1); same = ap first_decl y.same; left = y.left }
