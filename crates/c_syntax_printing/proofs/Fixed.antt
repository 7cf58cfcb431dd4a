-- What one phrase reads is fixed: it moves, and it ends in one place.
use Rattle.std.proofs.Common.{◌∙◌, arith, ◌≡◌, List, refl, ℕ}
use Rattle.c_lexer.specs.declared.token.Token.{Token}
use Rattle.c_syntax_printing.specs.Ranks.{Stops, rank}
use Rattle.c_syntax_printing.specs.Starts.{start, EndsDeclarator, EndsSpec}
use Rattle.c_syntax_printing.specs.Heads.{head}
use Rattle.c_syntax_printing.proofs.FrameGrammar.{reads_on, declares_on}
use Rattle.c_syntax_printing.proofs.FrameSpecifiers.{spec_on}
use Rattle.c_syntax_printing.proofs.FrameStatements.{init_on, decl_on, stmt_on}
use Rattle.c_syntax_printing.proofs.One.{same, same_declarator, same_spec}
use Rattle.c_syntax_printing.proofs.OneDecl.{same_init, same_decl}
use Rattle.c_syntax_printing.proofs.OneStmt.{same_stmt}
use Rattle.c_syntax.specs.Grammar.{Level, assignment_level, Reads}
use Rattle.c_syntax_printing.specs.Twins.{On, OnAt}
use Rattle.c_syntax.specs.Tree.{Expr}
use Rattle.c_syntax_printing.specs.Fails.{Meets, at_end, at_token}
use Rattle.c_syntax_printing.specs.Phrases.{Bound, AnExpr, ASpec, ADeclarator, AnInit, APlainDecl, AStmt}
use Rattle.c_syntax_printing.proofs.Combine.{Fixes, on_as}

-- what is told by the first token alone stays

pub rank_alike : {i k : List Token} → Meets i k → rank i ≡ rank k
rank_alike at_end = refl
rank_alike at_token = refl

pub start_alike : {i k : List Token} → Meets i k → start i ≡ start k
start_alike at_end = refl
start_alike at_token = refl

pub head_alike : {i k : List Token} → Meets i k → head i ≡ head k
head_alike at_end = refl
head_alike at_token = refl

pub stops_alike : (l : Level) {i k : List Token} → Meets i k → Stops l i → Stops l k
stops_alike l at_end s = s
stops_alike l at_token s = s

pub ends_declarator_alike : {i k : List Token} → Meets i k → EndsDeclarator i → EndsDeclarator k
ends_declarator_alike m s = omega (arith, start_alike m, s)

pub ends_spec_alike : {i k : List Token} → Meets i k → EndsSpec i → EndsSpec k
ends_spec_alike m s = omega (arith, start_alike m, s)

-- what begins at the same place moves
pub placeless : {R : List Token → List Token → Type 0} {i j : List Token} → ((k : List Token) → OnAt R i j k) → (k : List Token) → On R i j k
placeless f k = let x = f k in record { tokens = x.tokens; twin = x.twin; reads = x.reads }

pub expr_fixes : (b c : Bound) (l : Level) → Fixes (AnExpr b l) (AnExpr c l)
expr_fixes b c l = record {
  moves = λ i j a k m. on_as (placeless (reads_on a.reads) k) (λ h r. record { depth = a.depth; tree = a.tree; reads = r; stops = stops_alike l m a.stops; fits = a.fits });
  once = λ i j k a e. (same a.reads e.reads a.stops e.stops).1;
}

pub spec_fixes : Fixes ASpec ASpec
spec_fixes = record {
  moves = λ i j a k m. on_as (placeless (spec_on a.reads) k) (λ h r. record { tree = a.tree; reads = r; ends = ends_spec_alike m a.ends });
  once = λ i j k a e. (same_spec a.reads e.reads a.ends e.ends).1;
}

pub declarator_fixes : (b c : Bound) → Fixes (ADeclarator b) (ADeclarator c)
declarator_fixes b c = record {
  moves = λ i j a k m. on_as (declares_on a.reads k) (λ h r. record { depth = a.depth; tree = a.tree; reads = r; named = a.named; ends = ends_declarator_alike m a.ends; fits = a.fits });
  once = λ i j k a e. (same_declarator a.reads e.reads a.ends e.ends).1;
}

pub init_fixes : (b c : Bound) → Fixes (AnInit b) (AnInit c)
init_fixes b c = record {
  moves = λ i j a k m. on_as (init_on a.reads k) (λ h r. record { depth = a.depth; tree = a.tree; reads = r; stops = stops_alike assignment_level m a.stops; fits = a.fits });
  once = λ i j k a e. (same_init a.reads e.reads a.stops e.stops).1;
}

pub decl_fixes : (b c : Bound) → Fixes (APlainDecl b) (APlainDecl c)
decl_fixes b c = record {
  moves = λ i j a k m. on_as (placeless (decl_on a.reads) k) (λ h r. record { depth = a.depth; tree = a.tree; reads = r; plain = a.plain; fits = a.fits });
  once = λ i j k a e. (same_decl a.reads e.reads).1;
}

pub stmt_fixes : (b c : Bound) → Fixes (AStmt b) (AStmt c)
stmt_fixes b c = record {
  moves = λ i j a k m. on_as (stmt_on a.reads k) (λ h r. record { depth = a.depth; tree = a.tree; reads = r; closed = λ q. a.closed (head_alike m ∙ q); fits = a.fits });
  once = λ i j k a e. (same_stmt a.reads e.reads a.closed e.closed).1;
}

-- an expression moves
pub expr_on : {d : ℕ} {l : Level} {e : Expr} {i j : List Token} → Reads d l e i j → (k : List Token) → On (Reads d l e) i j k
expr_on r = placeless (reads_on r)
