-- The shapes of trees that hold lists.
use Rattle.std.proofs.Common.{◌≡◌, ℕ, Bool, List, Option, Some, None, Vec, Global, Result, Ok, Err, IfOk, refl, sym, ap, ◌∙◌}
use Rattle.std.specs.Prelude.{Box}
use Rattle.dm_base.specs.declared.memory.OutOfMemory.{OutOfMemory}
use Rattle.flow_graph.specs.declared.shape.Shape.{Shape as Tree}
use Rattle.flow_graph.specs.View.{shape_of}
use Rattle.c_tree.specs.declared.tree.TExpr.{TExpr}
use Rattle.c_tree.specs.declared.tree.TExprKind.TheVariants.{Comma, Call, CallThrough}
use Rattle.c_tree.specs.declared.tree.TStmt.{TStmt}
use Rattle.c_tree.specs.declared.tree.TStmt.TheVariants.{Block, If, For, Switch}
use Rattle.c_tree.specs.declared.tree.TGroup.{TGroup}
use Rattle.c_tree.specs.View.{ctype_of, expr_with, expr_of, exprs_of, maybe_of, stmt_of, stmts_of, groups_of}
use Rattle.c_tree.proofs.Rows.{comma_is, call_is, call_through_is, block_is, for_is, switch_is}
use Rattle.c_meaning.specs.Shape.{Shape, Skip, Loop, Cases, Parts, End, Part}
use Rattle.c_meaning.specs.ShapeOf.{before_parts, without_skips, in_turn, seq, seq_two, alt, has_default}
use Rattle.flow_graph.specs.Joined.{joined}
use Rattle.c_tree.specs.Tree.{Exprs, no_exprs, more_exprs}
use Rattle.flow_graph.specs.Sited.{call_at, direct_at, expr_at, exprs_at, maybe_at, stmt_at, stmts_at, groups_at}
use Rattle.flow_graph.proofs.SequenceLemmas.{before_joined, joined_assoc}

-- a clause by other words
pub same_shape : (r : Result Tree OutOfMemory) (S T : Shape) → S ≡ T → IfOk r (λ s. shape_of s ≡ S) → IfOk r (λ s. shape_of s ≡ T)
same_shape (Ok s) S T e is = is ∙ e
same_shape (Err x) S T e is = is

-- the parts of expressions, and others after them
pub after_exprs : (n : ℕ) (ms : List Bool) (es : Exprs) (ps : Parts) → without_skips (exprs_at n ms es ps) ≡ joined (without_skips (exprs_at n ms es End)) (without_skips ps)
after_exprs n ms no_exprs ps = refl
after_exprs n ms (more_exprs e es) ps =
    let S = expr_at n ms e in
    let rest = without_skips (exprs_at n ms es End) in
    ap (before_parts S) (after_exprs n ms es ps)
    ∙ sym (before_joined S (joined rest (without_skips ps)))
    ∙ sym (joined_assoc (before_parts S End) rest (without_skips ps))
    ∙ ap (λ qs. joined qs (without_skips ps)) (before_joined S rest)

module _ (n : ℕ) (ms : List Bool) where
  pub of_comma : (e : TExpr) (v : Vec TExpr Global) → e.kind ≡ Comma v → in_turn (without_skips (exprs_at n ms (exprs_of v.items) End)) ≡ expr_at n ms (expr_of e)
  of_comma e v is = sym (ap (λ k. expr_at n ms (expr_with (ctype_of e.ctype) k)) is ∙ ap (expr_at n ms) (comma_is (ctype_of e.ctype) v))

  pub of_call : (e : TExpr) (s f : ℕ) (v : Vec TExpr Global) → e.kind ≡ Call s f v
      → in_turn (joined (without_skips (exprs_at n ms (exprs_of v.items) End)) (before_parts (direct_at n ms s f (exprs_of v.items)) End)) ≡ expr_at n ms (expr_of e)
  of_call e s f v is =
      ap in_turn (sym (after_exprs n ms (exprs_of v.items) (Part (direct_at n ms s f (exprs_of v.items)) End)))
      ∙ sym (ap (λ k. expr_at n ms (expr_with (ctype_of e.ctype) k)) is ∙ ap (expr_at n ms) (call_is (ctype_of e.ctype) s f v))

  pub of_call_through : (e : TExpr) (s : ℕ) (d : Box TExpr Global) (v : Vec TExpr Global) → e.kind ≡ CallThrough s d v
      → in_turn (before_parts (expr_at n ms (expr_of d.value)) (joined (without_skips (exprs_at n ms (exprs_of v.items) End)) (before_parts (call_at ms s) End))) ≡ expr_at n ms (expr_of e)
  of_call_through e s d v is =
      ap (λ ps. in_turn (before_parts (expr_at n ms (expr_of d.value)) ps)) (sym (after_exprs n ms (exprs_of v.items) (Part (call_at ms s) End)))
      ∙ sym (ap (λ k. expr_at n ms (expr_with (ctype_of e.ctype) k)) is ∙ ap (expr_at n ms) (call_through_is (ctype_of e.ctype) s d v))

  pub of_block : (s : TStmt) (v : Vec TStmt Global) → s ≡ Block v → seq (stmts_at n ms (stmts_of v.items)) ≡ stmt_at n ms (stmt_of s)
  of_block s v is = sym (ap (λ s. stmt_at n ms (stmt_of s)) is ∙ ap (stmt_at n ms) (block_is v))

  pub of_for : (s : TStmt) (v : Vec TStmt Global) (test step : Option (Box TExpr Global)) (b : Box TStmt Global) → s ≡ For v test step b
      → seq_two (seq (stmts_at n ms (stmts_of v.items))) (Loop (maybe_at n ms (maybe_of test)) (stmt_at n ms (stmt_of b.value)) (maybe_at n ms (maybe_of step))) ≡ stmt_at n ms (stmt_of s)
  of_for s v test step b is = sym (ap (λ s. stmt_at n ms (stmt_of s)) is ∙ ap (stmt_at n ms) (for_is v test step b))

  pub of_switch : (s : TStmt) (e : Box TExpr Global) (v : Vec TGroup Global) → s ≡ Switch e v → seq_two (expr_at n ms (expr_of e.value)) (Cases (groups_at n ms (groups_of v.items)) (has_default (groups_of v.items))) ≡ stmt_at n ms (stmt_of s)
  of_switch s e v is = sym (ap (λ s. stmt_at n ms (stmt_of s)) is ∙ ap (stmt_at n ms) (switch_is e v))

  pub of_if_none : (s : TStmt) (e : Box TExpr Global) (y : Box TStmt Global) (o : Option (Box TStmt Global)) → s ≡ If e y o → o ≡ None → seq_two (expr_at n ms (expr_of e.value)) (alt (stmt_at n ms (stmt_of y.value)) Skip) ≡ stmt_at n ms (stmt_of s)
  of_if_none s e y o is none = sym (ap (λ s. stmt_at n ms (stmt_of s)) (is ∙ ap (λ o. If e y o) none))

  pub of_if_some : (s : TStmt) (e : Box TExpr Global) (y b : Box TStmt Global) (o : Option (Box TStmt Global)) → s ≡ If e y o → o ≡ Some b
      → seq_two (expr_at n ms (expr_of e.value)) (alt (stmt_at n ms (stmt_of y.value)) (stmt_at n ms (stmt_of b.value))) ≡ stmt_at n ms (stmt_of s)
  of_if_some s e y b o is some = sym (ap (λ s. stmt_at n ms (stmt_of s)) (is ∙ ap (λ o. If e y o) some))
