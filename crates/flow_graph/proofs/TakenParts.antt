-- Parts that are taken one after another.
use Rattle.std.proofs.Common.{◌≡◌, ℕ, ◌+◌, ◌<◌, ◌≤◌, Bool, List, [], ◌∷◌, ◌++◌, length, drop, get_or, refl, sym, ap, ◌∙◌}
use Rattle.flow_graph.specs.declared.shape.Shape.{Shape as Tree}
use Rattle.flow_graph.specs.View.{shape_of, parts_of}
use Rattle.c_tree.specs.declared.tree.TExpr.{TExpr}
use Rattle.c_tree.specs.declared.tree.TInit.{TInit}
use Rattle.c_tree.specs.declared.tree.TStmt.{TStmt}
use Rattle.c_tree.specs.declared.tree.TGroup.{TGroup}
use Rattle.c_tree.specs.View.{expr_of, exprs_of, inits_of, stmt_of, stmts_of, groups_of}
use Rattle.c_meaning.specs.Shape.{Shape, Parts, End, Part}
use Rattle.c_meaning.specs.ShapeOf.{before_parts, without_skips, seq}
use Rattle.flow_graph.specs.Joined.{joined}
use Rattle.flow_graph.specs.Sited.{expr_at, exprs_at, inits_at, stmt_at, stmts_at, groups_at}
use Rattle.std.proofs.lemmas.List.{drop_all}
use Rattle.flow_graph.proofs.RecordLemmas.{dropped}
use Rattle.flow_graph.proofs.SequenceLemmas.{joined_end, joined_assoc, before_joined, parts_append}

-- a part for each item
abbrev pub each : {X : Type 0} → (X → Shape) → List X → Parts
each f [] = End
each f (x ∷ xs) = Part (f x) (each f xs)

module _ {X : Type 0} (f : X → Shape) (xs : List X) where
  -- one more is added, unless it is nothing
  pub part_more : (i : ℕ) (x : X) (mid new : List Tree) (part : Tree) (all : Parts) → i < length xs → x ≡ get_or xs i x → joined (parts_of mid) (without_skips (each f (drop i xs))) ≡ all
      → shape_of part ≡ f x → parts_of new ≡ joined (parts_of mid) (before_parts (shape_of part) End) → joined (parts_of new) (without_skips (each f (drop (i + 1) xs))) ≡ all
  part_more i x mid new part all lt is before shape step =
      let rest = without_skips (each f (drop (i + 1) xs)) in
      ap (λ ps. joined ps rest) step
      ∙ joined_assoc (parts_of mid) (before_parts (shape_of part) End) rest
      ∙ ap (joined (parts_of mid)) (before_joined (shape_of part) rest ∙ ap (λ S. before_parts S rest) shape ∙ ap without_skips (sym (ap (each f) (dropped xs i x x lt is))))
      ∙ before

  -- one more is added
  pub shape_more : (i : ℕ) (x : X) (mid new : List Tree) (part : Tree) (all : Parts) → i < length xs → x ≡ get_or xs i x → joined (parts_of mid) (each f (drop i xs)) ≡ all
      → shape_of part ≡ f x → new ≡ mid ++ part ∷ [] → joined (parts_of new) (each f (drop (i + 1) xs)) ≡ all
  shape_more i x mid new part all lt is before shape step =
      let rest = each f (drop (i + 1) xs) in
      ap (λ ts. joined (parts_of ts) rest) step
      ∙ ap (λ ps. joined ps rest) (parts_append mid (part ∷ []))
      ∙ joined_assoc (parts_of mid) (Part (shape_of part) End) rest
      ∙ ap (joined (parts_of mid)) (ap (λ S. Part S rest) shape ∙ sym (ap (each f) (dropped xs i x x lt is)))
      ∙ before

pub parts_end : {X : Type 0} (f : X → Shape) (xs : List X) (i : ℕ) (new all : Parts) → length xs ≤ i → joined new (without_skips (each f (drop i xs))) ≡ all → new ≡ all
parts_end f xs i new all over is = sym (joined_end new) ∙ ap (λ ps. joined new (without_skips ps)) (sym (ap (each f) (drop_all i xs over))) ∙ is

pub shapes_end : {X : Type 0} (f : X → Shape) (xs : List X) (i : ℕ) (new all : Parts) → length xs ≤ i → joined new (each f (drop i xs)) ≡ all → new ≡ all
shapes_end f xs i new all over is = sym (joined_end new) ∙ ap (joined new) (sym (ap (each f) (drop_all i xs over))) ∙ is

-- lists of trees
module _ (n : ℕ) (ms : List Bool) where
  abbrev pub expr_shape : TExpr → Shape
  expr_shape e = expr_at n ms (expr_of e)

  abbrev pub init_shape : TInit → Shape
  init_shape i = expr_at n ms (expr_of i.value)

  abbrev pub stmt_shape : TStmt → Shape
  stmt_shape s = stmt_at n ms (stmt_of s)

  abbrev pub group_shape : TGroup → Shape
  group_shape g = seq (stmts_at n ms (stmts_of g.body.items))

  pub exprs_each : (es : List TExpr) → each expr_shape es ≡ exprs_at n ms (exprs_of es) End
  exprs_each [] = refl
  exprs_each (e ∷ es) = ap (Part (expr_shape e)) (exprs_each es)

  pub inits_each : (is : List TInit) → each init_shape is ≡ inits_at n ms (inits_of is)
  inits_each [] = refl
  inits_each (i ∷ is) = ap (Part (init_shape i)) (inits_each is)

  pub stmts_each : (ss : List TStmt) → each stmt_shape ss ≡ stmts_at n ms (stmts_of ss)
  stmts_each [] = refl
  stmts_each (s ∷ ss) = ap (Part (stmt_shape s)) (stmts_each ss)

  pub groups_each : (gs : List TGroup) → each group_shape gs ≡ groups_at n ms (groups_of gs)
  groups_each [] = refl
  groups_each (g ∷ gs) = ap (Part (group_shape g)) (groups_each gs)
