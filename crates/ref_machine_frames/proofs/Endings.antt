-- Variables that end.
use Rattle.std.proofs.Common.{◌≡◌, ℕ, List, [], ◌∷◌, ◌++◌, Option, Vec, Global, refl, ap, sym, ◌∙◌}
use Rattle.std.specs.Prelude.{Box}
use Rattle.c_tree.specs.declared.tree.TStmt.{TStmt}
use Rattle.c_tree.specs.declared.tree.TExpr.{TExpr}
use Rattle.c_tree.specs.declared.tree.TStmt.TheVariants.{Block, For}
use Rattle.c_tree.specs.View.{stmt_of, stmts_of}
use Rattle.c_tree.proofs.Rows.{block_is, for_is}
use Rattle.c_values.specs.Memory.{Objects, ended}
use Rattle.c_meaning.specs.Meaning.{declared_in, without}
use Rattle.ref_machine_frames.specs.Frames.{locals_of}

without_both : (a : ℕ) (xs ys : List ℕ) (m : Objects) → without a (xs ++ ys) m ≡ without a ys (without a xs m)
without_both a [] ys m = refl
without_both a (x ∷ xs) ys m = without_both a xs ys (ended m (record { activation = a; variable = x }))

-- where a block or the head of a for is left
pub left_block : (a : ℕ) (v : Vec TStmt Global) (of : TStmt) (ss : List TStmt) (old new : Objects) → of ≡ Block v → ss ≡ v.items → new ≡ without a (declared_in (stmts_of ss)) old → new ≡ without a (locals_of (stmt_of of)) old
left_block a v of ss old new is items e =
    e ∙ ap (λ xs. without a xs old) (ap (λ ss. declared_in (stmts_of ss)) items ∙ (ap locals_of (sym (block_is v)) ∙ ap (λ s. locals_of (stmt_of s)) (sym is)))

pub left_for : (a : ℕ) (v : Vec TStmt Global) (test step : Option (Box TExpr Global)) (body : Box TStmt Global) (of : TStmt) (ss : List TStmt) (old new : Objects) → of ≡ For v test step body → ss ≡ v.items → new ≡ without a (declared_in (stmts_of ss)) old → new ≡ without a (locals_of (stmt_of of)) old
left_for a v test step body of ss old new is items e =
    e ∙ ap (λ xs. without a xs old) (ap (λ ss. declared_in (stmts_of ss)) items ∙ (ap locals_of (sym (for_is v test step body)) ∙ ap (λ s. locals_of (stmt_of s)) (sym is)))
