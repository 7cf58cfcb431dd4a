-- How statements begin, by their forms.
use Rattle.std.proofs.Common.{◌≡◌, ℕ, zero, suc, true, List, [], ◌∷◌, ◌++◌, drop, length, Option, None, IfOk, Vec, Global, refl, ap, sym, subst, ◌∙◌}
use Rattle.std.specs.Prelude.{Box, Result, Ok, Err, slice_get}
use Rattle.dm_base.specs.declared.memory.OutOfMemory.{OutOfMemory}
use Rattle.c_tree.specs.declared.value.Value.{Value}
use Rattle.c_tree.specs.declared.tree.TExpr.{TExpr}
use Rattle.c_tree.specs.declared.tree.TInit.{TInit}
use Rattle.c_tree.specs.declared.tree.TStmt.{TStmt}
use Rattle.c_tree.specs.declared.tree.TStmt.TheVariants.{Block, Declare, If, For, Switch}
use Rattle.c_tree.specs.declared.tree.TGroup.{TGroup}
use Rattle.c_tree.specs.Tree.{Expr, Maybe, Stmt, block, empty, if_else, for_loop, switch_on, Stmts, Program}
use Rattle.c_tree.specs.View.{expr_of, maybe_of, inits_of, stmt_of, stmts_of, groups_of}
use Rattle.c_tree.proofs.Rows.{block_is, for_is, switch_is}
use Rattle.c_values.specs.Memory.{Objects}
use Rattle.c_meaning.specs.Meaning.{Frame as Place, World, selected, group_with, is_case, is_default, or_else, count_groups}
use Rattle.c_meaning.specs.Results.{State, Result as Outcome, Go, then_do, Exit, out_of_switch}
use Rattle.ref_machine_frames.specs.Held.{eval, exec, exec_all, exec_from, fresh, initialise}
use Rattle.ref_machine_frames.specs.declared.frames.Here.{Here}
use Rattle.ref_machine_frames.specs.declared.frames.Parted.TheVariants as parted
use Rattle.ref_machine_frames.specs.declared.frames.ExitFrame.TheVariants as exits
use Rattle.ref_machine_frames.specs.declared.frames.Frame.{Frame}
use Rattle.ref_machine_frames.specs.declared.frames.Frame.TheVariants as frames
use Rattle.ref_machine_frames.specs.declared.frames.Now.{Now}
use Rattle.ref_machine_frames.specs.Frames.{place_of, after_part, asked, one_of, switched}
use Rattle.ref_machine_frames.specs.Parts.{Leaves}
use Rattle.ref_machine_frames.proofs.Joining.{then_assoc}
use Rattle.ref_machine_frames.proofs.Stepping.{as_part, under}

if_ok : {A E : Type 0} (r : Result A E) (P Q : A → Type 0) → ((a : A) → P a → Q a) → IfOk r P → IfOk r Q
if_ok (Ok a) P Q f h = f a h
if_ok (Err e) P Q f h = tt

-- ## Groups of a switch

many_groups : (gs : List TGroup) → length gs ≡ count_groups (groups_of gs)
many_groups [] = refl
many_groups (g ∷ gs) = ap suc (many_groups gs)

pub none_selected : (gs : List TGroup) → None ≡ group_with is_default (groups_of gs) → length gs ≡ or_else (group_with is_default (groups_of gs)) (count_groups (groups_of gs))
none_selected gs e = many_groups gs ∙ ap (λ o. or_else o (count_groups (groups_of gs))) e

pub default_selected : (v : Value) (gs : List TGroup) (n : ℕ) → None ≡ group_with (is_case v) (groups_of gs) → n ≡ or_else (group_with is_default (groups_of gs)) (count_groups (groups_of gs)) → n ≡ selected v (groups_of gs)
default_selected v gs n e h = h ∙ ap (λ o. or_else o (or_else (group_with is_default (groups_of gs)) (count_groups (groups_of gs)))) e

from_there : (p : Program) (w : World) (fr : Place) (n : ℕ) (gs : List TGroup) (st : State) → exec_from p w fr n (groups_of gs) st ≡ exec_from p w fr 0 (groups_of (drop n gs)) st
from_there p w fr zero gs st = refl
from_there p w fr (suc n) [] st = refl
from_there p w fr (suc n) (g ∷ gs) st = from_there p w fr n gs st

pub groups_part : (r : Result Now OutOfMemory) (v : Value) (all from : List TGroup) (old inner new : List Frame) → from ≡ drop (selected v (groups_of all)) all → inner ≡ old ++ (frames.Exit exits.Switch ∷ [])
    → IfOk r (λ now. (p : Program) (h : Here) (m : Objects) → Leaves p h m inner (λ w st. exec_from p w (place_of h) 0 (groups_of from) st) now m new)
    → IfOk r (λ now. (p : Program) (h : Here) (m : Objects) → Leaves p h m old (λ w st. then_do (exec_from p w (place_of h) (selected v (groups_of all)) (groups_of all) st) (λ x st. Go (out_of_switch x) st [])) now m new)
groups_part r v all from old inner new e i =
    if_ok r (λ now. (p : Program) (h : Here) (m : Objects) → Leaves p h m inner (λ w st. exec_from p w (place_of h) 0 (groups_of from) st) now m new)
    (λ now. (p : Program) (h : Here) (m : Objects) → Leaves p h m old (λ w st. then_do (exec_from p w (place_of h) (selected v (groups_of all)) (groups_of all) st) (λ x st. Go (out_of_switch x) st [])) now m new)
    (λ now f p h m. as_part p h m m old new (λ w st. then_do (exec_from p w (place_of h) 0 (groups_of from) st) (λ x st. Go (out_of_switch x) st [])) (λ w st. then_do (exec_from p w (place_of h) (selected v (groups_of all)) (groups_of all) st) (λ x st. Go (out_of_switch x) st [])) now
    (λ w st. ap (λ z. then_do z (λ x st. Go (out_of_switch x) st [])) (from_there p w (place_of h) (selected v (groups_of all)) all st ∙ ap (λ gs. exec_from p w (place_of h) 0 (groups_of gs) st) (sym e)))
    (under p h m m exits.Switch old inner new (λ w st. exec_from p w (place_of h) 0 (groups_of from) st) now i (f p h m)))

pub switched_part : (r : Result Now OutOfMemory) (v : Value) (e : Box TExpr Global) (groups : Vec TGroup Global) (of : TStmt) (gs : List TGroup) (old new : List Frame) → of ≡ Switch e groups → gs ≡ groups.items
    → IfOk r (λ now. (p : Program) (h : Here) (m : Objects) → Leaves p h m old (λ w st. then_do (exec_from p w (place_of h) (selected v (groups_of gs)) (groups_of gs) st) (λ x st. Go (out_of_switch x) st [])) now m new)
    → IfOk r (λ now. (p : Program) (h : Here) (m : Objects) → Leaves p h m old (λ w st. switched p w (place_of h) (stmt_of of) v st) now m new)
switched_part r v e groups of gs old new is items f =
    let q : stmt_of of ≡ switch_on (expr_of e.value) (groups_of gs) = ap stmt_of is ∙ (switch_is e groups ∙ ap (λ gs. switch_on (expr_of e.value) (groups_of gs)) (sym items)) in
    subst (λ x. IfOk r (λ now. (p : Program) (h : Here) (m : Objects) → Leaves p h m old (λ w st. switched p w (place_of h) x v st) now m new)) (sym q) f

-- ## Statements

block_same : (p : Program) (w : World) (fr : Place) (x : Stmt) (ss : Stmts) (st : State) → x ≡ block ss → exec p w fr x st ≡ then_do (exec_all p w fr ss st) (after_part p w fr parted.Whole x)
block_same p w fr x ss st e = subst (λ x. exec p w fr x st ≡ then_do (exec_all p w fr ss st) (after_part p w fr parted.Whole x)) (sym e) refl

for_same : (p : Program) (w : World) (fr : Place) (x : Stmt) (ss : Stmts) (t u : Maybe) (s : Stmt) (st : State) → x ≡ for_loop ss t u s
    → exec p w fr x st ≡ then_do (then_do (exec_all p w fr ss st) (after_part p w fr parted.Head x)) (after_part p w fr parted.Whole x)
for_same p w fr x ss t u s st e =
    subst (λ x. exec p w fr x st ≡ then_do (then_do (exec_all p w fr ss st) (after_part p w fr parted.Head x)) (after_part p w fr parted.Whole x)) (sym e) refl

if_same : (p : Program) (w : World) (fr : Place) (x : Stmt) (e : Expr) (s r : Stmt) (st : State) → x ≡ if_else e s r → exec p w fr x st ≡ then_do (eval p w fr true e st) (λ v st. then_do (asked v st) (one_of p w fr x))
if_same p w fr x e s r st q =
    subst (λ x. exec p w fr x st ≡ then_do (eval p w fr true e st) (λ v st. then_do (asked v st) (one_of p w fr x))) (sym q) (then_assoc (eval p w fr true e st) asked (one_of p w fr (if_else e s r)))

abbrev else_in : Stmt → Stmt
else_in (if_else e s r) = r
else_in s = empty

module _ (r : Result Now OutOfMemory) (p : Program) (h : Here) (m m2 : Objects) (of : TStmt) (old new : List Frame) where
  abbrev Begins : Type 0
  Begins = IfOk r (λ now. Leaves p h m old (λ w st. exec p w (place_of h) (stmt_of of) st) now m2 new)

  by_part : (part : World → State → Outcome Exit) → ((w : World) (st : State) → exec p w (place_of h) (stmt_of of) st ≡ part w st) → IfOk r (λ now. Leaves p h m old part now m2 new) → Begins
  by_part part e = if_ok r (λ now. Leaves p h m old part now m2 new) (λ now. Leaves p h m old (λ w st. exec p w (place_of h) (stmt_of of) st) now m2 new) (λ now l. as_part p h m m2 old new part (λ w st. exec p w (place_of h) (stmt_of of) st) now e l)

  pub declare_part : (x : ℕ) (is : Vec TInit Global) (js : List TInit) → of ≡ Declare x is → js ≡ is.items → IfOk r (λ now. Leaves p h m old (λ w st. then_do (fresh p.structs (place_of h) x (slice_get (place_of h).types x) st) (λ y st. initialise p w (place_of h) x (inits_of js) st)) now m2 new) → Begins
  declare_part x is js e items f =
      by_part (λ w st. then_do (fresh p.structs (place_of h) x (slice_get (place_of h).types x) st) (λ y st. initialise p w (place_of h) x (inits_of js) st))
      (λ w st. ap (λ s. exec p w (place_of h) (stmt_of s) st) e ∙ ap (λ js. then_do (fresh p.structs (place_of h) x (slice_get (place_of h).types x) st) (λ y st. initialise p w (place_of h) x (inits_of js) st)) (sym items)) f

module _ (r : Result Now OutOfMemory) (p : Program) (h : Here) (m : Objects) (of : TStmt) (old new : List Frame) where
  pub block_part : (v : Vec TStmt Global) (ss : List TStmt) → of ≡ Block v → ss ≡ v.items
      → IfOk r (λ now. (p : Program) (h : Here) (m : Objects) → Leaves p h m old (λ w st. then_do (exec_all p w (place_of h) (stmts_of ss) st) (after_part p w (place_of h) parted.Whole (stmt_of of))) now m new) → Begins r p h m m of old new
  block_part v ss e items f =
      let q : stmt_of of ≡ block (stmts_of ss) = ap stmt_of e ∙ (block_is v ∙ ap (λ ss. block (stmts_of ss)) (sym items)) in
      by_part r p h m m of old new (λ w st. then_do (exec_all p w (place_of h) (stmts_of ss) st) (after_part p w (place_of h) parted.Whole (stmt_of of))) (λ w st. block_same p w (place_of h) (stmt_of of) (stmts_of ss) st q)
      (if_ok r (λ now. (p : Program) (h : Here) (m : Objects) → Leaves p h m old (λ w st. then_do (exec_all p w (place_of h) (stmts_of ss) st) (after_part p w (place_of h) parted.Whole (stmt_of of))) now m new)
      (λ now. Leaves p h m old (λ w st. then_do (exec_all p w (place_of h) (stmts_of ss) st) (after_part p w (place_of h) parted.Whole (stmt_of of))) now m new) (λ now l. l p h m) f)

  pub for_part : (v : Vec TStmt Global) (test step : Option (Box TExpr Global)) (body : Box TStmt Global) (ss : List TStmt) → of ≡ For v test step body → ss ≡ v.items
      → IfOk r (λ now. (p : Program) (h : Here) (m : Objects) → Leaves p h m old (λ w st. then_do (then_do (exec_all p w (place_of h) (stmts_of ss) st) (after_part p w (place_of h) parted.Head (stmt_of of))) (after_part p w (place_of h) parted.Whole (stmt_of of))) now m new) → Begins r p h m m of old new
  for_part v test step body ss e items f =
      let q : stmt_of of ≡ for_loop (stmts_of ss) (maybe_of test) (maybe_of step) (stmt_of body.value) = ap stmt_of e ∙ (for_is v test step body ∙ ap (λ ss. for_loop (stmts_of ss) (maybe_of test) (maybe_of step) (stmt_of body.value)) (sym items)) in
      by_part r p h m m of old new (λ w st. then_do (then_do (exec_all p w (place_of h) (stmts_of ss) st) (after_part p w (place_of h) parted.Head (stmt_of of))) (after_part p w (place_of h) parted.Whole (stmt_of of)))
      (λ w st. for_same p w (place_of h) (stmt_of of) (stmts_of ss) (maybe_of test) (maybe_of step) (stmt_of body.value) st q)
      (if_ok r (λ now. (p : Program) (h : Here) (m : Objects) → Leaves p h m old (λ w st. then_do (then_do (exec_all p w (place_of h) (stmts_of ss) st) (after_part p w (place_of h) parted.Head (stmt_of of))) (after_part p w (place_of h) parted.Whole (stmt_of of))) now m new)
      (λ now. Leaves p h m old (λ w st. then_do (then_do (exec_all p w (place_of h) (stmts_of ss) st) (after_part p w (place_of h) parted.Head (stmt_of of))) (after_part p w (place_of h) parted.Whole (stmt_of of))) now m new) (λ now l. l p h m) f)

  pub if_part : (test : Box TExpr Global) (one : Box TStmt Global) (other : Option (Box TStmt Global)) (e : TExpr) → of ≡ If test one other → e ≡ test.value
      → IfOk r (λ now. (p : Program) (h : Here) (m : Objects) → Leaves p h m old (λ w st. then_do (eval p w (place_of h) true (expr_of e) st) (λ v st. then_do (asked v st) (one_of p w (place_of h) (stmt_of of)))) now m new) → Begins r p h m m of old new
  if_part test one other e is same f =
      by_part r p h m m of old new (λ w st. then_do (eval p w (place_of h) true (expr_of e) st) (λ v st. then_do (asked v st) (one_of p w (place_of h) (stmt_of of))))
      (λ w st. if_same p w (place_of h) (stmt_of of) (expr_of e) (stmt_of one.value) (else_in (stmt_of (If test one other))) st (ap stmt_of is ∙ ap (λ x. if_else (expr_of x) (stmt_of one.value) (else_in (stmt_of (If test one other)))) (sym same)))
      (if_ok r (λ now. (p : Program) (h : Here) (m : Objects) → Leaves p h m old (λ w st. then_do (eval p w (place_of h) true (expr_of e) st) (λ v st. then_do (asked v st) (one_of p w (place_of h) (stmt_of of)))) now m new)
      (λ now. Leaves p h m old (λ w st. then_do (eval p w (place_of h) true (expr_of e) st) (λ v st. then_do (asked v st) (one_of p w (place_of h) (stmt_of of)))) now m new) (λ now l. l p h m) f)
