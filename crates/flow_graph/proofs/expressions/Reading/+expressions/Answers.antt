use Rattle.std.proofs.Common.{◌≡◌, ◌⊎◌, ◌∙◌, inl, inr, ℕ, Bool, List, Global, Result, IfOk, ap, ap₂, sym}
use Rattle.std.specs.Prelude.{Box}
use Rattle.dm_base.specs.declared.memory.OutOfMemory.{OutOfMemory}
use Rattle.c_tree.specs.declared.tree.TExpr.{TExpr}
use Rattle.c_tree.specs.declared.value.Value.{Value}
use Rattle.c_tree.specs.declared.value.IntType.{IntType}
use Rattle.c_tree.specs.declared.value.UnOp.{UnOp}
use Rattle.c_tree.specs.declared.value.BinOp.{BinOp}
use Rattle.c_tree.specs.declared.tree.TExprKind.{TExprKind, Const, Function, StringPlace, Variable}
use Rattle.c_tree.specs.declared.tree.TExprKind.TheVariants.{Deref, Load, AddressOf, Decay, Discard, Field, Unary, Convert, Arith, Compare, PointerAdd, PointerDiff, And, Or, Assign, Update}
use Rattle.c_tree.specs.View.{ctype_of, expr_with, expr_of, exprs_of}
use Rattle.c_meaning.specs.Shape.{Shape, Skip, End}
use Rattle.c_meaning.specs.ShapeOf.{before_parts, without_skips, in_turn, seq_two, alt}
use Rattle.flow_graph.specs.declared.shape.Shape.{Shape as Tree}
use Rattle.flow_graph.specs.View.{shape_of, parts_of}
use Rattle.flow_graph.specs.Joined.{joined}
use Rattle.flow_graph.specs.Sited.{call_at, direct_at, expr_at, exprs_at}
use Rattle.flow_graph.proofs.TakenParts.{each, expr_shape, exprs_each, part_more, parts_end}
use Rattle.flow_graph.proofs.Trees.{of_comma, of_call, of_call_through, same_shape}
use Rattle.flow_graph.proofs.expressions.Reading.+expressions.Goals as goal

module _ (n : ℕ) (ms : List Bool) where
  -- the shape of what has this form
  of_kind : (e : TExpr) (k : TExprKind) → e.kind ≡ k → expr_at n ms (expr_with (ctype_of e.ctype) k) ≡ expr_at n ms (expr_of e)
  of_kind e k is = sym (ap (λ k. expr_at n ms (expr_with (ctype_of e.ctype) k)) is)

  -- the forms without parts
  of_none : (e : TExpr)
      → ((v : Value) × (e.kind ≡ Const v)) ⊎ (((f : ℕ) × (e.kind ≡ Function f)) ⊎ (((k : ℕ) × (e.kind ≡ StringPlace k)) ⊎ ((s : Bool) × (k : ℕ) × (e.kind ≡ Variable s k))))
      → Skip ≡ expr_at n ms (expr_of e)
  of_none e (inl h) = of_kind e (Const h.0) h.1
  of_none e (inr (inl h)) = of_kind e (Function h.0) h.1
  of_none e (inr (inr (inl h))) = of_kind e (StringPlace h.0) h.1
  of_none e (inr (inr (inr h))) = of_kind e (Variable h.0 h.1) h.2

  -- the forms whose shape is that of their part
  of_one : (e : TExpr) (a : Box TExpr Global)
      → (e.kind ≡ Deref a) ⊎ ((e.kind ≡ Load a) ⊎ ((e.kind ≡ AddressOf a) ⊎ ((e.kind ≡ Decay a) ⊎ ((e.kind ≡ Discard a) ⊎ (((k : ℕ) × (e.kind ≡ Field a k)) ⊎ (((op : UnOp) × (e.kind ≡ Unary op a)) ⊎ ((t : IntType) × (e.kind ≡ Convert t a))))))))
      → expr_at n ms (expr_of a.value) ≡ expr_at n ms (expr_of e)
  of_one e a (inl is) = of_kind e (Deref a) is
  of_one e a (inr (inl is)) = of_kind e (Load a) is
  of_one e a (inr (inr (inl is))) = of_kind e (AddressOf a) is
  of_one e a (inr (inr (inr (inl is)))) = of_kind e (Decay a) is
  of_one e a (inr (inr (inr (inr (inl is))))) = of_kind e (Discard a) is
  of_one e a (inr (inr (inr (inr (inr (inl h)))))) = of_kind e (Field a h.0) h.1
  of_one e a (inr (inr (inr (inr (inr (inr (inl h))))))) = of_kind e (Unary h.0 a) h.1
  of_one e a (inr (inr (inr (inr (inr (inr (inr h))))))) = of_kind e (Convert h.0 a) h.1

  -- the forms with two parts, both of which come
  of_both : (e : TExpr) (a b : Box TExpr Global)
      → ((op : BinOp) × (e.kind ≡ Arith op a b)) ⊎ (((op : BinOp) × (e.kind ≡ Compare op a b)) ⊎ (((f s : Bool) × (e.kind ≡ PointerAdd f s a b)) ⊎ ((e.kind ≡ PointerDiff a b) ⊎ ((e.kind ≡ Assign a b) ⊎ ((op : BinOp) × (old : Bool) × (e.kind ≡ Update op old a b))))))
      → seq_two (expr_at n ms (expr_of a.value)) (expr_at n ms (expr_of b.value)) ≡ expr_at n ms (expr_of e)
  of_both e a b (inl h) = of_kind e (Arith h.0 a b) h.1
  of_both e a b (inr (inl h)) = of_kind e (Compare h.0 a b) h.1
  of_both e a b (inr (inr (inl h))) = of_kind e (PointerAdd h.0 h.1 a b) h.2
  of_both e a b (inr (inr (inr (inl is)))) = of_kind e (PointerDiff a b) is
  of_both e a b (inr (inr (inr (inr (inl is))))) = of_kind e (Assign a b) is
  of_both e a b (inr (inr (inr (inr (inr h))))) = of_kind e (Update h.0 h.1 a b) h.2

  -- the forms with two parts, of which the second one may come
  of_second : (e : TExpr) (a b : Box TExpr Global) → (e.kind ≡ And a b) ⊎ (e.kind ≡ Or a b)
      → seq_two (expr_at n ms (expr_of a.value)) (alt (expr_at n ms (expr_of b.value)) Skip) ≡ expr_at n ms (expr_of e)
  of_second e a b (inl is) = of_kind e (And a b) is
  of_second e a b (inr is) = of_kind e (Or a b) is

  -- the form of an expression says its shape
  of_form : (r : Result Tree OutOfMemory) (e : TExpr) (k : TExprKind) (S : Shape) → e.kind ≡ k → S ≡ expr_at n ms (expr_with (ctype_of e.ctype) k) → IfOk r (λ s. shape_of s ≡ S) → IfOk r (λ s. shape_of s ≡ expr_at n ms (expr_of e))
  of_form r e k S is form = same_shape r S (expr_at n ms (expr_of e)) (form ∙ of_kind e k is)

  -- that of its one part
  of_part : (r : Result Tree OutOfMemory) (e f a : TExpr) → f ≡ a → expr_at n ms (expr_of a) ≡ expr_at n ms (expr_of e)
      → IfOk r (λ s. shape_of s ≡ expr_at n ms (expr_of f)) → IfOk r (λ s. shape_of s ≡ expr_at n ms (expr_of e))
  of_part r e f a same form = same_shape r (expr_at n ms (expr_of f)) (expr_at n ms (expr_of e)) (ap (λ x. expr_at n ms (expr_of x)) same ∙ form)

  -- that of its two parts, joined in this way
  of_two : (join : Shape → Shape → Shape) (r : Result Tree OutOfMemory) (e f g a b : TExpr) (first : Tree) → f ≡ a → g ≡ b
      → join (expr_at n ms (expr_of a)) (expr_at n ms (expr_of b)) ≡ expr_at n ms (expr_of e) → shape_of first ≡ expr_at n ms (expr_of f)
      → IfOk r (λ s. shape_of s ≡ join (shape_of first) (expr_at n ms (expr_of g))) → IfOk r (λ s. shape_of s ≡ expr_at n ms (expr_of e))
  of_two join r e f g a b first one other form begun =
      same_shape r (join (shape_of first) (expr_at n ms (expr_of g))) (expr_at n ms (expr_of e))
      (ap₂ join (begun ∙ ap (λ x. expr_at n ms (expr_of x)) one) (ap (λ x. expr_at n ms (expr_of x)) other) ∙ form)

pub expression-returns-in-Const : goal.expression-returns-in-Const
expression-returns-in-Const t c = of_none c.args.self.now.defined c.args.self.now.marks.now c.args.e.now c.in-Const.is

pub expression-returns-in-Deref : goal.expression-returns-in-Deref
expression-returns-in-Deref t c =
    of_part c.args.self.now.defined c.args.self.now.marks.now c.expression-in-Deref.result c.args.e.now c.deref-in-Deref.result.now c.in-Deref.a.value c.deref-in-Deref.ensures
    (of_one c.args.self.now.defined c.args.self.now.marks.now c.args.e.now c.in-Deref.a c.in-Deref.is) c.expression-in-Deref.ensures

pub expression-returns-in_ok-first-in-Arith : goal.expression-returns-in_ok-first-in-Arith
expression-returns-in_ok-first-in-Arith t c =
    of_two c.args.self.now.defined c.args.self.now.marks.now seq_two c.after.result c.args.e.now c.deref-in-Arith.result.now c.deref-in-Arith-2.result.now c.in-Arith.a.value c.in-Arith.b.value
    c.in_ok-first-in-Arith.first c.deref-in-Arith.ensures c.deref-in-Arith-2.ensures
    (of_both c.args.self.now.defined c.args.self.now.marks.now c.args.e.now c.in-Arith.a c.in-Arith.b c.in-Arith.is) c.in_ok-first-in-Arith.ensures c.after.ensures

pub expression-returns-in_ok-first-in-And : goal.expression-returns-in_ok-first-in-And
expression-returns-in_ok-first-in-And t c =
    of_two c.args.self.now.defined c.args.self.now.marks.now (λ S U. seq_two S (alt U Skip)) c.perhaps_after.result c.args.e.now c.deref-in-And.result.now c.deref-in-And-2.result.now c.in-And.a.value c.in-And.b.value
    c.in_ok-first-in-And.first c.deref-in-And.ensures c.deref-in-And-2.ensures
    (of_second c.args.self.now.defined c.args.self.now.marks.now c.args.e.now c.in-And.a c.in-And.b c.in-And.is) c.in_ok-first-in-And.ensures c.perhaps_after.ensures

pub expression-returns-in_ok-one-in-Cond : goal.expression-returns-in_ok-one-in-Cond
expression-returns-in_ok-one-in-Cond t c =
    let n = c.args.self.now.defined in
    let ms = c.args.self.now.marks.now in
    let i = c.in-Cond in
    let test = c.in_ok-first-in-Cond.ensures ∙ ap (λ e. expr_at n ms (expr_of e)) c.deref.ensures in
    let yes = c.in_ok-one-in-Cond.ensures ∙ ap (λ e. expr_at n ms (expr_of e)) c.deref-in-Cond.ensures in
    of_form n ms c.one_after.result c.args.e.now _ (seq_two (shape_of c.in_ok-first-in-Cond.first) (alt (shape_of c.in_ok-one-in-Cond.one) (expr_at n ms (expr_of c.deref-in-Cond-2.result.now)))) i.is
    (ap₂ (λ S T. seq_two S (alt T (expr_at n ms (expr_of c.deref-in-Cond-2.result.now)))) test yes
    ∙ ap (λ e. seq_two (expr_at n ms (expr_of i.test.value)) (alt (expr_at n ms (expr_of i.yes.value)) (expr_at n ms (expr_of e)))) c.deref-in-Cond-2.ensures)
    c.one_after.ensures

pub expression-returns-in_ok-parts-in-Comma : goal.expression-returns-in_ok-parts-in-Comma
expression-returns-in_ok-parts-in-Comma t c =
    let n = c.args.self.now.defined in
    let ms = c.args.self.now.marks.now in
    same_shape c.in_turn.result (in_turn (parts_of c.in_ok-parts-in-Comma.parts.items)) (expr_at n ms (expr_of c.args.e.now))
    (ap in_turn (c.in_ok-parts-in-Comma.ensures ∙ ap (λ es. without_skips (exprs_at n ms (exprs_of es) End)) c.deref-in-Comma.ensures.value) ∙ of_comma n ms c.args.e.now c.in-Comma.es c.in-Comma.is)
    c.in_turn.ensures

pub expression-returns-in_ok-parts-in-Call : goal.expression-returns-in_ok-parts-in-Call
expression-returns-in_ok-parts-in-Call t c =
    let n = c.args.self.now.defined in
    let ms = c.args.self.now.marks.now in
    let s = c.in-Call.site in
    let f = c.in-Call.function in
    let parts = c.in_ok-parts-in-Call.ensures ∙ ap (λ es. without_skips (exprs_at n ms (exprs_of es) End)) c.deref-in-Call.ensures.value in
    let last = c.direct_call-call.ensures ∙ ap (λ es. direct_at n ms s f (exprs_of es)) c.deref-in-Call-2.ensures.value in
    same_shape c.then_last.result (in_turn (joined (parts_of c.in_ok-parts-in-Call.parts.items) (before_parts (shape_of c.direct_call-call.result) End))) (expr_at n ms (expr_of c.args.e.now))
    (ap₂ (λ ps S. in_turn (joined ps (before_parts S End))) parts last ∙ of_call n ms c.args.e.now s f c.in-Call.arguments c.in-Call.is)
    c.then_last.ensures

pub expression-returns-in_ok-parts-in-CallThrough : goal.expression-returns-in_ok-parts-in-CallThrough
expression-returns-in_ok-parts-in-CallThrough t c =
    let n = c.args.self.now.defined in
    let ms = c.args.self.now.marks.now in
    let s = c.in-CallThrough.site in
    let d = c.in-CallThrough.designator in
    let first = c.in_ok-pointer-in-CallThrough.ensures ∙ ap (λ e. expr_at n ms (expr_of e)) c.deref-in-CallThrough.ensures in
    let parts = c.in_ok-parts-in-CallThrough.ensures ∙ ap (λ es. without_skips (exprs_at n ms (exprs_of es) End)) c.deref-in-CallThrough-2.ensures.value in
    same_shape c.between.result (in_turn (before_parts (shape_of c.in_ok-pointer-in-CallThrough.pointer) (joined (parts_of c.in_ok-parts-in-CallThrough.parts.items) (before_parts (shape_of c.marked_call.result) End)))) (expr_at n ms (expr_of c.args.e.now))
    (ap (λ T. in_turn (before_parts (shape_of c.in_ok-pointer-in-CallThrough.pointer) (joined (parts_of c.in_ok-parts-in-CallThrough.parts.items) (before_parts T End)))) c.marked_call.ensures
    ∙ ap₂ (λ S ps. in_turn (before_parts S (joined ps (before_parts (call_at ms s) End)))) first parts
    ∙ of_call_through n ms c.args.e.now s d c.in-CallThrough.arguments c.in-CallThrough.is)
    c.between.ensures

pub expressions-loop-e-preserved : goal.expressions-loop-e-preserved
expressions-loop-e-preserved t c =
    let f = expr_shape c.args.self.now.defined c.args.self.now.marks.now in
    part_more f c.args.es.now c.loop-e.e-index c.e-item.result c.loop-e.parts.items c.add.new.into.items c.in_ok-part.part (without_skips (each f c.args.es.now)) c.loop-e-test.true c.e-item.is c.loop-e.invariant c.in_ok-part.ensures c.in_ok-add.ensures

pub expressions-returns : goal.expressions-returns
expressions-returns t c =
    let f = expr_shape c.args.self.now.defined c.args.self.now.marks.now in
    parts_end f c.args.es.now c.loop-e.e-index (parts_of c.loop-e.parts.items) (without_skips (each f c.args.es.now)) c.loop-e-test.false c.loop-e.invariant ∙ ap without_skips (exprs_each c.args.self.now.defined c.args.self.now.marks.now c.args.es.now)

pub after-returns : goal.after-returns
after-returns t c = same_shape c.two.result _ _ (ap (seq_two (shape_of c.args.first)) c.in_ok-second.ensures) c.two.ensures

pub perhaps_after-returns : goal.perhaps_after-returns
perhaps_after-returns t c = same_shape c.perhaps.result _ _ (ap (λ S. seq_two (shape_of c.args.first) (alt S Skip)) c.in_ok-second.ensures) c.perhaps.ensures

pub one_after-returns : goal.one_after-returns
one_after-returns t c = same_shape c.one_of.result _ _ (ap (λ S. seq_two (shape_of c.args.first) (alt (shape_of c.args.one) S)) c.in_ok-other.ensures) c.one_of.ensures
