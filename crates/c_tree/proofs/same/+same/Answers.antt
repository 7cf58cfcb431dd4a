use Rattle.std.proofs.Common.{refl, ap, sym, ◌∙◌, arith}
use Rattle.std.proofs.lemmas.Bool.{false≢true}
use Rattle.c_tree.specs.View.{ctype_of, types_of}
use Rattle.c_tree.proofs.Rows.{function_is}
use Rattle.c_tree.proofs.SameLemmas.{same_length, same_functions, all_same, same_at}
use Rattle.c_tree.proofs.same.+same.Goals as goal

-- src/same.rt:55:9
pub are_same-returns-then-ts-us : goal.are_same-returns-then-ts-us
are_same-returns-then-ts-us t c = (λ e. absurd (false≢true e), λ e. absurd (c.if-ts-us.true (same_length c.args.ts.now c.args.us.now e)))

-- src/same.rt:7:1
pub is_same-returns-else-not-is_same : goal.is_same-returns-else-not-is_same
is_same-returns-else-not-is_same t c = same_functions c.are_same.result (ctype_of c.args.a.now) (ctype_of c.args.b.now) (ctype_of c.in-Function.t.value) (ctype_of c.in-Function-b.u.value) (types_of c.in-Function.ts.items) (types_of c.in-Function-b.us.items) (ap ctype_of c.in-Function.is ∙ function_is c.in-Function.t c.in-Function.ts) (ap ctype_of c.in-Function-b.is ∙ function_is c.in-Function-b.u c.in-Function-b.us) (sym (ap ctype_of c.deref-in-Function-b.ensures) ∙ (c.is_same-in-Function-b.ensures.0 c.if-not-is_same.false ∙ ap ctype_of c.deref-in-Function-b-2.ensures)) (rw (c.deref-in-Function-b-3.ensures.value, c.deref-in-Function-b-4.ensures.value) at c.are_same.ensures)

-- src/same.rt:59:13
pub are_same-returns-then-not-is_same : goal.are_same-returns-then-not-is_same
are_same-returns-then-not-is_same t c = (λ e. absurd (false≢true e), λ q. sym c.if-not-is_same.true ∙ c.is_same.ensures.1 (ap ctype_of c.index-ts-i.is ∙ (same_at c.args.ts.now c.args.us.now c.loop-i.i _ _ c.loop-i-test.true q ∙ sym (ap ctype_of c.index-us-i.is))))

-- src/same.rt:50:1
pub are_same-returns : goal.are_same-returns
are_same-returns t c = (λ e. all_same c.args.ts.now c.args.us.now c.loop-i.i c.if-ts-us.false (omega (arith, c.loop-i-test.false, c.loop-i.auto.i-end)) c.loop-i.invariant, λ q. refl)
