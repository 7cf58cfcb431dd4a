use Rattle.std.proofs.Common.{ap, map, ◌∙◌}
use Rattle.c_tree.specs.View.{ctype_of}
use Rattle.c_tree.proofs.CopyLemmas.{copied_function}
use Rattle.c_tree.proofs.copying.+copying.Goals as goal

-- src/copying.rt:9:1
pub copy_type-returns-in_ok-new-in-Function : goal.copy_type-returns-in_ok-new-in-Function
copy_type-returns-in_ok-new-in-Function t c = copied_function c.args.t.now c.in-Function.u c.in_ok-new-in-Function.field-0 c.in-Function.ts c.in_ok-takes-in-Function.takes c.in-Function.is (ap ctype_of c.in_ok-new-in-Function.ensures.ok ∙ (c.in_ok-gives-in-Function.ensures ∙ ap ctype_of c.deref-in-Function.ensures)) (c.in_ok-takes-in-Function.ensures ∙ ap (map ctype_of) c.deref-in-Function-2.ensures.value)
