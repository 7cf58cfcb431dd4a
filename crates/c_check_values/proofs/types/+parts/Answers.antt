use Rattle.std.proofs.Common.{arith, ap}
use Rattle.c_tree.specs.View.{ctype_of, types_of}
use Rattle.c_check_scopes.specs.Types.{parts, parts_of_all}
use Rattle.c_check_values.proofs.PartsOfTypes.{function_parts, some_left, none_left}
use Rattle.c_check_values.proofs.types.+parts.Goals as goal

pub left_of-returns-in_ok-left-in-Function-clause-some : goal.left_of-returns-in_ok-left-in-Function-clause-some
left_of-returns-in_ok-left-in-Function-clause-some t c =
    some_left c.left_of_all.result (parts (ctype_of c.args.t.now)) (parts_of_all (types_of c.deref-in-Function-2.result.now)) c.args.most c.in_ok-left-in-Function.left
    (omega (arith, function_parts c.args.t.now c.in-Function.u c.in-Function.ts c.in-Function.is, ap (λ ts. parts_of_all (types_of ts)) c.deref-in-Function-2.ensures.value, ap (λ u. parts (ctype_of u)) c.deref-in-Function.ensures, c.in_ok-left-in-Function.ensures.some, c.in_ok-checked_sub-in-Function.ensures.0, c.in_ok-checked_sub-in-Function.ensures.1))
    c.left_of_all.ensures.some

pub left_of-returns-in_ok-left-in-Function-clause-none : goal.left_of-returns-in_ok-left-in-Function-clause-none
left_of-returns-in_ok-left-in-Function-clause-none t c =
    none_left c.left_of_all.result (parts (ctype_of c.args.t.now)) (parts_of_all (types_of c.deref-in-Function-2.result.now)) c.args.most c.in_ok-left-in-Function.left
    (omega (arith, function_parts c.args.t.now c.in-Function.u c.in-Function.ts c.in-Function.is, ap (λ ts. parts_of_all (types_of ts)) c.deref-in-Function-2.ensures.value, ap (λ u. parts (ctype_of u)) c.deref-in-Function.ensures, c.in_ok-left-in-Function.ensures.some, c.in_ok-checked_sub-in-Function.ensures.0, c.in_ok-checked_sub-in-Function.ensures.1))
    c.left_of_all.ensures.none
