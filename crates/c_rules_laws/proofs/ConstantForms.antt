-- What is constant in operands of which a rule gives a constant.
use Rattle.std.proofs.Common.{◌≡◌, ℕ, ℤ, Bool, true, false}
use Rattle.c_tree.specs.declared.value.IntType.{IntType}
use Rattle.c_tree.specs.declared.value.UnOp.{UnOp}
use Rattle.c_tree.specs.declared.value.BinOp.{BinOp}
use Rattle.c_rules.specs.Types.{is_integer}
use Rattle.c_rules.specs.TypedExpression.{Constant, not_constant, is_known_zero, integer_constant_if, TypedExpression, integer_constant}
use Rattle.c_rules.specs.Constants.{constant_converted, constant_unary, constant_binary, constant_and, constant_or, constant_conditional, constant_member, constant_decayed, constant_moved}
use Rattle.c_rules_laws.specs.ConstantForm.{IsConst}

pub converted_const : (i : IntType) (c : Constant) → IsConst (constant_converted i c) → IsConst c
converted_const i not_constant h = h
converted_const i c h = tt

pub unary_const : (o : UnOp) (c : Constant) → IsConst (constant_unary o c) → IsConst c
unary_const o not_constant h = h
unary_const o c h = tt

pub integer_const : (b : Bool) (c : Constant) → IsConst (integer_constant_if b c) → IsConst c
integer_const true c h = h
integer_const false c h = absurd h

-- two operands of which a rule on integer constants gives a constant
pub two_const : (a b : TypedExpression) (f : Constant → Constant → Constant) → ((c d : Constant) → IsConst (f c d) → IsConst c × IsConst d) → IsConst (f (integer_constant a) (integer_constant b)) → IsConst a.constant × IsConst b.constant
two_const a b f k h = (let w = k (integer_constant a) (integer_constant b) h in (integer_const (is_integer a.ctype) a.constant w.0, integer_const (is_integer b.ctype) b.constant w.1))

pub decayed_const : (n : ℕ) (c : Constant) → IsConst (constant_decayed n c) → IsConst c
decayed_const n not_constant h = h
decayed_const n c h = tt

pub member_const : (k n : ℕ) (c : Constant) → IsConst (constant_member k n c) → IsConst c
member_const k n not_constant h = h
member_const k n c h = tt

pub binary_const : (o : BinOp) (a b : Constant) → IsConst (constant_binary o a b) → IsConst a × IsConst b
binary_const o not_constant b h = absurd h
binary_const o a not_constant h = absurd h
binary_const o a b h = (tt, tt)

pub and_const : (a b : Constant) → IsConst (constant_and a b) → IsConst a × IsConst b
and_const not_constant b h = absurd h
and_const a not_constant h = absurd h
and_const a b h = (tt, tt)

pub or_const : (a b : Constant) → IsConst (constant_or a b) → IsConst a × IsConst b
or_const not_constant b h = absurd h
or_const a not_constant h = absurd h
or_const a b h = (tt, tt)

pub conditional_const : (c a b : Constant) → IsConst (constant_conditional c a b) → IsConst c × IsConst a × IsConst b
conditional_const not_constant a b h = absurd h
conditional_const c not_constant b h = absurd h
conditional_const c a not_constant h = absurd h
conditional_const c a b h = (tt, tt, tt)

pub moved_const : (c : Constant) (s : ℤ → ℤ) (k : Constant) → IsConst (constant_moved c s k) → IsConst c × IsConst k
moved_const not_constant s k h = absurd h
moved_const c s not_constant h = absurd h
moved_const c s k h = (tt, tt)

pub zero_const : (c : Constant) → is_known_zero c ≡ true → IsConst c
zero_const not_constant h = absurd (cc)
zero_const c h = tt
