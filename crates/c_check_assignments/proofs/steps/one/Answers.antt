use Rattle.std.proofs.Common.{refl}
use Rattle.std.specs.Int.{int_wrap}
use Rattle.c_check_assignments.proofs.steps.one.Goals as goal

pub returns-in-Char : goal.returns-in-Char
unfolding int_wrap
returns-in-Char c = rw c.in-Char.is refl

pub returns-in-Uchar : goal.returns-in-Uchar
unfolding int_wrap
returns-in-Uchar c = rw c.in-Uchar.is refl

pub returns-in-Int : goal.returns-in-Int
unfolding int_wrap
returns-in-Int c = rw c.in-Int.is refl

pub returns-in-Uint : goal.returns-in-Uint
unfolding int_wrap
returns-in-Uint c = rw c.in-Uint.is refl
