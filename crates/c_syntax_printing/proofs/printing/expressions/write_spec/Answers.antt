use Rattle.c_syntax.proofs.Writing.{and_last, name_last}
use Rattle.c_syntax_printing.proofs.printing.expressions.write_spec.Goals as goal

pub returns-in_ok-push_keyword-in-Uchar : goal.returns-in_ok-push_keyword-in-Uchar
returns-in_ok-push_keyword-in-Uchar c =
    rw c.in-Uchar.is (and_last _ _ _ c.in_ok-push_keyword-in-Uchar.ensures c.push_keyword-in-Uchar-2.ensures)

pub returns-in_ok-push_keyword-in-Uint : goal.returns-in_ok-push_keyword-in-Uint
returns-in_ok-push_keyword-in-Uint c =
    rw c.in-Uint.is (and_last _ _ _ c.in_ok-push_keyword-in-Uint.ensures c.push_keyword-in-Uint-2.ensures)

pub returns-in_ok-push_keyword-in-Struct : goal.returns-in_ok-push_keyword-in-Struct
returns-in_ok-push_keyword-in-Struct c =
    rw c.in-Struct.is
    (and_last _ _ _ c.in_ok-push_keyword-in-Struct.ensures (name_last _ _ _ _ _ c.as_slice.ensures c.push_name.ensures))

pub returns-in_ok-push_keyword-in-Enum : goal.returns-in_ok-push_keyword-in-Enum
returns-in_ok-push_keyword-in-Enum c =
    rw c.in-Enum.is
    (and_last _ _ _ c.in_ok-push_keyword-in-Enum.ensures (name_last _ _ _ _ _ c.as_slice-in-Enum.ensures c.push_name-in-Enum.ensures))
