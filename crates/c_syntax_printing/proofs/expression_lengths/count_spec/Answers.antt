use Rattle.c_syntax_printing.proofs.Counting.{and_then, name_is}
use Rattle.c_syntax_printing.proofs.expression_lengths.count_spec.Goals as goal

pub returns-in-Uchar : goal.returns-in-Uchar
returns-in-Uchar c = rw c.in-Uchar.is (and_then c.count_keyword-total.ensures c.count_keyword-in-Uchar.ensures)

pub returns-in-Uint : goal.returns-in-Uint
returns-in-Uint c = rw c.in-Uint.is (and_then c.count_keyword-total-in-Uint.ensures c.count_keyword-in-Uint.ensures)

pub returns-in-Struct : goal.returns-in-Struct
returns-in-Struct c = rw c.in-Struct.is (and_then c.count_keyword-total-in-Struct.ensures (name_is _ _ c.as_slice.ensures c.count_name.ensures))

pub returns-in-Enum : goal.returns-in-Enum
returns-in-Enum c = rw c.in-Enum.is (and_then c.count_keyword-total-in-Enum.ensures (name_is _ _ c.as_slice-in-Enum.ensures c.count_name-in-Enum.ensures))
