use Rattle.c_syntax.specs.Print.{members_kinds, enumerators_kinds}
use Rattle.c_syntax.specs.UnitView.{members_of, enumerators_of}
use Rattle.c_syntax_printing.proofs.Counting.{and_then, name_is, of_same}
use Rattle.c_syntax_printing.proofs.item_lengths.count_item.Goals as goal

pub returns-in-Struct : goal.returns-in-Struct
returns-in-Struct c =
    rw c.in-Struct.is
    (and_then
    (and_then
    (and_then
    (and_then (and_then c.count_keyword-total.ensures (name_is _ _ c.as_slice.ensures c.count_name-total.ensures)) c.count_punctuator-total.ensures)
    (of_same (λ xs. members_kinds (members_of xs)) _ _ c.deref.ensures.value c.count_members-total.ensures))
    c.count_punctuator-total-in-Struct.ensures)
    c.count_punctuator.ensures)

pub returns-in-Enum : goal.returns-in-Enum
returns-in-Enum c =
    rw c.in-Enum.is
    (and_then
    (and_then
    (and_then
    (and_then (and_then c.count_keyword-total-in-Enum.ensures c.count_tag-total.ensures) c.count_punctuator-total-in-Enum.ensures)
    (of_same (λ xs. enumerators_kinds (enumerators_of xs)) _ _ c.deref-in-Enum.ensures.value c.count_enumerators-total.ensures))
    c.count_punctuator-total-in-Enum-2.ensures)
    c.count_punctuator-in-Enum.ensures)

pub returns-in-Tag : goal.returns-in-Tag
returns-in-Tag c =
    rw c.in-Tag.is
    (and_then
    (and_then c.count_keyword-total-in-Tag.ensures (name_is _ _ c.as_slice-in-Tag.ensures c.count_name-total-in-Tag.ensures))
    c.count_punctuator-in-Tag.ensures)
