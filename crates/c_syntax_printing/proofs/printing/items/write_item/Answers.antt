use Rattle.c_syntax.specs.Print.{members_kinds, enumerators_kinds}
use Rattle.c_syntax.specs.UnitView.{members_of, enumerators_of}
use Rattle.c_syntax.proofs.Writing.{and_then, and_last, name_is, of_same}
use Rattle.c_syntax_printing.proofs.printing.items.write_item.Goals as goal

pub returns-in_ok-push_punctuator-in-Struct-2 : goal.returns-in_ok-push_punctuator-in-Struct-2
returns-in_ok-push_punctuator-in-Struct-2 c =
    rw c.in-Struct.is
    (and_last _ _ _
    (and_then
    (and_then
    (and_then (and_then c.in_ok-push_keyword-in-Struct.ensures (name_is _ _ c.as_slice.ensures c.in_ok-push_name-in-Struct.ensures)) c.in_ok-push_punctuator-in-Struct.ensures)
    (of_same (λ xs. members_kinds (members_of xs)) _ _ c.deref.ensures.value c.in_ok-write_members-in-Struct.ensures))
    c.in_ok-push_punctuator-in-Struct-2.ensures)
    c.push_punctuator-in-Struct-2.ensures)

pub returns-in_ok-push_punctuator-in-Enum-2 : goal.returns-in_ok-push_punctuator-in-Enum-2
returns-in_ok-push_punctuator-in-Enum-2 c =
    rw c.in-Enum.is
    (and_last _ _ _
    (and_then
    (and_then
    (and_then (and_then c.in_ok-push_keyword-in-Enum.ensures c.in_ok-write_tag-in-Enum.ensures) c.in_ok-push_punctuator-in-Enum.ensures)
    (of_same (λ xs. enumerators_kinds (enumerators_of xs)) _ _ c.deref-in-Enum.ensures.value c.in_ok-write_enumerators-in-Enum.ensures))
    c.in_ok-push_punctuator-in-Enum-2.ensures)
    c.push_punctuator-in-Enum-3.ensures)

pub returns-in_ok-push_name-in-Tag : goal.returns-in_ok-push_name-in-Tag
returns-in_ok-push_name-in-Tag c =
    rw c.in-Tag.is
    (and_last _ _ _
    (and_then c.in_ok-push_keyword-in-Tag.ensures (name_is _ _ c.as_slice-in-Tag.ensures c.in_ok-push_name-in-Tag.ensures))
    c.push_punctuator-in-Tag.ensures)
