use Rattle.std.proofs.Common.{◌≡◌, ◌<◌, ◌%◌, length, sym, ◌∙◌, arith}
use Rattle.std.proofs.lemmas.Bool.{false≢true}
use Rattle.line_text.proofs.HexadecimalLemmas.{hexadecimal-text, hexadecimal-spelt, lower_from_all, all_from_lower}
use Rattle.line_text.proofs.hexadecimal.hexadecimal_in.Goals as goal

pub returns-then-is_empty : goal.returns-then-is_empty
returns-then-is_empty c v fits is =
    let some = (hexadecimal-text v c.args.word.now fits is).0 in
    let none : length c.args.word.now ≡ 0 = grind arith in
    omega arith

pub returns-then-word-eq1 : goal.returns-then-word-eq1
returns-then-word-eq1 c v fits is =
    let even = (hexadecimal-text v c.args.word.now fits is).1 in
    let odd = c.if-word-eq1.true in
    omega arith

pub returns-then-not-are_lower_digits : goal.returns-then-not-are_lower_digits
returns-then-not-are_lower_digits c v fits is =
    let lower = (hexadecimal-text v c.args.word.now fits is).2 in
    false≢true (sym c.if-not-are_lower_digits.true ∙ c.are_lower_digits.ensures.1 (all_from_lower c.args.word.now lower))

pub returns-in_ok-of-in-Ok : goal.returns-in_ok-of-in-Ok
returns-in_ok-of-in-Ok c =
    let word = c.args.word.now in
    let some : 0 < length word = grind arith in
    let even : length word % 2 ≡ 0 = omega (arith, c.if-word-eq1.false) in
    let lower = lower_from_all word (c.are_lower_digits.ensures.0 c.if-not-are_lower_digits.false) in
    let spelt = hexadecimal-spelt word c.in-Ok.bytes.items some even lower c.in-Ok.ensures.ok in
    let same : c.in_ok-of-in-Ok.field-0 ≡ c.in-Ok.bytes.items = c.in_ok-of-in-Ok.ensures ∙ c.deref.ensures.value in
    rw same spelt
