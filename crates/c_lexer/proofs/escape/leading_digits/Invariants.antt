use Rattle.std.proofs.Common.{take}
use Rattle.std.specs.Str.Parse.{AllDigits, digits_value}
use Rattle.c_lexer.specs.Elements.{KeepsByte}
use Rattle.c_lexer.proofs.escape.leading_digits.Given as goal

abbrev pub invariant-loop-count : goal.invariant-loop-count
invariant-loop-count l = record {
  are : AllDigits l.radix (take l.count l.text);
  value : KeepsByte (digits_value l.radix (take l.count l.text)) l.value;
}
