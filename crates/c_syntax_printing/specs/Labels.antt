-- What stands after a label as a relation between lists of tokens, within a bound.
use Rattle.std.specs.Prelude.{◌≤◌, List}
use Rattle.c_lexer.specs.declared.token.Token.{Token}
use Rattle.c_syntax_printing.specs.Heads.{head}
use Rattle.c_syntax_printing.specs.Fails.{Or}
use Rattle.c_syntax_printing.specs.Phrases.{Bound, SomeLabels}

-- nothing, where a statement begins
pub data NoLabel : List Token → List Token → Type 0 where
  no_label : {i : List Token} → 20 ≤ head i → NoLabel i i

-- more labels, or nothing
abbrev pub LabelsRest : Bound → List Token → List Token → Type 0
LabelsRest b = Or NoLabel (SomeLabels b)
