use Rattle.std.proofs.Math.Logic.{⊎_map}
use Rattle.c_syntax_printing.specs.Nodes.{in_pointer}
use Rattle.c_parser_phrases.proofs.Rows.{pointer_is, made_declarator_as, inside_declarator_as}
use Rattle.c_parser_phrases.proofs.nodes.pointer_node.Goals as goal

pub returns-clause-makes : goal.returns-clause-makes
returns-clause-makes c = made_declarator_as c.measured_declarator.result (pointer_is c.args.at c.args.a.tree) c.measured_declarator.ensures.makes

pub returns-clause-deep : goal.returns-clause-deep
returns-clause-deep c = λ d. c.measured_declarator.ensures.deep (inside_declarator_as (pointer_is c.args.at c.args.a.tree) (⊎_map (λ z. z) in_pointer d))
