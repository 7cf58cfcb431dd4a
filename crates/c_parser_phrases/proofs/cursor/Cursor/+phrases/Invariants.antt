use Rattle.std.proofs.Common.{◌≡◌, ◌<◌, ◌≤◌, ◌+◌, ◌*◌, ◌⊎◌, ℕ, List, length}
use Rattle.c_lexer.specs.declared.token.Token.{Token}
use Rattle.c_lexer.specs.declared.punctuator.TheConstants.{COMMA}
use Rattle.c_syntax.specs.Tree.{Expr, Declarator}
use Rattle.c_syntax.specs.Tokens.{place}
use Rattle.c_syntax.specs.Limits.{height_of_exprs, height_of_params}
use Rattle.c_syntax.specs.Grammar.{primary_level, cast_level, binary_level, assignment_level, AreSome, Reads, ReadsList, Suffixes, Lengthens, ReadsEach}
use Rattle.c_syntax.specs.Writes.{exprs_of, params_of}
use Rattle.c_syntax_printing.specs.Ranks.{rank, Stops}
use Rattle.c_syntax_printing.specs.Nodes.{InExprs, InParams}
use Rattle.c_syntax_printing.specs.Fails.{Fails}
use Rattle.c_syntax_printing.specs.Phrases.{Bound}
use Rattle.c_syntax_printing.specs.Operands.{ExprsRest}
use Rattle.c_syntax_printing.specs.Declarators.{EachClosed, ParamsClosed}
use Rattle.c_parser_phrases.specs.declared.form.Form.{Form}
use Rattle.c_parser_phrases.specs.Standing.{IsAt}
use Rattle.c_parser_phrases.specs.Deep.{IsDeep, IsDeepDeclarator}
use Rattle.c_parser_phrases.specs.Reading.{Suits, OpensMore, OpensEach, OpensEachMore}
use Rattle.c_parser_phrases.specs.Making.{tree_of, inner_of}
use Rattle.c_parser_phrases.proofs.cursor.Cursor.+phrases.Given as goal

abbrev pub decreases-primary_expression : goal.decreases-primary_expression
decreases-primary_expression l = 100 * length l.self.now.rest.now + 0

abbrev pub decreases-postfix_expression : goal.decreases-postfix_expression
decreases-postfix_expression l = 100 * length l.self.now.rest.now + 1

abbrev pub decreases-unary_expression : goal.decreases-unary_expression
decreases-unary_expression l = 100 * length l.self.now.rest.now + 2

abbrev pub decreases-prefixed : goal.decreases-prefixed
decreases-prefixed l = 100 * length l.self.now.rest.now + 20

abbrev pub decreases-sizeof_expression : goal.decreases-sizeof_expression
decreases-sizeof_expression l = 100 * length l.self.now.rest.now + 3

abbrev pub decreases-cast_expression : goal.decreases-cast_expression
decreases-cast_expression l = 100 * length l.self.now.rest.now + 4

abbrev pub decreases-binary_from : goal.decreases-binary_from
decreases-binary_from l = 100 * length l.self.now.rest.now + 5

abbrev pub decreases-conditional_from : goal.decreases-conditional_from
decreases-conditional_from l = 100 * length l.self.now.rest.now + 6

abbrev pub decreases-conditional_expression : goal.decreases-conditional_expression
decreases-conditional_expression l = 100 * length l.self.now.rest.now + 7

abbrev pub decreases-assignment_expression : goal.decreases-assignment_expression
decreases-assignment_expression l = 100 * length l.self.now.rest.now + 8

abbrev pub decreases-comma_expression : goal.decreases-comma_expression
decreases-comma_expression l = 100 * length l.self.now.rest.now + 9

abbrev pub decreases-arguments : goal.decreases-arguments
decreases-arguments l = 100 * length l.self.now.rest.now + 10

abbrev pub decreases-suffixed : goal.decreases-suffixed
decreases-suffixed l = 100 * length l.self.now.rest.now + 11

abbrev pub decreases-expressions_from : goal.decreases-expressions_from
decreases-expressions_from l = 100 * length l.self.now.rest.now + 0

abbrev pub decreases-size : goal.decreases-size
decreases-size l = 100 * length l.self.now.rest.now + 12

abbrev pub decreases-part : goal.decreases-part
decreases-part l = 100 * length l.self.now.rest.now + 13

abbrev pub decreases-core : goal.decreases-core
decreases-core l = 100 * length l.self.now.rest.now + 0

abbrev pub decreases-lengthened : goal.decreases-lengthened
decreases-lengthened l = 100 * length l.self.now.rest.now + 14

abbrev pub decreases-declared : goal.decreases-declared
decreases-declared l = 100 * length l.self.now.rest.now + 15

abbrev pub decreases-type_name : goal.decreases-type_name
decreases-type_name l = 100 * length l.self.now.rest.now + 0

abbrev pub decreases-parameter : goal.decreases-parameter
decreases-parameter l = 100 * length l.self.now.rest.now + 0

abbrev pub decreases-parameters : goal.decreases-parameters
decreases-parameters l = 100 * length l.self.now.rest.now + 1

abbrev pub invariant-expressions_from-loop-alloc : goal.invariant-expressions_from-loop-alloc
invariant-expressions_from-loop-alloc l = record {
  reads : (start : List Token) → Reads l.room.pairs assignment_level (tree_of l.fn.first) start l.fn.self.rest.now → Stops assignment_level l.fn.self.rest.now → ReadsList l.room.pairs (exprs_of l.trees.items) start l.self.rest.now;
  stops : Stops assignment_level l.fn.self.rest.now → Stops assignment_level l.self.rest.now;
  exact : l.depth.height ≡ height_of_exprs (exprs_of l.trees.items);
  deep : IsDeep l.fn.first → (l.depth.height ≡ 0) ⊎ InExprs l.depth.deepest l.depth.height (exprs_of l.trees.items);
  fits : l.depth.height ≤ l.room.nodes;
  opens : (at : ℕ) (r : List Token) → OpensMore at l.room.pairs l.room.nodes l.self.rest.now r → OpensMore at l.room.pairs l.room.nodes l.fn.self.rest.now r;
  leads : (b : Bound) (r : List Token) → Fails (ExprsRest b) l.self.rest.now r → Fails (ExprsRest b) l.fn.self.rest.now r;
  shorter : length l.self.rest.now ≤ length l.fn.self.rest.now;
}

abbrev pub decreases-expressions_from-loop-alloc : goal.decreases-expressions_from-loop-alloc
decreases-expressions_from-loop-alloc l = length l.self.rest.now

abbrev pub invariant-binary_from-loop-operator : goal.invariant-binary_from-loop-operator
invariant-binary_from-loop-operator l = record {
  reads : (start : List Token) → l.at ≡ place start → Reads l.room.pairs cast_level (tree_of l.fn.operand) start l.fn.self.rest.now → Stops cast_level l.fn.self.rest.now → (n : ℕ) × (n ≤ l.most) × Reads l.room.pairs (binary_level n) (tree_of l.left) start l.self.rest.now × (n + 1 ≤ rank l.self.rest.now) × (2 ≤ rank l.self.rest.now);
  deep : IsDeep l.fn.operand → IsDeep l.left;
  fits : l.left.depth.height ≤ l.room.nodes;
  shorter : length l.self.rest.now ≤ length l.fn.self.rest.now;
}

abbrev pub decreases-binary_from-loop-operator : goal.decreases-binary_from-loop-operator
decreases-binary_from-loop-operator l = length l.self.rest.now

abbrev pub invariant-postfix_expression-loop-suffix : goal.invariant-postfix_expression-loop-suffix
invariant-postfix_expression-loop-suffix l = record {
  at : l.at ≡ place l.fn.self.rest.now;
  reads : (a : Expr) × (j : List Token) × Reads l.room.pairs primary_level a l.fn.self.rest.now j × Stops primary_level j × ((e : Expr) (k : List Token) → Suffixes l.room.pairs l.at (tree_of l.left) e l.self.rest.now k → Suffixes l.room.pairs l.at a e j k);
  deep : IsDeep l.left;
  fits : l.left.depth.height ≤ l.room.nodes;
  shorter : length l.self.rest.now < length l.fn.self.rest.now;
}

abbrev pub decreases-postfix_expression-loop-suffix : goal.decreases-postfix_expression-loop-suffix
decreases-postfix_expression-loop-suffix l = length l.self.rest.now

abbrev pub invariant-lengthened-loop-alloc : goal.invariant-lengthened-loop-alloc
invariant-lengthened-loop-alloc l = record {
  reads : (e : Declarator) (k : List Token) → Lengthens l.room.pairs l.at (inner_of l.left) e l.self.rest.now k → Lengthens l.room.pairs l.at (inner_of l.fn.core) e l.fn.self.rest.now k;
  deep : IsDeepDeclarator l.fn.core → IsDeepDeclarator l.left;
  suits : (form : Form) → Suits form (inner_of l.fn.core) → Suits form (inner_of l.left);
  fits : l.left.depth.height ≤ l.room.nodes;
  shorter : length l.self.rest.now ≤ length l.fn.self.rest.now;
}

abbrev pub decreases-lengthened-loop-alloc : goal.decreases-lengthened-loop-alloc
decreases-lengthened-loop-alloc l = length l.self.rest.now

abbrev pub invariant-parameters-loop-alloc : goal.invariant-parameters-loop-alloc
invariant-parameters-loop-alloc l = record {
  reads : ReadsEach l.room.pairs (params_of l.params.items) l.fn.self.rest.now l.self.rest.now;
  some : AreSome (params_of l.params.items) ⊎ IsAt COMMA l.self.rest.now;
  exact : l.depth.height ≡ height_of_params (params_of l.params.items);
  deep : (l.depth.height ≡ 0) ⊎ InParams l.depth.deepest l.depth.height (params_of l.params.items);
  opens : (at : ℕ) (r : List Token) → OpensEachMore at l.room.pairs l.room.nodes l.self.rest.now r → OpensEach at l.room.pairs l.room.nodes l.fn.self.rest.now r;
  leads : (b : Bound) (r : List Token) → Fails (EachClosed b) l.self.rest.now r → Fails (ParamsClosed b) l.fn.self.rest.now r;
  fits : l.depth.height ≤ l.room.nodes;
  shorter : length l.self.rest.now < length l.fn.self.rest.now;
}

abbrev pub decreases-parameters-loop-alloc : goal.decreases-parameters-loop-alloc
decreases-parameters-loop-alloc l = length l.self.rest.now
