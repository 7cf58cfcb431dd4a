use Rattle.std.proofs.Common.{◌∷◌, ◌++◌, [], length, refl, sym, ap, ◌∙◌, inl, arith}
use Rattle.std.proofs.Common.{rules, ◌-◌}
use Rattle.std.proofs.lemmas.Result.{err_from_is_err_and, IfOk-weaker}
use denote.Enum.Bare.{same_false, same_true}
use Rattle.c_syntax.specs.Tree.{dot, arrow, post_increment, post_decrement, array, function}
use Rattle.c_parser_phrases.specs.contracts.form.Form.{the_type}
use Rattle.c_parser_phrases.specs.Making.{inner_of, size_of, list_of}
use Rattle.c_parser_phrases.proofs.Known.{not_there}
use Rattle.c_parser_phrases.proofs.Exits.{over, paired, suits_made, suits_array, suits_function}
use Rattle.c_parser_phrases.proofs.Adding.{index_adds, member_adds, step_adds, none_taken, some_taken, suffix_is, suffixes_read, suffix_made, call_adds, part_made, array_adds, function_adds, lengthened_read, size_read, size_absent}
use Rattle.c_parser_phrases.proofs.Made.{when_read, tree_made, list_first, list_grown, list_ends, no_commas, comma_made, no_assigned, assign_made, no_chosen, choice_made, binary_first, binary_made, binary_end, uncast_made, cast_made, no_prefixed, sizeof_ends, tree_raised, shorter_before, shorter_after, short_before, step_made, unary_made, sizeof_expression_made, sizeof_type_made, parentheses_made, type_made}
use Rattle.c_parser_phrases.proofs.Made.{first_height as exprs_first_height, grown_height as exprs_grown_height}
use Rattle.c_parser_phrases.proofs.Declaring.{declared_made, core_made, pointer_made, name_made, nothing_made, there_is, brackets_made, param_made, params_read, each_first, each_grown, some_first, some_grown, alone_read}
use Rattle.c_parser_phrases.proofs.Declaring.{first_height as params_first_height, grown_height as params_grown_height}
use Rattle.c_lexer.specs.declared.punctuator.TheConstants.{LEFT_PARENTHESIS, ASTERISK, QUESTION, COMMA}
use Rattle.c_syntax.specs.Grammar.{cast_level}
use Rattle.c_syntax_printing.specs.Phrases.{any}
use Rattle.c_syntax_printing.proofs.Combine.{fails_at}
use Rattle.c_syntax_printing.proofs.SuffixFails.{call_fails}
use Rattle.c_syntax_printing.proofs.DeclaratorFails.{first_param_fails}
use Rattle.c_syntax_printing.proofs.LevelFails.{comma_first, assigned_operand_fails, value_fails, test_fails, first_operand}
use Rattle.c_parser_phrases.proofs.Exits.{taken, uncast, paired_type}
use Rattle.c_parser_phrases.proofs.Starts.{star_there}
use Rattle.c_parser_phrases.proofs.Deepest.{exprs_first_deep, exprs_grown_deep, params_first_deep, params_grown_deep, type_deep_at, param_deep_at}
use Rattle.c_syntax_printing.proofs.ExprOpens.{postfix_opens, unary_opens, cast_opens, first_operand_opens, test_opens, value_opens, comma_first_opens, sizeof_operand_opens, index_opens, arguments_open}
use Rattle.c_parser_phrases.proofs.Opened.{some_at, some_is, some_starts, some_cast, comma_rest_opens, comma_deep, rest_opens, rest_leads_open, assigned_deep, assigned_rest_opens, choice_deep, yes_part_opens, no_part_opens, operator_deep, right_opens, cast_deep, cast_name_opens, cast_part_opens, prefix_opens, prefix_some, step_operand_opens, unary_operand_opens, sizeof_name_opens, suffix_opens, suffix_deep, later_argument_opens, first_argument_opens, leaf_opens, leaf_some, pair_opens, inside_opens}
use Rattle.c_parser_phrases.proofs.OpenedDeclarators.{type_declarator_opens, param_declarator_opens, param_leads_open, later_param_leads_open, later_param_open, pointer_opens_here, pointer_inner_opens, name_opens, named_pair_opens, declarator_pair_opens, inside_declarator_opens, some_inside, parts_open, mark_opens, size_part_opens, params_part_opens}
use Rattle.c_parser_phrases.proofs.Raising.{nested_at, no_memory, wrong_here, deep_at, raised, raised_in, raised_enclosed, raised_flat, not_at_word, ends_at, past_at, at_from}
use Rattle.c_parser_phrases.proofs.Refusals.{comma_high, comma_rest, rest_fails, rest_leads, assigned_after, assigned_to_cast, assigned_high, assigned_rest, choice_high, yes_fails, colon_fails, no_fails, operator_high, right_first, right_fails, bare_cast, no_nodes, cast_type_fails, cast_unclosed, cast_operand_fails, bare_unary, prefix_deep, prefix_is, step_operand_fails, operand_fails, sizeof_operand_fails, sizeof_type_name_fails, sizeof_unclosed, sizeof_suffixed}
use Rattle.c_parser_phrases.proofs.Refusals.{bare_postfix, suffix_high, suffix_fails, string_fails, index_fails, index_unclosed, member_fails, first_argument_fails, later_argument_fails, arguments_unclosed, leaf_deep, leaf_refused, leaf_strings, no_leaf, pair_wrong, pair_deep, inside_fails, inside_unclosed, inside_strings, parentheses_stand}
use Rattle.c_parser_phrases.proofs.RefusalsOfDeclarators.{type_spec_fails, type_declarator_fails, param_spec_fails, param_declarator_fails, pointer_deep, pointer_inner_fails, name_wrong, name_deep, name_stands, named_there, none_is, opens_at, no_name_wrong, no_opening, bare_core, pair_deep_named, pair_deep_declarator, pair_wrong_declarator, inside_declarator_fails, nothing_wrong, declarator_unclosed}
use Rattle.c_parser_phrases.proofs.RefusalsOfDeclarators.{read_so_far, part_fails, part_high, neither, size_part_fails, params_part_fails, size_expression_fails, size_unclosed, param_leads, later_param_fails, later_param_leads, params_not_closed}
use Rattle.c_parser_phrases.proofs.cursor.Cursor.+phrases.Goals as goal

pub arguments-returns-then-take-clause-parses : goal.arguments-returns-then-take-clause-parses
arguments-returns-then-take-clause-parses t c = λ at a e k t h s. none_taken h c.if-take.ensures.1 c.if-take.ensures.2 c.no_exprs.ensures.makes s

pub arguments-returns-clause-parses : goal.arguments-returns-clause-parses
arguments-returns-clause-parses t c = λ at a e k t h s. some_taken c.if-take.ensures.1 h (c.in_ok-list.ensures.parses _ c.in_ok-first.ensures.parses.0 c.in_ok-first.ensures.parses.1).0 c.if-not-take.ensures.1 c.if-not-take.ensures.2 s

pub assignment_expression-returns-in_default-clause-parses : goal.assignment_expression-returns-in_default-clause-parses
assignment_expression-returns-in_default-clause-parses t c = no_assigned (c.in_ok-whole.ensures.parses _ c.place-at.ensures c.in_ok-operand.ensures.parses.0 c.in_ok-operand.ensures.parses.1 c.in_ok-operand.ensures.deep) (not_there c.is_at_assignment.result c.if-is_at_assignment.false c.is_at_assignment.ensures)

pub assignment_expression-returns-clause-parses : goal.assignment_expression-returns-clause-parses
assignment_expression-returns-clause-parses t c = tree_made c.args.room c.assign_node.result c.assign_node.ensures.makes (λ w v. assign_made c.in_node.ensures.pairs c.place-at.ensures c.in_ok-operand.ensures.parses (not_there c.is_at_cast-is_cast.result c.if-is_cast.false c.is_at_cast-is_cast.ensures.stands) c.in-Some.ensures.stands c.skip.ensures.skips c.in_ok-value.ensures.parses v)

pub binary_from-loop-operator-init : goal.binary_from-loop-operator-init
binary_from-loop-operator-init t c = record { reads = λ s p r z. binary_first r z; deep = λ d. d; fits = c.requires.operand_low; shorter = omega arith }

pub binary_from-loop-operator-preserved : goal.binary_from-loop-operator-preserved
binary_from-loop-operator-preserved t c = record {
  reads = λ s p r z. binary_made c.in-Some.operator c.in_node-in-Some.ensures.pairs p (c.loop-operator.invariant.reads s p r z) c.in-Some.ensures.stands c.skip.ensures.skips refl c.in-Some.ensures.some.1 (c.in_ok-right.ensures.parses _ c.place-right_at.ensures (paired (c.in_node.ensures.pairs ∙ sym c.in_node-in-Some.ensures.pairs) c.in_ok-first.ensures.parses.0) c.in_ok-first.ensures.parses.1 c.in_ok-first.ensures.deep) c.in_ok-left.ensures.makes;
  deep = λ d. c.in_ok-left.ensures.deep (c.loop-operator.invariant.deep d) (c.in_ok-right.ensures.deep c.in_ok-first.ensures.deep);
  fits = omega (arith, c.in_ok-left.ensures.height, c.in_ok-right.ensures.fits, c.in_node-in-Some.ensures.nodes, c.if-room-left.false, c.loop-operator.invariant.fits);
  shorter = omega (arith, c.in_ok-right.ensures.shorter, c.in_ok-first.ensures.shorter, c.skip.ensures.shorter, c.loop-operator.invariant.shorter);
}

pub binary_from-returns-clause-parses : goal.binary_from-returns-clause-parses
binary_from-returns-clause-parses t c = λ s p r z d. binary_end p (c.loop-operator.invariant.reads s p r z) c.in_default.ensures.stands

pub cast_expression-returns-then-not-is_at_cast-clause-parses : goal.cast_expression-returns-then-not-is_at_cast-clause-parses
cast_expression-returns-then-not-is_at_cast-clause-parses t c = tree_raised c.unary_expression.result c.unary_expression.ensures.parses (λ e s. uncast_made s) (bare_cast (not_there c.is_at_cast.result c.if-not-is_at_cast.true c.is_at_cast.ensures.stands)) (λ at y o. cast_opens o)

pub cast_expression-returns-clause-parses : goal.cast_expression-returns-clause-parses
cast_expression-returns-clause-parses t c = tree_made c.args.room c.cast_node.result c.cast_node.ensures.makes (λ w v. cast_made c.in_node.ensures.pairs c.in_node-2.ensures.pairs c.place-at.ensures (c.is_at_cast.ensures.stands.0 c.if-not-is_at_cast.false) c.skip.ensures.skips c.in_ok-target.ensures.parses.0 c.if-not-take.ensures c.in_ok-operand.ensures.parses v)

pub comma_expression-returns-then-not-is_at-clause-parses : goal.comma_expression-returns-then-not-is_at-clause-parses
comma_expression-returns-then-not-is_at-clause-parses t c = no_commas c.in_ok-first.ensures.parses (not_there c.is_at.result c.if-not-is_at.true c.is_at.ensures.stands)

pub comma_expression-returns-clause-parses : goal.comma_expression-returns-clause-parses
comma_expression-returns-clause-parses t c = tree_made c.args.room c.comma_node.result c.comma_node.ensures.makes (λ w v. comma_made c.in_node.ensures.pairs c.place-at.ensures c.in_ok-first.ensures.parses (c.is_at.ensures.stands.0 c.if-not-is_at.false) (λ r s. c.in_ok-list.ensures.parses _ r s) v)

pub conditional_from-returns-then-not-is_at-clause-parses : goal.conditional_from-returns-then-not-is_at-clause-parses
conditional_from-returns-then-not-is_at-clause-parses t c = λ s p r z d. no_chosen (c.in_ok-test.ensures.parses s p r z d) (not_there c.is_at.result c.if-not-is_at.true c.is_at.ensures.stands)

pub conditional_from-returns-clause-parses : goal.conditional_from-returns-clause-parses
conditional_from-returns-clause-parses t c = λ s p r z d. tree_made c.args.room c.conditional_node.result c.conditional_node.ensures.makes (λ w v. choice_made c.in_node.ensures.pairs c.in_node-2.ensures.pairs p (c.in_ok-test.ensures.parses s p r z d) (c.is_at.ensures.stands.0 c.if-not-is_at.false) c.skip.ensures.skips c.in_ok-yes.ensures.parses c.if-not-take.ensures c.in_ok-no.ensures.parses v)

pub core-returns-then-is_at_name-clause-parses : goal.core-returns-then-is_at_name-clause-parses
core-returns-then-is_at_name-clause-parses t c = λ ns. core_made c.args.room c.args.form _ c.name_node.result c.name_node.ensures.makes (λ w v. let m = name_made c.args.form c.in_ok-name.name c.place-at.ensures c.in_ok-name.ensures.parses (same_false the_type _ _ (sym c.if-eq.ensures)) v in (m.0, m.1, inl (named_there v)))

pub core-returns-then-not-opens-clause-parses : goal.core-returns-then-not-opens-clause-parses
core-returns-then-not-opens-clause-parses t c = λ ns. let m = nothing_made c.args.form (same_false the_type _ _ (sym c.if-eq-2.ensures)) c.no_declarator.ensures.makes in (m.0, m.1, bare_core c.args.form c.no_declarator.ensures.makes ns (not_there c.is_at_name.result c.if-is_at_name.false c.is_at_name.ensures) c.if-not-opens.ensures.stands)

pub core-returns-clause-parses : goal.core-returns-clause-parses
core-returns-clause-parses t c = λ ns. let m = brackets_made c.args.form c.in_pair.ensures.pairs (λ e. omega (arith, e, c.if-room-eq0-2.false)) (opens_at c.if-not-opens.ensures.stands) c.skip.ensures.skips c.in_ok-inside.ensures.parses (there_is _ c.if-is_none.ensures) c.if-not-take.ensures in (m.0, m.1, inl (there_is _ c.if-is_none.ensures))

pub declared-returns-then-not-is_at-clause-parses : goal.declared-returns-then-not-is_at-clause-parses
declared-returns-then-not-is_at-clause-parses t c = let k = c.in_ok-core.ensures.parses (λ q. not_there c.is_at.result c.if-not-is_at.true c.is_at.ensures.stands (star_there c.args.self.now.rest.now q)) in c.lengthened.ensures.parses c.args.form _ c.place-at.ensures k.0 k.1 k.2 c.in_ok-core.ensures.deep

pub declared-returns-then-not-is_at-clause-shorter : goal.declared-returns-then-not-is_at-clause-shorter
declared-returns-then-not-is_at-clause-shorter t c = short_before _ c.lengthened.result c.lengthened.ensures.shorter c.in_ok-core.ensures.shorter

pub declared-returns-clause-parses : goal.declared-returns-clause-parses
declared-returns-clause-parses t c = declared_made c.args.room c.args.form c.pointer_node.result c.pointer_node.ensures.makes (λ w v. pointer_made c.args.form c.in_node.ensures.pairs c.place-at.ensures (c.is_at.ensures.stands.0 c.if-not-is_at.false) c.skip.ensures.skips c.consts.ensures.took c.in_ok-inner.ensures.parses v)

pub expressions_from-loop-alloc-init : goal.expressions_from-loop-alloc-init
expressions_from-loop-alloc-init t c = record {
  reads = λ s r z. list_first c.in_ok-push.ensures.items c.new-trees.ensures.items c.into_inner.ensures r;
  stops = λ z. z;
  deep = λ d. exprs_first_deep c.in_ok-push.ensures.items c.new-trees.ensures.items c.into_inner.ensures d;
  exact = exprs_first_height c.in_ok-push.ensures.items c.new-trees.ensures.items c.into_inner.ensures c.args.first.exact;
  fits = c.requires;
  opens = λ at y o. o;
  leads = λ b r f. f;
  shorter = omega arith;
}

pub expressions_from-loop-alloc-preserved : goal.expressions_from-loop-alloc-preserved
expressions_from-loop-alloc-preserved t c = record {
  reads = λ s r z. list_grown c.loop-alloc.trees.items c.in_ok-next.next.tree.value (c.loop-alloc.invariant.reads s r z) c.loop-alloc-test.ensures.2 c.loop-alloc-test.ensures.1 c.in_ok-next.ensures.parses.0 (c.in_ok-push-2.ensures.items ∙ ap (λ y. c.loop-alloc.trees.items ++ y ∷ []) c.into_inner-in-loop-alloc.ensures);
  stops = λ z. c.in_ok-next.ensures.parses.1;
  deep = λ d. exprs_grown_deep c.loop-alloc.trees.items c.into_inner-in-loop-alloc.result c.in_ok-next.next.tree.value c.in_ok-push-2.ensures.items c.into_inner-in-loop-alloc.ensures c.beside-depth.ensures.deeper (c.loop-alloc.invariant.deep d) c.in_ok-next.ensures.deep;
  exact = exprs_grown_height c.loop-alloc.trees.items c.into_inner-in-loop-alloc.result c.in_ok-next.next.tree.value c.in_ok-push-2.ensures.items c.into_inner-in-loop-alloc.ensures c.beside-depth.ensures.height c.loop-alloc.invariant.exact c.in_ok-next.next.exact;
  fits = omega (arith, c.beside-depth.ensures.height, c.in_ok-next.ensures.fits, c.loop-alloc.invariant.fits);
  opens = λ at y o. c.loop-alloc.invariant.opens at y (rest_leads_open c.loop-alloc-test.ensures.2 c.loop-alloc-test.ensures.1 c.in_ok-next.ensures.parses o);
  leads = λ b r f. c.loop-alloc.invariant.leads b r (rest_leads c.loop-alloc-test.ensures.2 c.loop-alloc-test.ensures.1 c.in_ok-next.ensures.parses b r f);
  shorter = omega (arith, c.in_ok-next.ensures.shorter, ap length c.loop-alloc-test.ensures.2, c.loop-alloc.invariant.shorter);
}

pub expressions_from-returns-clause-parses : goal.expressions_from-returns-clause-parses
expressions_from-returns-clause-parses t c = λ s r z. list_ends (c.loop-alloc.invariant.reads s r z) (c.loop-alloc.invariant.stops z) c.loop-alloc-test.ensures

pub lengthened-returns-clause-parses : goal.lengthened-returns-clause-parses
lengthened-returns-clause-parses t c = λ form s p r suits cored dc. (lengthened_read p r c.loop-alloc.invariant.reads, c.ends_declarator.ensures.0 c.loop-alloc-test.false, c.loop-alloc.invariant.suits form suits)

pub parameter-returns-clause-parses : goal.parameter-returns-clause-parses
parameter-returns-clause-parses t c = param_made c.param_node.result.param c.param_node.result.is_void c.place-at.ensures c.in_ok-spec.ensures.parses c.in_ok-inner.ensures.parses c.param_node.ensures.makes c.param_node.ensures.alone

pub parameters-returns-then-stands_alone-clause-parses : goal.parameters-returns-then-stands_alone-clause-parses
parameters-returns-then-stands_alone-clause-parses t c = (alone_read c.in_ok-first.first.param c.in_ok-first.first.is_void c.in_ok-first.ensures.parses c.if-stands_alone.ensures.0 c.no_params.ensures.makes, record { leads = param_leads c.in_ok-first.first.is_void c.in_ok-first.ensures.parses; no_comma = c.if-stands_alone.ensures.1 })

pub parameters-loop-alloc-init : goal.parameters-loop-alloc-init
parameters-loop-alloc-init t c = record {
  reads = each_first c.in_ok-first.first.param c.in_ok-push.ensures.items c.new-params.ensures.items c.in_ok-first.ensures.parses;
  some = some_first c.in_ok-first.first.param c.in_ok-first.first.is_void c.in_ok-push.ensures.items c.new-params.ensures.items c.in_ok-first.ensures.parses c.if-stands_alone.ensures;
  opens = λ at y o. param_leads_open c.in_ok-first.first.is_void c.in_ok-first.ensures.parses o;
  leads = param_leads c.in_ok-first.first.is_void c.in_ok-first.ensures.parses;
  deep = params_first_deep c.in_ok-first.first.param c.in_ok-push.ensures.items c.new-params.ensures.items c.in_ok-first.ensures.deep;
  exact = params_first_height c.in_ok-first.first.param c.in_ok-push.ensures.items c.new-params.ensures.items c.in_ok-first.first.exact;
  fits = c.in_ok-first.ensures.fits;
  shorter = c.in_ok-first.ensures.shorter;
}

pub parameters-loop-alloc-preserved : goal.parameters-loop-alloc-preserved
parameters-loop-alloc-preserved t c = record {
  reads = each_grown c.loop-alloc.params.items c.in_ok-next.next.param c.loop-alloc.invariant.reads c.loop-alloc-test.ensures.2 c.loop-alloc-test.ensures.1 c.in_ok-next.ensures.parses c.in_ok-push-2.ensures.items;
  some = inl (some_grown c.loop-alloc.params.items c.in_ok-next.next.param c.loop-alloc.invariant.reads c.in_ok-push-2.ensures.items);
  opens = λ at y o. c.loop-alloc.invariant.opens at y (later_param_leads_open c.in_ok-next.next.is_void c.loop-alloc-test.ensures.2 c.loop-alloc-test.ensures.1 c.in_ok-next.ensures.parses o);
  leads = λ b r f. c.loop-alloc.invariant.leads b r (later_param_leads c.in_ok-next.next.is_void c.loop-alloc-test.ensures.2 c.loop-alloc-test.ensures.1 c.in_ok-next.ensures.parses b r f);
  deep = params_grown_deep c.loop-alloc.params.items c.in_ok-next.next.param c.in_ok-push-2.ensures.items c.beside-depth.ensures.deeper c.loop-alloc.invariant.deep c.in_ok-next.ensures.deep;
  exact = params_grown_height c.in_ok-next.next.depth.height c.loop-alloc.params.items c.in_ok-next.next.param c.in_ok-push-2.ensures.items c.beside-depth.ensures.height c.loop-alloc.invariant.exact c.in_ok-next.next.exact;
  fits = omega (arith, c.beside-depth.ensures.height, c.in_ok-next.ensures.fits, c.loop-alloc.invariant.fits);
  shorter = omega (arith, c.in_ok-next.ensures.shorter, ap length c.loop-alloc-test.ensures.2, c.loop-alloc.invariant.shorter);
}

pub parameters-returns-clause-parses : goal.parameters-returns-clause-parses
parameters-returns-clause-parses t c = (params_read c.loop-alloc.params.items c.loop-alloc.invariant.reads c.loop-alloc.invariant.some c.loop-alloc-test.ensures, record { leads = λ b r f. c.loop-alloc.invariant.leads b r (fails_at (sym c.loop-alloc-test.ensures.1) f); no_comma = λ h. c.loop-alloc-test.ensures.0 (at_from COMMA (sym c.loop-alloc-test.ensures.1) h) })

pub part-returns-then-take-clause-parses : goal.part-returns-then-take-clause-parses
part-returns-then-take-clause-parses t c = part_made c.args.room c.array_node.result c.array_node.ensures.makes (λ w v. (λ e k s. array_adds c.in_node.ensures.pairs c.if-take.ensures.1 c.if-take.ensures.2 c.in_ok-size.ensures.parses.0 c.if-not-take.ensures.1 c.if-not-take.ensures.2 v s, λ form h. suits_made form w (array c.args.at (inner_of c.args.left) (size_of c.in_ok-size.size)) v (suits_array form c.args.at (inner_of c.args.left) (size_of c.in_ok-size.size) h)))

pub part-returns-clause-parses : goal.part-returns-clause-parses
part-returns-clause-parses t c = part_made c.args.room c.function_node.result c.function_node.ensures.makes (λ w v. (λ e k s. function_adds c.in_node-2.ensures.pairs c.if-not-take-2.ensures.1 (sym c.if-take.ensures.1 ∙ c.if-not-take-2.ensures.2) c.in_ok-list.ensures.parses.0 c.if-not-take-3.ensures.1 c.if-not-take-3.ensures.2 v s, λ form h. suits_made form w (function c.args.at (inner_of c.args.left) (list_of c.in_ok-list.list)) v (suits_function form c.args.at (inner_of c.args.left) (list_of c.in_ok-list.list) h)))

pub postfix_expression-returns-clause-parses : goal.postfix_expression-returns-clause-parses
postfix_expression-returns-clause-parses t c = (suffixes_read c.loop-suffix.invariant.at c.loop-suffix.invariant.reads, c.in_default.ensures.stands (over _ 0 (omega arith) (not_there c.is_at_string.result c.if-is_at_string.false c.is_at_string.ensures)))

pub primary_expression-returns-clause-parses : goal.primary_expression-returns-clause-parses
primary_expression-returns-clause-parses t c = parentheses_made c.in_pair.ensures.pairs (λ e. omega (arith, e, c.if-room-eq0-2.false)) (c.is_at.ensures.stands.0 c.if-not-is_at.false) c.skip.ensures.skips c.in_ok-inside.ensures.parses c.if-not-take.ensures (not_there c.is_at_string-2.result c.if-is_at_string-2.false c.is_at_string-2.ensures)

pub size-returns-then-is_at-clause-parses : goal.size-returns-then-is_at-clause-parses
size-returns-then-is_at-clause-parses t c = (size_absent c.no_size.ensures.makes, λ n b. absurd (n (c.is_at.ensures.stands.0 c.if-is_at.true)))

pub size-returns-clause-parses : goal.size-returns-clause-parses
size-returns-clause-parses t c = (size_read c.in_ok-size.ensures.parses.0 c.some_size.ensures.makes, λ n b. size_unclosed (not_there c.is_at.result c.if-is_at.false c.is_at.ensures.stands) c.in_ok-size.ensures.parses n b)

pub sizeof_expression-returns-then-not-is_at_cast-clause-parses : goal.sizeof_expression-returns-then-not-is_at_cast-clause-parses
sizeof_expression-returns-then-not-is_at_cast-clause-parses t c = λ t h p. tree_made c.args.room c.sizeof_node.result c.sizeof_node.ensures.makes (λ w v. sizeof_expression_made c.in_node.ensures.pairs h p c.in_ok-inside.ensures.parses v)

pub sizeof_expression-returns-clause-parses : goal.sizeof_expression-returns-clause-parses
sizeof_expression-returns-clause-parses t c = λ t h p. tree_made c.args.room c.sizeof_type_node.result c.sizeof_type_node.ensures.makes (λ w v. sizeof_type_made c.in_node-2.ensures.pairs h p (c.is_at_cast.ensures.stands.0 c.if-not-is_at_cast.false) c.skip.ensures.skips c.in_ok-target.ensures.parses.0 c.if-not-take.ensures (not_there c.is_at_suffix.result c.if-is_at_suffix.false c.is_at_suffix.ensures) v)

pub suffixed-returns-else-not-take-clause-parses : goal.suffixed-returns-else-not-take-clause-parses
suffixed-returns-else-not-take-clause-parses t c = λ t h. suffix_made c.args.room c.index_node.result c.index_node.ensures.makes (λ w v e k s. index_adds c.in_node.ensures.pairs (suffix_is t c.in-Index.is h) c.in_ok-inside-in-Index.ensures.parses.0 c.if-not-take.ensures.1 c.if-not-take.ensures.2 v s)

pub suffixed-returns-in_ok-name-in-Dot-clause-parses : goal.suffixed-returns-in_ok-name-in-Dot-clause-parses
suffixed-returns-in_ok-name-in-Dot-clause-parses t c = λ t h. suffix_made c.args.room c.member_node.result c.member_node.ensures.makes (λ w v e k s. member_adds {access = dot} (suffix_is t c.in-Dot.is h) c.in_ok-name-in-Dot.ensures.parses.names c.in_ok-name-in-Dot.ensures.parses.stood v s)

pub suffixed-returns-in_ok-name-in-Arrow-clause-parses : goal.suffixed-returns-in_ok-name-in-Arrow-clause-parses
suffixed-returns-in_ok-name-in-Arrow-clause-parses t c = λ t h. suffix_made c.args.room c.arrow_node.result c.arrow_node.ensures.makes (λ w v e k s. member_adds {access = arrow} (suffix_is t c.in-Arrow.is h) c.in_ok-name-in-Arrow.ensures.parses.names c.in_ok-name-in-Arrow.ensures.parses.stood v s)

pub suffixed-returns-in-Increment-clause-parses : goal.suffixed-returns-in-Increment-clause-parses
suffixed-returns-in-Increment-clause-parses t c = λ t h. suffix_made c.args.room c.increased_node.result c.increased_node.ensures.makes (λ w v e k s. step_adds {p = post_increment} (suffix_is t c.in-Increment.is h) v s)

pub suffixed-returns-in-Decrement-clause-parses : goal.suffixed-returns-in-Decrement-clause-parses
suffixed-returns-in-Decrement-clause-parses t c = λ t h. suffix_made c.args.room c.decreased_node.result c.decreased_node.ensures.makes (λ w v e k s. step_adds {p = post_decrement} (suffix_is t c.in-Decrement.is h) v s)

pub type_name-returns-clause-parses : goal.type_name-returns-clause-parses
type_name-returns-clause-parses t c = (type_made c.place-at.ensures c.in_ok-spec.ensures.parses.reads c.in_ok-inner.ensures.parses.0 c.in_ok-inner.ensures.parses.2 c.type_node.ensures.makes, c.in_ok-inner.ensures.parses.1)

pub comma_expression-returns-in_err-first-clause-parses : goal.comma_expression-returns-in_err-first-clause-parses
comma_expression-returns-in_err-first-clause-parses t c = let w = err_from_is_err_and c.from_residual.result c.from_residual.ensures.1 in rw (w.1, w.2) (raised c.in_err-first.ensures.parses (λ b r f. comma_first f) (λ at y o. comma_first_opens o))

pub comma_expression-returns-then-room-first-clause-parses : goal.comma_expression-returns-then-room-first-clause-parses
comma_expression-returns-then-room-first-clause-parses t c = deep_at _ (comma_high (c.is_at.ensures.stands.0 c.if-not-is_at.false) c.in_ok-first.ensures.parses c.if-room-first.true c.in_ok-first.first.exact) (comma_deep _ (c.is_at.ensures.stands.0 c.if-not-is_at.false) c.in_ok-first.ensures.parses c.if-room-first.true c.in_ok-first.ensures.fits c.in_ok-first.ensures.deep) (some_at COMMA _ (c.is_at.ensures.stands.0 c.if-not-is_at.false))

pub comma_expression-returns-in_err-list-clause-parses : goal.comma_expression-returns-in_err-list-clause-parses
comma_expression-returns-in_err-list-clause-parses t c = let w = err_from_is_err_and c.from_residual-in_err-list.result c.from_residual-in_err-list.ensures.1 in rw (w.1, w.2) (raised_in (omega (arith, c.if-room-first.false)) c.in_node.ensures.nodes c.in_node.ensures.pairs c.in_err-list.ensures.refuses (comma_rest (c.is_at.ensures.stands.0 c.if-not-is_at.false) c.in_ok-first.ensures.parses) (λ at y o. comma_rest_opens c.in_ok-first.ensures.parses o))

pub expressions_from-returns-in_err-push-clause-refuses : goal.expressions_from-returns-in_err-push-clause-refuses
expressions_from-returns-in_err-push-clause-refuses t c = let w = err_from_is_err_and c.from_residual.result c.from_residual.ensures.1 in rw (w.1, w.2) no_memory

pub expressions_from-returns-in_err-next-clause-refuses : goal.expressions_from-returns-in_err-next-clause-refuses
expressions_from-returns-in_err-next-clause-refuses t c = let w = err_from_is_err_and c.from_residual-in_err-next.result c.from_residual-in_err-next.ensures.1 in rw (w.1, w.2) (raised c.in_err-next.ensures.parses (λ b r f. c.loop-alloc.invariant.leads b r (rest_fails c.loop-alloc-test.ensures.2 c.loop-alloc-test.ensures.1 b r f)) (λ at y o. c.loop-alloc.invariant.opens at y (rest_opens c.loop-alloc-test.ensures.2 c.loop-alloc-test.ensures.1 o)))

pub expressions_from-returns-in_err-push-2-clause-refuses : goal.expressions_from-returns-in_err-push-2-clause-refuses
expressions_from-returns-in_err-push-2-clause-refuses t c = let w = err_from_is_err_and c.from_residual-in_err-push-2.result c.from_residual-in_err-push-2.ensures.1 in rw (w.1, w.2) no_memory

pub assignment_expression-returns-in_err-operand-clause-parses : goal.assignment_expression-returns-in_err-operand-clause-parses
assignment_expression-returns-in_err-operand-clause-parses t c = let w = err_from_is_err_and c.from_residual.result c.from_residual.ensures.1 in rw (w.1, w.2) (raised c.in_err-operand.ensures.parses (λ b r f. assigned_operand_fails f) (λ at y o. value_opens (test_opens (first_operand_opens 10 o))))

pub assignment_expression-returns-in_err-whole-clause-parses : goal.assignment_expression-returns-in_err-whole-clause-parses
assignment_expression-returns-in_err-whole-clause-parses t c = let w = err_from_is_err_and c.from_residual-in_err-whole.result c.from_residual-in_err-whole.ensures.1 in rw (w.1, w.2) (raised (c.in_err-whole.ensures.parses _ c.place-at.ensures c.in_ok-operand.ensures.parses.0 c.in_ok-operand.ensures.parses.1 c.in_ok-operand.ensures.deep) (λ b r f. value_fails f) (λ at y o. value_opens o))

pub assignment_expression-returns-then-is_at_assignment-clause-parses : goal.assignment_expression-returns-then-is_at_assignment-clause-parses
assignment_expression-returns-then-is_at_assignment-clause-parses t c = wrong_here (assigned_after c.in_ok-operand.ensures.parses c.in_default.ensures.stands (c.in_ok-whole.ensures.parses _ c.place-at.ensures c.in_ok-operand.ensures.parses.0 c.in_ok-operand.ensures.parses.1 c.in_ok-operand.ensures.deep) (c.is_at_assignment.ensures.0 c.if-is_at_assignment.true))

pub assignment_expression-returns-then-is_cast-clause-parses : goal.assignment_expression-returns-then-is_cast-clause-parses
assignment_expression-returns-then-is_cast-clause-parses t c = wrong_here (assigned_to_cast (c.is_at_cast-is_cast.ensures.stands.0 c.if-is_cast.true) c.in_ok-operand.ensures.parses c.in-Some.ensures.stands)

pub assignment_expression-returns-then-room-operand-clause-parses : goal.assignment_expression-returns-then-room-operand-clause-parses
assignment_expression-returns-then-room-operand-clause-parses t c = deep_at _ (assigned_high c.in-Some.ensures.stands (uncast c.in_ok-operand.ensures.parses.0 (not_there c.is_at_cast-is_cast.result c.if-is_cast.false c.is_at_cast-is_cast.ensures.stands)) c.if-room-operand.true c.in_ok-operand.operand.exact) (assigned_deep c.in-Some.ensures.stands (uncast c.in_ok-operand.ensures.parses.0 (not_there c.is_at_cast-is_cast.result c.if-is_cast.false c.is_at_cast-is_cast.ensures.stands)) c.if-room-operand.true c.in_ok-operand.ensures.fits c.in_ok-operand.ensures.deep) (some_is c.in-Some.ensures.stands.2)

pub assignment_expression-returns-in_err-value-clause-parses : goal.assignment_expression-returns-in_err-value-clause-parses
assignment_expression-returns-in_err-value-clause-parses t c = let w = err_from_is_err_and c.from_residual-in_err-value.result c.from_residual-in_err-value.ensures.1 in rw (w.1, w.2) (raised_in (omega (arith, c.if-room-operand.false)) c.in_node.ensures.nodes c.in_node.ensures.pairs c.in_err-value.ensures.parses (assigned_rest c.in-Some.ensures.stands c.skip.ensures.skips (uncast c.in_ok-operand.ensures.parses.0 (not_there c.is_at_cast-is_cast.result c.if-is_cast.false c.is_at_cast-is_cast.ensures.stands))) (λ at y o. assigned_rest_opens c.in-Some.ensures.stands c.skip.ensures.skips (uncast c.in_ok-operand.ensures.parses.0 (not_there c.is_at_cast-is_cast.result c.if-is_cast.false c.is_at_cast-is_cast.ensures.stands)) o))

pub conditional_expression-returns-in_err-operand-clause-parses : goal.conditional_expression-returns-in_err-operand-clause-parses
conditional_expression-returns-in_err-operand-clause-parses t c = let w = err_from_is_err_and c.from_residual.result c.from_residual.ensures.1 in rw (w.1, w.2) (raised c.in_err-operand.ensures.parses (λ b r f. test_fails (first_operand 10 f)) (λ at y o. test_opens (first_operand_opens 10 o)))

pub conditional_expression-returns-clause-parses : goal.conditional_expression-returns-clause-parses
conditional_expression-returns-clause-parses t c = c.conditional_from.ensures.parses _ c.place-at.ensures c.in_ok-operand.ensures.parses.0 c.in_ok-operand.ensures.parses.1 c.in_ok-operand.ensures.deep

pub conditional_expression-returns-clause-shorter : goal.conditional_expression-returns-clause-shorter
conditional_expression-returns-clause-shorter t c = shorter_before _ c.conditional_from.result c.conditional_from.ensures.shorter c.in_ok-operand.ensures.shorter

pub conditional_from-returns-in_err-test-clause-parses : goal.conditional_from-returns-in_err-test-clause-parses
conditional_from-returns-in_err-test-clause-parses t c = λ s p r z d. let w = err_from_is_err_and c.from_residual.result c.from_residual.ensures.1 in rw (w.1, w.2) (raised (c.in_err-test.ensures.parses s p r z d) (λ b r f. test_fails f) (λ at y o. test_opens o))

pub conditional_from-returns-then-room-test-clause-parses : goal.conditional_from-returns-then-room-test-clause-parses
conditional_from-returns-then-room-test-clause-parses t c = λ s p r z d. deep_at _ (choice_high (c.is_at.ensures.stands.0 c.if-not-is_at.false) (c.in_ok-test.ensures.parses s p r z d) c.if-room-test.true c.in_ok-test.test.exact) (choice_deep _ (c.is_at.ensures.stands.0 c.if-not-is_at.false) (c.in_ok-test.ensures.parses s p r z d) c.if-room-test.true c.in_ok-test.ensures.fits (c.in_ok-test.ensures.deep d)) (some_at QUESTION _ (c.is_at.ensures.stands.0 c.if-not-is_at.false))

pub conditional_from-returns-in_err-yes-clause-parses : goal.conditional_from-returns-in_err-yes-clause-parses
conditional_from-returns-in_err-yes-clause-parses t c = λ s p r z d. let w = err_from_is_err_and c.from_residual-in_err-yes.result c.from_residual-in_err-yes.ensures.1 in rw (w.1, w.2) (raised_in (omega (arith, c.if-room-test.false)) c.in_node.ensures.nodes c.in_node.ensures.pairs c.in_err-yes.ensures.parses (yes_fails (c.is_at.ensures.stands.0 c.if-not-is_at.false) c.skip.ensures.skips (c.in_ok-test.ensures.parses s p r z d)) (λ at y o. yes_part_opens _ (c.is_at.ensures.stands.0 c.if-not-is_at.false) c.skip.ensures.skips (c.in_ok-test.ensures.parses s p r z d) o))

pub conditional_from-returns-then-not-take-clause-parses : goal.conditional_from-returns-then-not-take-clause-parses
conditional_from-returns-then-not-take-clause-parses t c = λ s p r z d. wrong_here (ends_at c.if-not-take.ensures.1 (colon_fails (c.is_at.ensures.stands.0 c.if-not-is_at.false) c.skip.ensures.skips (c.in_ok-test.ensures.parses s p r z d) c.in_ok-yes.ensures.parses c.if-not-take.ensures.0 any))

pub conditional_from-returns-in_err-no-clause-parses : goal.conditional_from-returns-in_err-no-clause-parses
conditional_from-returns-in_err-no-clause-parses t c = λ s p r z d. let w = err_from_is_err_and c.from_residual-in_err-no.result c.from_residual-in_err-no.ensures.1 in rw (w.1, w.2) (raised_in (omega (arith, c.if-room-test.false)) c.in_node-2.ensures.nodes c.in_node-2.ensures.pairs c.in_err-no.ensures.parses (no_fails (c.is_at.ensures.stands.0 c.if-not-is_at.false) c.skip.ensures.skips (c.in_ok-test.ensures.parses s p r z d) c.in_ok-yes.ensures.parses c.if-not-take.ensures.1 c.if-not-take.ensures.2) (λ at y o. no_part_opens _ (c.is_at.ensures.stands.0 c.if-not-is_at.false) c.skip.ensures.skips (c.in_ok-test.ensures.parses s p r z d) (paired c.in_node.ensures.pairs c.in_ok-yes.ensures.parses.0, c.in_ok-yes.ensures.parses.1) c.if-not-take.ensures.1 c.if-not-take.ensures.2 o))

pub binary_from-returns-then-room-left-clause-parses : goal.binary_from-returns-then-room-left-clause-parses
binary_from-returns-then-room-left-clause-parses t c = λ s p r z d. deep_at _ (operator_high c.in-Some.operator p (c.loop-operator.invariant.reads s p r z) c.in-Some.ensures.stands c.in-Some.ensures.some.1 c.if-room-left.true c.loop-operator.left.exact) (operator_deep c.in-Some.operator p (c.loop-operator.invariant.reads s p r z) c.in-Some.ensures.stands c.in-Some.ensures.some.1 c.if-room-left.true c.loop-operator.invariant.fits (c.loop-operator.invariant.deep d)) (some_is c.in-Some.ensures.stands.2)

pub binary_from-returns-in_err-first-clause-parses : goal.binary_from-returns-in_err-first-clause-parses
binary_from-returns-in_err-first-clause-parses t c = λ s p r z d. let w = err_from_is_err_and c.from_residual.result c.from_residual.ensures.1 in rw (w.1, w.2) (raised_in (omega (arith, c.if-room-left.false)) c.in_node.ensures.nodes c.in_node.ensures.pairs c.in_err-first.ensures.parses (right_first c.in-Some.operator p (c.loop-operator.invariant.reads s p r z) c.in-Some.ensures.stands c.in-Some.ensures.some.1 c.skip.ensures.skips) (λ at y o. right_opens c.in-Some.operator p (c.loop-operator.invariant.reads s p r z) c.in-Some.ensures.stands c.in-Some.ensures.some.1 c.skip.ensures.skips refl (first_operand_opens (c.in-Some.operator.level - 1) o)))

pub binary_from-returns-in_err-right-clause-parses : goal.binary_from-returns-in_err-right-clause-parses
binary_from-returns-in_err-right-clause-parses t c = λ s p r z d. let w = err_from_is_err_and c.from_residual-in_err-right.result c.from_residual-in_err-right.ensures.1 in rw (w.1, w.2) (raised_in (omega (arith, c.if-room-left.false)) c.in_node-in-Some.ensures.nodes c.in_node-in-Some.ensures.pairs (c.in_err-right.ensures.parses _ c.place-right_at.ensures (paired (c.in_node.ensures.pairs ∙ sym c.in_node-in-Some.ensures.pairs) c.in_ok-first.ensures.parses.0) c.in_ok-first.ensures.parses.1 c.in_ok-first.ensures.deep) (right_fails c.in-Some.operator p (c.loop-operator.invariant.reads s p r z) c.in-Some.ensures.stands c.in-Some.ensures.some.1 c.skip.ensures.skips refl) (λ at y o. right_opens c.in-Some.operator p (c.loop-operator.invariant.reads s p r z) c.in-Some.ensures.stands c.in-Some.ensures.some.1 c.skip.ensures.skips refl o))

pub binary_from-returns-in_err-left-clause-parses : goal.binary_from-returns-in_err-left-clause-parses
binary_from-returns-in_err-left-clause-parses t c = λ s p r z d. let w = err_from_is_err_and c.from_residual-in_err-left.result c.from_residual-in_err-left.ensures.1 in rw (w.1, w.2, c.in_err-left.ensures.makes) no_memory

pub cast_expression-returns-then-room-eq0-clause-parses : goal.cast_expression-returns-then-room-eq0-clause-parses
cast_expression-returns-then-room-eq0-clause-parses t c = deep_at _ (no_nodes cast_level _ c.if-room-eq0.true) (cast_deep (c.is_at_cast.ensures.stands.0 c.if-not-is_at_cast.false) c.place-at.ensures c.if-room-eq0.true) (some_cast _ (c.is_at_cast.ensures.stands.0 c.if-not-is_at_cast.false))

pub cast_expression-returns-in_err-target-clause-parses : goal.cast_expression-returns-in_err-target-clause-parses
cast_expression-returns-in_err-target-clause-parses t c = let w = err_from_is_err_and c.from_residual.result c.from_residual.ensures.1 in rw (w.1, w.2) (raised_in (omega (arith, c.if-room-eq0.false)) c.in_node.ensures.nodes c.in_node.ensures.pairs c.in_err-target.ensures.parses (cast_type_fails (c.is_at_cast.ensures.stands.0 c.if-not-is_at_cast.false) c.skip.ensures.skips) (λ at y o. cast_name_opens _ (c.is_at_cast.ensures.stands.0 c.if-not-is_at_cast.false) c.skip.ensures.skips o))

pub cast_expression-returns-then-not-take-clause-parses : goal.cast_expression-returns-then-not-take-clause-parses
cast_expression-returns-then-not-take-clause-parses t c = wrong_here (ends_at c.if-not-take.ensures.1 (cast_unclosed (c.is_at_cast.ensures.stands.0 c.if-not-is_at_cast.false) c.skip.ensures.skips c.in_ok-target.ensures.parses c.if-not-take.ensures.0 any))

pub cast_expression-returns-in_err-operand-clause-parses : goal.cast_expression-returns-in_err-operand-clause-parses
cast_expression-returns-in_err-operand-clause-parses t c = let w = err_from_is_err_and c.from_residual-in_err-operand.result c.from_residual-in_err-operand.ensures.1 in rw (w.1, w.2) (raised_in (omega (arith, c.if-room-eq0.false)) c.in_node-2.ensures.nodes c.in_node-2.ensures.pairs c.in_err-operand.ensures.parses (cast_operand_fails (c.is_at_cast.ensures.stands.0 c.if-not-is_at_cast.false) c.skip.ensures.skips c.in_ok-target.ensures.parses c.if-not-take.ensures.1 c.if-not-take.ensures.2) (λ at y o. cast_part_opens _ (c.is_at_cast.ensures.stands.0 c.if-not-is_at_cast.false) c.skip.ensures.skips (paired_type c.in_node.ensures.pairs c.in_ok-target.ensures.parses.0, c.in_ok-target.ensures.parses.1) c.if-not-take.ensures.1 c.if-not-take.ensures.2 o))

pub unary_expression-returns-in_default-clause-parses : goal.unary_expression-returns-in_default-clause-parses
unary_expression-returns-in_default-clause-parses t c = tree_raised c.postfix_expression.result c.postfix_expression.ensures.parses (λ e s. no_prefixed s) (bare_unary c.in_default.ensures.stands) (λ at y o. unary_opens o)

pub unary_expression-returns-then-room-eq0-clause-parses : goal.unary_expression-returns-then-room-eq0-clause-parses
unary_expression-returns-then-room-eq0-clause-parses t c = deep_at _ (prefix_deep c.in-Some.prefix c.in-Some.ensures.stands c.if-room-eq0.true) (prefix_opens c.in-Some.prefix _ c.in-Some.ensures.stands c.place-at.ensures c.if-room-eq0.true) (prefix_some c.in-Some.prefix _ c.in-Some.ensures.stands)

pub unary_expression-returns-clause-parses : goal.unary_expression-returns-clause-parses
unary_expression-returns-clause-parses t c = c.prefixed.ensures.parses _ c.place-at.ensures c.in-Some.ensures.stands c.skip.ensures.skips

pub unary_expression-returns-clause-shorter : goal.unary_expression-returns-clause-shorter
unary_expression-returns-clause-shorter t c = shorter_after _ c.prefixed.result c.prefixed.ensures.shorter (omega (arith, c.skip.ensures.shorter))

pub prefixed-returns-in-Sizeof-clause-parses : goal.prefixed-returns-in-Sizeof-clause-parses
prefixed-returns-in-Sizeof-clause-parses t c = λ s p h e. sizeof_ends _ s _ c.sizeof_expression.result p (prefix_is s c.in-Sizeof.is h) e c.sizeof_expression.ensures.parses

pub prefixed-returns-in_ok-operand-in-Step-clause-parses : goal.prefixed-returns-in_ok-operand-in-Step-clause-parses
prefixed-returns-in_ok-operand-in-Step-clause-parses t c = λ s p h e. tree_made c.args.room c.step_node.result c.step_node.ensures.makes (λ w v. step_made c.in-Step.step c.in_node.ensures.pairs p (prefix_is s c.in-Step.is h) e c.in_ok-operand-in-Step.ensures.parses v)

pub prefixed-returns-in_err-operand-in-Step-clause-parses : goal.prefixed-returns-in_err-operand-in-Step-clause-parses
prefixed-returns-in_err-operand-in-Step-clause-parses t c = λ s p h e. let w = err_from_is_err_and c.from_residual.result c.from_residual.ensures.1 in rw (w.1, w.2) (raised_in c.requires c.in_node.ensures.nodes c.in_node.ensures.pairs c.in_err-operand-in-Step.ensures.parses (step_operand_fails c.in-Step.step (prefix_is s c.in-Step.is h) e) (λ at y o. step_operand_opens c.in-Step.step (prefix_is s c.in-Step.is h) e o))

pub prefixed-returns-in_ok-operand-in-Operator-clause-parses : goal.prefixed-returns-in_ok-operand-in-Operator-clause-parses
prefixed-returns-in_ok-operand-in-Operator-clause-parses t c = λ s p h e. tree_made c.args.room c.unary_node.result c.unary_node.ensures.makes (λ w v. unary_made c.in_node-in-Operator.ensures.pairs p (prefix_is s c.in-Operator.is h) e c.in_ok-operand-in-Operator.ensures.parses v)

pub prefixed-returns-in_err-operand-in-Operator-clause-parses : goal.prefixed-returns-in_err-operand-in-Operator-clause-parses
prefixed-returns-in_err-operand-in-Operator-clause-parses t c = λ s p h e. let w = err_from_is_err_and c.from_residual-in_err-operand-in-Operator.result c.from_residual-in_err-operand-in-Operator.ensures.1 in rw (w.1, w.2) (raised_in c.requires c.in_node-in-Operator.ensures.nodes c.in_node-in-Operator.ensures.pairs c.in_err-operand-in-Operator.ensures.parses (operand_fails (prefix_is s c.in-Operator.is h) e) (λ at y o. unary_operand_opens (prefix_is s c.in-Operator.is h) e o))

pub sizeof_expression-returns-in_err-inside-clause-parses : goal.sizeof_expression-returns-in_err-inside-clause-parses
sizeof_expression-returns-in_err-inside-clause-parses t c = λ t h p. let w = err_from_is_err_and c.from_residual.result c.from_residual.ensures.1 in rw (w.1, w.2) (raised_in c.requires c.in_node.ensures.nodes c.in_node.ensures.pairs c.in_err-inside.ensures.parses (sizeof_operand_fails h (not_there c.is_at_cast.result c.if-not-is_at_cast.true c.is_at_cast.ensures.stands)) (λ at y o. sizeof_operand_opens h o))

pub sizeof_expression-returns-in_err-target-clause-parses : goal.sizeof_expression-returns-in_err-target-clause-parses
sizeof_expression-returns-in_err-target-clause-parses t c = λ t h p. let w = err_from_is_err_and c.from_residual-in_err-target.result c.from_residual-in_err-target.ensures.1 in rw (w.1, w.2) (raised_in c.requires c.in_node-2.ensures.nodes c.in_node-2.ensures.pairs c.in_err-target.ensures.parses (sizeof_type_name_fails h (c.is_at_cast.ensures.stands.0 c.if-not-is_at_cast.false) c.skip.ensures.skips) (λ at y o. sizeof_name_opens _ h (c.is_at_cast.ensures.stands.0 c.if-not-is_at_cast.false) c.skip.ensures.skips o))

pub sizeof_expression-returns-then-not-take-clause-parses : goal.sizeof_expression-returns-then-not-take-clause-parses
sizeof_expression-returns-then-not-take-clause-parses t c = λ t h p. wrong_here (past_at c.if-not-take.ensures.1 (sizeof_unclosed h (c.is_at_cast.ensures.stands.0 c.if-not-is_at_cast.false) c.skip.ensures.skips c.in_ok-target.ensures.parses c.if-not-take.ensures.0 any))

pub sizeof_expression-returns-then-is_at_suffix-clause-parses : goal.sizeof_expression-returns-then-is_at_suffix-clause-parses
sizeof_expression-returns-then-is_at_suffix-clause-parses t c = λ t h p. wrong_here (sizeof_suffixed h (c.is_at_cast.ensures.stands.0 c.if-not-is_at_cast.false) c.skip.ensures.skips c.in_ok-target.ensures.parses c.if-not-take.ensures.1 c.if-not-take.ensures.2 (c.is_at_suffix.ensures.0 c.if-is_at_suffix.true) any)

pub postfix_expression-returns-in_err-left-clause-parses : goal.postfix_expression-returns-in_err-left-clause-parses
postfix_expression-returns-in_err-left-clause-parses t c = let w = err_from_is_err_and c.from_residual.result c.from_residual.ensures.1 in rw (w.1, w.2) (raised c.in_err-left.ensures.parses (λ b r f. bare_postfix b r f) (λ at y o. postfix_opens o))

pub postfix_expression-returns-then-room-left-clause-parses : goal.postfix_expression-returns-then-room-left-clause-parses
postfix_expression-returns-then-room-left-clause-parses t c = deep_at _ (suffix_high c.in-Some.suffix c.loop-suffix.invariant.at c.loop-suffix.invariant.reads c.loop-suffix.invariant.shorter c.in-Some.ensures.stands c.if-room-left.true c.loop-suffix.left.exact) (suffix_deep c.in-Some.suffix c.loop-suffix.invariant.at c.loop-suffix.invariant.reads c.in-Some.ensures.stands c.if-room-left.true c.loop-suffix.invariant.fits c.loop-suffix.invariant.deep) (some_is c.in-Some.ensures.stands.2)

pub postfix_expression-returns-in_err-left-2-clause-parses : goal.postfix_expression-returns-in_err-left-2-clause-parses
postfix_expression-returns-in_err-left-2-clause-parses t c = let w = err_from_is_err_and c.from_residual-in_err-left-2.result c.from_residual-in_err-left-2.ensures.1 in rw (w.1, w.2) (let k = c.in-Some.ensures.stands in raised (c.in_err-left-2.ensures.parses k.0 k.3) (suffix_fails c.loop-suffix.invariant.at c.loop-suffix.invariant.reads c.loop-suffix.invariant.shorter (taken k.2 c.skip.ensures.skips)) (λ at y o. suffix_opens c.loop-suffix.invariant.at c.loop-suffix.invariant.reads (taken k.2 c.skip.ensures.skips) o))

pub postfix_expression-returns-then-is_at_string-clause-parses : goal.postfix_expression-returns-then-is_at_string-clause-parses
postfix_expression-returns-then-is_at_string-clause-parses t c = wrong_here (string_fails c.loop-suffix.invariant.at c.loop-suffix.invariant.reads c.loop-suffix.invariant.shorter (c.is_at_string.ensures.0 c.if-is_at_string.true) any)

pub suffixed-returns-in_err-inside-in-Index-clause-parses : goal.suffixed-returns-in_err-inside-in-Index-clause-parses
suffixed-returns-in_err-inside-in-Index-clause-parses t c = λ t h. let w = err_from_is_err_and c.from_residual.result c.from_residual.ensures.1 in rw (w.1, w.2) (raised_in (omega (arith, c.requires)) c.in_node.ensures.nodes c.in_node.ensures.pairs c.in_err-inside-in-Index.ensures.parses (index_fails (suffix_is t c.in-Index.is h)) (λ at y o. index_opens (suffix_is t c.in-Index.is h) o))

pub suffixed-returns-then-not-take-clause-parses : goal.suffixed-returns-then-not-take-clause-parses
suffixed-returns-then-not-take-clause-parses t c = λ t h. wrong_here (ends_at c.if-not-take.ensures.1 (index_unclosed (suffix_is t c.in-Index.is h) c.in_ok-inside-in-Index.ensures.parses c.if-not-take.ensures.0 any))

pub suffixed-returns-in_err-list-in-Call-clause-parses : goal.suffixed-returns-in_err-list-in-Call-clause-parses
suffixed-returns-in_err-list-in-Call-clause-parses t c = λ t h. let w = err_from_is_err_and c.from_residual-in_err-list-in-Call.result c.from_residual-in_err-list-in-Call.ensures.1 in rw (w.1, w.2) (raised_in (omega (arith, c.requires)) c.in_node-in-Call.ensures.nodes c.in_node-in-Call.ensures.pairs c.in_err-list-in-Call.ensures.parses (λ b r f. call_fails (suffix_is t c.in-Call.is h) f) (λ at y o. arguments_open (suffix_is t c.in-Call.is h) o))

pub suffixed-returns-in_err-name-in-Dot-clause-parses : goal.suffixed-returns-in_err-name-in-Dot-clause-parses
suffixed-returns-in_err-name-in-Dot-clause-parses t c = λ t h. let w = err_from_is_err_and c.from_residual-in_err-name-in-Dot.result c.from_residual-in_err-name-in-Dot.ensures.1 in rw (w.1, w.2) (raised_flat c.in_err-name-in-Dot.ensures.stops (member_fails dot (suffix_is t c.in-Dot.is h)))

pub suffixed-returns-in_err-name-in-Arrow-clause-parses : goal.suffixed-returns-in_err-name-in-Arrow-clause-parses
suffixed-returns-in_err-name-in-Arrow-clause-parses t c = λ t h. let w = err_from_is_err_and c.from_residual-in_err-name-in-Arrow.result c.from_residual-in_err-name-in-Arrow.ensures.1 in rw (w.1, w.2) (raised_flat c.in_err-name-in-Arrow.ensures.stops (member_fails arrow (suffix_is t c.in-Arrow.is h)))

pub arguments-returns-in_err-first-clause-parses : goal.arguments-returns-in_err-first-clause-parses
arguments-returns-in_err-first-clause-parses t c = let w = err_from_is_err_and c.from_residual.result c.from_residual.ensures.1 in rw (w.1, w.2) (raised c.in_err-first.ensures.parses (first_argument_fails c.if-take.ensures.0 c.if-take.ensures.1) (λ at y o. first_argument_opens c.if-take.ensures.1 o))

pub arguments-returns-in_err-list-clause-parses : goal.arguments-returns-in_err-list-clause-parses
arguments-returns-in_err-list-clause-parses t c = let w = err_from_is_err_and c.from_residual-in_err-list.result c.from_residual-in_err-list.ensures.1 in rw (w.1, w.2) (raised c.in_err-list.ensures.refuses (later_argument_fails c.if-take.ensures.0 c.if-take.ensures.1 c.in_ok-first.ensures.parses) (λ at y o. later_argument_opens c.if-take.ensures.1 c.in_ok-first.ensures.parses o))

pub arguments-returns-then-not-take-clause-parses : goal.arguments-returns-then-not-take-clause-parses
arguments-returns-then-not-take-clause-parses t c = wrong_here (ends_at c.if-not-take.ensures.1 (arguments_unclosed c.if-take.ensures.0 c.if-take.ensures.1 (c.in_ok-list.ensures.parses _ c.in_ok-first.ensures.parses.0 c.in_ok-first.ensures.parses.1) c.if-not-take.ensures.0 any))

pub primary_expression-returns-then-room-eq0-clause-parses : goal.primary_expression-returns-then-room-eq0-clause-parses
primary_expression-returns-then-room-eq0-clause-parses t c = deep_at _ (leaf_deep (c.is_at_leaf.ensures.0 c.if-is_at_leaf.true) c.if-room-eq0.true) (leaf_opens _ (c.is_at_leaf.ensures.0 c.if-is_at_leaf.true) c.place-at.ensures c.if-room-eq0.true) (leaf_some _ (c.is_at_leaf.ensures.0 c.if-is_at_leaf.true))

pub primary_expression-returns-in_err-leaf-clause-parses : goal.primary_expression-returns-in_err-leaf-clause-parses
primary_expression-returns-in_err-leaf-clause-parses t c = let w = err_from_is_err_and c.from_residual.result c.from_residual.ensures.1 in rw (w.1, w.2) (leaf_refused (c.is_at_leaf.ensures.0 c.if-is_at_leaf.true) c.in_err-leaf.ensures.refuses)

pub primary_expression-returns-then-is_at_string-clause-parses : goal.primary_expression-returns-then-is_at_string-clause-parses
primary_expression-returns-then-is_at_string-clause-parses t c = wrong_here (leaf_strings (c.is_at_leaf.ensures.0 c.if-is_at_leaf.true) c.in_ok-leaf.ensures.ends (c.in_ok-leaf.ensures.parses 0) (c.is_at_string.ensures.0 c.if-is_at_string.true) any)

pub primary_expression-returns-then-not-is_at-clause-parses : goal.primary_expression-returns-then-not-is_at-clause-parses
primary_expression-returns-then-not-is_at-clause-parses t c = wrong_here (no_leaf (not_there c.is_at_leaf.result c.if-is_at_leaf.false c.is_at_leaf.ensures) (not_there c.is_at.result c.if-not-is_at.true c.is_at.ensures.stands) any)

pub primary_expression-returns-then-room-eq0-2-clause-parses : goal.primary_expression-returns-then-room-eq0-2-clause-parses
primary_expression-returns-then-room-eq0-2-clause-parses t c = record { wrong = λ q. pair_wrong (c.is_at.ensures.stands.0 c.if-not-is_at.false) c.no_pair.ensures.skips (c.no_pair.ensures.lacks.wrong q) any; deep = λ at q. let w = c.no_pair.ensures.lacks.deep at q in nested_at _ (pair_deep (c.is_at.ensures.stands.0 c.if-not-is_at.false) c.no_pair.ensures.skips c.if-room-eq0-2.true) (pair_opens _ (c.is_at.ensures.stands.0 c.if-not-is_at.false) c.no_pair.ensures.skips (w.0 ∙ c.place-at.ensures) c.if-room-eq0-2.true w.1 w.2) (some_starts _ w.1) }

pub primary_expression-returns-in_err-inside-clause-parses : goal.primary_expression-returns-in_err-inside-clause-parses
primary_expression-returns-in_err-inside-clause-parses t c = let w = err_from_is_err_and c.from_residual-in_err-inside.result c.from_residual-in_err-inside.ensures.1 in rw (w.1, w.2) (raised_enclosed (omega (arith, c.if-room-eq0-2.false)) c.in_pair.ensures.nodes c.in_pair.ensures.pairs c.in_err-inside.ensures.parses (inside_fails (c.is_at.ensures.stands.0 c.if-not-is_at.false) c.skip.ensures.skips) (λ at y o. inside_opens _ (c.is_at.ensures.stands.0 c.if-not-is_at.false) c.skip.ensures.skips o))

pub primary_expression-returns-then-not-take-clause-parses : goal.primary_expression-returns-then-not-take-clause-parses
primary_expression-returns-then-not-take-clause-parses t c = wrong_here (past_at c.if-not-take.ensures.1 (inside_unclosed (c.is_at.ensures.stands.0 c.if-not-is_at.false) c.skip.ensures.skips c.in_ok-inside.ensures.parses c.if-not-take.ensures.0 any))

pub primary_expression-returns-then-is_at_string-2-clause-parses : goal.primary_expression-returns-then-is_at_string-2-clause-parses
primary_expression-returns-then-is_at_string-2-clause-parses t c = wrong_here (inside_strings (c.is_at.ensures.stands.0 c.if-not-is_at.false) (parentheses_stand c.in_pair.ensures.pairs (λ e. omega (arith, e, c.if-room-eq0-2.false)) (c.is_at.ensures.stands.0 c.if-not-is_at.false) c.skip.ensures.skips c.in_ok-inside.ensures.parses c.if-not-take.ensures) (omega (arith, c.skip.ensures.shorter, c.in_ok-inside.ensures.shorter, ap length c.if-not-take.ensures.2)) (c.is_at_string-2.ensures.0 c.if-is_at_string-2.true) any)

pub type_name-returns-in_err-spec-clause-parses : goal.type_name-returns-in_err-spec-clause-parses
type_name-returns-in_err-spec-clause-parses t c = let w = err_from_is_err_and c.from_residual.result c.from_residual.ensures.1 in rw (w.1, w.2) (raised_flat c.in_err-spec.ensures.stops (λ b r f. type_spec_fails b r f))

pub type_name-returns-in_err-inner-clause-parses : goal.type_name-returns-in_err-inner-clause-parses
type_name-returns-in_err-inner-clause-parses t c = let w = err_from_is_err_and c.from_residual-in_err-inner.result c.from_residual-in_err-inner.ensures.1 in rw (w.1, w.2) (raised c.in_err-inner.ensures.parses (type_declarator_fails c.in_ok-spec.ensures.parses) (λ at y o. type_declarator_opens c.in_ok-spec.ensures.parses o))

pub parameter-returns-in_err-spec-clause-parses : goal.parameter-returns-in_err-spec-clause-parses
parameter-returns-in_err-spec-clause-parses t c = let w = err_from_is_err_and c.from_residual.result c.from_residual.ensures.1 in rw (w.1, w.2) (raised_flat c.in_err-spec.ensures.stops (λ b r f. param_spec_fails b r f))

pub parameter-returns-in_err-inner-clause-parses : goal.parameter-returns-in_err-inner-clause-parses
parameter-returns-in_err-inner-clause-parses t c = let w = err_from_is_err_and c.from_residual-in_err-inner.result c.from_residual-in_err-inner.ensures.1 in rw (w.1, w.2) (raised c.in_err-inner.ensures.parses (param_declarator_fails c.in_ok-spec.ensures.parses) (λ at y o. param_declarator_opens c.in_ok-spec.ensures.parses o))

pub declared-returns-in_err-core-clause-parses : goal.declared-returns-in_err-core-clause-parses
declared-returns-in_err-core-clause-parses t c = let w = err_from_is_err_and c.from_residual.result c.from_residual.ensures.1 in rw (w.1, w.2) (c.in_err-core.ensures.parses (λ q. not_there c.is_at.result c.if-not-is_at.true c.is_at.ensures.stands (star_there c.args.self.now.rest.now q)))

pub declared-returns-then-room-eq0-clause-parses : goal.declared-returns-then-room-eq0-clause-parses
declared-returns-then-room-eq0-clause-parses t c = deep_at _ (pointer_deep c.args.form (c.is_at.ensures.stands.0 c.if-not-is_at.false) c.if-room-eq0.true) (pointer_opens_here c.args.form (c.is_at.ensures.stands.0 c.if-not-is_at.false) c.place-at.ensures c.if-room-eq0.true) (some_at ASTERISK _ (c.is_at.ensures.stands.0 c.if-not-is_at.false))

pub declared-returns-in_err-inner-clause-parses : goal.declared-returns-in_err-inner-clause-parses
declared-returns-in_err-inner-clause-parses t c = let w = err_from_is_err_and c.from_residual-in_err-inner.result c.from_residual-in_err-inner.ensures.1 in rw (w.1, w.2) (raised_in (omega (arith, c.if-room-eq0.false)) c.in_node.ensures.nodes c.in_node.ensures.pairs c.in_err-inner.ensures.parses (pointer_inner_fails c.args.form (c.is_at.ensures.stands.0 c.if-not-is_at.false) c.skip.ensures.skips c.consts.ensures.took (not_at_word c.consts.ensures.ends)) (λ at y o. pointer_inner_opens c.args.form _ (c.is_at.ensures.stands.0 c.if-not-is_at.false) c.skip.ensures.skips c.consts.ensures.took o))

pub core-returns-then-eq-clause-parses : goal.core-returns-then-eq-clause-parses
core-returns-then-eq-clause-parses t c = λ ns. wrong_here (name_wrong c.args.form (same_true the_type (search rules) _ _ (sym c.if-eq.ensures)) (c.is_at_name.ensures.0 c.if-is_at_name.true) any)

pub core-returns-then-room-eq0-clause-parses : goal.core-returns-then-room-eq0-clause-parses
core-returns-then-room-eq0-clause-parses t c = λ ns. deep_at _ (name_deep c.args.form (c.is_at_name.ensures.0 c.if-is_at_name.true) c.if-room-eq0.true) (name_opens c.args.form _ (same_false the_type _ _ (sym c.if-eq.ensures)) (c.is_at_name.ensures.0 c.if-is_at_name.true) c.place-at.ensures c.if-room-eq0.true) (some_starts _ (omega (arith, (c.is_at_name.ensures.0 c.if-is_at_name.true))))

pub core-returns-in_err-name-clause-parses : goal.core-returns-in_err-name-clause-parses
core-returns-in_err-name-clause-parses t c = λ ns. let w = err_from_is_err_and c.from_residual.result c.from_residual.ensures.1 in rw (w.1, w.2) (raised_flat c.in_err-name.ensures.stops (λ b r f. absurd (name_stands (c.is_at_name.ensures.0 c.if-is_at_name.true) f)))

pub core-returns-then-eq-2-clause-parses : goal.core-returns-then-eq-2-clause-parses
core-returns-then-eq-2-clause-parses t c = λ ns. wrong_here (no_name_wrong c.args.form (same_true the_type (search rules) _ _ (sym c.if-eq-2.ensures)) ns (no_opening c.args.form c.if-not-opens.ensures.stands (same_true the_type (search rules) _ _ (sym c.if-eq-2.ensures))) (not_there c.is_at_name.result c.if-is_at_name.false c.is_at_name.ensures) any)

pub core-returns-then-eq-3-clause-parses : goal.core-returns-then-eq-3-clause-parses
core-returns-then-eq-3-clause-parses t c = λ ns. deep_at _ (pair_deep_named c.args.form c.if-not-opens.ensures.stands (same_true the_type (search rules) _ _ (sym c.if-eq-3.ensures)) c.if-room-eq0-2.true) (named_pair_opens c.args.form c.if-not-opens.ensures.stands (same_true the_type (search rules) _ _ (sym c.if-eq-3.ensures)) c.place-at.ensures c.if-room-eq0-2.true) (some_inside c.args.form c.if-not-opens.ensures.stands)

pub core-returns-then-room-eq0-2-clause-parses : goal.core-returns-then-room-eq0-2-clause-parses
core-returns-then-room-eq0-2-clause-parses t c = λ ns. record { wrong = λ q. pair_wrong_declarator c.args.form c.if-not-opens.ensures.stands c.no_declarator_pair.ensures.skips (c.no_declarator_pair.ensures.lacks.wrong q) any; deep = λ at q. let w = c.no_declarator_pair.ensures.lacks.deep at q in nested_at _ (pair_deep_declarator c.args.form c.if-not-opens.ensures.stands c.no_declarator_pair.ensures.skips (same_false the_type _ _ (sym c.if-eq-3.ensures)) c.if-room-eq0-2.true) (declarator_pair_opens c.args.form _ c.if-not-opens.ensures.stands c.no_declarator_pair.ensures.skips (same_false the_type _ _ (sym c.if-eq-3.ensures)) (w.0 ∙ c.place-at.ensures) c.if-room-eq0-2.true w.1) (some_starts _ (omega (arith, w.1.some))) }

pub core-returns-in_err-inside-clause-parses : goal.core-returns-in_err-inside-clause-parses
core-returns-in_err-inside-clause-parses t c = λ ns. let w = err_from_is_err_and c.from_residual-in_err-inside.result c.from_residual-in_err-inside.ensures.1 in rw (w.1, w.2) (raised_enclosed (omega (arith, c.if-room-eq0-2.false)) c.in_pair.ensures.nodes c.in_pair.ensures.pairs c.in_err-inside.ensures.parses (inside_declarator_fails c.args.form c.if-not-opens.ensures.stands c.skip.ensures.skips) (λ at y o. inside_declarator_opens c.args.form c.if-not-opens.ensures.stands c.skip.ensures.skips o))

pub core-returns-then-is_none-clause-parses : goal.core-returns-then-is_none-clause-parses
core-returns-then-is_none-clause-parses t c = λ ns. wrong_here (nothing_wrong c.args.form c.if-not-opens.ensures.stands c.skip.ensures.skips c.in_ok-inside.ensures.parses (none_is _ c.if-is_none.ensures) any)

pub core-returns-then-not-take-clause-parses : goal.core-returns-then-not-take-clause-parses
core-returns-then-not-take-clause-parses t c = λ ns. wrong_here (ends_at c.if-not-take.ensures.1 (declarator_unclosed c.args.form c.if-not-opens.ensures.stands c.skip.ensures.skips c.in_ok-inside.ensures.parses c.if-not-take.ensures.0 any))

pub lengthened-returns-then-room-left-clause-parses : goal.lengthened-returns-then-room-left-clause-parses
lengthened-returns-then-room-left-clause-parses t c = λ form s p r suits cored dc. record { wrong = λ q. let w = c.too_deep_or_wrong.ensures.wrong q in part_fails form (read_so_far p r cored c.loop-alloc.invariant.reads) any _ (neither (omega (arith, not_there c.ends_declarator.result c.loop-alloc-test.true c.ends_declarator.ensures)) w.0 w.1 any); deep = λ at q. let w = c.too_deep_or_wrong.ensures.deep at q in nested_at _ (part_high form (read_so_far p r cored c.loop-alloc.invariant.reads) (omega (arith, not_there c.ends_declarator.result c.loop-alloc-test.true c.ends_declarator.ensures)) c.if-room-left.true c.loop-alloc.left.exact) (parts_open form (read_so_far p r cored c.loop-alloc.invariant.reads) (c.loop-alloc.invariant.suits form suits) (mark_opens c.loop-alloc.left.depth _ w.1 c.if-room-left.true c.loop-alloc.invariant.fits w.0 c.place_or-deepest.ensures (c.loop-alloc.invariant.deep dc))) (some_starts _ (omega (arith, not_there c.ends_declarator.result c.loop-alloc-test.true c.ends_declarator.ensures))) }

pub lengthened-returns-in_err-left-clause-parses : goal.lengthened-returns-in_err-left-clause-parses
lengthened-returns-in_err-left-clause-parses t c = λ form s p r suits cored dc. let w = err_from_is_err_and c.from_residual.result c.from_residual.ensures.1 in rw (w.1, w.2) (raised (c.in_err-left.ensures.parses (omega (arith, not_there c.ends_declarator.result c.loop-alloc-test.true c.ends_declarator.ensures))) (part_fails form (read_so_far p r cored c.loop-alloc.invariant.reads)) (λ at y o. parts_open form (read_so_far p r cored c.loop-alloc.invariant.reads) (c.loop-alloc.invariant.suits form suits) o))

pub part-returns-in_err-size-clause-parses : goal.part-returns-in_err-size-clause-parses
part-returns-in_err-size-clause-parses t c = let w = err_from_is_err_and c.from_residual.result c.from_residual.ensures.1 in rw (w.1, w.2) (λ l. raised_in (omega (arith, c.requires)) c.in_node.ensures.nodes c.in_node.ensures.pairs c.in_err-size.ensures.parses (size_part_fails c.if-take.ensures.2 c.if-take.ensures.1) (λ at y o. size_part_opens c.if-take.ensures.2 c.if-take.ensures.1 o))

pub part-returns-then-not-take-clause-parses : goal.part-returns-then-not-take-clause-parses
part-returns-then-not-take-clause-parses t c = λ l. wrong_here (past_at c.if-not-take.ensures.1 (size_part_fails c.if-take.ensures.2 c.if-take.ensures.1 any _ (c.in_ok-size.ensures.parses.1 c.if-not-take.ensures.0 any)))

pub part-returns-then-not-take-2-clause-parses : goal.part-returns-then-not-take-2-clause-parses
part-returns-then-not-take-2-clause-parses t c = λ l. wrong_here (past_at (c.if-not-take-2.ensures.1 ∙ c.if-take.ensures.1) (neither l c.if-take.ensures.0 (λ h. c.if-not-take-2.ensures.0 (at_from LEFT_PARENTHESIS c.if-take.ensures.1 h)) any))

pub part-returns-in_err-list-clause-parses : goal.part-returns-in_err-list-clause-parses
part-returns-in_err-list-clause-parses t c = let w = err_from_is_err_and c.from_residual-in_err-list.result c.from_residual-in_err-list.ensures.1 in rw (w.1, w.2) (λ l. raised_in (omega (arith, c.requires)) c.in_node-2.ensures.nodes c.in_node-2.ensures.pairs c.in_err-list.ensures.parses (params_part_fails (sym c.if-take.ensures.1 ∙ c.if-not-take-2.ensures.2) c.if-not-take-2.ensures.1) (λ at y o. params_part_opens (sym c.if-take.ensures.1 ∙ c.if-not-take-2.ensures.2) c.if-not-take-2.ensures.1 o))

pub part-returns-then-not-take-3-clause-parses : goal.part-returns-then-not-take-3-clause-parses
part-returns-then-not-take-3-clause-parses t c = λ l. wrong_here (past_at c.if-not-take-3.ensures.1 (params_part_fails (sym c.if-take.ensures.1 ∙ c.if-not-take-2.ensures.2) c.if-not-take-2.ensures.1 any _ (params_not_closed c.in_ok-list.ensures.parses.1 c.if-not-take-3.ensures.0 any)))

pub size-returns-in_err-size-clause-parses : goal.size-returns-in_err-size-clause-parses
size-returns-in_err-size-clause-parses t c = let w = err_from_is_err_and c.from_residual.result c.from_residual.ensures.1 in rw (w.1, w.2) (raised c.in_err-size.ensures.parses (size_expression_fails (not_there c.is_at.result c.if-is_at.false c.is_at.ensures.stands)) (λ at y o. o))

pub parameters-returns-in_err-first-clause-parses : goal.parameters-returns-in_err-first-clause-parses
parameters-returns-in_err-first-clause-parses t c = let w = err_from_is_err_and c.from_residual.result c.from_residual.ensures.1 in rw (w.1, w.2) (raised c.in_err-first.ensures.parses (λ b r f. first_param_fails f) (λ at y o. o))

pub parameters-returns-in_err-push-clause-parses : goal.parameters-returns-in_err-push-clause-parses
parameters-returns-in_err-push-clause-parses t c = let w = err_from_is_err_and c.from_residual-in_err-push.result c.from_residual-in_err-push.ensures.1 in rw (w.1, w.2) no_memory

pub parameters-returns-in_err-next-clause-parses : goal.parameters-returns-in_err-next-clause-parses
parameters-returns-in_err-next-clause-parses t c = let w = err_from_is_err_and c.from_residual-in_err-next.result c.from_residual-in_err-next.ensures.1 in rw (w.1, w.2) (raised c.in_err-next.ensures.parses (λ b r f. c.loop-alloc.invariant.leads b r (later_param_fails c.loop-alloc-test.ensures.2 c.loop-alloc-test.ensures.1 b r f)) (λ at y o. c.loop-alloc.invariant.opens at y (later_param_open c.loop-alloc-test.ensures.2 c.loop-alloc-test.ensures.1 o)))

pub parameters-returns-in_err-push-2-clause-parses : goal.parameters-returns-in_err-push-2-clause-parses
parameters-returns-in_err-push-2-clause-parses t c = let w = err_from_is_err_and c.from_residual-in_err-push-2.result c.from_residual-in_err-push-2.ensures.1 in rw (w.1, w.2) no_memory

pub comma_expression-returns-clause-deep : goal.comma_expression-returns-clause-deep
comma_expression-returns-clause-deep t c = c.comma_node.ensures.deep (c.in_ok-list.ensures.deep c.in_ok-first.ensures.deep)

pub expressions_from-returns-clause-deep : goal.expressions_from-returns-clause-deep
expressions_from-returns-clause-deep t c = λ d. c.loop-alloc.invariant.deep d

pub assignment_expression-returns-in_default-clause-deep : goal.assignment_expression-returns-in_default-clause-deep
assignment_expression-returns-in_default-clause-deep t c = c.in_ok-whole.ensures.deep c.in_ok-operand.ensures.deep

pub assignment_expression-returns-clause-deep : goal.assignment_expression-returns-clause-deep
assignment_expression-returns-clause-deep t c = c.assign_node.ensures.deep c.in_ok-operand.ensures.deep c.in_ok-value.ensures.deep

pub conditional_expression-returns-clause-deep : goal.conditional_expression-returns-clause-deep
conditional_expression-returns-clause-deep t c = c.conditional_from.ensures.deep c.in_ok-operand.ensures.deep

pub conditional_from-returns-then-not-is_at-clause-deep : goal.conditional_from-returns-then-not-is_at-clause-deep
conditional_from-returns-then-not-is_at-clause-deep t c = λ d. c.in_ok-test.ensures.deep d

pub conditional_from-returns-clause-deep : goal.conditional_from-returns-clause-deep
conditional_from-returns-clause-deep t c = λ d. c.conditional_node.ensures.deep (c.in_ok-test.ensures.deep d) c.in_ok-yes.ensures.deep c.in_ok-no.ensures.deep

pub binary_from-returns-clause-deep : goal.binary_from-returns-clause-deep
binary_from-returns-clause-deep t c = λ d. c.loop-operator.invariant.deep d

pub cast_expression-returns-clause-deep : goal.cast_expression-returns-clause-deep
cast_expression-returns-clause-deep t c = c.cast_node.ensures.deep c.in_ok-target.ensures.deep c.in_ok-operand.ensures.deep

pub prefixed-returns-in_ok-operand-in-Step-clause-deep : goal.prefixed-returns-in_ok-operand-in-Step-clause-deep
prefixed-returns-in_ok-operand-in-Step-clause-deep t c = c.step_node.ensures.deep c.in_ok-operand-in-Step.ensures.deep

pub prefixed-returns-in_ok-operand-in-Operator-clause-deep : goal.prefixed-returns-in_ok-operand-in-Operator-clause-deep
prefixed-returns-in_ok-operand-in-Operator-clause-deep t c = c.unary_node.ensures.deep c.in_ok-operand-in-Operator.ensures.deep

pub sizeof_expression-returns-then-not-is_at_cast-clause-deep : goal.sizeof_expression-returns-then-not-is_at_cast-clause-deep
sizeof_expression-returns-then-not-is_at_cast-clause-deep t c = c.sizeof_node.ensures.deep c.in_ok-inside.ensures.deep

pub sizeof_expression-returns-clause-deep : goal.sizeof_expression-returns-clause-deep
sizeof_expression-returns-clause-deep t c = c.sizeof_type_node.ensures.deep c.in_ok-target.ensures.deep

pub suffixed-returns-else-not-take-clause-deep : goal.suffixed-returns-else-not-take-clause-deep
suffixed-returns-else-not-take-clause-deep t c = λ d. c.index_node.ensures.deep d c.in_ok-inside-in-Index.ensures.deep

pub suffixed-returns-in_ok-list-in-Call-clause-deep : goal.suffixed-returns-in_ok-list-in-Call-clause-deep
suffixed-returns-in_ok-list-in-Call-clause-deep t c = λ d. c.call_node.ensures.deep d c.in_ok-list-in-Call.ensures.deep

pub suffixed-returns-in_ok-name-in-Dot-clause-deep : goal.suffixed-returns-in_ok-name-in-Dot-clause-deep
suffixed-returns-in_ok-name-in-Dot-clause-deep t c = λ d. c.member_node.ensures.deep d

pub suffixed-returns-in_ok-name-in-Arrow-clause-deep : goal.suffixed-returns-in_ok-name-in-Arrow-clause-deep
suffixed-returns-in_ok-name-in-Arrow-clause-deep t c = λ d. c.arrow_node.ensures.deep d

pub suffixed-returns-in-Increment-clause-deep : goal.suffixed-returns-in-Increment-clause-deep
suffixed-returns-in-Increment-clause-deep t c = λ d. c.increased_node.ensures.deep d

pub suffixed-returns-in-Decrement-clause-deep : goal.suffixed-returns-in-Decrement-clause-deep
suffixed-returns-in-Decrement-clause-deep t c = λ d. c.decreased_node.ensures.deep d

pub arguments-returns-then-take-clause-deep : goal.arguments-returns-then-take-clause-deep
arguments-returns-then-take-clause-deep t c = inl c.no_exprs.ensures.height

pub arguments-returns-clause-deep : goal.arguments-returns-clause-deep
arguments-returns-clause-deep t c = c.in_ok-list.ensures.deep c.in_ok-first.ensures.deep

pub type_name-returns-clause-deep : goal.type_name-returns-clause-deep
type_name-returns-clause-deep t c = type_deep_at c.type_node.ensures.depth c.type_node.ensures.makes c.in_ok-inner.ensures.deep

pub declared-returns-then-not-is_at-clause-deep : goal.declared-returns-then-not-is_at-clause-deep
declared-returns-then-not-is_at-clause-deep t c = c.lengthened.ensures.deep c.in_ok-core.ensures.deep

pub declared-returns-clause-deep : goal.declared-returns-clause-deep
declared-returns-clause-deep t c = c.pointer_node.ensures.deep c.in_ok-inner.ensures.deep

pub core-returns-then-not-opens-clause-deep : goal.core-returns-then-not-opens-clause-deep
core-returns-then-not-opens-clause-deep t c = inl c.no_declarator.ensures.height

pub lengthened-returns-clause-deep : goal.lengthened-returns-clause-deep
lengthened-returns-clause-deep t c = λ d. c.loop-alloc.invariant.deep d

pub part-returns-then-take-clause-deep : goal.part-returns-then-take-clause-deep
part-returns-then-take-clause-deep t c = λ d. c.array_node.ensures.deep d c.in_ok-size.ensures.deep

pub part-returns-clause-deep : goal.part-returns-clause-deep
part-returns-clause-deep t c = λ d. c.function_node.ensures.deep d c.in_ok-list.ensures.deep

pub size-returns-then-is_at-clause-deep : goal.size-returns-then-is_at-clause-deep
size-returns-then-is_at-clause-deep t c = inl c.no_size.ensures.height

pub size-returns-clause-deep : goal.size-returns-clause-deep
size-returns-clause-deep t c = c.some_size.ensures.deep c.in_ok-size.ensures.deep

pub parameters-returns-then-stands_alone-clause-deep : goal.parameters-returns-then-stands_alone-clause-deep
parameters-returns-then-stands_alone-clause-deep t c = inl c.no_params.ensures.height

pub parameters-returns-clause-deep : goal.parameters-returns-clause-deep
parameters-returns-clause-deep t c = c.loop-alloc.invariant.deep

pub parameter-returns-clause-deep : goal.parameter-returns-clause-deep
parameter-returns-clause-deep t c = λ rest. param_deep_at c.param_node.ensures.depth (c.param_node.ensures.makes rest) c.in_ok-inner.ensures.deep

pub comma_expression-returns-clause-shorter : goal.comma_expression-returns-clause-shorter
comma_expression-returns-clause-shorter t c = when_read c.comma_node.result (omega (arith, c.in_ok-first.ensures.shorter, c.in_ok-list.ensures.shorter))

pub comma_expression-returns-clause-fits : goal.comma_expression-returns-clause-fits
comma_expression-returns-clause-fits t c = IfOk-weaker c.comma_node.result _ _ (λ m e. omega (arith, e, c.if-room-first.false, c.in_node.ensures.nodes, c.in_ok-list.ensures.fits)) c.comma_node.ensures.height

pub assignment_expression-returns-clause-shorter : goal.assignment_expression-returns-clause-shorter
assignment_expression-returns-clause-shorter t c = when_read c.assign_node.result (omega (arith, c.in_ok-operand.ensures.shorter, c.skip.ensures.shorter, c.in_ok-value.ensures.shorter))

pub assignment_expression-returns-clause-fits : goal.assignment_expression-returns-clause-fits
assignment_expression-returns-clause-fits t c = IfOk-weaker c.assign_node.result _ _ (λ m e. omega (arith, e, c.if-room-operand.false, c.in_node.ensures.nodes, c.in_ok-value.ensures.fits)) c.assign_node.ensures.height

pub conditional_from-returns-clause-shorter : goal.conditional_from-returns-clause-shorter
conditional_from-returns-clause-shorter t c = when_read c.conditional_node.result (omega (arith, c.in_ok-test.ensures.shorter, c.skip.ensures.shorter, c.in_ok-yes.ensures.shorter, ap length c.if-not-take.ensures.2, c.in_ok-no.ensures.shorter))

pub conditional_from-returns-clause-fits : goal.conditional_from-returns-clause-fits
conditional_from-returns-clause-fits t c = IfOk-weaker c.conditional_node.result _ _ (λ m e. omega (arith, e, c.if-room-test.false, c.in_node.ensures.nodes, c.in_node-2.ensures.nodes, c.in_ok-yes.ensures.fits, c.in_ok-no.ensures.fits)) c.conditional_node.ensures.height

pub cast_expression-returns-clause-shorter : goal.cast_expression-returns-clause-shorter
cast_expression-returns-clause-shorter t c = when_read c.cast_node.result (omega (arith, c.skip.ensures.shorter, c.in_ok-target.ensures.shorter, ap length c.if-not-take.ensures.2, c.in_ok-operand.ensures.shorter))

pub cast_expression-returns-clause-fits : goal.cast_expression-returns-clause-fits
cast_expression-returns-clause-fits t c = IfOk-weaker c.cast_node.result _ _ (λ m e. omega (arith, e, c.if-room-eq0.false, c.in_node.ensures.nodes, c.in_node-2.ensures.nodes, c.in_ok-target.ensures.fits, c.in_ok-operand.ensures.fits)) c.cast_node.ensures.height

pub prefixed-returns-in_ok-operand-in-Step-clause-shorter : goal.prefixed-returns-in_ok-operand-in-Step-clause-shorter
prefixed-returns-in_ok-operand-in-Step-clause-shorter t c = when_read c.step_node.result c.in_ok-operand-in-Step.ensures.shorter

pub prefixed-returns-in_ok-operand-in-Step-clause-fits : goal.prefixed-returns-in_ok-operand-in-Step-clause-fits
prefixed-returns-in_ok-operand-in-Step-clause-fits t c = IfOk-weaker c.step_node.result _ _ (λ m e. omega (arith, e, c.requires, c.in_node.ensures.nodes, c.in_ok-operand-in-Step.ensures.fits)) c.step_node.ensures.height

pub prefixed-returns-in_ok-operand-in-Operator-clause-shorter : goal.prefixed-returns-in_ok-operand-in-Operator-clause-shorter
prefixed-returns-in_ok-operand-in-Operator-clause-shorter t c = when_read c.unary_node.result c.in_ok-operand-in-Operator.ensures.shorter

pub prefixed-returns-in_ok-operand-in-Operator-clause-fits : goal.prefixed-returns-in_ok-operand-in-Operator-clause-fits
prefixed-returns-in_ok-operand-in-Operator-clause-fits t c = IfOk-weaker c.unary_node.result _ _ (λ m e. omega (arith, e, c.requires, c.in_node-in-Operator.ensures.nodes, c.in_ok-operand-in-Operator.ensures.fits)) c.unary_node.ensures.height

pub sizeof_expression-returns-then-not-is_at_cast-clause-shorter : goal.sizeof_expression-returns-then-not-is_at_cast-clause-shorter
sizeof_expression-returns-then-not-is_at_cast-clause-shorter t c = when_read c.sizeof_node.result c.in_ok-inside.ensures.shorter

pub sizeof_expression-returns-then-not-is_at_cast-clause-fits : goal.sizeof_expression-returns-then-not-is_at_cast-clause-fits
sizeof_expression-returns-then-not-is_at_cast-clause-fits t c = IfOk-weaker c.sizeof_node.result _ _ (λ m e. omega (arith, e, c.requires, c.in_node.ensures.nodes, c.in_ok-inside.ensures.fits)) c.sizeof_node.ensures.height

pub sizeof_expression-returns-clause-shorter : goal.sizeof_expression-returns-clause-shorter
sizeof_expression-returns-clause-shorter t c = when_read c.sizeof_type_node.result (omega (arith, c.skip.ensures.shorter, c.in_ok-target.ensures.shorter, ap length c.if-not-take.ensures.2))

pub sizeof_expression-returns-clause-fits : goal.sizeof_expression-returns-clause-fits
sizeof_expression-returns-clause-fits t c = IfOk-weaker c.sizeof_type_node.result _ _ (λ m e. omega (arith, e, c.requires, c.in_node-2.ensures.nodes, c.in_ok-target.ensures.fits)) c.sizeof_type_node.ensures.height

pub suffixed-returns-else-not-take-clause-shorter : goal.suffixed-returns-else-not-take-clause-shorter
suffixed-returns-else-not-take-clause-shorter t c = when_read c.index_node.result (omega (arith, c.in_ok-inside-in-Index.ensures.shorter, ap length c.if-not-take.ensures.2))

pub suffixed-returns-else-not-take-clause-fits : goal.suffixed-returns-else-not-take-clause-fits
suffixed-returns-else-not-take-clause-fits t c = IfOk-weaker c.index_node.result _ _ (λ m e. omega (arith, e, c.requires, c.in_node.ensures.nodes, c.in_ok-inside-in-Index.ensures.fits)) c.index_node.ensures.height

pub suffixed-returns-in_ok-list-in-Call-clause-parses : goal.suffixed-returns-in_ok-list-in-Call-clause-parses
suffixed-returns-in_ok-list-in-Call-clause-parses t c = λ t h. suffix_made c.args.room c.call_node.result c.call_node.ensures.makes (λ w v e k s. call_adds c.in_node-in-Call.ensures.pairs v (c.in_ok-list-in-Call.ensures.parses _ _ e k t (suffix_is t c.in-Call.is h)) s)

pub suffixed-returns-in_ok-list-in-Call-clause-shorter : goal.suffixed-returns-in_ok-list-in-Call-clause-shorter
suffixed-returns-in_ok-list-in-Call-clause-shorter t c = when_read c.call_node.result (omega (arith, c.in_ok-list-in-Call.ensures.shorter))

pub suffixed-returns-in_ok-list-in-Call-clause-fits : goal.suffixed-returns-in_ok-list-in-Call-clause-fits
suffixed-returns-in_ok-list-in-Call-clause-fits t c = IfOk-weaker c.call_node.result _ _ (λ m e. omega (arith, e, c.requires, c.in_node-in-Call.ensures.nodes, c.in_ok-list-in-Call.ensures.fits)) c.call_node.ensures.height

pub suffixed-returns-in_ok-name-in-Dot-clause-shorter : goal.suffixed-returns-in_ok-name-in-Dot-clause-shorter
suffixed-returns-in_ok-name-in-Dot-clause-shorter t c = when_read c.member_node.result (omega (arith, c.in_ok-name-in-Dot.ensures.shorter))

pub suffixed-returns-in_ok-name-in-Dot-clause-fits : goal.suffixed-returns-in_ok-name-in-Dot-clause-fits
suffixed-returns-in_ok-name-in-Dot-clause-fits t c = IfOk-weaker c.member_node.result _ _ (λ m e. omega (arith, e, c.requires)) c.member_node.ensures.height

pub suffixed-returns-in_ok-name-in-Arrow-clause-shorter : goal.suffixed-returns-in_ok-name-in-Arrow-clause-shorter
suffixed-returns-in_ok-name-in-Arrow-clause-shorter t c = when_read c.arrow_node.result (omega (arith, c.in_ok-name-in-Arrow.ensures.shorter))

pub suffixed-returns-in_ok-name-in-Arrow-clause-fits : goal.suffixed-returns-in_ok-name-in-Arrow-clause-fits
suffixed-returns-in_ok-name-in-Arrow-clause-fits t c = IfOk-weaker c.arrow_node.result _ _ (λ m e. omega (arith, e, c.requires)) c.arrow_node.ensures.height

pub suffixed-returns-in-Increment-clause-shorter : goal.suffixed-returns-in-Increment-clause-shorter
suffixed-returns-in-Increment-clause-shorter t c = when_read c.increased_node.result (omega arith)

pub suffixed-returns-in-Increment-clause-fits : goal.suffixed-returns-in-Increment-clause-fits
suffixed-returns-in-Increment-clause-fits t c = IfOk-weaker c.increased_node.result _ _ (λ m e. omega (arith, e, c.requires)) c.increased_node.ensures.height

pub suffixed-returns-in-Decrement-clause-shorter : goal.suffixed-returns-in-Decrement-clause-shorter
suffixed-returns-in-Decrement-clause-shorter t c = when_read c.decreased_node.result (omega arith)

pub suffixed-returns-in-Decrement-clause-fits : goal.suffixed-returns-in-Decrement-clause-fits
suffixed-returns-in-Decrement-clause-fits t c = IfOk-weaker c.decreased_node.result _ _ (λ m e. omega (arith, e, c.requires)) c.decreased_node.ensures.height

pub declared-returns-clause-shorter : goal.declared-returns-clause-shorter
declared-returns-clause-shorter t c = when_read c.pointer_node.result (omega (arith, c.skip.ensures.shorter, c.consts.ensures.shorter, c.in_ok-inner.ensures.shorter))

pub declared-returns-clause-fits : goal.declared-returns-clause-fits
declared-returns-clause-fits t c = IfOk-weaker c.pointer_node.result _ _ (λ m e. omega (arith, e, c.if-room-eq0.false, c.in_node.ensures.nodes, c.in_ok-inner.ensures.fits)) c.pointer_node.ensures.height

pub core-returns-then-is_at_name-clause-shorter : goal.core-returns-then-is_at_name-clause-shorter
core-returns-then-is_at_name-clause-shorter t c = when_read c.name_node.result (omega (arith, c.in_ok-name.ensures.shorter))

pub core-returns-then-is_at_name-clause-fits : goal.core-returns-then-is_at_name-clause-fits
core-returns-then-is_at_name-clause-fits t c = IfOk-weaker c.name_node.result _ _ (λ m e. omega (arith, e, c.if-room-eq0.false)) c.name_node.ensures.height

pub part-returns-then-take-clause-shorter : goal.part-returns-then-take-clause-shorter
part-returns-then-take-clause-shorter t c = when_read c.array_node.result (omega (arith, ap length c.if-take.ensures.2, c.in_ok-size.ensures.shorter, ap length c.if-not-take.ensures.2))

pub part-returns-then-take-clause-fits : goal.part-returns-then-take-clause-fits
part-returns-then-take-clause-fits t c = IfOk-weaker c.array_node.result _ _ (λ m e. omega (arith, e, c.requires, c.in_node.ensures.nodes, c.in_ok-size.ensures.fits)) c.array_node.ensures.height

pub part-returns-clause-shorter : goal.part-returns-clause-shorter
part-returns-clause-shorter t c = when_read c.function_node.result (omega (arith, ap length c.if-take.ensures.1, ap length c.if-not-take-2.ensures.2, c.in_ok-list.ensures.shorter, ap length c.if-not-take-3.ensures.2))

pub part-returns-clause-fits : goal.part-returns-clause-fits
part-returns-clause-fits t c = IfOk-weaker c.function_node.result _ _ (λ m e. omega (arith, e, c.requires, c.in_node-2.ensures.nodes, c.in_ok-list.ensures.fits)) c.function_node.ensures.height

pub lengthened-loop-alloc-init : goal.lengthened-loop-alloc-init
lengthened-loop-alloc-init t c = record {
  reads = λ e k s. s;
  deep = λ d. d;
  suits = λ form s. s;
  fits = c.requires;
  shorter = omega arith;
}

pub lengthened-loop-alloc-preserved : goal.lengthened-loop-alloc-preserved
lengthened-loop-alloc-preserved t c = record {
  reads = λ e k s. c.loop-alloc.invariant.reads e k (c.in_ok-left.ensures.parses.0 e k s);
  deep = λ d. c.in_ok-left.ensures.deep (c.loop-alloc.invariant.deep d);
  suits = λ form s. c.in_ok-left.ensures.parses.1 form (c.loop-alloc.invariant.suits form s);
  fits = c.in_ok-left.ensures.fits;
  shorter = omega (arith, c.in_ok-left.ensures.shorter, c.loop-alloc.invariant.shorter);
}

pub postfix_expression-loop-suffix-init : goal.postfix_expression-loop-suffix-init
postfix_expression-loop-suffix-init t c = record {
  at = c.place-at.ensures;
  reads = (_, _, c.in_ok-left.ensures.parses.0, c.in_ok-left.ensures.parses.1, λ e k s. s);
  deep = c.in_ok-left.ensures.deep;
  fits = c.in_ok-left.ensures.fits;
  shorter = c.in_ok-left.ensures.shorter;
}

pub primary_expression-returns-then-is_at_leaf-clause-parses : goal.primary_expression-returns-then-is_at_leaf-clause-parses
primary_expression-returns-then-is_at_leaf-clause-parses t c = (c.in_ok-leaf.ensures.parses _, over _ 0 (omega arith) (not_there c.is_at_string.result c.if-is_at_string.false c.is_at_string.ensures))
