use Rattle.std.proofs.Common.{ap, length, arith, sym}
use Rattle.std.proofs.lemmas.Result.{IfOk-weaker, on_ok_weaker}
use Rattle.c_parser.specs.declared.starts.Compound.TheVariants as form
use Rattle.c_parser.specs.Lists.{ends}
use Rattle.c_parser.proofs.ListLemmas.{goes_none, goes_first, goes_more, goes_from, goes_begun, goes_end, rest_of}
use Rattle.c_parser.proofs.RoomLemmas.{begins_as}
use Rattle.c_parser.proofs.StmtLemmas.{when_read, word_read, block_stmt, block_made, item_added, node_made, is_if, is_if_else, is_while, is_do, is_for, is_switch, stmt_before, block_stmt_before, group_stands, groups_done, stmt_until, at_else}
use Rattle.c_syntax_printing.proofs.StmtCases.{stmt_head}
use Rattle.c_parser_phrases.proofs.Known.{not_there}
use Rattle.c_syntax_printing.specs.Phrases.{any}
use Rattle.c_syntax_printing.proofs.Combine.{fails_at, fails_first}
use Rattle.c_parser.proofs.StmtStops.{raised, raised_within, only_memory, stops_in, stops_inner, made_stops, added_stops, ends_at, no_room_left, stops_deep, in_condition, after_condition}
use Rattle.c_parser.proofs.StmtStops.{if_yes, if_no, do_word, do_head, do_end, for_head, for_body, switch_brace, switch_groups}
use Rattle.c_parser.proofs.LoopStops.{item_fails, item_leads, item_from, stmt_item, statement_fails, block_fails, if_fails, while_fails, do_fails, for_fails, switch_fails, group_labels_fail, group_body_fails, group_leads, group_goes, group_ends, labels_from, first_statement_leads, deep_compound}
use Rattle.c_syntax_printing.specs.Phrases.{AStmt, ABlockItem, SomeLabels, InBlock, InSwitch, IfTail, WhileTail, DoTail, ForTail, SwitchTail}
use Rattle.c_syntax_printing.specs.Groups.{InGroup}
use Rattle.c_parser.specs.Refusing.{ACondition, AHead}
use Rattle.c_parser_phrases.specs.Refusing.{bound_of}
use Rattle.c_lexer.specs.declared.keyword.TheConstants.{IF, WHILE, DO, FOR, SWITCH}
use Rattle.c_syntax_printing.specs.Opens.{DeepStmt, DeepBlock}
use Rattle.c_syntax_printing.specs.Phrases.{inner}
use Rattle.c_syntax_printing.proofs.StmtOpens.{item_stmt_opens}
use Rattle.c_syntax_printing.specs.Deep.{DeepLabels, DeepStmts, DeepGroups}
use Rattle.c_parser.specs.Nesting.{OpensAs, OpensAfter, OpensInside, OpensInBlock}
use Rattle.c_parser.proofs.StmtGoesOn.{opens_at, after_word, if_test, if_body, if_else, while_test, while_body as while_opens, do_body as do_opens, do_test, for_body as for_opens, switch_test, switch_groups as groups_open, labels_go_on, body_goes_on, group_then, stmts_then, stmt_then}
use Rattle.c_parser.proofs.Passing.{block_then, compound_nests, memory_wants, passed, passed_within, passes_as, passes_in, made_passes, added_passes}
use Rattle.c_parser.proofs.statements.+statement.Goals as goal
use Rattle.c_syntax_printing.proofs.GroupForms.{stmt_fails}
use Rattle.c_syntax_printing.proofs.BodyOpens.{first_stmt_opens}

pub compound-returns-in-If-clause-reads : goal.compound-returns-in-If-clause-reads
compound-returns-in-If-clause-reads t c = word_read c.if_statement.result _ _ (record { some = c.requires.room; nodes = c.in_node-inside.ensures.nodes; pairs = c.in_node-inside.ensures.pairs }) (begins_as c.args.form form.If c.args.cursor.now.rest.now c.in-If.is c.requires.begins) c.skip.ensures.skips c.place-at.ensures c.if_statement.ensures.reads

pub compound-returns-in-While-clause-reads : goal.compound-returns-in-While-clause-reads
compound-returns-in-While-clause-reads t c = word_read c.while_statement.result _ _ (record { some = c.requires.room; nodes = c.in_node-inside.ensures.nodes; pairs = c.in_node-inside.ensures.pairs }) (begins_as c.args.form form.While c.args.cursor.now.rest.now c.in-While.is c.requires.begins) c.skip.ensures.skips c.place-at.ensures c.while_statement.ensures.reads

pub compound-returns-in-Do-clause-reads : goal.compound-returns-in-Do-clause-reads
compound-returns-in-Do-clause-reads t c = word_read c.do_statement.result _ _ (record { some = c.requires.room; nodes = c.in_node-inside.ensures.nodes; pairs = c.in_node-inside.ensures.pairs }) (begins_as c.args.form form.Do c.args.cursor.now.rest.now c.in-Do.is c.requires.begins) c.skip.ensures.skips c.place-at.ensures c.do_statement.ensures.reads

pub compound-returns-in-For-clause-reads : goal.compound-returns-in-For-clause-reads
compound-returns-in-For-clause-reads t c = word_read c.for_statement.result _ _ (record { some = c.requires.room; nodes = c.in_node-inside.ensures.nodes; pairs = c.in_node-inside.ensures.pairs }) (begins_as c.args.form form.For c.args.cursor.now.rest.now c.in-For.is c.requires.begins) c.skip.ensures.skips c.place-at.ensures c.for_statement.ensures.reads

pub compound-returns-in-Switch-clause-reads : goal.compound-returns-in-Switch-clause-reads
compound-returns-in-Switch-clause-reads t c = word_read c.switch_statement.result _ _ (record { some = c.requires.room; nodes = c.in_node-inside.ensures.nodes; pairs = c.in_node-inside.ensures.pairs }) (begins_as c.args.form form.Switch c.args.cursor.now.rest.now c.in-Switch.is c.requires.begins) c.skip.ensures.skips c.place-at.ensures c.switch_statement.ensures.reads

pub statement-returns-then-is_at-clause-reads : goal.statement-returns-then-is_at-clause-reads
statement-returns-then-is_at-clause-reads t c = IfOk-weaker c.block.result _ _ (λ b h. block_stmt h) c.block.ensures.reads

pub block-next-init : goal.block-next-init
block-next-init t c = record {
  goes = goes_begun _ c.skip.ensures.skips (goes_none _ c.new-items.ensures.items (λ more k s. s));
  leads = λ x r f. fails_at (sym c.skip.ensures.skips) f;
  opens = λ at n q d. opens_at (sym c.skip.ensures.skips) d;
  shorter = omega (arith, c.skip.ensures.shorter, c.requires.some);
}

pub block-next-preserved : goal.block-next-preserved
block-next-preserved t c =
    let left = c.next-test.ensures in
    record {
      goes = goes_more _ _ _ c.in_ok-block_item.ensures.reads.added (goes_from _ (sym left.1) c.next.invariant.goes) c.in_ok-block_item.ensures.reads.stands.before;
      leads = λ x r f. c.next.invariant.leads x r (item_leads x left.0 (item_from left.1 c.in_ok-block_item.ensures.reads.stands.item) f);
      opens = λ at n q d. c.next.invariant.opens at n q (opens_at (sym left.1) (c.in_ok-block_item.ensures.opens at n q d));
      shorter = omega (arith, ap length left.1, c.in_ok-block_item.ensures.shorter, c.next.invariant.shorter);
    }

pub block-returns-clause-reads : goal.block-returns-clause-reads
block-returns-clause-reads t c =
    let k = c.next-test.ensures in
    block_made c.block_node.result _ _ (record { some = c.requires.room; nodes = c.in_node-inside.ensures.nodes; pairs = c.in_node-inside.ensures.pairs }) c.place-at.ensures c.requires.begins c.next.invariant.goes k.2 k.1 c.block_node.ensures

pub block_item-returns-clause-reads : goal.block_item-returns-clause-reads
block_item-returns-clause-reads t c = item_added c.add_block_statement.result _ _ c.add_block_statement.ensures (record { item = stmt_item c.in_ok-statement.ensures.reads; before = block_stmt_before _ c.in_ok-statement.ensures.reads })

pub if_statement-returns-then-take_keyword-clause-reads : goal.if_statement-returns-then-take_keyword-clause-reads
if_statement-returns-then-take_keyword-clause-reads t c token w p =
    let e = c.if-take_keyword.ensures in
    node_made c.if_else_node.result c.if_else_node.ensures (is_if_else w p c.in_ok-test.ensures.reads c.in_ok-yes.ensures.reads e.2 e.1 c.in_ok-no.ensures.reads)

pub if_statement-returns-clause-reads : goal.if_statement-returns-clause-reads
if_statement-returns-clause-reads t c token w p =
    let e = c.if-take_keyword.ensures in
    node_made c.if_node.result c.if_node.ensures (is_if w p c.in_ok-test.ensures.reads (stmt_until (sym e.1) c.in_ok-yes.ensures.reads) (λ h. e.0 (at_else e.1 h)))

pub while_statement-returns-clause-reads : goal.while_statement-returns-clause-reads
while_statement-returns-clause-reads t c token w p =
    node_made c.while_node.result c.while_node.ensures (is_while w p c.in_ok-test.ensures.reads c.in_ok-body.ensures.reads)

pub do_statement-returns-clause-reads : goal.do_statement-returns-clause-reads
do_statement-returns-clause-reads t c token w p =
    let u = c.if-not-take_keyword.ensures in let v = c.if-not-take.ensures in
    node_made c.do_node.result c.do_node.ensures (is_do w p c.in_ok-body.ensures.reads u.2 u.1 c.in_ok-test.ensures.reads v.2 v.1)

pub for_statement-returns-clause-reads : goal.for_statement-returns-clause-reads
for_statement-returns-clause-reads t c token w p =
    node_made c.for_node.result c.for_node.ensures (is_for _ w p c.in_ok-head.ensures.reads c.in_ok-body.ensures.reads)

pub switch_statement-returns-clause-reads : goal.switch_statement-returns-clause-reads
switch_statement-returns-clause-reads t c token w p =
    let l = c.if-not-take.ensures in
    node_made c.switch_node.result c.switch_node.ensures (is_switch w p c.in_ok-on.ensures.reads l.2 l.1 c.in_ok-groups.ensures.reads)

pub groups-next-init : goal.groups-next-init
groups-next-init t c = record { goes = goes_none _ c.new-groups.ensures.items (λ more k s. s); leads = λ x r f. f; opens = λ at n q d. d; shorter = omega arith }

pub groups-next-preserved : goal.groups-next-preserved
groups-next-preserved t c =
    let left = c.next-test.ensures in
    record {
      goes = goes_more _ _ _ c.in_ok-push.ensures.items (goes_from _ (sym left.1) c.next.invariant.goes) (group_stands _ _ _ c.group_node.ensures c.in_ok-labels.ensures.reads c.in_ok-body.ensures.reads);
      leads = λ x r f. c.next.invariant.leads x r (group_leads x left.0 (labels_from left.1 c.in_ok-labels.ensures.reads) c.in_ok-body.ensures.begins (c.in_ok-body.ensures.leads x r) c.in_ok-body.ensures.ends f);
      opens = λ at n q d. c.next.invariant.opens at n q (group_then left.1 c.in_ok-labels.ensures.reads c.in_ok-body.ensures.reads d);
      shorter = omega (arith, ap length left.1, c.in_ok-labels.ensures.shorter, c.in_ok-body.ensures.shorter, c.next.invariant.shorter);
    }

pub groups-returns-clause-reads : goal.groups-returns-clause-reads
groups-returns-clause-reads t c = let k = c.next-test.ensures in groups_done _ c.next.invariant.goes k.2 k.1

pub statements-next-init : goal.statements-next-init
statements-next-init t c = record { goes = goes_first _ _ _ c.in_ok-add_statement.ensures c.new-body.ensures.items (stmt_before _ c.in_ok-first.ensures.reads); leads = λ x r f. first_statement_leads x c.in_ok-first.ensures.reads f; opens = λ at n q d. stmts_then c.in_ok-first.ensures.reads d; begins = stmt_head c.in_ok-first.ensures.reads.reads; shorter = c.in_ok-first.ensures.shorter }

pub statements-next-preserved : goal.statements-next-preserved
statements-next-preserved t c = record {
  goes = goes_more _ _ _ c.in_ok-add_statement-2.ensures c.next.invariant.goes (λ more k s. rest_of (stmt_before _ c.in_ok-next.ensures.reads more k s));
  leads = λ x r f. c.next.invariant.leads x r (group_goes x (λ e. let h = c.next-test.ensures.1 e in cc) (first_statement_leads x c.in_ok-next.ensures.reads f));
  opens = λ at n q d. c.next.invariant.opens at n q (stmts_then c.in_ok-next.ensures.reads d);
  begins = c.next.invariant.begins;
  shorter = omega (arith, c.in_ok-next.ensures.shorter, c.next.invariant.shorter);
}

pub statements-returns-clause-reads : goal.statements-returns-clause-reads
statements-returns-clause-reads t c = goes_end _ c.next.invariant.goes ends

pub statement-returns-then-room-eq0-clause-stops : goal.statement-returns-then-room-eq0-clause-stops
statement-returns-then-room-eq0-clause-stops t c = no_room_left c.args.room c.args.cursor.now.rest.now _ c.if-room-eq0.true (c.no_room.ensures.refuses c.args.room.pairs)

pub statement-returns-then-is_at-clause-stops : goal.statement-returns-then-is_at-clause-stops
statement-returns-then-is_at-clause-stops t c = stops_inner AStmt InBlock (bound_of c.args.room) _ c.block.result (λ x r f. block_fails x (c.is_at.ensures.stands.0 c.if-is_at.true) f) c.block.ensures.stops

pub compound-returns-in-If-clause-stops : goal.compound-returns-in-If-clause-stops
compound-returns-in-If-clause-stops t c =
    stops_in AStmt IfTail c.args.room _ c.if_statement.result (record { some = c.requires.room; nodes = c.in_node-inside.ensures.nodes; pairs = c.in_node-inside.ensures.pairs })
    (λ x r f. if_fails x (begins_as c.args.form form.If c.args.cursor.now.rest.now c.in-If.is c.requires.begins) c.skip.ensures.skips f) c.if_statement.ensures.stops

pub compound-returns-in-While-clause-stops : goal.compound-returns-in-While-clause-stops
compound-returns-in-While-clause-stops t c =
    stops_in AStmt WhileTail c.args.room _ c.while_statement.result (record { some = c.requires.room; nodes = c.in_node-inside.ensures.nodes; pairs = c.in_node-inside.ensures.pairs })
    (λ x r f. while_fails x (begins_as c.args.form form.While c.args.cursor.now.rest.now c.in-While.is c.requires.begins) c.skip.ensures.skips f) c.while_statement.ensures.stops

pub compound-returns-in-Do-clause-stops : goal.compound-returns-in-Do-clause-stops
compound-returns-in-Do-clause-stops t c =
    stops_in AStmt DoTail c.args.room _ c.do_statement.result (record { some = c.requires.room; nodes = c.in_node-inside.ensures.nodes; pairs = c.in_node-inside.ensures.pairs })
    (λ x r f. do_fails x (begins_as c.args.form form.Do c.args.cursor.now.rest.now c.in-Do.is c.requires.begins) c.skip.ensures.skips f) c.do_statement.ensures.stops

pub compound-returns-in-For-clause-stops : goal.compound-returns-in-For-clause-stops
compound-returns-in-For-clause-stops t c =
    stops_in AStmt ForTail c.args.room _ c.for_statement.result (record { some = c.requires.room; nodes = c.in_node-inside.ensures.nodes; pairs = c.in_node-inside.ensures.pairs })
    (λ x r f. for_fails x (begins_as c.args.form form.For c.args.cursor.now.rest.now c.in-For.is c.requires.begins) c.skip.ensures.skips f) c.for_statement.ensures.stops

pub compound-returns-in-Switch-clause-stops : goal.compound-returns-in-Switch-clause-stops
compound-returns-in-Switch-clause-stops t c =
    stops_in AStmt SwitchTail c.args.room _ c.switch_statement.result (record { some = c.requires.room; nodes = c.in_node-inside.ensures.nodes; pairs = c.in_node-inside.ensures.pairs })
    (λ x r f. switch_fails x (begins_as c.args.form form.Switch c.args.cursor.now.rest.now c.in-Switch.is c.requires.begins) c.skip.ensures.skips f) c.switch_statement.ensures.stops

pub block-returns-in_err-block_item-clause-stops : goal.block-returns-in_err-block_item-clause-stops
block-returns-in_err-block_item-clause-stops t c =
    let left = c.next-test.ensures in
    raised_within InBlock ABlockItem c.args.room _ c.from_residual.result c.in_err-block_item.field-0.0 c.from_residual.ensures (record { some = c.requires.room; nodes = c.in_node-inside.ensures.nodes; pairs = c.in_node-inside.ensures.pairs })
    (λ x r f. c.next.invariant.leads x r (item_fails x left.0 (fails_at (sym left.1) f))) c.in_err-block_item.ensures.stops

pub block_item-returns-in_err-statement-clause-stops : goal.block_item-returns-in_err-statement-clause-stops
block_item-returns-in_err-statement-clause-stops t c =
    raised ABlockItem AStmt (bound_of c.args.room) _ c.from_residual.result c.in_err-statement.field-0.0 c.from_residual.ensures
    (λ x r f. statement_fails x (not_there c.is_at_specifier.result c.if-is_at_specifier.false c.is_at_specifier.ensures) f) c.in_err-statement.ensures.stops

pub block_item-returns-clause-stops : goal.block_item-returns-clause-stops
block_item-returns-clause-stops t c = added_stops ABlockItem (bound_of c.args.room) _ _ _ _ _ c.add_block_statement.result c.add_block_statement.ensures

pub if_statement-returns-in_err-test-clause-stops : goal.if_statement-returns-in_err-test-clause-stops
if_statement-returns-in_err-test-clause-stops t c = raised IfTail ACondition (bound_of c.args.room) _ c.from_residual.result c.in_err-test.field-0.0 c.from_residual.ensures (λ x r f. in_condition x f) c.in_err-test.ensures.stops

pub if_statement-returns-in_err-yes-clause-stops : goal.if_statement-returns-in_err-yes-clause-stops
if_statement-returns-in_err-yes-clause-stops t c = raised IfTail AStmt (bound_of c.args.room) _ c.from_residual-in_err-yes.result c.in_err-yes.field-0.0 c.from_residual-in_err-yes.ensures (λ x r f. if_yes x c.in_ok-test.ensures.reads f) c.in_err-yes.ensures.stops

pub if_statement-returns-in_err-no-clause-stops : goal.if_statement-returns-in_err-no-clause-stops
if_statement-returns-in_err-no-clause-stops t c = raised IfTail AStmt (bound_of c.args.room) _ c.from_residual-in_err-no.result c.in_err-no.field-0.0 c.from_residual-in_err-no.ensures (λ x r f. if_no x c.in_ok-test.ensures.reads c.in_ok-yes.ensures.reads c.if-take_keyword.ensures.2 c.if-take_keyword.ensures.1 f) c.in_err-no.ensures.stops

pub while_statement-returns-in_err-test-clause-stops : goal.while_statement-returns-in_err-test-clause-stops
while_statement-returns-in_err-test-clause-stops t c = raised WhileTail ACondition (bound_of c.args.room) _ c.from_residual.result c.in_err-test.field-0.0 c.from_residual.ensures (λ x r f. in_condition x f) c.in_err-test.ensures.stops

pub while_statement-returns-in_err-body-clause-stops : goal.while_statement-returns-in_err-body-clause-stops
while_statement-returns-in_err-body-clause-stops t c = raised WhileTail AStmt (bound_of c.args.room) _ c.from_residual-in_err-body.result c.in_err-body.field-0.0 c.from_residual-in_err-body.ensures (λ x r f. after_condition x c.in_ok-test.ensures.reads f) c.in_err-body.ensures.stops

pub do_statement-returns-in_err-body-clause-stops : goal.do_statement-returns-in_err-body-clause-stops
do_statement-returns-in_err-body-clause-stops t c = raised DoTail AStmt (bound_of c.args.room) _ c.from_residual.result c.in_err-body.field-0.0 c.from_residual.ensures (λ x r f. fails_first f) c.in_err-body.ensures.stops

pub do_statement-returns-then-not-take_keyword-clause-stops : goal.do_statement-returns-then-not-take_keyword-clause-stops
do_statement-returns-then-not-take_keyword-clause-stops t c = let n = c.if-not-take_keyword.ensures in ends_at n.1 (do_word any c.in_ok-body.ensures.reads n.0)

pub do_statement-returns-in_err-test-clause-stops : goal.do_statement-returns-in_err-test-clause-stops
do_statement-returns-in_err-test-clause-stops t c = raised DoTail ACondition (bound_of c.args.room) _ c.from_residual-in_err-test.result c.in_err-test.field-0.0 c.from_residual-in_err-test.ensures (λ x r f. do_head x c.in_ok-body.ensures.reads c.if-not-take_keyword.ensures.2 f) c.in_err-test.ensures.stops

pub do_statement-returns-then-not-take-clause-stops : goal.do_statement-returns-then-not-take-clause-stops
do_statement-returns-then-not-take-clause-stops t c =
    let n = c.if-not-take.ensures in
    ends_at n.1 (do_end any c.in_ok-body.ensures.reads c.if-not-take_keyword.ensures.2 c.in_ok-test.ensures.reads n.0)

pub for_statement-returns-in_err-head-clause-stops : goal.for_statement-returns-in_err-head-clause-stops
for_statement-returns-in_err-head-clause-stops t c = raised ForTail AHead (bound_of c.args.room) _ c.from_residual.result c.in_err-head.field-0.0 c.from_residual.ensures (λ x r f. for_head x f) c.in_err-head.ensures.stops

pub for_statement-returns-in_err-body-clause-stops : goal.for_statement-returns-in_err-body-clause-stops
for_statement-returns-in_err-body-clause-stops t c = raised ForTail AStmt (bound_of c.args.room) _ c.from_residual-in_err-body.result c.in_err-body.field-0.0 c.from_residual-in_err-body.ensures (λ x r f. for_body x _ c.in_ok-head.ensures.reads f) c.in_err-body.ensures.stops

pub switch_statement-returns-in_err-on-clause-stops : goal.switch_statement-returns-in_err-on-clause-stops
switch_statement-returns-in_err-on-clause-stops t c = raised SwitchTail ACondition (bound_of c.args.room) _ c.from_residual.result c.in_err-on.field-0.0 c.from_residual.ensures (λ x r f. in_condition x f) c.in_err-on.ensures.stops

pub switch_statement-returns-then-not-take-clause-stops : goal.switch_statement-returns-then-not-take-clause-stops
switch_statement-returns-then-not-take-clause-stops t c = let n = c.if-not-take.ensures in ends_at n.1 (switch_brace any c.in_ok-on.ensures.reads n.0)

pub switch_statement-returns-in_err-groups-clause-stops : goal.switch_statement-returns-in_err-groups-clause-stops
switch_statement-returns-in_err-groups-clause-stops t c = raised SwitchTail InSwitch (bound_of c.args.room) _ c.from_residual-in_err-groups.result c.in_err-groups.field-0.0 c.from_residual-in_err-groups.ensures (λ x r f. switch_groups x c.in_ok-on.ensures.reads c.if-not-take.ensures.2 f) c.in_err-groups.ensures.stops

pub groups-returns-in_err-labels-clause-stops : goal.groups-returns-in_err-labels-clause-stops
groups-returns-in_err-labels-clause-stops t c =
    let left = c.next-test.ensures in
    raised InSwitch SomeLabels (bound_of c.args.room) _ c.from_residual.result c.in_err-labels.field-0.0 c.from_residual.ensures
    (λ x r f. c.next.invariant.leads x r (group_labels_fail x left.0 (fails_at (sym left.1) f))) c.in_err-labels.ensures.stops

pub groups-returns-in_err-body-clause-stops : goal.groups-returns-in_err-body-clause-stops
groups-returns-in_err-body-clause-stops t c =
    let left = c.next-test.ensures in let ls = c.in_ok-labels.ensures in
    raised InSwitch InGroup (bound_of c.args.room) _ c.from_residual-in_err-body.result c.in_err-body.field-0.0 c.from_residual-in_err-body.ensures
    (λ x r f. c.next.invariant.leads x r (group_body_fails x left.0 (labels_from left.1 ls.reads) ls.ended (λ g. fails_at (sym left.1) (ls.leads x _ g)) f)) c.in_err-body.ensures.stops

pub statements-returns-in_err-first-clause-stops : goal.statements-returns-in_err-first-clause-stops
statements-returns-in_err-first-clause-stops t c =
    raised InGroup AStmt (bound_of c.args.room) _ c.from_residual.result c.in_err-first.field-0.0 c.from_residual.ensures (λ x r f. stmt_fails x f) c.in_err-first.ensures.stops

pub statements-returns-in_err-add_statement-clause-stops : goal.statements-returns-in_err-add_statement-clause-stops
statements-returns-in_err-add_statement-clause-stops t c = only_memory InGroup (bound_of c.args.room) _ _ _ _ _ c.from_residual-in_err-add_statement.result c.in_err-add_statement.field-0.0 c.from_residual-in_err-add_statement.ensures c.in_err-add_statement.ensures

pub statements-returns-in_err-next-clause-stops : goal.statements-returns-in_err-next-clause-stops
statements-returns-in_err-next-clause-stops t c =
    raised InGroup AStmt (bound_of c.args.room) _ c.from_residual-in_err-next.result c.in_err-next.field-0.0 c.from_residual-in_err-next.ensures
    (λ x r f. c.next.invariant.leads x r (group_goes x (λ e. let h = c.next-test.ensures.1 e in cc) (stmt_fails x f))) c.in_err-next.ensures.stops

pub statements-returns-in_err-add_statement-2-clause-stops : goal.statements-returns-in_err-add_statement-2-clause-stops
statements-returns-in_err-add_statement-2-clause-stops t c = only_memory InGroup (bound_of c.args.room) _ _ _ _ _ c.from_residual-in_err-add_statement-2.result c.in_err-add_statement-2.field-0.0 c.from_residual-in_err-add_statement-2.ensures c.in_err-add_statement-2.ensures

pub statements-returns-clause-leads : goal.statements-returns-clause-leads
statements-returns-clause-leads t c x r f = c.next.invariant.leads x r f

pub statements-returns-clause-ends : goal.statements-returns-clause-ends
statements-returns-clause-ends t c = group_ends _ (c.next-test.ensures.0 (cc))

pub statement-returns-then-room-eq1-clause-stops : goal.statement-returns-then-room-eq1-clause-stops
statement-returns-then-room-eq1-clause-stops t c =
    stops_deep AStmt (bound_of c.args.room) _ c.in-Err.error c.sure_to_be_deep.result c.sure_to_be_deep.ensures (deep_compound c.in-Some.form c.if-room-eq1.true c.in-Some.ensures.starts) c.in-Err.ensures.stops

pub statement-returns-then-is_at-clause-nests : goal.statement-returns-then-is_at-clause-nests
statement-returns-then-is_at-clause-nests t c =
    passes_as AStmt (λ b. InBlock (inner b)) (OpensAs DeepStmt) OpensInBlock c.args.room c.args.room c.block.result
    (λ r f. block_fails (bound_of c.args.room) (c.is_at.ensures.stands.0 c.if-is_at.true) f)
    (λ at q d. block_then _ c.if-room-eq0.false (c.is_at.ensures.stands.0 c.if-is_at.true) d) c.block.ensures.nests

pub block-returns-in_err-block_item-clause-nests : goal.block-returns-in_err-block_item-clause-nests
block-returns-in_err-block_item-clause-nests t c =
    let left = c.next-test.ensures in
    passed_within InBlock ABlockItem DeepBlock c.args.room c.from_residual.result c.in_err-block_item.field-0.0 c.from_residual.ensures (record { some = c.requires.room; nodes = c.in_node-inside.ensures.nodes; pairs = c.in_node-inside.ensures.pairs })
    (λ r f. c.next.invariant.leads (inner (bound_of c.args.room)) r (item_fails (inner (bound_of c.args.room)) left.0 (fails_at (sym left.1) f)))
    (λ at q d. c.next.invariant.opens at _ q (opens_at (sym left.1) d)) c.in_err-block_item.ensures.nests

pub block_item-returns-in_err-statement-clause-nests : goal.block_item-returns-in_err-statement-clause-nests
block_item-returns-in_err-statement-clause-nests t c =
    passed ABlockItem AStmt (OpensAs DeepBlock) (OpensAs DeepStmt) c.args.room c.args.room c.from_residual.result c.in_err-statement.field-0.0 c.from_residual.ensures
    (λ r f. statement_fails (bound_of c.args.room) (not_there c.is_at_specifier.result c.if-is_at_specifier.false c.is_at_specifier.ensures) f)
    (λ at q d. item_stmt_opens d) c.in_err-statement.ensures.nests

pub block_item-returns-clause-nests : goal.block_item-returns-clause-nests
block_item-returns-clause-nests t c = added_passes ABlockItem (OpensAs DeepBlock) c.args.room _ _ _ _ c.add_block_statement.result c.add_block_statement.ensures

pub if_statement-returns-in_err-test-clause-nests : goal.if_statement-returns-in_err-test-clause-nests
if_statement-returns-in_err-test-clause-nests t c =
    passed IfTail ACondition (OpensAfter IF) OpensInside c.args.room c.args.room c.from_residual.result c.in_err-test.field-0.0 c.from_residual.ensures
    (λ r f. in_condition (bound_of c.args.room) f)
    (λ at q d. if_test d) c.in_err-test.ensures.nests

pub if_statement-returns-in_err-yes-clause-nests : goal.if_statement-returns-in_err-yes-clause-nests
if_statement-returns-in_err-yes-clause-nests t c =
    passed IfTail AStmt (OpensAfter IF) (OpensAs DeepStmt) c.args.room c.args.room c.from_residual-in_err-yes.result c.in_err-yes.field-0.0 c.from_residual-in_err-yes.ensures
    (λ r f. if_yes (bound_of c.args.room) c.in_ok-test.ensures.reads f)
    (λ at q d. if_body c.in_ok-test.ensures.reads d) c.in_err-yes.ensures.nests

pub if_statement-returns-in_err-no-clause-nests : goal.if_statement-returns-in_err-no-clause-nests
if_statement-returns-in_err-no-clause-nests t c =
    passed IfTail AStmt (OpensAfter IF) (OpensAs DeepStmt) c.args.room c.args.room c.from_residual-in_err-no.result c.in_err-no.field-0.0 c.from_residual-in_err-no.ensures
    (λ r f. if_no (bound_of c.args.room) c.in_ok-test.ensures.reads c.in_ok-yes.ensures.reads c.if-take_keyword.ensures.2 c.if-take_keyword.ensures.1 f)
    (λ at q d. if_else c.in_ok-test.ensures.reads c.in_ok-yes.ensures.reads c.if-take_keyword.ensures.2 c.if-take_keyword.ensures.1 d) c.in_err-no.ensures.nests

pub while_statement-returns-in_err-test-clause-nests : goal.while_statement-returns-in_err-test-clause-nests
while_statement-returns-in_err-test-clause-nests t c =
    passed WhileTail ACondition (OpensAfter WHILE) OpensInside c.args.room c.args.room c.from_residual.result c.in_err-test.field-0.0 c.from_residual.ensures
    (λ r f. in_condition (bound_of c.args.room) f)
    (λ at q d. while_test d) c.in_err-test.ensures.nests

pub while_statement-returns-in_err-body-clause-nests : goal.while_statement-returns-in_err-body-clause-nests
while_statement-returns-in_err-body-clause-nests t c =
    passed WhileTail AStmt (OpensAfter WHILE) (OpensAs DeepStmt) c.args.room c.args.room c.from_residual-in_err-body.result c.in_err-body.field-0.0 c.from_residual-in_err-body.ensures
    (λ r f. after_condition (bound_of c.args.room) c.in_ok-test.ensures.reads f)
    (λ at q d. while_opens c.in_ok-test.ensures.reads d) c.in_err-body.ensures.nests

pub do_statement-returns-in_err-body-clause-nests : goal.do_statement-returns-in_err-body-clause-nests
do_statement-returns-in_err-body-clause-nests t c =
    passed DoTail AStmt (OpensAfter DO) (OpensAs DeepStmt) c.args.room c.args.room c.from_residual.result c.in_err-body.field-0.0 c.from_residual.ensures
    (λ r f. fails_first f)
    (λ at q d. do_opens d) c.in_err-body.ensures.nests

pub do_statement-returns-in_err-test-clause-nests : goal.do_statement-returns-in_err-test-clause-nests
do_statement-returns-in_err-test-clause-nests t c =
    passed DoTail ACondition (OpensAfter DO) OpensInside c.args.room c.args.room c.from_residual-in_err-test.result c.in_err-test.field-0.0 c.from_residual-in_err-test.ensures
    (λ r f. do_head (bound_of c.args.room) c.in_ok-body.ensures.reads c.if-not-take_keyword.ensures.2 f)
    (λ at q d. do_test c.in_ok-body.ensures.reads c.if-not-take_keyword.ensures.2 c.if-not-take_keyword.ensures.1 d) c.in_err-test.ensures.nests

pub for_statement-returns-in_err-head-clause-nests : goal.for_statement-returns-in_err-head-clause-nests
for_statement-returns-in_err-head-clause-nests t c =
    passed ForTail AHead (OpensAfter FOR) (OpensAfter FOR) c.args.room c.args.room c.from_residual.result c.in_err-head.field-0.0 c.from_residual.ensures
    (λ r f. for_head (bound_of c.args.room) f)
    (λ at q d. d) c.in_err-head.ensures.nests

pub for_statement-returns-in_err-body-clause-nests : goal.for_statement-returns-in_err-body-clause-nests
for_statement-returns-in_err-body-clause-nests t c =
    passed ForTail AStmt (OpensAfter FOR) (OpensAs DeepStmt) c.args.room c.args.room c.from_residual-in_err-body.result c.in_err-body.field-0.0 c.from_residual-in_err-body.ensures
    (λ r f. for_body (bound_of c.args.room) _ c.in_ok-head.ensures.reads f)
    (λ at q d. for_opens _ c.in_ok-head.ensures.reads d) c.in_err-body.ensures.nests

pub switch_statement-returns-in_err-on-clause-nests : goal.switch_statement-returns-in_err-on-clause-nests
switch_statement-returns-in_err-on-clause-nests t c =
    passed SwitchTail ACondition (OpensAfter SWITCH) OpensInside c.args.room c.args.room c.from_residual.result c.in_err-on.field-0.0 c.from_residual.ensures
    (λ r f. in_condition (bound_of c.args.room) f)
    (λ at q d. switch_test d) c.in_err-on.ensures.nests

pub switch_statement-returns-in_err-groups-clause-nests : goal.switch_statement-returns-in_err-groups-clause-nests
switch_statement-returns-in_err-groups-clause-nests t c =
    passed SwitchTail InSwitch (OpensAfter SWITCH) (OpensAs DeepGroups) c.args.room c.args.room c.from_residual-in_err-groups.result c.in_err-groups.field-0.0 c.from_residual-in_err-groups.ensures
    (λ r f. switch_groups (bound_of c.args.room) c.in_ok-on.ensures.reads c.if-not-take.ensures.2 f)
    (λ at q d. groups_open c.in_ok-on.ensures.reads c.if-not-take.ensures.2 c.if-not-take.ensures.1 d) c.in_err-groups.ensures.nests

pub groups-returns-in_err-labels-clause-nests : goal.groups-returns-in_err-labels-clause-nests
groups-returns-in_err-labels-clause-nests t c =
    let left = c.next-test.ensures in
    passed InSwitch SomeLabels (OpensAs DeepGroups) (OpensAs DeepLabels) c.args.room c.args.room c.from_residual.result c.in_err-labels.field-0.0 c.from_residual.ensures
    (λ r f. c.next.invariant.leads (bound_of c.args.room) r (group_labels_fail (bound_of c.args.room) left.0 (fails_at (sym left.1) f)))
    (λ at q d. c.next.invariant.opens at _ q (labels_go_on left.1 d)) c.in_err-labels.ensures.nests

pub groups-returns-in_err-body-clause-nests : goal.groups-returns-in_err-body-clause-nests
groups-returns-in_err-body-clause-nests t c =
    let left = c.next-test.ensures in let ls = c.in_ok-labels.ensures in
    passed InSwitch InGroup (OpensAs DeepGroups) (OpensAs DeepStmts) c.args.room c.args.room c.from_residual-in_err-body.result c.in_err-body.field-0.0 c.from_residual-in_err-body.ensures
    (λ r f. c.next.invariant.leads (bound_of c.args.room) r (group_body_fails (bound_of c.args.room) left.0 (labels_from left.1 ls.reads) ls.ended (λ g. fails_at (sym left.1) (ls.leads (bound_of c.args.room) _ g)) f))
    (λ at q d. c.next.invariant.opens at _ q (body_goes_on left.1 ls.reads d)) c.in_err-body.ensures.nests

pub statements-returns-in_err-first-clause-nests : goal.statements-returns-in_err-first-clause-nests
statements-returns-in_err-first-clause-nests t c =
    passed InGroup AStmt (OpensAs DeepStmts) (OpensAs DeepStmt) c.args.room c.args.room c.from_residual.result c.in_err-first.field-0.0 c.from_residual.ensures
    (λ r f. stmt_fails (bound_of c.args.room) f)
    (λ at q d. first_stmt_opens d) c.in_err-first.ensures.nests

pub statements-returns-in_err-add_statement-clause-nests : goal.statements-returns-in_err-add_statement-clause-nests
statements-returns-in_err-add_statement-clause-nests t c =
    memory_wants InGroup (OpensAs DeepStmts) c.args.room _ _ _ _ c.from_residual-in_err-add_statement.result c.in_err-add_statement.field-0.0 c.from_residual-in_err-add_statement.ensures c.in_err-add_statement.ensures

pub statements-returns-in_err-next-clause-nests : goal.statements-returns-in_err-next-clause-nests
statements-returns-in_err-next-clause-nests t c =
    passed InGroup AStmt (OpensAs DeepStmts) (OpensAs DeepStmt) c.args.room c.args.room c.from_residual-in_err-next.result c.in_err-next.field-0.0 c.from_residual-in_err-next.ensures
    (λ r f. c.next.invariant.leads (bound_of c.args.room) r (group_goes (bound_of c.args.room) (λ e. let h = c.next-test.ensures.1 e in cc) (stmt_fails (bound_of c.args.room) f)))
    (λ at q d. c.next.invariant.opens at _ q (first_stmt_opens d)) c.in_err-next.ensures.nests

pub statements-returns-in_err-add_statement-2-clause-nests : goal.statements-returns-in_err-add_statement-2-clause-nests
statements-returns-in_err-add_statement-2-clause-nests t c =
    memory_wants InGroup (OpensAs DeepStmts) c.args.room _ _ _ _ c.from_residual-in_err-add_statement-2.result c.in_err-add_statement-2.field-0.0 c.from_residual-in_err-add_statement-2.ensures c.in_err-add_statement-2.ensures

pub compound-returns-in-If-clause-nests : goal.compound-returns-in-If-clause-nests
compound-returns-in-If-clause-nests t c =
    passes_in AStmt IfTail (OpensAs DeepStmt) (OpensAfter IF) c.args.room c.if_statement.result (record { some = c.requires.room; nodes = c.in_node-inside.ensures.nodes; pairs = c.in_node-inside.ensures.pairs })
    (λ r f. if_fails (bound_of c.args.room) (begins_as c.args.form form.If c.args.cursor.now.rest.now c.in-If.is c.requires.begins) c.skip.ensures.skips f)
    (λ at q d. after_word (begins_as c.args.form form.If c.args.cursor.now.rest.now c.in-If.is c.requires.begins) c.skip.ensures.skips d) c.if_statement.ensures.nests

pub compound-returns-in-While-clause-nests : goal.compound-returns-in-While-clause-nests
compound-returns-in-While-clause-nests t c =
    passes_in AStmt WhileTail (OpensAs DeepStmt) (OpensAfter WHILE) c.args.room c.while_statement.result (record { some = c.requires.room; nodes = c.in_node-inside.ensures.nodes; pairs = c.in_node-inside.ensures.pairs })
    (λ r f. while_fails (bound_of c.args.room) (begins_as c.args.form form.While c.args.cursor.now.rest.now c.in-While.is c.requires.begins) c.skip.ensures.skips f)
    (λ at q d. after_word (begins_as c.args.form form.While c.args.cursor.now.rest.now c.in-While.is c.requires.begins) c.skip.ensures.skips d) c.while_statement.ensures.nests

pub compound-returns-in-Do-clause-nests : goal.compound-returns-in-Do-clause-nests
compound-returns-in-Do-clause-nests t c =
    passes_in AStmt DoTail (OpensAs DeepStmt) (OpensAfter DO) c.args.room c.do_statement.result (record { some = c.requires.room; nodes = c.in_node-inside.ensures.nodes; pairs = c.in_node-inside.ensures.pairs })
    (λ r f. do_fails (bound_of c.args.room) (begins_as c.args.form form.Do c.args.cursor.now.rest.now c.in-Do.is c.requires.begins) c.skip.ensures.skips f)
    (λ at q d. after_word (begins_as c.args.form form.Do c.args.cursor.now.rest.now c.in-Do.is c.requires.begins) c.skip.ensures.skips d) c.do_statement.ensures.nests

pub compound-returns-in-For-clause-nests : goal.compound-returns-in-For-clause-nests
compound-returns-in-For-clause-nests t c =
    passes_in AStmt ForTail (OpensAs DeepStmt) (OpensAfter FOR) c.args.room c.for_statement.result (record { some = c.requires.room; nodes = c.in_node-inside.ensures.nodes; pairs = c.in_node-inside.ensures.pairs })
    (λ r f. for_fails (bound_of c.args.room) (begins_as c.args.form form.For c.args.cursor.now.rest.now c.in-For.is c.requires.begins) c.skip.ensures.skips f)
    (λ at q d. after_word (begins_as c.args.form form.For c.args.cursor.now.rest.now c.in-For.is c.requires.begins) c.skip.ensures.skips d) c.for_statement.ensures.nests

pub compound-returns-in-Switch-clause-nests : goal.compound-returns-in-Switch-clause-nests
compound-returns-in-Switch-clause-nests t c =
    passes_in AStmt SwitchTail (OpensAs DeepStmt) (OpensAfter SWITCH) c.args.room c.switch_statement.result (record { some = c.requires.room; nodes = c.in_node-inside.ensures.nodes; pairs = c.in_node-inside.ensures.pairs })
    (λ r f. switch_fails (bound_of c.args.room) (begins_as c.args.form form.Switch c.args.cursor.now.rest.now c.in-Switch.is c.requires.begins) c.skip.ensures.skips f)
    (λ at q d. after_word (begins_as c.args.form form.Switch c.args.cursor.now.rest.now c.in-Switch.is c.requires.begins) c.skip.ensures.skips d) c.switch_statement.ensures.nests

pub block_item-returns-clause-opens : goal.block_item-returns-clause-opens
block_item-returns-clause-opens t c = when_read c.add_block_statement.result (λ at n q d. stmt_then c.in_ok-statement.ensures.reads d)

pub statement-returns-then-room-eq0-clause-nests : goal.statement-returns-then-room-eq0-clause-nests
statement-returns-then-room-eq0-clause-nests t c = c.no_room.ensures.nests c.args.room c.if-room-eq0.true

pub statement-returns-then-room-eq1-clause-nests : goal.statement-returns-then-room-eq1-clause-nests
statement-returns-then-room-eq1-clause-nests t c = compound_nests c.args.room _ c.sure_to_be_deep.result c.in-Some.form c.if-room-eq1.true c.in-Some.ensures.starts c.in-Some.ensures.some

pub compound-returns-in-If-clause-shorter : goal.compound-returns-in-If-clause-shorter
compound-returns-in-If-clause-shorter t c = on_ok_weaker c.if_statement.result (λ w. omega (arith, w, c.skip.ensures.shorter, c.requires.some)) c.if_statement.ensures.shorter

pub compound-returns-in-While-clause-shorter : goal.compound-returns-in-While-clause-shorter
compound-returns-in-While-clause-shorter t c = on_ok_weaker c.while_statement.result (λ w. omega (arith, w, c.skip.ensures.shorter, c.requires.some)) c.while_statement.ensures.shorter

pub compound-returns-in-Do-clause-shorter : goal.compound-returns-in-Do-clause-shorter
compound-returns-in-Do-clause-shorter t c = on_ok_weaker c.do_statement.result (λ w. omega (arith, w, c.skip.ensures.shorter, c.requires.some)) c.do_statement.ensures.shorter

pub compound-returns-in-For-clause-shorter : goal.compound-returns-in-For-clause-shorter
compound-returns-in-For-clause-shorter t c = on_ok_weaker c.for_statement.result (λ w. omega (arith, w, c.skip.ensures.shorter, c.requires.some)) c.for_statement.ensures.shorter

pub compound-returns-in-Switch-clause-shorter : goal.compound-returns-in-Switch-clause-shorter
compound-returns-in-Switch-clause-shorter t c = on_ok_weaker c.switch_statement.result (λ w. omega (arith, w, c.skip.ensures.shorter, c.requires.some)) c.switch_statement.ensures.shorter

pub block-returns-clause-shorter : goal.block-returns-clause-shorter
block-returns-clause-shorter t c = when_read c.block_node.result (omega (arith, ap length c.next-test.ensures.2, c.next.invariant.shorter))

pub block-returns-clause-stops : goal.block-returns-clause-stops
block-returns-clause-stops t c = made_stops InBlock (inner (bound_of c.args.room)) _ _ c.block_node.result _ c.block_node.ensures

pub block-returns-clause-nests : goal.block-returns-clause-nests
block-returns-clause-nests t c = made_passes (λ b. InBlock (inner b)) OpensInBlock c.args.room _ c.block_node.result _ c.block_node.ensures

pub block_item-returns-clause-shorter : goal.block_item-returns-clause-shorter
block_item-returns-clause-shorter t c = when_read c.add_block_statement.result c.in_ok-statement.ensures.shorter

pub if_statement-returns-then-take_keyword-clause-shorter : goal.if_statement-returns-then-take_keyword-clause-shorter
if_statement-returns-then-take_keyword-clause-shorter t c = when_read c.if_else_node.result (omega (arith, c.in_ok-test.ensures.shorter, c.in_ok-yes.ensures.shorter, ap length c.if-take_keyword.ensures.2, c.in_ok-no.ensures.shorter))

pub if_statement-returns-then-take_keyword-clause-stops : goal.if_statement-returns-then-take_keyword-clause-stops
if_statement-returns-then-take_keyword-clause-stops t c = made_stops IfTail (bound_of c.args.room) _ _ c.if_else_node.result _ c.if_else_node.ensures

pub if_statement-returns-then-take_keyword-clause-nests : goal.if_statement-returns-then-take_keyword-clause-nests
if_statement-returns-then-take_keyword-clause-nests t c = made_passes IfTail (OpensAfter IF) c.args.room _ c.if_else_node.result _ c.if_else_node.ensures

pub if_statement-returns-clause-shorter : goal.if_statement-returns-clause-shorter
if_statement-returns-clause-shorter t c = when_read c.if_node.result (omega (arith, c.in_ok-test.ensures.shorter, c.in_ok-yes.ensures.shorter, ap length c.if-take_keyword.ensures.1))

pub if_statement-returns-clause-stops : goal.if_statement-returns-clause-stops
if_statement-returns-clause-stops t c = made_stops IfTail (bound_of c.args.room) _ _ c.if_node.result _ c.if_node.ensures

pub if_statement-returns-clause-nests : goal.if_statement-returns-clause-nests
if_statement-returns-clause-nests t c = made_passes IfTail (OpensAfter IF) c.args.room _ c.if_node.result _ c.if_node.ensures

pub while_statement-returns-clause-shorter : goal.while_statement-returns-clause-shorter
while_statement-returns-clause-shorter t c = when_read c.while_node.result (omega (arith, c.in_ok-test.ensures.shorter, c.in_ok-body.ensures.shorter))

pub while_statement-returns-clause-stops : goal.while_statement-returns-clause-stops
while_statement-returns-clause-stops t c = made_stops WhileTail (bound_of c.args.room) _ _ c.while_node.result _ c.while_node.ensures

pub while_statement-returns-clause-nests : goal.while_statement-returns-clause-nests
while_statement-returns-clause-nests t c = made_passes WhileTail (OpensAfter WHILE) c.args.room _ c.while_node.result _ c.while_node.ensures

pub do_statement-returns-clause-shorter : goal.do_statement-returns-clause-shorter
do_statement-returns-clause-shorter t c = when_read c.do_node.result (omega (arith, c.in_ok-body.ensures.shorter, ap length c.if-not-take_keyword.ensures.2, c.in_ok-test.ensures.shorter, ap length c.if-not-take.ensures.2))

pub do_statement-returns-clause-stops : goal.do_statement-returns-clause-stops
do_statement-returns-clause-stops t c = made_stops DoTail (bound_of c.args.room) _ _ c.do_node.result _ c.do_node.ensures

pub do_statement-returns-clause-nests : goal.do_statement-returns-clause-nests
do_statement-returns-clause-nests t c = made_passes DoTail (OpensAfter DO) c.args.room _ c.do_node.result _ c.do_node.ensures

pub for_statement-returns-clause-shorter : goal.for_statement-returns-clause-shorter
for_statement-returns-clause-shorter t c = when_read c.for_node.result (omega (arith, c.in_ok-head.ensures.shorter, c.in_ok-body.ensures.shorter))

pub for_statement-returns-clause-stops : goal.for_statement-returns-clause-stops
for_statement-returns-clause-stops t c = made_stops ForTail (bound_of c.args.room) _ _ c.for_node.result _ c.for_node.ensures

pub for_statement-returns-clause-nests : goal.for_statement-returns-clause-nests
for_statement-returns-clause-nests t c = made_passes ForTail (OpensAfter FOR) c.args.room _ c.for_node.result _ c.for_node.ensures

pub switch_statement-returns-clause-shorter : goal.switch_statement-returns-clause-shorter
switch_statement-returns-clause-shorter t c = when_read c.switch_node.result (omega (arith, c.in_ok-on.ensures.shorter, ap length c.if-not-take.ensures.2, c.in_ok-groups.ensures.shorter))

pub switch_statement-returns-clause-stops : goal.switch_statement-returns-clause-stops
switch_statement-returns-clause-stops t c = made_stops SwitchTail (bound_of c.args.room) _ _ c.switch_node.result _ c.switch_node.ensures

pub switch_statement-returns-clause-nests : goal.switch_statement-returns-clause-nests
switch_statement-returns-clause-nests t c = made_passes SwitchTail (OpensAfter SWITCH) c.args.room _ c.switch_node.result _ c.switch_node.ensures
