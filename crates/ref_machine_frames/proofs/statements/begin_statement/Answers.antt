use Rattle.std.proofs.Common.{◌≡◌, ◌+◌, ap, ◌∙◌, arith}
use Rattle.c_tree.specs.View.{program_of, stmt_of, stmts_of}
use Rattle.c_tree.proofs.Rows.{block_is, for_is}
use Rattle.c_values.specs.Seen.{seen}
use Rattle.ref_machine_frames.specs.Work.{of_all, of_stmt, of_stmts}
use Rattle.ref_machine_frames.proofs.Beginnings.{declare_part, block_part, for_part, if_part}
use Rattle.ref_machine_frames.proofs.Lessening.{below}
use Rattle.ref_machine_frames.proofs.statements.begin_statement.Goals as goal

pub returns-in-Block-clause-same : goal.returns-in-Block-clause-same
returns-in-Block-clause-same c =
    block_part c.whole.result (program_of c.args.program.now) c.args.here (seen c.args.memory.now) c.args.s.now c.args.todo.now.items c.whole.new.todo.items c.in-Block.ss c.deref.result.now c.in-Block.is c.deref.ensures.value c.whole.ensures.same

pub returns-in-Declare-clause-same : goal.returns-in-Declare-clause-same
returns-in-Declare-clause-same c =
    declare_part c.declare.result (program_of c.args.program.now) c.args.here (seen c.args.memory.now) (seen c.declare.new.memory) c.args.s.now c.args.todo.now.items c.declare.new.todo.items c.in-Declare.variable c.in-Declare.init c.deref-in-Declare.result.now c.in-Declare.is c.deref-in-Declare.ensures.value c.declare.ensures.same

pub returns-in-If-clause-same : goal.returns-in-If-clause-same
returns-in-If-clause-same c =
    if_part c.wait_in_statement-in-If.result (program_of c.args.program.now) c.args.here (seen c.args.memory.now) c.args.s.now c.args.todo.now.items c.wait_in_statement-in-If.new.todo.items c.in-If.test c.in-If.yes c.in-If.no c.deref-in-If.result.now c.in-If.is c.deref-in-If.ensures c.wait_in_statement-in-If.ensures.same

pub returns-in-For-clause-same : goal.returns-in-For-clause-same
returns-in-For-clause-same c =
    for_part c.begin_for.result (program_of c.args.program.now) c.args.here (seen c.args.memory.now) c.args.s.now c.args.todo.now.items c.begin_for.new.todo.items c.in-For.first c.in-For.test c.in-For.step c.in-For.body c.deref-in-For.result.now c.in-For.is c.deref-in-For.ensures.value c.begin_for.ensures.same

pub returns-in-Block-clause-less : goal.returns-in-Block-clause-less
returns-in-Block-clause-less c =
    let is : of_stmt (stmt_of c.args.s.now) ≡ 2 + of_stmts (stmts_of c.in-Block.ss.items) = ap of_stmt (ap stmt_of c.in-Block.is ∙ block_is c.in-Block.ss) in
    let same : of_stmts (stmts_of c.deref.result.now) ≡ of_stmts (stmts_of c.in-Block.ss.items) = ap (λ ss. of_stmts (stmts_of ss)) c.deref.ensures.value in
    below c.whole.result c.whole.new.todo.items (1 + (of_stmts (stmts_of c.deref.result.now) + of_all c.args.todo.now.items)) (of_stmt (stmt_of c.args.s.now) + of_all c.args.todo.now.items) (omega (arith, is, same)) c.whole.ensures.less

pub returns-in-For-clause-less : goal.returns-in-For-clause-less
returns-in-For-clause-less c =
    let is : of_stmt (stmt_of c.args.s.now) ≡ 4 + of_stmts (stmts_of c.in-For.first.items) = ap of_stmt (ap stmt_of c.in-For.is ∙ for_is c.in-For.first c.in-For.test c.in-For.step c.in-For.body) in
    let same : of_stmts (stmts_of c.deref-in-For.result.now) ≡ of_stmts (stmts_of c.in-For.first.items) = ap (λ ss. of_stmts (stmts_of ss)) c.deref-in-For.ensures.value in
    below c.begin_for.result c.begin_for.new.todo.items (3 + (of_stmts (stmts_of c.deref-in-For.result.now) + of_all c.args.todo.now.items)) (of_stmt (stmt_of c.args.s.now) + of_all c.args.todo.now.items) (omega (arith, is, same)) c.begin_for.ensures.less
