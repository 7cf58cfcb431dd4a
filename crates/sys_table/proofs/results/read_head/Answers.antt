use Rattle.std.proofs.Common.{sym, ◌∙◌, subst}
use Rattle.std.proofs.lemmas.Bool.{false≢true}
use Rattle.sys_table.specs.declared.results_error.ResultsError.{ResultsError}
use Rattle.sys_table.specs.ResultsLines.{IsHeadRefusal}
use Rattle.sys_table.proofs.ResultsLemmas.{head_whole, head_refused}
use Rattle.sys_table.proofs.results.read_head.Goals as goal

pub returns-in-Ok : goal.returns-in-Ok
returns-in-Ok c = head_whole c.args.line.now c.take.new.self.rest.now c.requires c.in-Ok.ensures.reads.stands

pub returns-in-Err : goal.returns-in-Err
returns-in-Err c =
    subst (λ (error : ResultsError). IsHeadRefusal error c.args.line.now) (sym c.refusal_of_head.ensures)
    (head_refused c.args.line.now c.take.new.self.rest.now c.in-Err.miss (λ other. false≢true (sym c.if-has_other_number.false ∙ c.has_other_number.ensures.1 other)) c.in-Err.ensures.memory c.in-Err.ensures.reads)
