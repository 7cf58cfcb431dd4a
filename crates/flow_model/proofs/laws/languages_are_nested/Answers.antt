use Rattle.flow_model.proofs.Nested.{dyck_in_stack, stack_in_callgraph, dyck_accepted_by_stack, stack_accepted_by_callgraph}
use Rattle.flow_model.proofs.laws.languages_are_nested.Goals as goal

pub returns-clause-dyck : goal.returns-clause-dyck
returns-clause-dyck c = dyck_in_stack

pub returns-clause-stack : goal.returns-clause-stack
returns-clause-stack c = stack_in_callgraph

pub returns-clause-dyck_accepted : goal.returns-clause-dyck_accepted
returns-clause-dyck_accepted c = dyck_accepted_by_stack

pub returns-clause-stack_accepted : goal.returns-clause-stack_accepted
returns-clause-stack_accepted c = stack_accepted_by_callgraph
