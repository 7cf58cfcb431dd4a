use Rattle.flow_model.proofs.Nested.{stack_in_callgraph}
use Rattle.inline_model.proofs.InlinedLemmas.{stack_in_inlined, inlined_in_stack, walks_are_runs}
use Rattle.inline_model.proofs.OneInlined.{one_inlined}
use Rattle.inline_model.proofs.laws.inlining_keeps_words.Goals as goal

pub returns : goal.returns
returns c = record {
  stack = λ g m valid inlined t. (λ read. inlined_in_stack g m valid inlined t (stack_in_callgraph m t read), λ read. walks_are_runs g m valid inlined t (stack_in_inlined g m valid inlined t read));
  callgraph = λ g m valid inlined t. (inlined_in_stack g m valid inlined t, stack_in_inlined g m valid inlined t);
  one = one_inlined;
}
