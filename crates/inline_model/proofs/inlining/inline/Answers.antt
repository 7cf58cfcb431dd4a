use Rattle.inline_model.proofs.inlining.inline.Goals as goal

pub returns-in-Ok-build-clause-stack : goal.returns-in-Ok-build-clause-stack
returns-in-Ok-build-clause-stack c = c.inlining_keeps_words.ensures.stack c.args.model.now c.in-Ok-build.inlined c.nodes-nodes.ensures.valid c.in-Ok-build.ensures

pub returns-in-Ok-build-clause-callgraph : goal.returns-in-Ok-build-clause-callgraph
returns-in-Ok-build-clause-callgraph c = c.inlining_keeps_words.ensures.callgraph c.args.model.now c.in-Ok-build.inlined c.nodes-nodes.ensures.valid c.in-Ok-build.ensures
