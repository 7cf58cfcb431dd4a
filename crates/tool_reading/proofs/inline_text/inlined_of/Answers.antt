use Rattle.tool_reading.proofs.inline_text.inlined_of.Goals as goal

pub returns-in-Ok-clause-has : goal.returns-in-Ok-clause-has
returns-in-Ok-clause-has c = record { bounded = c.in-Ok.ensures.bounded; inlined = c.in-Ok.ensures.made; few = c.in-Ok.ensures.few }

pub returns-in-Err-clause-stop : goal.returns-in-Err-clause-stop
returns-in-Err-clause-stop c = c.refusal_of.ensures c.args.model.now c.in-Err.ensures.cause
