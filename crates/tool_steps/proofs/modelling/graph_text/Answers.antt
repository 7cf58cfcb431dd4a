use Rattle.c_tree.specs.View.{program_of}
use Rattle.tool_steps.proofs.ModelLemmas.{model_made, stops_building, stops_writing}
use Rattle.tool_steps.proofs.modelling.graph_text.Goals as goal

pub returns-in-Err-clause-stop : goal.returns-in-Err-clause-stop
returns-in-Err-clause-stop c = stops_building c.in-Err.stop (program_of c.args.program.now) c.in-Err.ensures.stop

pub returns-in-Ok-text_of-clause-made : goal.returns-in-Ok-text_of-clause-made
returns-in-Ok-text_of-clause-made c =
    model_made (program_of c.args.program.now) c.in-Ok.model c.in-Ok-text_of.text.items c.in-Ok.ensures.model c.in-Ok.ensures.few c.in-Ok-text_of.ensures.text c.in-Ok.ensures.languages

pub returns-clause-stop : goal.returns-clause-stop
returns-clause-stop c =
    stops_writing c.in-Err-text_of.stop (program_of c.args.program.now) c.in-Ok.model c.in-Ok.ensures.model c.in-Ok.ensures.few c.in-Err-text_of.ensures.stop
