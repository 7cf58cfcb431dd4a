use Rattle.inline_model.proofs.InliningLemmas.{all_records}
use Rattle.inline_model.proofs.building.records_of.Goals as goal

pub returns : goal.returns
returns c =
    all_records c.in_ok-builder.builder c.function.new.self c.add_silent.new.builder c.add_sys.new.builder c.args.one c.args.silent.now c.args.sys.now
    c.in_ok-builder.ensures c.in_ok-function.ensures.ok c.in_ok-add_silent.ensures c.in_ok-add_sys.ensures
