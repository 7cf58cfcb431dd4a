use Rattle.model_file.proofs.SingleLemmas.{word_read}
use Rattle.model_file.proofs.single.read_word_line.Goals as goal

pub returns : goal.returns
returns c = word_read c.args.word.now c.args.line.now c.take.new.self.rest.now c.take.result c.requires.ended c.requires.line c.take.ensures.reads
