use Rattle.std.proofs.lemmas.Bool.{false≢true}
use Rattle.model_file.proofs.CandidateLemmas.{no_space_missed}
use Rattle.model_file.proofs.words.has_space.Goals as goal

pub returns-in-Err : goal.returns-in-Err
returns-in-Err c = (λ is. absurd (false≢true is), λ space. absurd (no_space_missed c.args.text.now c.word.new.self.rest.now c.in-Err.field-0 c.in-Err.ensures.memory c.in-Err.ensures.reads space))
