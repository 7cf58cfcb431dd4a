use Rattle.std.proofs.Common.{length}
use Rattle.model_file.proofs.pattern_words.+take_entries.Given as goal

abbrev pub decreases-take_entries : goal.decreases-take_entries
decreases-take_entries l = length l.kinds.now
