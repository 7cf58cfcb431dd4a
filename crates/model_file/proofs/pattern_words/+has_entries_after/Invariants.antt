use Rattle.std.proofs.Common.{length}
use Rattle.model_file.proofs.pattern_words.+has_entries_after.Given as goal

abbrev pub decreases-has_entries_after : goal.decreases-has_entries_after
decreases-has_entries_after l = length l.kinds.now
