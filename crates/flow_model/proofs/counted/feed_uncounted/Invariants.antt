use Rattle.flow_model.proofs.counted.feed_uncounted.Given as goal

abbrev pub ghosts-feed_over : goal.ghosts-feed_over
ghosts-feed_over g a = record { name = a.blank.name; parts = a.blank.parts }
