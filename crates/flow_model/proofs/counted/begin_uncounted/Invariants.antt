use Rattle.flow_model.proofs.counted.begin_uncounted.Given as goal

abbrev pub ghosts-begin_over : goal.ghosts-begin_over
ghosts-begin_over g a = record { name = a.blank.name; parts = a.blank.parts }
