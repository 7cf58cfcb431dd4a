use Rattle.line_text.proofs.decimal.+is_front_in.Given as goal

abbrev pub decreases-is_front_in : goal.decreases-is_front_in
decreases-is_front_in l = l.most
