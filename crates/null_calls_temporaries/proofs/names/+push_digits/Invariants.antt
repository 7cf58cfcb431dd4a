use Rattle.null_calls_temporaries.proofs.names.+push_digits.Given as goal

abbrev pub decreases-push_digits : goal.decreases-push_digits
decreases-push_digits l = l.most
