use Rattle.std.proofs.Common.{◌≡◌, true, false, refl}
use Rattle.std.proofs.lemmas.List.{take_rest}
use Rattle.c_lexer.proofs.white.marker_length.Goals as goal
use Rattle.c_lexer.proofs.WhiteReads.{line_of_run}
use Rattle.c_lexer.proofs.WhiteAnswers.{marker_reads, no_marker_reads}

pub returns-then-not-ends_in_margin : goal.returns-then-not-ends_in_margin
returns-then-not-ends_in_margin c = no_marker_reads _ _ c.requires.0 c.requires.1 (λ margin begins. let never : false ≡ true = c.if-not-ends_in_margin.ensures.1 margin in cc)

pub returns-in-Some : goal.returns-in-Some
returns-in-Some c = marker_reads c.args.front.now c.args.text.now c.in-Some.head c.run_length.result (c.if-not-ends_in_margin.ensures.0 refl) c.in-Some.ensures.0 c.in-Some.ensures.1 (line_of_run _ _ (rw take_rest at c.run_length.ensures))

pub returns-in-None : goal.returns-in-None
returns-in-None c = no_marker_reads _ _ c.requires.0 c.requires.1 (λ margin begins. c.in-None.ensures begins)
