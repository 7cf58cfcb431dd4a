use Rattle.std.proofs.Common.{refl}
use Rattle.std.proofs.lemmas.List.{take_rest}
use Rattle.c_lexer.proofs.lexer.take_token.Goals as goal
use Rattle.c_lexer.proofs.lexer.take_token.Goals.{in-Ok-push, in-Err}
use Rattle.c_lexer.proofs.KindsLemmas.{kind_of_spelled}
use Rattle.c_lexer.proofs.LexerLemmas.{takes_token, token_long}

pub invariant_of-token : goal.invariant_of-token
invariant_of-token c = record { given = kind_of_spelled c.in-Ok.found.kind _ c.in-Ok.ensures.1.spells }

pub returns-clause-taken : goal.returns-clause-taken
returns-clause-taken c =
    let found = rw take_rest at c.in-Ok.ensures in
    elim c.match-push.branch [
      | in-Ok-push w ↦ rw (w.result-is, w.in-Ok-push.ensures.items) (takes_token c.args.text.now c.args.at c.in-Ok.found.length c.args.tokens.now.items _ c.requires.within (token_long c.in-Ok.found.kind _ c.in-Ok.found.length found.1) found.0 found.1 refl refl)
      | in-Err w ↦ rw w.result-is tt
    ]
