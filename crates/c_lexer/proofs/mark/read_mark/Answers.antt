use Rattle.std.proofs.Common.{ℕ, List, ◌≡◌, Some, slice_get}
use Rattle.c_lexer.specs.Words.{punctuators}
use Rattle.c_lexer.specs.Parts.{IsLongestFront}
use Rattle.c_lexer.proofs.WordTables.{punctuator_number_below}
use Rattle.c_lexer.proofs.MarkTokens.{mark_token, mark_misfit}
use Rattle.c_lexer.proofs.mark.read_mark.Goals as goal

pub returns : goal.returns
returns c =
    let found : (w : List ℕ) × (slice_get punctuators c.in-Some.number ≡ Some w) × IsLongestFront punctuators w c.args.text.now = c.in-Some.ensures in
    mark_token c.args.text.now found.0 c.punctuator_text.result.now c.in-Some.number c.requires.clear c.requires.begins found.1 found.2 c.punctuator_text.ensures

pub returns-in_default : goal.returns-in_default
returns-in_default c = mark_misfit c.args.text.now c.requires.clear c.requires.begins c.in_default.ensures

pub punctuator_text-requires : goal.punctuator_text-requires
punctuator_text-requires c =
    let found : (w : List ℕ) × (slice_get punctuators c.in-Some.number ≡ Some w) × IsLongestFront punctuators w c.args.text.now = c.in-Some.ensures in
    punctuator_number_below c.in-Some.number found.0 found.1
