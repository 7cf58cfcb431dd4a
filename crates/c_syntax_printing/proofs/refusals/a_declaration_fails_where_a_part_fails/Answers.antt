use Rattle.c_syntax_printing.proofs.DeclForms.{spec_fails, parts_fail, declarator_fails, tail_fails, init_fails, end_fails, no_init_fails}
use Rattle.c_syntax_printing.proofs.refusals.a_declaration_fails_where_a_part_fails.Goals as goal

pub returns : goal.returns
returns g = record {
  specifiers = λ b i r f. spec_fails b f;
  declarators = λ b i j r s f. parts_fail b s f;
  declarator = λ b i r f. declarator_fails b f;
  tail = λ b c i j r e f. tail_fails b c e f;
  initialiser = λ b t i r h f. init_fails b h f;
  after_initialiser = λ b c t i j r h v f. end_fails b c h v f;
  without_initialiser = λ b i r h f. no_init_fails b h f;
}
