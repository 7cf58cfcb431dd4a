use Rattle.c_syntax_printing.proofs.GroupForms.{labels_fail, group_fails, stmt_fails, rest_fails, ended_fails, going_fails}
use Rattle.c_syntax_printing.proofs.refusals.a_switch_fails_where_a_group_fails.Goals as goal

pub returns : goal.returns
returns g = record {
  labels = λ b i r h f. labels_fail b h f;
  group = λ b c i j r h l f. group_fails b c h l f;
  statement = λ b i r f. stmt_fails b f;
  later = λ b c i j r s f. rest_fails b c s f;
  ended = λ b i r l f. ended_fails b l f;
  going = λ b i r l f. going_fails b l f;
}
