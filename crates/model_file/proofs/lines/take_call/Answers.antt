use Rattle.std.proofs.Common.{ℕ, subst}
use Rattle.std.specs.Prelude.{Option, Err}
use Rattle.line_text.specs.Reading.{Reads}
use Rattle.model_file.specs.Bounds.{IsNextCall}
use Rattle.model_file.specs.ModelText.{call_line}
use Rattle.line_text.proofs.Splits.{err_case}
use Rattle.model_file.proofs.Narrowing.{reads_err}
use Rattle.model_file.proofs.KindLemmas.{call_case}
use Rattle.model_file.proofs.lines.take_call.Goals as goal

pub returns-in_err-take_call_line : goal.returns-in_err-take_call_line
returns-in_err-take_call_line c =
    let rest = c.take_call_line.new.cursor.rest.now in
    reads_err _ _ _ _ _ c.from_residual.result c.from_residual.ensures.1 (err_case c.args.cursor.now.rest.now rest rest (call_case c.args.version c.args.section.now c.args.cursor.now.rest.now c.requires) _ (subst (λ (last : Option ℕ). Reads (IsNextCall last) call_line c.args.cursor.now.rest.now rest (Err c.in_err-take_call_line.field-0.0)) c.last_site-last.ensures c.in_err-take_call_line.ensures))
