use Rattle.std.proofs.Common.{refl, arith}
use Rattle.std.specs.Prelude.{Ok, Err}
use Rattle.model_file.proofs.Narrowing.{reads_same, reads_err}
use Rattle.model_file.proofs.words.take_number.Goals as goal

pub returns-in_err-number : goal.returns-in_err-number
returns-in_err-number c =
    reads_err _ _ _ _ _ c.from_residual.result c.from_residual.ensures.1 (reads_same c.args.cursor.now.rest.now c.number.new.self.rest.now (Err c.in_err-number.field-0.0) (λ n fits. (fits.0, omega (arith, fits.1))) (λ n fits. (fits.0, omega (arith, fits.1))) (λ n fits. refl) c.in_err-number.ensures.reads)

pub returns : goal.returns
returns c = reads_same c.args.cursor.now.rest.now c.number.new.self.rest.now (Ok c.in_ok-number.number) (λ n fits. (fits.0, omega (arith, fits.1))) (λ n fits. (fits.0, omega (arith, fits.1))) (λ n fits. refl) c.in_ok-number.ensures.reads
