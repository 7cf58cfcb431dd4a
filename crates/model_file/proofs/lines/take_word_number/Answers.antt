use Rattle.std.proofs.Common.{refl, arith}
use Rattle.model_file.proofs.Narrowing.{reads_same, leads_start, leads_on, leads_miss, leads_all, reads_err}
use Rattle.model_file.proofs.LineLemmas.{in_line_word, word_of_number}
use Rattle.model_file.proofs.lines.take_word_number.Goals as goal

pub take-requires : goal.take-requires
take-requires c = in_line_word c.args.word.now c.requires

pub returns-in_err-take : goal.returns-in_err-take
returns-in_err-take c =
    reads_err _ _ _ _ _ c.from_residual.result c.from_residual.ensures.1 (leads_miss c.args.cursor.now.rest.now c.args.cursor.now.rest.now c.take.new.self.rest.now (leads_start c.args.cursor.now.rest.now) (word_of_number c.args.word.now c.requires) c.in_err-take.field-0.0 c.in_err-take.ensures.reads)

pub returns : goal.returns
returns c =
    let named = leads_on c.args.cursor.now.rest.now c.args.cursor.now.rest.now c.take.new.self.rest.now (leads_start c.args.cursor.now.rest.now) (word_of_number c.args.word.now c.requires) tt c.in_ok-take.ensures.reads in
    leads_all c.args.cursor.now.rest.now c.take.new.self.rest.now c.take_number.new.cursor.rest.now named c.take_number.result
    (reads_same c.take.new.self.rest.now c.take_number.new.cursor.rest.now c.take_number.result (λ n fits. (fits.1, refl)) (λ n fits. (omega arith, fits.0)) (λ n fits. refl) c.take_number.ensures)
