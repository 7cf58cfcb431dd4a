use Rattle.std.proofs.Common.{sym, ◌∙◌}
use Rattle.std.proofs.lemmas.Bool.{false≢true}
use Rattle.hex.specs.Hex.{encode_lower}
use Rattle.line_text.proofs.WordLemmas.{spelt_value, value_is_missed, no_value_missed}
use Rattle.line_text.proofs.HexadecimalLemmas.{AreSome, hexadecimal-IsPlain, encode-injective, front_of_lower, lower_of_front, lower_from_all, all_from_lower}
use Rattle.line_text.proofs.cursor.Cursor.hexadecimal.Goals as goal

pub returns-in-Ok : goal.returns-in-Ok
returns-in-Ok c = spelt_value AreSome encode_lower c.args.end c.args.self.now.rest.now c.word.new.self.rest.now c.in-Ok.digits.now c.hexadecimal_in.result (λ w fits. hexadecimal-IsPlain w fits.0) (λ v w fits_v fits_w is. encode-injective w v fits_w.0 fits_v.0 is) c.in-Ok.ensures.reads c.hexadecimal_in.ensures

pub returns-then-are_lower_digits : goal.returns-then-are_lower_digits
returns-then-are_lower_digits c =
    let text = c.args.self.now.rest.now in
    value_is_missed AreSome encode_lower c.args.end text c.word.new.self.rest.now c.in-Err.miss (λ w fits. hexadecimal-IsPlain w fits.0) c.in-Err.ensures.reads (front_of_lower text (lower_from_all text (c.are_lower_digits.ensures.0 c.if-are_lower_digits.true)))

pub returns-else-are_lower_digits : goal.returns-else-are_lower_digits
returns-else-are_lower_digits c =
    let text = c.args.self.now.rest.now in
    no_value_missed AreSome encode_lower c.args.end text c.word.new.self.rest.now c.in-Err.miss c.requires (λ w fits. hexadecimal-IsPlain w fits.0) c.in-Err.ensures.memory c.in-Err.ensures.reads (λ begins. false≢true (sym c.if-are_lower_digits.false ∙ c.are_lower_digits.ensures.1 (all_from_lower text (lower_of_front text begins))))
