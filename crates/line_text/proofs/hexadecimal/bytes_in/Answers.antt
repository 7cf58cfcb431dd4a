use Rattle.std.proofs.Common.{sym, ◌∙◌}
use Rattle.std.specs.Cmp.Lexicographic.{other_text}
use Rattle.line_text.proofs.HexadecimalLemmas.{bytes-spelt}
use Rattle.line_text.proofs.hexadecimal.bytes_in.Goals as goal

pub returns : goal.returns
returns c = bytes-spelt c.args.word.now c.hexadecimal_in.result (λ is. other_text c.args.word.now c.as_slice.result.now c.if-eq.ensures (is ∙ sym c.as_slice.ensures)) c.hexadecimal_in.ensures
