use Rattle.std.proofs.Common.{sym, ◌∙◌}
use Rattle.std.proofs.lemmas.Bool.{false≢true}
use Rattle.hex.specs.Hex.{IsBytes}
use Rattle.line_text.specs.Words.{bytes_text}
use Rattle.line_text.proofs.WordLemmas.{spelt_value, value_is_missed, no_value_missed}
use Rattle.line_text.proofs.HexadecimalLemmas.{bytes-IsPlain, bytes-injective}
use Rattle.line_text.proofs.cursor.Cursor.bytes.Goals as goal

pub returns-in-Ok : goal.returns-in-Ok
returns-in-Ok c = spelt_value IsBytes bytes_text c.args.end c.args.self.now.rest.now c.word.new.self.rest.now c.in-Ok.word.now c.bytes_in.result bytes-IsPlain (λ v w fits_v fits_w is. bytes-injective w v fits_w fits_v is) c.in-Ok.ensures.reads c.bytes_in.ensures

pub returns-then-begins_bytes : goal.returns-then-begins_bytes
returns-then-begins_bytes c =
    value_is_missed IsBytes bytes_text c.args.end c.args.self.now.rest.now c.word.new.self.rest.now c.in-Err.miss bytes-IsPlain c.in-Err.ensures.reads (c.begins_bytes.ensures.0 c.if-begins_bytes.true)

pub returns-else-begins_bytes : goal.returns-else-begins_bytes
returns-else-begins_bytes c =
    no_value_missed IsBytes bytes_text c.args.end c.args.self.now.rest.now c.word.new.self.rest.now c.in-Err.miss c.requires bytes-IsPlain c.in-Err.ensures.memory c.in-Err.ensures.reads (λ begins. false≢true (sym c.if-begins_bytes.false ∙ c.begins_bytes.ensures.1 begins))
