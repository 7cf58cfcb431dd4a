use Rattle.line_text.proofs.Splits.{err_case}
use Rattle.trace_file.proofs.Parts.{reads_err}
use Rattle.trace_file.proofs.ArgumentLemmas.{signed_case, unsigned_case, bytes_case}
use Rattle.trace_file.proofs.call.take_argument.Goals as goal

pub returns-in_err-take_signed-in-Signed : goal.returns-in_err-take_signed-in-Signed
returns-in_err-take_signed-in-Signed c =
    let rest = c.take_signed.new.cursor.rest.now in
    rw c.in-Signed.is (reads_err _ _ _ _ _ c.from_residual.result c.from_residual.ensures.1 (err_case _ rest rest (signed_case c.args.cursor.now.rest.now) _ c.in_err-take_signed-in-Signed.ensures))

pub returns-in_err-take_unsigned-in-Unsigned : goal.returns-in_err-take_unsigned-in-Unsigned
returns-in_err-take_unsigned-in-Unsigned c =
    let rest = c.take_unsigned.new.cursor.rest.now in
    rw c.in-Unsigned.is (reads_err _ _ _ _ _ c.from_residual-in_err-take_unsigned-in-Unsigned.result c.from_residual-in_err-take_unsigned-in-Unsigned.ensures.1 (err_case _ rest rest (unsigned_case c.args.cursor.now.rest.now) _ c.in_err-take_unsigned-in-Unsigned.ensures))

pub returns-in_err-bytes-in-Bytes : goal.returns-in_err-bytes-in-Bytes
returns-in_err-bytes-in-Bytes c =
    let rest = c.bytes.new.self.rest.now in
    rw c.in-Bytes.is (reads_err _ _ _ _ _ c.from_residual-in_err-bytes-in-Bytes.result c.from_residual-in_err-bytes-in-Bytes.ensures.1 (err_case _ rest rest (bytes_case c.args.cursor.now.rest.now) _ c.in_err-bytes-in-Bytes.ensures))
