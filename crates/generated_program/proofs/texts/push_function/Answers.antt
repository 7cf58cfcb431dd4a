use Rattle.std.proofs.Common.{codes, decimal}
use Rattle.std.proofs.lemmas.Result.{on_ok_weaker}
use Rattle.generated_program.proofs.TextLemmas.{pieces_joined}
use Rattle.generated_program.proofs.texts.push_function.Goals as goal

pub returns : goal.returns
returns c =
    on_ok_weaker c.push_bytes-5.result
    (pieces_joined c.args.text.now.items (codes "int f") (decimal c.args.i) (codes " ( void ) {\nf") (decimal c.args.callee) (codes " ( ) ;\n") c.args.call.now (codes " ( ) ;\nreturn 0 ;\n}\n")
    c.push_bytes.new.text.items c.push_decimal.new.text.items c.push_bytes-2.new.text.items c.push_decimal-2.new.text.items c.push_bytes-3.new.text.items c.push_bytes-4.new.text.items c.push_bytes-5.new.text.items
    c.in_ok-push_bytes.ensures c.in_ok-push_decimal.ensures c.in_ok-push_bytes-2.ensures c.in_ok-push_decimal-2.ensures c.in_ok-push_bytes-3.ensures c.in_ok-push_bytes-4.ensures)
    c.push_bytes-5.ensures
