use Rattle.std.proofs.Common.{◌≡◌, ◌≤◌, Some, true, false, bytes_eq, string_bytes, length, sym, ◌∙◌, ap, arith}
use Rattle.std.proofs.lemmas.List.{drop_all}
use Rattle.dm_io.proofs.Found.{first_named, first_named-drop, get-files_of}
use Rattle.dm_io.proofs.memory_store.find.Goals as goal

pub returns-then-eq-clause-some : goal.returns-then-eq-clause-some
returns-then-eq-clause-some c =
    let tested : bytes_eq c.args.name.now (string_bytes c.loop-key-item.result.0) ≡ true = ap (bytes_eq c.args.name.now) (sym c.as_str.ensures.value) ∙ sym c.if-eq.ensures in
    get-files_of c.args.name.now c.args.entries.now
    ∙ sym c.loop-key.invariant
    ∙ first_named-drop c.args.name.now c.args.entries.now c.loop-key.key-index c.loop-key-item.result true c.loop-key-test.true c.loop-key-item.is tested
    ∙ ap Some (sym c.deref.ensures.value)

pub loop-key-preserved : goal.loop-key-preserved
loop-key-preserved c =
    let tested : bytes_eq c.args.name.now (string_bytes c.loop-key-item.result.0) ≡ false = ap (bytes_eq c.args.name.now) (sym c.as_str.ensures.value) ∙ sym c.if-eq.ensures in
    sym (first_named-drop c.args.name.now c.args.entries.now c.loop-key.key-index c.loop-key-item.result false c.loop-key-test.true c.loop-key-item.is tested)
    ∙ c.loop-key.invariant

pub returns-clause-none : goal.returns-clause-none
returns-clause-none c =
    let over : length c.args.entries.now ≤ c.loop-key.key-index = omega arith in
    get-files_of c.args.name.now c.args.entries.now
    ∙ sym c.loop-key.invariant
    ∙ ap (first_named c.args.name.now) (drop_all c.loop-key.key-index c.args.entries.now over)
