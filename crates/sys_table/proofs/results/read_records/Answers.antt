use Rattle.std.proofs.Common.{◌≡◌, ◌≢◌, ◌≤◌, [], ◌∷◌, ◌++◌, length, ◌+◌, ap, subst, sym, ◌∙◌, arith, rules, length-append}
use Rattle.std.proofs.lemmas.List.Elements.{All-push}
use Rattle.sys_table.specs.declared.results_error.ResultsError.{ResultsError}
use Rattle.sys_table.specs.declared.results_line.ResultsLine.TheVariants.{Record, End}
use Rattle.sys_table.specs.ResultsLines.{IsLinesRefusal, refusal_of}
use Rattle.sys_table.specs.ResultsText.{IsRightResult, most, results_head}
use Rattle.sys_table.proofs.ResultsLemmas.{line_stands, record_more, one_too_many, end_refused, line_refused}
use Rattle.sys_table.proofs.results.read_records.Goals as goal

pub returns-then-len-eq-MOST : goal.returns-then-len-eq-MOST
returns-then-len-eq-MOST c =
    let r = c.in-Ok-Record.record in
    let stands = rw c.in-Ok-Record.field-0-is at c.in-Ok-Record.ensures in
    let full : length c.lines.records.items ≡ most = search rules in
    one_too_many c.lines.records.items r c.args.text.now c.lines.rest.now c.first_line.result.1.now c.lines.invariant.right stands.fits full c.lines.invariant.is
    (line_stands (Record r) c.lines.rest.now c.first_line.result.0.now c.first_line.result.1.now c.first_line.ensures stands)

pub lines-preserved : goal.lines-preserved
lines-preserved c =
    let r = c.in-Ok-Record.record in
    let rs = c.lines.records.items in
    let stands = rw c.in-Ok-Record.field-0-is at c.in-Ok-Record.ensures in
    let room : length rs ≢ most = search rules in
    let few : length rs ≤ most = c.lines.invariant.few in
    let longer : length (rs ++ r ∷ []) ≡ length rs + 1 = length-append rs (r ∷ []) in
    let first = line_stands (Record r) c.lines.rest.now c.first_line.result.0.now c.first_line.result.1.now c.first_line.ensures stands in
    rw c.in_ok-push-in-Ok-Record.ensures.items (record {
      right = All-push IsRightResult rs r c.lines.invariant.right stands.fits;
      few = omega arith;
      is = record_more rs r c.args.text.now c.lines.rest.now c.first_line.result.1.now c.lines.invariant.is first;
    })

pub returns-in-Ok-End : goal.returns-in-Ok-End
returns-in-Ok-End c =
    let stands = rw c.in-Ok-End.field-0-is at c.in-Ok-End.ensures in
    let first = line_stands End c.lines.rest.now c.first_line.result.0.now c.first_line.result.1.now c.first_line.ensures stands in
    let some : c.first_line.result.1.now ≢ [] = λ none. (let len : length c.first_line.result.1.now ≡ 0 = ap length none in grind arith) in
    let count : c.len-in-Ok-End.result ≡ length c.lines.records.items = search rules in
    end_refused c.lines.records.items c.args.text.now c.lines.rest.now c.first_line.result.1.now c.len-in-Ok-End.result c.lines.invariant.right c.lines.invariant.few c.lines.invariant.is first some count

pub returns-in-Err : goal.returns-in-Err
returns-in-Err c =
    let count : c.len-in-Err.result ≡ length c.lines.records.items = search rules in
    let refusal = c.refusal_of_line.ensures ∙ ap (refusal_of c.in-Err.miss) count in
    subst (λ (error : ResultsError). IsLinesRefusal error (results_head ++ c.args.text.now)) (sym refusal)
    (line_refused c.in-Err.miss c.lines.records.items c.args.text.now c.lines.rest.now c.first_line.result.0.now c.first_line.result.1.now c.lines.invariant.right c.lines.invariant.few c.lines.invariant.is c.first_line.ensures c.in-Err.ensures)
