use Rattle.std.proofs.Common.{◌≡◌, ◌≢◌, ◌≤◌, [], ◌∷◌, ◌++◌, length, ◌+◌, ap, subst, sym, ◌∙◌, arith, rules, length-append}
use Rattle.std.proofs.lemmas.List.Elements.{All-push}
use Rattle.certify_file.specs.declared.error.CertificateError.{CertificateError}
use Rattle.certify_file.specs.declared.line.CertificateLine.TheVariants.{Fact, End}
use Rattle.certify_file.specs.CertificateText.{IsRightLine, certificate_head, most, verdict_line, which_line}
use Rattle.certify_file.specs.Lines.{IsCertificateLine, IsLinesRefusal, certificate_line, refusal_of}
use Rattle.certify_file.proofs.FileLemmas.{line_stands, fact_more, one_too_many, bytes_after_end, fact_missed}
use Rattle.certify_file.proofs.reading.read_facts.Goals as goal

pub returns-then-len-eq-MOST : goal.returns-then-len-eq-MOST
returns-then-len-eq-MOST c =
    let l = c.in-Ok-Fact.fact in
    let stands = rw c.in-Ok-Fact.field-0-is at c.in-Ok-Fact.ensures in
    let full : length c.lines.facts.items ≡ most = search rules in
    one_too_many c.args.judge c.args.verdict c.lines.facts.items l c.args.text.now c.lines.rest.now c.first_line.result.1.now c.requires c.lines.invariant.right stands.fits full c.lines.invariant.is
    (line_stands (IsCertificateLine c.args.judge) certificate_line (Fact l) c.lines.rest.now c.first_line.result.0.now c.first_line.result.1.now c.first_line.ensures stands)

pub lines-preserved : goal.lines-preserved
lines-preserved c =
    let l = c.in-Ok-Fact.fact in
    let ls = c.lines.facts.items in
    let stands = rw c.in-Ok-Fact.field-0-is at c.in-Ok-Fact.ensures in
    let room : length ls ≢ most = search rules in
    let few : length ls ≤ most = c.lines.invariant.few in
    let longer : length (ls ++ l ∷ []) ≡ length ls + 1 = length-append ls (l ∷ []) in
    let first = line_stands (IsCertificateLine c.args.judge) certificate_line (Fact l) c.lines.rest.now c.first_line.result.0.now c.first_line.result.1.now c.first_line.ensures stands in
    rw c.in_ok-push-in-Ok-Fact.ensures.items (record {
      right = All-push (IsRightLine c.args.judge) ls l c.lines.invariant.right stands.fits;
      few = omega arith;
      is = fact_more ls l c.args.text.now c.lines.rest.now c.first_line.result.1.now c.lines.invariant.is first;
    })

pub returns-in-Ok-End : goal.returns-in-Ok-End
returns-in-Ok-End c =
    let stands = rw c.in-Ok-End.field-0-is at c.in-Ok-End.ensures in
    let first = line_stands (IsCertificateLine c.args.judge) certificate_line End c.lines.rest.now c.first_line.result.0.now c.first_line.result.1.now c.first_line.ensures stands in
    let some : c.first_line.result.1.now ≢ [] = λ none. (let len : length c.first_line.result.1.now ≡ 0 = ap length none in grind arith) in
    let count : c.len-in-Ok-End.result ≡ length c.lines.facts.items = search rules in
    bytes_after_end c.args.judge c.args.verdict c.lines.facts.items c.args.text.now c.lines.rest.now c.first_line.result.1.now c.len-in-Ok-End.result c.requires c.lines.invariant.right c.lines.invariant.few c.lines.invariant.is first some count

pub returns-in-Err : goal.returns-in-Err
returns-in-Err c =
    let count : c.len-in-Err.result + 3 ≡ length c.lines.facts.items + 3 = search rules in
    let refusal = c.refusal_after.ensures ∙ ap (refusal_of c.in-Err.miss) count in
    subst (λ (error : CertificateError). IsLinesRefusal error (certificate_head ++ (which_line c.args.judge ++ (verdict_line c.args.verdict ++ c.args.text.now)))) (sym refusal)
    (fact_missed c.args.judge c.args.verdict c.lines.facts.items c.args.text.now c.lines.rest.now c.first_line.result.0.now c.first_line.result.1.now c.in-Err.miss c.requires c.lines.invariant.right c.lines.invariant.few c.lines.invariant.is c.first_line.ensures c.in-Err.ensures)
