use Rattle.std.proofs.Common.{ℕ, ◌+◌, List, take, refl, ◌∙◌, ap, subst}
use Rattle.c_lexer.specs.TokenSpelling.{longest_text}
use Rattle.dm_base.specs.declared.mode.Mode.TheVariants.{Plain}
use Rattle.dm_io.specs.Store.{IsMissing, ReadsWhole}
use Rattle.tool_texts.specs.Stopping.{IsStopOfExplained}
use Rattle.tool_texts.proofs.ExplainLemmas.{reads_checked, stops_explained}
use Rattle.tool_texts.proofs.SourceFiles.{source_of_file}
use Rattle.tool_texts.proofs.TextFiles.{checks}
use Rattle.tool_texts.proofs.explain_command.explain_source.Goals as goal

pub returns-in-Ok-clause-made : goal.returns-in-Ok-clause-made
returns-in-Ok-clause-made g c =
    let told = g.S.Store.files c.args.store.now in
    let text = c.in_ok-text.text.items in (
      refl,
      checks told c.args.name.now c.in_ok-line-in-Ok.line.items c.in-Ok.source
          (source_of_file told c.args.name.now c.checked_part.result.now Plain c.in-Ok.source
          (reads_checked told c.args.name.now text c.checked_part.result.now (subst (λ (n : ℕ). ReadsWhole told c.args.name.now n text) c.most_read.ensures c.in_ok-text.ensures.whole)
          (c.checked_part.ensures ∙ ap (take (longest_text Plain + 1)) c.deref.ensures.value)) c.in-Ok.ensures.read) c.in_ok-line-in-Ok.ensures,
    )

pub returns-clause-stop : goal.returns-clause-stop
returns-clause-stop g c =
    let told = g.S.Store.files c.args.store.now in
    let text = c.in_ok-text.text.items in
    stops_explained told c.args.name.now text c.checked_part.result.now c.in-Err.error c.explained_with.result (IsMissing told c.args.name.now) _ _
    (subst (λ (n : ℕ). ReadsWhole told c.args.name.now n text) c.most_read.ensures c.in_ok-text.ensures.whole)
    (c.checked_part.ensures ∙ ap (take (longest_text Plain + 1)) c.deref.ensures.value) c.in-Err.ensures.cause c.in-Err.ensures.none
    (subst (λ (w : List ℕ). IsStopOfExplained c.explained_with.result c.args.name.now w c.in-Err.error) c.deref-in-Err.ensures.value
    (subst (λ (n : List ℕ). IsStopOfExplained c.explained_with.result n c.deref-in-Err.result.now c.in-Err.error) c.as_bytes.ensures.value c.explained_with.ensures))
