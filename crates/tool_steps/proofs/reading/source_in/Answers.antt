use Rattle.std.proofs.Common.{ℕ, List, subst}
use Rattle.dm_io.specs.Store.{IsMissing, ReadsWhole}
use Rattle.tool_steps.specs.Sources.{IsSourceOf, IsSourceCause, HasNoProgram}
use Rattle.tool_steps.proofs.SourceFiles.{source_of_file, stops_source}
use Rattle.tool_steps.proofs.reading.source_in.Goals as goal

pub returns-in-Ok-clause-read : goal.returns-in-Ok-clause-read
returns-in-Ok-clause-read g c =
    let told = g.S.Store.files c.args.store.now in
    let text = c.in_ok-text.text.items in
    source_of_file told c.args.name.now text c.args.mode c.in-Ok.source
    (subst (λ (n : ℕ). ReadsWhole told c.args.name.now n text) c.most_read.ensures c.in_ok-text.ensures.whole)
    (subst (λ (w : List ℕ). IsSourceOf w c.args.mode c.in-Ok.source) c.deref.ensures.value c.in-Ok.ensures.read)

pub returns-in-Ok-clause-some : goal.returns-in-Ok-clause-some
returns-in-Ok-clause-some g c = (c.in_ok-text.text.items, subst (λ (w : List ℕ). IsSourceOf w c.args.mode c.in-Ok.source) c.deref.ensures.value c.in-Ok.ensures.read)

pub returns-clause-stop : goal.returns-clause-stop
returns-clause-stop g c =
    let told = g.S.Store.files c.args.store.now in
    let text = c.in_ok-text.text.items in
    stops_source told c.args.name.now text c.args.mode c.in-Err.error c.refused_with.result (IsMissing told c.args.name.now) _ _
    (subst (λ (n : ℕ). ReadsWhole told c.args.name.now n text) c.most_read.ensures c.in_ok-text.ensures.whole)
    (subst (λ (w : List ℕ). IsSourceCause c.in-Err.error w c.args.mode) c.deref.ensures.value c.in-Err.ensures.cause)
    (subst (λ (w : List ℕ). HasNoProgram c.in-Err.error w c.args.mode) c.deref.ensures.value c.in-Err.ensures.none)
    c.refused_with.ensures
