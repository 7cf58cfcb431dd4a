use Rattle.std.proofs.Common.{ℕ, List, refl, subst}
use Rattle.dm_base.specs.declared.mode.Mode.TheVariants.{Plain}
use Rattle.dm_io.specs.Store.{IsMissing, ReadsWhole}
use Rattle.c_syntax.specs.UnitView.{items_of}
use Rattle.c_tree.specs.View.{program_of}
use Rattle.tool_steps.specs.Sources.{IsSourceOf, IsSourceCause, HasNoProgram}
use Rattle.tool_steps.proofs.SourceFiles.{stops_source}
use Rattle.tool_texts.proofs.SitesFiles.{tells_sites}
use Rattle.tool_texts.proofs.sites_command.sites_of_source.Goals as goal

pub sites_text-requires : goal.sites_text-requires
sites_text-requires g c = (c.call_expressions_are_sites.ensures (items_of c.in-Ok.source.unit.items.items) Plain (program_of c.in-Ok.source.program) c.in-Ok.ensures.read.typed).count

pub returns-in-Ok-clause-made : goal.returns-in-Ok-clause-made
returns-in-Ok-clause-made g c =
    let told = g.S.Store.files c.args.store.now in
    let read = c.in_ok-read.read.items in
    let source = c.in-Ok.source in (
      refl,
      tells_sites told c.args.name.now read c.as_bytes.result.now c.deref-in-Ok.result.now c.in_ok-text-in-Ok.text.items source
          (subst (λ (n : ℕ). ReadsWhole told c.args.name.now n read) c.most_read.ensures c.in_ok-read.ensures.whole)
          (subst (λ (w : List ℕ). IsSourceOf w Plain source) c.deref.ensures.value c.in-Ok.ensures.read)
          (c.call_expressions_are_sites.ensures (items_of source.unit.items.items) Plain (program_of source.program) c.in-Ok.ensures.read.typed)
          c.as_bytes.ensures.value c.deref-in-Ok.ensures.value c.in_ok-text-in-Ok.ensures,
    )

pub returns-clause-stop : goal.returns-clause-stop
returns-clause-stop g c =
    let told = g.S.Store.files c.args.store.now in
    let read = c.in_ok-read.read.items in
    stops_source told c.args.name.now read Plain c.in-Err.error c.refused_with.result (IsMissing told c.args.name.now) _ _
    (subst (λ (n : ℕ). ReadsWhole told c.args.name.now n read) c.most_read.ensures c.in_ok-read.ensures.whole)
    (subst (λ (w : List ℕ). IsSourceCause c.in-Err.error w Plain) c.deref.ensures.value c.in-Err.ensures.cause)
    (subst (λ (w : List ℕ). HasNoProgram c.in-Err.error w Plain) c.deref.ensures.value c.in-Err.ensures.none)
    c.refused_with.ensures
