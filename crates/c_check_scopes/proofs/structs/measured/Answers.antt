use Rattle.std.proofs.Common.{slice_get, ap, ◌∙◌}
use Rattle.c_tree.specs.Layout.{rounded, extent_after}
use Rattle.c_check_scopes.specs.Measured.{counted_all, cells_kept, extent_kept, no_extent}
use Rattle.c_check_scopes.specs.Shown.{members_types}
use Rattle.c_check_scopes.proofs.structs.measured.Goals as goal

pub returns-clause-measured : goal.returns-clause-measured
returns-clause-measured c = record {
  cells = c.few_cells-cells.ensures ∙ ap (λ ms. counted_all (λ s. cells_kept (slice_get c.args.structs.now s)) (members_types ms)) c.deref.ensures.value;
  extent = c.extent_of_members-extent.ensures ∙ ap (λ ms. rounded (extent_after (λ s. extent_kept (slice_get c.args.structs.now s)) no_extent (members_types ms))) c.deref-2.ensures.value;
}
