use Rattle.std.proofs.Common.{rules, sym, ◌∙◌, subst}
use Rattle.std.proofs.lemmas.List.{length-map}
use Rattle.c_rules.specs.Scopes.{layout_of, types_of_struct}
use Rattle.c_check_values.specs.View.{env_of}
use Rattle.c_check_units.proofs.StructLemmas.{HaveCells, cells_none, cells_more, cells_all}
use Rattle.c_check_units.proofs.structs.cells_of_structs.Goals as goal

pub loop-s-init : goal.loop-s-init
loop-s-init c = subst (HaveCells (layout_of (env_of c.args.env.now)) 0) (sym c.new-counts.ensures.items) (cells_none (layout_of (env_of c.args.env.now)))

pub loop-s-preserved : goal.loop-s-preserved
loop-s-preserved c =
    cells_more (layout_of (env_of c.args.env.now)) c.loop-s.s c.struct_cells-cells.result c.loop-s.counts.items c.push.new.self.items c.loop-s.invariant c.struct_cells-cells.ensures (search rules)

pub returns : goal.returns
returns c size =
    cells_all (layout_of (env_of c.args.env.now)) c.len-count.result c.loop-s.s c.loop-s.counts.items c.loop-s-test.false c.loop-s.invariant (length-map (env_of c.args.env.now).structs types_of_struct ∙ (size ∙ sym c.len-count.ensures.is))
