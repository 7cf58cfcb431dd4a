use Rattle.c_tree.specs.View.{program_of}
use Rattle.site_lines.proofs.LineLemmas.{many_found, lines_of_unit}
use Rattle.site_lines.proofs.lines.sites_text.Goals as goal

pub lines_of-requires-clause-sites : goal.lines_of-requires-clause-sites
lines_of-requires-clause-sites c =
    many_found c.in_ok-places.places.items c.deref-2.result.now c.deref.result.now c.args.unit.now.items.items (program_of c.args.program.now) c.deref-2.ensures.value c.deref.ensures.value c.in_ok-places.ensures c.requires

pub returns : goal.returns
returns c =
    lines_of_unit c.lines_of.result c.args.file.now c.args.text.now (program_of c.args.program.now) c.in_ok-places.places.items c.deref-2.result.now c.deref.result.now c.args.unit.now.items.items c.deref-2.ensures.value c.deref.ensures.value
    c.in_ok-places.ensures c.lines_of.ensures
