use Rattle.std.proofs.Common.{◌≡◌, ◌++◌, take}
use Rattle.std.specs.Prelude.{flat_map}
use Rattle.c_tree.specs.View.{program_of}
use Rattle.site_lines.specs.SiteLines.{name_behind}
use Rattle.site_lines.proofs.site.push_names.Given as goal

abbrev pub invariant-loop-f : goal.invariant-loop-f
invariant-loop-f l = l.line.items ≡ l.fn.line.items ++ flat_map (name_behind (program_of l.program)) (take l.f-index l.functions)
