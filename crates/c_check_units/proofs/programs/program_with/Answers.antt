use Rattle.std.proofs.Common.{◌++◌, map, ap, sym, subst, ◌∙◌}
use Rattle.c_rules.specs.Scopes.{layout_of}
use Rattle.c_rules.specs.Units.{static_string}
use Rattle.c_check_values.specs.View.{before_of, env_of}
use Rattle.c_tree.specs.Program.{IsProgram}
use Rattle.c_tree.specs.View.{program_of, static_of}
use Rattle.c_check_units.specs.Made.{output_of, program_made}
use Rattle.c_check_units.proofs.ProgramLemmas.{counts_right, program_right, program_same}
use Rattle.c_check_units.proofs.programs.program_with.Goals as goal

pub of-requires-clause-typed : goal.of-requires-clause-typed
of-requires-clause-typed c =
    program_right c.in_ok-structs.structs.items c.args.defined.items c.args.number c.in_ok-statics.statics.items (layout_of (env_of c.args.env.now)) (map static_of c.args.objects.items ++ map static_string (before_of c.args.before.now).strings)
    (c.in_ok-structs.ensures c.requires.counted) (c.in_ok-statics.ensures ∙ ap (λ ws. map static_of c.args.objects.items ++ map static_string ws) c.strings.ensures.are) c.in-Some.sites
    (subst (λ n. IsProgram (program_made (env_of c.args.env.now) (before_of c.args.before.now) (output_of c.args.defined.items c.args.objects.items) c.args.number) n) (sym (c.in-Some.ensures.some ∙ c.sites.ensures)) c.requires.typed)

pub of-requires-clause-counts : goal.of-requires-clause-counts
of-requires-clause-counts c =
    counts_right c.in_ok-structs.structs.items c.args.defined.items c.args.number c.in_ok-statics.statics.items (layout_of (env_of c.args.env.now)) (map static_of c.args.objects.items ++ map static_string (before_of c.args.before.now).strings)
    (c.in_ok-structs.ensures c.requires.counted) (c.in_ok-statics.ensures ∙ ap (λ ws. map static_of c.args.objects.items ++ map static_string ws) c.strings.ensures.are) c.in_ok-struct_cells.struct_cells.items (c.in_ok-struct_cells.ensures c.requires.counted)

pub returns : goal.returns
returns c =
    ap program_of c.of.ensures
    ∙ program_same c.in_ok-structs.structs.items c.args.defined.items c.args.number c.in_ok-statics.statics.items (layout_of (env_of c.args.env.now)) (map static_of c.args.objects.items ++ map static_string (before_of c.args.before.now).strings)
    (c.in_ok-structs.ensures c.requires.counted) (c.in_ok-statics.ensures ∙ ap (λ ws. map static_of c.args.objects.items ++ map static_string ws) c.strings.ensures.are)
