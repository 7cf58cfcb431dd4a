-- A pattern that is right for a system call is fitted by some event that a trace records.
use Rattle.std.proofs.Common.{ℕ, ℤ, pos, List, [], ◌∷◌, Option, None, Some, refl, arith}
use Rattle.std.specs.List.{AllZip}
use Rattle.dm_base.specs.declared.event.Arg.{Arg}
use Rattle.dm_base.specs.declared.event.Arg.TheVariants as args
use Rattle.dm_base.specs.declared.event.Event.{Event}
use Rattle.dm_base.specs.declared.event.Event.TheVariants.{Sys}
use Rattle.dm_base.specs.Fits.{Fits}
use Rattle.sys_table.specs.declared.kinds.ArgKind.{ArgKind}
use Rattle.sys_table.specs.declared.kinds.ArgKind.TheVariants.{Signed, Unsigned, Bytes}
use Rattle.sys_table.specs.Table.{FitsArgument, FitsEntry, IsRight, recorded_of, result_of}
use Rattle.report.specs.Precision.{IsCall}
use Rattle.report.specs.Trials.{AreFilled, FillsEntry}
use Rattle.report.proofs.TrialLemmas.{filled_fit, zero_fits}

-- an argument of the kind that fills the entry
some_argument : (kind : ArgKind) (entry : Option ℤ) → FitsEntry kind entry → (argument : Arg) × FitsArgument kind argument × FillsEntry entry argument
some_argument kind (Some n) fits = (args.Int n, fits, refl)
some_argument Signed None fits = (args.Int (pos 0), omega arith, tt)
some_argument Unsigned None fits = (args.Int (pos 0), omega arith, tt)
some_argument Bytes None fits = (args.Bytes [], refl, tt)

some_arguments : (kinds : List ArgKind) (entries : List (Option ℤ)) → AllZip FitsEntry kinds entries → (arguments : List Arg) × AreFilled kinds entries arguments
some_arguments [] [] right = ([], record { kind = tt; entry = tt })
some_arguments [] (entry ∷ entries) right = absurd right
some_arguments (kind ∷ kinds) [] right = absurd right
some_arguments (kind ∷ kinds) (entry ∷ entries) (fits, right) =
    let first = some_argument kind entry fits in
    let rest = some_arguments kinds entries right in
    (first.0 ∷ rest.0, record { kind = (first.1, rest.1.kind); entry = (first.2, rest.1.entry) })

pub some_event : (x : ℕ) (p : List (Option ℤ)) → IsRight x p → (e : Event) × IsCall x e × Fits x p e
some_event x p right =
    let found = some_arguments (recorded_of x) p right in
    (Sys x found.0 (pos 0), (refl, (found.1.kind, zero_fits (result_of x))), (refl, filled_fit p found.0 found.1.entry))
