use Rattle.std.proofs.Common.{◌≡◌, List, length, map, sym, ap, subst, arith, All, Contains, Some}
use Rattle.std.specs.Prelude.{slice_get}
use Rattle.fleet.proofs.ZipLemmas.{map_length}
use Rattle.tool_fleet.specs.declared.inputs.ProcessInput.{ProcessInput}
use Rattle.tool_fleet.specs.Inputs.{group_of, numbers}
use Rattle.tool_fleet.proofs.running.run_in.Goals as goal

pub add_processes-requires-clause-empty : goal.add_processes-requires-clause-empty
add_processes-requires-clause-empty g c = (
  map group_of c.deref.result.now,
  c.in_ok-add_groups.ensures.stands,
  λ k p there.
      let within = c.requires.inputs.within k p (subst (λ (ps : List ProcessInput). slice_get ps k ≡ Some p) c.deref-2.ensures.value there) in
      omega (arith, within, map_length group_of c.deref.result.now, ap length c.deref.ensures.value),
)

pub advance_all-requires-clause-there : goal.advance_all-requires-clause-there
advance_all-requires-clause-there g c = (
  map group_of c.deref.result.now,
  c.deref-2.result.now,
  c.in_ok-add_processes.ensures.stands (map group_of c.deref.result.now) c.in_ok-add_groups.ensures.stands,
  subst (λ (ps : List ProcessInput). All (Contains (numbers ps)) c.args.order.now) (sym c.deref-2.ensures.value) c.requires.inputs.named,
)
