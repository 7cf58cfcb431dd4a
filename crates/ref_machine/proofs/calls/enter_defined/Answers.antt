use Rattle.std.proofs.Common.{◌≡◌, ◌+◌, suc, ap, arith, nat_eq, refl}
use Rattle.c_tree.specs.View.{ctypes_of}
use Rattle.c_values.specs.Seen.{seen}
use Rattle.ref_machine_frames.specs.Frames.{place_of}
use Rattle.ref_machine.proofs.Turning.{entered_by}
use Rattle.ref_machine.proofs.calls.enter_defined.Goals as goal

pub returns-clause-entered : goal.returns-clause-entered
returns-clause-entered c w rs taken turns =
    let activation = c.args.entries.now + 1 in
    let next : suc c.args.entries.now ≡ c.args.entries.now + 1 = omega arith in
    entered_by c.args.program.now w _ _ c.args.f c.function-function.result.now c.args.values.now (seen c.args.memory.now) (seen c.set_parameters.new.memory) c.args.entries.now activation rs taken turns c.args.todo.now.items _ _ c.args.wanted (place_of c.args.here.now) c.function-function.ensures next c.in_ok-set_parameters.ensures (ap (λ ts. record { activation = activation; types = ctypes_of ts }) c.deref.ensures.value) refl (ap (λ m. nat_eq c.args.f m) c.main.ensures.is) refl refl c.in_ok-push.ensures.items
