use Rattle.std.proofs.Common.{rules, IsSome, Some, inl, inr, map, string_bytes, arith}
use Rattle.dm_io.specs.Faults.{Rose}
use Rattle.tool.proofs.FrameLemmas.{no_write_fault}
use Rattle.tool.proofs.run.run_in_memory.Goals as goal

never_rises : Rose 0 0 → ⊥
never_rises rose = elim rose [ inl less ↦ omega arith | inr greatest ↦ omega arith ]

pub returns-clause-refused : goal.returns-clause-refused
returns-clause-refused c = λ status line refused there.
    let told : IsSome (Some c.args.store.now) = search rules in
    c.run_tool.ensures.refused status line told refused (record { store = never_rises; out = never_rises; there = there })

pub returns-clause-selftest : goal.returns-clause-selftest
returns-clause-selftest c = λ asks.
    elim (c.run_tool.ensures.selftest asks) [
      | inl done ↦ inl done
      | inr other ↦ elim other [ inl unwritten ↦ absurd (no_write_fault (map string_bytes c.args.words.now) (Some c.args.store.now) 0 0 c.run_tool.result never_rises unwritten c.run_tool.ensures.cause) | inr memory ↦ inr memory ]
    ]
