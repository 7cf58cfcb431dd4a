-- The graphs of small programs are those of their shapes.
use Rattle.std.proofs.Common.{◌≡◌, [], ◌∷◌, codes, refl}
use Rattle.sys_table.specs.Table.{table}
use Rattle.c_meaning.specs.Functions.{sys_types}
use Rattle.c_meaning.proofs.ProgramTrials.{source_b, source_d, indirect}
use Rattle.c_meaning.specs.GraphOf.{graph_of}
use Rattle.c_meaning.specs.GraphOfProgram.{graph_of_program}
use Rattle.c_meaning.proofs.Trials.{two_callers, silent_recursion, indirect_call}

-- int f(void) { return getpid(); } int main(void) { f(); getuid(); f(); return 0; }
graph_b : graph_of_program source_b ≡ graph_of (codes "f" ∷ codes "main" ∷ []) two_callers
unfolding table
graph_b = refl

-- int g; int f(void) { if (g) f(); getpid(); return 0; } int main(void) { f(); return 0; }
graph_d : graph_of_program source_d ≡ graph_of (codes "f" ∷ codes "main" ∷ []) silent_recursion
unfolding table
graph_d = refl

-- calls through an array of pointers to functions, among them a system call
graph_of_indirect : graph_of_program indirect ≡ graph_of (codes "a" ∷ codes "b" ∷ codes "c" ∷ codes "main" ∷ codes "close" ∷ []) indirect_call
unfolding table sys_types
graph_of_indirect = refl
