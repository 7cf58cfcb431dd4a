-- Lemmas that several crates above use.
use Rattle.std.proofs.Common.{[]}
use Rattle.c_rules.specs.Checked.{Checked, faulty, fine}
use Rattle.c_tree.specs.Tree.{Program}

abbrev pub no_program : Program
no_program = record { structs = []; functions = []; main = 0; statics = [] }

abbrev pub program_or_none : Checked Program → Program
program_or_none (fine p) = p
program_or_none (faulty f fs) = no_program
