-- For private contracts and proofs alone: the type of a prototype, if there is one.
use Rattle.std.specs.Prelude.{Option, Some, None}
use Rattle.std.specs.Borrow.{Bor}
use Rattle.c_tree.specs.Tree.{CType}
use Rattle.c_tree.specs.Prototypes.{prototype_type}
use Rattle.c_tree.specs.declared.prototypes.Prototype.{Prototype}

abbrev pub prototype_seen : Option (Bor Prototype) → Option CType
prototype_seen None = None
prototype_seen (Some p) = Some (prototype_type p.now)
