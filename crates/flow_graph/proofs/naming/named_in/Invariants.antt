use Rattle.std.proofs.Common.{◌≡◌, [], Contains, take}
use Rattle.c_meaning.specs.Mentions.{Named}
use Rattle.dm_base.specs.Adding.{Has, Gains}
use Rattle.flow_graph.specs.Saying.{mention_of}
use Rattle.flow_graph.proofs.naming.named_in.Given as goal

abbrev pub invariant-loop-m : goal.invariant-loop-m
invariant-loop-m l = Gains (Contains []) (Contains l.named.keys) (λ g. Has (λ m. mention_of m ≡ Named g) (take l.m-index l.ms))
