-- How many steps an event may take on a small model: the one of two callers that the tests have.
use Rattle.std.proofs.Common.{◌≡◌, [], ◌∷◌, codes, refl}
use Rattle.flow_model.specs.Cost.{most_steps}
use Rattle.flow_model.specs.Graph.{Graph}

two_callers : Graph
two_callers = record {
  nodes = 8;
  start = 1;
  functions = record { name = codes "f"; entry = 0; exit = 1 } ∷ record { name = codes "main"; entry = 3; exit = 4 } ∷ [];
  silent = record { from = 2; to = 1 } ∷ record { from = 7; to = 4 } ∷ [];
  sys = record { from = 0; name = 14; to = 2; args = [] } ∷ record { from = 5; name = 16; to = 6; args = [] } ∷ [];
  calls = record { from = 3; site = 1; to = 5; candidates = 0 ∷ [] } ∷ record { from = 6; site = 3; to = 7; candidates = 0 ∷ [] } ∷ [];
}

steps_of_two_callers : most_steps two_callers ≡ 18
unfolding two_callers
steps_of_two_callers = refl
