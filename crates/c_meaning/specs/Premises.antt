-- What the shapes of programs meet: a site stands at one place, breaks and continues stay in functions, and the functions are known.
use Rattle.std.specs.Prelude.{◌≡◌, ℕ, ◌<◌, ◌≤◌, List, [], ◌∷◌, ◌++◌, length, flat_map, All, AllPairs, ◌≢◌, Contains}
use Rattle.c_meaning.specs.Shape.{Shape, Skip, Sys, Exit, Call, Seq, Alt, Loop, Do, Cases, Break, Continue, Return, Parts, End, Part, Shapes, exit_call}
use Rattle.c_meaning.specs.Bodies.{IsBody}
use Rattle.dm_base.specs.Name.{IsName}
use Rattle.sys_table.specs.Table.{IsRight}
use Rattle.c_meaning.specs.GraphOf.{nodes_from}

-- the sites of the calls in a shape, in order
abbrev mutual
  pub sites : Shape → List ℕ
  sites Skip = []
  sites (Sys x q) = []
  sites (Exit q) = []
  sites (Call s) = s ∷ []
  sites (Seq S ps) = sites S ++ sites_of_parts ps
  sites (Alt S T) = sites S ++ sites T
  sites (Loop C B P) = sites C ++ (sites B ++ sites P)
  sites (Do B C) = sites B ++ sites C
  sites (Cases ps d) = sites_of_parts ps
  sites Break = []
  sites Continue = []
  sites Return = []

  pub sites_of_parts : Parts → List ℕ
  sites_of_parts End = []
  sites_of_parts (Part S ps) = sites S ++ sites_of_parts ps

-- No site stands twice, and breaks and continues lead out of no function; what may be called, and the main function, are functions.
pub record AreClosed (env : Shapes) : Type 0 where
  pub once : AllPairs (λ s r. s ≢ r) (flat_map sites env.functions)
  pub bodies : All IsBody env.functions
  pub known : (s f : ℕ) → Contains (env.candidates s) f → f < length env.functions
  pub main : env.main < length env.functions

-- the patterns of a shape are right for their system calls
abbrev mutual
  pub HasRightCalls : Shape → Type 0
  HasRightCalls Skip = Unit {0}
  HasRightCalls (Sys x q) = IsRight x q
  HasRightCalls (Exit q) = IsRight exit_call q
  HasRightCalls (Call s) = Unit {0}
  HasRightCalls (Seq S ps) = HasRightCalls S × HaveRightCalls ps
  HasRightCalls (Alt S T) = HasRightCalls S × HasRightCalls T
  HasRightCalls (Loop C B P) = HasRightCalls C × HasRightCalls B × HasRightCalls P
  HasRightCalls (Do B C) = HasRightCalls B × HasRightCalls C
  HasRightCalls (Cases ps d) = HaveRightCalls ps
  HasRightCalls Break = Unit {0}
  HasRightCalls Continue = Unit {0}
  HasRightCalls Return = Unit {0}

  pub HaveRightCalls : Parts → Type 0
  HaveRightCalls End = Unit {0}
  HaveRightCalls (Part S ps) = HasRightCalls S × HaveRightCalls ps

-- The functions have right names, which differ, and right patterns, and there are at most 200,000 nodes.
pub record AreNamed (texts : List (List ℕ)) (env : Shapes) : Type 0 where
  pub many : length texts ≡ length env.functions
  pub names : All IsName texts
  pub differ : AllPairs (λ x y. x ≢ y) texts
  pub patterns : All HasRightCalls env.functions
  pub few : nodes_from 0 env.functions ≤ 200000
