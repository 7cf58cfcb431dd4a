-- Well-typed programs.
use Rattle.std.specs.Prelude.{◌≡◌, ◌≢◌, ℕ, ◌≤◌, ◌<◌, false, List, ◌++◌, All, AllPairs, length, Some, slice_get}
use Rattle.std.specs.List.{AllZip, range_with_len}
use Rattle.dm_base.specs.Name.{IsName}
use Rattle.sys_table.specs.Table.{name_of}
use Rattle.c_tree.specs.Tree.{CType, void, integer, pointer, array, struct, function, CTypes, list_of, Stmt, block, Function, Static, Program}
use Rattle.c_tree.specs.Layout.{Structs, flat, cells_of_all}
use Rattle.c_tree.specs.Functions.{int, of_none, defined}
use Rattle.c_tree.specs.Operands.{IsScalar, IsResult, IsComplete, IsObject}
use Rattle.c_tree.specs.Kinds.{HasType, static_objects}
use Rattle.c_tree.specs.Typed.{IsStmt}
use Rattle.c_tree.specs.Sites.{sites_of_program}

-- an object of the type holds only structs of a lower rank
abbrev pub IsBelow : (ℕ → ℕ) → ℕ → CType → Type 0
IsBelow rank n void = Unit {0}
IsBelow rank n (integer i) = Unit {0}
IsBelow rank n (pointer t) = Unit {0}
IsBelow rank n (array t k) = IsBelow rank n t
IsBelow rank n (struct s) = rank s < n
IsBelow rank n (function r ts) = Unit {0}

-- each struct that is defined has members, which are objects of known size, and no struct holds itself, since each is defined after
-- those that it holds (6.7.2.1 paragraphs 1 and 2)
pub record AreStructs (structs : Structs) : Type 0 where
  pub rank : ℕ → ℕ
  pub ranked : (s : ℕ) (ts : List CType) → slice_get structs s ≡ Some (Some ts) → rank s < length structs
  pub below : (s : ℕ) (ts : List CType) → slice_get structs s ≡ Some (Some ts) → All (IsBelow rank (rank s)) ts
  pub complete : (s : ℕ) (ts : List CType) → slice_get structs s ≡ Some (Some ts) → All (IsComplete structs) ts
  pub members : (s : ℕ) (ts : List CType) → slice_get structs s ≡ Some (Some ts) → 1 ≤ length ts

-- a compound statement
abbrev pub IsBlock : Stmt → Type 0
IsBlock (block ss) = Unit {0}
IsBlock s = ⊥

-- a function: its parameters are the first of its variables, and its body is a well-typed block (6.9.1)
pub record IsFunction (p : Program) (f : Function) : Type 0 where
  pub gives : CType
  pub takes : CTypes
  pub others : List CType
  pub type : f.ctype ≡ function gives takes
  pub result_type : IsResult gives
  pub scalars : All IsScalar (list_of takes)
  pub few_parameters : length (list_of takes) ≤ 16
  pub parameters : f.variables ≡ list_of takes ++ others
  pub objects : All (IsObject p.structs) f.variables
  pub few : cells_of_all p.structs f.variables ≤ 262144
  pub body : IsBlock f.body
  pub typed : IsStmt p f.variables gives false false f.body

-- a static object or string: each of its cells has a value of its type, and pointers lie in static objects (6.7.8)
pub record IsStatic (p : Program) (s : Static) : Type 0 where
  pub object : IsObject p.structs s.ctype
  pub typed : AllZip (HasType p (static_objects p)) (flat p.structs s.ctype) s.cells

-- the functions have names, which differ from each other and from those of the system calls
pub record HaveNames (functions : List Function) : Type 0 where
  pub names : All (λ f. IsName f.name) functions
  pub differ : AllPairs (λ f g. f.name ≢ g.name) functions
  pub apart : All (λ f. (x : ℕ) → x < 24 → f.name ≢ name_of x) functions

-- int main(void) is defined (5.1.2.2.1)
abbrev pub IsMain : Program → Type 0
IsMain p = (f : Function) × (slice_get p.functions p.main ≡ Some f) × (f.ctype ≡ of_none int)

-- the sites are the numbers from 0 on, in the order of the opening parentheses
abbrev pub HasSites : Program → ℕ → Type 0
HasSites p n = sites_of_program p ≡ range_with_len 0 n

-- the program is well-typed, and has so many call expressions
pub record IsProgram (p : Program) (n : ℕ) : Type 0 where
  pub structs : AreStructs p.structs
  pub functions : All (IsFunction p) p.functions
  pub names : HaveNames p.functions
  pub statics : All (IsStatic p) p.statics
  pub main : IsMain p
  pub sites : HasSites p n
  pub few_functions : defined p ≤ 4098
  pub few_statics : length p.statics < 4294967296
  pub few_sites : n ≤ 30000
