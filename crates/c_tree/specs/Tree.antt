-- Typed trees as terms: what the trees of Rust are seen as. Each expression has its type first.
use Rattle.std.specs.Prelude.{ℕ, Bool, List, [], ◌∷◌, Option}
use Rattle.c_tree.specs.declared.value.IntType.{IntType}
use Rattle.c_tree.specs.declared.value.UnOp.{UnOp}
use Rattle.c_tree.specs.declared.value.BinOp.{BinOp}
use Rattle.c_tree.specs.declared.value.Value.{Value}
use Rattle.c_tree.specs.declared.tree.TLabel.{TLabel}

mutual
  -- a type (6.2.5); a struct is told by its number
  pub data CType : Type 0 where
    void : CType
    integer : IntType → CType
    pointer : CType → CType
    array : (element : CType) → (size : ℕ) → CType
    struct : ℕ → CType
    function : (result : CType) → (parameters : CTypes) → CType

  pub data CTypes : Type 0 where
    no_types : CTypes
    more_types : CType → CTypes → CTypes

-- the types, as a list
abbrev pub list_of : CTypes → List CType
list_of no_types = []
list_of (more_types t ts) = t ∷ list_of ts

mutual
  -- an expression (6.5)
  pub data Expr : Type 0 where
    constant : CType → Value → Expr
    -- a function by its number
    function_name : CType → ℕ → Expr
    -- a string by its number among the statics
    string_place : CType → ℕ → Expr
    -- whether it is one of the statics, and its number
    variable : CType → Bool → ℕ → Expr
    dereference load address_of decay discard : CType → Expr → Expr
    -- the member's first cell
    field : CType → ℕ → Expr → Expr
    unary_operation : CType → UnOp → Expr → Expr
    conversion : CType → IntType → Expr → Expr
    arithmetic comparison : CType → BinOp → Expr → Expr → Expr
    -- whether the pointer is the first one, and whether the integer is subtracted
    pointer_add : CType → Bool → Bool → Expr → Expr → Expr
    pointer_diff and or assign : CType → Expr → Expr → Expr
    -- whether its value is the old one
    update : CType → BinOp → Bool → Expr → Expr → Expr
    conditional : CType → Expr → Expr → Expr → Expr
    comma : CType → Exprs → Expr
    -- a direct call: the site, the function's number and the arguments
    call : CType → ℕ → ℕ → Exprs → Expr
    -- an indirect call: the site, the designator and the arguments
    call_through : CType → ℕ → Expr → Exprs → Expr

  pub data Exprs : Type 0 where
    no_exprs : Exprs
    more_exprs : Expr → Exprs → Exprs

-- an expression where one may be left out
pub data Maybe : Type 0 where
  absent : Maybe
  there : Expr → Maybe

-- cells and their values
pub data Inits : Type 0 where
  no_inits : Inits
  more_inits : ℕ → Expr → Inits → Inits

mutual
  -- a statement (6.8), or the declaration of one variable (6.7); an if without else has the empty statement there
  pub data Stmt : Type 0 where
    block : Stmts → Stmt
    empty : Stmt
    evaluate : Expr → Stmt
    declare : ℕ → Inits → Stmt
    if_else : Expr → Stmt → Stmt → Stmt
    while_loop : Expr → Stmt → Stmt
    do_loop : Stmt → Expr → Stmt
    for_loop : Stmts → Maybe → Maybe → Stmt → Stmt
    switch_on : Expr → Groups → Stmt
    break_off continue_on return_void : Stmt
    return_value : Expr → Stmt

  pub data Stmts : Type 0 where
    no_stmts : Stmts
    more_stmts : Stmt → Stmts → Stmts

  -- labels and the statements after them
  pub data Groups : Type 0 where
    no_groups : Groups
    more_groups : List TLabel → Stmts → Groups → Groups

-- a defined function (6.9.1); its parameters are the first of its variables
pub record Function : Type 0 where
  pub name : List ℕ
  pub ctype : CType
  pub variables : List CType
  pub body : Stmt

-- a static object, or a string literal
pub record Static : Type 0 where
  pub ctype : CType
  pub cells : List Value
  pub string : Bool

-- a program; the members' types of each struct that has a definition, the functions in the order of their definitions, the number of main, and the statics
pub record Program : Type 0 where
  pub structs : List (Option (List CType))
  pub functions : List Function
  pub main : ℕ
  pub statics : List Static

-- the type of an expression, that of the object or function where it is a place
abbrev pub type_of : Expr → CType
type_of (constant t v) = t
type_of (function_name t f) = t
type_of (string_place t n) = t
type_of (variable t s n) = t
type_of (dereference t a) = t
type_of (load t a) = t
type_of (address_of t a) = t
type_of (decay t a) = t
type_of (discard t a) = t
type_of (field t first a) = t
type_of (unary_operation t op a) = t
type_of (conversion t to a) = t
type_of (arithmetic t op a b) = t
type_of (comparison t op a b) = t
type_of (pointer_add t first subtracted a b) = t
type_of (pointer_diff t a b) = t
type_of (and t a b) = t
type_of (or t a b) = t
type_of (assign t a b) = t
type_of (update t op old a b) = t
type_of (conditional t a b c) = t
type_of (comma t es) = t
type_of (call t s f es) = t
type_of (call_through t s a es) = t
