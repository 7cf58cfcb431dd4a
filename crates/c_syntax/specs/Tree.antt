-- Syntax trees as terms: what the trees of Rust are seen as. Each node has the place of its first byte.
use Rattle.std.specs.Prelude.{ℕ, ℤ, Bool, List}

-- a name and its place
pub record Ident : Type 0 where
  pub name : List ℕ
  pub at : ℕ

-- a storage class, or none (6.7.1)
pub data Storage : Type 0 where
  no_storage static extern : Storage

-- type specifiers (6.7.2)
pub data Spec : Type 0 where
  void char unsigned_char int unsigned_int : Spec
  struct enum : Ident → Spec

-- what stands after an operand: ++ or -- (6.5.2.4)
pub data Postfix : Type 0 where
  post_increment post_decrement : Postfix

-- what stands before a unary expression: ++, -- or sizeof (6.5.3)
pub data Prefix : Type 0 where
  pre_increment pre_decrement sizeof : Prefix

-- how a member is reached: by . or by -> (6.5.2.3)
pub data Access : Type 0 where
  dot arrow : Access

-- what stands between two operands: &&, ||, or another operator by its number (6.5.5 to 6.5.14)
pub data Infix : Type 0 where
  and or : Infix
  operator : ℕ → Infix

mutual
  -- an expression
  pub data Expr : Type 0 where
    a_name : (at : ℕ) → List ℕ → Expr
    an_int : (at value : ℕ) → Bool → Expr
    a_char : (at : ℕ) → ℤ → Expr
    a_str : (at : ℕ) → List ℕ → Expr
    comma : (at : ℕ) → Exprs → Expr
    sizeof_type : (at : ℕ) → TypeName → Expr
    cast : (at : ℕ) → TypeName → Expr → Expr
    call : (at : ℕ) → Expr → Exprs → Expr
    member : (at : ℕ) → Access → Expr → Ident → Expr
    postfix : (at : ℕ) → Postfix → Expr → Expr
    prefix : (at : ℕ) → Prefix → Expr → Expr
    unary : (at op : ℕ) → Expr → Expr
    index : (at : ℕ) → Expr → Expr → Expr
    binary : (at : ℕ) → Infix → Expr → Expr → Expr
    assign : (at op : ℕ) → Expr → Expr → Expr
    conditional : (at : ℕ) → Expr → Expr → Expr → Expr

  pub data Exprs : Type 0 where
    no_exprs : Exprs
    more_exprs : Expr → Exprs → Exprs

  -- an expression where one may be left out
  pub data Maybe : Type 0 where
    absent : Maybe
    there : Expr → Maybe

  -- the name of a type; its declarator has no name
  pub data TypeName : Type 0 where
    type_name : (at : ℕ) → Spec → Declarator → TypeName

  -- a declarator, or `nothing` where no name stands
  pub data Declarator : Type 0 where
    nothing : Declarator
    named : (at : ℕ) → Ident → Declarator
    pointer : (at : ℕ) → Declarator → Declarator
    array : (at : ℕ) → Declarator → Maybe → Declarator
    function : (at : ℕ) → Declarator → Params → Declarator

  pub data Params : Type 0 where
    no_params : Params
    more_params : (at : ℕ) → Spec → Declarator → Params → Params

mutual
  -- an initialiser: an expression, or a list in braces
  pub data Init : Type 0 where
    one : (at : ℕ) → Expr → Init
    list : (at : ℕ) → Inits → Init

  pub data Inits : Type 0 where
    no_inits : Inits
    more_inits : Init → Inits → Inits

-- the initialiser of a declarator, where one stands
pub data MaybeInit : Type 0 where
  no_init : MaybeInit
  an_init : Init → MaybeInit

-- declarators, each perhaps with an initialiser
pub data Parts : Type 0 where
  no_parts : Parts
  more_parts : Declarator → MaybeInit → Parts → Parts

-- a declaration
pub data Decl : Type 0 where
  decl : (at : ℕ) → Storage → Spec → Parts → Decl

-- what stands first in the head of a for
pub data First : Type 0 where
  first_absent : First
  first_expr : Expr → First
  first_decl : Decl → First

pub data Labels : Type 0 where
  no_labels : Labels
  case_label : (at : ℕ) → Expr → Labels → Labels
  default_label : (at : ℕ) → Labels → Labels

mutual
  -- a statement
  pub data Stmt : Type 0 where
    block : (at : ℕ) → BlockItems → Stmt
    empty : (at : ℕ) → Stmt
    evaluate : (at : ℕ) → Expr → Stmt
    only_if : (at : ℕ) → Expr → Stmt → Stmt
    if_else : (at : ℕ) → Expr → Stmt → Stmt → Stmt
    while_loop : (at : ℕ) → Expr → Stmt → Stmt
    do_loop : (at : ℕ) → Stmt → Expr → Stmt
    for_loop : (at : ℕ) → First → Maybe → Maybe → Stmt → Stmt
    switch_on : (at : ℕ) → Expr → Groups → Stmt
    break_off : (at : ℕ) → Stmt
    continue_on : (at : ℕ) → Stmt
    return_from : (at : ℕ) → Maybe → Stmt

  -- declarations and statements of a block
  pub data BlockItems : Type 0 where
    no_block_items : BlockItems
    block_decl : Decl → BlockItems → BlockItems
    block_stmt : Stmt → BlockItems → BlockItems

  pub data Stmts : Type 0 where
    no_stmts : Stmts
    more_stmts : Stmt → Stmts → Stmts

  -- labels and the statements after them
  pub data Groups : Type 0 where
    no_groups : Groups
    more_groups : Labels → Stmts → Groups → Groups

pub data Declarators : Type 0 where
  no_declarators : Declarators
  more_declarators : Declarator → Declarators → Declarators

pub data Members : Type 0 where
  no_members : Members
  more_members : (at : ℕ) → Spec → Declarators → Members → Members

pub data Enumerators : Type 0 where
  no_enumerators : Enumerators
  more_enumerators : Ident → Maybe → Enumerators → Enumerators

-- the tag of an enum, where one stands
pub data Tag : Type 0 where
  no_tag : Tag
  tag : Ident → Tag

-- what stands at file scope
pub data Item : Type 0 where
  struct_item : (at : ℕ) → Ident → Members → Item
  enum_item : (at : ℕ) → Tag → Enumerators → Item
  tag_item : (at : ℕ) → Ident → Item
  decl_item : (at : ℕ) → Decl → Item
  function_item : (at : ℕ) → Storage → Spec → Declarator → Stmt → Item

-- a unit
pub data Items : Type 0 where
  no_items : Items
  more_items : Item → Items → Items
