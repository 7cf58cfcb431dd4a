-- The edges of shapes, and the numbers of their nodes: each row of the table makes its fresh nodes in order, and then lays its parts from left to right.
use Rattle.std.specs.Prelude.{ℕ, ◌+◌, Bool, true, false, List, [], ◌∷◌, ◌++◌}
use Rattle.c_meaning.specs.Shape.{Shape, Skip, Sys, Exit, Call, Seq, Alt, Loop, Do, Cases, Break, Continue, Return, Parts, End, Part, exit_call}
use Rattle.c_meaning.specs.Walks.{Label, Silent, System, Site}

-- an edge from a node to a node, and what is done along it
pub data Edge : Type 0 where
  edge : ℕ → Label → ℕ → Edge

-- the nodes to which a shape's exits lead: its end, a break, a continue and a return
pub record Places : Type 0 where
  pub to : ℕ
  pub brk : ℕ
  pub con : ℕ
  pub ret : ℕ

-- all exits lead to one node, as those of a function do
abbrev pub ends : ℕ → Places
ends x = record { to = x; brk = x; con = x; ret = x }

-- a loop's body, which breaks to b and continues at c
abbrev pub body : Places → ℕ → ℕ → ℕ → Places
body p to b c = record { to = to; brk = b; con = c; ret = p.ret }

-- a switch is left by a break
abbrev pub switch : Places → Places
switch p = record p { brk = p.to }

-- how many parts there are
abbrev pub count : Parts → ℕ
count End = 0
count (Part S ps) = 1 + count ps

-- the node i of the first of the parts, or where their end leads
abbrev pub head : Parts → ℕ → ℕ → ℕ
head End i b = b
head (Part S ps) i b = i

-- a part before others, the first of which stands at i
abbrev pub group : Places → Parts → ℕ → Places
group p ps i = record p { to = head ps i (p.to) }

-- how many fresh nodes a shape has in all
abbrev mutual
  pub width : Shape → ℕ
  width Skip = 0
  width (Sys x q) = 0
  width (Exit q) = 1
  width (Call s) = 0
  width (Seq S ps) = count ps + width S + widths ps
  width (Alt S T) = width S + width T
  width (Loop C B P) = 3 + width C + width B + width P
  width (Do B C) = 3 + width B + width C
  width (Cases ps d) = count ps + widths ps
  width Break = 0
  width Continue = 0
  width Return = 0

  pub widths : Parts → ℕ
  widths End = 0
  widths (Part S ps) = width S + widths ps

-- a silent edge to each of the parts, which stand from i on
abbrev pub to_each : ℕ → Parts → ℕ → List Edge
to_each a End i = []
to_each a (Part S ps) i = edge a Silent i ∷ to_each a ps (i + 1)

-- a silent edge past the groups of a switch without a default
abbrev pub past_all : Bool → ℕ → ℕ → List Edge
past_all true a b = []
past_all false a b = edge a Silent b ∷ []

-- the edges of a shape laid from the node a, whose fresh nodes begin with n
abbrev mutual
  pub edges : Shape → ℕ → ℕ → Places → List Edge
  edges Skip a n p = edge a Silent (p.to) ∷ []
  edges (Sys x q) a n p = edge a (System x q) (p.to) ∷ []
  edges (Exit q) a n p = edge a (System exit_call q) n ∷ []
  edges (Call s) a n p = edge a (Site s) (p.to) ∷ []
  edges (Seq S ps) a n p =
      edges S a (n + count ps) (group p ps n)
      ++ edges_of_parts ps n (n + count ps + width S) p
  edges (Alt S T) a n p = edges S a n p ++ edges T a (n + width S) p
  edges (Loop C B P) a n p =
      edge a Silent n ∷ edge (n + 1) Silent (p.to)
      ∷ edges C n (n + 3) (record p { to = n + 1 })
      ++ (edges B (n + 1) (n + 3 + width C) (body p (n + 2) (p.to) (n + 2))
      ++ edges P (n + 2) (n + 3 + width C + width B) (record p { to = n }))
  edges (Do B C) a n p =
      edge a Silent n ∷ edge (n + 2) Silent n ∷ edge (n + 2) Silent (p.to)
      ∷ edges B n (n + 3) (body p (n + 1) (p.to) (n + 1))
      ++ edges C (n + 1) (n + 3 + width B) (record p { to = n + 2 })
  edges (Cases ps d) a n p =
      to_each a ps n ++ (past_all d a (p.to) ++ edges_of_parts ps n (n + count ps) (switch p))
  edges Break a n p = edge a Silent (p.brk) ∷ []
  edges Continue a n p = edge a Silent (p.con) ∷ []
  edges Return a n p = edge a Silent (p.ret) ∷ []

  -- those of parts in order, which stand at the nodes from i on
  pub edges_of_parts : Parts → ℕ → ℕ → Places → List Edge
  edges_of_parts End i n p = []
  edges_of_parts (Part S ps) i n p =
      edges S i n (group p ps (i + 1)) ++ edges_of_parts ps (i + 1) (n + width S) p
