-- What is read inside a node is within the room of the node.
use Rattle.std.proofs.Common.{◌≡◌, ◌<◌, ℕ, ◌-◌, List, [], ◌∷◌, sym, ap, subst, arith, drop}
use Rattle.c_lexer.specs.declared.token.Token.{Token}
use Rattle.c_syntax.specs.Tree.{Stmt}
use Rattle.c_syntax.specs.Tokens.{IsKeyword, place}
use Rattle.c_parser_phrases.specs.Standing.{IsAtKeyword}
use Rattle.c_parser_phrases.specs.declared.room.Room.{Room}
use Rattle.c_parser.specs.declared.starts.Compound.{Compound}
use Rattle.c_parser.specs.Starting.{BeginsCompound}
use Rattle.c_parser.specs.Parsed.{HasStmt, HasNode}

-- the room inside a node
pub record IsInside (room inside : Room) : Type 0 where
  pub some : 0 < room.nodes
  pub nodes : inside.nodes ≡ room.nodes - 1
  pub pairs : inside.pairs ≡ room.pairs

inside_is : {room inside : Room} → IsInside room inside → inside ≡ record room { nodes = room.nodes - 1 }
inside_is h = λ i. record { nodes = h.nodes i; pairs = h.pairs i }

-- a fact in the room inside
pub out_of : (P : Room → Type 0) {room inside : Room} → IsInside room inside → P inside → P (record room { nodes = room.nodes - 1 })
out_of P h p = subst P (inside_is h) p

pub stmt_from_node : {room inside : Room} {s : Stmt} {t : Token} {i j k : List Token} → IsInside room inside → i ≡ t ∷ j → HasNode inside s (t ∷ j) k → HasStmt room s i k
stmt_from_node {room} {s = s} {t = t} {j = j} {k = k} h q n =
    let m = out_of (λ r. HasNode r s (t ∷ j) k) h n in
    record { reads = rw q m.reads; nested = omega (arith, h.some, m.nested); closed = m.closed }

-- a statement that begins with a keyword, and what follows the keyword
pub stmt_from_word : {word at : ℕ} {room inside : Room} {s : Stmt} {i j k : List Token} → IsInside room inside → IsAtKeyword word i → j ≡ drop 1 i → at ≡ place i → ((t : Token) → IsKeyword word t → at ≡ t.from → HasNode inside s (t ∷ j) k) → HasStmt room s i k
stmt_from_word {i = []} h w q p f = absurd w
stmt_from_word {i = t ∷ ts} h w q p f = stmt_from_node h (ap (λ z. t ∷ z) (sym q)) (f t w p)

-- the keyword of a form that is known by an equation
pub begins_as : (form f : Compound) (i : List Token) → form ≡ f → BeginsCompound form i → BeginsCompound f i
begins_as form f i q h = subst (λ z. BeginsCompound z i) q h
