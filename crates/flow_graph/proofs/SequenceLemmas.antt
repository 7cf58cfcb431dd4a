-- Parts one after another, those left out that are nothing.
use Rattle.std.proofs.Common.{◌≡◌, ◌<◌, true, false, List, [], ◌∷◌, ◌++◌, length, get_or, refl, sym, ap, ap₂, ◌∙◌, arith}
use Rattle.std.specs.List.{remove}
use Rattle.std.proofs.lemmas.Bool.{false≢true}
use Rattle.flow_graph.specs.declared.shape.Shape.{Shape as Tree}
use Rattle.flow_graph.specs.View.{shape_of, parts_of}
use Rattle.c_meaning.specs.Shape.{Shape, Skip, Sys, Exit, Call, Seq, Alt, Loop, Do, Cases, Break, Continue, Return, Parts, End, Part}
use Rattle.c_meaning.specs.ShapeOf.{before_parts, in_turn}
use Rattle.flow_graph.specs.Joined.{joined, is_skip}

pub joined_end : (ps : Parts) → joined ps End ≡ ps
joined_end End = refl
joined_end (Part S ps) = ap (Part S) (joined_end ps)

pub joined_assoc : (ps qs rs : Parts) → joined (joined ps qs) rs ≡ joined ps (joined qs rs)
joined_assoc End qs rs = refl
joined_assoc (Part S ps) qs rs = ap (Part S) (joined_assoc ps qs rs)

pub parts_append : (xs ys : List Tree) → parts_of (xs ++ ys) ≡ joined (parts_of xs) (parts_of ys)
parts_append [] ys = refl
parts_append (x ∷ xs) ys = ap (Part (shape_of x)) (parts_append xs ys)

-- what is nothing is left out, and else is kept
pub skipped : (S : Shape) → is_skip S ≡ true → (ps : Parts) → before_parts S ps ≡ ps
skipped Skip h ps = refl
skipped (Sys x q) h ps = absurd (false≢true h)
skipped (Exit q) h ps = absurd (false≢true h)
skipped (Call s) h ps = absurd (false≢true h)
skipped (Seq S rs) h ps = absurd (false≢true h)
skipped (Alt S T) h ps = absurd (false≢true h)
skipped (Loop C B P) h ps = absurd (false≢true h)
skipped (Do B C) h ps = absurd (false≢true h)
skipped (Cases rs d) h ps = absurd (false≢true h)
skipped Break h ps = absurd (false≢true h)
skipped Continue h ps = absurd (false≢true h)
skipped Return h ps = absurd (false≢true h)

pub kept : (S : Shape) → is_skip S ≡ false → (ps : Parts) → before_parts S ps ≡ Part S ps
kept Skip h ps = absurd (false≢true (sym h))
kept (Sys x q) h ps = refl
kept (Exit q) h ps = refl
kept (Call s) h ps = refl
kept (Seq S rs) h ps = refl
kept (Alt S T) h ps = refl
kept (Loop C B P) h ps = refl
kept (Do B C) h ps = refl
kept (Cases rs d) h ps = refl
kept Break h ps = refl
kept Continue h ps = refl
kept Return h ps = refl

pub before_joined : (S : Shape) (ps : Parts) → joined (before_parts S End) ps ≡ before_parts S ps
before_joined (Sys x q) ps = refl
before_joined a ps = refl

-- a part at the end, and one at the front
pub none_added : (old : List Tree) (part : Tree) → is_skip (shape_of part) ≡ true → parts_of old ≡ joined (parts_of old) (before_parts (shape_of part) End)
none_added old part h = sym (joined_end (parts_of old)) ∙ ap (joined (parts_of old)) (sym (skipped (shape_of part) h End))

pub one_added : (old new : List Tree) (part : Tree) → is_skip (shape_of part) ≡ false → new ≡ old ++ part ∷ [] → parts_of new ≡ joined (parts_of old) (before_parts (shape_of part) End)
one_added old new part h is = ap parts_of is ∙ parts_append old (part ∷ []) ∙ ap (joined (parts_of old)) (sym (kept (shape_of part) h End))

pub turn_many : (xs rest : List Tree) (first : Tree) → 0 < length xs → first ≡ get_or xs 0 first → rest ≡ remove xs 0 → 0 < length rest → Seq (shape_of first) (parts_of rest) ≡ in_turn (parts_of xs)
turn_many [] rest first lt is are some = absurd (omega (arith, lt))
turn_many (x ∷ []) rest first lt is are some = let e : length rest ≡ 0 = ap length are in absurd (omega (arith, e, some))
turn_many (x ∷ (y ∷ xs)) rest first lt is are some = ap₂ (λ t ts. Seq (shape_of t) (parts_of ts)) is are
