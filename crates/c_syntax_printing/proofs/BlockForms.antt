-- Where the items of a block and the groups of a switch fail.
use Rattle.std.proofs.Common.{◌≡◌, ◌≤◌, ℕ, List, ◌∷◌, ◌∙◌, arith}
use Rattle.c_lexer.specs.declared.token.Token.{Token}
use Rattle.c_lexer.specs.declared.punctuator.TheConstants.{RIGHT_BRACE}
use Rattle.c_syntax.specs.Tree.{BlockItems}
use Rattle.c_syntax.specs.Tokens.{Is}
use Rattle.c_syntax.specs.Statements.{ReadsBlockItems, no_block_item, a_block_decl, a_block_stmt}
use Rattle.c_syntax.specs.Limits.{height_of_block_items}
use Rattle.c_syntax_printing.specs.Heads.{head}
use Rattle.c_syntax_printing.proofs.Heads.{headed}
use Rattle.c_syntax_printing.proofs.OneDecl.{plain_head}
use Rattle.c_syntax_printing.specs.Twins.{On}
use Rattle.c_syntax_printing.proofs.StmtCases.{stmt_head, block_items_head}
use Rattle.c_syntax_printing.specs.Fails.{Meets, Fails, Then, then, Or, first, second}
use Rattle.c_syntax_printing.specs.Phrases.{Bound, any, within, Fits, fits_any, fits_within, ABlockItem, InBlock, in_block}
use Rattle.c_syntax_printing.proofs.Combine.{fails_as, fails_first, fails_later, Fixes}
use Rattle.c_syntax_printing.proofs.Fixed.{head_alike, decl_fixes, stmt_fixes}

-- what is no higher fits too
pub fits_under : (b : Bound) {d h n : ℕ} → Fits b d n → h ≤ n → Fits b d h
fits_under any fits_any l = fits_any
fits_under (within p n) (fits_within f g) l = fits_within f (omega arith)

-- two phrases that begin apart are fixed together
pub or_fixes : {A B C D : List Token → List Token → Type 0} → Fixes A C → Fixes B D → ((i j k : List Token) → A i j → D i k → ⊥) → ((i j k : List Token) → B i j → C i k → ⊥) → Fixes (Or A B) (Or C D)
or_fixes {A} {B} {C} {D} f g p q = record { moves = λ i j a k m. moved i j k m a; once = λ i j k a e. one_end i j k a e }
  where
    moved : (i j k : List Token) → Meets j k → Or A B i j → On (Or A B) i j k
    moved i j k m (first a) = let x = f.moves i j a k m in record { tokens = x.tokens; twin = x.twin; reads = first x.reads }
    moved i j k m (second b) = let x = g.moves i j b k m in record { tokens = x.tokens; twin = x.twin; reads = second x.reads }

    one_end : (i j k : List Token) → Or A B i j → Or C D i k → j ≡ k
    one_end i j k (first a) (first c) = f.once i j k a c
    one_end i j k (first a) (second d) = absurd (p i j k a d)
    one_end i j k (second b) (first c) = absurd (q i j k b c)
    one_end i j k (second b) (second d) = g.once i j k b d

pub block_item_fixes : (b c : Bound) → Fixes (ABlockItem b) (ABlockItem c)
block_item_fixes b c =
    or_fixes (decl_fixes b c) (stmt_fixes b c)
    (λ i j k a e. omega (arith, plain_head a.reads a.plain, stmt_head e.reads))
    (λ i j k a e. omega (arith, plain_head e.reads e.plain, stmt_head a.reads))

items_on : (b : Bound) {d : ℕ} {items : BlockItems} {u : Token} {i j : List Token} → (head i ≡ 5 → ⊥) → ReadsBlockItems d items i (u ∷ j) → Is RIGHT_BRACE u → Fits b d (height_of_block_items items) → Then (ABlockItem b) (InBlock b) i j
items_on b f no_block_item c g = absurd (f (headed c))
items_on b f (a_block_decl r p w) c g =
    then (first (record { depth = _; tree = _; reads = r; plain = p; fits = fits_under b g (omega arith) })) (in_block w c (fits_under b g (omega arith)))
items_on b f (a_block_stmt r w) c g =
    then (second (record { depth = _; tree = _; reads = r; closed = λ h. absurd (block_items_head w (headed c) h); fits = fits_under b g (omega arith) })) (in_block w c (fits_under b g (omega arith)))

block_goes : (b : Bound) {i j : List Token} → (head i ≡ 5 → ⊥) → InBlock b i j → Then (ABlockItem b) (InBlock b) i j
block_goes b f (in_block r c g) = items_on b f r c g

pub not_alike : {n : ℕ} {i k : List Token} → Meets i k → (head i ≡ n → ⊥) → head k ≡ n → ⊥
not_alike m f h = f (head_alike m ∙ h)

-- the next item fails, where no brace ends the block
pub fails_item : (b : Bound) {i r : List Token} → (head i ≡ 5 → ⊥) → Fails (ABlockItem b) i r → Fails (InBlock b) i r
fails_item b f a = fails_as (λ k j m w. block_goes b (not_alike m f) w) (fails_first a)

-- an item stands, and what follows it fails
pub fails_items : (b c : Bound) {i j r : List Token} → (head i ≡ 5 → ⊥) → ABlockItem c i j → Fails (InBlock b) j r → Fails (InBlock b) i r
fails_items b c f a g = fails_as (λ k j m w. block_goes b (not_alike m f) w) (fails_later (block_item_fixes c b) a g)
