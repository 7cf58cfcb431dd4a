-- Declarations, part by part.
use Rattle.std.proofs.Common.{◌≡◌, ◌≤◌, List, ◌∷◌, refl, sym, ap, ◌∙◌, arith, ℕ}
use Rattle.c_lexer.specs.declared.token.Token.{Token}
use Rattle.c_lexer.specs.declared.punctuator.TheConstants.{ASSIGN, SEMICOLON}
use Rattle.c_syntax.specs.Tree.{MaybeInit, Parts, Decl}
use Rattle.c_syntax.specs.Tokens.{Is}
use Rattle.c_syntax.specs.Statements.{ReadsMaybeInit, no_initialiser, an_initialiser, ReadsParts, last_part, next_part, ReadsDecl, a_declaration}
use Rattle.c_syntax.specs.Limits.{height_of_maybe_init, height_of_parts, height_of_decl}
use Rattle.c_syntax_printing.specs.Ranks.{rank}
use Rattle.c_syntax_printing.proofs.Ranks.{ranked, apart}
use Rattle.c_syntax_printing.proofs.Ends.{started}
use Rattle.c_syntax_printing.specs.Heads.{head}
use Rattle.c_syntax_printing.proofs.Heads.{no_storage_at}
use Rattle.c_syntax_printing.proofs.OneDecl.{plain_head, maybe_init_ends, maybe_init_at, moved_spec, parts_end_spec}
use Rattle.c_syntax_printing.specs.Fails.{Fails, Then, then, first, second, one, NotAt}
use Rattle.c_syntax_printing.specs.Phrases.{Bound, Fits, ASpec, ADeclarator, AnInit, APlainDecl}
use Rattle.c_syntax_printing.specs.Declarations.{PartsTail, last_stands, more_stand, SomeParts, PartsEnd}
use Rattle.c_syntax_printing.proofs.Combine.{at_same, fails_as, fails_first, fails_later, fails_under, not_at_alike}
use Rattle.c_syntax_printing.proofs.Fixed.{spec_fixes, declarator_fixes, init_fixes}
use Rattle.c_syntax_printing.proofs.BlockForms.{fits_under}

pub parts_reads : (b : Bound) {d : ℕ} {ps : Parts} {t : Token} {i j : List Token} → ReadsParts d ps i (t ∷ j) → Is SEMICOLON t → Fits b d (height_of_parts ps) → SomeParts b i j
parts_reads b (last_part e n v) h f =
    then
    (record { depth = _; tree = _; reads = e; named = n; ends = maybe_init_ends v (omega (arith, started h)); fits = fits_under b f (omega arith) })
    (last_stands v h (fits_under b f (omega arith)))
parts_reads b (next_part e n v c r) h f =
    then
    (record { depth = _; tree = _; reads = e; named = n; ends = maybe_init_at v c; fits = fits_under b f (omega arith) })
    (more_stand v c r h (fits_under b f (omega arith)))

decl_reads : (b : Bound) {d : ℕ} {x : Decl} {i j : List Token} → head i ≡ 2 → ReadsDecl d x i j → Fits b d (height_of_decl x) → Then ASpec (SomeParts b) i j
decl_reads b q (a_declaration p st s ps h) f =
    then (record { tree = _; reads = moved_spec (no_storage_at st q) s; ends = parts_end_spec ps }) (parts_reads b ps h f)

-- specifiers, and then declarators
pub decl_form : (b : Bound) {i j : List Token} → APlainDecl b i j → Then ASpec (SomeParts b) i j
decl_form b a = decl_reads b (plain_head a.reads a.plain) a.reads a.fits

one_init_reads : (b : Bound) {d code : ℕ} {v : MaybeInit} {o t : Token} {i j : List Token} → Is ASSIGN o → ReadsMaybeInit d v (o ∷ i) (t ∷ j) → Is code t → (ASSIGN ≡ code → ⊥) → 14 ≤ rank (t ∷ j) → Fits b d (height_of_maybe_init v) → AnInit b i (t ∷ j)
one_init_reads b h no_initialiser c n s f = absurd (n (apart h c))
one_init_reads b h (an_initialiser o r) c n s f = record { depth = _; tree = _; reads = r; stops = s; fits = f }

-- an initialiser, and then the end or more
pub init_form : (b : Bound) {t : Token} {i j : List Token} → Is ASSIGN t → PartsTail b (t ∷ i) j → Then (AnInit b) (PartsEnd b) i j
init_form b h (last_stands v c f) = then (one_init_reads b h v c (λ q. omega arith) (omega (arith, ranked c)) f) (first (one c))
init_form b h (more_stand v c ps u f) = then (one_init_reads b h v c (λ q. omega arith) (omega (arith, ranked c)) (fits_under b f (omega arith))) (second (then (one c) (parts_reads b ps u (fits_under b f (omega arith)))))

none_reads : {d : ℕ} {v : MaybeInit} {i j : List Token} → NotAt (Is ASSIGN) i → ReadsMaybeInit d v i j → i ≡ j
none_reads f no_initialiser = refl
none_reads f (an_initialiser o r) = absurd (f _ _ refl o)

no_assign : {i : List Token} → (rank i ≡ 13 → ⊥) → NotAt (Is ASSIGN) i
no_assign f = λ t j q h. f (ap rank q ∙ ranked h)

-- the end or more, where no initialiser stands
pub no_init_form : (b : Bound) {i j : List Token} → NotAt (Is ASSIGN) i → PartsTail b i j → PartsEnd b i j
no_init_form b h (last_stands v c f) = at_same (PartsEnd b) _ (sym (none_reads h v)) (first (one c))
no_init_form b h (more_stand v c ps u f) = at_same (PartsEnd b) _ (sym (none_reads h v)) (second (then (one c) (parts_reads b ps u (fits_under b f (omega arith)))))

-- failures of a declaration and of its parts

pub spec_fails : (b : Bound) {i r : List Token} → Fails ASpec i r → Fails (APlainDecl b) i r
spec_fails b f = fails_as (λ k j m a. decl_form b a) (fails_first f)

pub parts_fail : (b : Bound) {i j r : List Token} → ASpec i j → Fails (SomeParts b) j r → Fails (APlainDecl b) i r
parts_fail b s f = fails_as (λ k j m a. decl_form b a) (fails_later spec_fixes s f)

pub declarator_fails : (b : Bound) {i r : List Token} → Fails (ADeclarator b) i r → Fails (SomeParts b) i r
declarator_fails b f = fails_first f

pub tail_fails : (b c : Bound) {i j r : List Token} → ADeclarator c i j → Fails (PartsTail b) j r → Fails (SomeParts b) i r
tail_fails b c e f = fails_later (declarator_fixes c b) e f

pub init_fails : (b : Bound) {t : Token} {i r : List Token} → Is ASSIGN t → Fails (AnInit b) i r → Fails (PartsTail b) (t ∷ i) r
init_fails b h f = fails_under (λ k j a. init_form b h a) (fails_first f)

pub end_fails : (b c : Bound) {t : Token} {i j r : List Token} → Is ASSIGN t → AnInit c i j → Fails (PartsEnd b) j r → Fails (PartsTail b) (t ∷ i) r
end_fails b c h v f = fails_under (λ k j a. init_form b h a) (fails_later (init_fixes c b) v f)

-- no initialiser stands
pub no_assign_fails : (b : Bound) {i r : List Token} → NotAt (Is ASSIGN) i → Fails (PartsEnd b) i r → Fails (PartsTail b) i r
no_assign_fails b n f = fails_as (λ k j m a. no_init_form b (not_at_alike m n) a) f

pub no_init_fails : (b : Bound) {i r : List Token} → (rank i ≡ 13 → ⊥) → Fails (PartsEnd b) i r → Fails (PartsTail b) i r
no_init_fails b h f = no_assign_fails b (no_assign h) f
