-- Where the groups of a switch fail.
use Rattle.std.proofs.Common.{◌≡◌, ◌≤◌, ℕ, max, List, ◌∷◌, subst, arith}
use Rattle.c_lexer.specs.declared.token.Token.{Token}
use Rattle.c_lexer.specs.declared.punctuator.TheConstants.{RIGHT_BRACE}
use Rattle.c_syntax.specs.Tree.{Stmts, Groups}
use Rattle.c_syntax.specs.Tokens.{Is}
use Rattle.c_syntax.specs.Statements.{ReadsStmts, last_stmt, next_stmt, ReadsGroups, no_group, a_group}
use Rattle.c_syntax.specs.Limits.{height_of_stmts, height_of_groups}
use Rattle.c_syntax_printing.specs.Heads.{head}
use Rattle.c_syntax_printing.proofs.Heads.{headed}
use Rattle.c_syntax_printing.proofs.FrameStatements.{labels_on}
use Rattle.c_syntax_printing.proofs.OneDecl.{same_labels}
use Rattle.c_syntax_printing.proofs.StmtCases.{stmts_head, groups_head}
use Rattle.c_syntax_printing.specs.Fails.{Fails, Then, then, first, second}
use Rattle.c_syntax_printing.specs.Phrases.{Bound, Fits, AStmt, SomeLabels, InSwitch, in_switch}
use Rattle.c_syntax_printing.specs.Groups.{InGroup, in_group, GroupRest}
use Rattle.c_syntax_printing.proofs.Combine.{fails_here, fails_or_not, fails_not_or, Fixes, on_as, fails_as, fails_first, fails_later}
use Rattle.c_syntax_printing.proofs.Fixed.{head_alike, stmt_fixes}
use Rattle.c_syntax_printing.proofs.BlockForms.{fits_under, not_alike}

pub labels_fixes : (b c : Bound) → Fixes (SomeLabels b) (SomeLabels c)
labels_fixes b c = record {
  moves = λ i j a k m. on_as (labels_on a.reads k) (λ h r. record { depth = a.depth; tree = a.tree; reads = r; ends = subst (λ n. 20 ≤ n) (head_alike m) a.ends; fits = a.fits });
  once = λ i j k a e. (same_labels a.reads e.reads a.ends e.ends).1;
}

groups_reads : (b : Bound) {d : ℕ} {groups : Groups} {u : Token} {i j : List Token} → (head i ≡ 5 → ⊥) → ReadsGroups d groups i (u ∷ j) → Is RIGHT_BRACE u → Fits b d (height_of_groups groups) → Then (SomeLabels b) (InGroup b) i j
groups_reads b f no_group c g = absurd (f (headed c))
groups_reads b f (a_group l r w) c g =
    then (record { depth = _; tree = _; reads = l; ends = stmts_head r; fits = fits_under b g (omega arith) }) (in_group r w c (fits_under b g (omega arith)))

-- labels and a group, where no brace ends the switch
pub switch_goes : (b : Bound) {i j : List Token} → (head i ≡ 5 → ⊥) → InSwitch b i j → Then (SomeLabels b) (InGroup b) i j
switch_goes b f (in_switch r c g) = groups_reads b f r c g

stmts_reads : (b : Bound) {d : ℕ} {ss : Stmts} {groups : Groups} {u : Token} {i j k : List Token} → ReadsStmts d ss i j → ReadsGroups d groups j (u ∷ k) → Is RIGHT_BRACE u → Fits b d (max (height_of_stmts ss) (height_of_groups groups)) → Then (AStmt b) (GroupRest b) i k
stmts_reads b (last_stmt r) w c g =
    then
    (record { depth = _; tree = _; reads = r; closed = λ h. absurd (omega (arith, groups_head w (headed c))); fits = fits_under b g (omega arith) })
    (first (in_switch w c (fits_under b g (omega arith))))
stmts_reads b (next_stmt r s) w c g =
    then
    (record { depth = _; tree = _; reads = r; closed = λ h. absurd (omega (arith, stmts_head s)); fits = fits_under b g (omega arith) })
    (second (in_group s w c (fits_under b g (omega arith))))

-- a statement, and the rest of the group
pub group_goes : (b : Bound) {i j : List Token} → InGroup b i j → Then (AStmt b) (GroupRest b) i j
group_goes b (in_group r w c g) = stmts_reads b r w c g

no_group_at : (b : Bound) {i j : List Token} → head i ≤ 12 → InGroup b i j → ⊥
no_group_at b l (in_group r w c g) = omega (arith, stmts_head r)

no_switch_at : (b : Bound) {i j : List Token} → 20 ≤ head i → InSwitch b i j → ⊥
no_switch_at b l (in_switch r c g) = omega (arith, groups_head r (headed c))

pub labels_fail : (b : Bound) {i r : List Token} → (head i ≡ 5 → ⊥) → Fails (SomeLabels b) i r → Fails (InSwitch b) i r
labels_fail b h f = fails_as (λ k j m a. switch_goes b (not_alike m h) a) (fails_first f)

pub group_fails : (b c : Bound) {i j r : List Token} → (head i ≡ 5 → ⊥) → SomeLabels c i j → Fails (InGroup b) j r → Fails (InSwitch b) i r
group_fails b c h l f = fails_as (λ k j m a. switch_goes b (not_alike m h) a) (fails_later (labels_fixes c b) l f)

pub stmt_fails : (b : Bound) {i r : List Token} → Fails (AStmt b) i r → Fails (InGroup b) i r
stmt_fails b f = fails_as (λ k j m a. group_goes b a) (fails_first f)

pub rest_fails : (b c : Bound) {i j r : List Token} → AStmt c i j → Fails (GroupRest b) j r → Fails (InGroup b) i r
rest_fails b c s f = fails_as (λ k j m a. group_goes b a) (fails_later (stmt_fixes c b) s f)

pub ended_fails : (b : Bound) {i r : List Token} → head i ≤ 12 → Fails (InSwitch b) i r → Fails (GroupRest b) i r
ended_fails b l f = fails_or_not f (fails_here (λ s m j a. no_group_at b (subst (λ n. n ≤ 12) (head_alike m) l) a))

pub going_fails : (b : Bound) {i r : List Token} → 20 ≤ head i → Fails (InGroup b) i r → Fails (GroupRest b) i r
going_fails b l f = fails_not_or (fails_here (λ s m j a. no_switch_at b (subst (λ n. 20 ≤ n) (head_alike m) l) a)) f
