-- White space and tokens that stand at one place.
use Rattle.std.proofs.Common.{◌≡◌, ℕ, suc, ◌+◌, ◌<◌, ◌≤◌, List, [], ◌∷◌, ◌++◌, length, drop, get_or, refl, sym, ap, ◌∙◌, subst, ⊎_elim, arith, append_assoc, length-append}
use Rattle.std.proofs.lemmas.Bool.{cases_lt}
use Rattle.c_lexer.specs.declared.token.TokenKind.{TokenKind}
use Rattle.c_lexer.specs.Kinds.{Spells}
use Rattle.c_lexer.specs.TokenSpelling.{IsBlank, IsInLine, IsLineEnd, IsLineComment, IsBlockComment, HasEndAfter, IsLineMarker, IsWhite, blank, line_comment, block_comment, line_marker, IsToken}
use Rattle.c_lexer.proofs.KindsBegin.{spelled_is_lexeme, begins as begins_by, FirstOf, spelled_first, first_no_marker, first_no_blank}
use Rattle.c_lexer.proofs.OneTokenKinds.{one_kind}
use Rattle.c_lexer.proofs.LiteralOne.{same_parts}

-- a line's front is one
in_line_rest : (b : ℕ) (w : List ℕ) → IsInLine (b ∷ w) → IsInLine w
in_line_rest b w in_line (k, below, is) = in_line (suc k, omega arith, is)

feed_in_line : (b : ℕ) (w : List ℕ) → IsInLine (b ∷ w) → b ≡ 10 → ⊥
feed_in_line b w in_line feed = in_line (0, omega arith, feed)

ends_at_feed : (i rest : List ℕ) (b : ℕ) → IsLineEnd i → i ≡ b ∷ rest → b ≡ 10
ends_at_feed [] rest b ended is = cc
ends_at_feed (c ∷ i) rest b ended is = let same : c ≡ b = cc in sym same ∙ ended

same_line : (v w r s : List ℕ) → v ++ r ≡ w ++ s → IsInLine v → IsInLine w → IsLineEnd r → IsLineEnd s → v ≡ w
same_line [] [] r s is p q e f = refl
same_line [] (c ∷ w) r s is p q e f = absurd (feed_in_line c w q (ends_at_feed r (w ++ s) c e is))
same_line (b ∷ v) [] r s is p q e f = absurd (feed_in_line b v p (ends_at_feed s (v ++ r) b f (sym is)))
same_line (b ∷ v) (c ∷ w) r s is p q e f =
    let first : b ≡ c = cc in
    let later : v ++ r ≡ w ++ s = cc in
    let rest : v ≡ w = same_line v w r s later (in_line_rest b v p) (in_line_rest c w q) e f in
    cc

-- the shorter of two fronts begins the longer
front_of : (a b x y : List ℕ) → a ++ x ≡ b ++ y → length a ≤ length b → (t : List ℕ) × (b ≡ a ++ t)
front_of [] b x y is short = (b, refl)
front_of (c ∷ a) [] x y is short = absurd (omega arith)
front_of (c ∷ a) (d ∷ b) x y is short =
    let first : c ≡ d = cc in
    let later : a ++ x ≡ b ++ y = cc in
    let rest = front_of a b x y later (omega arith) in
    let same : b ≡ a ++ rest.0 = rest.1 in
    (rest.0, cc)

-- a comment's end is one
comment_least : (v w r s : List ℕ) (p : IsBlockComment v) (q : IsBlockComment w) → v ++ r ≡ w ++ s → length p.inner < length q.inner → ⊥
comment_least v w r s p q is low =
    let whole : (p.inner ++ 42 ∷ 47 ∷ []) ++ r ≡ (q.inner ++ 42 ∷ 47 ∷ []) ++ s = ap (drop 2) (ap (λ x. x ++ r) (sym p.is) ∙ is ∙ ap (λ x. x ++ s) q.is) in
    let long = length-append p.inner (42 ∷ 47 ∷ []) in
    let long' = length-append q.inner (42 ∷ 47 ∷ []) in
    let front = front_of (p.inner ++ 42 ∷ 47 ∷ []) (q.inner ++ 42 ∷ 47 ∷ []) r s whole (omega arith) in
    let has : HasEndAfter p.inner (q.inner ++ 42 ∷ 47 ∷ []) = (front.0, front.1 ∙ append_assoc p.inner (42 ∷ 47 ∷ []) front.0) in
    omega (arith, q.first p.inner has)

comment_length : (v : List ℕ) (p : IsBlockComment v) → length v ≡ length p.inner + 4
comment_length v p = let e = ap length p.is in omega (arith, length-append p.inner (42 ∷ 47 ∷ []))

same_comment : (v w r s : List ℕ) → IsBlockComment v → IsBlockComment w → v ++ r ≡ w ++ s → v ≡ w
same_comment v w r s p q is =
    let long = comment_length v p in
    let long' = comment_length w q in
    let same : length v ≡ length w =
    ⊎_elim (λ low. absurd (comment_least v w r s p q is low))
    (λ above. ⊎_elim (λ low. absurd (comment_least w v s r q p (sym is) low)) (λ below. omega arith) (cases_lt (length q.inner) (length p.inner)))
    (cases_lt (length p.inner) (length q.inner)) in
    (same_parts v w r s is same).0

-- the first bytes of white space
line_starts : (w rest : List ℕ) → IsLineComment w rest → (t : List ℕ) × (w ++ rest ≡ 47 ∷ 47 ∷ t)
line_starts w rest h = (h.0.0 ++ rest, ap (λ v. v ++ rest) h.0.1)

block_starts : (w rest : List ℕ) → IsBlockComment w → (t : List ℕ) × (w ++ rest ≡ 47 ∷ 42 ∷ t)
block_starts w rest h = (_, ap (λ v. v ++ rest) h.is)

marker_starts : (front w rest : List ℕ) → IsLineMarker front w rest → (t : List ℕ) × (w ++ rest ≡ 35 ∷ t)
marker_starts front w rest h = (_, ap (λ v. v ++ rest) h.is)

pub blank_low : (b : ℕ) → IsBlank b → 33 ≤ b → ⊥
blank_low b h above = grind arith

first_above : (kind : TokenKind) (b : ℕ) → FirstOf kind b → 33 ≤ b
first_above kind b first = ⊎_elim (λ low. absurd (first_no_blank kind b first (omega arith))) (λ above. above) (cases_lt b 33)

-- texts that begin with other bytes are others
blank_apart : (b c : ℕ) (r t i : List ℕ) → IsBlank b → b ∷ r ≡ i → i ≡ c ∷ t → 33 ≤ c → ⊥
blank_apart b c r t i h is is' above = blank_low b h (let e : b ∷ r ≡ c ∷ t = is ∙ is' in let same : b ≡ c = cc in omega arith)

first_apart : (i j t u : List ℕ) (b c : ℕ) → i ≡ b ∷ t → j ≡ c ∷ u → i ≡ j → b < c → ⊥
first_apart i j t u b c is is' same low = omega (arith, ap (λ v. get_or v 0 0) (sym is ∙ same ∙ is'))

second_apart : (i j t u : List ℕ) (a d b c : ℕ) → i ≡ a ∷ b ∷ t → j ≡ d ∷ c ∷ u → i ≡ j → b < c → ⊥
second_apart i j t u a d b c is is' same low = omega (arith, ap (λ v. get_or v 1 0) (sym is ∙ same ∙ is'))

-- one piece of white space stands at a place
pub one_white : (front v w r s : List ℕ) → IsWhite front v r → IsWhite front w s → v ++ r ≡ w ++ s → v ≡ w
one_white front v w r s (blank {b} h) (blank {b = c} k) is = cc
one_white front v w r s (blank {b} h) (line_comment k) is = let t = line_starts w s k in absurd (blank_apart b 47 r (47 ∷ t.0) (w ++ s) h is t.1 (omega arith))
one_white front v w r s (blank {b} h) (block_comment k) is = let t = block_starts w s k in absurd (blank_apart b 47 r (42 ∷ t.0) (w ++ s) h is t.1 (omega arith))
one_white front v w r s (blank {b} h) (line_marker k) is = let t = marker_starts front w s k in absurd (blank_apart b 35 r t.0 (w ++ s) h is t.1 (omega arith))
one_white front v w r s (line_comment h) (blank {b = c} k) is = let t = line_starts v r h in absurd (blank_apart c 47 s (47 ∷ t.0) (v ++ r) k (sym is) t.1 (omega arith))
one_white front v w r s (line_comment h) (line_comment k) is = same_line v w r s is h.1 k.1 h.2 k.2
one_white front v w r s (line_comment h) (block_comment k) is = let t = line_starts v r h in let u = block_starts w s k in absurd (second_apart (w ++ s) (v ++ r) u.0 t.0 47 47 42 47 u.1 t.1 (sym is) (omega arith))
one_white front v w r s (line_comment h) (line_marker k) is = let t = line_starts v r h in let u = marker_starts front w s k in absurd (first_apart (w ++ s) (v ++ r) u.0 (47 ∷ t.0) 35 47 u.1 t.1 (sym is) (omega arith))
one_white front v w r s (block_comment h) (blank {b = c} k) is = let t = block_starts v r h in absurd (blank_apart c 47 s (42 ∷ t.0) (v ++ r) k (sym is) t.1 (omega arith))
one_white front v w r s (block_comment h) (line_comment k) is = let t = block_starts v r h in let u = line_starts w s k in absurd (second_apart (v ++ r) (w ++ s) t.0 u.0 47 47 42 47 t.1 u.1 is (omega arith))
one_white front v w r s (block_comment h) (block_comment k) is = same_comment v w r s h k is
one_white front v w r s (block_comment h) (line_marker k) is = let t = block_starts v r h in let u = marker_starts front w s k in absurd (first_apart (w ++ s) (v ++ r) u.0 (42 ∷ t.0) 35 47 u.1 t.1 (sym is) (omega arith))
one_white front v w r s (line_marker h) (blank {b = c} k) is = let t = marker_starts front v r h in absurd (blank_apart c 35 s t.0 (v ++ r) k (sym is) t.1 (omega arith))
one_white front v w r s (line_marker h) (line_comment k) is = let t = marker_starts front v r h in let u = line_starts w s k in absurd (first_apart (v ++ r) (w ++ s) t.0 (47 ∷ u.0) 35 47 t.1 u.1 is (omega arith))
one_white front v w r s (line_marker h) (block_comment k) is = let t = marker_starts front v r h in let u = block_starts w s k in absurd (first_apart (v ++ r) (w ++ s) t.0 (42 ∷ u.0) 35 47 t.1 u.1 is (omega arith))
one_white front v w r s (line_marker h) (line_marker k) is = same_line v w r s is h.in_line k.in_line h.ended k.ended

-- no token stands where white space does
token_first : (kind : TokenKind) (w s i t : List ℕ) (b : ℕ) → IsToken kind w s → i ≡ w ++ s → i ≡ b ∷ t → FirstOf kind b
token_first kind w s i t b token is begins = spelled_first kind w s t b token.spells (sym is ∙ begins)

pub no_token_in_white : (front : List ℕ) (kind : TokenKind) (v w r s : List ℕ) → IsWhite front v r → IsToken kind w s → v ++ r ≡ w ++ s → ⊥
no_token_in_white front kind v w r s (blank {b} h) token is = blank_low b h (first_above kind b (token_first kind w s (b ∷ r) r b token is refl))
no_token_in_white front kind v w r s (line_comment h) token is = let t = line_starts v r h in token.no_line_comment (t.0, sym is ∙ t.1)
no_token_in_white front kind v w r s (block_comment h) token is = let t = block_starts v r h in token.no_block_comment (t.0, sym is ∙ t.1)
no_token_in_white front kind v w r s (line_marker h) token is = let t = marker_starts front v r h in first_no_marker kind (token_first kind w s (v ++ r) t.0 35 token is t.1)

-- one token stands at a place
pub one_token : (kind other : TokenKind) (v w r s : List ℕ) → IsToken kind v r → IsToken other w s → v ++ r ≡ w ++ s → (v ≡ w) × (kind ≡ other)
one_token kind other v w r s p q is =
    let long : length w ≤ length v = p.longest w s is (spelled_is_lexeme other w q.spells) in
    let long' : length v ≤ length w = q.longest v r (sym is) (spelled_is_lexeme kind v p.spells) in
    let same = (same_parts v w r s is (omega arith)).0 in
    (same, one_kind kind other w (subst (Spells kind) same p.spells) q.spells)

-- neither is empty
pub white_some : (front w rest : List ℕ) → IsWhite front w rest → 0 < length w
white_some front w rest (blank h) = omega arith
white_some front w rest (line_comment h) = let e = ap length h.0.1 in omega arith
white_some front w rest (block_comment h) = omega (arith, comment_length w h)
white_some front w rest (line_marker h) = let e = ap length h.is in omega arith

pub token_some : (kind : TokenKind) (w rest : List ℕ) → IsToken kind w rest → 0 < length w
token_some kind w rest token = let first = begins_by kind w token.spells in let e = ap length first.2 in omega arith
