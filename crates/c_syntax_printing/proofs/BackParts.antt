-- What is read back of a part, and what is seen of it without places.
use Rattle.std.proofs.Common.{◌≡◌, ℕ, Bool, true, false, List, ◌∷◌, refl, ap}
use Rattle.c_lexer.specs.declared.token.Token.{Token}
use Rattle.c_lexer.specs.declared.token.TokenKind.{TokenKind}
use Rattle.c_lexer.specs.declared.token.TokenKind.TheVariants.{Name, Keyword}
use Rattle.c_lexer.specs.declared.keyword.TheConstants as w
use Rattle.c_syntax.specs.Tree.{Ident, Storage, no_storage, static, extern, Spec, void, char, unsigned_char, int, unsigned_int, struct, enum}
use Rattle.c_syntax.specs.Tree.{Expr}
use Rattle.c_syntax.specs.Tree.{Declarator, nothing, pointer, array, function, Params, no_params, more_params}
use Rattle.c_syntax.specs.Tokens.{place}
use Rattle.c_syntax.specs.Specifiers.{Names, no_const, ReadsStorage, no_storage_stands, static_stands, extern_stands, ReadsSpec, is_void, is_char, is_unsigned_char, is_int, is_unsigned_int, is_struct, is_enum}
use Rattle.c_syntax.specs.Grammar.{Level, Reads, Declares, a_direct, ReadsCore, Lengthens, IsThere, HasName, HasNoName, AreSome}
use Rattle.c_syntax.specs.Same.{unplaced_ident, unplaced_spec, unplaced, unplaced_declarator, unplaced_params}
use Rattle.c_syntax.specs.Print.{storage_kinds, spec_kinds, is_direct}
use Rattle.c_syntax.proofs.BackTokens.{kinds, Heads, headed, word, BackOf, begins_at, two, kept, joined_lengthens}

pub record BackStorage (s : Storage) (ts : List Token) (k : List TokenKind) : Type 0 where
  pub after : List Token
  pub reads : ReadsStorage s ts after
  pub left : kinds after ≡ k

pub back_storage : (s : Storage) (ts : List Token) (k : List TokenKind) → kinds ts ≡ storage_kinds s k → BackStorage s ts k
back_storage no_storage ts k q = record { after = ts; reads = no_storage_stands; left = q }
back_storage static ts k q = let h = headed (Keyword w.STATIC) ts k q in record { after = h.rest; reads = begins_at (ReadsStorage static) h.is (static_stands (word h)); left = h.left }
back_storage extern ts k q = let h = headed (Keyword w.EXTERN) ts k q in record { after = h.rest; reads = begins_at (ReadsStorage extern) h.is (extern_stands (word h)); left = h.left }

-- a name that stands first
pub record BackName (x : Ident) (ts : List Token) (k : List TokenKind) : Type 0 where
  pub heads : Heads (Name x.name) ts k
  pub ident : Ident
  pub names : Names ident heads.token
  pub same : unplaced_ident ident ≡ unplaced_ident x

pub back_name : (x : Ident) (ts : List Token) (k : List TokenKind) → kinds ts ≡ Name x.name ∷ k → BackName x ts k
back_name x ts k q =
    let h = headed (Name x.name) ts k q in
    record { heads = h; ident = record { name = x.name; at = h.token.from }; names = record { name = record { kind = h.kind }; at = refl }; same = refl }

pub back_spec : (s : Spec) (ts : List Token) (k : List TokenKind) → kinds ts ≡ spec_kinds s k → BackOf ReadsSpec unplaced_spec s ts k
back_spec void ts k q = let h = headed (Keyword w.VOID) ts k q in record { tree = void; after = h.rest; reads = begins_at (ReadsSpec void) h.is (is_void no_const (word h) no_const); same = refl; left = h.left }
back_spec char ts k q = let h = headed (Keyword w.CHAR) ts k q in record { tree = char; after = h.rest; reads = begins_at (ReadsSpec char) h.is (is_char no_const (word h) no_const); same = refl; left = h.left }
back_spec unsigned_char ts k q =
    let h = headed (Keyword w.UNSIGNED) ts (Keyword w.CHAR ∷ k) q in let g = headed (Keyword w.CHAR) h.rest k h.left in
    record {
      tree = unsigned_char;
      after = g.rest;
      reads = begins_at (ReadsSpec unsigned_char) (two h.is g.is) (is_unsigned_char no_const (word h) no_const (word g) no_const);
      same = refl;
      left = g.left;
    }
back_spec int ts k q = let h = headed (Keyword w.INT) ts k q in record { tree = int; after = h.rest; reads = begins_at (ReadsSpec int) h.is (is_int no_const (word h) no_const); same = refl; left = h.left }
back_spec unsigned_int ts k q =
    let h = headed (Keyword w.UNSIGNED) ts (Keyword w.INT ∷ k) q in let g = headed (Keyword w.INT) h.rest k h.left in
    record {
      tree = unsigned_int;
      after = g.rest;
      reads = begins_at (ReadsSpec unsigned_int) (two h.is g.is) (is_unsigned_int no_const (word h) no_const (word g) no_const);
      same = refl;
      left = g.left;
    }
back_spec (struct x) ts k q =
    let h = headed (Keyword w.STRUCT) ts (Name x.name ∷ k) q in let g = back_name x h.rest k h.left in
    record {
      tree = struct g.ident;
      after = g.heads.rest;
      reads = begins_at (ReadsSpec (struct g.ident)) (two h.is g.heads.is) (is_struct no_const (word h) g.names no_const);
      same = ap struct g.same;
      left = g.heads.left;
    }
back_spec (enum x) ts k q =
    let h = headed (Keyword w.ENUM) ts (Name x.name ∷ k) q in let g = back_name x h.rest k h.left in
    record {
      tree = enum g.ident;
      after = g.heads.rest;
      reads = begins_at (ReadsSpec (enum g.ident)) (two h.is g.heads.is) (is_enum no_const (word h) g.names no_const);
      same = ap enum g.same;
      left = g.heads.left;
    }

-- what is read back of an expression at a level, within d pairs
abbrev pub Back : Level → ℕ → Expr → List Token → List TokenKind → Type 0
Back l d e ts k = BackOf (Reads d l) unplaced e ts k

-- a declarator that array sizes and parameters may follow
pub record Direct (d : ℕ) (e : Declarator) (i j : List Token) : Type 0 where
  pub at : ℕ
  pub core : Declarator
  pub middle : List Token
  pub is : at ≡ place i
  pub reads : ReadsCore d core i middle
  pub longer : Lengthens d at core e middle j

abbrev pub DeclaresAs : Bool → ℕ → Declarator → List Token → List Token → Type 0
DeclaresAs true d e i j = Direct d e i j
DeclaresAs false d e i j = Declares d e i j

abbrev pub BackDeclarator : Bool → ℕ → Declarator → List Token → List TokenKind → Type 0
BackDeclarator b d e ts k = BackOf (DeclaresAs b d) unplaced_declarator e ts k

pub declares_of : (b : Bool) {d : ℕ} {e : Declarator} {i j : List Token} → DeclaresAs b d e i j → Declares d e i j
declares_of true r = a_direct r.is r.reads r.longer
declares_of false r = r

pub lengthened_by : {F : ℕ → Declarator} {d : ℕ} {a : Declarator} {i j k : List Token} → Direct d a i j → ((at : ℕ) → Lengthens d at a (F at) j k) → (at : ℕ) × Direct d (F at) i k
lengthened_by r f = (r.at, record { at = r.at; core = r.core; middle = r.middle; is = r.is; reads = r.reads; longer = joined_lengthens r.longer (f r.at) })

-- What stands in a declarator or in parameters is seen without places.
name_alike : (e : Declarator) → HasName (unplaced_declarator e) ≡ HasName e
name_alike (pointer at e) = name_alike e
name_alike (array at e size) = name_alike e
name_alike (function at e ps) = name_alike e
name_alike e = refl

no_name_alike : (e : Declarator) → HasNoName (unplaced_declarator e) ≡ HasNoName e
no_name_alike (pointer at e) = no_name_alike e
no_name_alike (array at e size) = no_name_alike e
no_name_alike (function at e ps) = no_name_alike e
no_name_alike e = refl

there_alike : (e : Declarator) → IsThere (unplaced_declarator e) ≡ IsThere e
there_alike nothing = refl
there_alike e = refl

some_alike : (ps : Params) → AreSome (unplaced_params ps) ≡ AreSome ps
some_alike (more_params at void nothing no_params) = refl
some_alike ps = refl

pub has_name : (e f : Declarator) → unplaced_declarator f ≡ unplaced_declarator e → HasName e → HasName f
has_name = kept HasName unplaced_declarator name_alike

pub has_no_name : (e f : Declarator) → unplaced_declarator f ≡ unplaced_declarator e → HasNoName e → HasNoName f
has_no_name = kept HasNoName unplaced_declarator no_name_alike

pub is_there : (e f : Declarator) → unplaced_declarator f ≡ unplaced_declarator e → IsThere e → IsThere f
is_there = kept IsThere unplaced_declarator there_alike

pub are_some_too : (ps qs : Params) → unplaced_params qs ≡ unplaced_params ps → AreSome ps → AreSome qs
are_some_too = kept AreSome unplaced_params some_alike

-- only a pointer is not direct
pub there_if : (e : Declarator) → is_direct e ≡ false → IsThere e
there_if nothing q = absurd (cc)
there_if e q = tt
