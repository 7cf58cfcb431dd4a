-- Types of objects and of values that declarators make are closed under what the rules on expressions do with them.
use Rattle.std.proofs.Common.{◌≡◌, ℕ, true, false, List, refl}
use Rattle.c_tree.specs.Tree.{CType, void, pointer, array, struct, function, CTypes, no_types, more_types}
use Rattle.c_rules.specs.Names.{Name, is_among}
use Rattle.c_rules.specs.Conversions.{few_parts}
use Rattle.c_rules_laws.specs.MadeTypes.{NotArray}
use Rattle.c_rules_laws.specs.RightScopes.{IsThing}
use Rattle.null_calls_laws.specs.Spelled.{IsSpelled, AreSpelled, DeclaredTypesAreSpelled}
use Rattle.c_rules_laws.specs.ClosedTypes.{AreClosed}
use Rattle.null_calls_laws.specs.WrittenTypes.{Written, AllWritten, IsValueType}
use Rattle.c_syntax.specs.Tree.{named}
use Rattle.c_rules.specs.Expressions.{type_declared}
use Rattle.c_rules_laws.proofs.Holding.{held}
use Rattle.null_calls_laws.proofs.Declared.{type_written}
use Rattle.null_calls_laws.proofs.Spellings.{spellings_declare}

module _ (enums tags stood : List Name) where
  abbrev W : CType → Type 0
  W = Written enums tags stood

  abbrev V : CType → Type 0
  V = IsValueType enums tags stood

  pub may_stand : (t : CType) → W t → V t
  may_stand (pointer void) h = tt
  may_stand t h = h

  decayed : (t : CType) (n : ℕ) → V (array t n) → V (pointer t)
  decayed void n h = tt
  decayed t n h = h

  led : (t : CType) → IsThing t → V (pointer t) → W t
  led void k h = absurd k
  led t k h = h.2

  pointers : (t : CType) → NotArray t → W t → few_parts (pointer t) ≡ true → V (pointer t)
  pointers void n h f = tt
  pointers (array t k) n h f = absurd n
  pointers t n h f = (refl, f, h)

  pub written_closed : AreClosed W V
  written_closed = record {
    nothing = tt;
    integers = λ i. tt;
    strings = λ n. (refl, refl, tt);
    null = tt;
    loaded = may_stand;
    decayed = decayed;
    functions = λ t ts h f. (refl, f, h);
    led = led;
    results = λ t ts h. may_stand t h.3;
    pointers = pointers;
  }

  mutual
    pub spelled : (t : CType) → W t → IsSpelled enums tags t
    spelled (struct s) h = (h.0, h.1)
    spelled (pointer t) h = (h.0, h.1, spelled t h.2)
    spelled (array t n) h = (h.0, spelled t h.2)
    spelled (function r ts) h = (h.0, h.1, h.2, spelled r h.3, all_spelled ts h.4)
    spelled t h = tt

    pub all_spelled : (ts : CTypes) → AllWritten enums tags stood ts → AreSpelled enums tags ts
    all_spelled no_types h = tt
    all_spelled (more_types t ts) h = (h.0, h.1, spelled t h.2, all_spelled ts h.3)

-- where more tags stand before, and other enums
module _ (enums others tags stood more : List Name) (apart : (x : Name) → is_among stood x ≡ true → is_among enums x ≡ false → is_among others x ≡ false) (later : (x : Name) → is_among stood x ≡ true → is_among more x ≡ true) where
  mutual
    pub written_later : (t : CType) → Written enums tags stood t → Written others tags more t
    written_later (struct s) h = (h.0, apart _ h.2 h.1, later _ h.2)
    written_later (pointer t) h = (h.0, h.1, written_later t h.2)
    written_later (array t n) h = (h.0, h.1, written_later t h.2)
    written_later (function r ts) h = (h.0, h.1, h.2, written_later r h.3, all_written_later ts h.4)
    written_later t h = tt

    pub all_written_later : (ts : CTypes) → AllWritten enums tags stood ts → AllWritten others tags more ts
    all_written_later no_types h = tt
    all_written_later (more_types t ts) h = (h.0, h.1, written_later t h.2, all_written_later ts h.3)

-- it is written with the tags of the unit
pub declared_types_are_spelled : DeclaredTypesAreSpelled
declared_types_are_spelled env at here s d t x m e scalar =
    let tags : List Name = env.whole.tags in
    let written : Written env.enums tags tags t =
    held (Written env.enums tags tags) (type_declared env at s d) t (type_written env.enums tags tags env (record { enums_are = refl; tags_are = refl }) at s d (record { numbered = m; stand = m })) e in
    spellings_declare env here t (named here x) scalar (spelled env.enums tags tags t written)
