-- Specifiers are read whatever follows them.
use Rattle.std.proofs.Common.{◌≡◌, List, ◌∷◌, refl}
use Rattle.c_lexer.specs.declared.token.Token.{Token}
use Rattle.c_syntax.specs.Tree.{Storage, Spec}
use Rattle.c_syntax.specs.Tokens.{place}
use Rattle.c_syntax.specs.Specifiers.{Consts, no_const, a_const, ReadsStorage, no_storage_stands, static_stands, extern_stands, ReadsSpec, is_void, is_char, is_unsigned_char, is_int, is_signed, is_signed_int, is_unsigned, is_unsigned_int, is_struct, is_enum}
use Rattle.c_syntax_printing.specs.Twins.{Twin, here, along, On, OnAt}
use Rattle.c_syntax_printing.proofs.Twins.{glue, after, after_two}

pub consts_on : {i j : List Token} → Consts i j → (k : List Token) → On Consts i j k
consts_on no_const k = record { tokens = k; twin = here; reads = no_const }
consts_on (a_const {t = t} h c) k =
    let x = consts_on c k in record { tokens = t ∷ x.tokens; twin = along x.twin; reads = a_const h x.reads }

pub storage_on : {s : Storage} {i j : List Token} → ReadsStorage s i j → (k : List Token) → On (ReadsStorage s) i j k
storage_on no_storage_stands k = record { tokens = k; twin = here; reads = no_storage_stands }
storage_on (static_stands {t = t} h) k = record { tokens = t ∷ k; twin = along here; reads = static_stands h }
storage_on (extern_stands {t = t} h) k = record { tokens = t ∷ k; twin = along here; reads = extern_stands h }

-- and at the same place, where what follows is
pub storage_at : {s : Storage} {i j : List Token} → ReadsStorage s i j → (k : List Token) → place j ≡ place k → OnAt (ReadsStorage s) i j k
storage_at no_storage_stands k q = record { tokens = k; twin = here; reads = no_storage_stands; same = q }
storage_at (static_stands {t = t} h) k q = record { tokens = t ∷ k; twin = along here; reads = static_stands h; same = refl }
storage_at (extern_stands {t = t} h) k q = record { tokens = t ∷ k; twin = along here; reads = extern_stands h; same = refl }

-- lists with a common front begin at one place, where a token stands in it
pub placed : {t : Token} {r s i k : List Token} → Twin (t ∷ r) (t ∷ s) i k → place i ≡ place k
placed here = refl
placed (along q) = refl

pub spec_on : {s : Spec} {i j : List Token} → ReadsSpec s i j → (k : List Token) → OnAt (ReadsSpec s) i j k
spec_on (is_void {t = t} a h b) k =
    let y = consts_on b k in let x = consts_on a (t ∷ y.tokens) in
    record { tokens = x.tokens; twin = glue y.twin (after x.twin); reads = is_void x.reads h y.reads; same = placed x.twin }
spec_on (is_char {t = t} a h b) k =
    let y = consts_on b k in let x = consts_on a (t ∷ y.tokens) in
    record { tokens = x.tokens; twin = glue y.twin (after x.twin); reads = is_char x.reads h y.reads; same = placed x.twin }
spec_on (is_unsigned_char {t = t} {u = u} a h b g c) k =
    let z = consts_on c k in let y = consts_on b (u ∷ z.tokens) in let x = consts_on a (t ∷ y.tokens) in
    record { tokens = x.tokens; twin = glue z.twin (glue (after y.twin) (after x.twin)); reads = is_unsigned_char x.reads h y.reads g z.reads; same = placed x.twin }
spec_on (is_int {t = t} a h b) k =
    let y = consts_on b k in let x = consts_on a (t ∷ y.tokens) in
    record { tokens = x.tokens; twin = glue y.twin (after x.twin); reads = is_int x.reads h y.reads; same = placed x.twin }
spec_on (is_signed {t = t} a h b) k =
    let y = consts_on b k in let x = consts_on a (t ∷ y.tokens) in
    record { tokens = x.tokens; twin = glue y.twin (after x.twin); reads = is_signed x.reads h y.reads; same = placed x.twin }
spec_on (is_signed_int {t = t} {u = u} a h b g c) k =
    let z = consts_on c k in let y = consts_on b (u ∷ z.tokens) in let x = consts_on a (t ∷ y.tokens) in
    record { tokens = x.tokens; twin = glue z.twin (glue (after y.twin) (after x.twin)); reads = is_signed_int x.reads h y.reads g z.reads; same = placed x.twin }
spec_on (is_unsigned {t = t} a h b) k =
    let y = consts_on b k in let x = consts_on a (t ∷ y.tokens) in
    record { tokens = x.tokens; twin = glue y.twin (after x.twin); reads = is_unsigned x.reads h y.reads; same = placed x.twin }
spec_on (is_unsigned_int {t = t} {u = u} a h b g c) k =
    let z = consts_on c k in let y = consts_on b (u ∷ z.tokens) in let x = consts_on a (t ∷ y.tokens) in
    record { tokens = x.tokens; twin = glue z.twin (glue (after y.twin) (after x.twin)); reads = is_unsigned_int x.reads h y.reads g z.reads; same = placed x.twin }
spec_on (is_struct {t = t} {u = u} a h n b) k =
    let y = consts_on b k in let x = consts_on a (t ∷ u ∷ y.tokens) in
    record { tokens = x.tokens; twin = glue y.twin (after_two x.twin); reads = is_struct x.reads h n y.reads; same = placed x.twin }
spec_on (is_enum {t = t} {u = u} a h n b) k =
    let y = consts_on b k in let x = consts_on a (t ∷ u ∷ y.tokens) in
    record { tokens = x.tokens; twin = glue y.twin (after_two x.twin); reads = is_enum x.reads h n y.reads; same = placed x.twin }
