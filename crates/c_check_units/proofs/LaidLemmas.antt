-- The variables of a function, and their cells.
use Rattle.std.proofs.Common.{◌≡◌, ℕ, ◌+◌, ◌<◌, ◌≤◌, List, [], ◌∷◌, ◌++◌, length, drop, get_or, refl, ap, sym, subst, ◌∙◌, arith, append_assoc, length-append, Vec, Global}
use Rattle.std.proofs.lemmas.List.{drop_all, map-append}
use Rattle.std.specs.Prelude.{◌^◌, Option, None, SomeIff, nat_le}
use Rattle.std.proofs.lemmas.Bool.{le-leb}
use Rattle.c_check_values.proofs.PartsOfTypes.{at_place}
use Rattle.c_rules.specs.Checked.{demand, fine}
use Rattle.c_tree.proofs.Rows.{block_is}
use Rattle.c_tree.specs.declared.tree.TStmt.{TStmt}
use Rattle.c_tree.specs.declared.tree.TStmt.TheVariants.{Block}
use Rattle.c_tree.specs.declared.tree.CType.{CType as TypeTree}
use Rattle.c_tree.specs.Layout.{Structs, cells, cells_of_all, flat, flat_all}
use Rattle.c_tree.specs.Tree.{CType, Function, Stmt, block, list_of}
use Rattle.c_tree.specs.View.{ctype_of, ctypes_of, stmt_of, stmts_of, types_of}

-- ## Cells

cells_more : (structs : Structs) (t : CType) (ts : List CType) → cells_of_all structs (t ∷ ts) ≡ cells structs t + cells_of_all structs ts
cells_more structs t ts = length-append (flat structs t) (flat_all structs ts)

pub cells_on : (structs : Structs) (ts : List TypeTree) (i : ℕ) (t : TypeTree) (sum own new whole : ℕ) → i < length ts → t ≡ get_or ts i t → new ≡ sum + own → own ≡ cells structs (ctype_of t)
    → sum + cells_of_all structs (ctypes_of (drop i ts)) ≡ whole → new + cells_of_all structs (ctypes_of (drop (i + 1) ts)) ≡ whole
cells_on structs ts i t sum own new whole lt is step each before =
    let p : sum + cells_of_all structs (ctype_of t ∷ ctypes_of (drop (i + 1) ts)) ≡ whole = subst (λ l. sum + cells_of_all structs (ctypes_of l) ≡ whole) (at_place ts i t lt is) before in
    let q : cells_of_all structs (ctype_of t ∷ ctypes_of (drop (i + 1) ts)) ≡ cells structs (ctype_of t) + cells_of_all structs (ctypes_of (drop (i + 1) ts)) = cells_more structs (ctype_of t) (ctypes_of (drop (i + 1) ts)) in
    omega (arith, p, q, step, each)

-- none is told of types one of which takes 2^32 cells, alone or behind others
pub no_type : (structs : Structs) (r : Option ℕ) (ts : List TypeTree) (i : ℕ) (t : TypeTree) (sum : ℕ) → r ≡ None → i < length ts → t ≡ get_or ts i t
    → sum + cells_of_all structs (ctypes_of (drop i ts)) ≡ cells_of_all structs (ctypes_of ts) → ¬ (cells structs (ctype_of t) < 2 ^ 32)
    → SomeIff r (cells_of_all structs (ctypes_of ts) < 2 ^ 32) (cells_of_all structs (ctypes_of ts))
no_type structs r ts i t sum none lt is before many =
    let p : sum + cells_of_all structs (ctype_of t ∷ ctypes_of (drop (i + 1) ts)) ≡ cells_of_all structs (ctypes_of ts) = subst (λ l. sum + cells_of_all structs (ctypes_of l) ≡ cells_of_all structs (ctypes_of ts)) (at_place ts i t lt is) before in
    let q : cells_of_all structs (ctype_of t ∷ ctypes_of (drop (i + 1) ts)) ≡ cells structs (ctype_of t) + cells_of_all structs (ctypes_of (drop (i + 1) ts)) = cells_more structs (ctype_of t) (ctypes_of (drop (i + 1) ts)) in
    subst (λ o. SomeIff o (cells_of_all structs (ctypes_of ts) < 2 ^ 32) (cells_of_all structs (ctypes_of ts))) (sym none) (λ small. many (omega (arith, p, q, small)))

pub none_behind : (structs : Structs) (r : Option ℕ) (ts : List TypeTree) (i : ℕ) (t : TypeTree) (sum own : ℕ) → r ≡ None → i < length ts → t ≡ get_or ts i t → own ≡ cells structs (ctype_of t)
    → sum + cells_of_all structs (ctypes_of (drop i ts)) ≡ cells_of_all structs (ctypes_of ts) → ¬ (sum + own < 2 ^ 32)
    → SomeIff r (cells_of_all structs (ctypes_of ts) < 2 ^ 32) (cells_of_all structs (ctypes_of ts))
none_behind structs r ts i t sum own none lt is each before many =
    let p : sum + cells_of_all structs (ctype_of t ∷ ctypes_of (drop (i + 1) ts)) ≡ cells_of_all structs (ctypes_of ts) = subst (λ l. sum + cells_of_all structs (ctypes_of l) ≡ cells_of_all structs (ctypes_of ts)) (at_place ts i t lt is) before in
    let q : cells_of_all structs (ctype_of t ∷ ctypes_of (drop (i + 1) ts)) ≡ cells structs (ctype_of t) + cells_of_all structs (ctypes_of (drop (i + 1) ts)) = cells_more structs (ctype_of t) (ctypes_of (drop (i + 1) ts)) in
    subst (λ o. SomeIff o (cells_of_all structs (ctypes_of ts) < 2 ^ 32) (cells_of_all structs (ctypes_of ts))) (sym none) (λ small. many (omega (arith, p, q, each, small)))

pub cells_end : (structs : Structs) (ts : List TypeTree) (i sum : ℕ) → length ts ≤ i → sum + cells_of_all structs (ctypes_of (drop i ts)) ≡ cells_of_all structs (ctypes_of ts) → sum < 2 ^ 32
    → (cells_of_all structs (ctypes_of ts) < 2 ^ 32) × (sum ≡ cells_of_all structs (ctypes_of ts))
cells_end structs ts i sum over before small =
    let p : sum + cells_of_all structs [] ≡ cells_of_all structs (ctypes_of ts) = subst (λ l. sum + cells_of_all structs (ctypes_of l) ≡ cells_of_all structs (ctypes_of ts)) (drop_all i ts over) before in
    let z : cells_of_all structs [] ≡ 0 = refl in
    (omega (arith, p, z, small), omega (arith, p, z))

-- ## Types of variables

types_listed : (ts : List TypeTree) → list_of (types_of ts) ≡ ctypes_of ts
types_listed [] = refl
types_listed (t ∷ ts) = ap (λ us. ctype_of t ∷ us) (types_listed ts)

pub variables_are : (ps copied plain added v : List TypeTree) → ctypes_of copied ≡ ctypes_of ps → v ≡ (copied ++ plain) ++ added → ctypes_of v ≡ list_of (types_of ps) ++ (ctypes_of plain ++ ctypes_of added)
variables_are ps copied plain added v same is =
    ap ctypes_of is
    ∙ (map-append ctype_of (copied ++ plain) added
    ∙ (ap (λ ts. ts ++ ctypes_of added) (map-append ctype_of copied plain)
    ∙ (append_assoc (ctypes_of copied) (ctypes_of plain) (ctypes_of added) ∙ ap (λ ts. ts ++ (ctypes_of plain ++ ctypes_of added)) (same ∙ sym (types_listed ps)))))

-- ## Functions

abbrev function_made : List ℕ → CType → List CType → Stmt → Function
function_made n t vs body = record { name = n; ctype = t; variables = vs; body = body }

pub same_function : (n m : List ℕ) (t : CType) (vs : List CType) (tree : Vec TStmt Global) → n ≡ m → function_made m t vs (block (stmts_of tree.items)) ≡ function_made n t vs (stmt_of (Block tree))
same_function n m t vs tree is = λ i. function_made (sym is i) t vs (sym (block_is tree) i)

pub laid_within : (structs : Structs) (vs ws : List TypeTree) (own most limit at : ℕ) (f g : Function) → own ≡ cells_of_all structs (ctypes_of ws) → ws ≡ vs → own ≤ most → most ≡ limit → f ≡ g → demand (nat_le (cells_of_all structs (ctypes_of vs)) limit) 13 at f ≡ fine g
laid_within structs vs ws own most limit at f g count same few is made =
    let total : own ≡ cells_of_all structs (ctypes_of vs) = count ∙ ap (λ xs. cells_of_all structs (ctypes_of xs)) same in
    let within : cells_of_all structs (ctypes_of vs) ≤ limit = omega (arith, total, few, is) in
    ap (λ b. demand b 13 at f) (le-leb (cells_of_all structs (ctypes_of vs)) limit within) ∙ ap fine made
