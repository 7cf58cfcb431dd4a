-- Temporaries in turn, and items of a block before others.
use Rattle.std.proofs.Common.{◌≡◌, ℕ, zero, suc, ◌+◌, ◌<◌, ◌≤◌, List, [], ◌∷◌, ◌++◌, length, drop, get_or, refl, ap, sym, ◌∙◌, arith, add-one, drop-cons}
use Rattle.std.proofs.lemmas.List.{append_assoc, append-nil}
use Rattle.c_tree.specs.declared.tree.CType.{CType as TypeTree}
use Rattle.c_tree.specs.View.{ctype_of, types_of}
use Rattle.c_syntax.specs.declared.tree.BlockItem.{BlockItem}
use Rattle.c_syntax.specs.Tree.{Decl, BlockItems, block_decl}
use Rattle.c_syntax.specs.UnitView.{block_item_before}
use Rattle.c_syntax.specs.WritesUnit.{block_items_of}
use Rattle.c_rules.specs.Names.{Name}
use Rattle.null_calls_laws.specs.Temporaries as term
use Rattle.null_calls_laws.specs.Temporaries.{arguments_kept, argument_name, declaration_of, declared_before}
use Rattle.null_calls_temporaries.specs.declared.temporaries.Temporary.{Temporary}
use Rattle.null_calls_temporaries.specs.Kept.{temporary_of, temporaries_of, items_onto}

-- the element at a place of a list, and what stands after it
pub at_place : {A : Type 0} (es : List A) (i : ℕ) (d : A) → i < length es → d ≡ get_or es i d → drop i es ≡ d ∷ drop (i + 1) es
at_place es i d h q = rw (add-one, drop-cons es i d h, ← q) refl

none_gone : (A : Type 0) (i : ℕ) → drop {A = A} i [] ≡ []
none_gone A zero = refl
none_gone A (suc i) = refl

pub all_gone : {A : Type 0} (es : List A) (i : ℕ) → length es ≤ i → drop i es ≡ []
all_gone {A = A} [] i le = none_gone A i
all_gone (x ∷ xs) zero le = absurd (omega (arith, le))
all_gone (x ∷ xs) (suc i) le = all_gone xs i (omega (arith, le))

-- ## Arguments

pub argument_more : (site : ℕ) (ts : List TypeTree) (i : ℕ) (t : TypeTree) (old new whole : List term.Temporary) → i < length ts → t ≡ get_or ts i t
    → old ++ arguments_kept site i (types_of (drop i ts)) ≡ whole → new ≡ old ++ record { name = argument_name site i; ctype = ctype_of t } ∷ []
    → new ++ arguments_kept site (i + 1) (types_of (drop (i + 1) ts)) ≡ whole
argument_more site ts i t old new whole lt is before step =
    let one : term.Temporary = record { name = argument_name site i; ctype = ctype_of t } in
    let next : i + 1 ≡ suc i = omega arith in
    let rest = drop (i + 1) ts in
    ap (λ xs. xs ++ arguments_kept site (i + 1) (types_of rest)) step
    ∙ (append_assoc old (one ∷ []) (arguments_kept site (i + 1) (types_of rest))
    ∙ (ap (λ n. old ++ one ∷ arguments_kept site n (types_of rest)) next
    ∙ (ap (λ us. old ++ arguments_kept site i (types_of us)) (sym (at_place ts i t lt is)) ∙ before)))

pub arguments_end : (site : ℕ) (ts : List TypeTree) (i : ℕ) (old whole : List term.Temporary) → length ts ≤ i → old ++ arguments_kept site i (types_of (drop i ts)) ≡ whole → old ≡ whole
arguments_end site ts i old whole over is = sym (append-nil old) ∙ (ap (λ us. old ++ arguments_kept site i (types_of us)) (sym (all_gone ts i over)) ∙ is)

-- ## Items of a block

pub onto_more : (xs : List BlockItem) (x : BlockItem) (rest : BlockItems) → items_onto (xs ++ x ∷ []) rest ≡ items_onto xs (block_item_before x rest)
onto_more [] x rest = refl
onto_more (y ∷ ys) x rest = ap (block_item_before y) (onto_more ys x rest)

pub onto_items : (xs ys : List BlockItem) → block_items_of (xs ++ ys) ≡ items_onto xs (block_items_of ys)
onto_items [] ys = refl
onto_items (x ∷ xs) ys = ap (block_item_before x) (onto_items xs ys)

pub declared_more : (tags : List Name) (at : ℕ) (xs : List Temporary) (i : ℕ) (x : Temporary) (old new : List BlockItem) (d : Decl) → i < length xs → x ≡ get_or xs i x
    → ((rest : BlockItems) → items_onto old (declared_before tags at (temporaries_of (drop i xs)) rest) ≡ declared_before tags at (temporaries_of xs) rest)
    → ((rest : BlockItems) → items_onto new rest ≡ items_onto old (block_decl d rest)) → d ≡ declaration_of tags at (temporary_of x)
    → (rest : BlockItems) → items_onto new (declared_before tags at (temporaries_of (drop (i + 1) xs)) rest) ≡ declared_before tags at (temporaries_of xs) rest
declared_more tags at xs i x old new d lt is before step made rest =
    let more = declared_before tags at (temporaries_of (drop (i + 1) xs)) rest in
    step more ∙ (ap (λ y. items_onto old (block_decl y more)) made ∙ (ap (λ ys. items_onto old (declared_before tags at (temporaries_of ys) rest)) (sym (at_place xs i x lt is)) ∙ before rest))

pub declared_end : (tags : List Name) (at : ℕ) (xs : List Temporary) (i : ℕ) (all made items : List BlockItem) → length xs ≤ i
    → ((rest : BlockItems) → items_onto all (declared_before tags at (temporaries_of (drop i xs)) rest) ≡ declared_before tags at (temporaries_of xs) rest)
    → made ≡ all ++ items → block_items_of made ≡ declared_before tags at (temporaries_of xs) (block_items_of items)
declared_end tags at xs i all made items over before is =
    let rest = block_items_of items in
    ap block_items_of is ∙ (onto_items all items ∙ (ap (λ ys. items_onto all (declared_before tags at (temporaries_of ys) rest)) (sym (all_gone xs i over)) ∙ before rest))
