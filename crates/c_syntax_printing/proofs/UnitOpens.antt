-- Where items and units open past the limits (C99 6.9).
use Rattle.std.proofs.Common.{ap, ◌≡◌, inr, ◌≤◌, ℕ, suc, List, ◌∷◌, ◌++◌, refl, sym, ◌∙◌, subst, []}
use Rattle.std.proofs.lemmas.List.{append_cancel_right}
use Rattle.c_lexer.specs.declared.token.Token.{Token}
use Rattle.c_lexer.specs.declared.punctuator.TheConstants.{LEFT_BRACE}
use Rattle.c_syntax.specs.Tree.{Storage, Spec, Declarator, decl, block, Item, decl_item, function_item, no_items, more_items}
use Rattle.c_syntax.specs.Tokens.{Is}
use Rattle.c_syntax.specs.Specifiers.{ReadsStorage, ReadsSpec}
use Rattle.c_syntax.specs.Grammar.{HasName, Declares}
use Rattle.c_syntax.specs.Statements.{a_declaration, ReadsItem, an_item_declaration, a_definition, last_item, next_item}
use Rattle.c_syntax_printing.proofs.FrameSpecifiers.{storage_on, spec_on}
use Rattle.c_syntax_printing.proofs.FrameGrammar.{declares_on}
use Rattle.c_syntax_printing.proofs.FrameStatements.{item_on}
use Rattle.c_syntax_printing.proofs.MorePairs.{wide_declarator}
use Rattle.c_syntax_printing.proofs.MorePairsOfUnits.{wide_item}
use Rattle.c_syntax_printing.specs.Nodes.{in_decl_item, in_decl, in_function_body, in_block, in_first_item, in_later_item}
use Rattle.c_syntax_printing.specs.Opens.{Opens, DeepParts, DeepBlock, DeepItem, DeepUnit, GoesOn}
use Rattle.c_syntax_printing.proofs.Combine.{fronted}
use Rattle.c_syntax_printing.proofs.Opening.{opens_as, opens_past, opens_before, opens_token}
use Rattle.c_syntax_printing.proofs.ExprOpens.{either}
use Rattle.c_syntax_printing.proofs.BodyOpens.{close_brace, semicolon}
use Rattle.c_syntax_printing.proofs.Fixed.{placeless}

-- declarations and functions

-- a declaration, whose declarators open
pub item_parts_open : {at p n : ℕ} {st : Storage} {s : Spec} {i j k r : List Token} → ReadsStorage st i j → ReadsSpec s j k → Opens (DeepParts at p n) k r → Opens (DeepItem at p n) i r
item_parts_open {st = st} {s} c w o =
    opens_past (storage_on c) (opens_past (placeless (spec_on w)) (opens_before o (λ m. record {
      tokens = semicolon ∷ m;
      reads = λ k y l b i a. record { tree = decl_item _ (decl _ st s y.trees); reads = an_item_declaration refl (a_declaration refl a b y.reads (record { kind = refl })); deep = either (λ z. in_decl_item (in_decl z)) (λ z. z) y.deep };
    })))

-- a function, whose body opens
pub item_body_opens : {at p n d : ℕ} {st : Storage} {s : Spec} {e : Declarator} {t : Token} {i j k m r : List Token} → d ≤ suc p → ReadsStorage st i j → ReadsSpec s j k → Declares d e k (t ∷ m) → HasName e → Is LEFT_BRACE t → Opens (DeepBlock at p n) m r → Opens (DeepItem at p (suc n)) i r
item_body_opens {st = st} {s = s} {e = e} g c w z x h o =
    opens_past (storage_on c) (opens_past (placeless (spec_on w)) (opens_past (declares_on (wide_declarator z g)) (opens_token (opens_before o (λ m. record {
      tokens = close_brace ∷ m;
      reads = λ k y l f i b j a. record {
        tree = function_item _ st s e (block _ y.trees);
        reads = a_definition refl a b f x h y.reads (record { kind = refl });
        deep = either (λ v. in_function_body (in_block v)) (λ v. inr v) y.deep;
      };
    })))))

-- units

pub first_item_opens : {at p n : ℕ} {i r : List Token} → Opens (DeepItem at p n) i r → Opens (DeepUnit at p n) i r
first_item_opens o = opens_as (λ k m a. record { tree = more_items a.tree no_items; reads = last_item a.reads; deep = either in_first_item (λ y. y) a.deep }) o

pub later_item_opens : {at p n d : ℕ} {a : Item} {i j r : List Token} → d ≤ suc p → ReadsItem d a i j → Opens (DeepUnit at p n) j r → Opens (DeepUnit at p n) i r
later_item_opens {a = a} g w o =
    opens_past (item_on (wide_item w g)) (opens_as (λ k m c l b. record { tree = more_items a c.tree; reads = next_item b c.reads; deep = either in_later_item (λ y. inr y) c.deep }) o)

-- some unit past the limits is spelled
pub unit_goes_on : {at p n : ℕ} (tokens front r : List Token) → Opens (DeepUnit at p n) tokens r → tokens ≡ front ++ r → GoesOn at p n front r
unit_goes_on {at} {p} {n} tokens front r o q =
    let x = o.before [] in
    let f = fronted x.twin in
    let e : f.0 ≡ front = append_cancel_right f.0 front r (sym f.1 ∙ q) in
    let b : DeepUnit at p n (front ++ x.other) [] = subst (λ z. DeepUnit at p n z []) (f.2 ∙ ap (λ z. z ++ x.other) e) x.reads in
    record { other = x.other; meets = x.meets; tree = b.tree; reads = b.reads; deep = b.deep }
