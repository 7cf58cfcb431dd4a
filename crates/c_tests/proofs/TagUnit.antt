-- The unit of the text `struct s;`, with its places.
use Rattle.std.proofs.Common.{◌≡◌, ℕ, List, [], ◌∷◌, ◌++◌, refl, ap, sym, ◌∙◌, subst, arith, lit<}
use Rattle.c_lexer.specs.declared.token.Token.{Token}
use Rattle.c_lexer.specs.declared.token.TokenKind.TheVariants.{Name, Keyword, Punct}
use Rattle.c_syntax.specs.declared.tree.Item.{Item as ItemTree}
use Rattle.c_syntax.specs.declared.tree.ItemKind.TheVariants as o
use Rattle.c_syntax.specs.UnitView.{items_of}
use Rattle.c_syntax.specs.Tree.{Ident, tag_item, no_items, more_items}
use Rattle.c_syntax.specs.Statements.{ReadsItems, a_tag_alone, last_item}
use Rattle.c_syntax.specs.Spelling.{IsUnit}
use Rattle.c_syntax_printing.proofs.LetterNames.{s_is_name}

pub tag_unit : (x : Ident) → x ≡ record { name = 115 ∷ []; at = 7 } → IsUnit (more_items (tag_item 0 x) no_items)
tag_unit x q =
    let t : Token = record { kind = Keyword 17; from = 0; to = 6; given = lit< tt } in
    let n : Token = record { kind = Name (115 ∷ []); from = 7; to = 8; given = s_is_name } in
    let u : Token = record { kind = Punct 32; from = 8; to = 9; given = lit< tt } in
    record {
      tokens = t ∷ n ∷ u ∷ [];
      other = more_items (tag_item 0 x) no_items;
      spelled = record {
        reads = subst (λ (y : Ident). ReadsItems 500 (more_items (tag_item 0 y) no_items) (t ∷ n ∷ u ∷ []) []) (sym q)
            (last_item (a_tag_alone {t = t} {n = n} {u = u} (record { kind = refl }) (record { name = record { kind = refl }; at = refl }) (record { kind = refl })));
        nested = omega arith;
      };
      same = refl;
    }

-- the one item in a list
pub tag_items : (items before : List ItemTree) (name : List ℕ) → items ≡ before ++ record { at = 0; kind = o.Tag (record { name = name; at = 7 }) } ∷ [] → before ≡ [] → name ≡ 115 ∷ [] → ∥ IsUnit (items_of items) ∥₁
tag_items items before name q r s =
    let x : Ident = record { name = name; at = 7 } in
    let one : IsUnit (more_items (tag_item 0 x) no_items) = tag_unit x (ap (λ (n : List ℕ). record { name = n; at = 7 }) s) in
    let all : items ≡ record { at = 0; kind = o.Tag (record { name = name; at = 7 }) } ∷ [] = q ∙ ap (λ (b : List ItemTree). b ++ record { at = 0; kind = o.Tag (record { name = name; at = 7 }) } ∷ []) r in
    ∣ subst (λ (v : List ItemTree). IsUnit (items_of v)) (sym all) one ∣₁
