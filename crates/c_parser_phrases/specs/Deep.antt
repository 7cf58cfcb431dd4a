-- For private contracts and proofs alone: the place of a deepest node.
use Rattle.std.specs.Prelude.{◌≡◌, ◌⊎◌}
use Rattle.c_syntax.specs.Tree.{Params}
use Rattle.c_syntax.specs.View.{type_name_of, param_before}
use Rattle.c_syntax_printing.specs.Nodes.{InExpr, InExprs, InMaybe, InType, InDeclarator, InParams}
use Rattle.c_parser_phrases.specs.declared.depth.MeasuredExpr.{MeasuredExpr}
use Rattle.c_parser_phrases.specs.declared.depth.MeasuredExprs.{MeasuredExprs}
use Rattle.c_parser_phrases.specs.declared.depth.MeasuredSize.{MeasuredSize}
use Rattle.c_parser_phrases.specs.declared.depth.MeasuredType.{MeasuredType}
use Rattle.c_parser_phrases.specs.declared.depth.MeasuredDeclarator.{MeasuredDeclarator}
use Rattle.c_parser_phrases.specs.declared.depth.MeasuredParam.{MeasuredParam}
use Rattle.c_parser_phrases.specs.declared.depth.MeasuredParams.{MeasuredParams}
use Rattle.c_parser_phrases.specs.Making.{tree_of, trees_of, size_of, inner_of, list_of}

-- at the place of the depth stands the deepest node

abbrev pub IsDeep : MeasuredExpr → Type 0
IsDeep m = InExpr m.depth.deepest m.depth.height (tree_of m)

abbrev pub AreDeep : MeasuredExprs → Type 0
AreDeep m = (m.depth.height ≡ 0) ⊎ InExprs m.depth.deepest m.depth.height (trees_of m)

abbrev pub IsDeepSize : MeasuredSize → Type 0
IsDeepSize m = (m.depth.height ≡ 0) ⊎ InMaybe m.depth.deepest m.depth.height (size_of m)

abbrev pub IsDeepType : MeasuredType → Type 0
IsDeepType m = (m.depth.height ≡ 0) ⊎ InType m.depth.deepest m.depth.height (type_name_of m.name)

abbrev pub IsDeepDeclarator : MeasuredDeclarator → Type 0
IsDeepDeclarator m = (m.depth.height ≡ 0) ⊎ InDeclarator m.depth.deepest m.depth.height (inner_of m)

abbrev pub IsDeepParam : MeasuredParam → Type 0
IsDeepParam m = (rest : Params) → (m.depth.height ≡ 0) ⊎ InParams m.depth.deepest m.depth.height (param_before m.param rest)

abbrev pub AreDeepParams : MeasuredParams → Type 0
AreDeepParams m = (m.depth.height ≡ 0) ⊎ InParams m.depth.deepest m.depth.height (list_of m)
