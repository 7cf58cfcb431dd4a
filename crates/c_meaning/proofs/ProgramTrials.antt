-- Call graphs and shapes of small programs.
use Rattle.std.proofs.Common.{◌≡◌, pos, true, false, [], ◌∷◌, None, codes, refl}
use Rattle.c_tree.specs.Table.{table}
use Rattle.c_tree.specs.declared.value.Value.TheVariants as v
use Rattle.c_tree.specs.Tree.{pointer, array, Program}
use Rattle.c_tree.specs.Tree.{constant, function_name, dereference, address_of, decay, call, call_through, no_exprs, more_exprs}
use Rattle.c_tree.specs.Tree.{block, empty, evaluate, if_else, return_value, no_stmts, more_stmts}
use Rattle.c_tree.specs.Functions.{int, char_pointer, of_none, of_one, sys_types}
use Rattle.c_tree.proofs.TypedTrials.{f_of_b, of_f_and_main, function_with, main_with, zero_of_int, two}
use Rattle.c_meaning.specs.Shape.{Skip, Sys, Call, Seq, Alt, Return, End, Part}
use Rattle.c_meaning.specs.CallGraph.{is_taken, candidates, reaches, marked}
use Rattle.c_meaning.specs.ShapeOf.{shapes_of_functions, names_of_functions, candidate_places}
use Rattle.c_tree.proofs.TypedTrials.{int_of_int, x_of_parameter}
pub use Rattle.c_tree.proofs.TypedTrials.{source_b, source_d}
use Rattle.c_tree.proofs.TypedTrials.{t_of_one}

b_takes_nothing : is_taken source_b 0 ≡ false
b_takes_nothing = refl

b_candidates : candidates source_b 0 ∷ candidates source_b 1 ∷ candidates source_b 2 ∷ candidates source_b 3 ∷ [] ≡ (16 ∷ []) ∷ (0 ∷ []) ∷ (18 ∷ []) ∷ (0 ∷ []) ∷ []
b_candidates = refl

b_reaches : reaches source_b 0 ∷ reaches source_b 1 ∷ [] ≡ true ∷ true ∷ []
b_reaches = refl

b_marks : marked source_b 0 ∷ marked source_b 1 ∷ marked source_b 2 ∷ marked source_b 3 ∷ [] ≡ false ∷ true ∷ false ∷ true ∷ []
b_marks = refl

b_shapes : shapes_of_functions source_b ≡ Seq (Sys 14 []) (Part Return End) ∷ Seq (Call 1) (Part (Sys 16 []) (Part (Call 3) (Part Return End))) ∷ []
unfolding table
b_shapes = refl

b_places : candidate_places source_b 0 ∷ candidate_places source_b 1 ∷ candidate_places source_b 2 ∷ candidate_places source_b 3 ∷ candidate_places source_b 4 ∷ [] ≡ [] ∷ (0 ∷ []) ∷ [] ∷ (0 ∷ []) ∷ [] ∷ []
b_places = refl

d_marks : marked source_d 0 ∷ marked source_d 1 ∷ marked source_d 2 ∷ [] ≡ true ∷ false ∷ true ∷ []
d_marks = refl

d_shapes : shapes_of_functions source_d ≡ Seq (Alt (Call 0) Skip) (Part (Sys 14 []) (Part Return End)) ∷ Seq (Call 2) (Part Return End) ∷ []
unfolding table
d_shapes = refl

abbrev pub indirect : Program
indirect = record {
  structs = [];
  functions =
      function_with (codes "a") (of_one int int) (int ∷ []) (two (evaluate (call int 0 18 no_exprs)) x_of_parameter)
      ∷ function_with (codes "b") (of_one int int) (int ∷ []) x_of_parameter
      ∷ function_with (codes "c") (of_one int char_pointer) (char_pointer ∷ []) (two (evaluate (call int 1 18 no_exprs)) (return_value zero_of_int))
      ∷ main_with (return_value (call_through int 2 t_of_one (more_exprs (constant int (v.Int (pos 5))) no_exprs)))
      ∷ [];
  main = 3;
  statics =
      record { ctype = array int_of_int 3; cells = v.Func 0 ∷ v.Func 1 ∷ v.Func 7 ∷ []; string = false }
      ∷ record { ctype = pointer (of_one int char_pointer); cells = v.Func 2 ∷ []; string = false }
      ∷ [];
}

indirect_takes : is_taken indirect 0 ∷ is_taken indirect 1 ∷ is_taken indirect 2 ∷ is_taken indirect 3 ∷ is_taken indirect 7 ∷ is_taken indirect 18 ∷ [] ≡ true ∷ true ∷ true ∷ false ∷ true ∷ false ∷ []
indirect_takes = refl

indirect_candidates : candidates indirect 2 ≡ 0 ∷ 1 ∷ 7 ∷ []
unfolding sys_types
indirect_candidates = refl

indirect_reaches : reaches indirect 0 ∷ reaches indirect 1 ∷ reaches indirect 2 ∷ reaches indirect 3 ∷ [] ≡ true ∷ false ∷ true ∷ true ∷ []
unfolding sys_types
indirect_reaches = refl

indirect_marks : marked indirect 0 ∷ marked indirect 1 ∷ marked indirect 2 ∷ [] ≡ false ∷ false ∷ true ∷ []
unfolding sys_types
indirect_marks = refl

indirect_places : candidate_places indirect 2 ≡ 0 ∷ 1 ∷ 4 ∷ []
unfolding sys_types
indirect_places = refl

indirect_shapes : shapes_of_functions indirect ≡ Seq (Sys 14 []) (Part Return End) ∷ Return ∷ Seq (Sys 14 []) (Part Return End) ∷ Seq (Call 2) (Part Return End) ∷ Sys 3 (None ∷ []) ∷ []
unfolding table sys_types
indirect_shapes = refl

indirect_names : names_of_functions indirect ≡ codes "a" ∷ codes "b" ∷ codes "c" ∷ codes "main" ∷ codes "close" ∷ []
unfolding table
indirect_names = refl

-- int f(void); .. int main(void) { if (f) ; &g; *h; k(); return sizeof m; }: the names f, g and h are taken, k and m are not
abbrev names_of_kinds : Program
names_of_kinds = of_f_and_main f_of_b (block (more_stmts (if_else (decay (pointer (of_none int)) (function_name (of_none int) 2)) empty empty) (more_stmts (evaluate (address_of (pointer (of_none int)) (function_name (of_none int) 3))) (more_stmts (evaluate (decay (pointer (of_none int)) (dereference (of_none int) (decay (pointer (of_none int)) (function_name (of_none int) 4))))) (more_stmts (evaluate (call int 0 0 no_exprs)) (more_stmts (return_value zero_of_int) no_stmts)))))) []

kinds_taken : is_taken names_of_kinds 0 ∷ is_taken names_of_kinds 2 ∷ is_taken names_of_kinds 3 ∷ is_taken names_of_kinds 4 ∷ [] ≡ false ∷ true ∷ true ∷ true ∷ []
kinds_taken = refl
