-- Graphs of small shapes, and that shapes meet the premises.
use Rattle.std.proofs.Common.{◌≡◌, ◌≢◌, pos, ◌<◌, false, [], ◌∷◌, None, Some, codes, refl, arith}
use Rattle.std.proofs.lemmas.List.Elements.{All-cons, All-nil}
use Rattle.dm_base.specs.Name.{IsName}
use Rattle.sys_table.specs.Table.{table}
use Rattle.c_meaning.specs.Shape.{Skip, Sys, Exit, Call, Seq, Alt, Loop, Do, Cases, Break, Continue, Return, End, Part, Shapes}
use Rattle.c_meaning.specs.Bodies.{IsBody}
use Rattle.c_meaning.specs.GraphOf.{graph_of}
use Rattle.c_meaning.specs.Premises.{AreClosed, AreNamed, HasRightCalls}
use Rattle.c_meaning.proofs.Edges.{only_one}
use Rattle.c_meaning.proofs.SystemNames.{name}
use Rattle.c_meaning.proofs.Rising.{pairs_cons, pairs_nil}

-- int f(void) { return getpid(); } int main(void) { f(); getuid(); f(); return 0; }
abbrev pub two_callers : Shapes
two_callers = record {
  functions =
      Seq (Sys 14 []) (Part Return End)
      ∷ Seq (Call 1) (Part (Sys 16 []) (Part (Call 3) (Part Return End)))
      ∷ [];
  candidates = λ s. 0 ∷ [];
  main = 1;
}

two_callers_graph : graph_of (codes "f" ∷ codes "main" ∷ []) two_callers ≡ record {
  nodes = 8;
  start = 1;
  functions = record { name = codes "f"; entry = 0; exit = 1 } ∷ record { name = codes "main"; entry = 3; exit = 4 } ∷ [];
  silent = record { from = 2; to = 1 } ∷ record { from = 7; to = 4 } ∷ [];
  sys = record { from = 0; name = 14; to = 2; args = [] } ∷ record { from = 5; name = 16; to = 6; args = [] } ∷ [];
  calls = record { from = 3; site = 1; to = 5; candidates = 0 ∷ [] } ∷ record { from = 6; site = 3; to = 7; candidates = 0 ∷ [] } ∷ [];
}
two_callers_graph = refl

-- int f(void) { if (g) f(); getpid(); return 0; } int main(void) { f(); return 0; }
abbrev pub silent_recursion : Shapes
silent_recursion = record {
  functions =
      Seq (Alt (Call 0) Skip) (Part (Sys 14 []) (Part Return End))
      ∷ Seq (Call 2) (Part Return End)
      ∷ [];
  candidates = λ s. 0 ∷ [];
  main = 1;
}

silent_recursion_graph : graph_of (codes "f" ∷ codes "main" ∷ []) silent_recursion ≡ record {
  nodes = 7;
  start = 1;
  functions = record { name = codes "f"; entry = 0; exit = 1 } ∷ record { name = codes "main"; entry = 4; exit = 5 } ∷ [];
  silent = record { from = 0; to = 2 } ∷ record { from = 3; to = 1 } ∷ record { from = 6; to = 5 } ∷ [];
  sys = record { from = 2; name = 14; to = 3; args = [] } ∷ [];
  calls = record { from = 0; site = 0; to = 2; candidates = 0 ∷ [] } ∷ record { from = 4; site = 2; to = 6; candidates = 0 ∷ [] } ∷ [];
}
silent_recursion_graph = refl

-- int f(int n) { if (n) { dup(n); f(n - 1); close(n); } else getpid(); return 0; } int main(void) { return f(2); }
abbrev matched_recursion : Shapes
matched_recursion = record {
  functions =
      Seq (Alt (Seq (Sys 5 (None ∷ [])) (Part (Call 1) (Part (Sys 3 (None ∷ [])) End))) (Sys 14 [])) (Part Return End)
      ∷ Seq (Call 4) (Part Return End)
      ∷ [];
  candidates = λ s. 0 ∷ [];
  main = 1;
}

matched_recursion_graph : graph_of (codes "f" ∷ codes "main" ∷ []) matched_recursion ≡ record {
  nodes = 8;
  start = 1;
  functions = record { name = codes "f"; entry = 0; exit = 1 } ∷ record { name = codes "main"; entry = 5; exit = 6 } ∷ [];
  silent = record { from = 2; to = 1 } ∷ record { from = 7; to = 6 } ∷ [];
  sys =
      record { from = 0; name = 5; to = 3; args = None ∷ [] }
      ∷ record { from = 0; name = 14; to = 2; args = [] }
      ∷ record { from = 4; name = 3; to = 2; args = None ∷ [] }
      ∷ [];
  calls = record { from = 3; site = 1; to = 4; candidates = 0 ∷ [] } ∷ record { from = 5; site = 4; to = 7; candidates = 0 ∷ [] } ∷ [];
}
matched_recursion_graph = refl

-- int a(int x) { getpid(); return x; } int b(int x) { return x; } int c(char *s) { getpid(); return 0; }
-- int (*t[3])(int) = { a, b, close }; int (*u)(char *) = c; int main(void) { return t[1](5); }
abbrev pub indirect_call : Shapes
indirect_call = record {
  functions =
      Seq (Sys 14 []) (Part Return End)
      ∷ Return
      ∷ Seq (Sys 14 []) (Part Return End)
      ∷ Seq (Call 2) (Part Return End)
      ∷ Sys 3 (None ∷ [])
      ∷ [];
  candidates = λ s. 4 ∷ 1 ∷ 0 ∷ [];
  main = 3;
}

indirect_call_graph : graph_of (codes "a" ∷ codes "b" ∷ codes "c" ∷ codes "main" ∷ codes "close" ∷ []) indirect_call ≡ record {
  nodes = 13;
  start = 3;
  functions =
      record { name = codes "a"; entry = 0; exit = 1 }
      ∷ record { name = codes "b"; entry = 3; exit = 4 }
      ∷ record { name = codes "c"; entry = 5; exit = 6 }
      ∷ record { name = codes "main"; entry = 8; exit = 9 }
      ∷ record { name = codes "close"; entry = 11; exit = 12 }
      ∷ [];
  silent = record { from = 2; to = 1 } ∷ record { from = 3; to = 4 } ∷ record { from = 7; to = 6 } ∷ record { from = 10; to = 9 } ∷ [];
  sys =
      record { from = 0; name = 14; to = 2; args = [] }
      ∷ record { from = 5; name = 14; to = 7; args = [] }
      ∷ record { from = 11; name = 3; to = 12; args = None ∷ [] }
      ∷ [];
  calls = record { from = 8; site = 2; to = 10; candidates = 0 ∷ 1 ∷ 4 ∷ [] } ∷ [];
}
indirect_call_graph = refl

-- close(3); close(x); return 0;
constant_arguments_graph : graph_of (codes "main" ∷ []) (record { functions = Seq (Sys 3 (Some (pos 3) ∷ [])) (Part (Sys 3 (None ∷ [])) (Part Return End)) ∷ []; candidates = λ s. []; main = 0 }) ≡ record {
  nodes = 4;
  start = 0;
  functions = record { name = codes "main"; entry = 0; exit = 1 } ∷ [];
  silent = record { from = 3; to = 1 } ∷ [];
  sys = record { from = 0; name = 3; to = 2; args = Some (pos 3) ∷ [] } ∷ record { from = 2; name = 3; to = 3; args = None ∷ [] } ∷ [];
  calls = [];
}
constant_arguments_graph = refl

-- for (;;);
endless_graph : graph_of (codes "main" ∷ []) (record { functions = Loop Skip Skip Skip ∷ []; candidates = λ s. []; main = 0 }) ≡ record {
  nodes = 5;
  start = 0;
  functions = record { name = codes "main"; entry = 0; exit = 1 } ∷ [];
  silent =
      record { from = 0; to = 2 } ∷ record { from = 2; to = 3 } ∷ record { from = 3; to = 1 } ∷ record { from = 3; to = 4 } ∷ record { from = 4; to = 2 } ∷ [];
  sys = [];
  calls = [];
}
endless_graph = refl

-- do switch (x) { case 0: getpid(); break; case 1: continue; } while (getuid()); _exit(0);
switch_graph : graph_of (codes "main" ∷ []) (record { functions = Seq (Do (Cases (Part (Seq (Sys 14 []) (Part Break End)) (Part Continue End)) false) (Sys 16 [])) (Part (Exit (Some (pos 0) ∷ [])) End) ∷ []; candidates = λ s. []; main = 0 }) ≡ record {
  nodes = 10;
  start = 0;
  functions = record { name = codes "main"; entry = 0; exit = 1 } ∷ [];
  silent =
      record { from = 0; to = 3 } ∷ record { from = 3; to = 4 } ∷ record { from = 3; to = 6 } ∷ record { from = 3; to = 7 }
      ∷ record { from = 5; to = 2 } ∷ record { from = 5; to = 3 } ∷ record { from = 7; to = 4 } ∷ record { from = 8; to = 4 } ∷ [];
  sys =
      record { from = 2; name = 23; to = 9; args = Some (pos 0) ∷ [] }
      ∷ record { from = 4; name = 16; to = 5; args = [] }
      ∷ record { from = 6; name = 14; to = 8; args = [] }
      ∷ [];
  calls = [];
}
switch_graph = refl

-- the shapes of two_callers are closed
two_callers_closed : AreClosed two_callers
two_callers_closed = record {
  once = pairs_cons (λ s r. s ≢ r) 1 (3 ∷ []) (λ z h. only_one (λ z. 1 ≢ z) 3 z h (λ e. omega (arith, e))) (pairs_cons (λ s r. s ≢ r) 3 [] (λ z h e. omega (arith, h.1)) (pairs_nil (λ s r. s ≢ r)));
  bodies = All-cons IsBody (Seq (Sys 14 []) (Part Return End)) (Seq (Call 1) (Part (Sys 16 []) (Part (Call 3) (Part Return End))) ∷ []) (tt, (tt, tt)) (All-cons IsBody (Seq (Call 1) (Part (Sys 16 []) (Part (Call 3) (Part Return End)))) [] (tt, (tt, (tt, (tt, tt)))) (All-nil IsBody));
  known = λ s f h. only_one (λ f. f < 2) 0 f h (omega arith);
  main = omega arith;
}

two_callers_named : AreNamed (codes "f" ∷ codes "main" ∷ []) two_callers
unfolding table
two_callers_named = record {
  many = refl;
  names = All-cons IsName (codes "f") (codes "main" ∷ []) (name (codes "f") refl) (All-cons IsName (codes "main") [] (name (codes "main") refl) (All-nil IsName));
  differ = pairs_cons (λ x y. x ≢ y) (codes "f") (codes "main" ∷ []) (λ z h. only_one (λ z. codes "f" ≢ z) (codes "main") z h (λ e. cc)) (pairs_cons (λ x y. x ≢ y) (codes "main") [] (λ z h e. omega (arith, h.1)) (pairs_nil (λ x y. x ≢ y)));
  patterns = All-cons HasRightCalls (Seq (Sys 14 []) (Part Return End)) (Seq (Call 1) (Part (Sys 16 []) (Part (Call 3) (Part Return End))) ∷ []) (record {}, (tt, tt)) (All-cons HasRightCalls (Seq (Call 1) (Part (Sys 16 []) (Part (Call 3) (Part Return End)))) [] (tt, (record {}, (tt, (tt, tt)))) (All-nil HasRightCalls));
  few = omega arith;
}
