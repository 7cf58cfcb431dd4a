-- Small traces: what they put on descriptor 1, what is left without null calls, and how deep they are.
use Rattle.std.proofs.Common.{◌≡◌, pos, negsuc, [], ◌∷◌, codes, refl}
use Rattle.dm_base.specs.declared.event.Arg.TheVariants as args
use Rattle.dm_base.specs.declared.event.Event.TheVariants.{Sys, Pre, Post}
use Rattle.dm_base.specs.Trace.{erase, output, depth}

-- a call of `write` with a descriptor, two bytes and a result
one_byte : output (Sys 1 (args.Int (pos 1) ∷ args.Bytes (codes "ab") ∷ []) (pos 1) ∷ []) ≡ codes "a"
one_byte = refl

both_bytes : output (Sys 1 (args.Int (pos 1) ∷ args.Bytes (codes "ab") ∷ []) (pos 2) ∷ Pre 3 ∷ Sys 1 (args.Int (pos 1) ∷ args.Bytes (codes "c") ∷ []) (pos 1) ∷ []) ≡ codes "abc"
both_bytes = refl

another_descriptor : output (Sys 1 (args.Int (pos 2) ∷ args.Bytes (codes "ab") ∷ []) (pos 2) ∷ []) ≡ []
another_descriptor = refl

a_fault : output (Sys 1 (args.Int (pos 1) ∷ args.Bytes (codes "ab") ∷ []) (negsuc 0) ∷ []) ≡ []
a_fault = refl

another_call : output (Sys 0 (args.Int (pos 1) ∷ args.Bytes (codes "ab") ∷ []) (pos 2) ∷ []) ≡ []
another_call = refl

no_null_calls : erase (Pre 0 ∷ Sys 14 [] (pos 7) ∷ Post 0 ∷ []) ≡ Sys 14 [] (pos 7) ∷ []
no_null_calls = refl

returned_first : depth (Post 0 ∷ Pre 0 ∷ []) ≡ 0
returned_first = refl

two_open : depth (Pre 0 ∷ Pre 1 ∷ Post 1 ∷ Pre 2 ∷ Post 2 ∷ Post 0 ∷ []) ≡ 2
two_open = refl
