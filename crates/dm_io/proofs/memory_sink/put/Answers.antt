use Rattle.std.proofs.Common.{◌≡◌, ◌+◌, ◌-◌, ℕ, List, ◌++◌, length, take, min, arith, sym, ◌∙◌, ap}
use Rattle.std.proofs.Math.Seq.{take-append-add}
use Rattle.std.proofs.lemmas.List.{take_min, length-take, length-take-le}
use Rattle.std.proofs.lemmas.Slice.{take-put_mid}
use Rattle.dm_io.proofs.memory_sink.put.Goals as goal

-- a list that is cut where the room ends
cut : (n room : ℕ) (front piece : List ℕ) → n ≡ length front + room → front ++ take (min room (length piece)) piece ≡ take n (front ++ piece)
cut n room front piece is =
    ap (λ p. front ++ p) (take_min room piece) ∙ sym (take-append-add front piece room) ∙ ap (λ k. take k (front ++ piece)) (sym is)

pub returns-clause-front : goal.returns-clause-front
returns-clause-front c =
    let at : ℕ = c.args.len in
    let room : ℕ = length c.args.buffer.now - at in
    let front : List ℕ = take at c.args.buffer.now in
    let is_front : length front ≡ at = length-take-le at c.args.buffer.now c.requires in
    let written : c.copy_from_slice.new.self ≡ take (min room (length c.args.piece.now)) c.args.piece.now =
    c.copy_from_slice.ensures.after ∙ ap (λ k. take k c.args.piece.now) c.min-count.ensures in
    let as_many : length c.copy_from_slice.new.self ≡ c.min-count.result = simp length-take at (ap length written) ∙ omega arith in
    take-put_mid at _ c.args.buffer.now c.copy_from_slice.new.self (at + c.min-count.result) (omega (arith, as_many)) c.requires
    ∙ ap (λ p. front ++ p) written
    ∙ cut (length c.args.buffer.now) room front c.args.piece.now (omega arith)
