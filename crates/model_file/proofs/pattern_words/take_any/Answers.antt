use Rattle.std.proofs.Common.{◌≡◌, ⊎_elim}
use Rattle.model_file.proofs.pattern_words.take_any.Goals as goal

pub returns-then-end-eq32 : goal.returns-then-end-eq32
returns-then-end-eq32 c = rw c.if-end-eq32.true c.take.ensures.reads

pub returns-else-end-eq32 : goal.returns-else-end-eq32
returns-else-end-eq32 c =
    let feed : c.args.end ≡ 10 = ⊎_elim (λ space. absurd (c.if-end-eq32.false space)) (λ is. is) c.requires in
    rw feed c.take-else-end-eq32.ensures.reads
