use Rattle.std.proofs.Common.{set, subst}
use Rattle.bits.proofs.Replacing.{put_digit}
use Rattle.bits.proofs.chunks.write_chunk.Goals as goal
use Rattle.bits.specs.Packed.{Put}

pub returns-clause-written : goal.returns-clause-written
returns-clause-written c =
    let at = c.of-place.result in
    let ws = c.args.words.now in
    let v = c.put.result in
    let put = rw c.word_at.ensures.word at c.put.ensures in
    subst (λ b. Put b c.args.t c.args.x ws (set ws at.word v)) c.of-place.ensures.bits
    (put_digit ws at.bits c.args.t at.word at.shift v c.args.x c.word_at.ensures.narrow c.of-place.ensures.first at.within c.if-place-words.false put)
