-- Registers decide where they differ, then lengths, then the words.
use Rattle.std.proofs.Common.{length, sym, ◌∙◌}
use Rattle.comparison.proofs.Rest.{tuple-is}
use Rattle.comparison.proofs.Words.{ranks-good}
use Rattle.comparison.proofs.ranks.ranks_before.Goals as goal

pub returns : goal.returns
returns c =
    let parts = c.lt.ensures ∙ tuple-is c.registers_of.result c.registers_of-2.result (length c.args.b.now) (length c.args.a.now) c.args.b.now c.args.a.now in
    rw (c.registers_of.ensures, c.registers_of-2.ensures) at parts ∙ sym (ranks-good c.args.b.now c.args.a.now c.requires.0 c.requires.1)
