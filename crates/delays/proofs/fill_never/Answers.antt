-- A copied word is the word, so the part is filled.
use Rattle.delays.proofs.Cuts.{filled-part}
use Rattle.delays.proofs.fill_never.Goals as goal

pub returns : goal.returns
returns c = filled-part _ _ _ _ _ (c.fill.ensures.after (λ y e. e)) c.requires.0 c.requires.1
