-- What a write took follows what was taken before it.
use Rattle.std.proofs.Common.{◌≡◌, ℕ, ◌+◌, ◌-◌, List, ◌++◌, rules, length, take, drop, ap, sym, ◌∙◌, subst}
use Rattle.std.proofs.lemmas.List.{take_rest}
use Rattle.std.specs.Io.KnownBytes.{Appends}
use Rattle.std.proofs.KnownBytes.{Appends-trans}
use lib.Seq.{take-add}
use Rattle.streams.proofs.output.write_text.Goals as goal

-- the first bytes that are left follow those that are done
next_taken : (done took : ℕ) (text : List ℕ) → take done text ++ take took (take (length text - done) (drop done text)) ≡ take (done + took) text
next_taken done took text = ap (λ l. take done text ++ take took l) (take_rest text done) ∙ sym (take-add done took text)

pub loop-done-preserved-in-Ok : goal.loop-done-preserved-in-Ok
loop-done-preserved-in-Ok g c =
    let joined = Appends-trans _ _ _ _ _ c.loop-done.invariant.1 c.in-Ok.ensures.bytes in
    (search rules, subst (Appends _ _) (next_taken _ _ _) joined)
