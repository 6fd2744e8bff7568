-- The word stands between what was before it and after it.
use Rattle.std.proofs.Common.{◌≡◌, ◌+◌, ◌-◌, length, drop, refl, sym, append_assoc, arith}
use lib.Seq.{sets-eq, drop-drop}
use Rattle.text.proofs.put.put_word.Goals as goal

pub returns : goal.returns
returns c =
    let word = c.args.word.now in
    let old = c.args.out.now in
    let at = c.args.at in
    let long : at + length word - at ≡ length word = omega arith in
    let after : drop (length word) (drop at old) ≡ drop (at + length word) old = drop-drop (length word) at old in
    record {
      next = refl;
      within = c.requires;
      holds = rw (long, c.copy_from_slice.ensures.after, after) (sym (simp append_assoc at (sets-eq word old at (omega arith))));
    }
