-- Four bytes copied are four stores in a row.
use Rattle.std.proofs.Common.{◌≡◌, ℕ, ◌+◌, ◌-◌, ◌/◌, ◌%◌, ◌≤◌, List, length, take, drop, append_assoc, sym, drop-drop, mod-eq_of_lt, arith}
use Rattle.std.proofs.lemmas.List.Edits.{sets, sets-eq}
use borrow.Rule.Slice.PartMut.{put_mid}
use Rattle.session.specs.Journal.{written_entry, entry_of}
use Rattle.session.proofs.journal.write_entry.Goals as goal

copied : (j new : List ℕ) (at k : ℕ) (vs : List ℕ) → new ≡ vs → k ≡ length vs → at + length vs ≤ length j → put_mid at k j new ≡ sets j at vs
copied j new at k vs f e h = rw (f, e, drop-drop, sets-eq vs j at h) (sym (append_assoc (take at j) vs (drop (at + length vs) j)))

pub returns : goal.returns
unfolding written_entry entry_of
returns c =
    let high : c.args.entry.cell / 256 % 256 ≡ c.args.entry.cell / 256 = mod-eq_of_lt (omega arith) in
    let at = c.args.at in
    copied _ _ at (at + 4 - at) (entry_of c.args.entry) (rw high at (rw c.to_le_bytes.ensures at c.copy_from_slice.ensures.after)) (omega arith) c.requires
