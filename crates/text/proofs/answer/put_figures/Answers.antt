-- `text::answer::put_figures` meets its contract: the parts of the line, one after another.
use Prim.Native.Nat.{ℕ}
use mathlib.Core.List.{List, ◌++◌}
use native.Mathlib.Omega.{arith}
use mir.Syntax.{w32}
use mir.Val.{SFits}
use mir.Facts.{to_z-of_z}
use Rattle.answers.specs.declared.answer.Figures.{Figures}
use Rattle.text.specs.Decimal.{decimal, signed}
use Rattle.text.specs.Answers.{route_word, space, newline, figures_line}
use Rattle.text.proofs.Texts.{Within, within-then, put-length, short, long, long-signed}
use Rattle.text.proofs.answer.put_figures.Goals as goal
use Rattle.text.proofs.answer.put_figures.Goals.{After-put_byte, After-put_byte-c, After-put_byte-e, After-put_byte-h, After-put_decimal-b, After-put_decimal-d, After-put_decimal-g, After-put_signed-i, After-put_word-a, After-struct_told-1}

-- after each call: the line so far, where the function began, and that the line stands there in at most so many bytes
abbrev text1 : Figures → List ℕ
text1 f = route_word

put1 : (c : After-put_word-a) → Within 6 (text1 c.args.f) c.put_word-a.result c.args.out.now c.put_word-a.new.out
put1 c = record { put = c.put_word-a.ensures; most = omega (arith, c.put_word-a.ensures.next) }

abbrev text2 : Figures → List ℕ
text2 f = text1 f ++ decimal f.registers

put2 : (c : After-put_decimal-b) → Within 11 (text2 c.args.f) c.put_decimal-b.result c.args.out.now c.put_decimal-b.new.out
put2 c = within-then 5 (short _ (omega arith)) (put1 (goal.at.After-put_decimal-b c).After-put_word-a) c.put_decimal-b.ensures

abbrev text3 : Figures → List ℕ
text3 f = text2 f ++ space

put3 : (c : After-put_byte-c) → Within 12 (text3 c.args.f) c.put_byte-c.result c.args.out.now c.put_byte-c.new.out
put3 c = within-then 1 (omega arith) (put2 (goal.at.After-put_byte-c c).After-put_decimal-b) c.put_byte-c.ensures

abbrev text4 : Figures → List ℕ
text4 f = text3 f ++ decimal f.steps

put4 : (c : After-put_decimal-d) → Within 22 (text4 c.args.f) c.put_decimal-d.result c.args.out.now c.put_decimal-d.new.out
put4 c = within-then 10 (long _ (omega arith)) (put3 (goal.at.After-put_decimal-d c).After-put_byte-c) c.put_decimal-d.ensures

abbrev text5 : Figures → List ℕ
text5 f = text4 f ++ space

put5 : (c : After-put_byte-e) → Within 23 (text5 c.args.f) c.put_byte-e.result c.args.out.now c.put_byte-e.new.out
put5 c = within-then 1 (omega arith) (put4 (goal.at.After-put_byte-e c).After-put_decimal-d) c.put_byte-e.ensures

abbrev text6 : Figures → List ℕ
text6 f = text5 f ++ decimal f.latency

put6 : (c : After-put_decimal-g) → Within 33 (text6 c.args.f) c.put_decimal-g.result c.args.out.now c.put_decimal-g.new.out
put6 c = within-then 10 (long _ (omega arith)) (put5 (goal.at.After-put_decimal-g c).After-put_byte-e) c.put_decimal-g.ensures

abbrev text7 : Figures → List ℕ
text7 f = text6 f ++ space

put7 : (c : After-put_byte-h) → Within 34 (text7 c.args.f) c.put_byte-h.result c.args.out.now c.put_byte-h.new.out
put7 c = within-then 1 (omega arith) (put6 (goal.at.After-put_byte-h c).After-put_decimal-g) c.put_byte-h.ensures

abbrev text8 : Figures → List ℕ
text8 f = text7 f ++ signed f.slack

-- the figure is read from its field as it is
fits : (c : After-struct_told-1) → SFits w32 c.args.f.slack
fits c = record { sfits = c.struct_told-1.given.1.1.1.0.1 }

put8 : (c : After-put_signed-i) → Within 45 (text8 c.args.f) c.put_signed-i.result c.args.out.now c.put_signed-i.new.out
put8 c = within-then 11 (long-signed _ (fits (goal.at.After-put_signed-i c).After-struct_told-1)) (put7 (goal.at.After-put_signed-i c).After-put_byte-h) (rw (to_z-of_z {w = w32} (fits (goal.at.After-put_signed-i c).After-struct_told-1)) at c.put_signed-i.ensures)

abbrev text9 : Figures → List ℕ
text9 f = text8 f ++ newline

put9 : (c : After-put_byte) → Within 46 (text9 c.args.f) c.put_byte.result c.args.out.now c.put_byte.new.out
put9 c = within-then 1 (omega arith) (put8 (goal.at.After-put_byte c).After-put_signed-i) c.put_byte.ensures

pub put_decimal-b-requires : goal.put_decimal-b-requires
put_decimal-b-requires c = let w = put1 (goal.at.put_decimal-b-requires c).After-put_word-a in omega (arith, w.most, put-length w.put, short c.args.f.registers (omega arith))

pub put_byte-c-requires : goal.put_byte-c-requires
put_byte-c-requires c = let w = put2 (goal.at.put_byte-c-requires c).After-put_decimal-b in omega (arith, w.most, put-length w.put)

pub put_decimal-d-requires : goal.put_decimal-d-requires
put_decimal-d-requires c = let w = put3 (goal.at.put_decimal-d-requires c).After-put_byte-c in omega (arith, w.most, put-length w.put, long c.args.f.steps (omega arith))

pub put_byte-e-requires : goal.put_byte-e-requires
put_byte-e-requires c = let w = put4 (goal.at.put_byte-e-requires c).After-put_decimal-d in omega (arith, w.most, put-length w.put)

pub put_decimal-g-requires : goal.put_decimal-g-requires
put_decimal-g-requires c = let w = put5 (goal.at.put_decimal-g-requires c).After-put_byte-e in omega (arith, w.most, put-length w.put, long c.args.f.latency (omega arith))

pub put_byte-h-requires : goal.put_byte-h-requires
put_byte-h-requires c = let w = put6 (goal.at.put_byte-h-requires c).After-put_decimal-g in omega (arith, w.most, put-length w.put)

pub put_signed-i-requires : goal.put_signed-i-requires
put_signed-i-requires c = let w = put7 (goal.at.put_signed-i-requires c).After-put_byte-h in rw (to_z-of_z {w = w32} (fits c)) omega (arith, w.most, put-length w.put, long-signed _ (fits c), c.requires)

pub put_byte-requires : goal.put_byte-requires
put_byte-requires c = let w = put8 (goal.at.put_byte-requires c).After-put_signed-i in omega (arith, w.most, put-length w.put, c.requires)

pub returns : goal.returns
unfolding figures_line
returns c = let w = put9 (goal.at.returns c).After-put_byte in (w.put, w.most)
