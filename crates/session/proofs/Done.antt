-- Answered or refused: the number of an answer, and the chains of checks.
use Rattle.std.proofs.Common.{◌≡◌, refl, Ok, Err, true, eqb}
use Rattle.session.specs.declared.records.SessionRefusal.TheVariants.{Grid, Length, Mark, JournalShort, Depth, JournalFull, NothingToUndo, CorruptJournal, Cell}
use Rattle.session.specs.Numbers.{SessionAnswer, session_number, is_done}
use Rattle.session.specs.Answers.{after}

-- an answer is done exactly where its number is 0
pub done-number : (a : SessionAnswer) → eqb (session_number a) 0 ≡ is_done a
done-number (Ok u) = refl
done-number (Err Grid) = refl
done-number (Err Length) = refl
done-number (Err Mark) = refl
done-number (Err JournalShort) = refl
done-number (Err Depth) = refl
done-number (Err JournalFull) = refl
done-number (Err NothingToUndo) = refl
done-number (Err CorruptJournal) = refl
done-number (Err Cell) = refl

-- only what is done has the number 0
pub done-is : (a : SessionAnswer) → eqb (session_number a) 0 ≡ true → a ≡ Ok tt
done-is (Ok u) e = refl
done-is (Err r) e = cc (done-number (Err r))

-- what an answered chain says of its two parts
pub after_first : (a b : SessionAnswer) → after a b ≡ Ok tt → a ≡ Ok tt
unfolding after
after_first (Ok u) b e = refl
after_first (Err r) b e = cc

pub after-rest : (a b : SessionAnswer) → after a b ≡ Ok tt → b ≡ Ok tt
unfolding after
after-rest (Ok u) b e = e
after-rest (Err r) b e = cc
