-- Numbers read one after another.
use Prim.Native.Nat.{ℕ, suc, ◌+◌, ◌-◌, ◌≤◌, ◌<◌}
use mathlib.Core.Path.{◌≡◌, refl, sym, ap, ◌∙◌}
use mathlib.Core.List.{List, [], ◌∷◌, ◌++◌, append-nil}
use native.Mathlib.Numerals.{add-one}
use native.Mathlib.Omega.{arith}
use lib.ListN.{length, take, set}
use lib.Seq.{take-suc-set, take-length}
use borrow.Author.Tests.{le-leb, lt-leb}
use Rattle.numbers.specs.Numbers.{value, fault, number}
use Rattle.numbers.specs.Runs.{Run, values, refused, job_fault, prepend, one_more, run}

module _ (n top refusal : ℕ) (bytes : List ℕ) where
  pub run-next : (v : ℕ) (rest : List ℕ) → number bytes ≡ value v rest → v ≤ top → run (suc n) top refusal bytes ≡ prepend v (run n top refusal rest)
  unfolding run one_more
  run-next v rest e h = rw (e, one_more, le-leb v top h)

  pub run-above : (v : ℕ) (rest : List ℕ) → number bytes ≡ value v rest → top < v → run (suc n) top refusal bytes ≡ refused refusal
  unfolding run one_more
  run-above v rest e h = rw (e, one_more, lt-leb v top h)

  pub run-fault : number bytes ≡ fault → run (suc n) top refusal bytes ≡ refused job_fault
  unfolding run one_more
  run-fault e = rw (e, one_more)

-- the numbers read so far, before those that follow
unfoldable pub prepend_all : List ℕ → Run → Run
prepend_all [] s = s
prepend_all (v ∷ vs) s = prepend v (prepend_all vs s)

prepend-last : (vs : List ℕ) (v : ℕ) (s : Run) → prepend_all (vs ++ (v ∷ [])) s ≡ prepend_all vs (prepend v s)
unfolding prepend_all
prepend-last [] v s = refl
prepend-last (w ∷ vs) v s = ap (prepend w) (prepend-last vs v s)

prepend-refused : (vs : List ℕ) (k : ℕ) → prepend_all vs (refused k) ≡ refused k
unfolding prepend_all prepend
prepend-refused [] k = refl
prepend-refused (v ∷ vs) k = ap (prepend v) (prepend-refused vs k)

prepend-values : (vs ws rest : List ℕ) → prepend_all vs (values ws rest) ≡ values (vs ++ ws) rest
unfolding prepend_all prepend
prepend-values [] ws rest = refl
prepend-values (v ∷ vs) ws rest = ap (prepend v) (prepend-values vs ws rest)

-- i of n numbers of the job stand in the words, and the rest is still to be read
pub record Going (n top refusal : ℕ) (job words rest : List ℕ) (i : ℕ) : Type 0 where
  pub more : prepend_all (take i words) (run (n - i) top refusal rest) ≡ run n top refusal job

module _ (n top refusal : ℕ) (job words : List ℕ) where
  pub going_start : Going n top refusal job words job 0
  unfolding prepend_all
  going_start =
      let all : n - 0 ≡ n = omega arith in
      record { more = ap (λ (k : ℕ). run k top refusal job) all }

  one_left : (i : ℕ) → i < n → n - i ≡ suc (n - (i + 1))
  one_left i h = omega arith

  module _ (rest : List ℕ) (i : ℕ) (g : Going n top refusal job words rest i) (h : i < n) where
    pub going_more : (v : ℕ) (next : List ℕ) → i < length words → number rest ≡ value v next → v ≤ top → Going n top refusal job (set words i v) next (i + 1)
    going_more v next room e most =
        record {
          more =
              ap (λ (vs : List ℕ). prepend_all vs (run (n - (i + 1)) top refusal next)) (rw add-one (take-suc-set words i v room))
              ∙ (prepend-last (take i words) v (run (n - (i + 1)) top refusal next)
              ∙ (ap (prepend_all (take i words)) (sym (run-next (n - (i + 1)) top refusal rest v next e most))
              ∙ (ap (λ (k : ℕ). prepend_all (take i words) (run k top refusal rest)) (sym (one_left i h)) ∙ g.more)));
        }

    refused-here : (k : ℕ) → run (suc (n - (i + 1))) top refusal rest ≡ refused k → refused k ≡ run n top refusal job
    refused-here k e =
        sym (prepend-refused (take i words) k)
        ∙ (ap (prepend_all (take i words)) (sym e)
        ∙ (ap (λ (j : ℕ). prepend_all (take i words) (run j top refusal rest)) (sym (one_left i h)) ∙ g.more))

    pub going-fault : number rest ≡ fault → refused job_fault ≡ run n top refusal job
    going-fault e = refused-here job_fault (run-fault (n - (i + 1)) top refusal rest e)

    pub going-above : (v : ℕ) (next : List ℕ) → number rest ≡ value v next → top < v → refused refusal ≡ run n top refusal job
    going-above v next e above = refused-here refusal (run-above (n - (i + 1)) top refusal rest v next e above)

  pub going_done : (rest : List ℕ) (i : ℕ) → length words ≡ n → i ≡ n → Going n top refusal job words rest i → values words rest ≡ run n top refusal job
  unfolding run
  going_done rest i e end g =
      let none : n - i ≡ 0 = omega arith in
      let whole : take i words ≡ words = rw (end, ← e) (take-length words) in
      ap (λ (vs : List ℕ). values vs rest) (sym (append-nil words))
      ∙ (sym (prepend-values words [] rest)
      ∙ rw (whole, none) at g.more)
