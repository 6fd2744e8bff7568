-- `labels::plant`: the seed flag is outside of the list and its flags, and `enlist` leaves the seed flags as they are.
use Rattle.std.proofs.Common.{ℕ, ◌+◌, ◌*◌, ◌<◌, ◌≤◌, ◌≡◌, refl, sym, ◌∙◌, Bool, ◌⊎◌, inl, inr, List, arith, T, length, get_or, set, length-set, get_or-set_same, get_or-set_other}
use Rattle.layout.specs.Layout.{active_at, listed_at, seeds_at, trail_at}
use Rattle.lists.specs.Lists.{Listed, Enlisted}
use Rattle.lists.proofs.Lists.{listed-count, listed_kept}
use Rattle.labels.specs.Labels.{other_code, MarkedWith, Planted}
use Rattle.labels.proofs.Codes.{closing-small}
use Rattle.plan.proofs.Truth.{equal, of-true}
use Rattle.rules.specs.Rules.{is_closing}
use Rattle.table.specs.Problem.{marks_seed, seed_of}
use Rattle.labels.proofs.plant.Goals as goal

-- the words after a seed flag is written
abbrev seeded : List ℕ → ℕ → ℕ → ℕ → List ℕ
seeded words n cell flag = set words (n * seeds_at + cell) flag

kept : (words : List ℕ) (n cell flag k : ℕ) → (k ≡ n * seeds_at + cell → ⊥) → get_or (seeded words n cell flag) k 0 ≡ get_or words k 0
kept words n cell flag k q = get_or-set_other words (n * seeds_at + cell) k flag 0 q

seed-listed : (words : List ℕ) (n cell flag active : ℕ) → Listed n words (n * active_at) active → Listed n (seeded words n cell flag) (n * active_at) active
seed-listed words n cell flag active l =
    listed_kept l (seeded words n cell flag) (λ c h. kept words n cell flag (n * listed_at + c) (λ e. omega arith))
    (λ i h. kept words n cell flag (n * active_at + i) (λ e. omega (arith, listed-count l)))

-- the seeds, where the seed flags are those of `seeded`
module _ (n cell code mark : ℕ) (old new : List ℕ) (r : n * trail_at ≤ length old) (h : cell < n) (marks : MarkedWith (get_or old (n * seeds_at + cell) 0) code mark) (stays : (c : ℕ) → c < n → get_or new (n * seeds_at + c) 0 ≡ get_or (seeded old n cell mark) (n * seeds_at + c) 0) where
  here : get_or new (n * seeds_at + cell) 0 ≡ mark
  here = stays cell h ∙ get_or-set_same old (n * seeds_at + cell) mark 0 (omega arith)

  there : (c : ℕ) → c < n → (c ≡ cell → ⊥) → get_or new (n * seeds_at + c) 0 ≡ get_or old (n * seeds_at + c) 0
  there c k q = stays c k ∙ kept old n cell mark (n * seeds_at + c) (λ x. omega arith)

  now-seed : T (seed_of n new code cell)
  unfolding seed_of
  now-seed = rw here marks.has

  other-seeds : (c : ℕ) → c < n → (c ≡ cell → ⊥) → (a : ℕ) → seed_of n new a c ≡ seed_of n old a c
  unfolding seed_of
  other-seeds c k q a = rw (there c k q)

  other-codes : (a : ℕ) → T (is_closing a) → (a ≡ code → ⊥) → (c : ℕ) → c < n → seed_of n new a c ≡ seed_of n old a c
  unfolding seed_of
  other-codes a z f c k = go (equal c cell)
    where
      go : (c ≡ cell) ⊎ (c ≡ cell → ⊥) → marks_seed (get_or new (n * seeds_at + c) 0) a ≡ marks_seed (get_or old (n * seeds_at + c) 0) a
      go (inl q) = rw q (rw here (marks.others a z f))
      go (inr q) = rw (there c k q)

planted : (n cell code : ℕ) (idle : Bool) (mark active : ℕ) (old new : List ℕ) (next : ℕ) → cell < n → n * trail_at ≤ length old → MarkedWith (get_or old (n * seeds_at + cell) 0) code mark → Enlisted n (n * active_at) active cell (seeded old n cell mark) new next → Planted n cell code idle old new next
planted n cell code idle mark active old new next h r marks e =
    let stays : (c : ℕ) → c < n → get_or new (n * seeds_at + c) 0 ≡ get_or (seeded old n cell mark) (n * seeds_at + c) 0 = λ c k. e.high (n * seeds_at + c) (omega arith) in
    record {
      same = simp length-set at e.same;
      listed = e.listed;
      now_listed = inl e.now-flagged;
      flag_stays = λ f. e.now-flagged;
      now_seed = now-seed n cell code mark old new r h marks stays;
      others = λ c k q. e.others c k q ∙ kept old n cell mark (n * listed_at + c) (λ x. omega arith);
      other_seeds = other-seeds n cell code mark old new r h marks stays;
      other_codes = other-codes n cell code mark old new r h marks stays;
      low = λ k q. e.low k (omega arith) ∙ kept old n cell mark k (λ x. omega arith);
      middle = λ k p q. e.middle k (omega arith) q ∙ kept old n cell mark k (λ x. omega arith);
      high = λ k q. e.high k (omega arith) ∙ kept old n cell mark k (λ x. omega arith);
    }

-- an idle code, where the cell is a seed of the other
unlisted : (n cell code : ℕ) (idle : Bool) (mark active : ℕ) (old : List ℕ) → cell < n → n * trail_at ≤ length old → MarkedWith (get_or old (n * seeds_at + cell) 0) code mark → Listed n old (n * active_at) active → T idle → T (marks_seed (get_or old (n * seeds_at + cell) 0) (other_code code)) → Planted n cell code idle old (seeded old n cell mark) active
unfolding seed_of
unlisted n cell code idle mark active old h r marks l i o =
    let stays : (c : ℕ) → c < n → get_or (seeded old n cell mark) (n * seeds_at + c) 0 ≡ get_or (seeded old n cell mark) (n * seeds_at + c) 0 = λ c k. refl in
    record {
      same = length-set old (n * seeds_at + cell) mark;
      listed = seed-listed old n cell mark active l;
      now_listed = inr (i, o);
      flag_stays = λ f. kept old n cell mark (n * listed_at + cell) (λ x. omega arith) ∙ f;
      now_seed = now-seed n cell code mark old (seeded old n cell mark) r h marks stays;
      others = λ c k q. kept old n cell mark (n * listed_at + c) (λ x. omega arith);
      other_seeds = other-seeds n cell code mark old (seeded old n cell mark) r h marks stays;
      other_codes = other-codes n cell code mark old (seeded old n cell mark) r h marks stays;
      low = λ k q. kept old n cell mark k (λ x. omega arith);
      middle = λ k p q. kept old n cell mark k (λ x. omega arith);
      high = λ k q. kept old n cell mark k (λ x. omega arith);
    }

pub overflow_sub-code : goal.overflow_sub-code
overflow_sub-code c = omega (arith, closing-small _ c.requires.0)

pub returns-then-marks_seed : goal.returns-then-marks_seed
returns-then-marks_seed c =
    unlisted _ _ _ _ _ _ _ (omega arith) (omega arith) c.marked.ensures c.requires.1.0 (of-true _ c.if-idle.true) (of-true _ (sym c.marks_seed.ensures ∙ c.if-marks_seed.true))

pub enlist-requires : goal.enlist-requires
enlist-requires c =
    (seed-listed _ _ _ _ _ c.requires.1.0, (omega arith, (omega arith, (omega arith, simp length-set (omega arith)))))

pub returns : goal.returns
returns c = planted _ _ _ _ _ _ _ _ _ (omega arith) (omega arith) c.marked.ensures c.enlist.ensures
