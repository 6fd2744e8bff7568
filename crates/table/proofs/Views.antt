-- Reading the tables in the scratch words, and keeping them.
use Rattle.std.proofs.Common.{ℕ, suc, ◌+◌, ◌-◌, ◌*◌, ◌≤◌, ◌<◌, ◌≡◌, refl, sym, ◌∙◌, ◌&&◌, ◌⊎◌, inl, inr, List, arith, T, ltb, ltb→lt, lt→ltb, get_or}
use Rattle.plan.proofs.Truth.{both, fst, snd, split}
use Rattle.budget.proofs.Max.{only-true, only-false}
use Rattle.layout.specs.Layout.{arrival_at, seeds_at, trail_at}
use Rattle.rows.specs.Words.{Kept}
use Rattle.rows.specs.Rows.{word_of}
use Rattle.costs.specs.Costs.{row_words, buffer_at}
use Rattle.rules.specs.Rules.{is_closing, rules_of}
use Rattle.rules.specs.Crossing.{rules_between}
use Rattle.problem.specs.declared.net.Net.{Net}
use Rattle.table.specs.Problem.{net_rules, budget_of, seed_of}
use Rattle.table.specs.Layer.{arrival_of}

module _ (n : ℕ) where
  in_table : (c l : ℕ) → c < n → l < row_words → T (ltb c n && ltb l row_words)
  in_table c l h k = both (ltb c n) (ltb l row_words) (lt→ltb c n h) (lt→ltb l row_words k)

  pub budget-at : (words : List ℕ) (c l : ℕ) → c < n → l < row_words → budget_of n words c l ≡ get_or words (c * row_words + l) 0
  unfolding budget_of
  budget-at words c l h k = only-true (ltb c n && ltb l row_words) _ (in_table c l h k)

  pub budget-outside : (words : List ℕ) (c l : ℕ) → (c < n → l < row_words → ⊥) → budget_of n words c l ≡ 0
  unfolding budget_of
  budget-outside words c l f =
      only-false (ltb c n && ltb l row_words) _ (λ t. f (ltb→lt c n (fst (ltb c n) _ t)) (ltb→lt l row_words (snd (ltb c n) _ t)))

  pub arrival-at : (words : List ℕ) (l : ℕ) → l < row_words → arrival_of n words l ≡ get_or words (n * arrival_at + l) 0
  unfolding word_of
  arrival-at words l k = only-true (ltb l row_words) _ (lt→ltb l row_words k)

  pub arrival-outside : (words : List ℕ) (l : ℕ) → row_words ≤ l → arrival_of n words l ≡ 0
  unfolding word_of
  arrival-outside words l h = only-false (ltb l row_words) _ (λ t. omega (arith, ltb→lt l row_words t))

  -- a place of the table, or outside it
  pub inside : (c l : ℕ) → ((c < n) × (l < row_words)) ⊎ (c < n → l < row_words → ⊥)
  inside c l = go (split n c) (split row_words l)
    where
      go : (n ≤ c) ⊎ (c < n) → (row_words ≤ l) ⊎ (l < row_words) → ((c < n) × (l < row_words)) ⊎ (c < n → l < row_words → ⊥)
      go (inl h) k = inr (λ a b. omega arith)
      go (inr h) (inl k) = inr (λ a b. omega arith)
      go (inr h) (inr k) = inl (h, k)

  -- tables stay with their words

  pub budget-kept : (old new : List ℕ) → Kept 0 (n * arrival_at) old new → (c l : ℕ) → budget_of n new c l ≡ budget_of n old c l
  budget-kept old new kept c l = go (inside c l)
    where
      go : ((c < n) × (l < row_words)) ⊎ (c < n → l < row_words → ⊥) → budget_of n new c l ≡ budget_of n old c l
      go (inl h) = budget-at new c l h.0 h.1 ∙ (kept (c * row_words + l) (omega arith) (omega arith) ∙ sym (budget-at old c l h.0 h.1))
      go (inr f) = budget-outside new c l f ∙ sym (budget-outside old c l f)

  pub arrival-kept : (old new : List ℕ) → Kept (n * arrival_at) (n * arrival_at + row_words) old new → (l : ℕ) → arrival_of n new l ≡ arrival_of n old l
  arrival-kept old new kept l = go (split row_words l)
    where
      go : (row_words ≤ l) ⊎ (l < row_words) → arrival_of n new l ≡ arrival_of n old l
      go (inl h) = arrival-outside new l h ∙ sym (arrival-outside old l h)
      go (inr h) = arrival-at new l h ∙ (kept (n * arrival_at + l) (omega arith) (omega arith) ∙ sym (arrival-at old l h))

  pub seeds-kept : (old new : List ℕ) → Kept (n * seeds_at) (n * trail_at) old new → (c : ℕ) → c < n → (code : ℕ) → T (is_closing code) → seed_of n new code c ≡ seed_of n old code c
  unfolding seed_of
  seeds-kept old new kept c h code z = rw (kept (n * seeds_at + c) (omega arith) (omega arith))

-- what the rules of a net name

module _ (net : Net) (marks : List ℕ) where
  pub buffer-named : (i : ℕ) → (net_rules net marks).buffer (suc i) ≡ buffer_at net.problem.elements i
  unfolding net_rules rules_between rules_of buffer_at
  buffer-named i =
      let z : suc i - 1 ≡ i = omega arith in
      rw z

  pub limit-named : (net_rules net marks).limit ≡ net.problem.elements.limit.0
  unfolding net_rules rules_between rules_of
  limit-named = refl
