-- Search and emission of a net with one clock, in the rules of its problem.
use Prim.Native.Nat.{ℕ, ◌*◌, ◌≤◌, ◌<◌}
use mathlib.Core.Path.{◌≡◌, refl, sym, ◌∙◌, subst}
use mathlib.Core.Logic.{◌⊎◌, inl, inr}
use mathlib.Core.List.{List}
use native.Mathlib.Omega.{arith}
use lib.ListN.{length, get_or}
use Rattle.plan.proofs.Truth.{split}
use Rattle.timing.specs.Clocks.{one_clock}
use Rattle.rules.specs.Rules.{Rules, fifo_code}
use Rattle.rules.proofs.Clocks.{gate-one}
use Rattle.costs.specs.Costs.{CostsOf}
use Rattle.layout.specs.Layout.{cell_words, aside_at}
use Rattle.rows.specs.Words.{KeptFrom}
use Rattle.problem.specs.declared.Problem.{Problem}
use Rattle.problem.specs.declared.net.Net.{Net}
use Rattle.problem.specs.Problem.{rules_for, Ready}
use Rattle.problem.specs.Net.{one_net, fifo_of, net_rules, NetReady}
use Rattle.problem.proofs.Clocks.{one-rules, one-ready, net-fifos}
use Rattle.search.specs.declared.turns.Reached.{Reached}
use Rattle.search.specs.Turn.{Reaching, Beyond}
use Rattle.search.specs.Search.{SideAsks, SearchEffect}
use Rattle.search.proofs.LastSide.{last-side}
use Rattle.router.specs.declared.writing.Written.{Written}
use Rattle.router.specs.Writing.{Writes}

-- only its own words are written
pub one-rest : {n : ℕ} {old new : List ℕ} → Beyond n 0 old new → KeptFrom (n * cell_words) old new
one-rest {n} {old} {new} b i h = go (split (n * aside_at) i)
  where
    go : (n * aside_at ≤ i) ⊎ (i < n * aside_at) → get_or new i 0 ≡ get_or old i 0
    go (inl q) = b.rest i q
    go (inr q) = b.exits refl i (omega arith) q

-- `net` is the problem p with one clock
module _ (p : Problem) (net : Net) (one : net ≡ one_net p) where
  pub net-costed : (costs : List ℕ) → CostsOf p.elements p.elements.register costs → CostsOf net.problem.elements (fifo_of net) costs
  unfolding one_net one_clock fifo_of
  net-costed costs h =
      rw (one, gate-one p.elements (one_clock p.elements.period) fifo_code refl) h

  module _ (marks : List ℕ) where
    pub rules-are : net_rules net marks ≡ rules_for p marks
    rules-are = rw one (one-rules p marks)

    pub net-ready : Ready p marks → NetReady net marks
    net-ready ready = rw one (one-ready p marks ready)

    pub one_side : (words : List ℕ) → SideAsks (net_rules net marks) (length marks) 0 0 words
    unfolding one_net one_clock
    one_side words =
        last-side (net_rules net marks) (length marks) 0 words (net-fifos net marks ∙ rw one) (λ h. absurd (omega arith)) (λ h. absurd (omega arith))

    pub one-searched : {n : ℕ} {old new : List ℕ} {r : Reached} → SearchEffect (net_rules net marks) n 0 0 old new r → SearchEffect (rules_for p marks) n 0 0 old new r
    one-searched {n} {old} {new} {r} h = subst (λ (R : Rules). SearchEffect R n 0 0 old new r) rules-are h

    pub one-reaching : {n k s count : ℕ} {words : List ℕ} → Reaching (rules_for p marks) n 0 words k s count → Reaching (net_rules net marks) n 0 words k s count
    one-reaching {n} {k} {s} {count} {words} h = subst (λ (R : Rules). Reaching R n 0 words k s count) (sym rules-are) h

    pub one_written : {k s most : ℕ} {scratch scratch' visits visits' : List ℕ} {r : Written} → Writes (net_rules net marks) k s most scratch scratch' visits visits' r → Writes (rules_for p marks) k s most scratch scratch' visits visits' r
    one_written {k} {s} {most} {scratch} {scratch'} {visits} {visits'} {r} h =
        subst (λ (R : Rules). Writes R k s most scratch scratch' visits visits' r) rules-are h
