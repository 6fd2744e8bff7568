-- `labels::sites::label_active`: the invariant: the first i cells of the list have been tried. They are the list of the words at entry, which stays.
use Rattle.std.proofs.Common.{ℕ, ◌*◌, List, length}
use Rattle.layout.specs.Layout.{active_at}
use Rattle.lists.specs.Lists.{ListedAt}
use Rattle.problem.specs.declared.net.Net.{Net}
use Rattle.table.specs.Problem.{net_rules}
use Rattle.labels.specs.Additions.{LabelsAddedAmong}
use Rattle.labels.proofs.sites.label_active.Given as goal

-- the first i cells have been tried
abbrev pub Tried : Net → List ℕ → ℕ → ℕ → ℕ → ℕ → ℕ → List ℕ → ℕ → List ℕ → ℕ → Type 0
Tried net marks code set weight steps count old i new known =
    LabelsAddedAmong (net_rules net marks) (length marks) code set (ListedAt (length marks) old (length marks * active_at) i) weight steps old new count known

abbrev pub invariant-loop-i : goal.invariant-loop-i
invariant-loop-i l =
    Tried l.net l.plan l.code l.set l.weight l.steps l.count l.initial.scratch l.i l.scratch l.known
