-- What two of the reasons for no route speak of (document 02, C-13): routes "with the period test left out", and "a chain of uncut wires".
use Rattle.std.specs.Prelude.{ℕ, Bool, false, ◌&&◌, ◌||◌, List, [], ◌∷◌, T, eqb}
use Rattle.rules.specs.Rules.{Stage, Rules}
use Rattle.rules.specs.Legal.{Visit, Route, arrive, is_last, cell_right, wire_right, code_right, load_right, first_right, legal}
use Rattle.rules.specs.Beginning.{Place, next_place, start_place}

-- the tests of `visit_right`, "with the period test left out"
unfoldable pub visit_fits : Rules → ℕ → ℕ → Stage → Bool → Visit → Bool
visit_fits R from fifos s last v = cell_right R last v && wire_right R from v && code_right R fifos last v && load_right R last s v

-- `legal_from` with these
unfoldable pub fits_from : Rules → Place → Route → Bool
fits_from R a [] = false
fits_from R a (v ∷ vs) =
    visit_fits R a.cell a.fifos (arrive R a.cell a.stage v.cell) (is_last vs) v && (is_last vs || fits_from R (next_place R a v) vs)

-- legal, "with the period test left out"
unfoldable pub fits : Rules → Route → Bool
fits R [] = false
fits R (v ∷ vs) = first_right R v && fits_from R (start_place R v) vs

-- "a chain of uncut wires" from c to the source, by the cells after c
unfoldable pub chain_from : Rules → ℕ → List ℕ → Bool
chain_from R c [] = eqb c R.source
chain_from R c (n ∷ ns) = R.linked c n && chain_from R n ns

-- "a chain of uncut wires joins the ends"
pub record Chain (R : Rules) : Type 0 where
  pub cells : List ℕ
  pub uncut : T (chain_from R R.sink cells)

-- "a route exists"
pub record HasRoute (R : Rules) : Type 0 where
  pub route : Route
  pub is_legal : T (legal R route)
