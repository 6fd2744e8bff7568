-- Document 01's rules, `rules_of`: each field as an equation, and which gate may stand where, case by case.
use Prim.Native.Nat.{ℕ, ◌+◌, ◌*◌, ◌-◌, ◌≤◌, ◌<◌}
use mathlib.Core.Bool.{true, false, not, or-false}
use mathlib.Core.Path.{◌≡◌, refl}
use mathlib.Core.Logic.{◌⊎◌, inl, inr}
use native.Mathlib.Omega.{arith}
use borrow.Author.Tests.{le-leb, lt-leb, ne_eqb}
use lib.Dec.{T}
use lib.ListN.{get_or}
use Rattle.plan.specs.Plan.{Plan, cells, marks_at, blocked, tap, takes_register}
use Rattle.plan.specs.Joined.{joined}
use Rattle.timing.specs.declared.elements.Elements.{Elements}
use Rattle.timing.specs.Ranges.{buffers_max}
use Rattle.timing.specs.Formulas.{skewed, register_driver, register_load, setup_delay}
use Rattle.timing.specs.Elements.{buffer_of}
use Rattle.rules.specs.Rules.{Rules, no_gate, register_code, fifo_code, is_closing, site_of, wire_between, rules_of}
use Rattle.rules.specs.Legal.{is_end, may_stand}
use Rattle.plan.proofs.Truth.{both, fst, snd, decided, split}
use Rattle.rules.proofs.View.{closing-codes, may-stand, may-pass-end, stands-between, stands-site, not_end, not-sink, not-source}

-- The fields

module _ (p : Plan) (e : Elements) (from to : ℕ) where
  pub rules-cell_count : (rules_of p e from to).cell_count ≡ cells p
  unfolding rules_of
  rules-cell_count = refl

  pub rules-source : (rules_of p e from to).source ≡ from
  unfolding rules_of
  rules-source = refl

  pub rules-sink : (rules_of p e from to).sink ≡ to
  unfolding rules_of
  rules-sink = refl

  pub rules-limit : (rules_of p e from to).limit ≡ e.limit.0
  unfolding rules_of
  rules-limit = refl

  pub rules-linked : (a b : ℕ) → (rules_of p e from to).linked a b ≡ joined p a b
  unfolding rules_of
  rules-linked a b = refl

  pub rules-wire : (a b : ℕ) → (rules_of p e from to).wire a b ≡ wire_between p e a b
  unfolding rules_of
  rules-wire a b = refl

  pub rules-site : (cell code : ℕ) → (rules_of p e from to).site cell code ≡ site_of p e cell code
  unfolding rules_of
  rules-site cell code = refl

  pub rules-buffer : (code : ℕ) → (rules_of p e from to).buffer code ≡ get_or e.buffers (code - 1) (buffer_of 0 0 0)
  unfolding rules_of
  rules-buffer code = refl

  pub rules-start-load : (rules_of p e from to).start.load ≡ register_load e.register
  unfolding rules_of
  rules-start-load = refl

  pub rules-start-delay : (rules_of p e from to).start.delay ≡ setup_delay e.register
  unfolding rules_of
  rules-start-delay = refl

  pub rules-fresh-load : (code : ℕ) → ((rules_of p e from to).fresh code).load ≡ register_load e.register
  unfolding rules_of
  rules-fresh-load code = refl

  pub rules-fresh-delay : (code : ℕ) → ((rules_of p e from to).fresh code).delay ≡ setup_delay e.register
  unfolding rules_of
  rules-fresh-delay code = refl

  pub rules-closer : (cell code : ℕ) → (rules_of p e from to).closer cell code ≡ skewed e.skew (register_driver e.register)
  unfolding rules_of
  rules-closer cell code = refl

  pub rules-bound : (span fifos : ℕ) → (rules_of p e from to).bound span fifos ≡ 2 * e.period + 1
  unfolding rules_of
  rules-bound span fifos = refl

  pub rules-fifos : (rules_of p e from to).fifos ≡ 0
  unfolding rules_of
  rules-fifos = refl

  pub rules-weight : (fifos : ℕ) → (rules_of p e from to).weight fifos ≡ 1
  unfolding rules_of
  rules-weight fifos = refl

-- Which gate may stand on a cell that is no end's: every code is in one of these four cases.

module _ (p : Plan) (e : Elements) (cell : ℕ) where
  pub site-none : site_of p e cell no_gate ≡ true
  unfolding site_of
  site-none = refl

  pub site-buffer : (code : ℕ) → 1 ≤ code → code ≤ e.count → (code ≡ register_code → ⊥) → site_of p e cell code ≡ not (blocked (marks_at p cell))
  unfolding site_of
  site-buffer code h k f =
      simp (ne_eqb code no_gate (λ z. omega arith), le-leb 1 code h, le-leb code e.count k, ne_eqb code register_code f, or-false)

  pub site-register : e.count ≤ buffers_max → site_of p e cell register_code ≡ takes_register (marks_at p cell)
  unfolding site_of
  site-register h = simp (lt-leb register_code e.count (omega arith))

  pub site-refused : (code : ℕ) → e.count < code → (code ≡ register_code → ⊥) → site_of p e cell code ≡ false
  unfolding site_of
  site-refused code h f =
      simp (ne_eqb code no_gate (λ z. omega arith), le-leb 1 code (omega arith), lt-leb code e.count h, ne_eqb code register_code f)

-- Where a buffer, and where a register, may stand between the ends; a visit without a gate may be anywhere.

pub record BufferSite (p : Plan) (e : Elements) (from to cell code : ℕ) : Type 0 where
  pub some : 1 ≤ code
  pub listed : code ≤ e.count
  pub unblocked : T (not (blocked (marks_at p cell)))
  pub not_sink : cell ≡ to → ⊥
  pub not_source : cell ≡ from → ⊥

pub record RegisterSite (p : Plan) (from to cell : ℕ) : Type 0 where
  pub tapped : T (tap (marks_at p cell))
  pub unblocked : T (not (blocked (marks_at p cell)))
  pub not_sink : cell ≡ to → ⊥
  pub not_source : cell ≡ from → ⊥

module _ (p : Plan) (e : Elements) (from to cell : ℕ) where
  abbrev R : Rules
  R = rules_of p e from to

  pub no-gate-stands : T (may_stand (rules_of p e from to) cell no_gate)
  unfolding rules_of
  no-gate-stands = go (decided (is_end R cell))
    where
      go : T (is_end R cell) ⊎ T (not (is_end R cell)) → T (may_stand R cell no_gate)
      go (inl h) = may-pass-end R cell h
      go (inr h) = may-stand R cell no_gate h (rw (site-none p e cell) tt)

  pub buffer-site : (code : ℕ) → (code ≡ no_gate → ⊥) → (code ≡ register_code → ⊥) → T (may_stand (rules_of p e from to) cell code) → BufferSite p e from to cell code
  unfolding rules_of
  buffer-site code f g h = go (split code e.count)
    where
      between : T (not (is_end R cell))
      between = stands-between R cell code h f

      site : T (site_of p e cell code)
      site = stands-site R cell code h f

      go : (code ≤ e.count) ⊎ (e.count < code) → BufferSite p e from to cell code
      go (inl k) =
          record {
            some = omega arith;
            listed = k;
            unblocked = rw (site-buffer p e cell code (omega arith) k g) at site;
            not_sink = not-sink R cell between;
            not_source = not-source R cell between;
          }
      go (inr k) = absurd (rw (site-refused p e cell code k g) at site)

  pub buffer-stands : (code : ℕ) → e.count ≤ buffers_max → BufferSite p e from to cell code → T (may_stand (rules_of p e from to) cell code)
  unfolding rules_of
  buffer-stands code k h =
      may-stand R cell code (not_end R cell h.not_sink h.not_source) (rw (site-buffer p e cell code h.some h.listed (λ z. omega arith)) h.unblocked)

  pub register-site : e.count ≤ buffers_max → T (may_stand (rules_of p e from to) cell register_code) → RegisterSite p from to cell
  unfolding rules_of takes_register
  register-site k h =
      let f : register_code ≡ no_gate → ⊥ = λ z. omega arith in
      let between = stands-between R cell register_code h f in
      let takes : T (takes_register (marks_at p cell)) = rw (site-register p e cell k) at (stands-site R cell register_code h f) in
      record {
        tapped = fst (tap (marks_at p cell)) _ takes;
        unblocked = snd (tap (marks_at p cell)) _ takes;
        not_sink = not-sink R cell between;
        not_source = not-source R cell between;
      }

  pub register-stands : e.count ≤ buffers_max → RegisterSite p from to cell → T (may_stand (rules_of p e from to) cell register_code)
  unfolding rules_of takes_register
  register-stands k h =
      may-stand R cell register_code (not_end R cell h.not_sink h.not_source) (rw (site-register p e cell k) (both (tap (marks_at p cell)) _ h.tapped h.unblocked))

  -- the only gate that closes a span is the register
  pub closing-register : (code : ℕ) → e.count ≤ buffers_max → T (is_closing code) → T (may_stand (rules_of p e from to) cell code) → code ≡ register_code
  closing-register code k c h = go (closing-codes code c)
    where
      go : (code ≡ register_code) ⊎ (code ≡ fifo_code) → code ≡ register_code
      go (inl q) = q
      go (inr q) = absurd (omega (arith, k, (buffer-site code (λ z. omega arith) (λ z. omega arith) h).listed))
