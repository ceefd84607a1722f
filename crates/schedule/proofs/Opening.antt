-- A file up to its first step, at each of the ways out of the functions that read it. Assumes nothing.
use mathlib.Core.Path.{◌≡◌, ◌∙◌}
use mathlib.Core.List.{List}
use Prim.Native.Nat.{ℕ, ◌-◌, ◌≤◌, ◌<◌}
use borrow.Author.Tests.{lt-ltb, le-ltb, eq-eqb, ne_eqb}
use lib.ListN.{length, get_or}
use Rattle.rows.specs.Bytes.{number_at}
use Rattle.schedule.specs.Limits as limit
use Rattle.schedule.specs.Widths as kind
use Rattle.std.specs.Prelude.{Err}
use Rattle.schedule.specs.Front.{kind_front, opened_of, Opened}
use Rattle.schedule.specs.Kinds.{number}
use Rattle.schedule.specs.declared.kinds.Kind as kinds
use Rattle.schedule.specs.declared.front.Fault.TheVariants.{Length, Version, Body, Kind}

-- ---------- length, version, body

module _ (f : List ℕ) (r : Opened) where
  pub too_short : length f < 4 → r ≡ Err Length → r ≡ opened_of f
  unfolding opened_of
  too_short h e = e ∙ rw (lt-ltb (length f) 4 h)

  -- n is what bytes 1 and 2 tell
  module _ (h : 4 ≤ length f) (m : ℕ) (t : m ≡ number_at f 1 2) (n : ℕ) (b : n ≡ m) where
    p : n ≡ number_at f 1 2
    p = b ∙ t

    pub wrong_length_lem : (n ≡ length f - 3 → ⊥) → r ≡ Err Length → r ≡ opened_of f
    unfolding opened_of
    wrong_length_lem q e = e ∙ rw (le-ltb (length f) 4 h, ← p, ne_eqb n (length f - 3) q)

    module _ (q : n ≡ length f - 3) where
      pub wrong_version : (get_or f 0 0 ≡ 1 → ⊥) → r ≡ Err Version → r ≡ opened_of f
      unfolding opened_of
      wrong_version v e = e ∙ rw (le-ltb (length f) 4 h, ← p, eq-eqb n (length f - 3) q, ne_eqb (get_or f 0 0) 1 v)

      module _ (v : get_or f 0 0 ≡ 1) where
        pub too_long : limit.body < length f - 3 → r ≡ Err Body → r ≡ opened_of f
        unfolding opened_of
        too_long b e = e ∙ rw (le-ltb (length f) 4 h, ← p, eq-eqb n (length f - 3) q, eq-eqb (get_or f 0 0) 1 v, lt-ltb limit.body (length f - 3) b)

        pub opens : length f - 3 ≤ limit.body → r ≡ kind_front (get_or f 3 0) f → r ≡ opened_of f
        unfolding opened_of
        opens b e = e ∙ rw (le-ltb (length f) 4 h, ← p, eq-eqb n (length f - 3) q, eq-eqb (get_or f 0 0) 1 v, le-ltb limit.body (length f - 3) b)

-- ---------- the kind

pub unknown_kind : (k : ℕ) (f : List ℕ) → ((x : kinds.Kind) → k ≡ number x → ⊥) → Err Kind ≡ kind_front k f
unknown_kind k f other =
    rw (
      ne_eqb k kind.flat (other kinds.TheVariants.Flat),
      ne_eqb k kind.lock (other kinds.TheVariants.Lock),
      ne_eqb k kind.counting (other kinds.TheVariants.Counting),
      ne_eqb k kind.flag (other kinds.TheVariants.Flag),
    )
