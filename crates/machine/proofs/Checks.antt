-- Tests in order: the first that fails decides, and by rising codes 0 says that all hold. Assumes nothing.
use mathlib.Core.Path.{◌≡◌, refl, sym, ap, ◌∙◌}
use mathlib.Core.Bool.{true, false}
use mathlib.Core.List.{List, [], ◌∷◌, ◌++◌}
use Prim.Native.Nat.{ℕ, ◌≤◌}
use native.Mathlib.Omega.{arith}
use borrow.Author.Tests.{leb-true, le-leb}
use lib.Dec.{leb}
use Rattle.rows.proofs.Cases.{on, both_true, true_both}
use Rattle.machine.specs.Check.{Check, first, All, rises, FailsAt}

-- ---------- rising codes

-- codes that rise from b on rise from any number below it
pub rises_less : (a b : ℕ) (cs : List Check) → a ≤ b → rises b cs ≡ true → rises a cs ≡ true
rises_less a b [] h t = refl
rises_less a b (c ∷ cs) h t =
    let p = both_true (leb b c.code) (rises c.code cs) t in
    let l : b ≤ c.code = leb-true b c.code p.0 in
    true_both (le-leb a c.code (omega arith)) p.1

module _ (c : Check) (cs : List Check) (t : rises 1 (c ∷ cs) ≡ true) where
  low : 1 ≤ c.code
  low = leb-true 1 c.code (both_true (leb 1 c.code) (rises c.code cs) t).0

  -- no code is 0
  pub rises_head : c.code ≡ 0 → ⊥
  rises_head e = omega (arith, low)

  pub rises_tail : rises 1 cs ≡ true
  rises_tail = rises_less 1 c.code cs low (both_true (leb 1 c.code) (rises c.code cs) t).1

-- the left part of two lists of tests
pub rises_append : (a : ℕ) (xs ys : List Check) → rises a (xs ++ ys) ≡ true → rises a xs ≡ true
rises_append a [] ys t = refl
rises_append a (c ∷ cs) ys t =
    let p = both_true (leb a c.code) (rises c.code (cs ++ ys)) t in
    true_both p.0 (rises_append c.code cs ys p.1)

-- ---------- all hold exactly if the code is 0

pub first_all : (cs : List Check) → All cs → first cs ≡ 0
first_all [] a = refl
first_all (c ∷ cs) a = rw a.0 (first_all cs a.1)

pub all_first : (cs : List Check) → rises 1 cs ≡ true → first cs ≡ 0 → All cs
all_first [] t e = tt
all_first (c ∷ cs) t e = on c.holds
    (λ b. (b, all_first cs (rises_tail c cs t) (rw b at e)))
    (λ b. absurd (rises_head c cs t (rw b at e)))

-- ---------- one list of tests after the other

-- the first list holds: the second decides
pub first_past : (xs ys : List Check) → rises 1 xs ≡ true → first xs ≡ 0 → first (xs ++ ys) ≡ first ys
first_past [] ys t e = refl
first_past (c ∷ cs) ys t e = on c.holds
    (λ b. rw b (first_past cs ys (rises_tail c cs t) (rw b at e)))
    (λ b. absurd (rises_head c cs t (rw b at e)))

-- a test of the first list fails: it decides
pub first_stop : (xs ys : List Check) → (first xs ≡ 0 → ⊥) → first xs ≡ first (xs ++ ys)
first_stop [] ys n = absurd (n refl)
first_stop (c ∷ cs) ys n = on c.holds
    (λ b. rw b (first_stop cs ys (λ z. n (rw b z))))
    (λ b. rw b)

-- two lists that hold, and a list of tests that holds in both its parts
pub all_append : (xs ys : List Check) → All xs → All ys → All (xs ++ ys)
all_append [] ys a b = b
all_append (c ∷ cs) ys a b = (a.0, all_append cs ys a.1 b)

pub all_left : (xs ys : List Check) → All (xs ++ ys) → All xs
all_left [] ys a = tt
all_left (c ∷ cs) ys a = (a.0, all_left cs ys a.1)

pub all_right : (xs ys : List Check) → All (xs ++ ys) → All ys
all_right [] ys a = a
all_right (c ∷ cs) ys a = all_right cs ys a.1

-- ---------- a code is given exactly when the tests before hold and a test with this code fails

-- a failing test, and one that holds before it
fails_here : (c : Check) (cs : List Check) → c.holds ≡ false → FailsAt (c ∷ cs) c.code
fails_here c cs b = record { before = []; test = c; behind = cs; split = refl; held = tt; fails = b; code = refl }

fails_later : (c : Check) (cs : List Check) (n : ℕ) → c.holds ≡ true → FailsAt cs n → FailsAt (c ∷ cs) n
fails_later c cs n b f =
    record {
      before = c ∷ f.before;
      test = f.test;
      behind = f.behind;
      split = ap (λ (l : List Check). c ∷ l) f.split;
      held = (b, f.held);
      fails = f.fails;
      code = f.code;
    }

pub first_fails : (cs : List Check) (n : ℕ) → first cs ≡ n → (n ≡ 0 → ⊥) → FailsAt cs n
first_fails [] n e z = absurd (z (sym e))
first_fails (c ∷ cs) n e z = on c.holds
    (λ b. fails_later c cs n b (first_fails cs n (rw b at e) z))
    (λ b. rw (← (rw b at e)) (fails_here c cs b))

-- after tests that hold, the code of the test that fails
first_at : (xs : List Check) (c : Check) (ys : List Check) → All xs → c.holds ≡ false → first (xs ++ (c ∷ ys)) ≡ c.code
first_at [] c ys a b = rw b
first_at (x ∷ xs) c ys a b = rw a.0 (first_at xs c ys a.1 b)

pub fails_first : (cs : List Check) (n : ℕ) → FailsAt cs n → first cs ≡ n
fails_first cs n f = rw f.split (first_at f.before f.test f.behind f.held f.fails ∙ f.code)

-- and such a code is not 0
rises_mid : (xs : List Check) (c : Check) (ys : List Check) → rises 1 (xs ++ (c ∷ ys)) ≡ true → c.code ≡ 0 → ⊥
rises_mid [] c ys t = rises_head c ys t
rises_mid (x ∷ xs) c ys t = rises_mid xs c ys (rises_tail x (xs ++ (c ∷ ys)) t)

pub fails_nonzero : (cs : List Check) (n : ℕ) → rises 1 cs ≡ true → FailsAt cs n → n ≡ 0 → ⊥
fails_nonzero cs n t f e = rises_mid f.before f.test f.behind (rw f.split at t) (f.code ∙ e)
