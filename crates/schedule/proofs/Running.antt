-- The turns of a replay loop over a file and its ways out, and what the functions around it leave, for any machine and its language. Assumes nothing.
use mathlib.Core.Path.{◌≡◌, refl, sym, ◌∙◌}
use mathlib.Core.List.{List, [], ◌∷◌, append-nil}
use Prim.Native.Nat.{ℕ, ◌+◌, ◌-◌, ◌*◌, ◌^◌, ◌≤◌, ◌<◌}
use native.Mathlib.Nat.{add-zero, zero-add}
use native.Mathlib.Omega.{arith}
use borrow.Author.Tests.{eq-eqb, ne_eqb}
use mir.Syntax.{w64}
use mir.Val.{Fits}
use lib.ListN.{length}
use Rattle.rows.specs.Stores.{Laid, puts}
use Rattle.rows.specs.Walk.{pieces}
use Rattle.rows.proofs.Stores.{laid_whole}
use Rattle.machine.specs.Codes as code
use Rattle.machine.specs.Machine.{code_of}
use Rattle.machine.specs.Replay.{Replayed, replay}
use Rattle.machine.specs.Loop.{steps_from, Left, left}
use Rattle.machine.proofs.Loops.{Going, begins, going_end, going_next, going_most, going_stop, going_turn}
use Rattle.machine.proofs.Fair.{Fair}
use Rattle.schedule.specs.Limits as limit
use Rattle.schedule.specs.Language.{step_at, size_of}
use Rattle.schedule.specs.Counting.{counted_of}
use Rattle.schedule.specs.Answers.{refused_as, refused_for, Leaves}
use Rattle.schedule.specs.Carries.{Carries}
use Rattle.schedule.specs.Running.{Counts, Runner, Runnable, Ended, rest_run, rest_made}
use Rattle.schedule.specs.declared.answer.Answer.{Answer}
use Rattle.schedule.specs.declared.front.Fault.{Fault}
use Rattle.schedule.specs.Counting.{Counted}
use Rattle.std.specs.Prelude.{Ok, Err}
use Rattle.schedule.proofs.LoopSteps.{counted_formed}
use Rattle.schedule.proofs.Rests as rests

-- ---------- the loop

module _ (p : Runner) (o : Carries p) (f : List ℕ) (from n : ℕ) (q₀ : p.machine.State) (log₀ : List ℕ) (used : ℕ) where
  abbrev pub Runs : List ℕ → p.machine.State → ℕ → ℕ → ℕ → Type 0
  Runs log q at k w =
      Going p.machine (step_at p.language) (size_of p.language) p.bytes limit.entry o.short p.Good o.kept f from 0 n q₀ log₀ used log q at k w

  pub starts : Runnable p f from n q₀ used (length log₀) → length f < 2 ^ 64 → Runs log₀ q₀ from 0 used
  starts r b =
      let z : n - 0 ≡ n = omega arith in
      begins p.machine (step_at p.language) (size_of p.language) p.bytes limit.entry o.short p.Good o.kept f from 0 n q₀ log₀ used
      (omega arith) b r.safe (rw z r.formed) (rw z r.fits)

  abbrev whole : Left p.machine
  whole = left p.bytes log₀ used (replay p.machine q₀ 0 (steps_from (step_at p.language) (size_of p.language) f from (n - 0)))

  left_ended : (e : Left p.machine) → whole ≡ e → Ended p f from n q₀ log₀ used e
  left_ended e q = let z : n - 0 ≡ n = omega arith in record { ended = sym (rw z at q) }

  module _ (log : List ℕ) (q : p.machine.State) (at k w : ℕ) (g : Runs log q at k w) where
    -- the run ends here with this code
    abbrev pub Out : ℕ → Type 0
    Out c = Ended p f from n q₀ log₀ used (record { code = c; place = k; state = q; log = log; upto = w })

    pub ends : k ≡ n → Out 0
    ends e =
        left_ended _
        (going_end p.machine (step_at p.language) (size_of p.language) p.bytes limit.entry o.short p.Good o.kept f from 0 n q₀ log₀ used log q at k w g e)

    module _ (h : k ≡ n → ⊥) (x : p.machine.Step) (r : x ≡ step_at p.language f at) (v : p.machine.Step) (e : x ≡ v) where
      -- the place after the step is in the file
      pub ahead : Fits w64 (at + size_of p.language v)
      ahead =
          rw e at
          (going_next p.machine (step_at p.language) (size_of p.language) p.bytes limit.entry o.short p.Good o.kept f from 0 n q₀ log₀ used log q at k w g h x r)

      most : w + limit.entry ≤ length log
      most =
          going_most p.machine (step_at p.language) (size_of p.language) p.bytes limit.entry o.short p.Good o.kept f from 0 n q₀ log₀ used log q at k w g h x r

      -- the step is refused
      pub stops : (c : ℕ) → c ≡ code_of p.machine q v → (c ≡ 0 → ⊥) → Out c
      stops c a z =
          left_ended _
          (going_stop p.machine (step_at p.language) (size_of p.language) p.bytes limit.entry o.short p.Good o.kept f from 0 n q₀ log₀ used log q at k w g h x r
          c (rw e a) z)

      -- the step is accepted, and logs nothing, one entry, or some
      module _ (z : code_of p.machine q v ≡ 0) (q' : p.machine.State) (to : q' ≡ p.machine.next q v) where
        goes : (log' : List ℕ) (w' : ℕ) → log' ≡ puts log w (pieces p.bytes (p.machine.logs q v)) → w' ≡ w + length (pieces p.bytes (p.machine.logs q v))
            → Runs log' q' (at + size_of p.language v) (k + 1) w'
        goes log' w' el ew =
            going_turn p.machine (step_at p.language) (size_of p.language) p.bytes limit.entry o.short p.Good o.kept f from 0 n q₀ log₀ used log q at k w g h x r
            (rw e z) q' log' (at + size_of p.language v) w' (rw e to) (rw e el) (rw e) (rw e ew)

        pub quiet : p.machine.logs q v ≡ [] → Runs log q' (at + size_of p.language v) (k + 1) w
        quiet s = goes log w (rw s) (rw s (sym (add-zero w)))

        pub loud : (w' : ℕ) (log' : List ℕ) → Laid log w (pieces p.bytes (p.machine.logs q v)) w' log'
            → Runs log' q' (at + size_of p.language v) (k + 1) w'
        loud w' log' d =
            let laid = laid_whole log w (pieces p.bytes (p.machine.logs q v)) w' log' (omega (arith, most, o.short q v)) d in
            goes log' w' laid.1 laid.0

        pub says : (y : p.machine.Entry) → p.machine.logs q v ≡ y ∷ [] → (w' : ℕ) (log' : List ℕ) → Laid log w (p.bytes y) w' log'
            → Runs log' q' (at + size_of p.language v) (k + 1) w'
        says y s w' log' d =
            let one : pieces p.bytes (y ∷ []) ≡ p.bytes y = append-nil (p.bytes y) in
            loud w' log' (rw (s, one) d)

      -- the same of a step whose record a transition moved
      module _ (a : ℕ) (t : p.machine.State) (d : Fair p.machine q v a t) where
        pub fair_stops : (a ≡ 0 → ⊥) → Out a
        fair_stops = stops a d.own

        module _ (z : a ≡ 0) where
          pub fair_quiet : p.machine.logs q v ≡ [] → Runs log t (at + size_of p.language v) (k + 1) w
          fair_quiet = quiet (sym d.own ∙ z) t (d.went z)

          pub fair_loud : (w' : ℕ) (log' : List ℕ) → Laid log w (pieces p.bytes (p.machine.logs q v)) w' log'
              → Runs log' t (at + size_of p.language v) (k + 1) w'
          fair_loud = loud (sym d.own ∙ z) t (d.went z)

          pub fair_says : (y : p.machine.Entry) → p.machine.logs q v ≡ y ∷ [] → (w' : ℕ) (log' : List ℕ) → Laid log w (p.bytes y) w' log'
              → Runs log' t (at + size_of p.language v) (k + 1) w'
          fair_says = says (sym d.own ∙ z) t (d.went z)

-- ---------- the functions around the loop

-- what was counted
pub counts : (kind : ℕ) (f : List ℕ) (from : ℕ) (c : Counted) → c ≡ counted_of kind f from → (n : ℕ) → c ≡ Ok n → Counts kind f from n
counts kind f from c p n e = sym p ∙ e

-- n steps take no more room than a usize tells
pub product : (kind : ℕ) (f : List ℕ) (from n : ℕ) → Counts kind f from n → Fits w64 (n * limit.entry)
product kind f from n c = record { fits = omega (arith, rests.counted_few kind f from n c) }

module _ (p : Runner) (o : Carries p) (s : p.machine.State) (f : List ℕ) (from : ℕ) (log image : List ℕ) where
  -- what is left is what the rest of the file comes to
  abbrev Rests : Answer → List ℕ → List ℕ → Type 0
  Rests r log' image' = Leaves (rest_run p s f from log image) r log' image'

  pub faulty_leaves : (c : Counted) → c ≡ counted_of p.language.kind f from → (x : Fault) → c ≡ Err x → (r : Answer)
      → r ≡ refused_for x → Rests r log image
  faulty_leaves c q x e = rests.faulty_leaves p.machine p.language p.bytes p.image s f from log image x (sym q ∙ e)

  module _ (n : ℕ) (c : Counts p.language.kind f from n) where
    pub runnable : p.Good s → n * limit.entry ≤ length log → Runnable p f from n s 0 (length log)
    runnable g h = record { formed = counted_formed p.language o.lawful f from n c; safe = g; fits = omega (arith, h) }

    pub log_short : length log < n * limit.entry → (r : Answer) → r ≡ refused_as code.room 0 → Rests r log image
    log_short = rests.log_short p.machine p.language p.bytes p.image s f from log image o.lawful n c

    module _ (h : n * limit.entry ≤ length log) where
      pub image_short : length image < limit.image → (r : Answer) → r ≡ refused_as code.room 0 → Rests r log image
      image_short = rests.image_short p.machine p.language p.bytes p.image s f from log image o.lawful n c h

      -- both buffers are long enough: the run's log, and the image of the state that it left
      pub ran_leaves : limit.image ≤ length image → (e : Left p.machine) → Ended p f from n s log 0 e → (k : ℕ) (image' : List ℕ)
          → Laid image 0 (p.image e.state) k image'
          → (r : Answer) → r ≡ record { place = e.place; logged = e.upto; imaged = k; code = e.code } → Rests r e.log image'
      ran_leaves i e d k image' w r told =
          let a : Replayed p.machine = replay p.machine s 0 (steps_from (step_at p.language) (size_of p.language) f from n) in
          let b : e ≡ left p.bytes log 0 a = d.ended in
          rw b
          (rests.ran_leaves p.machine p.language p.bytes p.image s f from log image o.lawful n c h i o.short (o.small a.state) _ refl k image' (rw b at w) r (rw (b, zero-add) at told))

-- ---------- with parameters

module _ (p : Runner) (c : ℕ) (s : p.machine.State) (f : List ℕ) (from : ℕ) (log image : List ℕ) where
  pub bad_leaves : (c ≡ 0 → ⊥) → (r : Answer) → r ≡ refused_as c 0 → Leaves (rest_made p c s f from log image) r log image
  bad_leaves n r q = rw (ne_eqb c 0 n) (record { answer = q; log = refl; image = refl })

  pub made_leaves : c ≡ 0 → (r : Answer) (log' image' : List ℕ) → Leaves (rest_run p s f from log image) r log' image'
      → Leaves (rest_made p c s f from log image) r log' image'
  made_leaves z r log' image' d = rw (eq-eqb c 0 z) d
