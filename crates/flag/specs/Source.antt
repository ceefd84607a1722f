-- helping.rs, Flag: its machine is the code of `flip` and `read`. Here is, for each place of the loop in `flip`, the atomic operation that comes next and
-- where control goes when it succeeds and when it fails; whose flips an operation carries out; and so the transitions of a flag and its threads: `flip`
-- is called, a thread in it goes on by one operation, `read` loads the value. Assumes nothing.
use Rattle.std.specs.Prelude.{ℕ, ◌<◌, ◌≡◌, Bool, true, false, cond, eqb}
use Rattle.std.specs.Bool.{beq}

-- ---------- the loop of `flip`

-- before which operation a thread stands; `returned` is outside of `flip`
pub data Control : Type 0 where
  returned : Control
  try_cancel_two_flips : Control
  try_simple_flip : Control
  try_simple_flip_second : Control
  try_handshake : Control
  try_handshake_second : Control
  try_handshake_store : Control

pub data Operation : Type 0 where
  nothing : Operation
  pending_exchange : ℕ → ℕ → Operation
  value_exchange : Bool → Bool → Operation
  pending_store : ℕ → Operation

abbrev pub operation : Control → Operation
operation returned = nothing
operation try_cancel_two_flips = pending_exchange 1 2
operation try_simple_flip = value_exchange true false
operation try_simple_flip_second = value_exchange false true
operation try_handshake = pending_exchange 0 1
operation try_handshake_second = pending_exchange 1 0
operation try_handshake_store = pending_store 0

-- res.is_ok() and res.is_err(): a function that gives its update back goes on to the next, the last one to the loop's start
abbrev pub is_ok : Control → Control
is_ok returned = returned
is_ok try_cancel_two_flips = returned
is_ok try_simple_flip = returned
is_ok try_simple_flip_second = returned
is_ok try_handshake = try_handshake_second
is_ok try_handshake_second = try_cancel_two_flips
is_ok try_handshake_store = returned

abbrev pub is_err : Control → Control
is_err returned = returned
is_err try_cancel_two_flips = try_simple_flip
is_err try_simple_flip = try_simple_flip_second
is_err try_simple_flip_second = try_handshake
is_err try_handshake = try_cancel_two_flips
is_err try_handshake_second = try_handshake_store
is_err try_handshake_store = returned

-- ---------- the two atomics

pub record Memory : Type 0 where
  pub value : Bool
  pub pending : ℕ

-- an exchange succeeds if it finds the first value, and then stores the second; a store always does
abbrev pub succeeds : Operation → Memory → Bool
succeeds nothing m = true
succeeds (pending_exchange a b) m = eqb m.pending a
succeeds (value_exchange a b) m = beq m.value a
succeeds (pending_store b) m = true

abbrev pub stores : Operation → Memory → Memory
stores nothing m = m
stores (pending_exchange a b) m = record { value = m.value; pending = b }
stores (value_exchange a b) m = record { value = b; pending = m.pending }
stores (pending_store b) m = record { value = m.value; pending = b }

abbrev pub memory_after : Control → Memory → Memory
memory_after c m = cond (succeeds (operation c) m) (stores (operation c) m) m

abbrev pub control_after : Control → Memory → Control
control_after c m = cond (succeeds (operation c) m) (is_ok c) (is_err c)

-- ---------- whose update an operation resolves: try_cancel_two_flips that of the offer and its own, try_simple_flip its own

pub data Resolves : Type 0 where
  none_resolved own_resolved both_resolved : Resolves

abbrev pub resolves : Control → Memory → Resolves
resolves returned m = none_resolved
resolves try_cancel_two_flips m = cond (succeeds (operation try_cancel_two_flips) m) both_resolved none_resolved
resolves try_simple_flip m = cond (succeeds (operation try_simple_flip) m) own_resolved none_resolved
resolves try_simple_flip_second m = cond (succeeds (operation try_simple_flip_second) m) own_resolved none_resolved
resolves try_handshake m = none_resolved
resolves try_handshake_second m = none_resolved
resolves try_handshake_store m = none_resolved

-- ---------- a flag and its threads

-- the two atomics, how many threads use them, and before which operation each thread stands
pub record Flag : Type 0 where
  pub memory : Memory
  pub threads : ℕ
  pub controls : ℕ → Control

-- new(init), with nobody in `flip`
abbrev pub new : ℕ → Bool → Flag
new threads init = record { memory = record { value = init; pending = 0 }; threads = threads; controls = λ k. returned }

-- thread k stands before another operation, and the atomics hold m
abbrev pub with_thread : Flag → ℕ → Control → Memory → Flag
with_thread pre k c m = record { memory = m; threads = pre.threads; controls = λ j. cond (eqb j k) c (pre.controls j) }

-- ---------- the transitions, each of a thread that the flag has: who is none of its threads never moves

-- `flip` is called
pub record Begin (pre : Flag) (k : ℕ) (post : Flag) : Type 0 where
  pub thread : k < pre.threads
  pub outside : pre.controls k ≡ returned
  pub update : post ≡ with_thread pre k try_cancel_two_flips pre.memory

-- a thread in `flip` goes on by one operation
pub record Move (pre : Flag) (k : ℕ) (post : Flag) : Type 0 where
  pub thread : k < pre.threads
  pub inside : pre.controls k ≡ returned → ⊥
  pub update : post ≡ with_thread pre k (control_after (pre.controls k) pre.memory) (memory_after (pre.controls k) pre.memory)

-- `read` is called
pub record Read (pre : Flag) (k : ℕ) (post : Flag) : Type 0 where
  pub thread : k < pre.threads
  pub outside : pre.controls k ≡ returned
  pub update : post ≡ pre

pub data Transition : Type 0 where
  begin : ℕ → Transition
  move : ℕ → Transition
  read : ℕ → Transition

abbrev pub Moves : Flag → Transition → Flag → Type 0
Moves pre (begin k) post = Begin pre k post
Moves pre (move k) post = Move pre k post
Moves pre (read k) post = Read pre k post

-- an exchange looks before it writes, and takes nothing for granted; the store does not look, and the source owes that it takes note of an offer that was
-- accepted
abbrev pub Safe : Flag → Transition → Type 0
Safe pre (begin k) = Unit {0}
Safe pre (move k) = pre.controls k ≡ try_handshake_store → pre.memory.pending ≡ 2
Safe pre (read k) = Unit {0}
