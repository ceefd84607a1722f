-- A sound state in a reader's words: the combiner collects or responds, and each client is in one of four stages, which is an equation for its whole
-- record. The test of a state says this (proofs/Tests.antt), the source's invariants say it (proofs/Sounds.antt), and steps keep it (proofs/Kept.antt).
-- Assumes nothing.
use Prim.Native.Nat.{ℕ, ◌≤◌, ◌<◌}
use mathlib.Core.Path.{◌≡◌, refl}
use mathlib.Core.Bool.{Bool, true, false}
use native.Mathlib.Omega.{arith}
use lib.Dec.{ltb}
use mathlib.Core.List.{List}
use lib.ListN.{length, get_or}
use borrow.Author.Tests.{ltb-true, ltb-false}
use Rattle.rows.proofs.Cases.{on, clash}
use Rattle.schedule.specs.Limits as limit
use Rattle.flat.specs.Flat.{zero_client, zero_elem, client, elem}
use Rattle.flat.specs.declared.state.Client.{Client}
use Rattle.flat.specs.declared.state.Elem.{Elem}
use Rattle.flat.specs.declared.state.State.{State}

-- ---------- the stages

-- a client's record while its request is stored, while the combiner has its id, while its response is stored. At rest it is all zeros
abbrev pub asking : ℕ → ℕ → Client
asking rid req = record { rid = rid; req = req; resp = 0; waiting = true; asked = true; told = false; slot = true }

abbrev pub held : ℕ → Client
held rid = record { rid = rid; req = 0; resp = 0; waiting = true; asked = false; told = false; slot = true }

abbrev pub answered : ℕ → ℕ → Client
answered rid resp = record { rid = rid; req = 0; resp = resp; waiting = true; asked = false; told = true; slot = false }

abbrev pub holding : ℕ → Elem
holding rid = record { rid = rid; present = true }

-- the combiner has nothing of the client at j, whose element is e; it has its id. A window that is given as a bound leaves the windows to arithmetic
abbrev pub FreeAt : ℕ → ℕ → ℕ → Elem → Type 0
FreeAt j len idx e = idx ≤ j → j < len → e.present ≡ false

abbrev pub HasAt : ℕ → ℕ → ℕ → Elem → ℕ → Type 0
HasAt j len idx e rid = (idx ≤ j) × (j < len) × (e ≡ holding rid)

-- a client, what holds while the combiner has nothing of it, and what holds while it has this id
pub data Stand (c : Client) (F : Type 0) (G : ℕ → Type 0) : Type 0 where
  rests : c ≡ zero_client → F → Stand c F G
  asks : (rid req : ℕ) → c ≡ asking rid req → F → Stand c F G
  is_held : (rid : ℕ) → c ≡ held rid → G rid → Stand c F G
  is_told : (rid resp : ℕ) → c ≡ answered rid resp → F → Stand c F G

-- the combiner: whether it responds, its cursor, what it gathered, the clients there are, and whose turn the history says it is
pub data Mode (responding : Bool) (idx len count turn : ℕ) : Type 0 where
  collects : responding ≡ false → idx ≡ 0 → len ≤ count → Mode responding idx len count turn
  responds : responding ≡ true → len ≡ count → idx ≤ count → turn ≡ idx → Mode responding idx len count turn

-- ---------- the whole state

abbrev pub Free : State → ℕ → Type 0
Free s j = FreeAt j s.len s.idx (elem s j)

abbrev pub Has : State → ℕ → ℕ → Type 0
Has s j rid = HasAt j s.len s.idx (elem s j) rid

-- the rows are whole, and unused entries zero: of the clients those that are not there, of the elements those not gathered and the ids of empty ones
pub record ClientRow (count : ℕ) (cs : List Client) : Type 0 where
  pub whole : length cs ≡ limit.clients
  pub unused : (j : ℕ) → count ≤ j → get_or cs j zero_client ≡ zero_client

pub record ElemRow (len : ℕ) (es : List Elem) : Type 0 where
  pub whole : length es ≡ limit.clients
  pub unused : (j : ℕ) → len ≤ j → get_or es j zero_elem ≡ zero_elem
  pub no_id : (j : ℕ) → (get_or es j zero_elem).present ≡ false → (get_or es j zero_elem).rid ≡ 0

pub record Rows (s : State) : Type 0 where
  pub few : s.count ≤ limit.clients
  pub clients : ClientRow s.count s.clients
  pub elems : ElemRow s.len s.elems

pub record Stages (s : State) : Type 0 where
  pub rows : Rows s
  pub mode : Mode s.responding s.idx s.len s.count s.idx
  pub stand : (j : ℕ) → Stand (client s j) (Free s j) (Has s j)

-- ---------- what a mode says, and the whole

module _ {m : Bool} {i l n c : ℕ} where
  pub collecting : Mode m i l n c → m ≡ false → (i ≡ 0) × (l ≤ n)
  collecting (collects e z b) t = (z, b)
  collecting (responds e l b t') t = clash (cc)

  pub responding : Mode m i l n c → m ≡ true → (l ≡ n) × (i ≤ n) × (c ≡ i)
  responding (collects e z b) t = clash (cc)
  responding (responds e l b t') t = (l, b, t')

  -- in both modes no more was gathered than there are clients
  pub gathered_few : Mode m i l n c → l ≤ n
  gathered_few (collects e z b) = b
  gathered_few (responds e l b t) = omega arith

  -- the cursor says whose turn it is
  pub own_turn : Mode m i l n c → Mode m i l n i
  own_turn (collects e z b) = collects e z b
  own_turn (responds e l b t) = responds e l b refl

module _ (s : State) where
  -- what was gathered lies in its row
  pub gathered_room : Stages s → s.len ≤ length s.elems
  gathered_room i = omega (arith, gathered_few i.mode, i.rows.few, i.rows.elems.whole)

  -- who waits is a client that is there
  pub waits_inside : ((j : ℕ) → s.count ≤ j → client s j ≡ zero_client) → (j : ℕ) → (client s j).waiting ≡ true → j < s.count
  waits_inside u j w = on (ltb j s.count)
      (λ b. ltb-true j s.count b)
      (λ b. clash (cc (u j (ltb-false j s.count b))))

-- ---------- two records are equal by their fields

pub same_elem : {e : Elem} {r : ℕ} {p : Bool} → e.rid ≡ r → e.present ≡ p → e ≡ record { rid = r; present = p }
same_elem a b = λ i. record { rid = a i; present = b i }

pub same_client : {c d : Client} → c.rid ≡ d.rid → c.req ≡ d.req → c.resp ≡ d.resp → c.waiting ≡ d.waiting → c.asked ≡ d.asked → c.told ≡ d.told
    → c.slot ≡ d.slot → c ≡ d
same_client a b e w k t s = λ i. record { rid = a i; req = b i; resp = e i; waiting = w i; asked = k i; told = t i; slot = s i }
