-- The loop that packs the slots into a mask from the last client down: its invariant, a turn, its end. Assumes nothing.
use mathlib.Core.Path.{◌≡◌, ◌∙◌, ap}
use mathlib.Core.List.{List, [], ◌∷◌, ◌++◌, append_assoc, append-nil}
use Prim.Native.Nat.{ℕ, ◌*◌, ◌^◌, ◌%◌, ◌+◌, ◌≤◌}
use native.Mathlib.Omega.{arith}
use lib.Bits.{bit_or}
use lib.ListN.{length, length-append}
use mir.Val.{bool_byte}
use Rattle.rows.specs.Mask.{mask}
use Rattle.rows.proofs.Masks.{mask_shl}
use Rattle.schedule.specs.Limits as limit
use Rattle.flat.specs.Image.{slot_of}
use Rattle.flat.specs.declared.state.Client.{Client}

module _ (cs : List Client) where
  -- the clients are those left and those done, and m holds the slots of those done
  pub record Packing (left : List Client) (m : ℕ) : Type 0 where
    pub done : List Client
    pub whole : left ++ done ≡ cs
    pub long : length cs ≡ limit.clients
    pub packed : m ≡ mask slot_of done

  pub packing_begins : (left : List Client) → left ≡ cs → length cs ≡ limit.clients → Packing left 0
  packing_begins left e l = record { done = []; whole = append-nil left ∙ e; long = l; packed = cc }

  -- the mask has a bit for each client
  pub packing_more : (left rest : List Client) (c : Client) (m b : ℕ) → Packing left m → left ≡ rest ++ c ∷ [] → b ≡ bool_byte c.slot
      → Packing rest (bit_or ((m * 2 ^ 1) % 2 ^ limit.clients) b)
  packing_more left rest c m b g e q =
      let split : rest ++ (c ∷ g.done) ≡ left ++ g.done = rw (e, append_assoc) in
      let room : length g.done + 1 ≤ limit.clients = omega (arith, g.long, ap length g.whole, ap length e, length-append rest (c ∷ []), length-append left g.done) in
      record { done = c ∷ g.done; whole = split ∙ g.whole; long = g.long; packed = rw (q, g.packed) (mask_shl slot_of limit.clients g.done c room) }

  pub packing_ends : (left : List Client) (m : ℕ) → Packing left m → length left ≡ 0 → m ≡ mask slot_of cs
  packing_ends [] m g z = rw (← g.whole) g.packed
  packing_ends (c ∷ left) m g z = absurd (omega arith)
