-- The four machines' states as bytes, field by field, and back. Assumes nothing.
use Rattle.std.specs.Prelude.{ℕ, zero, suc, ◌+◌, ◌*◌, Bool, not, List, [], ◌∷◌, ◌++◌, eqb}
use mir.Val.{bool_byte}
use Rattle.rows.specs.Bytes.{number_at, big}
use Rattle.rows.specs.Walk.{pieces}
use Rattle.schedule.specs.Limits as limit
use Rattle.counting.specs.declared.state.State as counting
use Rattle.lock.specs.Image.{cell_bytes}
use Rattle.lock.specs.declared.state.Cell.{Cell}
use Rattle.lock.specs.declared.state.Head.{Head}
use Rattle.lock.specs.declared.state.State as lock
use Rattle.flag.specs.declared.state.State as flag
use Rattle.flat.specs.declared.state.Client.{Client}
use Rattle.flat.specs.declared.state.Elem.{Elem}
use Rattle.flat.specs.declared.state.State as flat

-- a byte at a place, and a flag: any byte but 0 sets it
abbrev pub byte_at : List ℕ → ℕ → ℕ
byte_at raw at = number_at raw at 1

abbrev pub set_at : List ℕ → ℕ → Bool
set_at raw at = not (eqb (byte_at raw at) 0)

-- four flags, one behind the other
abbrev pub flags_bytes : Bool → Bool → Bool → Bool → List ℕ
flags_bytes a b c d = bool_byte a ∷ bool_byte b ∷ bool_byte c ∷ bool_byte d ∷ []

-- n entries, the first of them number i
abbrev pub row_from : {A : Type 0} → (ℕ → A) → ℕ → ℕ → List A
row_from entry i zero = []
row_from entry i (suc n) = entry i ∷ row_from entry (i + 1) n

-- ---------- counting

abbrev pub counting_long : ℕ
counting_long = 7

abbrev pub counting_from : List ℕ → counting.State
counting_from raw = record { t = number_at raw 0 4; count = byte_at raw 4; refs = byte_at raw 5; present = set_at raw 6 }

abbrev pub counting_bytes : counting.State → List ℕ
counting_bytes s = big 4 s.t ++ (s.count ∷ s.refs ∷ bool_byte s.present ∷ [])

-- ---------- lock

abbrev pub lock_long : ℕ
lock_long = 10 + 3 * limit.width

abbrev pub cell_at : List ℕ → ℕ → Cell
cell_at raw at = record { count = byte_at raw at; pending = byte_at raw (at + 1); guards = byte_at raw (at + 2) }

abbrev pub cells_from : List ℕ → List Cell
cells_from raw = row_from (λ i. cell_at raw (10 + 3 * i)) 0 limit.width

abbrev pub head_from : List ℕ → Head
head_from raw =
    record {
      t = number_at raw 0 4;
      width = byte_at raw 4;
      cursor = byte_at raw 5;
      locked = set_at raw 6;
      stored = set_at raw 7;
      pending = set_at raw 8;
      guard = set_at raw 9;
    }

abbrev pub lock_from : List ℕ → lock.State
lock_from raw = record { head = head_from raw; cells = cells_from raw }

abbrev pub head_bytes : Head → List ℕ
head_bytes h = big 4 h.t ++ (h.width ∷ h.cursor ∷ flags_bytes h.locked h.stored h.pending h.guard)

abbrev pub lock_bytes : lock.State → List ℕ
lock_bytes s = head_bytes s.head ++ pieces cell_bytes s.cells

-- ---------- flag

abbrev pub flag_long : ℕ
flag_long = 3 + limit.threads

abbrev pub flag_places : List ℕ → List ℕ
flag_places raw = row_from (λ i. byte_at raw (3 + i)) 0 limit.threads

abbrev pub flag_from : List ℕ → flag.State
flag_from raw = record { threads = byte_at raw 0; pending = byte_at raw 1; value = set_at raw 2; places = flag_places raw }

abbrev pub flag_bytes : flag.State → List ℕ
flag_bytes s = s.threads ∷ s.pending ∷ bool_byte s.value ∷ s.places

-- ---------- flat

-- how many bytes a client, an element, and what the combiner has besides take
abbrev pub client_long : ℕ
client_long = 16

abbrev pub elem_long : ℕ
elem_long = 5

abbrev pub combiner_long : ℕ
combiner_long = 4

-- the elements stand behind the clients, and the combiner behind both
abbrev pub elems_at : ℕ
elems_at = client_long * limit.clients

abbrev pub combiner_at : ℕ
combiner_at = elems_at + elem_long * limit.clients

abbrev pub flat_long : ℕ
flat_long = combiner_at + combiner_long

abbrev pub client_at : List ℕ → ℕ → Client
client_at raw at =
    record {
      rid = number_at raw at 4;
      req = number_at raw (at + 4) 4;
      resp = number_at raw (at + 8) 4;
      waiting = set_at raw (at + 12);
      asked = set_at raw (at + 13);
      told = set_at raw (at + 14);
      slot = set_at raw (at + 15);
    }

abbrev pub clients_from : List ℕ → List Client
clients_from raw = row_from (λ i. client_at raw (client_long * i)) 0 limit.clients

abbrev pub elem_at : List ℕ → ℕ → Elem
elem_at raw at = record { rid = number_at raw at 4; present = set_at raw (at + 4) }

abbrev pub elems_from : List ℕ → List Elem
elems_from raw = row_from (λ i. elem_at raw (elems_at + elem_long * i)) 0 limit.clients

abbrev pub flat_from : List ℕ → flat.State
flat_from raw =
    let at = combiner_at in
    record {
      clients = clients_from raw;
      elems = elems_from raw;
      count = byte_at raw at;
      len = byte_at raw (at + 1);
      idx = byte_at raw (at + 2);
      responding = set_at raw (at + 3);
    }

abbrev pub client_bytes : Client → List ℕ
client_bytes c = big 4 c.rid ++ (big 4 c.req ++ (big 4 c.resp ++ flags_bytes c.waiting c.asked c.told c.slot))

abbrev pub elem_bytes : Elem → List ℕ
elem_bytes e = big 4 e.rid ++ (bool_byte e.present ∷ [])

abbrev pub combiner_bytes : flat.State → List ℕ
combiner_bytes s = s.count ∷ s.len ∷ s.idx ∷ bool_byte s.responding ∷ []

abbrev pub flat_bytes : flat.State → List ℕ
flat_bytes s = pieces client_bytes s.clients ++ (pieces elem_bytes s.elems ++ combiner_bytes s)
