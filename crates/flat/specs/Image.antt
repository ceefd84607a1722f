-- The bytes of an entry and of a state: the scope, "Log and image". Assumes nothing.
use Rattle.std.specs.Prelude.{ℕ, Bool, cond, List, [], ◌∷◌, ◌++◌, take}
use mir.Val.{bool_byte}
use Rattle.rows.specs.Bytes.{big}
use Rattle.rows.specs.Walk.{pieces, at_most}
use Rattle.rows.specs.Mask.{mask}
use Rattle.schedule.specs.Limits as limit
use Rattle.flat.specs.declared.state.Client.{Client}
use Rattle.flat.specs.declared.state.Elem.{Elem}
use Rattle.flat.specs.declared.state.State.{State}
use Rattle.flat.specs.declared.entry.Entry.{Entry}
use Rattle.flat.specs.declared.entry.Entry.TheVariants.{Answer}

-- 09 j rid resp
abbrev pub entry_bytes : Entry → List ℕ
entry_bytes (Answer j rid resp) = 9 ∷ j ∷ (big 4 rid ++ big 4 resp)

-- how many bytes of the image a client and an element take
abbrev pub client_long : ℕ
client_long = 23

abbrev pub elem_long : ℕ
elem_long = 5

-- present, rid, payload; absent as zeros
abbrev pub message_bytes : Bool → ℕ → ℕ → List ℕ
message_bytes there rid load = bool_byte there ∷ (big 4 (cond there rid 0) ++ big 4 (cond there load 0))

-- waiting, rid, request, response
abbrev pub client_bytes : Client → List ℕ
client_bytes c = bool_byte c.waiting ∷ (big 4 c.rid ++ (message_bytes c.asked c.rid c.req ++ message_bytes c.told c.rid c.resp))

abbrev pub elem_bytes : Elem → List ℕ
elem_bytes e = bool_byte e.present ∷ big 4 e.rid

-- the slots as one mask, client 0 lowest; then mode (0 collecting), idx, gathered length
abbrev pub slot_of : Client → Bool
slot_of c = c.slot

abbrev pub combiner_bytes : State → List ℕ
combiner_bytes s = big 2 (mask slot_of s.clients) ++ (bool_byte s.responding ∷ s.idx ∷ s.len ∷ [])

-- how many of the row are in use; in a made-up state no more than there are
abbrev pub in_use : ℕ → ℕ
in_use n = at_most limit.clients n

abbrev pub image_bytes : State → List ℕ
image_bytes s =
    pieces client_bytes (take (in_use s.count) s.clients)
    ++ (combiner_bytes s ++ pieces elem_bytes (take (in_use s.len) s.elems))
