-- A client and the whole image, laid down piece by piece. Assumes nothing.
use mathlib.Core.Path.{◌≡◌, refl, ◌∙◌}
use mathlib.Core.List.{List, ◌∷◌, ◌++◌}
use Prim.Native.Nat.{ℕ, ◌+◌, ◌-◌, ◌*◌, ◌≤◌, ◌<◌}
use native.Mathlib.Nat.{mul-le-mul_right}
use native.Mathlib.Omega.{arith}
use mir.Val.{bool_byte}
use lib.ListN.{length, take, length-append, length-take}
use Rattle.rows.specs.Bytes.{big}
use Rattle.rows.specs.Stores.{Laid}
use Rattle.rows.specs.Walk.{pieces}
use Rattle.rows.proofs.Laying.{pieces_long}
use Rattle.rows.proofs.Walks.{at_most_lem, pieces_even}
use Rattle.rows.proofs.Stores.{none_laid, laid_whole, laid_then, laid_length}
use Rattle.schedule.specs.Limits as limit
use Rattle.schedule.specs.declared.steps.FlatStep.{FlatStep}
use Rattle.schedule.specs.declared.steps.FlatStep.TheVariants.{ClientSend, ClientRecv, CombinerRecv, CombinerSkip, CombinerGoToResponding}
use Rattle.schedule.specs.declared.steps.FlatStep.TheVariants.{CombinerSend, CombinerSendSkip, CombinerGoToCollecting}
use Rattle.flat.specs.Flat.{zero_client, zero_elem, logs}
use Rattle.flat.specs.Image.{entry_bytes, message_bytes, client_bytes, elem_bytes, combiner_bytes, in_use, image_bytes}
use Rattle.flat.specs.declared.state.Client.{Client}
use Rattle.flat.specs.declared.state.State.{State}

-- ---------- an entry

-- a step logs one entry at most
pub logs_short : (s : State) (x : FlatStep) → length (pieces entry_bytes (logs s x)) ≤ limit.entry
logs_short s (ClientSend j rid req) = omega arith
logs_short s (ClientRecv j) = omega arith
logs_short s CombinerRecv = omega arith
logs_short s CombinerSkip = omega arith
logs_short s CombinerGoToResponding = omega arith
logs_short s (CombinerSend rid resp) = omega arith
logs_short s CombinerSendSkip = omega arith
logs_short s CombinerGoToCollecting = omega arith

-- ---------- a client

-- its flag and id, the request behind them, and the response behind that
pub client_laid : (l : List ℕ) (at : ℕ) (v : Client) → length (client_bytes v) ≤ length l → at ≤ length l - length (client_bytes v)
    → (a b r : ℕ) (k m l' : List ℕ) → Laid l at (bool_byte v.waiting ∷ big 4 v.rid) a k → Laid k a (message_bytes v.asked v.rid v.req) b m
    → Laid m b (message_bytes v.told v.rid v.resp) r l' → Laid l at (client_bytes v) r l'
client_laid l at v h p a b r k m l' head asked told =
    let front = bool_byte v.waiting ∷ big 4 v.rid in
    let request = message_bytes v.asked v.rid v.req in
    let two = laid_then l at front request a k b m (omega arith) head asked in
    laid_then l at (front ++ request) (message_bytes v.told v.rid v.resp) b m r l' (omega arith) two told

-- ---------- the image

abbrev client_size : ℕ
client_size = length (client_bytes zero_client)

abbrev elem_size : ℕ
elem_size = length (elem_bytes zero_elem)

module _ (s : State) (l : List ℕ) (n g : ℕ) (used : n ≡ in_use s.count) (few : n ≤ limit.clients) (kept : g ≡ in_use s.len) (less : g ≤ limit.clients)
    (long : length s.clients ≡ limit.clients) (wide : length s.elems ≡ limit.clients) where
  abbrev clients_bytes : List ℕ
  clients_bytes = pieces client_bytes (take n s.clients)

  abbrev elems_bytes : List ℕ
  elems_bytes = pieces elem_bytes (take g s.elems)

  clients_length : length clients_bytes ≡ client_size * n
  clients_length = pieces_long client_bytes zero_client s.clients n (omega arith) (λ c. refl)

  elems_length : length elems_bytes ≡ elem_size * g
  elems_length = pieces_long elem_bytes zero_elem s.elems g (omega arith) (λ e. refl)

  whole : clients_bytes ++ (combiner_bytes s ++ elems_bytes) ≡ image_bytes s
  whole = rw (used, kept)

  whole_length : length (clients_bytes ++ (combiner_bytes s ++ elems_bytes)) ≡ client_size * n + length (combiner_bytes s) + elem_size * g
  whole_length =
      length-append clients_bytes (combiner_bytes s ++ elems_bytes)
      ∙ omega (arith, clients_length, elems_length, length-append (combiner_bytes s) elems_bytes)

  pub image_short : length l < client_size * n + length (combiner_bytes s) + elem_size * g → Laid l 0 (image_bytes s) 0 l
  image_short h = rw (← whole) (none_laid l 0 (clients_bytes ++ (combiner_bytes s ++ elems_bytes)) (omega (arith, whole_length)))

  -- the clients, the combiner behind them, and the elements behind it
  pub image_laid : client_size * n + length (combiner_bytes s) + elem_size * g ≤ length l → (a b r : ℕ) (k m l' : List ℕ)
      → Laid l 0 clients_bytes a k → Laid k a (combiner_bytes s) b m → Laid m b elems_bytes r l' → Laid l 0 (image_bytes s) r l'
  image_laid fits a b r k m l' clients combiner elems =
      let size = whole_length in
      let went = laid_whole l 0 clients_bytes a k (omega (arith, clients_length)) clients in
      let inner : a + length (combiner_bytes s ++ elems_bytes) ≤ length k =
      omega (arith, clients_length, elems_length, length-append (combiner_bytes s) elems_bytes, laid_length l 0 clients_bytes a k clients) in
      let rest = laid_then k a (combiner_bytes s) elems_bytes b m r l' inner combiner elems in
      rw (← whole) (laid_then l 0 clients_bytes (combiner_bytes s ++ elems_bytes) a k r l' (omega arith) clients rest)

-- ---------- the image of any state fits

-- of a row, no more are in use than there are
used_small : (n : ℕ) → in_use n ≤ limit.clients
used_small n = at_most_lem limit.clients n

-- the entries of a row that are in use, each of k bytes
row_small : {A : Type 0} (f : A → List ℕ) (k : ℕ) → ((x : A) → length (f x) ≡ k) → (n : ℕ) (xs : List A)
    → length (pieces f (take (in_use n) xs)) ≤ limit.clients * k
row_small f k even n xs =
    let few : length (take (in_use n) xs) ≤ limit.clients = simp length-take (omega (arith, used_small n)) in
    rw (pieces_even f k even (take (in_use n) xs)) (mul-le-mul_right k few)

pub image_small : (s : State) → length (image_bytes s) ≤ limit.image
image_small s =
    let clients = pieces client_bytes (take (in_use s.count) s.clients) in
    let elems = pieces elem_bytes (take (in_use s.len) s.elems) in
    omega (
      arith,
      row_small client_bytes _ (λ c. refl) s.count s.clients,
      row_small elem_bytes _ (λ e. refl) s.len s.elems,
      length-append clients (combiner_bytes s ++ elems),
      length-append (combiner_bytes s) elems,
    )
